-- How many forms there are in a forest, those in lists too.
use Rattle.std.proofs.Common.{◌≡◌, ℕ, suc, zero, ◌+◌, ◌≤◌, List, [], ◌∷◌, drop, ap, arith}
use Rattle.sexpr_text.specs.declared.forms.Form.{Form}
use Rattle.sexpr_text.specs.Forest.{Forest, nothing, word, group, join, form_then, forest_of}
use Rattle.sexpr_text.proofs.Forests.{form_then-join}

abbrev pub size_of : Forest → ℕ
size_of nothing = 0
size_of (word span text rest) = 1 + size_of rest
size_of (group span parts rest) = 1 + size_of parts + size_of rest

size_of-join : (a b : Forest) → size_of b ≤ size_of (join a b)
size_of-join nothing b = omega arith
size_of-join (word span text rest) b = let h = size_of-join rest b in omega arith
size_of-join (group span parts rest) b = let h = size_of-join rest b in omega arith

-- what is left of the forms is no more than all of them
pub size_of-drop : (k : ℕ) (fs : List Form) → size_of (forest_of (drop k fs)) ≤ size_of (forest_of fs)
size_of-drop zero fs = omega arith
size_of-drop (suc k) [] = omega arith
size_of-drop (suc k) (f ∷ fs) =
    let h = size_of-drop k fs in
    let j = size_of-join (form_then f nothing) (forest_of fs) in
    let e : size_of (form_then f (forest_of fs)) ≡ size_of (join (form_then f nothing) (forest_of fs)) = ap size_of (form_then-join f (forest_of fs)) in
    omega arith

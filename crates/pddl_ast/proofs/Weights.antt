-- How many forms there are in a row and in the groups of it, at any depth: what a reader of forms
-- has still before it.
use Rattle.std.proofs.Common.{◌≡◌, ℕ, zero, suc, ◌+◌, ◌<◌, ◌≤◌, List, [], ◌∷◌, length, get_or, ap, sym, ◌∙◌, arith}
use Rattle.sexpr_text.specs.declared.forms.Span.{Span}
use Rattle.sexpr_text.specs.declared.forms.Form.{Form}
use Rattle.sexpr_text.specs.declared.forms.Form.TheOpen.{Form-F, Word, Group}
use Rattle.sexpr_text.specs.declared.forms.Form.TheViews.{out-Form}
use Rattle.sexpr_text.specs.declared.forms.Form.TheFolds.{map-Form, fold_out-Form}
use Rattle.sexpr_text.specs.Forest.{Forest, nothing, word, group, form_step, form_then, forest_of}

abbrev pub weight : Forest → ℕ
weight nothing = 0
weight (word span w rest) = 1 + weight rest
weight (group span parts rest) = 1 + weight parts + weight rest

layer-weight : (x : Form-F (Forest → Forest)) (rest : Forest) → weight rest ≤ weight (form_step x rest)
layer-weight (Word span text) rest = omega arith
layer-weight (Group span parts) rest = omega arith

-- what follows a form weighs no more
weight-then : (f : Form) (rest : Forest) → weight rest ≤ weight (form_then f rest)
weight-then f rest =
    let e : weight (form_then f rest) ≡ weight (form_step (map-Form Form (Forest → Forest) form_then (out-Form f)) rest) = ap (λ g. weight (g rest)) (fold_out-Form (Forest → Forest) form_step f) in
    let h : weight rest ≤ weight (form_step (map-Form Form (Forest → Forest) form_then (out-Form f)) rest) = layer-weight (map-Form Form (Forest → Forest) form_then (out-Form f)) rest in
    omega arith

-- the parts of a group of a row weigh less than the row
pub weight_item : (fs : List Form) (i : ℕ) (f : Form) (span : Span) (parts : Forest) → i < length fs → f ≡ get_or fs i f
    → ((rest : Forest) → form_then f rest ≡ group span parts rest) → weight parts < weight (forest_of fs)
weight_item [] i f span parts h at view = absurd (omega arith)
weight_item (g ∷ fs) zero f span parts h at view =
    let e : weight (form_then g (forest_of fs)) ≡ 1 + weight parts + weight (forest_of fs) = ap (λ x. weight (form_then x (forest_of fs))) (sym at) ∙ ap weight (view (forest_of fs)) in
    omega arith
weight_item (g ∷ fs) (suc i) f span parts h at view =
    let k : weight parts < weight (forest_of fs) = weight_item fs i f span parts (omega arith) at view in
    let m : weight (forest_of fs) ≤ weight (form_then g (forest_of fs)) = weight-then g (forest_of fs) in
    omega arith

-- Different names, one after another in a table.
use Rattle.std.proofs.Common.{◌≡◌, ℕ, zero, suc, ◌+◌, ◌<◌, Bool, true, false, ◌||◌, List, [], ◌∷◌, ◌++◌, map, length, take, get_or, refl, ap, sym, ◌∙◌, arith, if◌then◌else◌}
use Rattle.std.specs.List.{list_any}
use Rattle.std.specs.Str.{bytes_eq}
use Rattle.std.proofs.lemmas.List.{take_more}
use Rattle.std.proofs.lemmas.Slice.Eq.{bytes_eq-Decides}
use Rattle.pddl_ast.specs.Fits.{AreDistinct}

pub or-first : (a b : Bool) → (a || b) ≡ false → a ≡ false
or-first true b h = h
or-first false b h = refl

or-second : (a b : Bool) → (a || b) ≡ false → b ≡ false
or-second true b h = cc
or-second false b h = h

pub or-both : (a b : Bool) → a ≡ false → b ≡ false → (a || b) ≡ false
or-both true b h g = h
or-both false b h g = g

pub other_way : (a b : List ℕ) → bytes_eq a b ≡ false → bytes_eq b a ≡ false
other_way a b h = go (bytes_eq b a) refl
  where
    go : (t : Bool) → bytes_eq b a ≡ t → t ≡ false
    go false e = refl
    go true e =
        let same : bytes_eq a b ≡ true = (bytes_eq-Decides a b).1 (sym ((bytes_eq-Decides b a).0 e)) in
        cc

none_at : (name : List ℕ) (names : List (List ℕ)) (j : ℕ) → list_any (bytes_eq name) names ≡ false → j < length names → bytes_eq name (get_or names j []) ≡ false
none_at name [] j h k = absurd (omega arith)
none_at name (n ∷ names) zero h k = or-first (bytes_eq name n) (list_any (bytes_eq name) names) h
none_at name (n ∷ names) (suc j) h k = none_at name names j (or-second (bytes_eq name n) (list_any (bytes_eq name) names) h) (omega arith)

-- a name of different names is none of those before it
pub none_before : (names : List (List ℕ)) (i : ℕ) → i < length names → AreDistinct names → list_any (bytes_eq (get_or names i [])) (take i names) ≡ false
none_before [] i h d = absurd (omega arith)
none_before (n ∷ names) zero h d = refl
none_before (n ∷ names) (suc i) h d =
    or-both (bytes_eq (get_or names i []) n) (list_any (bytes_eq (get_or names i [])) (take i names))
    (other_way n (get_or names i []) (none_at n names i d.0 (omega arith)))
    (none_before names i (omega arith) d.1)

-- one name more in the table
pub table_step : (names table new : List (List ℕ)) (i : ℕ) (name : List ℕ) → i < length names → AreDistinct names → name ≡ get_or names i []
    → table ≡ take i names → new ≡ (if list_any (bytes_eq name) table then table else table ++ name ∷ []) → new ≡ take (i + 1) names
table_step names table new i name h d at same grows =
    grows
    ∙ (ap (λ t. if list_any (bytes_eq name) t then t else t ++ name ∷ []) same
    ∙ (ap (λ w. if list_any (bytes_eq w) (take i names) then take i names else take i names ++ w ∷ []) at
    ∙ (ap (λ b. if b then take i names else take i names ++ get_or names i [] ∷ []) (none_before names i h d)
    ∙ sym (take_more names i [] h))))

-- a name of a list of things with names
pub name_at : {X : Type 0} (f : X → List ℕ) (xs : List X) (i : ℕ) (x : X) → i < length xs → x ≡ get_or xs i x → f x ≡ get_or (map f xs) i []
name_at f [] i x h at = absurd (omega arith)
name_at f (y ∷ xs) zero x h at = ap f at
name_at f (y ∷ xs) (suc i) x h at = name_at f xs i x (omega arith) at

-- the same, whatever stands in for a name past the end
pub here : (xs : List (List ℕ)) (i : ℕ) (x : List ℕ) → i < length xs → x ≡ get_or xs i x → x ≡ get_or xs i []
here [] i x h at = absurd (omega arith)
here (y ∷ xs) zero x h at = at
here (y ∷ xs) (suc i) x h at = here xs i x (omega arith) at

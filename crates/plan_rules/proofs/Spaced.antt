-- Parts with a space between them, one part more.
use Rattle.std.proofs.Common.{◌≡◌, ℕ, zero, suc, ◌+◌, ◌<◌, List, [], ◌∷◌, ◌++◌, map, length, get_or, take, refl, ap, sym, ◌∙◌, append_assoc, arith}
use Rattle.std.proofs.lemmas.List.{take_more, map-append}
use Rattle.plan_rules.specs.Texts.{spaced, gap}

spaced_push : (xs : List (List ℕ)) (y : List ℕ) → 0 < length xs → spaced (xs ++ y ∷ []) ≡ (spaced xs ++ 32 ∷ []) ++ y
spaced_push [] y l = absurd (omega arith)
spaced_push (x ∷ []) y l = sym (append_assoc x (32 ∷ []) y)
spaced_push (x ∷ z ∷ xs) y l = ap (λ v. x ++ (32 ∷ v)) (spaced_push (z ∷ xs) y (omega arith)) ∙ grind (arith, append_assoc)

-- one part more, with the gap before it
pub spaced_more : {X : Type 0} (f : X → List ℕ) (xs : List X) (i : ℕ) (d : X) → i < length xs → spaced (map f (take (i + 1) xs)) ≡ (spaced (map f (take i xs)) ++ gap i) ++ f (get_or xs i d)
spaced_more f [] i d l = absurd (omega arith)
spaced_more f (x ∷ xs) zero d l = refl
spaced_more f (x ∷ xs) (suc i) d l =
    ap (λ ys. spaced (map f ys)) (take_more (x ∷ xs) (suc i) d l)
    ∙ ap spaced (map-append f (take (suc i) (x ∷ xs)) (get_or (x ∷ xs) (suc i) d ∷ []))
    ∙ spaced_push (map f (x ∷ take i xs)) (f (get_or (x ∷ xs) (suc i) d)) (omega arith)

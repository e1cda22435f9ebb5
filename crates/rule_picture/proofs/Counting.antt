-- The first rule that is for a configuration, one rule further.
use Rattle.std.proofs.Common.{◌≡◌, ℕ, zero, suc, ◌+◌, ◌<◌, List, [], ◌∷◌, map, length, get_or, drop, refl, ap, ◌∙◌, Some, None, slice_get, if◌then◌else◌, arith}
use Rattle.task_core.specs.ContextPlans.{Configuration}
use Rattle.rule_picture.specs.Rules.{SeenRule, first_for, is_for}

first_from : {X : Type 0} (f : X → SeenRule) (x : Configuration) (k : ℕ) (rules : List X) (i : ℕ) (d : X) → i < length rules
    → first_for x k (map f (drop i rules)) ≡ (if is_for x (f (get_or rules i d)) then Some k else first_for x (suc k) (map f (drop (suc i) rules)))
first_from f x k [] i d l = absurd (omega arith)
first_from f x k (rule ∷ rules) zero d l = refl
first_from f x k (rule ∷ rules) (suc i) d l = first_from f x k rules i d (omega arith)

pub first_further : {X : Type 0} (f : X → SeenRule) (x : Configuration) (rules : List X) (i : ℕ) (d : X) → i < length rules
    → first_for x i (map f (drop i rules)) ≡ (if is_for x (f (get_or rules i d)) then Some i else first_for x (i + 1) (map f (drop (i + 1) rules)))
first_further f x rules i d l =
    let next : suc i ≡ i + 1 = omega arith in
    first_from f x i rules i d l ∙ ap (λ n. if is_for x (f (get_or rules i d)) then Some i else first_for x n (map f (drop n rules))) next

-- past the last rule there is none
pub none_after : {X : Type 0} (f : X → SeenRule) (x : Configuration) (k : ℕ) (rules : List X) → first_for x k (map f (drop (length rules) rules)) ≡ None
none_after f x k [] = refl
none_after f x k (rule ∷ rules) = none_after f x k rules

-- what a list has at a place, of its image
pub got : {X Y : Type 0} (f : X → Y) (xs : List X) (i : ℕ) (d : X) → i < length xs → slice_get (map f xs) i ≡ Some (f (get_or xs i d))
got f [] i d l = absurd (omega arith)
got f (x ∷ xs) zero d l = refl
got f (x ∷ xs) (suc i) d l = got f xs i d (omega arith)

-- A step towards a type's ancestors.
use Rattle.std.proofs.Common.{◌≡◌, ℕ, suc, zero, ◌+◌, ◌<◌, ◌||◌, Bool, List, [], ◌∷◌, length, drop, slice_index, true, false, ap, sym, ◌∙◌, arith, add-one}
use Rattle.std.specs.Prelude.{◌==◌}
use Rattle.lint_mistakes.specs.Vocabularies.{reaches}

pub reach_here : (parents steps : List ℕ) (t u : ℕ) → (t == u) ≡ true → reaches parents steps t u ≡ true
reach_here parents [] t u is = is
reach_here parents (s ∷ steps) t u is = ap (λ (x : Bool). x || reaches parents steps (slice_index parents t) u) is

step_on : (parents steps : List ℕ) (i t u : ℕ) → i < length steps → (t == u) ≡ false
    → reaches parents (drop i steps) t u ≡ reaches parents (drop (suc i) steps) (slice_index parents t) u
step_on parents [] i t u inside is = absurd (omega (arith, inside))
step_on parents (s ∷ steps) zero t u inside is = ap (λ (x : Bool). x || reaches parents steps (slice_index parents t) u) is
step_on parents (s ∷ steps) (suc i) t u inside is = step_on parents steps i t u (omega (arith, inside)) is

pub reach_on : (parents steps : List ℕ) (i t u next : ℕ) → i < length steps → (t == u) ≡ false → next ≡ slice_index parents t
    → reaches parents (drop i steps) t u ≡ reaches parents (drop (i + 1) steps) next u
reach_on parents steps i t u next inside is at =
    step_on parents steps i t u inside is ∙ ap (λ (n : ℕ). reaches parents (drop (suc i) steps) n u) (sym at) ∙ ap (λ (n : ℕ). reaches parents (drop n steps) next u) (sym (add-one i))

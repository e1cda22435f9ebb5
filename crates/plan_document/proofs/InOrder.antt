-- Neighbours in rising order are all in rising order.
use Rattle.std.proofs.Common.{◌≡◌, ◌⊎◌, ℕ, zero, suc, ◌+◌, ◌<◌, ◌≤◌, length, get_or, inl, inr, arith, subst}
use Rattle.std.proofs.lemmas.Bool.{cases_lt}
use Rattle.task_core.specs.Cubes.{Cube}
use Rattle.task_core.specs.declared.literals.Lit.{Lit}
use Rattle.plan_document.specs.Faithful.{IsInOrder}

-- the neighbours before a place are in order
abbrev pub AreNeighboursInOrder : Cube → ℕ → Type 0
AreNeighboursInOrder cube end = (k : ℕ) (d : Lit) → k + 1 < end → (get_or cube k d).fluent.0 < (get_or cube (k + 1) d).fluent.0

pair_in_order : (cube : Cube) → AreNeighboursInOrder cube (length cube) → (i j : ℕ) (d : Lit) → i < j → j < length cube
    → (get_or cube i d).fluent.0 < (get_or cube j d).fluent.0
pair_in_order cube near i zero d less inside = absurd (omega arith)
pair_in_order cube near i (suc j) d less inside =
    by_place (cases_lt i j) (λ before. pair_in_order cube near i j d before (omega arith))
  where
    last : (get_or cube j d).fluent.0 < (get_or cube (suc j) d).fluent.0
    last = let next : j + 1 ≡ suc j = omega arith in subst (λ n. (get_or cube j d).fluent.0 < (get_or cube n d).fluent.0) next (near j d (omega arith))

    by_place : (i < j) ⊎ (j ≤ i) → (i < j → (get_or cube i d).fluent.0 < (get_or cube j d).fluent.0)
        → (get_or cube i d).fluent.0 < (get_or cube (suc j) d).fluent.0
    by_place (inl before) earlier = let first = earlier before in omega (arith, first, last)
    by_place (inr after) earlier = let same : j ≡ i = omega arith in subst (λ n. (get_or cube n d).fluent.0 < (get_or cube (suc j) d).fluent.0) same last

pub in_order : (cube : Cube) → AreNeighboursInOrder cube (length cube) → IsInOrder cube
in_order cube near = pair_in_order cube near

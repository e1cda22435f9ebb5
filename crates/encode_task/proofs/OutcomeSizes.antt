-- The sets that are made for an outcome, by their sizes.
use Rattle.std.proofs.Common.{◌≡◌, ℕ, ◌<◌, Bool, List, take, take_all, length, get_or, Contains, refl, sym, subst, arith}
use Rattle.std.specs.List.{list_any}
use Rattle.dd_sets.specs.Rooms.{Small}
use Rattle.task_core.specs.Actions.{after_value, change_makes}
use Rattle.task_core.specs.declared.actions.Change.{Change}
use Rattle.task_core.specs.declared.actions.Outcome.{Outcome}
use Rattle.task_core.specs.declared.literals.Lit.{Lit}
use Rattle.encode_task.specs.WorkingSets.{AreSmall, IsMadeForOutcome, IsPartOf}
use Rattle.encode_task.specs.WorkingSets.IsMadeForOutcome.{condition, first_changes, next_value}
use Rattle.encode_task.proofs.ChangeLemmas.{some_makes}

-- the same over another number of fluents that is equal
pub outcome_at : (w m n : ℕ) (outcome : Outcome) → m ≡ n → AreSmall n w (IsMadeForOutcome n outcome) → AreSmall m w (IsMadeForOutcome m outcome)
outcome_at w m n outcome same small = subst (λ v. AreSmall v w (IsMadeForOutcome v outcome)) (sym same) small

-- the condition of a change
pub condition_small : (w n : ℕ) (outcome : Outcome) (items : List Change) (i : ℕ) (change : Change) → items ≡ outcome.changes.items → i < length items → change ≡ get_or items i change → AreSmall n w (IsMadeForOutcome n outcome)
    → (lit : Lit) → Contains change.lits.items lit → AreSmall n w (IsPartOf change.cond)
condition_small w n outcome items i change same within at small lit among set of_part = small set (condition change lit set (subst (λ l. Contains l change) same (i, within, sym at)) among of_part)

-- where one of the first changes makes a fluent so
pub first_small : (w n : ℕ) (outcome : Outcome) (items : List Change) (positive : Bool) (f j : ℕ) → items ≡ outcome.changes.items → f < n → AreSmall n w (IsMadeForOutcome n outcome) → Small n w (some_makes positive f (take j items))
first_small w n outcome items positive f j same inside small = subst (λ l. Small n w (some_makes positive f (take j l))) (sym same) (small (some_makes positive f (take j outcome.changes.items)) (first_changes positive f j inside))

-- where some change does
pub all_changes_small : (w n : ℕ) (outcome : Outcome) (positive : Bool) (f : ℕ) → f < n → AreSmall n w (IsMadeForOutcome n outcome) → Small n w (λ values. list_any (change_makes positive values f) outcome.changes.items)
all_changes_small w n outcome positive f inside small =
    subst (λ l. Small n w (some_makes positive f l)) (take_all (length outcome.changes.items) outcome.changes.items (omega arith)) (first_small w n outcome outcome.changes.items positive f (length outcome.changes.items) refl inside small)

pub next_small : (w n : ℕ) (outcome : Outcome) (f : ℕ) → f < n → AreSmall n w (IsMadeForOutcome n outcome) → Small n w (λ values. after_value outcome values f)
next_small w n outcome f inside small = small (λ values. after_value outcome values f) (next_value f inside)

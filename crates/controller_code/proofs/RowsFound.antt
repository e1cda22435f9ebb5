-- The rows of an outcome are found in the table of all outcomes.
use Rattle.std.proofs.Common.{◌≡◌, ◌≢◌, ◌<◌, ◌+◌, ◌==◌, ℕ, zero, suc, Bool, true, false, ◌&&◌, List, [], ◌∷◌, ◌++◌, Option, None, Some, map, cond, refl, sym, ◌∙◌, ap, subst, append-nil, arith}
use Rattle.std.specs.Prelude.{slice_get}
use Rattle.std.specs.List.{filter}
use Rattle.std.specs.Option.{option_map_or}
use Rattle.std.proofs.lemmas.Bool.{eq-eqb}
use Rattle.std.proofs.lemmas.Bool.Decides.{nat_tests}
use Rattle.std.proofs.lemmas.List.Elements.{filter-append}
use Rattle.task_core.specs.Tasks.{outcomes_at}
use Rattle.task_core.specs.declared.actions.Change.{Change}
use Rattle.task_core.specs.declared.actions.GroundAction.{GroundAction}
use Rattle.task_core.specs.declared.actions.Outcome.{Outcome}
use Rattle.task_core.specs.declared.tasks.Task.{Task}
use Rattle.controller_code.specs.Rows.{action_rows, change_row, is_row_of, outcome_rows, rows_at, rows_of_outcome}

-- rows that all are of an outcome, or all of another
module _ (a o a' o' : ℕ) where
  kept : (b : Bool) → ((a' == a) && (o' == o)) ≡ b → (changes : List Change)
      → filter (is_row_of a o) (map (change_row a' o') changes) ≡ cond b (map (change_row a' o') changes) []
  kept true is [] = refl
  kept false is [] = refl
  kept true is (change ∷ changes) =
      ap (λ t. cond t (change_row a' o' change ∷ filter (is_row_of a o) (map (change_row a' o') changes)) (filter (is_row_of a o) (map (change_row a' o') changes))) is
      ∙ ap (λ rows. change_row a' o' change ∷ rows) (kept true is changes)
  kept false is (change ∷ changes) =
      ap (λ t. cond t (change_row a' o' change ∷ filter (is_row_of a o) (map (change_row a' o') changes)) (filter (is_row_of a o) (map (change_row a' o') changes))) is
      ∙ kept false is changes

  pub all_kept : (b : Bool) → ((a' == a) && (o' == o)) ≡ b → (outcome : Outcome)
      → filter (is_row_of a o) (rows_of_outcome a' o' outcome) ≡ cond b (rows_of_outcome a' o' outcome) []
  all_kept true is outcome =
      ap (λ t. cond t ((a' ∷ o' ∷ 0 ∷ []) ∷ filter (is_row_of a o) (map (change_row a' o') outcome.changes.items)) (filter (is_row_of a o) (map (change_row a' o') outcome.changes.items))) is
      ∙ ap (λ rows. (a' ∷ o' ∷ 0 ∷ []) ∷ rows) (kept true is outcome.changes.items)
  all_kept false is outcome =
      ap (λ t. cond t ((a' ∷ o' ∷ 0 ∷ []) ∷ filter (is_row_of a o) (map (change_row a' o') outcome.changes.items)) (filter (is_row_of a o) (map (change_row a' o') outcome.changes.items))) is
      ∙ kept false is outcome.changes.items

itself : (a o : ℕ) → ((a == a) && (o == o)) ≡ true
itself a o = ap (λ b. b && (o == o)) (eq-eqb a a refl) ∙ eq-eqb o o refl

other_action : (a o a' o' : ℕ) → a < a' → ((a' == a) && (o' == o)) ≡ false
other_action a o a' o' less = ap (λ b. b && (o' == o)) differ
  where
    differ : (a' == a) ≡ false
    differ = grind (arith, nat_tests)

earlier_action : (a o a' o' : ℕ) → a' < a → ((a' == a) && (o' == o)) ≡ false
earlier_action a o a' o' less = ap (λ b. b && (o' == o)) differ
  where
    differ : (a' == a) ≡ false
    differ = grind (arith, nat_tests)

other_outcome : (a o o' : ℕ) → o < o' → ((a == a) && (o' == o)) ≡ false
other_outcome a o o' less = ap (λ b. b && (o' == o)) (eq-eqb a a refl) ∙ differ
  where
    differ : (o' == o) ≡ false
    differ = grind (arith, nat_tests)

earlier_outcome : (a o o' : ℕ) → o' < o → ((a == a) && (o' == o)) ≡ false
earlier_outcome a o o' less = ap (λ b. b && (o' == o)) (eq-eqb a a refl) ∙ differ
  where
    differ : (o' == o) ≡ false
    differ = grind (arith, nat_tests)

-- a list of two parts, of which the first is left out
skip : (a o a' o' : ℕ) → ((a' == a) && (o' == o)) ≡ false → (outcome : Outcome) (rest : List (List ℕ))
    → filter (is_row_of a o) (rows_of_outcome a' o' outcome ++ rest) ≡ filter (is_row_of a o) rest
skip a o a' o' never outcome rest =
    filter-append (is_row_of a o) (rows_of_outcome a' o' outcome) rest
    ∙ ap (λ rows. rows ++ filter (is_row_of a o) rest) (all_kept a o a' o' false never outcome)

-- the outcomes of another action
none_later : (a o a' n : ℕ) → a < a' → (outcomes : List Outcome) → filter (is_row_of a o) (outcome_rows a' n outcomes) ≡ []
none_later a o a' n less [] = refl
none_later a o a' n less (outcome ∷ outcomes) =
    skip a o a' n (other_action a o a' n less) outcome (outcome_rows a' (n + 1) outcomes) ∙ none_later a o a' (n + 1) less outcomes

none_earlier : (a o a' n : ℕ) → a' < a → (outcomes : List Outcome) → filter (is_row_of a o) (outcome_rows a' n outcomes) ≡ []
none_earlier a o a' n less [] = refl
none_earlier a o a' n less (outcome ∷ outcomes) =
    skip a o a' n (earlier_action a o a' n less) outcome (outcome_rows a' (n + 1) outcomes) ∙ none_earlier a o a' (n + 1) less outcomes

-- later outcomes
none_after : (a o n : ℕ) → o < n → (outcomes : List Outcome) → filter (is_row_of a o) (outcome_rows a n outcomes) ≡ []
none_after a o n less [] = refl
none_after a o n less (outcome ∷ outcomes) =
    skip a o a n (other_outcome a o n less) outcome (outcome_rows a (n + 1) outcomes) ∙ none_after a o (n + 1) (omega arith) outcomes

-- the outcome of a number
found : (a o n k : ℕ) → o ≡ n + k → (outcomes : List Outcome)
    → filter (is_row_of a o) (outcome_rows a n outcomes) ≡ option_map_or (rows_of_outcome a o) (slice_get outcomes k) []
found a o n k is [] = refl
found a o n zero is (outcome ∷ outcomes) =
    let same : o ≡ n = omega arith in
    subst (λ m. filter (is_row_of a m) (rows_of_outcome a n outcome ++ outcome_rows a (n + 1) outcomes) ≡ rows_of_outcome a m outcome) (sym same)
    (filter-append (is_row_of a n) (rows_of_outcome a n outcome) (outcome_rows a (n + 1) outcomes)
    ∙ ap (λ rows. rows ++ filter (is_row_of a n) (outcome_rows a (n + 1) outcomes)) (all_kept a n a n true (itself a n) outcome)
    ∙ ap (λ rows. rows_of_outcome a n outcome ++ rows) (none_after a n (n + 1) (omega arith) outcomes)
    ∙ append-nil (rows_of_outcome a n outcome))
found a o n (suc k) is (outcome ∷ outcomes) =
    skip a o a n (earlier_outcome a o n (omega arith)) outcome (outcome_rows a (n + 1) outcomes) ∙ found a o (n + 1) k (omega arith) outcomes

-- later actions
none_of_later : (a o n : ℕ) → a < n → (actions : List GroundAction) → filter (is_row_of a o) (action_rows n actions) ≡ []
none_of_later a o n less [] = refl
none_of_later a o n less (action ∷ actions) =
    filter-append (is_row_of a o) (outcome_rows n 0 action.outcomes.items) (action_rows (n + 1) actions)
    ∙ ap (λ rows. rows ++ filter (is_row_of a o) (action_rows (n + 1) actions)) (none_later a o n 0 less action.outcomes.items)
    ∙ none_of_later a o (n + 1) (omega arith) actions

abbrev outcomes_in : List GroundAction → ℕ → List Outcome
outcomes_in actions k = option_map_or (λ (action : GroundAction). action.outcomes.items) (slice_get actions k) []

found_in : (a o n k : ℕ) → a ≡ n + k → (actions : List GroundAction)
    → filter (is_row_of a o) (action_rows n actions) ≡ option_map_or (rows_of_outcome a o) (slice_get (outcomes_in actions k) o) []
found_in a o n k is [] = refl
found_in a o n zero is (action ∷ actions) =
    let same : a ≡ n = omega arith in
    subst (λ m. filter (is_row_of m o) (outcome_rows n 0 action.outcomes.items ++ action_rows (n + 1) actions) ≡ option_map_or (rows_of_outcome m o) (slice_get action.outcomes.items o) []) (sym same)
    (filter-append (is_row_of n o) (outcome_rows n 0 action.outcomes.items) (action_rows (n + 1) actions)
    ∙ ap (λ rows. filter (is_row_of n o) (outcome_rows n 0 action.outcomes.items) ++ rows) (none_of_later n o (n + 1) (omega arith) actions)
    ∙ append-nil (filter (is_row_of n o) (outcome_rows n 0 action.outcomes.items))
    ∙ found n o 0 o (omega arith) action.outcomes.items)
found_in a o n (suc k) is (action ∷ actions) =
    filter-append (is_row_of a o) (outcome_rows n 0 action.outcomes.items) (action_rows (n + 1) actions)
    ∙ ap (λ rows. rows ++ filter (is_row_of a o) (action_rows (n + 1) actions)) (none_earlier a o n 0 (omega arith) action.outcomes.items)
    ∙ found_in a o (n + 1) k (omega arith) actions

pub rows_found : (task : Task) (a o : ℕ) → rows_at (action_rows 0 task.actions.items) a o ≡ option_map_or (rows_of_outcome a o) (slice_get (outcomes_at task a) o) []
rows_found task a o = found_in a o 0 a (omega arith) task.actions.items

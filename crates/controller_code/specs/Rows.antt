-- The rows of a program: its rules, its outcomes and its steps as numbers, and what they mean.
use Rattle.std.specs.Prelude.{ℕ, ◌+◌, ◌*◌, ◌/◌, ◌%◌, ◌==◌, Bool, true, false, ◌&&◌, List, [], ◌∷◌, ◌++◌}
use Rattle.std.specs.Prelude.{Option, Some, None, drop, find, if◌then◌else◌, length, map, nat_le, slice_index_or, take}
use Rattle.std.specs.List.{filter, list_all, list_any}
use Rattle.std.specs.Option.{option_map, option_map_or}
use Rattle.rule_lookup.specs.RunRules.{run_rules}
use Rattle.plan_rules.specs.Rules.{ContextRule, PlainPlan, automaton, table}
use Rattle.task_core.specs.Conditions.{holds}
use Rattle.task_core.specs.Vectors.{Vector, same_value, value_of}
use Rattle.task_core.specs.declared.actions.Change.{Change}
use Rattle.task_core.specs.declared.actions.GroundAction.{GroundAction}
use Rattle.task_core.specs.declared.actions.Outcome.{Outcome}
use Rattle.task_core.specs.declared.literals.Lit.{Lit}
use Rattle.task_core.specs.declared.tasks.Task.{Task}
use Rattle.controller_code.specs.FirstMoves.{contexts_of, next_number, plan_move}
use Rattle.controller_code.specs.Words.{words_hold, words_of}
use Rattle.controller_code.specs.declared.steps.Move.{Move}
use Rattle.controller_code.specs.declared.steps.Step.{Step}
use Rattle.controller_code.specs.declared.steps.Step.TheVariants.{Ask, Stop, Take}

-- a literal's number: twice that of its fluent, and one more where it is positive
abbrev pub literal_number : Lit → ℕ
literal_number lit = 2 * lit.fluent.0 + (if lit.positive then 1 else 0)

-- whether the literal of a number holds in a state
abbrev pub number_holds : Vector → ℕ → Bool
number_holds v number = same_value (value_of v (number / 2)) (number % 2 == 1)

-- the row of a rule
abbrev pub rule_row : ContextRule → List ℕ
rule_row rule = rule.context ∷ rule.action ∷ next_number rule.next ∷ map literal_number rule.cube

-- whether a row is of a context, and all its literals hold
abbrev pub row_matches : ℕ → Vector → List ℕ → Bool
row_matches context v row =
    (slice_index_or row 0 0 == context) && list_all (number_holds v) (drop 3 row)

abbrev pub row_move : List ℕ → Move
row_move row = record { action = record { 0 = slice_index_or row 1 0 }; next = slice_index_or row 2 0 }

-- what rows decide in a context and a state: the move of the first that matches
abbrev pub rows_move : List (List ℕ) → ℕ → Vector → Option Move
rows_move rows context v = option_map row_move (find (row_matches context v) rows)

-- the words of the goal; never true where there is none. A plan with contexts has none: a stage is a
-- context
abbrev pub goal_words : Task → PlainPlan → List ℕ
goal_words task (table class rules) = option_map_or words_of task.goal (3 ∷ [])
goal_words task (automaton contexts rules) = 3 ∷ []

-- whether it holds in a state
abbrev pub goal_holds : Task → PlainPlan → Vector → Bool
goal_holds task (table class rules) v = option_map_or (λ goal. holds goal (value_of v)) task.goal false
goal_holds task (automaton contexts rules) v = false

-- the three answers: take the action and go on in the next context; the goal holds and the plan has no
-- rule; outside the plan
pub data Answer : Type 0 where
  act : Move → Answer
  done : Answer
  outside : Answer

-- the answer of a move, where the goal holds or doesn't
abbrev pub answer_with : Bool → Option Move → Answer
answer_with goal (Some move) = act move
answer_with true None = done
answer_with false None = outside

-- what is answered in a context, of so many
abbrev pub in_contexts : ℕ → ℕ → Answer → Answer
in_contexts contexts context answer =
    if nat_le 1 context && nat_le context contexts then answer else outside

-- what a plan answers
abbrev pub plan_answer : Task → PlainPlan → ℕ → Vector → Answer
plan_answer task plan context v =
    in_contexts (contexts_of plan) context
    (answer_with (goal_holds task plan v) (plan_move (run_rules plan) context v))

-- what the rows of rules, and the words of a goal, answer
abbrev pub rows_answer : ℕ → List (List ℕ) → List ℕ → ℕ → Vector → Answer
rows_answer contexts rules goal context v =
    in_contexts contexts context (answer_with (words_hold goal v) (rows_move rules context v))

-- the row of a change of an outcome of an action
abbrev pub change_row : ℕ → ℕ → Change → List ℕ
change_row action outcome change =
    action ∷ outcome ∷ length change.lits.items
    ∷ map literal_number change.lits.items ++ words_of change.cond

-- the rows of an outcome: one without literals, and one for each change
abbrev pub rows_of_outcome : ℕ → ℕ → Outcome → List (List ℕ)
rows_of_outcome action number outcome =
    (action ∷ number ∷ 0 ∷ []) ∷ map (change_row action number) outcome.changes.items

-- the rows of outcomes, the first of which has this number
abbrev pub outcome_rows : ℕ → ℕ → List Outcome → List (List ℕ)
outcome_rows action number [] = []
outcome_rows action number (outcome ∷ outcomes) =
    rows_of_outcome action number outcome ++ outcome_rows action (number + 1) outcomes

-- the rows of actions, the first of which has this number
abbrev pub action_rows : ℕ → List GroundAction → List (List ℕ)
action_rows number [] = []
action_rows number (action ∷ actions) =
    outcome_rows number 0 action.outcomes.items ++ action_rows (number + 1) actions

-- whether a row is one of an outcome of an action
abbrev pub is_row_of : ℕ → ℕ → List ℕ → Bool
is_row_of action outcome row =
    (slice_index_or row 0 0 == action) && (slice_index_or row 1 0 == outcome)

-- the rows of an outcome of an action
abbrev pub rows_at : List (List ℕ) → ℕ → ℕ → List (List ℕ)
rows_at rows action outcome = filter (is_row_of action outcome) rows

-- whether a row makes the fluent f true (positive) or false (not positive) from a state
abbrev pub row_makes : Bool → Vector → ℕ → List ℕ → Bool
row_makes positive v f row = let count = slice_index_or row 2 0 in
    list_any (λ number. (number / 2 == f) && same_value (number % 2 == 1) positive) (take count (drop 3 row))
    && words_hold (drop count (drop 3 row)) v

-- the value of the fluent f after rows
abbrev pub value_after_rows : List (List ℕ) → Vector → ℕ → Bool
value_after_rows rows v f =
    if list_any (row_makes true v f) rows then true
    else if list_any (row_makes false v f) rows then false
    else value_of v f

-- the row of a step
abbrev pub step_row : Step → List ℕ
step_row Stop = 0 ∷ 0 ∷ 0 ∷ 0 ∷ []
step_row (Ask test) = 1 ∷ test.fluent.0 ∷ test.if_true ∷ test.if_false ∷ []
step_row (Take move) = 2 ∷ move.action.0 ∷ move.next ∷ 0 ∷ []

-- the step that a row spells
abbrev pub step_of : List ℕ → Step
step_of row = let second = slice_index_or row 1 0 in let third = slice_index_or row 2 0 in
    if slice_index_or row 0 0 == 1 then Ask (record {
      fluent = record { 0 = second };
      if_true = third;
      if_false = slice_index_or row 3 0;
    })
    else if slice_index_or row 0 0 == 2 then Take (record { action = record { 0 = second }; next = third })
    else Stop

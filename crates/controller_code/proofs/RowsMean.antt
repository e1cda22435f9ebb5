-- The rows of rules, outcomes and steps mean what these do.
use Rattle.std.proofs.Common.{◌≡◌, ◌<◌, ◌+◌, ◌*◌, ◌/◌, ◌%◌, ◌==◌, ℕ, Bool, true, false, ◌&&◌, ◌||◌, List, [], ◌∷◌, ◌++◌, Option, Some, None, length, map, take, drop, find, refl, sym, ◌∙◌, ap, arith}
use Rattle.std.specs.Prelude.{if◌then◌else◌}
use Rattle.std.specs.List.{list_all, list_any}
use Rattle.std.specs.Option.{option_map, option_map_or}
use Rattle.rule_lookup.specs.RunRules.{run_rules}
use Rattle.task_core.specs.Actions.{after_value, change_makes}
use Rattle.task_core.specs.Conditions.{holds}
use Rattle.task_core.specs.Cubes.{Cube, matches}
use Rattle.task_core.specs.Initial.{names_it}
use Rattle.task_core.specs.Vectors.{Vector, same_value, value_of}
use Rattle.task_core.specs.declared.actions.Change.{Change}
use Rattle.task_core.specs.declared.actions.Outcome.{Outcome}
use Rattle.task_core.specs.declared.conditions.Cond.{Cond}
use Rattle.task_core.specs.declared.literals.Lit.{Lit}
use Rattle.task_core.specs.declared.tasks.Task.{Task}
use Rattle.plan_rules.specs.Rules.{ContextRule, PlainPlan, automaton, table}
use Rattle.controller_code.specs.FirstMoves.{contexts_of, move_of, plan_move}
use Rattle.controller_code.specs.Rows.{answer_with, change_row, goal_holds, goal_words, in_contexts, literal_number, number_holds, plan_answer, row_makes, row_matches, row_move, rows_answer, rows_move, rows_of_outcome, rule_row, step_of, step_row, value_after_rows}
use Rattle.controller_code.specs.Words.{words_hold, words_of}
use Rattle.controller_code.specs.declared.steps.Step.{Step}
use Rattle.controller_code.specs.declared.steps.Step.TheVariants.{Ask, Stop, Take}
use Rattle.controller_code.proofs.WordsRead.{words_told}

-- the number of a literal
half_even : (f : ℕ) → (2 * f + 0) / 2 ≡ f
half_even f = omega arith

half_odd : (f : ℕ) → (2 * f + 1) / 2 ≡ f
half_odd f = omega arith

rest_even : (f : ℕ) → (2 * f + 0) % 2 ≡ 0
rest_even f = omega arith

rest_odd : (f : ℕ) → (2 * f + 1) % 2 ≡ 1
rest_odd f = omega arith

fluent_of : (f : ℕ) (b : Bool) → (2 * f + (if b then 1 else 0)) / 2 ≡ f
fluent_of f true = half_odd f
fluent_of f false = half_even f

sign_of : (f : ℕ) (b : Bool) → ((2 * f + (if b then 1 else 0)) % 2 == 1) ≡ b
sign_of f true = ap (λ n. n == 1) (rest_odd f)
sign_of f false = ap (λ n. n == 1) (rest_even f)

literal_told : (v : Vector) (lit : Lit) → number_holds v (literal_number lit) ≡ same_value (value_of v lit.fluent.0) lit.positive
literal_told v lit =
    ap (λ f. same_value (value_of v f) (literal_number lit % 2 == 1)) (fluent_of lit.fluent.0 lit.positive)
    ∙ ap (same_value (value_of v lit.fluent.0)) (sign_of lit.fluent.0 lit.positive)

cube_told : (v : Vector) (cube : Cube) → list_all (number_holds v) (map literal_number cube) ≡ matches cube v
cube_told v [] = refl
cube_told v (lit ∷ cube) =
    ap (λ b. b && list_all (number_holds v) (map literal_number cube)) (literal_told v lit)
    ∙ ap (λ b. same_value (value_of v lit.fluent.0) lit.positive && b) (cube_told v cube)

-- the first rule that matches
pub rules_told : (rules : List ContextRule) (context : ℕ) (v : Vector) → rows_move (map rule_row rules) context v ≡ plan_move rules context v
rules_told [] context v = refl
rules_told (rule ∷ rules) context v =
    ap (λ b. option_map row_move (if (rule.context == context) && b then Some (rule_row rule) else find (row_matches context v) (map rule_row rules))) (cube_told v rule.cube)
    ∙ on (rules_told rules context v) ((rule.context == context) && matches rule.cube v)
  where
    on : rows_move (map rule_row rules) context v ≡ plan_move rules context v → (b : Bool) → option_map row_move (if b then Some (rule_row rule) else find (row_matches context v) (map rule_row rules))
        ≡ option_map move_of (if b then Some rule else find (λ (r : ContextRule). (r.context == context) && matches r.cube v) rules)
    on later true = refl
    on later false = later

-- the literals of a change
named_told : (positive : Bool) (f : ℕ) (lits : Cube) → list_any (λ number. (number / 2 == f) && same_value (number % 2 == 1) positive) (map literal_number lits) ≡ names_it positive f lits
named_told positive f [] = refl
named_told positive f (lit ∷ lits) =
    ap (λ n. ((n == f) && same_value (literal_number lit % 2 == 1) positive) || list_any (λ number. (number / 2 == f) && same_value (number % 2 == 1) positive) (map literal_number lits)) (fluent_of lit.fluent.0 lit.positive)
    ∙ ap (λ b. ((lit.fluent.0 == f) && same_value b positive) || list_any (λ number. (number / 2 == f) && same_value (number % 2 == 1) positive) (map literal_number lits)) (sign_of lit.fluent.0 lit.positive)
    ∙ ap (λ b. ((lit.fluent.0 == f) && same_value lit.positive positive) || b) (named_told positive f lits)

take_map : (lits : Cube) (ws : List ℕ) → take (length lits) (map literal_number lits ++ ws) ≡ map literal_number lits
take_map [] ws = refl
take_map (lit ∷ lits) ws = ap (λ xs. literal_number lit ∷ xs) (take_map lits ws)

drop_map : (lits : Cube) (ws : List ℕ) → drop (length lits) (map literal_number lits ++ ws) ≡ ws
drop_map [] ws = refl
drop_map (lit ∷ lits) ws = drop_map lits ws

pub change_told : (action outcome : ℕ) (change : Change) (positive : Bool) (v : Vector) (f : ℕ)
    → row_makes positive v f (change_row action outcome change) ≡ change_makes positive (value_of v) f change
change_told action outcome change positive v f =
    let lits = change.lits.items in
    let words = words_of change.cond in
    ap (λ xs. list_any (λ number. (number / 2 == f) && same_value (number % 2 == 1) positive) xs && words_hold (drop (length lits) (map literal_number lits ++ words)) v) (take_map lits words)
    ∙ ap (λ b. b && words_hold (drop (length lits) (map literal_number lits ++ words)) v) (named_told positive f lits)
    ∙ ap (λ ws. names_it positive f lits && words_hold ws v) (drop_map lits words)
    ∙ ap (λ b. names_it positive f lits && b) (words_told change.cond v)

changes_told : (action outcome : ℕ) (changes : List Change) (positive : Bool) (v : Vector) (f : ℕ)
    → list_any (row_makes positive v f) (map (change_row action outcome) changes) ≡ list_any (change_makes positive (value_of v) f) changes
changes_told action outcome [] positive v f = refl
changes_told action outcome (change ∷ changes) positive v f =
    ap (λ b. b || list_any (row_makes positive v f) (map (change_row action outcome) changes)) (change_told action outcome change positive v f)
    ∙ ap (λ b. change_makes positive (value_of v) f change || b) (changes_told action outcome changes positive v f)

pub outcome_told : (action number : ℕ) (outcome : Outcome) (v : Vector) (f : ℕ)
    → value_after_rows (rows_of_outcome action number outcome) v f ≡ after_value outcome (value_of v) f
outcome_told action number outcome v f =
    let rows = map (change_row action number) outcome.changes.items in
    ap (λ b. if b then true else if list_any (row_makes false v f) rows then false else value_of v f) (changes_told action number outcome.changes.items true v f)
    ∙ ap (λ b. if list_any (change_makes true (value_of v) f) outcome.changes.items then true else if b then false else value_of v f) (changes_told action number outcome.changes.items false v f)

-- a step
pub step_told : (step : Step) → step_of (step_row step) ≡ step
step_told Stop = refl
step_told (Ask test) = refl
step_told (Take move) = refl

pub steps_told : (steps : List Step) → map step_of (map step_row steps) ≡ steps
steps_told [] = refl
steps_told (step ∷ steps) = ap (λ s. s ∷ map step_of (map step_row steps)) (step_told step) ∙ ap (λ ss. step ∷ ss) (steps_told steps)

-- the goal
goal_part : (goal : Option Cond) (v : Vector) → words_hold (option_map_or words_of goal (3 ∷ [])) v ≡ option_map_or (λ g. holds g (value_of v)) goal false
goal_part None v = refl
goal_part (Some goal) v = words_told goal v

goal_told : (task : Task) (plan : PlainPlan) (v : Vector) → words_hold (goal_words task plan) v ≡ goal_holds task plan v
goal_told task (table class rules) v = goal_part task.goal v
goal_told task (automaton contexts rules) v = refl

-- the whole answer
pub answer_told : (task : Task) (plan : PlainPlan) (context : ℕ) (v : Vector)
    → rows_answer (contexts_of plan) (map rule_row (run_rules plan)) (goal_words task plan) context v ≡ plan_answer task plan context v
answer_told task plan context v =
    ap (λ b. in_contexts (contexts_of plan) context (answer_with b (rows_move (map rule_row (run_rules plan)) context v))) (goal_told task plan v)
    ∙ ap (λ o. in_contexts (contexts_of plan) context (answer_with (goal_holds task plan v) o)) (rules_told (run_rules plan) context v)

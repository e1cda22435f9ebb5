-- Goals in computation tree logic: what is wrong in one, and the tree that it is.
--
-- A goal is a formula in which the words `ax`, `ex`, `af`, `ef`, `ag` and `eg` with one goal after
-- them and `au`, `eu`, `aw` and `ew` with two are operators, even where a predicate has such a
-- name. Operators stand under `and`, `or`, `not`, `imply` and one another, and not under a
-- quantifier. A part of a goal without operators, and so a whole goal without them, is one formula.
-- A goal has no free variables.
use Rattle.std.specs.Prelude.{Bool, false, ◌||◌, ◌&&◌, ◌==◌, if◌then◌else◌, ℕ, List, [], ◌∷◌, ◌++◌}
use Rattle.sexpr_text.specs.declared.forms.Span.{Span}
use Rattle.sexpr_text.specs.declared.faults.FaultKind.TheVariants.{BadForm, QuantifiedGoal}
use Rattle.sexpr_text.specs.Forest.{Forest, nothing, word, group}
use Rattle.sexpr_text.specs.Flaws.{Flaw, flaw_at}
use Rattle.sexpr_text.specs.Parts.{after_first}
use Rattle.pddl_ast.specs.declared.goal_words.GoalWord.{GoalWord}
use Rattle.pddl_ast.specs.declared.goal_words.GoalWord.TheVariants.{Unary, Binary, And, Or, Not}
use Rattle.pddl_ast.specs.declared.goal_words.GoalWord.TheVariants.{Imply, Quantifier, Plain}
use Rattle.pddl_ast.specs.GoalWords.{goal_word, is_operator}
use Rattle.pddl_ast.specs.Known.{Known}
use Rattle.pddl_ast.specs.Atoms.{count}
use Rattle.pddl_ast.specs.Formulas.{always, bad_list, formula_flaws, formula_of}
use Rattle.pddl_ast.specs.Trees.{TemporalTree, state_formula, goal_negation, all_goals, any_goal}
use Rattle.pddl_ast.specs.Trees.{goal_implication, unary, binary, temporal_row}

-- whether an operator is at the head of a list with these parts
abbrev pub begins_with_operator : Forest → Bool
begins_with_operator nothing = false
begins_with_operator (word span w rest) = is_operator w
begins_with_operator (group span parts rest) = false

-- whether a list of a row, or a list at any depth in one of them, has an operator at its head
abbrev pub has_operator : Forest → Bool
has_operator nothing = false
has_operator (word span w rest) = has_operator rest
has_operator (group span parts rest) =
    begins_with_operator parts || has_operator parts || has_operator rest

-- what a list is read as, by the word at its head and what follows it: where no operator stands in
-- it, as a formula
abbrev pub read_as : List ℕ → Forest → GoalWord
read_as w parts = if is_operator w || has_operator parts then goal_word w else Plain

-- whether a quantifier with these two items after its head, the variables and the body, has an
-- operator in its body
abbrev pub quantifies_operator : Forest → Bool
quantifies_operator items = (count items == 2) && has_operator (after_first items)

-- everything that is wrong in a formula of a goal, the list with these parts and this span
abbrev pub plain_flaws : Known → Forest → Span → List Flaw
plain_flaws known parts span = formula_flaws known parts span []

-- the same for a quantifier, with these items after its head. In one whose body has an operator
-- nothing else is looked for
abbrev pub quantified_flaws : Known → Forest → Forest → Span → List Flaw
quantified_flaws known parts items span =
    if quantifies_operator items then flaw_at span QuantifiedGoal ∷ [] else plain_flaws known parts
    span

abbrev mutual
  -- everything that is wrong in a row of goals
  pub temporals_flaws : Known → Forest → List Flaw
  temporals_flaws known nothing = []
  temporals_flaws known (word span w rest) = flaw_at span BadForm ∷ temporals_flaws known rest
  temporals_flaws known (group span parts rest) =
      temporal_flaws known parts span ++ temporals_flaws known rest

  -- everything that is wrong in the goal that the list with these parts and this span is
  pub temporal_flaws : Known → Forest → Span → List Flaw
  temporal_flaws known nothing span = []
  temporal_flaws known (group inner parts rest) span = bad_list span
  temporal_flaws known (word head w parts) span = elim (read_as w parts) [
    | Unary operator ↦ if count parts == 1 then temporals_flaws known parts else bad_list span
    | Binary operator ↦ if count parts == 2 then temporals_flaws known parts else bad_list span
    | And ↦ temporals_flaws known parts
    | Or ↦ temporals_flaws known parts
    | Not ↦ if count parts == 1 then temporals_flaws known parts else bad_list span
    | Imply ↦ if count parts == 2 then temporals_flaws known parts else bad_list span
    | Quantifier ↦ quantified_flaws known (word head w parts) parts span
    | Plain ↦ plain_flaws known (word head w parts) span
  ]

-- the tree of a formula of a goal, the list with these parts
abbrev pub formula_goal : Known → Forest → TemporalTree
formula_goal known parts = state_formula (formula_of known parts [])

-- the first and the second of a row of goals
abbrev pub first_temporal : List TemporalTree → TemporalTree
first_temporal [] = state_formula always
first_temporal (g ∷ gs) = g

abbrev pub second_temporal : List TemporalTree → TemporalTree
second_temporal [] = state_formula always
second_temporal (g ∷ gs) = first_temporal gs

abbrev mutual
  -- the trees of a row of goals
  pub temporals_of : Known → Forest → List TemporalTree
  temporals_of known nothing = []
  temporals_of known (word span w rest) = temporals_of known rest
  temporals_of known (group span parts rest) = temporal_of known parts ∷ temporals_of known rest

  -- the tree of the goal that the list with these parts is
  pub temporal_of : Known → Forest → TemporalTree
  temporal_of known nothing = formula_goal known nothing
  temporal_of known (group inner parts rest) = formula_goal known (group inner parts rest)
  temporal_of known (word head w parts) = elim (read_as w parts) [
    | Unary operator ↦ unary operator (first_temporal (temporals_of known parts))
    | Binary operator ↦ binary operator (first_temporal (temporals_of known parts))
        (second_temporal (temporals_of known parts))
    | And ↦ all_goals (temporal_row (temporals_of known parts))
    | Or ↦ any_goal (temporal_row (temporals_of known parts))
    | Not ↦ goal_negation (first_temporal (temporals_of known parts))
    | Imply ↦ goal_implication (first_temporal (temporals_of known parts))
        (second_temporal (temporals_of known parts))
    | Quantifier ↦ formula_goal known (word head w parts)
    | Plain ↦ formula_goal known (word head w parts)
  ]

-- A goal in computation tree logic by what its list is read as.
use Rattle.std.proofs.Common.{ℕ, ◌==◌, List, if◌then◌else◌}
use Rattle.sexpr_text.specs.declared.forms.Span.{Span}
use Rattle.sexpr_text.specs.Forest.{Forest, word}
use Rattle.sexpr_text.specs.Flaws.{Flaw}
use Rattle.pddl_ast.specs.declared.trees.UnaryOperator.{UnaryOperator}
use Rattle.pddl_ast.specs.declared.trees.BinaryOperator.{BinaryOperator}
use Rattle.pddl_ast.specs.declared.goal_words.GoalWord.TheVariants.{Unary, Binary, And, Or, Not, Imply, Quantifier, Plain}
use Rattle.pddl_ast.specs.Known.{Known}
use Rattle.pddl_ast.specs.Atoms.{count}
use Rattle.pddl_ast.specs.Formulas.{bad_list}
use Rattle.pddl_ast.specs.Goals.{read_as, plain_flaws, quantified_flaws, temporals_flaws, temporal_flaws, formula_goal, first_temporal, second_temporal, temporals_of, temporal_of}
use Rattle.pddl_ast.specs.Trees.{TemporalTree, goal_negation, all_goals, any_goal, goal_implication, unary, binary, temporal_row}

-- what holds of each case of a goal holds of the goal
pub temporal_cases : (P : List Flaw → TemporalTree → Type 0) (known : Known) (span head : Span) (w : List ℕ) (parts : Forest)
    → ((operator : UnaryOperator) → P (if count parts == 1 then temporals_flaws known parts else bad_list span) (unary operator (first_temporal (temporals_of known parts))))
    → ((operator : BinaryOperator) → P (if count parts == 2 then temporals_flaws known parts else bad_list span)
    (binary operator (first_temporal (temporals_of known parts)) (second_temporal (temporals_of known parts))))
    → P (temporals_flaws known parts) (all_goals (temporal_row (temporals_of known parts)))
    → P (temporals_flaws known parts) (any_goal (temporal_row (temporals_of known parts)))
    → P (if count parts == 1 then temporals_flaws known parts else bad_list span) (goal_negation (first_temporal (temporals_of known parts)))
    → P (if count parts == 2 then temporals_flaws known parts else bad_list span)
    (goal_implication (first_temporal (temporals_of known parts)) (second_temporal (temporals_of known parts)))
    → P (quantified_flaws known (word head w parts) parts span) (formula_goal known (word head w parts))
    → P (plain_flaws known (word head w parts) span) (formula_goal known (word head w parts))
    → P (temporal_flaws known (word head w parts) span) (temporal_of known (word head w parts))
temporal_cases P known span head w parts p_unary p_binary p_all p_any p_not p_imply p_quantifier p_plain =
    elim (read_as w parts) as (λ k. P
    (elim k [
      | Unary operator ↦ if count parts == 1 then temporals_flaws known parts else bad_list span
      | Binary operator ↦ if count parts == 2 then temporals_flaws known parts else bad_list span
      | And ↦ temporals_flaws known parts
      | Or ↦ temporals_flaws known parts
      | Not ↦ if count parts == 1 then temporals_flaws known parts else bad_list span
      | Imply ↦ if count parts == 2 then temporals_flaws known parts else bad_list span
      | Quantifier ↦ quantified_flaws known (word head w parts) parts span
      | Plain ↦ plain_flaws known (word head w parts) span
    ])
    (elim k [
      | Unary operator ↦ unary operator (first_temporal (temporals_of known parts))
      | Binary operator ↦ binary operator (first_temporal (temporals_of known parts)) (second_temporal (temporals_of known parts))
      | And ↦ all_goals (temporal_row (temporals_of known parts))
      | Or ↦ any_goal (temporal_row (temporals_of known parts))
      | Not ↦ goal_negation (first_temporal (temporals_of known parts))
      | Imply ↦ goal_implication (first_temporal (temporals_of known parts)) (second_temporal (temporals_of known parts))
      | Quantifier ↦ formula_goal known (word head w parts)
      | Plain ↦ formula_goal known (word head w parts)
    ])) [
      | Unary operator ↦ p_unary operator
      | Binary operator ↦ p_binary operator
      | And ↦ p_all
      | Or ↦ p_any
      | Not ↦ p_not
      | Imply ↦ p_imply
      | Quantifier ↦ p_quantifier
      | Plain ↦ p_plain
    ]

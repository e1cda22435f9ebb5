-- How many steps the labels of a goal take, from those of its parts: e for each operator.
use Rattle.std.proofs.Common.{◌≡◌, ℕ, ◌+◌, ◌*◌, ◌<◌, List, ◌∷◌, length, drop, get_or, map, sym, ap, ◌∙◌, add-mul, one-mul}
use Rattle.std.proofs.lemmas.List.{drop_more}
use Rattle.std.specs.Prelude.{Box, Vec}
use Rattle.std.specs.declared.alloc.Global.{Global}
use Rattle.ctl_syntax.specs.Goals.{goal_row}
use Rattle.ctl_syntax.specs.Values.{ctl_value}
use Rattle.ctl_syntax.specs.declared.goals.Ctl.{Ctl}
use Rattle.ctl_syntax.specs.declared.goals.Ctl.TheVariants as Shut
use Rattle.ctl_syntax.proofs.Shapes.{value_All, value_Any, value_Imply, value_Not, value_Ax, value_Ex, value_Af, value_Ef, value_Ag, value_Eg, value_Au, value_Eu, value_Aw, value_Ew}
use Rattle.plan_check.specs.Operators.{operator_count, operator_count_of}

-- the steps of a goal
abbrev pub cost : ℕ → Ctl → ℕ
cost e goal = operator_count (ctl_value goal) * e

abbrev pub row_cost : ℕ → List Ctl → ℕ
row_cost e goals = operator_count_of (goal_row (map ctl_value goals)) * e

module _ (e : ℕ) (goal : Ctl) where
  same_cost : (part given : Ctl) → given ≡ part → cost e given ≡ cost e part
  same_cost part given is = ap (cost e) is

  one_part : (part : Box Ctl Global) (given : Ctl) → given ≡ part.value → operator_count (ctl_value goal) ≡ operator_count (ctl_value part.value) + 1 → cost e goal ≡ cost e given + e
  one_part part given is count =
      ap (λ k. k * e) count ∙ add-mul (operator_count (ctl_value part.value)) 1 e ∙ ap (λ k. operator_count (ctl_value part.value) * e + k) (one-mul e)
      ∙ ap (λ k. k + e) (sym (same_cost part.value given is))

  two_parts : (left right : Box Ctl Global) (first second : Ctl) → first ≡ left.value → second ≡ right.value
      → operator_count (ctl_value goal) ≡ operator_count (ctl_value left.value) + operator_count (ctl_value right.value) + 1 → cost e goal ≡ cost e first + cost e second + e
  two_parts left right first second is too count =
      ap (λ k. k * e) count
      ∙ add-mul (operator_count (ctl_value left.value) + operator_count (ctl_value right.value)) 1 e
      ∙ ap (λ k. k + 1 * e) (add-mul (operator_count (ctl_value left.value)) (operator_count (ctl_value right.value)) e)
      ∙ ap (λ k. operator_count (ctl_value left.value) * e + operator_count (ctl_value right.value) * e + k) (one-mul e)
      ∙ ap (λ k. k + operator_count (ctl_value right.value) * e + e) (sym (same_cost left.value first is))
      ∙ ap (λ k. cost e first + k + e) (sym (same_cost right.value second too))

  pub cost_Not : (part : Box Ctl Global) (given : Ctl) → given ≡ part.value → goal ≡ Shut.Not part → cost e goal ≡ cost e given
  cost_Not part given is shape = ap (λ t. operator_count t * e) (ap ctl_value shape ∙ value_Not part) ∙ sym (same_cost part.value given is)

  pub cost_All : (parts : Vec Ctl Global) (given : List Ctl) → given ≡ parts.items → goal ≡ Shut.All parts → cost e goal ≡ row_cost e given
  cost_All parts given is shape = ap (λ t. operator_count t * e) (ap ctl_value shape ∙ value_All parts) ∙ ap (row_cost e) (sym is)

  pub cost_Any : (parts : Vec Ctl Global) (given : List Ctl) → given ≡ parts.items → goal ≡ Shut.Any parts → cost e goal ≡ row_cost e given
  cost_Any parts given is shape = ap (λ t. operator_count t * e) (ap ctl_value shape ∙ value_Any parts) ∙ ap (row_cost e) (sym is)

  pub cost_Imply : (left right : Box Ctl Global) (first second : Ctl) → first ≡ left.value → second ≡ right.value → goal ≡ Shut.Imply left right → cost e goal ≡ cost e first + cost e second
  cost_Imply left right first second is too shape =
      ap (λ t. operator_count t * e) (ap ctl_value shape ∙ value_Imply left right)
      ∙ add-mul (operator_count (ctl_value left.value)) (operator_count (ctl_value right.value)) e
      ∙ ap (λ k. k + operator_count (ctl_value right.value) * e) (sym (same_cost left.value first is))
      ∙ ap (λ k. cost e first + k) (sym (same_cost right.value second too))

  pub cost_Ax : (part : Box Ctl Global) (given : Ctl) → given ≡ part.value → goal ≡ Shut.Ax part → cost e goal ≡ cost e given + e
  cost_Ax part given is shape = one_part part given is (ap operator_count (ap ctl_value shape ∙ value_Ax part))

  pub cost_Ex : (part : Box Ctl Global) (given : Ctl) → given ≡ part.value → goal ≡ Shut.Ex part → cost e goal ≡ cost e given + e
  cost_Ex part given is shape = one_part part given is (ap operator_count (ap ctl_value shape ∙ value_Ex part))

  pub cost_Af : (part : Box Ctl Global) (given : Ctl) → given ≡ part.value → goal ≡ Shut.Af part → cost e goal ≡ cost e given + e
  cost_Af part given is shape = one_part part given is (ap operator_count (ap ctl_value shape ∙ value_Af part))

  pub cost_Ef : (part : Box Ctl Global) (given : Ctl) → given ≡ part.value → goal ≡ Shut.Ef part → cost e goal ≡ cost e given + e
  cost_Ef part given is shape = one_part part given is (ap operator_count (ap ctl_value shape ∙ value_Ef part))

  pub cost_Ag : (part : Box Ctl Global) (given : Ctl) → given ≡ part.value → goal ≡ Shut.Ag part → cost e goal ≡ cost e given + e
  cost_Ag part given is shape = one_part part given is (ap operator_count (ap ctl_value shape ∙ value_Ag part))

  pub cost_Eg : (part : Box Ctl Global) (given : Ctl) → given ≡ part.value → goal ≡ Shut.Eg part → cost e goal ≡ cost e given + e
  cost_Eg part given is shape = one_part part given is (ap operator_count (ap ctl_value shape ∙ value_Eg part))

  pub cost_Au : (left right : Box Ctl Global) (first second : Ctl) → first ≡ left.value → second ≡ right.value → goal ≡ Shut.Au left right → cost e goal ≡ cost e first + cost e second + e
  cost_Au left right first second is too shape = two_parts left right first second is too (ap operator_count (ap ctl_value shape ∙ value_Au left right))

  pub cost_Eu : (left right : Box Ctl Global) (first second : Ctl) → first ≡ left.value → second ≡ right.value → goal ≡ Shut.Eu left right → cost e goal ≡ cost e first + cost e second + e
  cost_Eu left right first second is too shape = two_parts left right first second is too (ap operator_count (ap ctl_value shape ∙ value_Eu left right))

  pub cost_Aw : (left right : Box Ctl Global) (first second : Ctl) → first ≡ left.value → second ≡ right.value → goal ≡ Shut.Aw left right → cost e goal ≡ cost e first + cost e second + e
  cost_Aw left right first second is too shape = two_parts left right first second is too (ap operator_count (ap ctl_value shape ∙ value_Aw left right))

  pub cost_Ew : (left right : Box Ctl Global) (first second : Ctl) → first ≡ left.value → second ≡ right.value → goal ≡ Shut.Ew left right → cost e goal ≡ cost e first + cost e second + e
  cost_Ew left right first second is too shape = two_parts left right first second is too (ap operator_count (ap ctl_value shape ∙ value_Ew left right))

-- one goal of a list more
pub row_step : (e k : ℕ) (goals : List Ctl) (goal : Ctl) → k < length goals → get_or goals k goal ≡ goal → row_cost e (drop k goals) ≡ cost e goal + row_cost e (drop (k + 1) goals)
row_step e k goals goal l is =
    ap (row_cost e) (drop_more goals k goal l ∙ ap (λ g. g ∷ drop (k + 1) goals) is)
    ∙ add-mul (operator_count (ctl_value goal)) (operator_count_of (goal_row (map ctl_value (drop (k + 1) goals)))) e

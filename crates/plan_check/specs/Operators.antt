-- How many operators of computation tree logic a goal has: ax, ex, af, ef, ag, eg and the untils. Not,
-- and, or and implies are none.
use Rattle.std.specs.Prelude.{ℕ, ◌+◌}
use Rattle.ctl_syntax.specs.Goals.{CtlTree, CtlTrees, plain, negation, all, any, implication, ax}
use Rattle.ctl_syntax.specs.Goals.{ex, af, ef, ag, eg, au, eu, aw, ew, no_goal, goal_then}

abbrev mutual
  pub operator_count : {P : Type 0} → CtlTree P → ℕ
  operator_count (plain p) = 0
  operator_count (negation g) = operator_count g
  operator_count (all gs) = operator_count_of gs
  operator_count (any gs) = operator_count_of gs
  operator_count (implication g h) = operator_count g + operator_count h
  operator_count (ax g) = operator_count g + 1
  operator_count (ex g) = operator_count g + 1
  operator_count (af g) = operator_count g + 1
  operator_count (ef g) = operator_count g + 1
  operator_count (ag g) = operator_count g + 1
  operator_count (eg g) = operator_count g + 1
  operator_count (au g h) = operator_count g + operator_count h + 1
  operator_count (eu g h) = operator_count g + operator_count h + 1
  operator_count (aw g h) = operator_count g + operator_count h + 1
  operator_count (ew g h) = operator_count g + operator_count h + 1

  -- and how many some goals have together
  pub operator_count_of : {P : Type 0} → CtlTrees P → ℕ
  operator_count_of no_goal = 0
  operator_count_of (goal_then g gs) = operator_count g + operator_count_of gs

-- Conditions as plain trees: a `Vec` is the list of its items. Copies of a condition have one tree.
use Rattle.std.specs.Prelude.{ℕ, Bool, List, [], ◌∷◌, map}
use Rattle.task_core.specs.Conditions.{holds}
use Rattle.task_core.specs.Vectors.{Vector, value_of}
use Rattle.task_core.specs.declared.conditions.Cond.{Cond}
use Rattle.task_core.specs.declared.conditions.Cond.TheOpen.{Cond-F, Yes, No, Is, Not, All, Any}
use Rattle.task_core.specs.declared.conditions.Cond.TheFolds.{fold-Cond}

-- a condition on fluents, and a list of conditions
mutual
  pub data CondTree : Type 0 where
    yes_always : CondTree
    no_never : CondTree
    is_fluent_true : ℕ → CondTree
    not_so : CondTree → CondTree
    all_of : CondTrees → CondTree
    any_of : CondTrees → CondTree

  pub data CondTrees : Type 0 where
    no_condition : CondTrees
    condition_then : CondTree → CondTrees → CondTrees

abbrev pub condition_row : List CondTree → CondTrees
condition_row [] = no_condition
condition_row (c ∷ cs) = condition_then c (condition_row cs)

-- one layer of a condition, with the trees of its parts in their place
abbrev pub condition_step : Cond-F CondTree → CondTree
condition_step Yes = yes_always
condition_step No = no_never
condition_step (Is f) = is_fluent_true f.0
condition_step (Not part) = not_so part.value
condition_step (All parts) = all_of (condition_row parts.items)
condition_step (Any parts) = any_of (condition_row parts.items)

abbrev pub condition_value : Cond → CondTree
condition_value = fold-Cond CondTree condition_step

-- the conjunction of some conditions: the `All` of them in order, also of one
abbrev pub all_conditions : List Cond → CondTree
all_conditions conds = all_of (condition_row (map condition_value conds))

-- the states in which a condition holds
abbrev pub states_of : Cond → Vector → Bool
states_of cond v = holds cond (value_of v)

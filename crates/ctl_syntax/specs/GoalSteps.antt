-- Private: what the functions that take an until-chain or a patrol goal apart give.
use Rattle.std.specs.Prelude.{◌==◌, ◌&&◌, not, length, Bool, true, false, List, [], ◌∷◌, ◌++◌, map, Option, Some}
use Rattle.std.specs.Prelude.{None, is_some, option_to_list}
use Rattle.std.specs.List.{list_all}
use Rattle.std.specs.Option.{option_map}
use Rattle.task_core.specs.declared.conditions.Cond.{Cond}
use Rattle.ctl_syntax.specs.Conditions.{CondTree, condition_value}
use Rattle.ctl_syntax.specs.GoalValues.{GoalTree, UntilTree, patrol_goal, until_conditions}
use Rattle.ctl_syntax.specs.Goals.{CtlTree, plain, af}
use Rattle.ctl_syntax.specs.UntilChains.{GuardedStage, PlainUntil}

-- Private: whether the goal is without operators
abbrev pub is_plain : {P : Type 0} → CtlTree P → Bool
is_plain (plain p) = true
is_plain _ = false

-- Private: whether there are goals, and all of them are
abbrev pub is_stage_row : {P : Type 0} → List (CtlTree P) → Bool
is_stage_row gs = not (length gs == 0) && list_all is_plain gs

-- Private: the propositions of those of the goals that are without operators
abbrev pub plain_parts : {P : Type 0} → List (CtlTree P) → List P
plain_parts [] = []
plain_parts (plain p ∷ gs) = p ∷ plain_parts gs
plain_parts (g ∷ gs) = plain_parts gs

-- Private: more stages before those of the until-chain
abbrev pub after_guarded : List (GuardedStage CondTree) → UntilTree → UntilTree
after_guarded front chain = record { stages = front ++ chain.stages; keep = chain.keep }

-- Private: the conditions of an until-chain, if there is one, after these stages
abbrev pub guarded_then : List (GuardedStage CondTree) → Option (PlainUntil Cond) → Option UntilTree
guarded_then front chain =
    option_map (λ parts. after_guarded front (until_conditions parts)) chain

-- Private: the conditions of a patrol goal
abbrev pub patrol_conditions : List Cond → GoalTree
patrol_conditions conds = patrol_goal (map condition_value conds)

-- Private: the proposition that a goal is, where it has no operators
abbrev pub proposition_of : {P : Type 0} → CtlTree P → Option P
proposition_of (plain p) = Some p
proposition_of _ = None

-- Private: the proposition that a goal says comes about, where it says that
abbrev pub visit_of : {P : Type 0} → CtlTree P → Option P
visit_of (af g) = proposition_of g
visit_of _ = None

-- Private: whether it says that
abbrev pub is_visit : {P : Type 0} → CtlTree P → Bool
is_visit g = is_some (visit_of g)

-- Private: whether there are goals, and each says that
abbrev pub is_visit_row : {P : Type 0} → List (CtlTree P) → Bool
is_visit_row gs = not (length gs == 0) && list_all is_visit gs

-- Private: the propositions that these goals say come about
abbrev pub visit_parts : {P : Type 0} → List (CtlTree P) → List P
visit_parts [] = []
visit_parts (g ∷ gs) = option_to_list (visit_of g) ++ visit_parts gs

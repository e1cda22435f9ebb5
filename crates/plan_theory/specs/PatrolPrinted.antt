-- The plan that is printed for a patrol goal: it makes one visit after another, each in a context of
-- its own, and begins again after the last.
use Rattle.std.specs.Prelude.{ℕ, suc, ◌-◌, ◌==◌, ◌&&◌, false, List, [], ◌∷◌, Option, get_or, length}
use Rattle.std.specs.Prelude.{if◌then◌else◌}
use Rattle.std.specs.List.{find}
use Rattle.task_core.specs.Cubes.{SetOfVectors}
use Rattle.task_core.specs.Systems.{System}
use Rattle.task_core.specs.Vectors.{Vector}
use Rattle.plan_rules.specs.Rules.{ContextRule}
use Rattle.plan_theory.specs.ContextRules.{StatesOfRules, context_rules}
use Rattle.plan_theory.specs.GuardedSets.{guarded_action}
use Rattle.plan_theory.specs.LayerPlans.{is_action}
use Rattle.plan_theory.specs.Layers.{action_numbers, must_lead}
use Rattle.plan_theory.specs.Patrols.{patrol_set, visited}

-- the visit of context c; number 1 is the first
abbrev pub visit_in : List SetOfVectors → ℕ → SetOfVectors
visit_in visits c = get_or visits (c - 1) (λ v. false)

-- the context after context c of so many: after the last one the first
abbrev pub context_after : ℕ → ℕ → ℕ
context_after count c = if c == count then 1 else suc c

-- the next context: where the visit is made, the one after
abbrev pub patrol_next : List SetOfVectors → ℕ → Vector → ℕ
patrol_next visits c v = if visit_in visits c v then context_after (length visits) c else c

-- the least-numbered action that stays within the states of the plan
abbrev pub patrol_stay : System → List SetOfVectors → Vector → Option ℕ
patrol_stay sys visits v =
    find (must_lead sys (patrol_set sys visits) v) (action_numbers sys)

-- the action nearer to a visit
abbrev pub patrol_towards : System → List SetOfVectors → SetOfVectors → Vector → Option ℕ
patrol_towards sys visits visit v =
    guarded_action sys (patrol_set sys visits) (visited sys (patrol_set sys visits) visit) v

-- the action of a state in context c: where the visit is made it stays, elsewhere it leads nearer
abbrev pub patrol_action : System → List SetOfVectors → ℕ → Vector → Option ℕ
patrol_action sys visits c v =
    if visit_in visits c v then patrol_stay sys visits v
    else patrol_towards sys visits (visit_in visits c) v

-- the states in which, in context c, action a is taken and context j is the next one
abbrev pub patrol_states : System → List SetOfVectors → StatesOfRules
patrol_states sys visits c j a v =
    patrol_set sys visits v
    && ((patrol_next visits c v == j) && is_action a (patrol_action sys visits c v))

-- the next contexts of context c of so many, rising: its own number, and the context after it
abbrev pub patrol_nexts : ℕ → ℕ → List ℕ
patrol_nexts count c =
    if c == count then (if count == 1 then 1 ∷ [] else 1 ∷ count ∷ [])
    else c ∷ suc c ∷ []

-- the rules of the plan
abbrev pub patrol_rules : System → List SetOfVectors → List ContextRule
patrol_rules sys visits =
    context_rules sys (patrol_states sys visits) (patrol_nexts (length visits)) (length visits)

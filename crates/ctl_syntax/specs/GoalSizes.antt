-- How large the goals are that plans with contexts are looked for: the stages of an until-chain, the
-- visits of a patrol goal.
use Rattle.std.specs.Prelude.{ℕ, ◌≤◌, ⊤, length}
use Rattle.ctl_syntax.specs.declared.context_goals.ContextGoal.{ContextGoal}
use Rattle.ctl_syntax.specs.declared.context_goals.ContextGoal.TheVariants.{Until, Patrol}

-- how many stages an until-chain may have, and how many visits a patrol goal
abbrev pub most_stages : ℕ
most_stages = 32

abbrev pub most_visits : ℕ
most_visits = 8

-- how many stages or visits a goal has, and how many it may have
abbrev pub count_of : ContextGoal → ℕ
count_of (Until chain) = length chain.stages.items
count_of (Patrol visits) = length visits.items

abbrev pub most_of : ContextGoal → ℕ
most_of (Until chain) = most_stages
most_of (Patrol visits) = most_visits

-- a patrol goal has a visit
abbrev pub HasSomeVisit : ContextGoal → Type 0
HasSomeVisit (Until chain) = ⊤
HasSomeVisit (Patrol visits) = 1 ≤ length visits.items

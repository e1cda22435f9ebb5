-- Private: the sets of states of a search, round by round and action by action. Contexts and stages
-- are counted from 0 here.
use Rattle.std.specs.Prelude.{ℕ, ◌+◌, ◌==◌, ◌&&◌, ◌||◌, drop, nat_le}
use Rattle.std.specs.List.{find, list_any, range_with_len}
use Rattle.plan_theory.specs.Layers.{action_numbers, must_lead}
use Rattle.plan_theory.specs.LayerPlans.{is_action}
use Rattle.plan_theory.specs.Safe.{safe_round, safe_set, some_must_lead}
use Rattle.plan_theory.specs.StageSets.{near as near_within, stage_set}
use Rattle.plan_theory.specs.UntilChains.{UntilSets, until_met_count, until_win}
use Rattle.task_core.specs.Cubes.{SetOfVectors}
use Rattle.task_core.specs.Systems.{System}
use Rattle.context_plan.specs.declared.rounds.Way.{Way}
use Rattle.context_plan.specs.declared.rounds.Way.TheVariants.{Growing, Shrinking}

-- one round: of a set that shrinks to what can be kept, or grows by what leads into it
abbrev pub turn : Way → System → SetOfVectors → SetOfVectors
turn Shrinking sys set v = set v && some_must_lead sys set v
turn Growing sys set v = set v || some_must_lead sys set v

-- so many rounds, and all of them
abbrev pub turns : Way → System → SetOfVectors → ℕ → SetOfVectors
turns Shrinking = safe_round
turns Growing = near_within

abbrev pub last_turn : Way → System → SetOfVectors → SetOfVectors
last_turn Shrinking = safe_set
last_turn Growing = stage_set

-- one round as far as the first n actions have it
abbrev pub turn_by : Way → System → SetOfVectors → ℕ → SetOfVectors
turn_by Shrinking sys set n v = set v && list_any (must_lead sys set v) (range_with_len 0 n)
turn_by Growing sys set n v = set v || list_any (must_lead sys set v) (range_with_len 0 n)

-- what one action adds to it: where it leads into the set; of a set that shrinks, its own states
-- alone
abbrev pub hits_by : Way → SetOfVectors → SetOfVectors → SetOfVectors
hits_by Shrinking set hits v = set v && hits v
hits_by Growing set hits v = hits v

-- the least-numbered action that leads into a set
abbrev pub first_lead : System → SetOfVectors → SetOfVectors → ℕ → SetOfVectors
first_lead sys set rest a v =
    rest v && is_action a (find (must_lead sys set v) (action_numbers sys))

-- the states of a context in which the stages before stage j are met, and those of them in which
-- stage j isn't
abbrev pub from_stage : System → UntilSets → ℕ → ℕ → SetOfVectors
from_stage sys chain c j v = until_win sys chain.keep (drop c chain.stages) v
    && nat_le j (c + until_met_count sys chain.keep (drop c chain.stages) v)

abbrev pub turning_at : System → UntilSets → ℕ → ℕ → SetOfVectors
turning_at sys chain c j v = until_win sys chain.keep (drop c chain.stages) v
    && (c + until_met_count sys chain.keep (drop c chain.stages) v == j)

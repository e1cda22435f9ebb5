-- The rounds by which the largest set of pairs is found (Cimatti, Pistore, Roveri, Traverso 2003):
-- each keeps the pairs that don't lead out of the states of the round before, and then the states
-- from which these pairs reach the goal.
use Rattle.std.specs.Prelude.{◌≡◌, ℕ, zero, suc, ◌^◌, true, not, ◌&&◌}
use Rattle.task_core.specs.Vectors.{Vector}
use Rattle.task_core.specs.Systems.{System, IsVector}
use Rattle.task_core.specs.Cubes.{SetOfVectors}
use Rattle.task_core.specs.declared.classes.Class.TheVariants.{Weak}
use Rattle.plan_theory.specs.Layers.{layer, must_lead}
use Rattle.plan_theory.specs.Pairs.{Pairs, is_goal, restricted}

-- the pairs of states of the set, outside the goal, all of whose outcomes lie in the set
abbrev pub kept : System → SetOfVectors → Pairs
kept sys set v a = set v && (not (is_goal sys v) && must_lead sys set v a)

-- the states from which the goal is reached in at most k steps by pairs of the set
abbrev pub progress : System → Pairs → ℕ → SetOfVectors
progress sys pairs k = layer Weak (restricted sys pairs) k

-- those from which it is reached at all: no way to the goal is longer than there are states
abbrev pub connected : System → Pairs → SetOfVectors
connected sys pairs = progress sys pairs (2 ^ sys.fluents)

-- what is left after so many rounds: at first all vectors, and then states
abbrev pub round : System → ℕ → SetOfVectors
round sys zero v = true
round sys (suc r) v = connected sys (kept sys (round sys r)) v

-- round r leaves the same vectors as the next one
abbrev pub IsLastRound : System → ℕ → Type 0
IsLastRound sys r = (v : Vector) → IsVector sys v → round sys (suc r) v ≡ round sys r v

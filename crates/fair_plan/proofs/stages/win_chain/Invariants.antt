use Rattle.std.proofs.Common.{◌≡◌, drop, map}
use Rattle.ctl_syntax.specs.Conditions.{states_of}
use Rattle.ctl_syntax.specs.GoalValues.{stage_sets}
use Rattle.fair_theory.specs.FairSets.{IsChainWin}
use Rattle.fair_plan.specs.Boards.{IsThere, Origin, actions_of, states_in, sys_of}
use Rattle.fair_plan.specs.Places.{win_place}
use Rattle.fair_plan.proofs.stages.win_chain.Given as goal

-- the stages from one on can be met from the states at its place
abbrev pub invariant-loop-i : goal.invariant-loop-i
invariant-loop-i l = (origin : Origin) → IsThere origin (l.fn.enc, l.fn.board.slots.items) → origin.count ≡ l.fn.count
    → IsThere origin (l.enc, l.board.slots.items)
    × IsChainWin (sys_of origin) (states_of l.fn.chain.keep) (drop l.i (map stage_sets l.fn.chain.stages.items)) (states_in (l.enc, l.board.slots.items) (win_place (actions_of origin) l.i))

use Rattle.context_plan.specs.Scenes.{IsReady, Start}
use Rattle.context_plan.specs.Sizes.{EverySetIsSmall}
use Rattle.context_plan.specs.Steps.{Chooses}
use Rattle.context_plan.proofs.rule_states.choose_all.Given as goal

abbrev pub invariant-loop-a : goal.invariant-loop-a
invariant-loop-a l = (start : Start) → IsReady start (l.fn.enc, l.fn.board.slots.items) → EverySetIsSmall start → Chooses start (l.fn.enc, l.fn.board.slots.items) (l.enc, l.board.slots.items) l.fn.takers l.fn.place l.a

-- Each alternative so far leads to it.
use Rattle.std.proofs.Common.{take}
use Rattle.std.specs.List.{All}
use Rattle.task_core.specs.States.{truth}
use Rattle.task_core.specs.declared.actions.Alternative.{Alternative}
use Rattle.mutex_groups.specs.Starts.{LeadsTo}
use Rattle.mutex_groups.proofs.starts.all_lead_to.Given as goal

abbrev pub invariant-loop-alternative : goal.invariant-loop-alternative
invariant-loop-alternative l = All (λ (a : Alternative). LeadsTo (truth l.members) l.known l.after a.lits.items) (take l.alternative-index l.entry)

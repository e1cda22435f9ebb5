use Rattle.std.proofs.Common.{◌∙◌, sym}
use Rattle.task_core.specs.States.{truth}
use Rattle.mutex_groups.proofs.StartLemmas.{none_added, one_added}
use Rattle.mutex_groups.proofs.starts.known_from_none.Goals as goal

pub returns-in-None : goal.returns-in-None
returns-in-None c = none_added (truth c.args.members.now) c.args.lits.now c.in-None.ensures.none

pub returns-then-not-adds_other : goal.returns-then-not-adds_other
returns-then-not-adds_other c =
    one_added (truth c.args.members.now) c.args.lits.now c.in-Some.fluent.0 c.in-Some.ensures.some.1 (sym c.names.ensures ∙ c.if-names.true) (sym c.adds_other.ensures ∙ c.if-not-adds_other.true)

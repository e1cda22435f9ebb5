-- A set is the function of its number, read through the order.
use Rattle.std.proofs.Common.{ap, ◌∙◌}
use Rattle.dd_nodes.specs.NodeList.{function}
use Rattle.dd_nodes.specs.Table.{NodeTable}
use Rattle.task_core.specs.States.{truth}
use Rattle.dd_sets.specs.Orders.{read}
use Rattle.dd_sets.proofs.SlotLemmas.{number_set}
use Rattle.dd_sets.proofs.sets.Sets.holds.Goals as goal

pub returns-clause-answer : goal.returns-clause-answer
returns-clause-answer c =
    c.is_member.ensures
    ∙ ap (λ (t : NodeTable). read c.self.inside.order.fluents (function t.nodes c.number.result.0) (truth c.args.s.now)) c.table.ensures.value
    ∙ ap (λ f. f (truth c.args.s.now)) (number_set c.self.view_is c.args.a.0 c.number.result c.number.ensures.number)

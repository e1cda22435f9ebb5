-- A set is the function of its number, read through the order.
use Rattle.std.proofs.Common.{◌≡◌, List, map, IfOk, Vec, Global, ap, ◌∙◌, subst}
use Rattle.dd_nodes.specs.NodeList.{function}
use Rattle.dd_nodes.specs.Table.{NodeTable}
use Rattle.task_core.specs.Cubes.{cubes_of}
use Rattle.task_core.specs.Vectors.{value_of}
use Rattle.task_core.specs.declared.literals.Lit.{Lit}
use Rattle.dd_sets.specs.Orders.{read}
use Rattle.dd_sets.proofs.SlotLemmas.{number_set}
use Rattle.dd_sets.proofs.sets.Sets.cubes.Goals as goal

pub returns-clause-answer : goal.returns-clause-answer
returns-clause-answer c =
    subst (λ (listed : List (List Lit)). IfOk c.cubes_of_number.result (λ (cubes : Vec (Vec Lit Global) Global). map (λ (cube : Vec Lit Global). cube.items) cubes.items ≡ listed))
    (ap (λ (t : NodeTable). cubes_of t.vars (λ state. read c.self.inside.order.fluents (function t.nodes c.number-number.result.0) (value_of state))) c.table.ensures.value
    ∙ (λ i. cubes_of (c.self.view_is i).vars (λ state. number_set c.self.view_is c.args.a.0 c.number-number.result c.number-number.ensures.number i (value_of state))))
    c.cubes_of_number.ensures.cubes

-- A constant is the same in every order.
use Rattle.std.proofs.Common.{◌≡◌, List, ap, sym, ◌∙◌}
use Rattle.dd_nodes.specs.NodeList.{function}
use Rattle.dd_nodes.specs.Subfunctions.{Function}
use Rattle.task_core.specs.Cubes.{cubes_of}
use Rattle.task_core.specs.Vectors.{value_of}
use Rattle.dd_sets.proofs.RebuildLemmas.{read_constant}
use Rattle.dd_sets.proofs.cubes.cubes_of_number.Goals as goal

pub returns-then-number-lt2-clause-cubes : goal.returns-then-number-lt2-clause-cubes
returns-then-number-lt2-clause-cubes c =
    c.in_ok-cubes-2.ensures ∙ sym (ap (λ (f : Function). cubes_of c.args.dd.now.vars (λ state. f (value_of state)))
    (read_constant c.args.dd.now.nodes c.args.order.now.fluents c.args.number.0 c.if-number-lt2.true))

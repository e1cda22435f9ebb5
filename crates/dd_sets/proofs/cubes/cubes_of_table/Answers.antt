-- From the first fluent on, with no path before.
use Rattle.std.proofs.Common.{map, ap, refl, Vec, Global}
use Rattle.dd_nodes.specs.NodeList.{function}
use Rattle.task_core.specs.declared.literals.Lit.{Lit}
use Rattle.dd_sets.proofs.CubeLemmas.{all_cubes}
use Rattle.dd_sets.proofs.cubes.cubes_of_table.Goals as goal

pub returns : goal.returns
returns c =
    all_cubes c.args.dd.now.vars c.args.dd.now.nodes c.args.number.0 (function c.args.dd.now.nodes c.args.number.0) refl
    c.new-path.result.items (map (λ (cube : Vec Lit Global). cube.items) c.new-cubes.result.items) (map (λ (cube : Vec Lit Global). cube.items) c.walk.new.cubes.items)
    c.new-path.ensures.items (ap (map (λ (cube : Vec Lit Global). cube.items)) c.new-cubes.ensures.items)
    c.in_ok-walk.ensures.cubes

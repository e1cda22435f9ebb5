use Rattle.std.proofs.Common.{Bor, List, subst, sym}
use Rattle.std.specs.List.{All}
use Rattle.task_core.specs.Tasks.{action_count, fluent_count}
use Rattle.task_core.specs.declared.literals.Lit.{Lit}
use Rattle.cube_index.specs.Index.{AreLits}
use Rattle.exec_graph.proofs.Skipped.{cubes_fit}
use Rattle.exec_graph.proofs.rules.table_index.Goals as goal
use Rattle.list_laws.proofs.Elements.{All-unmap}

pub new-requires : goal.new-requires
new-requires c =
    subst (All (λ (cube : Bor (List Lit)). AreLits cube.now)) (sym c.deref.ensures.value)
    (All-unmap AreLits (λ (cube : Bor (List Lit)). cube.now) c.in_ok-cubes.cubes.items
    (subst (All AreLits) (sym c.in_ok-cubes.ensures)
    (cubes_fit (fluent_count c.args.task.now) (action_count c.args.task.now) c.args.rules.now c.args.task.now.few_fluents c.requires.in_task)))

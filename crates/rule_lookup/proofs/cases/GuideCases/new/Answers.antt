use Rattle.std.proofs.Common.{List, Bor, subst, sym}
use Rattle.std.specs.List.{All}
use Rattle.task_core.specs.declared.literals.Lit.{Lit}
use Rattle.plan_rules.specs.declared.rules.Case.{Case}
use Rattle.cube_index.specs.Index.{AreLits}
use Rattle.rule_lookup.proofs.InTask.{lits_mapped}
use Rattle.rule_lookup.proofs.cases.GuideCases.new.Goals as goal
use Rattle.list_laws.proofs.Elements.{All-unmap}

pub new-requires : goal.new-requires
new-requires c =
    let seen = λ (cube : Bor (List Lit)). cube.now in
    subst (All (λ (cube : Bor (List Lit)). AreLits cube.now)) (sym c.deref.ensures.value)
    (All-unmap AreLits seen c.in_ok-cubes.cubes.items
    (lits_mapped (λ (case : Case). case.cube.items) c.args.cases.now _ c.in_ok-cubes.ensures c.requires.lits))

use Rattle.std.proofs.Common.{◌≡◌, ◌∙◌, ℕ, List, ap, map, subst, sym}
use Rattle.std.specs.List.{filter}
use Rattle.std.specs.Prelude.{IfOk}
use Rattle.list_laws.proofs.Elements.{map-map}
use Rattle.pddl_ast.specs.Trees.{SchemaTree}
use Rattle.pddl_ast.specs.Values.{schema_value}
use Rattle.pddl_ast.specs.declared.trees.Schema.{Schema}
use Rattle.relaxed_reach.specs.Literals.{has}
use Rattle.never_executed.specs.NeverRuns.{never_runs}
use Rattle.never_executed.specs.declared.finding.NeverRun.{NeverRun}
use Rattle.never_executed.proofs.finding.never_run.Goals as goal

pub returns-clause-names : goal.returns-clause-names
returns-clause-names c =
    let setup = c.args.setup.now in
    let actions = setup.domain.now.actions.items in
    let e : map (λ (s : Schema). s.name) c.deref.result.now ≡ map (λ (s : SchemaTree). s.name) (map schema_value actions) =
    ap (map (λ (s : Schema). s.name)) c.deref.ensures.value ∙ sym (map-map (λ (s : SchemaTree). s.name) schema_value actions) in
    subst
    (λ (names : List (List ℕ)).
    IfOk c.found_among.result (λ found. map (λ (never : NeverRun). never.schema.now.name) found.items ≡ filter (never_runs setup.task.now (has setup.literals.now)) names))
    e c.found_among.ensures.names

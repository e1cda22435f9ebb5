use Rattle.std.proofs.Common.{◌≡◌, Option, subst, sym}
use Rattle.task_core.specs.Tasks.{fluent_count}
use Rattle.counterexamples.specs.Values.{run_found_value, source_value}
use Rattle.counterexamples.specs.declared.findings.Found.{Found}
use Rattle.explain_command.specs.Documents.{told_of}
use Rattle.explain_command.specs.FindingValues.{told_value}
use Rattle.explain_command.proofs.documents.told_if_found.Goals as goal

pub returns-in-None : goal.returns-in-None
returns-in-None c =
    let source = source_value c.args.source.now in
    subst (λ (o : Option Found). told_value c.nothing_told.result ≡ told_of source (run_found_value (fluent_count c.args.source.now.task.now) o)) (sym c.in-None.is) (c.nothing_told.ensures source)

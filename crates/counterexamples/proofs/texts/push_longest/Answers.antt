use Rattle.std.proofs.Common.{◌≡◌, ◌++◌, Option, string_bytes, subst, sym}
use Rattle.std.proofs.lemmas.List.{append-nil}
use Rattle.task_core.specs.Tasks.{fluent_count}
use Rattle.counterexamples.specs.Texts.{longest_text}
use Rattle.counterexamples.specs.Values.{run_found_value, source_value}
use Rattle.counterexamples.specs.declared.findings.Found.{Found}
use Rattle.counterexamples.proofs.texts.push_longest.Goals as goal

pub returns-in-None : goal.returns-in-None
returns-in-None c =
    let source = c.args.source.now in
    subst (λ (o : Option Found). string_bytes c.args.out.now ≡ string_bytes c.args.out.now ++ longest_text (source_value source) (run_found_value (fluent_count source.task.now) o))
    (sym c.in-None.is) (sym (append-nil (string_bytes c.args.out.now)))

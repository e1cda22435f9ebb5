use Rattle.std.proofs.Common.{◌≡◌, ◌++◌, OnOk, Option, string_bytes, subst, sym}
use Rattle.std.specs.Option.{option_map}
use Rattle.std.proofs.lemmas.List.{append-nil}
use Rattle.task_core.specs.Tasks.{fluent_count}
use Rattle.counterexamples.specs.Texts.{run_text}
use Rattle.counterexamples.specs.Values.{run_found_value, source_value, stays_value}
use Rattle.counterexamples.specs.declared.findings.Found.{Found}
use Rattle.counterexamples.proofs.texts.push_run.Goals as goal

pub returns-in-Some : goal.returns-in-Some
returns-in-Some c =
    let source = c.args.source.now in
    subst (λ (o : Option Found). OnOk c.push_found.result (string_bytes c.push_found.new.out ≡ string_bytes c.args.out.now ++ run_text (source_value source) (option_map stays_value c.args.stays.now) (run_found_value (fluent_count source.task.now) o)))
    (sym c.in-Some.is) c.push_found.ensures

pub returns-in-None : goal.returns-in-None
returns-in-None c =
    let source = c.args.source.now in
    subst (λ (o : Option Found). string_bytes c.args.out.now ≡ string_bytes c.args.out.now ++ run_text (source_value source) (option_map stays_value c.args.stays.now) (run_found_value (fluent_count source.task.now) o))
    (sym c.in-None.is) (sym (append-nil (string_bytes c.args.out.now)))

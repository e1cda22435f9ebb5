use Rattle.std.proofs.Common.{◌++◌, ◌∙◌, ap, string_bytes, sym, take}
use Rattle.std.specs.List.{flat_map}
use Rattle.list_laws.proofs.Elements.{pushed_two}
use Rattle.counterexamples.specs.Values.{source_value}
use Rattle.task_core.specs.Tasks.{fluent_count}
use Rattle.trace.specs.Texts.{made_lines}
use Rattle.trace.specs.Values.{made_value, mades_value}
use Rattle.trace.proofs.Pushed.{lines_more}
use Rattle.trace.proofs.texts.push_mades.Goals as goal

pub loop-made-preserved : goal.loop-made-preserved
loop-made-preserved c =
    let n = fluent_count c.args.source.now.task.now in
    let line = made_lines (source_value c.args.source.now) in
    let steps = c.args.steps.now in
    let i = c.loop-made.made-index in
    let made = c.made-item.result in
    let old = string_bytes c.args.out.now in
    pushed_two old (flat_map line (mades_value n (take i steps))) (line (made_value n made)) (string_bytes c.loop-made.out) (string_bytes c.push_made.new.out) c.loop-made.invariant c.in_ok-push_made.ensures
    ∙ ap (λ lines. old ++ lines) (sym (lines_more line n steps i made c.loop-made-test.true c.made-item.is))

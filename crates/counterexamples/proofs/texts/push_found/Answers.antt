use Rattle.std.proofs.Common.{string_bytes}
use Rattle.std.specs.Option.{option_map}
use Rattle.task_core.specs.Tasks.{fluent_count, fluent_names}
use Rattle.plan_rules.specs.Texts.{line_feed}
use Rattle.counterexamples.specs.Texts.{initial_line, record_line, sentence, stays_line, steps_text}
use Rattle.counterexamples.specs.Values.{found_value, source_value, stays_value}
use Rattle.counterexamples.proofs.Pushed.{pushed_six}
use Rattle.counterexamples.proofs.texts.push_found.Goals as goal

pub returns : goal.returns
returns c =
    let task = c.args.source.now.task.now in
    let source = source_value c.args.source.now in
    let n = fluent_count task in
    let found = found_value n c.args.found.now in
    pushed_six c.push_record.result (string_bytes c.args.out.now) (initial_line (fluent_names task) found.number found.run.start.state) (steps_text source 1 found.run.start.state found.run.steps) (sentence source found) line_feed
    (stays_line (option_map stays_value c.args.stays.now)) (record_line source.plan found.number found.run) (string_bytes c.push_initial.new.out) (string_bytes c.push_steps.new.out) (string_bytes c.push_sentence.new.out)
    (string_bytes c.push_str.new.self) (string_bytes c.push_stays.new.out) (string_bytes c.push_record.new.out) c.in_ok-push_initial.ensures c.in_ok-push_steps.ensures (c.in_ok-push_sentence.ensures n) c.in_ok-push_str.ensures.bytes
    c.in_ok-push_stays.ensures c.push_record.ensures

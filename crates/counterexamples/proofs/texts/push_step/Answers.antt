use Rattle.std.proofs.Common.{◌≡◌, ◌++◌, string_bytes}
use Rattle.list_laws.proofs.Elements.{pushed_four, pushed_two}
use Rattle.list_laws.proofs.Options.{on_ok}
use Rattle.task_core.specs.States.{vector}
use Rattle.task_core.specs.Tasks.{fluent_count, fluent_names}
use Rattle.plan_rules.specs.Texts.{line_feed}
use Rattle.plan_witness.specs.Values.{step_value}
use Rattle.state_text.specs.Texts.{changes_text, number_text}
use Rattle.counterexamples.specs.Texts.{context_note, move_text, step_lines}
use Rattle.counterexamples.specs.Values.{source_value}
use Rattle.counterexamples.proofs.texts.push_step.Goals as goal

pub returns : goal.returns
returns c =
    let task = c.args.source.now.task.now in
    let source = source_value c.args.source.now in
    let n = fluent_count task in
    let step = step_value n c.args.step.now in
    let numbered = number_text c.args.number in
    let moved = move_text source step in
    let noted = context_note source.plan c.args.step.now.context in
    let changed = changes_text (fluent_names task) (vector n c.args.before.now) (vector n c.args.step.now.state) in
    let old = string_bytes c.args.out.now in
    let m1 = string_bytes c.push_step_number.new.out in
    let m2 = string_bytes c.push_move.new.out in
    let m3 = string_bytes c.push_context.new.out in
    let m4 = string_bytes c.push_str.new.self in
    let new = string_bytes c.push_changes.new.out in
    on_ok c.push_changes.result (new ≡ m4 ++ changed) (new ≡ old ++ step_lines source c.args.number (vector n c.args.before.now) step)
    (λ last. pushed_two old (((numbered ++ moved) ++ noted) ++ line_feed) changed m4 new
    (pushed_four old numbered moved noted line_feed m1 m2 m3 m4 c.in_ok-push_step_number.ensures (c.in_ok-push_move.ensures n) c.in_ok-push_context.ensures c.in_ok-push_str.ensures.bytes) last)
    c.push_changes.ensures

use Rattle.std.proofs.Common.{◌≡◌, ◌++◌, string_bytes}
use Rattle.list_laws.proofs.Elements.{pushed_four, pushed_two}
use Rattle.list_laws.proofs.Options.{on_ok}
use Rattle.task_core.specs.States.{vector}
use Rattle.task_core.specs.Tasks.{fluent_count, fluent_names}
use Rattle.counterexamples.specs.Values.{source_value}
use Rattle.plan_rules.specs.Texts.{line_feed}
use Rattle.state_text.specs.Texts.{changes_text, number_text}
use Rattle.trace.specs.Texts.{made_lines, move_text, next_note}
use Rattle.trace.specs.Values.{made_value}
use Rattle.trace.proofs.texts.push_made.Goals as goal

pub returns : goal.returns
returns c =
    let task = c.args.source.now.task.now in
    let source = source_value c.args.source.now in
    let n = fluent_count task in
    let code = c.args.made.now in
    let made = made_value n code in
    let numbered = number_text code.step.number in
    let moved = move_text source made in
    let noted = next_note source.plan code.context in
    let changed = changes_text (fluent_names task) (vector n code.step.before) (vector n code.step.after) in
    let old = string_bytes c.args.out.now in
    let m1 = string_bytes c.push_step_number.new.out in
    let m2 = string_bytes c.push_move.new.out in
    let m3 = string_bytes c.push_next.new.out in
    let m4 = string_bytes c.push_str.new.self in
    let new = string_bytes c.push_changes.new.out in
    on_ok c.push_changes.result (new ≡ m4 ++ changed) (new ≡ old ++ made_lines source made)
    (λ last. pushed_two old (((numbered ++ moved) ++ noted) ++ line_feed) changed m4 new
    (pushed_four old numbered moved noted line_feed m1 m2 m3 m4 c.in_ok-push_step_number.ensures (c.in_ok-push_move.ensures n) c.in_ok-push_next.ensures c.in_ok-push_str.ensures.bytes) last)
    c.push_changes.ensures

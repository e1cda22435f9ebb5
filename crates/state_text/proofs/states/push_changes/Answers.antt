use Rattle.std.proofs.Common.{◌≡◌, ◌++◌, ◌∙◌, ap, arith, length, map, string_bytes, sym}
use Rattle.std.proofs.lemmas.List.{length-map}
use Rattle.std.specs.Rc.{rc_str_bytes}
use Rattle.plan_rules.specs.Texts.{name_at}
use Rattle.task_core.specs.Names.{name_bytes}
use Rattle.task_core.specs.States.{truth, vector}
use Rattle.task_core.specs.Tasks.{fluent_count, fluent_names}
use Rattle.task_core.specs.Vectors.{value_of}
use Rattle.task_core.proofs.TaskSystem.{value_of-vector}
use Rattle.state_text.specs.Texts.{below, change_line}
use Rattle.state_text.proofs.Below.{below_more}
use Rattle.state_text.proofs.states.push_changes.Goals as goal

pub loop-number-preserved : goal.loop-number-preserved
loop-number-preserved c =
    let n = fluent_count c.args.task.now in
    let i = c.loop-number.number in
    let names = fluent_names c.args.task.now in
    let before = vector n c.args.before.now in
    let after = vector n c.args.after.now in
    let old : truth c.args.before.now i ≡ value_of before i = sym (value_of-vector n c.args.before.now i (omega (arith, c.loop-number-test.true, c.len-number-end.ensures))) in
    let new : truth c.args.after.now i ≡ value_of after i = sym (value_of-vector n c.args.after.now i (omega (arith, c.loop-number-test.true, c.len-number-end.ensures))) in
    let named : map rc_str_bytes c.name_of-name.result.now ≡ name_at names i = c.name_of-name.ensures ∙ ap (λ xs. name_at (map name_bytes xs) i) c.deref.ensures.value in
    below_more (λ k. change_line (name_at names k) (value_of before k) (value_of after k)) i (string_bytes c.args.out.now) (string_bytes c.loop-number.out) (string_bytes c.push_change.new.out)
    (change_line (map rc_str_bytes c.name_of-name.result.now) c.get.result c.get-in-loop-number.result) c.loop-number.invariant c.in_ok-push_change.ensures
    (ap (λ name. change_line name c.get.result c.get-in-loop-number.result) named ∙ ap (λ b. change_line (name_at names i) b c.get-in-loop-number.result) (c.get.ensures.value ∙ old)
    ∙ ap (change_line (name_at names i) (value_of before i)) (c.get-in-loop-number.ensures.value ∙ new))

pub returns : goal.returns
returns c =
    let task = c.args.task.now in
    let n = fluent_count task in
    let names = fluent_names task in
    let count = length-map task.fluents.items name_bytes in
    let done : c.loop-number.number ≡ length names = omega (arith, c.loop-number-test.false, c.loop-number.auto, c.len-number-end.ensures, count) in
    c.loop-number.invariant
    ∙ ap (λ k. string_bytes c.args.out.now ++ below (λ i. change_line (name_at names i) (value_of (vector n c.args.before.now) i) (value_of (vector n c.args.after.now) i)) k) done

use Rattle.std.proofs.Common.{◌≡◌, ◌∙◌, ap, arith, map, string_bytes, sym}
use Rattle.std.specs.Rc.{rc_str_bytes}
use Rattle.plan_rules.specs.Texts.{name_at}
use Rattle.task_core.specs.Names.{name_bytes}
use Rattle.task_core.specs.States.{truth, vector}
use Rattle.task_core.specs.Tasks.{fluent_count, fluent_names}
use Rattle.task_core.specs.Vectors.{value_of}
use Rattle.task_core.proofs.TaskSystem.{value_of-vector}
use Rattle.state_text.specs.Texts.{true_word}
use Rattle.state_text.proofs.Below.{below_more}
use Rattle.state_text.proofs.states.push_true.Goals as goal

pub loop-number-preserved : goal.loop-number-preserved
loop-number-preserved c =
    let n = fluent_count c.args.task.now in
    let i = c.loop-number.number in
    let names = fluent_names c.args.task.now in
    let state = vector n c.args.state.now in
    let value : truth c.args.state.now i ≡ value_of state i = sym (value_of-vector n c.args.state.now i (omega (arith, c.loop-number-test.true, c.len-number-end.ensures))) in
    let named : map rc_str_bytes c.name_of.result.now ≡ name_at names i = c.name_of.ensures ∙ ap (λ xs. name_at (map name_bytes xs) i) c.deref.ensures.value in
    below_more (λ k. true_word (name_at names k) (value_of state k)) i (string_bytes c.args.out.now) (string_bytes c.loop-number.out) (string_bytes c.push_true_word.new.out)
    (true_word (map rc_str_bytes c.name_of.result.now) c.get.result) c.loop-number.invariant c.in_ok-push_true_word.ensures
    (ap (λ name. true_word name c.get.result) named ∙ ap (true_word (name_at names i)) (c.get.ensures.value ∙ value))

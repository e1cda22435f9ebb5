use Rattle.std.proofs.Common.{◌≡◌, ◌∙◌, ◌+◌, ◌++◌, [], ◌∷◌, arith, ap, map, suc, sym}
use Rattle.std.proofs.lemmas.List.{map-append}
use Rattle.std.specs.Prelude.{if◌then◌else◌}
use Rattle.task_core.specs.States.{truth, vector}
use Rattle.task_core.specs.Tasks.{fluent_count}
use Rattle.task_core.specs.Vectors.{value_of}
use Rattle.task_core.proofs.TaskSystem.{value_of-vector}
use Rattle.plan_document.specs.Data.{count_data}
use Rattle.plan_page.specs.Pages.{true_below}
use Rattle.plan_page.proofs.values.true_fluents.Goals as goal

pub loop-number-preserved : goal.loop-number-preserved
loop-number-preserved c =
    let n = fluent_count c.args.task.now in
    let i = c.loop-number.number in
    let state = vector n c.args.state.now in
    let same : value_of state i ≡ truth c.args.state.now i = value_of-vector n c.args.state.now i (omega (arith, c.loop-number-test.true, c.len-number-end.ensures)) in
    let next : suc i ≡ i + 1 = omega arith in
    c.in_ok-push_if.ensures
    ∙ ap (λ xs. xs ++ map count_data (if c.get.result then i ∷ [] else [])) c.loop-number.invariant
    ∙ sym (map-append count_data (true_below state i) (if c.get.result then i ∷ [] else []))
    ∙ ap (λ b. map count_data (true_below state i ++ (if b then i ∷ [] else []))) (c.get.ensures.value ∙ sym same)
    ∙ ap (λ k. map count_data (true_below state k)) next

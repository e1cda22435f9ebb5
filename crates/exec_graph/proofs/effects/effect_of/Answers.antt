use Rattle.std.proofs.Common.{◌≡◌, true, length, slice_get, Some, refl, ap, ◌∙◌}
use Rattle.std.proofs.lemmas.Option.{slice_get_read}
use Rattle.task_core.specs.Tasks.{outcomes_at}
use Rattle.task_core.proofs.TaskSystem.{outcome_at, outcomes_are}
use Rattle.exec_graph.proofs.KnownSteps.{effect_shown}
use Rattle.exec_graph.proofs.effects.effect_of.Goals as goal

pub returns : goal.returns
returns c =
    let task = c.args.task.now in
    let a = c.args.action.0 in
    let x = c.index.result.now in
    let k = c.args.outcome in
    let o = c.index-2.result.now in
    let inside = outcome_at task a x c.requires.action c.index.ensures k c.requires.outcome in
    let here : slice_get x.outcomes.items k ≡ Some o = slice_get_read x.outcomes.items (length x.outcomes.items) k o refl inside c.index-2.ensures in
    let at : slice_get (outcomes_at task a) k ≡ Some o = ap (λ os. slice_get os k) (outcomes_are task a x c.requires.action c.index.ensures) ∙ here in
    let always : c.is_unconditional.result ≡ true = (let h = c.if-not-is_unconditional.false in cc) in
    effect_shown task a k o at (c.is_unconditional.ensures always) c.none.result c.args.all.now (record { made = c.step-made.result; kept = c.step-kept.result })
    c.none.ensures.all_false c.requires.all c.step-made.ensures.after c.step-kept.ensures.after

use Rattle.std.proofs.Common.{◌+◌, ◌∷◌, [], length, IfSome, sym, ap, ◌∙◌, subst}
use Rattle.std.proofs.lemmas.List.{length-append}
use Rattle.exec_graph.specs.Effects.{AreEffects, IsEffectOf}
use Rattle.exec_graph.proofs.KnownSteps.{effect_pushed}
use Rattle.exec_graph.proofs.effects.action_effects.Goals as goal

pub loop-outcome-preserved : goal.loop-outcome-preserved
loop-outcome-preserved c =
    let task = c.args.task.now in
    let a = c.args.action.0 in
    let effects = c.loop-outcome.effects.items in
    let here = c.loop-outcome.invariant in
    record {
      count = ap length c.in_ok-push.ensures.items ∙ length-append effects (c.effect_of.result ∷ []) ∙ ap (λ k. k + 1) here.count;
      known = subst (AreEffects task a) (sym c.in_ok-push.ensures.items)
          (effect_pushed task a effects c.effect_of.result here.known
          (subst (λ k. IfSome c.effect_of.result (IsEffectOf task a k)) (sym here.count) c.effect_of.ensures));
    }

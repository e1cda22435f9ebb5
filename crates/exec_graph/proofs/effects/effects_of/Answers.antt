use Rattle.std.proofs.Common.{◌+◌, ◌∷◌, [], length, sym, ap, ◌∙◌, subst}
use Rattle.std.proofs.lemmas.List.{length-append}
use Rattle.exec_graph.specs.Effects.{AreEffects}
use Rattle.exec_graph.proofs.KnownSteps.{lists_pushed}
use Rattle.exec_graph.proofs.effects.effects_of.Goals as goal

pub loop-action-preserved : goal.loop-action-preserved
loop-action-preserved c =
    let task = c.args.task.now in
    let lists = c.loop-action.lists in
    let list = c.in_ok-effects_if.field-0 in
    let here = c.loop-action.invariant in
    record {
      count = ap length c.in_ok-push.ensures.items ∙ length-append lists.items (list ∷ []) ∙ ap (λ k. k + 1) here.count;
      known = lists_pushed task (record { lists = lists }) (record { lists = c.push.new.self }) list c.in_ok-push.ensures.items here.known
          (subst (λ k. AreEffects task k list.items) (sym here.count) c.in_ok-effects_if.ensures);
    }

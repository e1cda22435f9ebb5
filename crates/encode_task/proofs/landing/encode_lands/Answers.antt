-- One outcome more.
use Rattle.std.proofs.Common.{Contains, map, ◌≡◌, ◌==◌, ◌+◌, ◌∙◌, inl, inr, length, sym, subst, arith}
use Rattle.std.proofs.lemmas.List.{length-map, take_all}
use Rattle.std.proofs.lemmas.Result.{err_from_is_err_and, IfOk-at_ok}
use Rattle.list_laws.proofs.Elements.{Contains-map}
use Rattle.dd_sets.specs.LiveSets.{live_count}
use Rattle.dd_sets.proofs.FrameLemmas.{kept_chain}
use Rattle.encode_task.specs.Made.{Holds}
use Rattle.encode_task.specs.Tables.{AllPaired}
use Rattle.encode_task.proofs.LandsLemmas.{landed, lands_more, list_live}
use Rattle.encode_task.proofs.LedLemmas.{room_subst}
use Rattle.encode_task.proofs.OnlyLemmas.{only_more, only_owned}
use Rattle.dd_nodes.specs.Subfunctions.{Function}
use Rattle.dd_sets.specs.Rooms.{Small}
use Rattle.task_core.specs.Actions.{after_value}
use Rattle.task_core.specs.Conditions.{holds}
use Rattle.encode_task.specs.WorkingSets.IsMadeForAction.{led}
use Rattle.encode_task.proofs.ActionSizes.{action_at}
use Rattle.encode_task.proofs.KeptLemmas.{adds_chain, adds_owned, room_from}
use Rattle.encode_task.proofs.MadeLemmas.{holds_kept}
use Rattle.encode_task.proofs.PartLemmas.{call_slot, same_refusal_of}
use Rattle.encode_task.proofs.TableLemmas.{paired_length}
use Rattle.encode_task.specs.TaskSets.{lands_of}
use Rattle.encode_task.proofs.landing.encode_lands.Goals as goal

pub returns-then-always_holds-clause-made : goal.returns-then-always_holds-clause-made
returns-then-always_holds-clause-made c = inl (c.always_holds.ensures c.if-always_holds.true, c.new-lands.ensures.items)

pub subst-requires-clause-a_live : goal.subst-requires-clause-a_live
subst-requires-clause-a_live c = c.loop-changed.invariant.kept.live c.args.states.now.space.0 c.requires.space.live

pub subst-requires-clause-map_live : goal.subst-requires-clause-map_live
subst-requires-clause-map_live c =
    list_live _ _ c.args.outcomes.now c.args.action.now.outcomes.items c.loop-changed.changed-index c.changed-item.result c.deref.result.now c.loop-changed.invariant.kept c.requires.made c.loop-changed-test.true c.changed-item.is
    c.deref.ensures.value

pub returns-in_err-slot-clause-full : goal.returns-in_err-slot-clause-full
returns-in_err-slot-clause-full c full w wide whole small =
    let p = err_from_is_err_and c.from_residual.result c.from_residual.ensures.1 in
    let long : length c.args.outcomes.now ≡ length c.args.action.now.outcomes.items = sym (length-map c.args.outcomes.now (λ changed. changed.items)) ∙ paired_length _ _ _ c.requires.made in
    let vars : c.loop-changed.sets.vars ≡ c.args.sets.now.vars = c.loop-changed.invariant.kept.vars in
    let found = landed _ _ c.args.states.now.space c.args.states.now.invariant.now c.args.outcomes.now c.args.action.now.outcomes.items c.loop-changed.changed-index c.changed-item.result c.deref.result.now c.loop-changed.invariant.kept c.requires.space c.requires.made
    c.loop-changed-test.true c.changed-item.is c.deref.ensures.value in
    let space = holds_kept _ _ c.loop-changed.invariant.kept c.args.states.now.space _ c.requires.space in
    room_from _ _ 0 0 c.loop-changed.invariant.kept c.loop-changed.invariant.adds (omega (arith, c.loop-changed.invariant.few)) (omega arith) (omega arith)
    (room_subst w _ _ c.args.states.now.space.0 c.deref.result.now (after_value found.0) (holds c.args.states.now.invariant.now) c.subst.ensures.sound c.subst.ensures.kept space.live space.holds found.2 (omega arith)
    (subst (λ v. Small v w (holds c.args.states.now.invariant.now)) (sym vars) whole)
    (λ part of_set. action_at w _ _ c.args.states.now.invariant.now c.args.action.now vars small _ (led found.0 part found.1 of_set))
    (c.subst.ensures.full (same_refusal_of c.subst.result c.from_residual.result _ c.in_err-slot.was p full)))

pub loop-changed-preserved : goal.loop-changed-preserved
loop-changed-preserved c =
    let adds = IfOk-at_ok _ c.in_ok-slot.was c.subst.ensures.added in
    let slot = call_slot _ _ _ c.subst.result _ c.in_ok-slot.was c.subst.ensures.added c.subst.ensures.kept c.subst.ensures.refused in
    let count : live_count c.subst.new.self ≡ live_count c.loop-changed.sets + 1 = slot.count in
    record {
      kept = kept_chain _ _ _ c.loop-changed.invariant.kept c.subst.ensures.kept;
      made = lands_more _ _ _ c.args.states.now.space c.in_ok-slot.slot c.args.states.now.invariant.now c.loop-changed.lands.items c.put.new.list.items c.args.outcomes.now c.args.action.now.outcomes.items c.loop-changed.changed-index c.changed-item.result
          c.deref.result.now c.loop-changed.invariant.kept c.subst.ensures.kept c.requires.space c.requires.made c.loop-changed-test.true c.changed-item.is c.deref.ensures.value adds c.in_ok-put.ensures c.loop-changed.invariant.made;
      adds = adds_chain (Contains (map (lands_of c.args.states.now.invariant.now) c.args.action.now.outcomes.items)) _ _ _ c.subst.ensures.kept c.loop-changed.invariant.adds
          (let found = landed _ _ c.args.states.now.space c.args.states.now.invariant.now c.args.outcomes.now c.args.action.now.outcomes.items c.loop-changed.changed-index c.changed-item.result c.deref.result.now c.loop-changed.invariant.kept c.requires.space
          c.requires.made c.loop-changed-test.true c.changed-item.is c.deref.ensures.value in
          adds_owned (Contains (map (lands_of c.args.states.now.invariant.now) c.args.action.now.outcomes.items)) _ _ c.in_ok-slot.slot.0 _ slot
          (subst (λ (f : Function). Contains (map (lands_of c.args.states.now.invariant.now) c.args.action.now.outcomes.items) f) (sym found.3) (Contains-map (lands_of c.args.states.now.invariant.now) c.args.action.now.outcomes.items found.0 found.1)));
      only = only_more _ _ _ (λ own one. one.0 == own) _ _ c.in_ok-slot.slot c.in_ok-put.ensures c.loop-changed.invariant.only (only_owned _ _ c.in_ok-slot.slot.0 _ slot);
      few = omega (arith, c.loop-changed.invariant.few);
    }

pub returns-clause-made : goal.returns-clause-made
returns-clause-made c =
    let long : length c.args.outcomes.now ≡ length c.args.action.now.outcomes.items = sym (length-map c.args.outcomes.now (λ changed. changed.items)) ∙ paired_length _ _ _ c.requires.made in
    inr (subst (AllPaired (λ slot o. Holds c.loop-changed.sets slot (lands_of c.args.states.now.invariant.now o)) c.loop-changed.lands.items)
    (take_all c.loop-changed.changed-index c.args.action.now.outcomes.items (omega (arith, c.loop-changed-test.false))) c.loop-changed.invariant.made)

pub returns-clause-few : goal.returns-clause-few
returns-clause-few c =
    let long : length c.args.outcomes.now ≡ length c.args.action.now.outcomes.items = sym (length-map c.args.outcomes.now (λ changed. changed.items)) ∙ paired_length _ _ _ c.requires.made in
    omega (arith, c.loop-changed.invariant.few)

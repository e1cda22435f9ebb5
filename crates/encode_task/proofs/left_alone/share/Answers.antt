-- One fluent more.
use Rattle.std.proofs.Common.{◌≡◌, ◌≤◌, ◌<◌, [], ◌∷◌, map, length, length-append, ap, arith}
use Rattle.std.proofs.lemmas.Result.{err_from_is_err_and}
use Rattle.encode_task.proofs.KeptLemmas.{adds_chain, adds_shared, room_from}
use Rattle.encode_task.proofs.OnlyLemmas.{only_more, only_shared}
use Rattle.encode_task.proofs.ShareLemmas.{all_more, count_slot, shared_more}
use Rattle.encode_task.specs.Tables.{IsSharedSlot}
use Rattle.encode_task.specs.Slots.{is_slot}
use Rattle.dd_sets.proofs.FrameLemmas.{kept_chain}
use Rattle.encode_task.specs.Counts.{IsLeftAlone, count_below, left_in_actions, some_leaves}
use Rattle.encode_task.specs.Seen.{slots_of}
use Rattle.encode_task.proofs.CountLemmas.{count_next, count_up, few_left}
use Rattle.encode_task.proofs.PartLemmas.{same_refusal_of}
use Rattle.encode_task.proofs.left_alone.share.Goals as goal

pub returns-in_err-slot-clause-full : goal.returns-in_err-slot-clause-full
returns-in_err-slot-clause-full c full w wide =
    let p = err_from_is_err_and c.from_residual.result c.from_residual.ensures.1 in
    let few : count_below (some_leaves (map slots_of c.args.actions.now)) c.args.sets.now.vars ≤ left_in_actions c.args.sets.now.vars (map slots_of c.args.actions.now) = few_left c.args.sets.now.vars (map slots_of c.args.actions.now) in
    let up : count_below (some_leaves (map slots_of c.args.actions.now)) c.loop-f.f ≤ count_below (some_leaves (map slots_of c.args.actions.now)) c.args.sets.now.vars = count_up (some_leaves (map slots_of c.args.actions.now)) c.loop-f.f c.args.sets.now.vars (omega (arith, c.requires)) in
    let vars : c.loop-f.sets.vars ≡ c.args.sets.now.vars = c.loop-f.invariant.kept.vars in
    room_from _ _ 0 0 c.loop-f.invariant.kept c.loop-f.invariant.adds (omega (arith, c.loop-f.invariant.few)) (omega arith) (omega arith)
    (c.share_fluent.ensures.full (same_refusal_of c.share_fluent.result c.from_residual.result _ c.in_err-slot.was p full) w (omega arith))

pub loop-f-preserved : goal.loop-f-preserved
loop-f-preserved c =
    let actions = map slots_of c.args.actions.now in
    let step : IsSharedSlot c.loop-f.sets c.share_fluent.new.sets (some_leaves actions c.loop-f.f) c.loop-f.f c.in_ok-slot.slot = c.in_ok-slot.ensures.answer in
    let within : c.loop-f.f < c.args.sets.now.vars = omega (arith, c.requires) in
    let before = c.loop-f.invariant in
    record {
      kept = kept_chain _ _ _ before.kept c.share_fluent.ensures.kept;
      adds = adds_chain (IsLeftAlone c.args.sets.now.vars actions) _ _ _ c.share_fluent.ensures.kept before.adds (adds_shared c.args.sets.now.vars actions _ _ c.loop-f.f c.in_ok-slot.slot within step);
      long = omega (arith, before.long, ap length c.in_ok-put.ensures, length-append c.loop-f.shared.items (c.in_ok-slot.slot ∷ []));
      holds = shared_more _ _ (some_leaves actions c.loop-f.f) c.loop-f.f c.loop-f.shared.items c.put.new.list.items c.in_ok-slot.slot c.in_ok-put.ensures before.long step before.holds;
      all = all_more _ _ actions c.loop-f.f c.loop-f.shared.items c.put.new.list.items c.in_ok-slot.slot c.in_ok-put.ensures before.long step before.all;
      only = only_more _ _ _ is_slot c.loop-f.shared.items c.put.new.list.items c.in_ok-slot.slot c.in_ok-put.ensures before.only (only_shared _ _ (some_leaves actions c.loop-f.f) c.loop-f.f c.in_ok-slot.slot step);
      few = omega (arith, before.few, count_slot _ _ (some_leaves actions c.loop-f.f) c.loop-f.f c.in_ok-slot.slot step, count_next (some_leaves actions) c.loop-f.f);
    }

pub returns-clause-few : goal.returns-clause-few
returns-clause-few c =
    let few : count_below (some_leaves (map slots_of c.args.actions.now)) c.args.sets.now.vars ≤ left_in_actions c.args.sets.now.vars (map slots_of c.args.actions.now) = few_left c.args.sets.now.vars (map slots_of c.args.actions.now) in
    let up : count_below (some_leaves (map slots_of c.args.actions.now)) c.loop-f.f ≤ count_below (some_leaves (map slots_of c.args.actions.now)) c.args.sets.now.vars = count_up (some_leaves (map slots_of c.args.actions.now)) c.loop-f.f c.args.sets.now.vars (omega (arith, c.requires)) in
    omega (arith, c.loop-f.invariant.few)

pub returns-clause-adds : goal.returns-clause-adds
returns-clause-adds c = c.loop-f.invariant.adds

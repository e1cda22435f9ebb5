-- The rest of where the action can be executed.
use Rattle.std.proofs.Common.{◌≡◌, ◌<◌, ◌∙◌, [], ◌∷◌, arith, ap, length, sym, subst}
use Rattle.std.proofs.lemmas.Result.{err_from_is_err_and}
use Rattle.dd_nodes.specs.Subfunctions.{Function}
use Rattle.dd_ops.specs.Operations.{minus_of}
use Rattle.dd_sets.specs.Frames.{OwnsAnswer}
use Rattle.dd_sets.specs.LiveSets.{set_of}
use Rattle.dd_sets.specs.Rooms.{Rough}
use Rattle.encode_task.specs.Slots.{Encoded}
use Rattle.dd_sets.proofs.OwnedLemmas.{answer_kept, one_live, own_set}
use Rattle.dd_sets.proofs.RoomSteps.{room_owned}
use Rattle.dd_sets.proofs.SizeLemmas.{small_rough}
use Rattle.encode_task.specs.TaskSets.{exec_set}
use Rattle.task_core.specs.Tasks.{fluent_count}
use Rattle.preimage.specs.Preimages.{weak_preimage}
use Rattle.preimage.proofs.SizeLemmas.{outside_rough, rough_slot, weak_small}
use Rattle.encode_task.proofs.PartLemmas.{answer_refusal, answer_slot, same_refusal}
use Rattle.preimage.specs.Sides.{all_outcomes_on}
use Rattle.preimage.specs.declared.slots.Side.TheVariants.{Outside}
use Rattle.preimage.proofs.FrameSteps.{exec_holds, made_now, same_chain}
use Rattle.preimage.proofs.OutcomeLemmas.{weak_whole}
use Rattle.preimage.proofs.preimages.not_all_outside.Goals as goal

pub returns-in_err-left-clause-answer : goal.returns-in_err-left-clause-answer
returns-in_err-left-clause-answer c task made =
    let p = err_from_is_err_and c.from_residual.result c.from_residual.ensures.1 in
    answer_refusal _ _ _ _ c.all_on_side.result _ _ _ c.in_err-left.was p.1 (c.all_on_side.ensures.answer task made)

pub returns-in_err-left-clause-full : goal.returns-in_err-left-clause-full
returns-in_err-left-clause-full c full task made width fits =
    let p = err_from_is_err_and c.from_residual.result c.from_residual.ensures.1 in
    c.all_on_side.ensures.full (same_refusal c.all_on_side.result c.from_residual.result _ c.in_err-left.was p full) task made width fits

pub exec-exec-requires : goal.exec-exec-requires
exec-exec-requires c = subst (λ (e : Encoded). c.args.a.0 < length e.actions) (sym c.all_on_side.ensures.same_slots) c.requires.action

pub rest_of-requires-clause-a_live : goal.rest_of-requires-clause-a_live
rest_of-requires-clause-a_live c =
    let exec = exec_holds c.requires.made.0 c.all_on_side.new.enc c.args.a.0 c.exec-exec.result (c.all_on_side.ensures.made c.requires.made.0 c.requires.made.1) (subst (λ (e : Encoded). c.args.a.0 < length e.actions) (sym c.all_on_side.ensures.same_slots) c.requires.action) c.exec-exec.ensures in
    exec.live

pub rest_of-requires-clause-b_live : goal.rest_of-requires-clause-b_live
rest_of-requires-clause-b_live c =
    let owns = answer_slot _ _ _ c.all_on_side.result _ c.in_ok-left.was (c.all_on_side.ensures.answer c.requires.made.0 c.requires.made.1) in
    one_live _ _ _ _ owns

pub returns-clause-answer : goal.returns-clause-answer
returns-clause-answer c task made =
    let owns = answer_slot _ _ _ c.all_on_side.result _ c.in_ok-left.was (c.all_on_side.ensures.answer task made) in
    let exec = exec_holds task c.all_on_side.new.enc c.args.a.0 c.exec-exec.result (c.all_on_side.ensures.made task made) (subst (λ (e : Encoded). c.args.a.0 < length e.actions) (sym c.all_on_side.ensures.same_slots) c.requires.action) c.exec-exec.ensures in
    subst (λ (f : Function). OwnsAnswer c.args.enc.now.sets c.rest_of.new.enc.sets f c.rest_of.result)
    (ap (λ (set : Function). minus_of set (all_outcomes_on Outside task c.args.a.0 (set_of c.args.enc.now.sets c.args.x.0))) exec.holds ∙ weak_whole task c.args.a.0 (set_of c.args.enc.now.sets c.args.x.0))
    (c.rest_of.ensures.answer _ _ owns)

pub returns-clause-full : goal.returns-clause-full
returns-clause-full c full task made width fits =
    let entry = c.args.enc.now.sets in
    let middle = c.all_on_side.new.enc.sets in
    let set = set_of entry c.args.x.0 in
    let vars : entry.vars ≡ fluent_count task = made.ready.vars ∙ made.fluents in
    let owns = answer_slot _ _ _ c.all_on_side.result _ c.in_ok-left.was (c.all_on_side.ensures.answer task made) in
    let exec = exec_holds task c.all_on_side.new.enc c.args.a.0 c.exec-exec.result (c.all_on_side.ensures.made task made) (subst (λ (e : Encoded). c.args.a.0 < length e.actions) (sym c.all_on_side.ensures.same_slots) c.requires.action) c.exec-exec.ensures in
    let left : set_of middle c.in_ok-left.left.0 ≡ all_outcomes_on Outside task c.args.a.0 set = own_set _ _ c.in_ok-left.left.0 (all_outcomes_on Outside task c.args.a.0 set) [] [] owns in
    let rest : Rough (fluent_count task) width (all_outcomes_on Outside task c.args.a.0 set) = outside_rough width task c.args.a.0 set fits in
    let piece : minus_of (set_of middle c.exec-exec.result.0) (set_of middle c.in_ok-left.left.0) ≡ weak_preimage task c.args.a.0 set =
    ap (λ (f : Function). minus_of f (set_of middle c.in_ok-left.left.0)) exec.holds ∙ ap (λ (f : Function). minus_of (exec_set task c.args.a.0) f) left ∙ weak_whole task c.args.a.0 set in
    let rough : Rough (fluent_count task) width (weak_preimage task c.args.a.0 set) = small_rough (fluent_count task) width (weak_preimage task c.args.a.0 set) (weak_small width task c.args.a.0 set fits) in
    room_owned entry middle ((c.in_ok-left.left.0, all_outcomes_on Outside task c.args.a.0 set) ∷ []) owns 0 8 0 1 4
    (rough_slot entry.vars width c.in_ok-left.left.0 (all_outcomes_on Outside task c.args.a.0 set) (subst (λ v. Rough v width (all_outcomes_on Outside task c.args.a.0 set)) (sym vars) rest)) (omega arith) (omega arith)
    (c.rest_of.ensures.full full width (subst (λ v. Rough v width (minus_of (set_of middle c.exec-exec.result.0) (set_of middle c.in_ok-left.left.0))) (sym vars ∙ sym owns.kept.vars) (subst (Rough (fluent_count task) width) (sym piece) rough)))

pub returns-clause-same_slots : goal.returns-clause-same_slots
returns-clause-same_slots c = same_chain c.args.enc.now c.all_on_side.new.enc c.rest_of.new.enc c.all_on_side.ensures.same_slots c.rest_of.ensures.same_slots

pub returns-clause-made : goal.returns-clause-made
returns-clause-made c task made =
    let owns = answer_slot _ _ _ c.all_on_side.result _ c.in_ok-left.was (c.all_on_side.ensures.answer task made) in
    made_now task c.args.enc.now c.rest_of.new.enc (same_chain c.args.enc.now c.all_on_side.new.enc c.rest_of.new.enc c.all_on_side.ensures.same_slots c.rest_of.ensures.same_slots) (answer_kept _ _ _ c.rest_of.result (c.rest_of.ensures.answer _ _ owns)) made

-- One outcome more.
use Rattle.std.proofs.Common.{◌≡◌, ◌<◌, ◌≤◌, [], ◌∷◌, ◌∙◌, arith, ap, length, sym, subst}
use Rattle.std.proofs.lemmas.Result.{IfErr-at_err, err_from_is_err_and}
use Rattle.dd_nodes.specs.Subfunctions.{Function}
use Rattle.dd_sets.specs.Frames.{Owns}
use Rattle.dd_sets.specs.LiveSets.{set_of}
use Rattle.dd_sets.specs.Rooms.{Small}
use Rattle.dd_sets.specs.declared.errors.SetErr.TheVariants.{Full, Memory}
use Rattle.task_core.specs.Tasks.{fluent_count, outcomes_at}
use Rattle.encode_task.specs.WorkingSets.{ImagesAreSmall}
use Rattle.encode_task.specs.Slots.{Encoded, outcome_slots}
use Rattle.dd_sets.proofs.OwnLemmas.{own_one}
use Rattle.dd_sets.proofs.OwnedLemmas.{answer_kept, one_live}
use Rattle.dd_sets.proofs.RoomSteps.{room_wider}
use Rattle.encode_task.specs.TaskSets.{lands_set}
use Rattle.encode_task.proofs.PartLemmas.{answer_refusal, answer_slot, same_refusal}
use Rattle.preimage.proofs.FrameSteps.{exec_holds, lands_hold, led_answer, made_now, same_chain, still_action}
use Rattle.preimage.proofs.OutcomeLemmas.{exec_side, side_after, side_emptied, side_more, side_whole}
use Rattle.preimage.proofs.SizeLemmas.{led_fits, part_fits}
use Rattle.preimage.proofs.preimages.all_on_side.Goals as goal

pub exec-exec-requires : goal.exec-exec-requires
exec-exec-requires c = c.requires.action

pub copied-requires : goal.copied-requires
copied-requires c = (exec_holds c.requires.made.0 c.args.enc.now c.args.a.0 c.exec-exec.result c.requires.made.1 c.requires.action c.exec-exec.ensures).live

pub returns-in_err-rest-clause-answer : goal.returns-in_err-rest-clause-answer
returns-in_err-rest-clause-answer c task made =
    let p = err_from_is_err_and c.from_residual.result c.from_residual.ensures.1 in
    answer_refusal _ _ _ _ c.copied.result _ _ _ c.in_err-rest.was p.1 c.copied.ensures.answer

pub returns-in_err-rest-clause-full : goal.returns-in_err-rest-clause-full
returns-in_err-rest-clause-full c full task made width fits =
    let p = err_from_is_err_and c.from_residual.result c.from_residual.ensures.1 in
    let no_room : Full ≡ Memory = IfErr-at_err (λ e. e ≡ Memory) (same_refusal c.copied.result c.from_residual.result _ c.in_err-rest.was p full) c.copied.ensures.never_full in
    cc

pub returns-in_err-rest-clause-same_slots : goal.returns-in_err-rest-clause-same_slots
returns-in_err-rest-clause-same_slots c = c.copied.ensures.same_slots

pub returns-in_err-rest-clause-made : goal.returns-in_err-rest-clause-made
returns-in_err-rest-clause-made c task made = made_now task c.args.enc.now c.copied.new.enc c.copied.ensures.same_slots (answer_kept _ _ _ c.copied.result c.copied.ensures.answer) made

pub outcomes-o-end-requires : goal.outcomes-o-end-requires
outcomes-o-end-requires c = subst (λ (e : Encoded). c.args.a.0 < length e.actions) (sym c.copied.ensures.same_slots) c.requires.action

pub loop-o-init : goal.loop-o-init
loop-o-init c = record {
  sound = c.copied.ensures.sound;
  same = c.copied.ensures.same_slots;
  owns = λ task made.
      subst (λ (f : Function). Owns c.args.enc.now.sets c.copied.new.enc.sets ((c.in_ok-rest.rest.0, f) ∷ []))
      ((exec_holds task c.args.enc.now c.args.a.0 c.exec-exec.result made c.requires.action c.exec-exec.ensures).holds ∙ exec_side c.args.side task c.args.a.0 (set_of c.args.enc.now.sets c.args.x.0))
      (answer_slot _ _ _ c.copied.result _ c.in_ok-rest.was c.copied.ensures.answer);
}

-- nothing is left
pub is_none-requires : goal.is_none-requires
is_none-requires c = let owns = c.loop-o.invariant.owns c.requires.made.0 c.requires.made.1 in one_live _ _ _ _ owns

pub returns-then-is_none-clause-answer : goal.returns-then-is_none-clause-answer
returns-then-is_none-clause-answer c task made =
    let owns = c.loop-o.invariant.owns task made in
    let there : length (outcome_slots c.copied.new.enc c.args.a.0) ≡ length (outcome_slots c.args.enc.now c.args.a.0) = ap (λ (e : Encoded). length (outcome_slots e c.args.a.0)) c.copied.ensures.same_slots in
    let within : c.loop-o.o < length (outcomes_at task c.args.a.0) = omega (arith, c.outcomes-o-end.ensures, made.outcomes c.args.a.0) in
    let holds = (own_one c.args.enc.now.sets c.loop-o.enc.sets c.loop-o.rest.0 (side_after c.args.side task c.args.a.0 (set_of c.args.enc.now.sets c.args.x.0) c.loop-o.o) owns).holds in
    subst (λ (f : Function). Owns c.args.enc.now.sets c.loop-o.enc.sets ((c.loop-o.rest.0, f) ∷ []))
    (side_emptied c.args.side task c.args.a.0 c.loop-o.o (set_of c.args.enc.now.sets c.args.x.0) within (sym holds ∙ c.is_none.ensures.0 c.if-is_none.true)) owns

pub returns-then-is_none-clause-full : goal.returns-then-is_none-clause-full
returns-then-is_none-clause-full c full task made width fits = cc

pub returns-then-is_none-clause-same_slots : goal.returns-then-is_none-clause-same_slots
returns-then-is_none-clause-same_slots c = c.loop-o.invariant.same

pub returns-then-is_none-clause-made : goal.returns-then-is_none-clause-made
returns-then-is_none-clause-made c task made = made_now task c.args.enc.now c.loop-o.enc c.loop-o.invariant.same (c.loop-o.invariant.owns task made).kept made

pub returns-then-is_none-clause-sound : goal.returns-then-is_none-clause-sound
returns-then-is_none-clause-sound c = c.loop-o.invariant.sound

pub led_into-led-requires-clause-ready : goal.led_into-led-requires-clause-ready
led_into-led-requires-clause-ready c =
    let owns = c.loop-o.invariant.owns c.requires.made.0 c.requires.made.1 in
    (made_now c.requires.made.0 c.args.enc.now c.loop-o.enc c.loop-o.invariant.same owns.kept c.requires.made.1).ready

pub led_into-led-requires-clause-action : goal.led_into-led-requires-clause-action
led_into-led-requires-clause-action c = subst (λ (e : Encoded). c.args.a.0 < length e.actions) (sym c.loop-o.invariant.same) c.requires.action

pub led_into-led-requires-clause-outcome : goal.led_into-led-requires-clause-outcome
led_into-led-requires-clause-outcome c =
    let here : length (outcome_slots c.loop-o.enc c.args.a.0) ≡ length (outcome_slots c.args.enc.now c.args.a.0) = ap (λ (e : Encoded). length (outcome_slots e c.args.a.0)) c.loop-o.invariant.same in
    let there : length (outcome_slots c.copied.new.enc c.args.a.0) ≡ length (outcome_slots c.args.enc.now c.args.a.0) = ap (λ (e : Encoded). length (outcome_slots e c.args.a.0)) c.copied.ensures.same_slots in
    omega (arith, c.outcomes-o-end.ensures)

pub led_into-led-requires-clause-live : goal.led_into-led-requires-clause-live
led_into-led-requires-clause-live c = let owns = c.loop-o.invariant.owns c.requires.made.0 c.requires.made.1 in owns.kept.live c.args.x.0 c.requires.live

pub lands-lands-requires : goal.lands-lands-requires
lands-lands-requires c =
    still_action c.args.enc.now c.led_into-led.new.self c.args.a.0 (same_chain c.args.enc.now c.loop-o.enc c.led_into-led.new.self c.loop-o.invariant.same c.led_into-led.ensures.same_slots) c.requires.action

pub part_of-requires-clause-owned : goal.part_of-requires-clause-owned
part_of-requires-clause-owned c =
    let task = c.requires.made.0 in
    let made = c.requires.made.1 in
    let owns = c.loop-o.invariant.owns task made in
    let led = led_answer task c.args.enc.now c.loop-o.enc _ c.args.x.0 c.args.a.0 c.loop-o.o c.led_into-led.result c.loop-o.invariant.same owns.kept c.requires.live made c.led_into-led.ensures.added c.led_into-led.ensures.kept c.led_into-led.ensures.refused in
    (c.args.enc.now.sets, c.loop-o.enc.sets, _, _, owns, led)

pub part_of-requires-clause-lands : goal.part_of-requires-clause-lands
part_of-requires-clause-lands c =
    let task = c.requires.made.0 in
    let made = c.requires.made.1 in
    let owns = c.loop-o.invariant.owns task made in
    let there : length (outcome_slots c.copied.new.enc c.args.a.0) ≡ length (outcome_slots c.args.enc.now c.args.a.0) = ap (λ (e : Encoded). length (outcome_slots e c.args.a.0)) c.copied.ensures.same_slots in
    let within : c.loop-o.o < length (outcomes_at task c.args.a.0) = omega (arith, c.outcomes-o-end.ensures, made.outcomes c.args.a.0) in
    let lands = lands_hold task c.led_into-led.new.self c.args.a.0 c.loop-o.o c.lands-lands.result (c.led_into-led.ensures.made task (made_now task c.args.enc.now c.loop-o.enc c.loop-o.invariant.same owns.kept made))
    (still_action c.args.enc.now c.led_into-led.new.self c.args.a.0 (same_chain c.args.enc.now c.loop-o.enc c.led_into-led.new.self c.loop-o.invariant.same c.led_into-led.ensures.same_slots) c.requires.action) within c.lands-lands.ensures in
    (lands_set task c.args.a.0 c.loop-o.o, lands)

pub returns-in_err-rest-2-clause-answer : goal.returns-in_err-rest-2-clause-answer
returns-in_err-rest-2-clause-answer c task made =
    let p = err_from_is_err_and c.from_residual-in_err-rest-2.result c.from_residual-in_err-rest-2.ensures.1 in
    let owns = c.loop-o.invariant.owns task made in
    let led = led_answer task c.args.enc.now c.loop-o.enc _ c.args.x.0 c.args.a.0 c.loop-o.o c.led_into-led.result c.loop-o.invariant.same owns.kept c.requires.live made c.led_into-led.ensures.added c.led_into-led.ensures.kept c.led_into-led.ensures.refused in
    let there : length (outcome_slots c.copied.new.enc c.args.a.0) ≡ length (outcome_slots c.args.enc.now c.args.a.0) = ap (λ (e : Encoded). length (outcome_slots e c.args.a.0)) c.copied.ensures.same_slots in
    let within : c.loop-o.o < length (outcomes_at task c.args.a.0) = omega (arith, c.outcomes-o-end.ensures, made.outcomes c.args.a.0) in
    let lands = lands_hold task c.led_into-led.new.self c.args.a.0 c.loop-o.o c.lands-lands.result (c.led_into-led.ensures.made task (made_now task c.args.enc.now c.loop-o.enc c.loop-o.invariant.same owns.kept made))
    (still_action c.args.enc.now c.led_into-led.new.self c.args.a.0 (same_chain c.args.enc.now c.loop-o.enc c.led_into-led.new.self c.loop-o.invariant.same c.led_into-led.ensures.same_slots) c.requires.action) within c.lands-lands.ensures in
    answer_refusal _ _ _ _ c.part_of.result _ _ _ c.in_err-rest-2.was p.1 (c.part_of.ensures.answer _ _ _ _ _ lands owns led)

pub returns-in_err-rest-2-clause-full : goal.returns-in_err-rest-2-clause-full
returns-in_err-rest-2-clause-full c full task made width fits =
    let p = err_from_is_err_and c.from_residual-in_err-rest-2.result c.from_residual-in_err-rest-2.ensures.1 in
    let entry = c.args.enc.now.sets in
    let set = set_of entry c.args.x.0 in
    let owns = c.loop-o.invariant.owns task made in
    let led = led_answer task c.args.enc.now c.loop-o.enc _ c.args.x.0 c.args.a.0 c.loop-o.o c.led_into-led.result c.loop-o.invariant.same owns.kept c.requires.live made c.led_into-led.ensures.added c.led_into-led.ensures.kept c.led_into-led.ensures.refused in
    let there : length (outcome_slots c.copied.new.enc c.args.a.0) ≡ length (outcome_slots c.args.enc.now c.args.a.0) = ap (λ (e : Encoded). length (outcome_slots e c.args.a.0)) c.copied.ensures.same_slots in
    let within : c.loop-o.o < length (outcomes_at task c.args.a.0) = omega (arith, c.outcomes-o-end.ensures, made.outcomes c.args.a.0) in
    let now_made = made_now task c.args.enc.now c.loop-o.enc c.loop-o.invariant.same owns.kept made in
    let lands = lands_hold task c.led_into-led.new.self c.args.a.0 c.loop-o.o c.lands-lands.result (c.led_into-led.ensures.made task now_made)
    (still_action c.args.enc.now c.led_into-led.new.self c.args.a.0 (same_chain c.args.enc.now c.loop-o.enc c.led_into-led.new.self c.loop-o.invariant.same c.led_into-led.ensures.same_slots) c.requires.action) within c.lands-lands.ensures in
    let vars : entry.vars ≡ fluent_count task = made.ready.vars ∙ made.fluents in
    let asked = led_fits width c.args.side task c.args.a.0 set fits c.loop-o.o within in
    let stays : set_of c.loop-o.enc.sets c.args.x.0 ≡ set = owns.kept.sets c.args.x.0 c.requires.live in
    room_wider _ 3 8 2 4 (omega arith) (omega arith)
    (c.part_of.ensures.full (same_refusal c.part_of.result c.from_residual-in_err-rest-2.result _ c.in_err-rest-2.was p full) entry c.loop-o.enc.sets _ _ _ lands owns led width
    (part_fits entry.vars width c.args.side task c.args.a.0 set vars fits c.loop-o.o within)
    (λ refused. c.led_into-led.ensures.full refused task now_made width asked.0 (subst (Small (fluent_count task) width) (sym stays) asked.1) (subst (ImagesAreSmall width task c.args.a.0 c.loop-o.o) (sym stays) asked.2)))

pub returns-in_err-rest-2-clause-same_slots : goal.returns-in_err-rest-2-clause-same_slots
returns-in_err-rest-2-clause-same_slots c =
    same_chain c.args.enc.now c.led_into-led.new.self c.part_of.new.enc (same_chain c.args.enc.now c.loop-o.enc c.led_into-led.new.self c.loop-o.invariant.same c.led_into-led.ensures.same_slots) c.part_of.ensures.same_slots

pub returns-in_err-rest-2-clause-made : goal.returns-in_err-rest-2-clause-made
returns-in_err-rest-2-clause-made c task made =
    let owns = c.loop-o.invariant.owns task made in
    let led = led_answer task c.args.enc.now c.loop-o.enc _ c.args.x.0 c.args.a.0 c.loop-o.o c.led_into-led.result c.loop-o.invariant.same owns.kept c.requires.live made c.led_into-led.ensures.added c.led_into-led.ensures.kept c.led_into-led.ensures.refused in
    let there : length (outcome_slots c.copied.new.enc c.args.a.0) ≡ length (outcome_slots c.args.enc.now c.args.a.0) = ap (λ (e : Encoded). length (outcome_slots e c.args.a.0)) c.copied.ensures.same_slots in
    let within : c.loop-o.o < length (outcomes_at task c.args.a.0) = omega (arith, c.outcomes-o-end.ensures, made.outcomes c.args.a.0) in
    let lands = lands_hold task c.led_into-led.new.self c.args.a.0 c.loop-o.o c.lands-lands.result (c.led_into-led.ensures.made task (made_now task c.args.enc.now c.loop-o.enc c.loop-o.invariant.same owns.kept made))
    (still_action c.args.enc.now c.led_into-led.new.self c.args.a.0 (same_chain c.args.enc.now c.loop-o.enc c.led_into-led.new.self c.loop-o.invariant.same c.led_into-led.ensures.same_slots) c.requires.action) within c.lands-lands.ensures in
    let answer = c.part_of.ensures.answer _ _ _ _ _ lands owns led in
    made_now task c.args.enc.now c.part_of.new.enc
    (same_chain c.args.enc.now c.led_into-led.new.self c.part_of.new.enc (same_chain c.args.enc.now c.loop-o.enc c.led_into-led.new.self c.loop-o.invariant.same c.led_into-led.ensures.same_slots) c.part_of.ensures.same_slots)
    (answer_kept _ _ _ c.part_of.result answer) made

pub loop-o-preserved : goal.loop-o-preserved
loop-o-preserved c = record {
  sound = c.part_of.ensures.sound;
  same = same_chain c.args.enc.now c.led_into-led.new.self c.part_of.new.enc (same_chain c.args.enc.now c.loop-o.enc c.led_into-led.new.self c.loop-o.invariant.same c.led_into-led.ensures.same_slots) c.part_of.ensures.same_slots;
  owns = λ task made.
      let owns = c.loop-o.invariant.owns task made in
      let led = led_answer task c.args.enc.now c.loop-o.enc _ c.args.x.0 c.args.a.0 c.loop-o.o c.led_into-led.result c.loop-o.invariant.same owns.kept c.requires.live made c.led_into-led.ensures.added c.led_into-led.ensures.kept c.led_into-led.ensures.refused in
      let there : length (outcome_slots c.copied.new.enc c.args.a.0) ≡ length (outcome_slots c.args.enc.now c.args.a.0) = ap (λ (e : Encoded). length (outcome_slots e c.args.a.0)) c.copied.ensures.same_slots in
      let within : c.loop-o.o < length (outcomes_at task c.args.a.0) = omega (arith, c.outcomes-o-end.ensures, made.outcomes c.args.a.0) in
      let lands = lands_hold task c.led_into-led.new.self c.args.a.0 c.loop-o.o c.lands-lands.result (c.led_into-led.ensures.made task (made_now task c.args.enc.now c.loop-o.enc c.loop-o.invariant.same owns.kept made))
      (still_action c.args.enc.now c.led_into-led.new.self c.args.a.0 (same_chain c.args.enc.now c.loop-o.enc c.led_into-led.new.self c.loop-o.invariant.same c.led_into-led.ensures.same_slots) c.requires.action) within c.lands-lands.ensures in
      subst (λ (f : Function). Owns c.args.enc.now.sets c.part_of.new.enc.sets ((c.in_ok-rest-2.rest.0, f) ∷ [])) (side_more c.args.side task c.args.a.0 c.loop-o.o (set_of c.args.enc.now.sets c.args.x.0) within)
      (answer_slot _ _ _ c.part_of.result _ c.in_ok-rest-2.was (c.part_of.ensures.answer _ _ _ _ _ lands owns led));
}

pub returns-clause-answer : goal.returns-clause-answer
returns-clause-answer c task made =
    let owns = c.loop-o.invariant.owns task made in
    let there : length (outcome_slots c.copied.new.enc c.args.a.0) ≡ length (outcome_slots c.args.enc.now c.args.a.0) = ap (λ (e : Encoded). length (outcome_slots e c.args.a.0)) c.copied.ensures.same_slots in
    let done : length (outcomes_at task c.args.a.0) ≤ c.loop-o.o = omega (arith, c.outcomes-o-end.ensures, made.outcomes c.args.a.0) in
    subst (λ (f : Function). Owns c.args.enc.now.sets c.loop-o.enc.sets ((c.loop-o.rest.0, f) ∷ [])) (side_whole c.args.side task c.args.a.0 c.loop-o.o (set_of c.args.enc.now.sets c.args.x.0) done) owns

pub returns-clause-full : goal.returns-clause-full
returns-clause-full c full task made width fits = cc

pub returns-clause-same_slots : goal.returns-clause-same_slots
returns-clause-same_slots c = c.loop-o.invariant.same

pub returns-clause-made : goal.returns-clause-made
returns-clause-made c task made = made_now task c.args.enc.now c.loop-o.enc c.loop-o.invariant.same (c.loop-o.invariant.owns task made).kept made

pub returns-clause-sound : goal.returns-clause-sound
returns-clause-sound c = c.loop-o.invariant.sound

use Rattle.std.proofs.Common.{◌≡◌, Ok, arith, inl, length, refl, subst, sym}
use Rattle.dd_sets.specs.Frames.{OwnsAnswer}
use Rattle.dd_sets.specs.declared.errors.SetErr.TheVariants.{Full, Memory}
use Rattle.plan_certs.specs.Named.{IsSetOf, set_of}
use Rattle.slot_board.proofs.BoardSizes.{vars_now}
use Rattle.slot_board.proofs.BoardSlots.{left_with, made_at, placed}
use Rattle.cert_check.specs.Sets.{states_in}
use Rattle.cert_check.proofs.HalfLemmas.{live_after, not_full, set_put, union_kept}
use Rattle.cert_check.proofs.ShownLemmas.{states_small}
use Rattle.cert_check.proofs.judging.make_set.Goals as goal

pub states_of-requires-clause-made : goal.states_of-requires-clause-made
states_of-requires-clause-made c = let r = c.requires in (r.0.task, made_at r.0 c.args.enc.now c.args.board.now.slots.items r.2.at)

pub states_of-requires-clause-in_task : goal.states_of-requires-clause-in_task
states_of-requires-clause-in_task c =
    let r = c.requires in
    subst (λ n. IsSetOf n (set_of c.args.set.now)) (sym (vars_now r.0 c.args.enc.now c.args.board.now.slots.items r.2.at)) r.3.in_task

pub put-requires-clause-place : goal.put-requires-clause-place
put-requires-clause-place c =
    let r = c.requires in
    let long : length c.args.board.now.slots.items ≡ r.0.places = r.2.at.long in
    let five : r.0.places ≡ 5 = r.3.board.five in
    omega arith

pub put-requires-clause-live : goal.put-requires-clause-live
put-requires-clause-live c =
    let r = c.requires in
    let long : length c.args.board.now.slots.items ≡ r.0.places = r.2.at.long in
    let five : r.0.places ≡ 5 = r.3.board.five in
    live_after r.0 c.args.enc.now c.states_of.new.enc c.args.board.now.slots.items _ c.states_of.result r.2.at
    (c.states_of.ensures.answer r.0.task (made_at r.0 c.args.enc.now c.args.board.now.slots.items r.2.at)) 1 (omega arith)

pub returns-in-Ok : goal.returns-in-Ok
returns-in-Ok c start f union fits =
    let enc = c.args.enc.now in
    let slots = c.args.board.now.slots.items in
    let set = states_in start.task (set_of c.args.set.now) in
    left_with start c.put.new.enc c.put.new.board.slots.items _ _ c.put.result
    (λ moved. set_put start enc c.put.new.enc slots c.put.new.board.slots.items f set union fits.board.five moved)
    (placed start enc c.states_of.new.enc c.put.new.enc slots c.put.new.board.slots.items 1 set (Ok c.in-Ok.states) c.put.result union.at (inl (states_small start (set_of c.args.set.now) fits)) c.states_of.ensures.same_slots c.put.ensures.same_slots
    (subst (OwnsAnswer enc.sets c.states_of.new.enc.sets set) c.in-Ok.is (c.states_of.ensures.answer start.task (made_at start enc slots union.at))) 0 0 (omega arith) (omega arith)
    (λ full. absurd (not_full (Ok c.in-Ok.states) c.in-Ok.states refl full))
    c.put.ensures.frame c.put.ensures.here c.put.ensures.others c.put.ensures.long c.put.ensures.full c.put.ensures.sound c.put.ensures.refused c.put.ensures.stays)

pub make_by_steps-requires : goal.make_by_steps-requires
make_by_steps-requires c =
    let r = c.requires in
    let enc = c.args.enc.now in
    let slots = c.args.board.now.slots.items in (
      r.0,
      r.1,
      union_kept r.0 enc c.states_of.new.enc slots r.1 r.2 r.3.board.five c.states_of.ensures.same_slots
          (subst (OwnsAnswer enc.sets c.states_of.new.enc.sets (states_in r.0.task (set_of c.args.set.now))) c.in-Err-Full.is (c.states_of.ensures.answer r.0.task (made_at r.0 enc slots r.2.at))) c.states_of.ensures.sound,
      r.3,
    )

pub returns-in-Err-Full : goal.returns-in-Err-Full
returns-in-Err-Full c start f union fits =
    let enc = c.args.enc.now in
    let slots = c.args.board.now.slots.items in
    c.make_by_steps.ensures start f (union_kept start enc c.states_of.new.enc slots f union fits.board.five c.states_of.ensures.same_slots
    (subst (OwnsAnswer enc.sets c.states_of.new.enc.sets (states_in start.task (set_of c.args.set.now))) c.in-Err-Full.is (c.states_of.ensures.answer start.task (made_at start enc slots union.at))) c.states_of.ensures.sound) fits

pub returns-in-Err-Memory : goal.returns-in-Err-Memory
returns-in-Err-Memory c start f union fits =
    let enc = c.args.enc.now in
    let slots = c.args.board.now.slots.items in (
      (union_kept start enc c.states_of.new.enc slots f union fits.board.five c.states_of.ensures.same_slots
          (subst (OwnsAnswer enc.sets c.states_of.new.enc.sets (states_in start.task (set_of c.args.set.now))) c.in-Err-Memory.is (c.states_of.ensures.answer start.task (made_at start enc slots union.at))) c.states_of.ensures.sound).at,
      λ full. absurd (let same : Memory ≡ Full = full in cc),
    )

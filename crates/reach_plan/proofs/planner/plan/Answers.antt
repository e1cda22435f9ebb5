-- What the rules do, and what is left.
use Rattle.std.proofs.Common.{◌≡◌, ◌∙◌, [], Err, ap, inl, refl, subst, sym}
use Rattle.std.specs.List.{flat_map, range_with_len}
use Rattle.std.proofs.lemmas.Result.{err_from_is_err_and}
use Rattle.dd_sets.specs.declared.errors.SetErr.TheVariants.{Full}
use Rattle.preimage.proofs.FrameSteps.{made_now, same_chain}
use Rattle.dd_sets.proofs.SizeLemmas.{every_small}
use Rattle.slot_board.specs.Board.{Working, set_at}
use Rattle.slot_board.proofs.BoardSlots.{working_owns}
use Rattle.task_core.specs.Tasks.{action_count, fluent_count}
use Rattle.reach_plan.specs.SetRules.{rules_of_place}
use Rattle.reach_plan.specs.Takers.{AreFound, slots_of}
use Rattle.reach_plan.specs.declared.takers.Takers.{Takers}
use Rattle.reach_plan.proofs.PlanSteps.{planned, printed_by_places, start_of}
use Rattle.reach_plan.proofs.SmallSets.{wide_enough}
use Rattle.reach_plan.proofs.planner.plan.Goals as goal

pub returns-in_err-find_takers-clause-full : goal.returns-in_err-find_takers-clause-full
returns-in_err-find_takers-clause-full c full width wide =
    let p = err_from_is_err_and c.from_residual.result c.from_residual.ensures.1 in
    let same : p.0 ≡ Full = cc in
    c.in_err-find_takers.ensures.full (ap Err (sym p.2 ∙ same)) width wide

pub returns-in-NoPlan-clause-answer : goal.returns-in-NoPlan-clause-answer
returns-in-NoPlan-clause-answer c = subst (AreFound c.args.class c.args.task.now c.find_takers.new.enc.sets) c.in-NoPlan.is c.in_ok-find_takers.ensures.found

pub returns-in-NoPlan-clause-slots : goal.returns-in-NoPlan-clause-slots
returns-in-NoPlan-clause-slots c =
    working_owns c.args.enc.now.sets c.find_takers.new.enc.sets
    (subst (λ (f : Takers). Working c.args.enc.now.sets c.find_takers.new.enc.sets (slots_of f)) c.in-NoPlan.is c.in_ok-find_takers.ensures.slots)

pub write_rules-requires-clause-working : goal.write_rules-requires-clause-working
write_rules-requires-clause-working c =
    let mid = c.find_takers.new.enc in
    let task = c.args.task.now in
    let made = c.find_takers.ensures.made task c.requires.made in
    let slots = c.in-Board.board.slots.items in
    let found = subst (AreFound c.args.class task mid.sets) c.in-Board.is c.in_ok-find_takers.ensures.found in
    let work = subst (λ (f : Takers). Working c.args.enc.now.sets c.find_takers.new.enc.sets (slots_of f)) c.in-Board.is c.in_ok-find_takers.ensures.slots in
    let any = wide_enough c.args.class task in (
      start_of task c.args.enc.now c.requires.made (action_count task) 0 _ any.wide [],
      record { same = c.find_takers.ensures.same_slots; working = work; long = found.long; each = λ place within. inl (every_small (fluent_count task) (set_at mid.sets slots place)) },
    )

pub returns-in_err-rules-in-Board-clause-made : goal.returns-in_err-rules-in-Board-clause-made
returns-in_err-rules-in-Board-clause-made c task made =
    let work = subst (λ (f : Takers). Working c.args.enc.now.sets c.find_takers.new.enc.sets (slots_of f)) c.in-Board.is c.in_ok-find_takers.ensures.slots in
    made_now task c.args.enc.now c.write_rules.new.enc (same_chain c.args.enc.now c.find_takers.new.enc c.write_rules.new.enc c.find_takers.ensures.same_slots c.write_rules.ensures.same_slots)
    (c.write_rules.ensures.slots c.args.enc.now.sets work).kept made

pub returns-in_ok-rules-in-Board-clause-made : goal.returns-in_ok-rules-in-Board-clause-made
returns-in_ok-rules-in-Board-clause-made c task made =
    let work = subst (λ (f : Takers). Working c.args.enc.now.sets c.find_takers.new.enc.sets (slots_of f)) c.in-Board.is c.in_ok-find_takers.ensures.slots in
    made_now task c.args.enc.now c.write_rules.new.enc (same_chain c.args.enc.now c.find_takers.new.enc c.write_rules.new.enc c.find_takers.ensures.same_slots c.write_rules.ensures.same_slots)
    (c.write_rules.ensures.slots c.args.enc.now.sets work).kept made

pub returns-in_ok-rules-in-Board-clause-answer : goal.returns-in_ok-rules-in-Board-clause-answer
returns-in_ok-rules-in-Board-clause-answer c =
    let mid = c.find_takers.new.enc in
    let task = c.args.task.now in
    let made = c.find_takers.ensures.made task c.requires.made in
    let slots = c.in-Board.board.slots.items in
    let found = subst (AreFound c.args.class task mid.sets) c.in-Board.is c.in_ok-find_takers.ensures.found in
    let is = c.in_ok-rules-in-Board.ensures.rules ∙ ap (λ n. flat_map (rules_of_place mid.sets slots) (range_with_len 0 n)) found.long ∙ printed_by_places c.args.class task mid slots made found in
    planned c.args.class c.requires.class task found.layers _ found.last refl is

use Rattle.std.proofs.Common.{◌≡◌, ◌+◌, ◌^◌, [], ap, arith, length, map, refl, subst, sym}
use Rattle.std.specs.Prelude.{IsSome}
use Rattle.encode_task.specs.Slots.{Encoded}
use Rattle.encode_task.proofs.MadeLemmas.{goal_there}
use Rattle.plan_rules.specs.Rules.{rule_of}
use Rattle.preimage.proofs.FrameSteps.{made_now, same_chain}
use Rattle.task_core.specs.Tasks.{action_count, fluent_count}
use Rattle.slot_board.proofs.Endings.{ends_at, ends_full, ends_ok}
use Rattle.judge_sets.proofs.JudgeSteps.{all_bounded, room_of, scene_of}
use Rattle.judge_sets.proofs.verdict.judge_table.Goals as goal

pub returns-in_err-board-clause-made : goal.returns-in_err-board-clause-made
returns-in_err-board-clause-made c task made =
    made_now task c.args.enc.now c.new.new.enc c.new.ensures.same_slots c.in_err-board.ensures.refused.kept made

pub judge-judged-requires-clause-ready : goal.judge-judged-requires-clause-ready
judge-judged-requires-clause-ready c =
    let task = c.args.task.now in
    let enc = c.args.enc.now in
    let rules = map rule_of c.args.rules.now in
    let are : c.places.result ≡ 7 + action_count c.args.task.now = omega (arith, c.places.ensures) in
    let scene = scene_of task enc c.requires.made (2 ^ fluent_count c.args.task.now + 1) rules (all_bounded c.args.task.now (map rule_of c.args.rules.now)) c.places.result are c.requires.in_task c.requires.goal in
    let opened = c.in_ok-board.ensures.opened task c.requires.made 0 (2 ^ fluent_count c.args.task.now + 1) (all_bounded c.args.task.now (map rule_of c.args.rules.now)).wide [] in
    (scene, opened, refl)

pub judge-judged-requires-clause-goal : goal.judge-judged-requires-clause-goal
judge-judged-requires-clause-goal c =
    subst (λ (e : Encoded). IsSome e.goal) (sym c.new.ensures.same_slots) (goal_there c.args.task.now c.args.enc.now c.requires.made c.requires.goal)

pub judge-judged-requires-clause-actions : goal.judge-judged-requires-clause-actions
judge-judged-requires-clause-actions c =
    let count : length c.args.enc.now.actions ≡ action_count c.args.task.now = c.requires.made.actions in
    let same : length c.new.new.enc.actions ≡ length c.args.enc.now.actions = ap (λ (e : Encoded). length e.actions) c.new.ensures.same_slots in
    omega (arith, c.order_of-order.ensures)

pub close-requires : goal.close-requires
close-requires c =
    let task = c.args.task.now in
    let enc = c.args.enc.now in
    let rules = map rule_of c.args.rules.now in
    let are : c.places.result ≡ 7 + action_count c.args.task.now = omega (arith, c.places.ensures) in
    let scene = scene_of task enc c.requires.made (2 ^ fluent_count c.args.task.now + 1) rules (all_bounded c.args.task.now (map rule_of c.args.rules.now)) c.places.result are c.requires.in_task c.requires.goal in
    let opened = c.in_ok-board.ensures.opened task c.requires.made 0 (2 ^ fluent_count c.args.task.now + 1) (all_bounded c.args.task.now (map rule_of c.args.rules.now)).wide [] in
    let ends = c.judge-judged.ensures scene opened refl in
    (c.args.enc.now.sets, (ends_at scene.start c.judge-judged.new.enc c.judge-judged.new.board.slots.items _ c.judge-judged.result (λ verdict done. done.0.there.at) ends).working)

pub returns-clause-solves : goal.returns-clause-solves
returns-clause-solves c =
    let task = c.args.task.now in
    let enc = c.args.enc.now in
    let rules = map rule_of c.args.rules.now in
    let are : c.places.result ≡ 7 + action_count c.args.task.now = omega (arith, c.places.ensures) in
    let scene = scene_of task enc c.requires.made (2 ^ fluent_count c.args.task.now + 1) rules (all_bounded c.args.task.now (map rule_of c.args.rules.now)) c.places.result are c.requires.in_task c.requires.goal in
    let opened = c.in_ok-board.ensures.opened task c.requires.made 0 (2 ^ fluent_count c.args.task.now + 1) (all_bounded c.args.task.now (map rule_of c.args.rules.now)).wide [] in
    let ends = c.judge-judged.ensures scene opened refl in
    ends_ok scene.start c.judge-judged.new.enc c.judge-judged.new.board.slots.items _ _ c.judge-judged.result (λ verdict done. done.1.solves) ends

pub returns-clause-agrees : goal.returns-clause-agrees
returns-clause-agrees c =
    let task = c.args.task.now in
    let enc = c.args.enc.now in
    let rules = map rule_of c.args.rules.now in
    let are : c.places.result ≡ 7 + action_count c.args.task.now = omega (arith, c.places.ensures) in
    let scene = scene_of task enc c.requires.made (2 ^ fluent_count c.args.task.now + 1) rules (all_bounded c.args.task.now (map rule_of c.args.rules.now)) c.places.result are c.requires.in_task c.requires.goal in
    let opened = c.in_ok-board.ensures.opened task c.requires.made 0 (2 ^ fluent_count c.args.task.now + 1) (all_bounded c.args.task.now (map rule_of c.args.rules.now)).wide [] in
    let ends = c.judge-judged.ensures scene opened refl in
    ends_ok scene.start c.judge-judged.new.enc c.judge-judged.new.board.slots.items _ _ c.judge-judged.result (λ verdict done. done.1.agrees) ends

pub returns-clause-each_counts : goal.returns-clause-each_counts
returns-clause-each_counts c =
    let task = c.args.task.now in
    let enc = c.args.enc.now in
    let rules = map rule_of c.args.rules.now in
    let are : c.places.result ≡ 7 + action_count c.args.task.now = omega (arith, c.places.ensures) in
    let scene = scene_of task enc c.requires.made (2 ^ fluent_count c.args.task.now + 1) rules (all_bounded c.args.task.now (map rule_of c.args.rules.now)) c.places.result are c.requires.in_task c.requires.goal in
    let opened = c.in_ok-board.ensures.opened task c.requires.made 0 (2 ^ fluent_count c.args.task.now + 1) (all_bounded c.args.task.now (map rule_of c.args.rules.now)).wide [] in
    let ends = c.judge-judged.ensures scene opened refl in
    ends_ok scene.start c.judge-judged.new.enc c.judge-judged.new.board.slots.items _ _ c.judge-judged.result (λ verdict done. done.1.each_counts) ends

pub returns-clause-full : goal.returns-clause-full
returns-clause-full c full width wide =
    let task = c.args.task.now in
    let enc = c.args.enc.now in
    let rules = map rule_of c.args.rules.now in
    let are : c.places.result ≡ 7 + action_count c.args.task.now = omega (arith, c.places.ensures) in
    let scene = scene_of task enc c.requires.made width rules wide c.places.result are c.requires.in_task c.requires.goal in
    let opened = c.in_ok-board.ensures.opened task c.requires.made 0 width wide.wide [] in
    let ends = c.judge-judged.ensures scene opened refl in
    room_of task enc.sets c.close.new.enc.sets width c.places.result are (c.close.ensures.room enc.sets width _ _ (ends_full scene.start c.judge-judged.new.enc c.judge-judged.new.board.slots.items _ c.judge-judged.result ends full))

pub returns-clause-slots : goal.returns-clause-slots
returns-clause-slots c =
    let task = c.args.task.now in
    let enc = c.args.enc.now in
    let rules = map rule_of c.args.rules.now in
    let are : c.places.result ≡ 7 + action_count c.args.task.now = omega (arith, c.places.ensures) in
    let scene = scene_of task enc c.requires.made (2 ^ fluent_count c.args.task.now + 1) rules (all_bounded c.args.task.now (map rule_of c.args.rules.now)) c.places.result are c.requires.in_task c.requires.goal in
    let opened = c.in_ok-board.ensures.opened task c.requires.made 0 (2 ^ fluent_count c.args.task.now + 1) (all_bounded c.args.task.now (map rule_of c.args.rules.now)).wide [] in
    let ends = c.judge-judged.ensures scene opened refl in
    c.close.ensures.frame enc.sets (ends_at scene.start c.judge-judged.new.enc c.judge-judged.new.board.slots.items _ c.judge-judged.result (λ verdict done. done.0.there.at) ends).working

pub returns-clause-same_slots : goal.returns-clause-same_slots
returns-clause-same_slots c =
    let task = c.args.task.now in
    let enc = c.args.enc.now in
    let rules = map rule_of c.args.rules.now in
    let are : c.places.result ≡ 7 + action_count c.args.task.now = omega (arith, c.places.ensures) in
    let scene = scene_of task enc c.requires.made (2 ^ fluent_count c.args.task.now + 1) rules (all_bounded c.args.task.now (map rule_of c.args.rules.now)) c.places.result are c.requires.in_task c.requires.goal in
    let opened = c.in_ok-board.ensures.opened task c.requires.made 0 (2 ^ fluent_count c.args.task.now + 1) (all_bounded c.args.task.now (map rule_of c.args.rules.now)).wide [] in
    let ends = c.judge-judged.ensures scene opened refl in
    same_chain enc c.judge-judged.new.enc c.close.new.enc (ends_at scene.start c.judge-judged.new.enc c.judge-judged.new.board.slots.items _ c.judge-judged.result (λ verdict done. done.0.there.at) ends).same c.close.ensures.same_slots

pub returns-clause-made : goal.returns-clause-made
returns-clause-made c any made =
    let task = c.args.task.now in
    let enc = c.args.enc.now in
    let rules = map rule_of c.args.rules.now in
    let are : c.places.result ≡ 7 + action_count c.args.task.now = omega (arith, c.places.ensures) in
    let scene = scene_of task enc c.requires.made (2 ^ fluent_count c.args.task.now + 1) rules (all_bounded c.args.task.now (map rule_of c.args.rules.now)) c.places.result are c.requires.in_task c.requires.goal in
    let opened = c.in_ok-board.ensures.opened task c.requires.made 0 (2 ^ fluent_count c.args.task.now + 1) (all_bounded c.args.task.now (map rule_of c.args.rules.now)).wide [] in
    let ends = c.judge-judged.ensures scene opened refl in
    made_now any enc c.close.new.enc (same_chain enc c.judge-judged.new.enc c.close.new.enc (ends_at scene.start c.judge-judged.new.enc c.judge-judged.new.board.slots.items _ c.judge-judged.result (λ verdict done. done.0.there.at) ends).same c.close.ensures.same_slots) (c.close.ensures.frame enc.sets (ends_at scene.start c.judge-judged.new.enc c.judge-judged.new.board.slots.items _ c.judge-judged.result (λ verdict done. done.0.there.at) ends).working).kept made

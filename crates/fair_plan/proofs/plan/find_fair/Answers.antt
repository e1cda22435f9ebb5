use Rattle.std.proofs.Common.{◌≡◌, ◌∙◌, ◌+◌, ◌^◌, ℕ, [], ap, arith, length, refl, subst, sym}
use Rattle.encode_task.specs.Slots.{Encoded}
use Rattle.task_core.specs.Tasks.{action_count, fluent_count}
use Rattle.preimage.proofs.FrameSteps.{same_chain}
use Rattle.slot_board.proofs.Endings.{ends_at, ends_full, ends_ok}
use Rattle.fair_plan.specs.Goals.{IsFairGoalOver}
use Rattle.fair_plan.specs.Places.{place_count}
use Rattle.fair_plan.proofs.PlanSteps.{origin_of, wide_enough}
use Rattle.fair_plan.proofs.plan.find_fair.Goals as goal

pub count_of-count-requires : goal.count_of-count-requires
count_of-count-requires c = (fluent_count c.args.task.now, c.requires.goal)

pub search_goal-found-requires-clause-ready : goal.search_goal-found-requires-clause-ready
search_goal-found-requires-clause-ready c =
    let task = c.args.task.now in
    let acts : c.len-actions.result ≡ action_count c.args.task.now = omega (arith, c.len-actions.ensures) in
    let are : c.places.result ≡ place_count (action_count c.args.task.now) c.count_of-count.result = c.places.ensures ∙ ap (λ k. place_count k c.count_of-count.result) acts in
    let origin = origin_of task c.args.enc.now c.requires.made c.places.result c.count_of-count.result are in
    let opened = c.in_ok-board.ensures.opened task c.requires.made 196 (2 ^ fluent_count c.args.task.now + 1) (wide_enough task) [] in
    (origin, opened.at, refl)

pub search_goal-found-requires-clause-actions : goal.search_goal-found-requires-clause-actions
search_goal-found-requires-clause-actions c =
    let count : length c.args.enc.now.actions ≡ action_count c.args.task.now = c.requires.made.actions in
    let same : length c.new.new.enc.actions ≡ length c.args.enc.now.actions = ap (λ (e : Encoded). length e.actions) c.new.ensures.same_slots in
    let acts : c.len-actions.result ≡ action_count c.args.task.now = omega (arith, c.len-actions.ensures) in
    omega arith

pub search_goal-found-requires-clause-goal : goal.search_goal-found-requires-clause-goal
search_goal-found-requires-clause-goal c =
    let task = c.args.task.now in
    let opened = c.in_ok-board.ensures.opened task c.requires.made 196 (2 ^ fluent_count c.args.task.now + 1) (wide_enough task) [] in
    subst (λ (n : ℕ). IsFairGoalOver n c.args.goal.now) (sym (opened.at.working.kept.vars ∙ c.requires.made.ready.vars ∙ c.requires.made.fluents)) c.requires.goal

pub close-requires : goal.close-requires
close-requires c =
    let task = c.args.task.now in
    let acts : c.len-actions.result ≡ action_count c.args.task.now = omega (arith, c.len-actions.ensures) in
    let are : c.places.result ≡ place_count (action_count c.args.task.now) c.count_of-count.result = c.places.ensures ∙ ap (λ k. place_count k c.count_of-count.result) acts in
    let origin = origin_of task c.args.enc.now c.requires.made c.places.result c.count_of-count.result are in
    let opened = c.in_ok-board.ensures.opened task c.requires.made 196 (2 ^ fluent_count c.args.task.now + 1) (wide_enough task) [] in
    let ends = c.search_goal-found.ensures origin opened.at refl in
    let at = ends_at origin.start c.search_goal-found.new.enc c.search_goal-found.new.board.slots.items _ c.search_goal-found.result (λ found is. is.0.at) ends in
    (c.args.enc.now.sets, at.working)

pub returns-clause-answer : goal.returns-clause-answer
returns-clause-answer c =
    let task = c.args.task.now in
    let acts : c.len-actions.result ≡ action_count c.args.task.now = omega (arith, c.len-actions.ensures) in
    let are : c.places.result ≡ place_count (action_count c.args.task.now) c.count_of-count.result = c.places.ensures ∙ ap (λ k. place_count k c.count_of-count.result) acts in
    let origin = origin_of task c.args.enc.now c.requires.made c.places.result c.count_of-count.result are in
    let opened = c.in_ok-board.ensures.opened task c.requires.made 196 (2 ^ fluent_count c.args.task.now + 1) (wide_enough task) [] in
    ends_ok origin.start c.search_goal-found.new.enc c.search_goal-found.new.board.slots.items _ _ c.search_goal-found.result (λ found is. is.1) (c.search_goal-found.ensures origin opened.at refl)

pub returns-clause-full : goal.returns-clause-full
returns-clause-full c full =
    let task = c.args.task.now in
    let acts : c.len-actions.result ≡ action_count c.args.task.now = omega (arith, c.len-actions.ensures) in
    let are : c.places.result ≡ place_count (action_count c.args.task.now) c.count_of-count.result = c.places.ensures ∙ ap (λ k. place_count k c.count_of-count.result) acts in
    let origin = origin_of task c.args.enc.now c.requires.made c.places.result c.count_of-count.result are in
    let opened = c.in_ok-board.ensures.opened task c.requires.made 196 (2 ^ fluent_count c.args.task.now + 1) (wide_enough task) [] in
    let no_room = ends_full origin.start c.search_goal-found.new.enc c.search_goal-found.new.board.slots.items _ c.search_goal-found.result (c.search_goal-found.ensures origin opened.at refl) full in
    (c.close.ensures.room c.args.enc.now.sets _ _ _ no_room).at_limit

pub returns-clause-slots : goal.returns-clause-slots
returns-clause-slots c =
    let task = c.args.task.now in
    let acts : c.len-actions.result ≡ action_count c.args.task.now = omega (arith, c.len-actions.ensures) in
    let are : c.places.result ≡ place_count (action_count c.args.task.now) c.count_of-count.result = c.places.ensures ∙ ap (λ k. place_count k c.count_of-count.result) acts in
    let origin = origin_of task c.args.enc.now c.requires.made c.places.result c.count_of-count.result are in
    let opened = c.in_ok-board.ensures.opened task c.requires.made 196 (2 ^ fluent_count c.args.task.now + 1) (wide_enough task) [] in
    let ends = c.search_goal-found.ensures origin opened.at refl in
    let at = ends_at origin.start c.search_goal-found.new.enc c.search_goal-found.new.board.slots.items _ c.search_goal-found.result (λ found is. is.0.at) ends in
    c.close.ensures.frame c.args.enc.now.sets at.working

pub returns-clause-same_slots : goal.returns-clause-same_slots
returns-clause-same_slots c =
    let task = c.args.task.now in
    let acts : c.len-actions.result ≡ action_count c.args.task.now = omega (arith, c.len-actions.ensures) in
    let are : c.places.result ≡ place_count (action_count c.args.task.now) c.count_of-count.result = c.places.ensures ∙ ap (λ k. place_count k c.count_of-count.result) acts in
    let origin = origin_of task c.args.enc.now c.requires.made c.places.result c.count_of-count.result are in
    let opened = c.in_ok-board.ensures.opened task c.requires.made 196 (2 ^ fluent_count c.args.task.now + 1) (wide_enough task) [] in
    let ends = c.search_goal-found.ensures origin opened.at refl in
    let at = ends_at origin.start c.search_goal-found.new.enc c.search_goal-found.new.board.slots.items _ c.search_goal-found.result (λ found is. is.0.at) ends in
    same_chain c.args.enc.now c.search_goal-found.new.enc c.close.new.enc at.same c.close.ensures.same_slots

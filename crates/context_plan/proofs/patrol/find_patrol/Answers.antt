use Rattle.std.proofs.Common.{◌≡◌, ◌∙◌, ◌+◌, ◌*◌, ◌^◌, ap, arith, length, refl, subst, sym}
use Rattle.task_core.specs.Tasks.{action_count, fluent_count}
use Rattle.preimage.proofs.FrameSteps.{same_chain}
use Rattle.context_plan.specs.Chains.{IsPatrolOver, visit_sets}
use Rattle.context_plan.specs.Scenes.{place_count, rough_places}
use Rattle.context_plan.specs.Tables.{start_of}
use Rattle.context_plan.proofs.PatrolFit.{patrol_fits, widest_patrol}
use Rattle.context_plan.proofs.PatrolPlan.{ends_answer, ends_at, ends_full}
use Rattle.context_plan.proofs.PlanSteps.{first_places, room_of}
use Rattle.context_plan.proofs.patrol.find_patrol.Goals as goal

pub search_visits-found-requires-clause-ready : goal.search_visits-found-requires-clause-ready
search_visits-found-requires-clause-ready c =
    let wide = widest_patrol c.args.task.now c.args.visits.now in
    let start = start_of c.args.task.now c.args.enc.now c.requires.made (length c.args.visits.now) (2 ^ fluent_count c.args.task.now + 1) wide.fluents in
    let fits = patrol_fits start c.args.visits.now wide in
    let places = first_places c.args.task.now c.args.enc.now c.new.new.enc c.requires.made (length c.args.visits.now) (2 ^ fluent_count c.args.task.now + 1) c.places.result _ wide.fluents _ (c.places.ensures ∙ ap (λ k. place_count k c.count_of-count.result) (let e : c.len-actions.result ≡ action_count c.args.task.now = omega (arith, c.len-actions.ensures) in e) ∙ ap (place_count (action_count c.args.task.now)) (let e : c.count_of-count.result ≡ length c.args.visits.now = c.count_of-count.ensures in e)) refl (c.in_ok-board.ensures.opened c.args.task.now c.requires.made (action_count c.args.task.now + 6 * length c.args.visits.now + 218) (2 ^ fluent_count c.args.task.now + 1) wide.fluents rough_places) in
    (start, refl, places, fits)

pub search_visits-found-requires-clause-visits : goal.search_visits-found-requires-clause-visits
search_visits-found-requires-clause-visits c =
    let wide = widest_patrol c.args.task.now c.args.visits.now in
    let places = first_places c.args.task.now c.args.enc.now c.new.new.enc c.requires.made (length c.args.visits.now) (2 ^ fluent_count c.args.task.now + 1) c.places.result _ wide.fluents _ (c.places.ensures ∙ ap (λ k. place_count k c.count_of-count.result) (let e : c.len-actions.result ≡ action_count c.args.task.now = omega (arith, c.len-actions.ensures) in e) ∙ ap (place_count (action_count c.args.task.now)) (let e : c.count_of-count.result ≡ length c.args.visits.now = c.count_of-count.ensures in e)) refl (c.in_ok-board.ensures.opened c.args.task.now c.requires.made (action_count c.args.task.now + 6 * length c.args.visits.now + 218) (2 ^ fluent_count c.args.task.now + 1) wide.fluents rough_places) in
    subst (λ n. IsPatrolOver n c.args.visits.now) (sym (places.at.working.kept.vars ∙ c.requires.made.ready.vars ∙ c.requires.made.fluents)) c.requires.visits

pub close-requires : goal.close-requires
close-requires c =
    let wide = widest_patrol c.args.task.now c.args.visits.now in
    let start = start_of c.args.task.now c.args.enc.now c.requires.made (length c.args.visits.now) (2 ^ fluent_count c.args.task.now + 1) wide.fluents in
    let fits = patrol_fits start c.args.visits.now wide in
    let places = first_places c.args.task.now c.args.enc.now c.new.new.enc c.requires.made (length c.args.visits.now) (2 ^ fluent_count c.args.task.now + 1) c.places.result _ wide.fluents _ (c.places.ensures ∙ ap (λ k. place_count k c.count_of-count.result) (let e : c.len-actions.result ≡ action_count c.args.task.now = omega (arith, c.len-actions.ensures) in e) ∙ ap (place_count (action_count c.args.task.now)) (let e : c.count_of-count.result ≡ length c.args.visits.now = c.count_of-count.ensures in e)) refl (c.in_ok-board.ensures.opened c.args.task.now c.requires.made (action_count c.args.task.now + 6 * length c.args.visits.now + 218) (2 ^ fluent_count c.args.task.now + 1) wide.fluents rough_places) in
    let ends = c.search_visits-found.ensures start refl places fits in
    let at = ends_at start (c.search_visits-found.new.enc, c.search_visits-found.new.board.slots.items) (visit_sets c.args.visits.now) c.search_visits-found.result ends in
    (c.args.enc.now.sets, at.working)

pub returns-clause-answer : goal.returns-clause-answer
returns-clause-answer c =
    let wide = widest_patrol c.args.task.now c.args.visits.now in
    let start = start_of c.args.task.now c.args.enc.now c.requires.made (length c.args.visits.now) (2 ^ fluent_count c.args.task.now + 1) wide.fluents in
    let fits = patrol_fits start c.args.visits.now wide in
    let places = first_places c.args.task.now c.args.enc.now c.new.new.enc c.requires.made (length c.args.visits.now) (2 ^ fluent_count c.args.task.now + 1) c.places.result _ wide.fluents _ (c.places.ensures ∙ ap (λ k. place_count k c.count_of-count.result) (let e : c.len-actions.result ≡ action_count c.args.task.now = omega (arith, c.len-actions.ensures) in e) ∙ ap (place_count (action_count c.args.task.now)) (let e : c.count_of-count.result ≡ length c.args.visits.now = c.count_of-count.ensures in e)) refl (c.in_ok-board.ensures.opened c.args.task.now c.requires.made (action_count c.args.task.now + 6 * length c.args.visits.now + 218) (2 ^ fluent_count c.args.task.now + 1) wide.fluents rough_places) in
    let ends = c.search_visits-found.ensures start refl places fits in
    ends_answer start (c.search_visits-found.new.enc, c.search_visits-found.new.board.slots.items) (visit_sets c.args.visits.now) c.search_visits-found.result ends

pub returns-clause-slots : goal.returns-clause-slots
returns-clause-slots c =
    let wide = widest_patrol c.args.task.now c.args.visits.now in
    let start = start_of c.args.task.now c.args.enc.now c.requires.made (length c.args.visits.now) (2 ^ fluent_count c.args.task.now + 1) wide.fluents in
    let fits = patrol_fits start c.args.visits.now wide in
    let places = first_places c.args.task.now c.args.enc.now c.new.new.enc c.requires.made (length c.args.visits.now) (2 ^ fluent_count c.args.task.now + 1) c.places.result _ wide.fluents _ (c.places.ensures ∙ ap (λ k. place_count k c.count_of-count.result) (let e : c.len-actions.result ≡ action_count c.args.task.now = omega (arith, c.len-actions.ensures) in e) ∙ ap (place_count (action_count c.args.task.now)) (let e : c.count_of-count.result ≡ length c.args.visits.now = c.count_of-count.ensures in e)) refl (c.in_ok-board.ensures.opened c.args.task.now c.requires.made (action_count c.args.task.now + 6 * length c.args.visits.now + 218) (2 ^ fluent_count c.args.task.now + 1) wide.fluents rough_places) in
    let ends = c.search_visits-found.ensures start refl places fits in
    let at = ends_at start (c.search_visits-found.new.enc, c.search_visits-found.new.board.slots.items) (visit_sets c.args.visits.now) c.search_visits-found.result ends in
    c.close.ensures.frame c.args.enc.now.sets at.working

pub returns-clause-same_slots : goal.returns-clause-same_slots
returns-clause-same_slots c =
    let wide = widest_patrol c.args.task.now c.args.visits.now in
    let start = start_of c.args.task.now c.args.enc.now c.requires.made (length c.args.visits.now) (2 ^ fluent_count c.args.task.now + 1) wide.fluents in
    let fits = patrol_fits start c.args.visits.now wide in
    let places = first_places c.args.task.now c.args.enc.now c.new.new.enc c.requires.made (length c.args.visits.now) (2 ^ fluent_count c.args.task.now + 1) c.places.result _ wide.fluents _ (c.places.ensures ∙ ap (λ k. place_count k c.count_of-count.result) (let e : c.len-actions.result ≡ action_count c.args.task.now = omega (arith, c.len-actions.ensures) in e) ∙ ap (place_count (action_count c.args.task.now)) (let e : c.count_of-count.result ≡ length c.args.visits.now = c.count_of-count.ensures in e)) refl (c.in_ok-board.ensures.opened c.args.task.now c.requires.made (action_count c.args.task.now + 6 * length c.args.visits.now + 218) (2 ^ fluent_count c.args.task.now + 1) wide.fluents rough_places) in
    let ends = c.search_visits-found.ensures start refl places fits in
    let at = ends_at start (c.search_visits-found.new.enc, c.search_visits-found.new.board.slots.items) (visit_sets c.args.visits.now) c.search_visits-found.result ends in
    same_chain c.args.enc.now c.search_visits-found.new.enc c.close.new.enc at.same c.close.ensures.same_slots

pub returns-clause-full : goal.returns-clause-full
returns-clause-full c full w wide =
    let start = start_of c.args.task.now c.args.enc.now c.requires.made (length c.args.visits.now) w wide.fluents in
    let fits = patrol_fits start c.args.visits.now wide in
    let places = first_places c.args.task.now c.args.enc.now c.new.new.enc c.requires.made (length c.args.visits.now) w c.places.result _ wide.fluents _ (c.places.ensures ∙ ap (λ k. place_count k c.count_of-count.result) (let e : c.len-actions.result ≡ action_count c.args.task.now = omega (arith, c.len-actions.ensures) in e) ∙ ap (place_count (action_count c.args.task.now)) (let e : c.count_of-count.result ≡ length c.args.visits.now = c.count_of-count.ensures in e)) refl (c.in_ok-board.ensures.opened c.args.task.now c.requires.made (action_count c.args.task.now + 6 * length c.args.visits.now + 218) w wide.fluents rough_places) in
    let ends = c.search_visits-found.ensures start refl places fits in
    c.close.ensures.room c.args.enc.now.sets w (action_count c.args.task.now * (length c.args.visits.now + 3) + 8 * length c.args.visits.now + 236) 16 (room_of start c.search_visits-found.new.enc (ends_full start (c.search_visits-found.new.enc, c.search_visits-found.new.board.slots.items) (visit_sets c.args.visits.now) c.search_visits-found.result ends full))

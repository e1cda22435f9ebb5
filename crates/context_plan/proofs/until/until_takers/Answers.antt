use Rattle.preimage.proofs.FrameSteps.{same_chain}
use Rattle.context_plan.proofs.FitSteps.{search_fits, widest}
use Rattle.std.proofs.Common.{◌≡◌, ◌+◌, ◌*◌, ◌^◌, ap, arith, length, refl, subst, sym, ◌∙◌}
use Rattle.task_core.specs.Tasks.{action_count, fluent_count}
use Rattle.context_plan.specs.Chains.{IsUntilOver, until_sets}
use Rattle.context_plan.specs.Scenes.{place_count, rough_places}
use Rattle.context_plan.specs.Tables.{start_of}
use Rattle.context_plan.proofs.PlanSteps.{ends_found, ends_none, ends_refusal, first_places, room_of}
use Rattle.context_plan.proofs.until.until_takers.Goals as goal

pub search-requires-clause-ready : goal.search-requires-clause-ready
search-requires-clause-ready c =
    let wide = widest c.args.task.now c.args.chain.now in
    let start = start_of c.args.task.now c.args.enc.now c.requires.made (length c.args.chain.now.stages.items) (2 ^ fluent_count c.args.task.now + 1) wide.fluents in
    let fits = search_fits start c.args.chain.now refl wide in
    let first = first_places c.args.task.now c.args.enc.now c.new.new.enc c.requires.made (length c.args.chain.now.stages.items) (2 ^ fluent_count c.args.task.now + 1) c.places.result _ wide.fluents _ (c.places.ensures ∙ ap (λ k. place_count k c.len.result) (let e : c.len-actions.result ≡ action_count c.args.task.now = omega (arith, c.len-actions.ensures) in e) ∙ ap (place_count (action_count c.args.task.now)) (let e : c.len.result ≡ length c.args.chain.now.stages.items = omega (arith, c.len.ensures) in e)) refl (c.in_ok-board.ensures.opened c.args.task.now c.requires.made (action_count c.args.task.now + 6 * length c.args.chain.now.stages.items + 218) (2 ^ fluent_count c.args.task.now + 1) wide.fluents rough_places) in
    (start, refl, first, fits)

pub search-requires-clause-chain : goal.search-requires-clause-chain
search-requires-clause-chain c =
    let wide = widest c.args.task.now c.args.chain.now in
    let start = start_of c.args.task.now c.args.enc.now c.requires.made (length c.args.chain.now.stages.items) (2 ^ fluent_count c.args.task.now + 1) wide.fluents in
    let fits = search_fits start c.args.chain.now refl wide in
    let first = first_places c.args.task.now c.args.enc.now c.new.new.enc c.requires.made (length c.args.chain.now.stages.items) (2 ^ fluent_count c.args.task.now + 1) c.places.result _ wide.fluents _ (c.places.ensures ∙ ap (λ k. place_count k c.len.result) (let e : c.len-actions.result ≡ action_count c.args.task.now = omega (arith, c.len-actions.ensures) in e) ∙ ap (place_count (action_count c.args.task.now)) (let e : c.len.result ≡ length c.args.chain.now.stages.items = omega (arith, c.len.ensures) in e)) refl (c.in_ok-board.ensures.opened c.args.task.now c.requires.made (action_count c.args.task.now + 6 * length c.args.chain.now.stages.items + 218) (2 ^ fluent_count c.args.task.now + 1) wide.fluents rough_places) in
    subst (λ n. IsUntilOver n c.args.chain.now) (sym (first.at.working.kept.vars ∙ c.requires.made.ready.vars ∙ c.requires.made.fluents)) c.requires.chain

pub close-requires : goal.close-requires
close-requires c =
    let wide = widest c.args.task.now c.args.chain.now in
    let start = start_of c.args.task.now c.args.enc.now c.requires.made (length c.args.chain.now.stages.items) (2 ^ fluent_count c.args.task.now + 1) wide.fluents in
    let fits = search_fits start c.args.chain.now refl wide in
    let first = first_places c.args.task.now c.args.enc.now c.new.new.enc c.requires.made (length c.args.chain.now.stages.items) (2 ^ fluent_count c.args.task.now + 1) c.places.result _ wide.fluents _ (c.places.ensures ∙ ap (λ k. place_count k c.len.result) (let e : c.len-actions.result ≡ action_count c.args.task.now = omega (arith, c.len-actions.ensures) in e) ∙ ap (place_count (action_count c.args.task.now)) (let e : c.len.result ≡ length c.args.chain.now.stages.items = omega (arith, c.len.ensures) in e)) refl (c.in_ok-board.ensures.opened c.args.task.now c.requires.made (action_count c.args.task.now + 6 * length c.args.chain.now.stages.items + 218) (2 ^ fluent_count c.args.task.now + 1) wide.fluents rough_places) in
    let ends = c.search.ensures start refl first fits in
    let none = ends_none start (c.search.new.enc, c.search.new.board.slots.items) (until_sets c.args.chain.now) c.search.result (let e = c.in-Ok-false.is in let f = c.in-Ok-false.field-0-test in cc) ends in
    (c.args.enc.now.sets, none.0.working)

pub close-requires-in-Err : goal.close-requires-in-Err
close-requires-in-Err c =
    let wide = widest c.args.task.now c.args.chain.now in
    let start = start_of c.args.task.now c.args.enc.now c.requires.made (length c.args.chain.now.stages.items) (2 ^ fluent_count c.args.task.now + 1) wide.fluents in
    let fits = search_fits start c.args.chain.now refl wide in
    let first = first_places c.args.task.now c.args.enc.now c.new.new.enc c.requires.made (length c.args.chain.now.stages.items) (2 ^ fluent_count c.args.task.now + 1) c.places.result _ wide.fluents _ (c.places.ensures ∙ ap (λ k. place_count k c.len.result) (let e : c.len-actions.result ≡ action_count c.args.task.now = omega (arith, c.len-actions.ensures) in e) ∙ ap (place_count (action_count c.args.task.now)) (let e : c.len.result ≡ length c.args.chain.now.stages.items = omega (arith, c.len.ensures) in e)) refl (c.in_ok-board.ensures.opened c.args.task.now c.requires.made (action_count c.args.task.now + 6 * length c.args.chain.now.stages.items + 218) (2 ^ fluent_count c.args.task.now + 1) wide.fluents rough_places) in
    let ends = c.search.ensures start refl first fits in
    let left = ends_refusal start (c.search.new.enc, c.search.new.board.slots.items) (until_sets c.args.chain.now) c.search.result _ c.in-Err.is ends in
    (c.args.enc.now.sets, left.0.working)

pub returns-in-Ok-true-clause-table : goal.returns-in-Ok-true-clause-table
returns-in-Ok-true-clause-table c made w wide =
    let start = start_of c.args.task.now c.args.enc.now made (length c.args.chain.now.stages.items) w wide.fluents in
    let fits = search_fits start c.args.chain.now refl wide in
    let first = first_places c.args.task.now c.args.enc.now c.new.new.enc made (length c.args.chain.now.stages.items) w c.places.result _ wide.fluents _ (c.places.ensures ∙ ap (λ k. place_count k c.len.result) (let e : c.len-actions.result ≡ action_count c.args.task.now = omega (arith, c.len-actions.ensures) in e) ∙ ap (place_count (action_count c.args.task.now)) (let e : c.len.result ≡ length c.args.chain.now.stages.items = omega (arith, c.len.ensures) in e)) refl (c.in_ok-board.ensures.opened c.args.task.now made (action_count c.args.task.now + 6 * length c.args.chain.now.stages.items + 218) w wide.fluents rough_places) in
    let ends = c.search.ensures start refl first fits in
    ends_found start (c.search.new.enc, c.search.new.board.slots.items) (until_sets c.args.chain.now) c.search.result (let e = c.in-Ok-true.is in let f = c.in-Ok-true.field-0-test in cc) ends

pub returns-in-Ok-true-clause-same_slots : goal.returns-in-Ok-true-clause-same_slots
returns-in-Ok-true-clause-same_slots c =
    let wide = widest c.args.task.now c.args.chain.now in
    let start = start_of c.args.task.now c.args.enc.now c.requires.made (length c.args.chain.now.stages.items) (2 ^ fluent_count c.args.task.now + 1) wide.fluents in
    let fits = search_fits start c.args.chain.now refl wide in
    let first = first_places c.args.task.now c.args.enc.now c.new.new.enc c.requires.made (length c.args.chain.now.stages.items) (2 ^ fluent_count c.args.task.now + 1) c.places.result _ wide.fluents _ (c.places.ensures ∙ ap (λ k. place_count k c.len.result) (let e : c.len-actions.result ≡ action_count c.args.task.now = omega (arith, c.len-actions.ensures) in e) ∙ ap (place_count (action_count c.args.task.now)) (let e : c.len.result ≡ length c.args.chain.now.stages.items = omega (arith, c.len.ensures) in e)) refl (c.in_ok-board.ensures.opened c.args.task.now c.requires.made (action_count c.args.task.now + 6 * length c.args.chain.now.stages.items + 218) (2 ^ fluent_count c.args.task.now + 1) wide.fluents rough_places) in
    let ends = c.search.ensures start refl first fits in
    (ends_found start (c.search.new.enc, c.search.new.board.slots.items) (until_sets c.args.chain.now) c.search.result (let e = c.in-Ok-true.is in let f = c.in-Ok-true.field-0-test in cc) ends).takers.ready.at.same

pub returns-in-Ok-false-clause-no_plan : goal.returns-in-Ok-false-clause-no_plan
returns-in-Ok-false-clause-no_plan c =
    let wide = widest c.args.task.now c.args.chain.now in
    let start = start_of c.args.task.now c.args.enc.now c.requires.made (length c.args.chain.now.stages.items) (2 ^ fluent_count c.args.task.now + 1) wide.fluents in
    let fits = search_fits start c.args.chain.now refl wide in
    let first = first_places c.args.task.now c.args.enc.now c.new.new.enc c.requires.made (length c.args.chain.now.stages.items) (2 ^ fluent_count c.args.task.now + 1) c.places.result _ wide.fluents _ (c.places.ensures ∙ ap (λ k. place_count k c.len.result) (let e : c.len-actions.result ≡ action_count c.args.task.now = omega (arith, c.len-actions.ensures) in e) ∙ ap (place_count (action_count c.args.task.now)) (let e : c.len.result ≡ length c.args.chain.now.stages.items = omega (arith, c.len.ensures) in e)) refl (c.in_ok-board.ensures.opened c.args.task.now c.requires.made (action_count c.args.task.now + 6 * length c.args.chain.now.stages.items + 218) (2 ^ fluent_count c.args.task.now + 1) wide.fluents rough_places) in
    let ends = c.search.ensures start refl first fits in
    let none = ends_none start (c.search.new.enc, c.search.new.board.slots.items) (until_sets c.args.chain.now) c.search.result (let e = c.in-Ok-false.is in let f = c.in-Ok-false.field-0-test in cc) ends in
    none.1

pub returns-in-Ok-false-clause-closed : goal.returns-in-Ok-false-clause-closed
returns-in-Ok-false-clause-closed c =
    let wide = widest c.args.task.now c.args.chain.now in
    let start = start_of c.args.task.now c.args.enc.now c.requires.made (length c.args.chain.now.stages.items) (2 ^ fluent_count c.args.task.now + 1) wide.fluents in
    let fits = search_fits start c.args.chain.now refl wide in
    let first = first_places c.args.task.now c.args.enc.now c.new.new.enc c.requires.made (length c.args.chain.now.stages.items) (2 ^ fluent_count c.args.task.now + 1) c.places.result _ wide.fluents _ (c.places.ensures ∙ ap (λ k. place_count k c.len.result) (let e : c.len-actions.result ≡ action_count c.args.task.now = omega (arith, c.len-actions.ensures) in e) ∙ ap (place_count (action_count c.args.task.now)) (let e : c.len.result ≡ length c.args.chain.now.stages.items = omega (arith, c.len.ensures) in e)) refl (c.in_ok-board.ensures.opened c.args.task.now c.requires.made (action_count c.args.task.now + 6 * length c.args.chain.now.stages.items + 218) (2 ^ fluent_count c.args.task.now + 1) wide.fluents rough_places) in
    let ends = c.search.ensures start refl first fits in
    let none = ends_none start (c.search.new.enc, c.search.new.board.slots.items) (until_sets c.args.chain.now) c.search.result (let e = c.in-Ok-false.is in let f = c.in-Ok-false.field-0-test in cc) ends in
    c.close.ensures.frame c.args.enc.now.sets none.0.working

pub returns-in-Ok-false-clause-same_slots : goal.returns-in-Ok-false-clause-same_slots
returns-in-Ok-false-clause-same_slots c =
    let wide = widest c.args.task.now c.args.chain.now in
    let start = start_of c.args.task.now c.args.enc.now c.requires.made (length c.args.chain.now.stages.items) (2 ^ fluent_count c.args.task.now + 1) wide.fluents in
    let fits = search_fits start c.args.chain.now refl wide in
    let first = first_places c.args.task.now c.args.enc.now c.new.new.enc c.requires.made (length c.args.chain.now.stages.items) (2 ^ fluent_count c.args.task.now + 1) c.places.result _ wide.fluents _ (c.places.ensures ∙ ap (λ k. place_count k c.len.result) (let e : c.len-actions.result ≡ action_count c.args.task.now = omega (arith, c.len-actions.ensures) in e) ∙ ap (place_count (action_count c.args.task.now)) (let e : c.len.result ≡ length c.args.chain.now.stages.items = omega (arith, c.len.ensures) in e)) refl (c.in_ok-board.ensures.opened c.args.task.now c.requires.made (action_count c.args.task.now + 6 * length c.args.chain.now.stages.items + 218) (2 ^ fluent_count c.args.task.now + 1) wide.fluents rough_places) in
    let ends = c.search.ensures start refl first fits in
    let none = ends_none start (c.search.new.enc, c.search.new.board.slots.items) (until_sets c.args.chain.now) c.search.result (let e = c.in-Ok-false.is in let f = c.in-Ok-false.field-0-test in cc) ends in
    same_chain c.args.enc.now c.search.new.enc c.close.new.enc none.0.same c.close.ensures.same_slots

pub returns-in-Err-clause-full : goal.returns-in-Err-clause-full
returns-in-Err-clause-full c full w wide =
    let start = start_of c.args.task.now c.args.enc.now c.requires.made (length c.args.chain.now.stages.items) w wide.fluents in
    let fits = search_fits start c.args.chain.now refl wide in
    let first = first_places c.args.task.now c.args.enc.now c.new.new.enc c.requires.made (length c.args.chain.now.stages.items) w c.places.result _ wide.fluents _ (c.places.ensures ∙ ap (λ k. place_count k c.len.result) (let e : c.len-actions.result ≡ action_count c.args.task.now = omega (arith, c.len-actions.ensures) in e) ∙ ap (place_count (action_count c.args.task.now)) (let e : c.len.result ≡ length c.args.chain.now.stages.items = omega (arith, c.len.ensures) in e)) refl (c.in_ok-board.ensures.opened c.args.task.now c.requires.made (action_count c.args.task.now + 6 * length c.args.chain.now.stages.items + 218) w wide.fluents rough_places) in
    let ends = c.search.ensures start refl first fits in
    let left = ends_refusal start (c.search.new.enc, c.search.new.board.slots.items) (until_sets c.args.chain.now) c.search.result _ c.in-Err.is ends in
    room_of start c.close-in-Err.new.enc (c.close-in-Err.ensures.room c.args.enc.now.sets _ _ _ (left.1 (let e = full in cc)))

pub returns-in-Err-clause-refused : goal.returns-in-Err-clause-refused
returns-in-Err-clause-refused c =
    let wide = widest c.args.task.now c.args.chain.now in
    let start = start_of c.args.task.now c.args.enc.now c.requires.made (length c.args.chain.now.stages.items) (2 ^ fluent_count c.args.task.now + 1) wide.fluents in
    let fits = search_fits start c.args.chain.now refl wide in
    let first = first_places c.args.task.now c.args.enc.now c.new.new.enc c.requires.made (length c.args.chain.now.stages.items) (2 ^ fluent_count c.args.task.now + 1) c.places.result _ wide.fluents _ (c.places.ensures ∙ ap (λ k. place_count k c.len.result) (let e : c.len-actions.result ≡ action_count c.args.task.now = omega (arith, c.len-actions.ensures) in e) ∙ ap (place_count (action_count c.args.task.now)) (let e : c.len.result ≡ length c.args.chain.now.stages.items = omega (arith, c.len.ensures) in e)) refl (c.in_ok-board.ensures.opened c.args.task.now c.requires.made (action_count c.args.task.now + 6 * length c.args.chain.now.stages.items + 218) (2 ^ fluent_count c.args.task.now + 1) wide.fluents rough_places) in
    let ends = c.search.ensures start refl first fits in
    let left = ends_refusal start (c.search.new.enc, c.search.new.board.slots.items) (until_sets c.args.chain.now) c.search.result _ c.in-Err.is ends in
    c.close-in-Err.ensures.frame c.args.enc.now.sets left.0.working

pub returns-in-Err-clause-same_slots : goal.returns-in-Err-clause-same_slots
returns-in-Err-clause-same_slots c =
    let wide = widest c.args.task.now c.args.chain.now in
    let start = start_of c.args.task.now c.args.enc.now c.requires.made (length c.args.chain.now.stages.items) (2 ^ fluent_count c.args.task.now + 1) wide.fluents in
    let fits = search_fits start c.args.chain.now refl wide in
    let first = first_places c.args.task.now c.args.enc.now c.new.new.enc c.requires.made (length c.args.chain.now.stages.items) (2 ^ fluent_count c.args.task.now + 1) c.places.result _ wide.fluents _ (c.places.ensures ∙ ap (λ k. place_count k c.len.result) (let e : c.len-actions.result ≡ action_count c.args.task.now = omega (arith, c.len-actions.ensures) in e) ∙ ap (place_count (action_count c.args.task.now)) (let e : c.len.result ≡ length c.args.chain.now.stages.items = omega (arith, c.len.ensures) in e)) refl (c.in_ok-board.ensures.opened c.args.task.now c.requires.made (action_count c.args.task.now + 6 * length c.args.chain.now.stages.items + 218) (2 ^ fluent_count c.args.task.now + 1) wide.fluents rough_places) in
    let ends = c.search.ensures start refl first fits in
    let left = ends_refusal start (c.search.new.enc, c.search.new.board.slots.items) (until_sets c.args.chain.now) c.search.result _ c.in-Err.is ends in
    same_chain c.args.enc.now c.search.new.enc c.close-in-Err.new.enc left.0.same c.close-in-Err.ensures.same_slots

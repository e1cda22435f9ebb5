-- Where the action leads into the near states, whether it is spent, and the next states with that.
use Rattle.std.proofs.Common.{◌≡◌, ◌+◌, ◌∙◌, Bool, false, List, arith, length, ap, subst, sym}
use Rattle.std.specs.Prelude.{slice_index_or}
use Rattle.std.proofs.lemmas.Result.{err_from_is_err_and}
use Rattle.task_core.specs.Tasks.{action_count}
use Rattle.plan_theory.specs.Layers.{may_lead}
use Rattle.slot_board.proofs.BoardSlots.{action_within, left_with, passed, went}
use Rattle.cyclic_plan.specs.Stages.{kept_system, none_taken}
use Rattle.cyclic_plan.specs.Steps.{HasGrown, near_at, next_at}
use Rattle.cyclic_plan.proofs.Followed.{grown_on, grown_spent, hits_all, joined_small}
use Rattle.cyclic_plan.proofs.rounds.grow_by.Goals as goal

pub returns-then-is_spent : goal.returns-then-is_spent
returns-then-is_spent c start left k ready =
    grown_spent start c.args.enc.now c.args.board.now.slots.items left k c.args.a c.args.steps.now.items c.args.spent.now.items
    (action_within start c.args.enc.now c.args.board.now.slots.items c.args.a.0 ready.by_next.by_near.round.at c.requires.action) ready
    (sym (ap (λ marks. slice_index_or marks c.args.a.0 false) c.deref.ensures.value) ∙ sym c.is_spent.ensures ∙ c.if-is_spent.true)

pub hit-requires-clause-ready : goal.hit-requires-clause-ready
hit-requires-clause-ready c = let r = c.requires.ready in (r.0, r.1, none_taken, near_at r.0 r.1 r.2, next_at r.0 r.1 r.2 c.args.a.0, r.3.by_next)

pub returns-in_err-hit : goal.returns-in_err-hit
returns-in_err-hit c start left k ready =
    let p = err_from_is_err_and c.from_residual.result c.from_residual.ensures.1 in
    passed start c.hit.new.enc c.hit.new.board.slots.items _ _ c.hit.result c.from_residual.result _ c.in_err-hit.was p (c.hit.ensures start left none_taken (near_at start left k) (next_at start left k c.args.a.0) ready.by_next)

pub is_same-requires-clause-working : goal.is_same-requires-clause-working
is_same-requires-clause-working c =
    let r = c.requires.ready in
    (r.0, (went r.0 c.hit.new.enc c.hit.new.board.slots.items _ c.hit.result _ c.in_ok-hit.was (c.hit.ensures r.0 r.1 none_taken (near_at r.0 r.1 r.2) (next_at r.0 r.1 r.2 c.args.a.0) r.3.by_next)).by_next.by_near.round.at)

pub is_same-requires-clause-a : goal.is_same-requires-clause-a
is_same-requires-clause-a c =
    let r = c.requires.ready in
    let h = (went r.0 c.hit.new.enc c.hit.new.board.slots.items _ c.hit.result _ c.in_ok-hit.was (c.hit.ensures r.0 r.1 none_taken (near_at r.0 r.1 r.2) (next_at r.0 r.1 r.2 c.args.a.0) r.3.by_next)).by_next.by_near.round in
    let e : length c.hit.new.board.slots.items ≡ 7 + action_count r.0.task + action_count r.0.task = h.at.long ∙ h.places in
    omega arith

pub is_same-requires-clause-b : goal.is_same-requires-clause-b
is_same-requires-clause-b c =
    let r = c.requires.ready in
    let h = (went r.0 c.hit.new.enc c.hit.new.board.slots.items _ c.hit.result _ c.in_ok-hit.was (c.hit.ensures r.0 r.1 none_taken (near_at r.0 r.1 r.2) (next_at r.0 r.1 r.2 c.args.a.0) r.3.by_next)).by_next.by_near.round in
    let e : length c.hit.new.board.slots.items ≡ 7 + action_count r.0.task + action_count r.0.task = h.at.long ∙ h.places in
    let l = action_within r.0 c.args.enc.now c.args.board.now.slots.items c.args.a.0 r.3.by_next.by_near.round.at c.requires.action in
    omega (arith, c.pairs_of.ensures)

pub join_hits-requires : goal.join_hits-requires
join_hits-requires c =
    let r = c.requires.ready in
    let h = went r.0 c.hit.new.enc c.hit.new.board.slots.items _ c.hit.result _ c.in_ok-hit.was (c.hit.ensures r.0 r.1 none_taken (near_at r.0 r.1 r.2) (next_at r.0 r.1 r.2 c.args.a.0) r.3.by_next) in
    let l = action_within r.0 c.args.enc.now c.args.board.now.slots.items c.args.a.0 r.3.by_next.by_near.round.at c.requires.action in
    record { ready = (r.0, r.1, near_at r.0 r.1 r.2, next_at r.0 r.1 r.2 c.args.a.0, (λ v. may_lead (kept_system r.0 r.1) (near_at r.0 r.1 r.2) v c.args.a.0), h, joined_small r.0 r.3.by_next.by_near.round.fit r.1 r.3.by_next.by_near.round.is_left r.2 c.args.a.0 l) }

pub returns : goal.returns
returns c start left k ready =
    let h = went start c.hit.new.enc c.hit.new.board.slots.items _ c.hit.result _ c.in_ok-hit.was (c.hit.ensures start left none_taken (near_at start left k) (next_at start left k c.args.a.0) ready.by_next) in
    let l = action_within start c.args.enc.now c.args.board.now.slots.items c.args.a.0 ready.by_next.by_near.round.at c.requires.action in
    left_with start c.join_hits.new.enc c.join_hits.new.board.slots.items _ _ c.join_hits.result
    (λ joined. subst (λ (marks : List Bool). HasGrown start c.join_hits.new.enc c.join_hits.new.board.slots.items left k (c.args.a.0 + 1) c.join_hits.new.steps.items marks) (sym c.note_spent.ensures)
    (grown_on start c.args.enc.now c.join_hits.new.enc c.args.board.now.slots.items c.join_hits.new.board.slots.items left k c.args.a c.args.steps.now.items c.join_hits.new.steps.items c.args.spent.now.items l ready joined
    c.is_same.result (λ all. hits_all start c.hit.new.enc c.hit.new.board.slots.items left (near_at start left k) (next_at start left k c.args.a.0) c.args.a.0 c.pairs_of.result c.pairs_of.ensures l h (c.is_same.ensures.0 all))))
    (c.join_hits.ensures start left (near_at start left k) (next_at start left k c.args.a.0) _ h (joined_small start ready.by_next.by_near.round.fit left ready.by_next.by_near.round.is_left k c.args.a.0 l))

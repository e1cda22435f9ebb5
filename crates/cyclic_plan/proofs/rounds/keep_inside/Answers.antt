use Rattle.std.proofs.Common.{ℕ, subst, ◌≡◌, ◌+◌, arith, length, ◌∙◌}
use Rattle.std.proofs.lemmas.Result.{err_from_is_err_and}
use Rattle.list_laws.proofs.Booleans.{not_false}
use Rattle.task_core.specs.Tasks.{action_count}
use Rattle.slot_board.specs.Board.{Moved, set_at}
use Rattle.slot_board.proofs.BoardSlots.{action_within, passed, went, made_at}
use Rattle.cyclic_plan.proofs.Narrowing.{pairs_dropped, same_loses_none}
use Rattle.cyclic_plan.proofs.Premises.{kept_copied, kept_made, left_lead}
use Rattle.cyclic_plan.proofs.rounds.keep_inside.Goals as goal

pub lead-requires-clause-place : goal.lead-requires-clause-place
lead-requires-clause-place c =
    let r = c.requires.ready in
    let e : length c.args.board.now.slots.items ≡ 7 + action_count r.0.task + action_count r.0.task = r.2.round.at.long ∙ r.2.round.places in
    omega arith

pub combine-requires-clause-working : goal.combine-requires-clause-working
combine-requires-clause-working c =
    let r = c.requires.ready in
    (r.0, (went r.0 c.lead.new.enc c.lead.new.self.slots.items _ c.lead.result _ c.in_ok-lead.was (c.lead.ensures r.0 r.2.round.at (left_lead r.0 c.args.enc.now c.args.board.now.slots.items _ _ r.2.round c.args.a.0 (action_within r.0 c.args.enc.now c.args.board.now.slots.items c.args.a.0 r.2.round.at c.requires.action)))).at)

pub combine-requires-clause-place : goal.combine-requires-clause-place
combine-requires-clause-place c =
    let r = c.requires.ready in
    let m = went r.0 c.lead.new.enc c.lead.new.self.slots.items _ c.lead.result _ c.in_ok-lead.was (c.lead.ensures r.0 r.2.round.at (left_lead r.0 c.args.enc.now c.args.board.now.slots.items _ _ r.2.round c.args.a.0 (action_within r.0 c.args.enc.now c.args.board.now.slots.items c.args.a.0 r.2.round.at c.requires.action))) in
    let e : length c.lead.new.self.slots.items ≡ 7 + action_count r.0.task + action_count r.0.task = m.at.long ∙ r.2.round.places in
    omega arith

pub combine-requires-clause-a : goal.combine-requires-clause-a
combine-requires-clause-a c = combine-requires-clause-place c

pub combine-requires-clause-b : goal.combine-requires-clause-b
combine-requires-clause-b c =
    let r = c.requires.ready in
    let m = went r.0 c.lead.new.enc c.lead.new.self.slots.items _ c.lead.result _ c.in_ok-lead.was (c.lead.ensures r.0 r.2.round.at (left_lead r.0 c.args.enc.now c.args.board.now.slots.items _ _ r.2.round c.args.a.0 (action_within r.0 c.args.enc.now c.args.board.now.slots.items c.args.a.0 r.2.round.at c.requires.action))) in
    let e : length c.lead.new.self.slots.items ≡ 7 + action_count r.0.task + action_count r.0.task = m.at.long ∙ r.2.round.places in
    omega arith

pub is_same-kept-requires-clause-working : goal.is_same-kept-requires-clause-working
is_same-kept-requires-clause-working c =
    let r = c.requires.ready in
    let m = went r.0 c.lead.new.enc c.lead.new.self.slots.items _ c.lead.result _ c.in_ok-lead.was (c.lead.ensures r.0 r.2.round.at (left_lead r.0 c.args.enc.now c.args.board.now.slots.items _ _ r.2.round c.args.a.0 (action_within r.0 c.args.enc.now c.args.board.now.slots.items c.args.a.0 r.2.round.at c.requires.action))) in
    (r.0, (went r.0 c.combine.new.enc c.combine.new.self.slots.items _ c.combine.result _ c.in_ok-combine.was (c.combine.ensures r.0 m.at (kept_made r.0 c.args.enc.now c.lead.new.enc c.args.board.now.slots.items c.lead.new.self.slots.items r.1 c.args.a.0 5 (action_within r.0 c.args.enc.now c.args.board.now.slots.items c.args.a.0 r.2.round.at c.requires.action) r.2 m))).at)

pub is_same-kept-requires-clause-a : goal.is_same-kept-requires-clause-a
is_same-kept-requires-clause-a c =
    let r = c.requires.ready in
    let m = went r.0 c.lead.new.enc c.lead.new.self.slots.items _ c.lead.result _ c.in_ok-lead.was (c.lead.ensures r.0 r.2.round.at (left_lead r.0 c.args.enc.now c.args.board.now.slots.items _ _ r.2.round c.args.a.0 (action_within r.0 c.args.enc.now c.args.board.now.slots.items c.args.a.0 r.2.round.at c.requires.action))) in
    let n = went r.0 c.combine.new.enc c.combine.new.self.slots.items _ c.combine.result _ c.in_ok-combine.was (c.combine.ensures r.0 m.at (kept_made r.0 c.args.enc.now c.lead.new.enc c.args.board.now.slots.items c.lead.new.self.slots.items r.1 c.args.a.0 5 (action_within r.0 c.args.enc.now c.args.board.now.slots.items c.args.a.0 r.2.round.at c.requires.action) r.2 m)) in
    let e : length c.combine.new.self.slots.items ≡ 7 + action_count r.0.task + action_count r.0.task = n.at.long ∙ r.2.round.places in
    omega arith

pub is_same-kept-requires-clause-b : goal.is_same-kept-requires-clause-b
is_same-kept-requires-clause-b c =
    let r = c.requires.ready in
    let m = went r.0 c.lead.new.enc c.lead.new.self.slots.items _ c.lead.result _ c.in_ok-lead.was (c.lead.ensures r.0 r.2.round.at (left_lead r.0 c.args.enc.now c.args.board.now.slots.items _ _ r.2.round c.args.a.0 (action_within r.0 c.args.enc.now c.args.board.now.slots.items c.args.a.0 r.2.round.at c.requires.action))) in
    let n = went r.0 c.combine.new.enc c.combine.new.self.slots.items _ c.combine.result _ c.in_ok-combine.was (c.combine.ensures r.0 m.at (kept_made r.0 c.args.enc.now c.lead.new.enc c.args.board.now.slots.items c.lead.new.self.slots.items r.1 c.args.a.0 5 (action_within r.0 c.args.enc.now c.args.board.now.slots.items c.args.a.0 r.2.round.at c.requires.action) r.2 m)) in
    let e : length c.combine.new.self.slots.items ≡ 7 + action_count r.0.task + action_count r.0.task = n.at.long ∙ r.2.round.places in
    omega arith

pub copy_of-requires-clause-working : goal.copy_of-requires-clause-working
copy_of-requires-clause-working c =
    let r = c.requires.ready in
    let m = went r.0 c.lead.new.enc c.lead.new.self.slots.items _ c.lead.result _ c.in_ok-lead.was (c.lead.ensures r.0 r.2.round.at (left_lead r.0 c.args.enc.now c.args.board.now.slots.items _ _ r.2.round c.args.a.0 (action_within r.0 c.args.enc.now c.args.board.now.slots.items c.args.a.0 r.2.round.at c.requires.action))) in
    (r.0, (went r.0 c.combine.new.enc c.combine.new.self.slots.items _ c.combine.result _ c.in_ok-combine.was (c.combine.ensures r.0 m.at (kept_made r.0 c.args.enc.now c.lead.new.enc c.args.board.now.slots.items c.lead.new.self.slots.items r.1 c.args.a.0 5 (action_within r.0 c.args.enc.now c.args.board.now.slots.items c.args.a.0 r.2.round.at c.requires.action) r.2 m))).at)

pub copy_of-requires-clause-place : goal.copy_of-requires-clause-place
copy_of-requires-clause-place c =
    let r = c.requires.ready in
    let m = went r.0 c.lead.new.enc c.lead.new.self.slots.items _ c.lead.result _ c.in_ok-lead.was (c.lead.ensures r.0 r.2.round.at (left_lead r.0 c.args.enc.now c.args.board.now.slots.items _ _ r.2.round c.args.a.0 (action_within r.0 c.args.enc.now c.args.board.now.slots.items c.args.a.0 r.2.round.at c.requires.action))) in
    let n = went r.0 c.combine.new.enc c.combine.new.self.slots.items _ c.combine.result _ c.in_ok-combine.was (c.combine.ensures r.0 m.at (kept_made r.0 c.args.enc.now c.lead.new.enc c.args.board.now.slots.items c.lead.new.self.slots.items r.1 c.args.a.0 5 (action_within r.0 c.args.enc.now c.args.board.now.slots.items c.args.a.0 r.2.round.at c.requires.action) r.2 m)) in
    let e : length c.combine.new.self.slots.items ≡ 7 + action_count r.0.task + action_count r.0.task = n.at.long ∙ r.2.round.places in
    let actions : length c.args.enc.now.actions ≡ action_count r.0.task = (made_at r.0 c.args.enc.now c.args.board.now.slots.items r.2.round.at).actions in
    omega (arith, c.pairs_of-pairs.ensures, c.requires.action)

pub copy_of-requires-clause-from : goal.copy_of-requires-clause-from
copy_of-requires-clause-from c =
    let r = c.requires.ready in
    let m = went r.0 c.lead.new.enc c.lead.new.self.slots.items _ c.lead.result _ c.in_ok-lead.was (c.lead.ensures r.0 r.2.round.at (left_lead r.0 c.args.enc.now c.args.board.now.slots.items _ _ r.2.round c.args.a.0 (action_within r.0 c.args.enc.now c.args.board.now.slots.items c.args.a.0 r.2.round.at c.requires.action))) in
    let n = went r.0 c.combine.new.enc c.combine.new.self.slots.items _ c.combine.result _ c.in_ok-combine.was (c.combine.ensures r.0 m.at (kept_made r.0 c.args.enc.now c.lead.new.enc c.args.board.now.slots.items c.lead.new.self.slots.items r.1 c.args.a.0 5 (action_within r.0 c.args.enc.now c.args.board.now.slots.items c.args.a.0 r.2.round.at c.requires.action) r.2 m)) in
    let e : length c.combine.new.self.slots.items ≡ 7 + action_count r.0.task + action_count r.0.task = n.at.long ∙ r.2.round.places in
    omega arith

pub returns-clause-left : goal.returns-clause-left
returns-clause-left c start r ready =
    let old = c.args.board.now.slots.items in
    let enc = c.args.enc.now in
    let half = c.lead.new.self.slots.items in
    let third = c.combine.new.self.slots.items in
    let a = c.args.a.0 in
    let m = went start c.lead.new.enc half _ c.lead.result _ c.in_ok-lead.was (c.lead.ensures start ready.round.at (left_lead start c.args.enc.now c.args.board.now.slots.items _ _ ready.round c.args.a.0 (action_within start c.args.enc.now c.args.board.now.slots.items c.args.a.0 ready.round.at c.requires.action))) in
    let n = went start c.combine.new.enc third _ c.combine.result _ c.in_ok-combine.was (c.combine.ensures start m.at (kept_made start c.args.enc.now c.lead.new.enc c.args.board.now.slots.items c.lead.new.self.slots.items r c.args.a.0 5 (action_within start c.args.enc.now c.args.board.now.slots.items c.args.a.0 ready.round.at c.requires.action) ready m)) in
    let k = went start c.copy_of.new.enc c.copy_of.new.self.slots.items _ c.copy_of.result _ c.in_ok-copy_of.was (c.copy_of.ensures start n.at (kept_copied start c.args.enc.now c.lead.new.enc c.combine.new.enc c.args.board.now.slots.items c.lead.new.self.slots.items c.combine.new.self.slots.items r c.args.a.0 c.pairs_of-pairs.result (action_within start c.args.enc.now c.args.board.now.slots.items c.args.a.0 ready.round.at c.requires.action) ready m n)) in
    pairs_dropped start enc c.lead.new.enc c.combine.new.enc c.copy_of.new.enc old half third c.copy_of.new.self.slots.items r a (action_within start enc old a ready.round.at c.requires.action) ready m
    n
    (subst (λ (p : ℕ). Moved start c.combine.new.enc.sets third c.copy_of.new.enc c.copy_of.new.self.slots.items p (set_at c.combine.new.enc.sets third 5)) c.pairs_of-pairs.ensures k)

pub returns-clause-lost : goal.returns-clause-lost
returns-clause-lost c start r ready lost =
    let old = c.args.board.now.slots.items in
    let enc = c.args.enc.now in
    let half = c.lead.new.self.slots.items in
    let third = c.combine.new.self.slots.items in
    let a = c.args.a.0 in
    let m = went start c.lead.new.enc half _ c.lead.result _ c.in_ok-lead.was (c.lead.ensures start ready.round.at (left_lead start c.args.enc.now c.args.board.now.slots.items _ _ ready.round c.args.a.0 (action_within start c.args.enc.now c.args.board.now.slots.items c.args.a.0 ready.round.at c.requires.action))) in
    let n = went start c.combine.new.enc third _ c.combine.result _ c.in_ok-combine.was (c.combine.ensures start m.at (kept_made start c.args.enc.now c.lead.new.enc c.args.board.now.slots.items c.lead.new.self.slots.items r c.args.a.0 5 (action_within start c.args.enc.now c.args.board.now.slots.items c.args.a.0 ready.round.at c.requires.action) ready m)) in
    let k = went start c.copy_of.new.enc c.copy_of.new.self.slots.items _ c.copy_of.result _ c.in_ok-copy_of.was (c.copy_of.ensures start n.at (kept_copied start c.args.enc.now c.lead.new.enc c.combine.new.enc c.args.board.now.slots.items c.lead.new.self.slots.items c.combine.new.self.slots.items r c.args.a.0 c.pairs_of-pairs.result (action_within start c.args.enc.now c.args.board.now.slots.items c.args.a.0 ready.round.at c.requires.action) ready m n)) in
    same_loses_none start enc c.lead.new.enc c.combine.new.enc c.copy_of.new.enc old half third c.copy_of.new.self.slots.items r a (action_within start enc old a ready.round.at c.requires.action) ready m
    n
    (subst (λ (p : ℕ). Moved start c.combine.new.enc.sets third c.copy_of.new.enc c.copy_of.new.self.slots.items p (set_at c.combine.new.enc.sets third 5)) c.pairs_of-pairs.ensures k)
    (c.is_same-kept.ensures.0 (not_false c.is_same-kept.result lost))

pub returns-in_err-lead-clause-left : goal.returns-in_err-lead-clause-left
returns-in_err-lead-clause-left c start r ready =
    let p = err_from_is_err_and c.from_residual.result c.from_residual.ensures.1 in
    passed start c.lead.new.enc c.lead.new.self.slots.items _ _ c.lead.result c.from_residual.result _ c.in_err-lead.was p (c.lead.ensures start ready.round.at (left_lead start c.args.enc.now c.args.board.now.slots.items _ _ ready.round c.args.a.0 (action_within start c.args.enc.now c.args.board.now.slots.items c.args.a.0 ready.round.at c.requires.action)))

pub returns-in_err-combine-clause-left : goal.returns-in_err-combine-clause-left
returns-in_err-combine-clause-left c start r ready =
    let p = err_from_is_err_and c.from_residual-in_err-combine.result c.from_residual-in_err-combine.ensures.1 in
    let m = went start c.lead.new.enc c.lead.new.self.slots.items _ c.lead.result _ c.in_ok-lead.was (c.lead.ensures start ready.round.at (left_lead start c.args.enc.now c.args.board.now.slots.items _ _ ready.round c.args.a.0 (action_within start c.args.enc.now c.args.board.now.slots.items c.args.a.0 ready.round.at c.requires.action))) in
    passed start c.combine.new.enc c.combine.new.self.slots.items _ _ c.combine.result c.from_residual-in_err-combine.result _ c.in_err-combine.was p (c.combine.ensures start m.at (kept_made start c.args.enc.now c.lead.new.enc c.args.board.now.slots.items c.lead.new.self.slots.items r c.args.a.0 5 (action_within start c.args.enc.now c.args.board.now.slots.items c.args.a.0 ready.round.at c.requires.action) ready m))

pub returns-in_err-copy_of-clause-left : goal.returns-in_err-copy_of-clause-left
returns-in_err-copy_of-clause-left c start r ready =
    let p = err_from_is_err_and c.from_residual-in_err-copy_of.result c.from_residual-in_err-copy_of.ensures.1 in
    let m = went start c.lead.new.enc c.lead.new.self.slots.items _ c.lead.result _ c.in_ok-lead.was (c.lead.ensures start ready.round.at (left_lead start c.args.enc.now c.args.board.now.slots.items _ _ ready.round c.args.a.0 (action_within start c.args.enc.now c.args.board.now.slots.items c.args.a.0 ready.round.at c.requires.action))) in
    let n = went start c.combine.new.enc c.combine.new.self.slots.items _ c.combine.result _ c.in_ok-combine.was (c.combine.ensures start m.at (kept_made start c.args.enc.now c.lead.new.enc c.args.board.now.slots.items c.lead.new.self.slots.items r c.args.a.0 5 (action_within start c.args.enc.now c.args.board.now.slots.items c.args.a.0 ready.round.at c.requires.action) ready m)) in
    passed start c.copy_of.new.enc c.copy_of.new.self.slots.items _ _ c.copy_of.result c.from_residual-in_err-copy_of.result _ c.in_err-copy_of.was p (c.copy_of.ensures start n.at (kept_copied start c.args.enc.now c.lead.new.enc c.combine.new.enc c.args.board.now.slots.items c.lead.new.self.slots.items c.combine.new.self.slots.items r c.args.a.0 c.pairs_of-pairs.result (action_within start c.args.enc.now c.args.board.now.slots.items c.args.a.0 ready.round.at c.requires.action) ready m n))

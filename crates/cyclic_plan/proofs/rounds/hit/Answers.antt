use Rattle.task_core.specs.Tasks.{action_count}
use Rattle.std.proofs.lemmas.Result.{err_from_is_err_and}
use Rattle.std.proofs.Common.{ℕ, subst, sym, ◌≡◌, ◌+◌, arith, length, ◌∙◌}
use Rattle.dd_ops.specs.Operations.{and_of}
use Rattle.slot_board.specs.Board.{set_at}
use Rattle.slot_board.specs.Board.{Fits, Moved}
use Rattle.slot_board.proofs.BoardSlots.{action_within, left_with, went, passed, made_at}
use Rattle.cyclic_plan.proofs.Premises.{hits_made, near_lead}
use Rattle.cyclic_plan.proofs.StageSteps.{hits_found}
use Rattle.cyclic_plan.proofs.rounds.hit.Goals as goal

pub combine-requires-clause-working : goal.combine-requires-clause-working
combine-requires-clause-working c =
    let start = c.requires.ready.0 in
    (start, (went start c.lead.new.enc c.lead.new.self.slots.items _ c.lead.result _ c.in_ok-lead.was (c.lead.ensures start c.requires.ready.5.by_near.round.at (near_lead start c.args.enc.now c.args.board.now.slots.items _ _ _ _ c.requires.ready.5 c.args.a.0 (action_within start c.args.enc.now c.args.board.now.slots.items c.args.a.0 c.requires.ready.5.by_near.round.at c.requires.action)))).at)

pub returns : goal.returns
returns c start left taken near next ready =
    let enc = c.args.enc.now in
    let old = c.args.board.now.slots.items in
    let mid = c.lead.new.enc in
    let half = c.lead.new.self.slots.items in
    let a = c.args.a.0 in
    let at = ready.by_near.round.at in
    let l = action_within start enc old a at c.requires.action in
    let led = went start mid half _ c.lead.result _ c.in_ok-lead.was (c.lead.ensures start at (near_lead start enc old left taken near next ready a l)) in
    left_with start c.combine.new.enc c.combine.new.self.slots.items _ _ c.combine.result
    (λ met.
    hits_found start enc mid c.combine.new.enc old half c.combine.new.self.slots.items a left taken near next l ready
    led
    (subst (λ (p : ℕ). Moved start mid.sets half c.combine.new.enc c.combine.new.self.slots.items 5 (and_of (set_at mid.sets half 5) (set_at mid.sets half p))) c.pairs_of.ensures met))
    (c.combine.ensures start led.at
    (subst (λ (p : ℕ). Fits start 5 (and_of (set_at mid.sets half 5) (set_at mid.sets half p))) (sym c.pairs_of.ensures) (hits_made start enc mid old half a 5 left taken near next l ready led)))

pub returns-in_err-lead : goal.returns-in_err-lead
returns-in_err-lead c start left taken near next ready =
    let p = err_from_is_err_and c.from_residual.result c.from_residual.ensures.1 in
    passed start c.lead.new.enc c.lead.new.self.slots.items _ _ c.lead.result c.from_residual.result _ c.in_err-lead.was p (c.lead.ensures start ready.by_near.round.at (near_lead start c.args.enc.now c.args.board.now.slots.items _ _ _ _ ready c.args.a.0 (action_within start c.args.enc.now c.args.board.now.slots.items c.args.a.0 ready.by_near.round.at c.requires.action)))

pub combine-requires-clause-place : goal.combine-requires-clause-place
combine-requires-clause-place c =
    let start = c.requires.ready.0 in
    let at = c.requires.ready.5.by_near.round.at in
    let now = (went start c.lead.new.enc c.lead.new.self.slots.items _ c.lead.result _ c.in_ok-lead.was (c.lead.ensures start at (near_lead start c.args.enc.now c.args.board.now.slots.items _ _ _ _ c.requires.ready.5 c.args.a.0 (action_within start c.args.enc.now c.args.board.now.slots.items c.args.a.0 c.requires.ready.5.by_near.round.at c.requires.action)))).at in
    let e : length c.lead.new.self.slots.items ≡ 7 + action_count start.task + action_count start.task = now.long ∙ c.requires.ready.5.by_near.round.places in
    let actions : length c.args.enc.now.actions ≡ action_count start.task = (made_at start c.args.enc.now c.args.board.now.slots.items at).actions in
    omega (arith, c.pairs_of.ensures, c.requires.action)

pub combine-requires-clause-a : goal.combine-requires-clause-a
combine-requires-clause-a c =
    let start = c.requires.ready.0 in
    let at = c.requires.ready.5.by_near.round.at in
    let now = (went start c.lead.new.enc c.lead.new.self.slots.items _ c.lead.result _ c.in_ok-lead.was (c.lead.ensures start at (near_lead start c.args.enc.now c.args.board.now.slots.items _ _ _ _ c.requires.ready.5 c.args.a.0 (action_within start c.args.enc.now c.args.board.now.slots.items c.args.a.0 c.requires.ready.5.by_near.round.at c.requires.action)))).at in
    let e : length c.lead.new.self.slots.items ≡ 7 + action_count start.task + action_count start.task = now.long ∙ c.requires.ready.5.by_near.round.places in
    let actions : length c.args.enc.now.actions ≡ action_count start.task = (made_at start c.args.enc.now c.args.board.now.slots.items at).actions in
    omega (arith, c.pairs_of.ensures, c.requires.action)

pub combine-requires-clause-b : goal.combine-requires-clause-b
combine-requires-clause-b c =
    let start = c.requires.ready.0 in
    let at = c.requires.ready.5.by_near.round.at in
    let now = (went start c.lead.new.enc c.lead.new.self.slots.items _ c.lead.result _ c.in_ok-lead.was (c.lead.ensures start at (near_lead start c.args.enc.now c.args.board.now.slots.items _ _ _ _ c.requires.ready.5 c.args.a.0 (action_within start c.args.enc.now c.args.board.now.slots.items c.args.a.0 c.requires.ready.5.by_near.round.at c.requires.action)))).at in
    let e : length c.lead.new.self.slots.items ≡ 7 + action_count start.task + action_count start.task = now.long ∙ c.requires.ready.5.by_near.round.places in
    let actions : length c.args.enc.now.actions ≡ action_count start.task = (made_at start c.args.enc.now c.args.board.now.slots.items at).actions in
    omega (arith, c.pairs_of.ensures, c.requires.action)

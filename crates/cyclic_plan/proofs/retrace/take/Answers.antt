use Rattle.std.proofs.lemmas.Result.{err_from_is_err_and}
use Rattle.std.proofs.Common.{ℕ, ◌+◌, ◌≡◌, arith, length, subst, sym, ◌∙◌}
use Rattle.dd_ops.specs.Operations.{or_of}
use Rattle.task_core.specs.Tasks.{action_count}
use Rattle.slot_board.specs.Board.{set_at}
use Rattle.slot_board.specs.Board.{Fits, Moved}
use Rattle.slot_board.proofs.BoardSlots.{action_within, left_with, made_at, went, passed}
use Rattle.cyclic_plan.proofs.Premises.{new_made, taken_fits}
use Rattle.cyclic_plan.proofs.StageSteps.{takes}
use Rattle.cyclic_plan.proofs.retrace.take.Goals as goal

pub combine-requires-clause-working : goal.combine-requires-clause-working
combine-requires-clause-working c = (c.requires.ready.0, c.requires.ready.6.by_next.by_near.round.at)

pub combine-requires-2-clause-working : goal.combine-requires-2-clause-working
combine-requires-2-clause-working c =
    let start = c.requires.ready.0 in
    (start, (went start c.combine.new.enc c.combine.new.self.slots.items _ c.combine.result _ c.in_ok-combine.was (c.combine.ensures start c.requires.ready.6.by_next.by_near.round.at (new_made start c.args.enc.now c.args.board.now.slots.items _ _ c.requires.ready.6.by_next.by_near.round))).at)

pub returns : goal.returns
returns c start left taken near next hits ready small =
    let old = c.args.board.now.slots.items in
    let half = c.combine.new.self.slots.items in
    let a = c.args.a.0 in
    let at = ready.by_next.by_near.round.at in
    let actions : length c.args.enc.now.actions ≡ action_count start.task = (made_at start c.args.enc.now old at).actions in
    let place : c.takers_of-takers.result ≡ 7 + action_count start.task + a = omega (arith, c.takers_of-takers.ensures, c.requires.actions) in
    let first = went start c.combine.new.enc half _ c.combine.result _ c.in_ok-combine.was (c.combine.ensures start at (new_made start c.args.enc.now old left taken ready.by_next.by_near.round)) in
    left_with start c.combine-2.new.enc c.combine-2.new.self.slots.items _ _ c.combine-2.result
    (λ joined.
    takes start c.args.enc.now c.combine.new.enc old half a left taken near next hits (action_within start c.args.enc.now old a at c.requires.action) ready first c.combine-2.new.enc c.combine-2.new.self.slots.items
    (subst (λ (p : ℕ). Moved start c.combine.new.enc.sets half c.combine-2.new.enc c.combine-2.new.self.slots.items p (or_of (set_at c.combine.new.enc.sets half p) (set_at c.combine.new.enc.sets half 6))) place joined))
    (c.combine-2.ensures start first.at
    (subst (λ (p : ℕ). Fits start c.takers_of-takers.result (or_of (set_at c.combine.new.enc.sets half p) (set_at c.combine.new.enc.sets half 6))) (sym place)
    (taken_fits start c.args.enc.now c.combine.new.enc old half a c.takers_of-takers.result left taken near next hits (action_within start c.args.enc.now old a at c.requires.action) ready first small)))

pub returns-in_err-combine : goal.returns-in_err-combine
returns-in_err-combine c start left taken near next hits ready small =
    let p = err_from_is_err_and c.from_residual.result c.from_residual.ensures.1 in
    passed start c.combine.new.enc c.combine.new.self.slots.items _ _ c.combine.result c.from_residual.result _ c.in_err-combine.was p (c.combine.ensures start ready.by_next.by_near.round.at (new_made start c.args.enc.now c.args.board.now.slots.items left taken ready.by_next.by_near.round))

pub combine-requires-2-clause-place : goal.combine-requires-2-clause-place
combine-requires-2-clause-place c =
    let start = c.requires.ready.0 in
    let at = c.requires.ready.6.by_next.by_near.round.at in
    let now = (went start c.combine.new.enc c.combine.new.self.slots.items _ c.combine.result _ c.in_ok-combine.was (c.combine.ensures start at (new_made start c.args.enc.now c.args.board.now.slots.items _ _ c.requires.ready.6.by_next.by_near.round))).at in
    let e : length c.combine.new.self.slots.items ≡ 7 + action_count start.task + action_count start.task = now.long ∙ c.requires.ready.6.by_next.by_near.round.places in
    let actions : length c.args.enc.now.actions ≡ action_count start.task = (made_at start c.args.enc.now c.args.board.now.slots.items at).actions in
    omega (arith, c.takers_of-takers.ensures, c.requires.actions, c.requires.action)

pub combine-requires-2-clause-a : goal.combine-requires-2-clause-a
combine-requires-2-clause-a c =
    let start = c.requires.ready.0 in
    let at = c.requires.ready.6.by_next.by_near.round.at in
    let now = (went start c.combine.new.enc c.combine.new.self.slots.items _ c.combine.result _ c.in_ok-combine.was (c.combine.ensures start at (new_made start c.args.enc.now c.args.board.now.slots.items _ _ c.requires.ready.6.by_next.by_near.round))).at in
    let e : length c.combine.new.self.slots.items ≡ 7 + action_count start.task + action_count start.task = now.long ∙ c.requires.ready.6.by_next.by_near.round.places in
    let actions : length c.args.enc.now.actions ≡ action_count start.task = (made_at start c.args.enc.now c.args.board.now.slots.items at).actions in
    omega (arith, c.takers_of-takers.ensures, c.requires.actions, c.requires.action)

pub combine-requires-2-clause-b : goal.combine-requires-2-clause-b
combine-requires-2-clause-b c =
    let start = c.requires.ready.0 in
    let at = c.requires.ready.6.by_next.by_near.round.at in
    let now = (went start c.combine.new.enc c.combine.new.self.slots.items _ c.combine.result _ c.in_ok-combine.was (c.combine.ensures start at (new_made start c.args.enc.now c.args.board.now.slots.items _ _ c.requires.ready.6.by_next.by_near.round))).at in
    let e : length c.combine.new.self.slots.items ≡ 7 + action_count start.task + action_count start.task = now.long ∙ c.requires.ready.6.by_next.by_near.round.places in
    let actions : length c.args.enc.now.actions ≡ action_count start.task = (made_at start c.args.enc.now c.args.board.now.slots.items at).actions in
    omega (arith, c.takers_of-takers.ensures, c.requires.actions, c.requires.action)

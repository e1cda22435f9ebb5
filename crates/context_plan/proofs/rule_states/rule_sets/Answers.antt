use Rattle.context_plan.proofs.RuleStates.{rule_states_made}
use Rattle.context_plan.proofs.TakenSteps.{takers_apart, takers_within}
use Rattle.context_plan.specs.Scenes.{board_of, rules_place, takers_place}
use Rattle.slot_board.proofs.BoardSlots.{went, passed, left_with, made_at, same_actions}
use Rattle.std.proofs.Common.{◌≡◌, ◌+◌, arith, length, sym, suc, ap, ◌∙◌}
use Rattle.std.proofs.lemmas.Result.{err_from_is_err_and}
use Rattle.task_core.specs.Tasks.{action_count}
use Rattle.context_plan.proofs.rule_states.rule_sets.Goals as goal

pub turn_states-requires-clause-ready : goal.turn_states-requires-clause-ready
turn_states-requires-clause-ready c =
    let start = c.requires.ready.0 in
    let chain = c.requires.ready.1 in
    let n = c.requires.ready.2 in
    let h = c.requires.ready.3 in
    (start, chain, n, h)

pub returns-in_err-turn_states : goal.returns-in_err-turn_states
returns-in_err-turn_states c start chain n h every =
    let p = err_from_is_err_and c.from_residual.result c.from_residual.ensures.1 in
    passed (board_of start) c.turn_states.new.enc c.turn_states.new.board.slots.items _ _ c.turn_states.result c.from_residual.result _ c.in_err-turn_states.was p (c.turn_states.ensures start chain n h)

pub choose_all-requires-clause-ready : goal.choose_all-requires-clause-ready
choose_all-requires-clause-ready c =
    let start = c.requires.ready.0 in
    let chain = c.requires.ready.1 in
    let n = c.requires.ready.2 in
    let h = c.requires.ready.3 in
    let r = went (board_of start) c.turn_states.new.enc c.turn_states.new.board.slots.items _ c.turn_states.result _ c.in_ok-turn_states.was (c.turn_states.ensures start chain n h) in
    (start, r.table.takers.ready, c.requires.ready.4)

pub choose_all-requires-clause-actions : goal.choose_all-requires-clause-actions
choose_all-requires-clause-actions c =
    let start = c.requires.ready.0 in
    let chain = c.requires.ready.1 in
    let n = c.requires.ready.2 in
    let h = c.requires.ready.3 in
    let r = went (board_of start) c.turn_states.new.enc c.turn_states.new.board.slots.items _ c.turn_states.result _ c.in_ok-turn_states.was (c.turn_states.ensures start chain n h) in
    let e : length c.turn_states.new.enc.actions ≡ length c.args.enc.now.actions = same_actions (board_of start) c.args.enc.now c.turn_states.new.enc c.args.board.now.slots.items c.turn_states.new.board.slots.items h.takers.ready.at r.table.takers.ready.at in omega (arith, c.requires.actions)

pub choose_all-requires-clause-places : goal.choose_all-requires-clause-places
choose_all-requires-clause-places c =
    let start = c.requires.ready.0 in
    let chain = c.requires.ready.1 in
    let n = c.requires.ready.2 in
    let h = c.requires.ready.3 in
    let r = went (board_of start) c.turn_states.new.enc c.turn_states.new.board.slots.items _ c.turn_states.result _ c.in_ok-turn_states.was (c.turn_states.ensures start chain n h) in
    let e : length c.args.enc.now.actions ≡ action_count start.task = (made_at (board_of start) c.args.enc.now c.args.board.now.slots.items h.takers.ready.at).actions in
    let place : c.takers_at-place.result ≡ rules_place (action_count start.task) start.stages = c.takers_at-place.ensures ∙ ap (λ k. takers_place k c.args.counts.stages (c.args.counts.stages + 1)) (c.requires.actions ∙ e) ∙ ap (λ k. takers_place (action_count start.task) k (k + 1)) (sym n) ∙ ap (takers_place (action_count start.task) start.stages) (let one : start.stages + 1 ≡ suc start.stages = omega arith in one) in
    let w = takers_within start (c.turn_states.new.enc, c.turn_states.new.board.slots.items) r.table.takers.ready.at (suc start.stages) (omega arith) in omega (arith, c.requires.actions)

pub choose_all-requires-clause-apart : goal.choose_all-requires-clause-apart
choose_all-requires-clause-apart c =
    let start = c.requires.ready.0 in
    let chain = c.requires.ready.1 in
    let n = c.requires.ready.2 in
    let h = c.requires.ready.3 in
    let e : length c.args.enc.now.actions ≡ action_count start.task = (made_at (board_of start) c.args.enc.now c.args.board.now.slots.items h.takers.ready.at).actions in
    let takers : c.takers_at-takers.result ≡ takers_place (action_count start.task) start.stages c.args.advance.next = c.takers_at-takers.ensures ∙ ap (λ k. takers_place k c.args.counts.stages c.args.advance.next) (c.requires.actions ∙ e) ∙ ap (λ k. takers_place (action_count start.task) k c.args.advance.next) (sym n) in
    let place : c.takers_at-place.result ≡ rules_place (action_count start.task) start.stages = c.takers_at-place.ensures ∙ ap (λ k. takers_place k c.args.counts.stages (c.args.counts.stages + 1)) (c.requires.actions ∙ e) ∙ ap (λ k. takers_place (action_count start.task) k (k + 1)) (sym n) ∙ ap (takers_place (action_count start.task) start.stages) (let one : start.stages + 1 ≡ suc start.stages = omega arith in one) in
    let w = takers_apart (action_count start.task) start.stages c.args.advance.next (suc start.stages) (omega (arith, n, c.requires.next)) in omega (arith, c.requires.actions)

pub choose_all-requires-clause-high : goal.choose_all-requires-clause-high
choose_all-requires-clause-high c =
    let start = c.requires.ready.0 in
    let chain = c.requires.ready.1 in
    let n = c.requires.ready.2 in
    let h = c.requires.ready.3 in
    let e : length c.args.enc.now.actions ≡ action_count start.task = (made_at (board_of start) c.args.enc.now c.args.board.now.slots.items h.takers.ready.at).actions in
    let takers : c.takers_at-takers.result ≡ takers_place (action_count start.task) start.stages c.args.advance.next = c.takers_at-takers.ensures ∙ ap (λ k. takers_place k c.args.counts.stages c.args.advance.next) (c.requires.actions ∙ e) ∙ ap (λ k. takers_place (action_count start.task) k c.args.advance.next) (sym n) in
    omega arith

pub returns : goal.returns
returns c start chain n h every =
    let r = went (board_of start) c.turn_states.new.enc c.turn_states.new.board.slots.items _ c.turn_states.result _ c.in_ok-turn_states.was (c.turn_states.ensures start chain n h) in
    let e : length c.args.enc.now.actions ≡ action_count start.task = (made_at (board_of start) c.args.enc.now c.args.board.now.slots.items h.takers.ready.at).actions in
    let takers : c.takers_at-takers.result ≡ takers_place (action_count start.task) start.stages c.args.advance.next = c.takers_at-takers.ensures ∙ ap (λ k. takers_place k c.args.counts.stages c.args.advance.next) (c.requires.actions ∙ e) ∙ ap (λ k. takers_place (action_count start.task) k c.args.advance.next) (sym n) in
    let place : c.takers_at-place.result ≡ rules_place (action_count start.task) start.stages = c.takers_at-place.ensures ∙ ap (λ k. takers_place k c.args.counts.stages (c.args.counts.stages + 1)) (c.requires.actions ∙ e) ∙ ap (λ k. takers_place (action_count start.task) k (k + 1)) (sym n) ∙ ap (takers_place (action_count start.task) start.stages) (let one : start.stages + 1 ≡ suc start.stages = omega arith in one) in
    left_with (board_of start) c.choose_all.new.enc c.choose_all.new.board.slots.items _ _ c.choose_all.result
    (λ chosen. rule_states_made start (c.turn_states.new.enc, c.turn_states.new.board.slots.items) (c.choose_all.new.enc, c.choose_all.new.board.slots.items) chain c.args.advance.stage c.args.advance.next c.takers_at-takers.result c.takers_at-place.result c.args.counts.actions takers place (c.requires.actions ∙ e) r chosen)
    (c.choose_all.ensures start r.table.takers.ready every)

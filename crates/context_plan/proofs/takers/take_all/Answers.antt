use Rattle.std.proofs.Common.{◌≡◌, ◌∙◌, ap, arith, length, subst, suc, sym}
use Rattle.context_plan.specs.Chains.{until_sets}
use Rattle.context_plan.specs.Scenes.{board_of, takers_place}
use Rattle.context_plan.specs.Steps.{HasTakers}
use Rattle.context_plan.proofs.HandedSteps.{stage_steps_at}
use Rattle.context_plan.proofs.FitSteps.{conditions_at, end_shares_at, stage_climbs_at}
use Rattle.context_plan.proofs.OverSteps.{guard_over}
use Rattle.context_plan.proofs.PlanSteps.{stage_count}
use Rattle.context_plan.proofs.TakenSteps.{last_taken_at, stage_taken_at, takers_within}
use Rattle.std.proofs.lemmas.Result.{err_from_is_err_and}
use Rattle.slot_board.proofs.BoardSlots.{went, passed, left_with, made_at, same_actions}
use Rattle.task_core.specs.Tasks.{action_count}
use Rattle.context_plan.proofs.takers.take_all.Goals as goal

pub take_stage-requires-clause-ready : goal.take_stage-requires-clause-ready
take_stage-requires-clause-ready c =
    let start = c.requires.ready.0 in
    let count = c.requires.ready.1 in
    let noted = c.requires.ready.2 in
    let long : length c.args.chain.now.stages.items ≡ c.len-stages.result = omega (arith, c.len-stages.ensures) in
    let n : start.stages ≡ c.len-stages.result = count ∙ long in
    let fits = c.requires.ready.3 in
    let h = c.requires.ready.4 in
    let inv = c.loop-i.invariant start count noted fits h in
    let acts = (made_at (board_of start) c.args.enc.now c.args.board.now.slots.items h.ready.at).actions in
    let place = c.takers_at.ensures ∙ ap (λ k. takers_place k c.len-stages.result c.loop-i.i) (c.requires.actions ∙ acts) ∙ ap (λ k. takers_place (action_count start.task) k c.loop-i.i) (sym n) in
    let climbs = stage_climbs_at start (c.loop-i.enc, c.loop-i.board.slots.items) c.args.chain.now c.index.result.now c.loop-i.i c.len-stages.result c.met_at.result c.takers_at.result long n (omega arith) c.index.ensures c.met_at.ensures place inv in
    let parts = conditions_at start c.args.chain.now c.index.result.now c.loop-i.i c.len-stages.result long (omega arith) c.index.ensures fits in
    let follows = stage_steps_at start (c.loop-i.enc, c.loop-i.board.slots.items) c.args.chain.now c.index.result.now c.loop-i.i c.len-stages.result c.met_at.result c.steps_of-steps.result.now c.args.notes.now long n (omega arith) c.index.ensures c.met_at.ensures c.steps_of-steps.ensures noted inv in
    (start, inv.ready.at, parts.guard, climbs, follows)

pub take_stage-requires-clause-guard : goal.take_stage-requires-clause-guard
take_stage-requires-clause-guard c =
    let start = c.requires.ready.0 in
    let count = c.requires.ready.1 in
    let noted = c.requires.ready.2 in
    let long : length c.args.chain.now.stages.items ≡ c.len-stages.result = omega (arith, c.len-stages.ensures) in
    let n : start.stages ≡ c.len-stages.result = count ∙ long in
    let fits = c.requires.ready.3 in
    let h = c.requires.ready.4 in
    let inv = c.loop-i.invariant start count noted fits h in
    guard_over start (c.args.enc.now, c.args.board.now.slots.items) (c.loop-i.enc, c.loop-i.board.slots.items) c.args.chain.now c.index.result.now c.loop-i.i c.len-stages.result long (omega arith) c.index.ensures h.ready.at inv.ready.at c.requires.chain

pub take_stage-requires-clause-places : goal.take_stage-requires-clause-places
take_stage-requires-clause-places c =
    let start = c.requires.ready.0 in
    let count = c.requires.ready.1 in
    let noted = c.requires.ready.2 in
    let long : length c.args.chain.now.stages.items ≡ c.len-stages.result = omega (arith, c.len-stages.ensures) in
    let n : start.stages ≡ c.len-stages.result = count ∙ long in
    let fits = c.requires.ready.3 in
    let h = c.requires.ready.4 in
    let inv = c.loop-i.invariant start count noted fits h in
    let acts = (made_at (board_of start) c.args.enc.now c.args.board.now.slots.items h.ready.at).actions in
    let place = c.takers_at.ensures ∙ ap (λ k. takers_place k c.len-stages.result c.loop-i.i) (c.requires.actions ∙ acts) ∙ ap (λ k. takers_place (action_count start.task) k c.loop-i.i) (sym n) in
    let p : c.takers_at.result ≡ takers_place (action_count start.task) start.stages c.loop-i.i = place in let e : length c.args.enc.now.actions ≡ action_count start.task = acts in let same : length c.loop-i.enc.actions ≡ length c.args.enc.now.actions = same_actions (board_of start) c.args.enc.now c.loop-i.enc c.args.board.now.slots.items c.loop-i.board.slots.items h.ready.at inv.ready.at in let fit = takers_within start (c.loop-i.enc, c.loop-i.board.slots.items) inv.ready.at c.loop-i.i (omega (arith, n)) in omega (arith, c.requires.actions)

pub take_stage-requires-clause-met : goal.take_stage-requires-clause-met
take_stage-requires-clause-met c =
    omega (arith, c.met_at.ensures)

pub take_stage-requires-clause-apart : goal.take_stage-requires-clause-apart
take_stage-requires-clause-apart c =
    let start = c.requires.ready.0 in
    let count = c.requires.ready.1 in
    let long : length c.args.chain.now.stages.items ≡ c.len-stages.result = omega (arith, c.len-stages.ensures) in
    let n : start.stages ≡ c.len-stages.result = count ∙ long in
    let h = c.requires.ready.4 in
    let acts = (made_at (board_of start) c.args.enc.now c.args.board.now.slots.items h.ready.at).actions in
    let place = c.takers_at.ensures ∙ ap (λ k. takers_place k c.len-stages.result c.loop-i.i) (c.requires.actions ∙ acts) ∙ ap (λ k. takers_place (action_count start.task) k c.loop-i.i) (sym n) in
    let p : c.takers_at.result ≡ takers_place (action_count start.task) start.stages c.loop-i.i = place in omega (arith, c.met_at.ensures, n)

pub returns-in_err-take_stage : goal.returns-in_err-take_stage
returns-in_err-take_stage c start count noted fits h =
    let long : length c.args.chain.now.stages.items ≡ c.len-stages.result = omega (arith, c.len-stages.ensures) in
    let n : start.stages ≡ c.len-stages.result = count ∙ long in
    let inv = c.loop-i.invariant start count noted fits h in
    let acts = (made_at (board_of start) c.args.enc.now c.args.board.now.slots.items h.ready.at).actions in
    let place = c.takers_at.ensures ∙ ap (λ k. takers_place k c.len-stages.result c.loop-i.i) (c.requires.actions ∙ acts) ∙ ap (λ k. takers_place (action_count start.task) k c.loop-i.i) (sym n) in
    let climbs = stage_climbs_at start (c.loop-i.enc, c.loop-i.board.slots.items) c.args.chain.now c.index.result.now c.loop-i.i c.len-stages.result c.met_at.result c.takers_at.result long n (omega arith) c.index.ensures c.met_at.ensures place inv in
    let parts = conditions_at start c.args.chain.now c.index.result.now c.loop-i.i c.len-stages.result long (omega arith) c.index.ensures fits in
    let follows = stage_steps_at start (c.loop-i.enc, c.loop-i.board.slots.items) c.args.chain.now c.index.result.now c.loop-i.i c.len-stages.result c.met_at.result c.steps_of-steps.result.now c.args.notes.now long n (omega arith) c.index.ensures c.met_at.ensures c.steps_of-steps.ensures noted inv in
    passed (board_of start) c.take_stage.new.enc c.take_stage.new.board.slots.items _ _ c.take_stage.result c.from_residual.result _ c.in_err-take_stage.was (err_from_is_err_and c.from_residual.result c.from_residual.ensures.1) (c.take_stage.ensures start inv.ready.at parts.guard climbs follows)

pub loop-i-preserved : goal.loop-i-preserved
loop-i-preserved c start count noted fits h =
    let long : length c.args.chain.now.stages.items ≡ c.len-stages.result = omega (arith, c.len-stages.ensures) in
    let n : start.stages ≡ c.len-stages.result = count ∙ long in
    let inv = c.loop-i.invariant start count noted fits h in
    let acts = (made_at (board_of start) c.args.enc.now c.args.board.now.slots.items h.ready.at).actions in
    let place = c.takers_at.ensures ∙ ap (λ k. takers_place k c.len-stages.result c.loop-i.i) (c.requires.actions ∙ acts) ∙ ap (λ k. takers_place (action_count start.task) k c.loop-i.i) (sym n) in
    let climbs = stage_climbs_at start (c.loop-i.enc, c.loop-i.board.slots.items) c.args.chain.now c.index.result.now c.loop-i.i c.len-stages.result c.met_at.result c.takers_at.result long n (omega arith) c.index.ensures c.met_at.ensures place inv in
    let parts = conditions_at start c.args.chain.now c.index.result.now c.loop-i.i c.len-stages.result long (omega arith) c.index.ensures fits in
    let follows = stage_steps_at start (c.loop-i.enc, c.loop-i.board.slots.items) c.args.chain.now c.index.result.now c.loop-i.i c.len-stages.result c.met_at.result c.steps_of-steps.result.now c.args.notes.now long n (omega arith) c.index.ensures c.met_at.ensures c.steps_of-steps.ensures noted inv in
    stage_taken_at start (c.loop-i.enc, c.loop-i.board.slots.items) (c.take_stage.new.enc, c.take_stage.new.board.slots.items) c.args.chain.now c.index.result.now c.loop-i.i c.len-stages.result c.met_at.result c.takers_at.result long n (omega arith) c.index.ensures c.met_at.ensures place inv (went (board_of start) c.take_stage.new.enc c.take_stage.new.board.slots.items _ c.take_stage.result _ c.in_ok-take_stage.was (c.take_stage.ensures start inv.ready.at parts.guard climbs follows))

pub take_end-requires-clause-ready : goal.take_end-requires-clause-ready
take_end-requires-clause-ready c =
    let start = c.requires.ready.0 in
    let count = c.requires.ready.1 in
    let noted = c.requires.ready.2 in
    let long : length c.args.chain.now.stages.items ≡ c.len-stages.result = omega (arith, c.len-stages.ensures) in
    let n : start.stages ≡ c.len-stages.result = count ∙ long in
    let fits = c.requires.ready.3 in
    let h = c.requires.ready.4 in
    let inv = c.loop-i.invariant start count noted fits h in
    let acts = (made_at (board_of start) c.args.enc.now c.args.board.now.slots.items h.ready.at).actions in
    let last = c.takers_at-2.ensures ∙ ap (λ k. takers_place k c.len-stages.result c.len-stages.result) (c.requires.actions ∙ acts) ∙ ap (λ k. takers_place (action_count start.task) k c.len-stages.result) (sym n) in
    let many = stage_count c.args.chain.now c.len-stages.result (sym long) in
    let shares = end_shares_at start (c.loop-i.enc, c.loop-i.board.slots.items) (until_sets c.args.chain.now) c.loop-i.i c.len-stages.result c.win_at.result c.takers_at-2.result many n (omega arith) c.win_at.ensures last inv in
    (start, inv.ready.at, shares)

pub take_end-requires-clause-actions : goal.take_end-requires-clause-actions
take_end-requires-clause-actions c =
    let start = c.requires.ready.0 in
    let count = c.requires.ready.1 in
    let noted = c.requires.ready.2 in
    let long : length c.args.chain.now.stages.items ≡ c.len-stages.result = omega (arith, c.len-stages.ensures) in
    let n : start.stages ≡ c.len-stages.result = count ∙ long in
    let fits = c.requires.ready.3 in
    let h = c.requires.ready.4 in
    let inv = c.loop-i.invariant start count noted fits h in
    let same = same_actions (board_of start) c.args.enc.now c.loop-i.enc c.args.board.now.slots.items c.loop-i.board.slots.items h.ready.at inv.ready.at in
    let e : length c.loop-i.enc.actions ≡ length c.args.enc.now.actions = same in omega (arith, c.requires.actions)

pub take_end-requires-clause-places : goal.take_end-requires-clause-places
take_end-requires-clause-places c =
    let start = c.requires.ready.0 in
    let count = c.requires.ready.1 in
    let noted = c.requires.ready.2 in
    let long : length c.args.chain.now.stages.items ≡ c.len-stages.result = omega (arith, c.len-stages.ensures) in
    let n : start.stages ≡ c.len-stages.result = count ∙ long in
    let fits = c.requires.ready.3 in
    let h = c.requires.ready.4 in
    let inv = c.loop-i.invariant start count noted fits h in
    let acts = (made_at (board_of start) c.args.enc.now c.args.board.now.slots.items h.ready.at).actions in
    let last = c.takers_at-2.ensures ∙ ap (λ k. takers_place k c.len-stages.result c.len-stages.result) (c.requires.actions ∙ acts) ∙ ap (λ k. takers_place (action_count start.task) k c.len-stages.result) (sym n) in
    let p : c.takers_at-2.result ≡ takers_place (action_count start.task) start.stages c.len-stages.result = last in let e : length c.args.enc.now.actions ≡ action_count start.task = acts in let fit = takers_within start (c.loop-i.enc, c.loop-i.board.slots.items) inv.ready.at c.len-stages.result (omega (arith, n)) in omega (arith, c.requires.actions)

pub take_end-requires-clause-won : goal.take_end-requires-clause-won
take_end-requires-clause-won c =
    omega (arith, c.win_at.ensures)

pub take_end-requires-clause-apart : goal.take_end-requires-clause-apart
take_end-requires-clause-apart c =
    let start = c.requires.ready.0 in
    let count = c.requires.ready.1 in
    let long : length c.args.chain.now.stages.items ≡ c.len-stages.result = omega (arith, c.len-stages.ensures) in
    let n : start.stages ≡ c.len-stages.result = count ∙ long in
    let h = c.requires.ready.4 in
    let acts = (made_at (board_of start) c.args.enc.now c.args.board.now.slots.items h.ready.at).actions in
    let last = c.takers_at-2.ensures ∙ ap (λ k. takers_place k c.len-stages.result c.len-stages.result) (c.requires.actions ∙ acts) ∙ ap (λ k. takers_place (action_count start.task) k c.len-stages.result) (sym n) in
    let p : c.takers_at-2.result ≡ takers_place (action_count start.task) start.stages c.len-stages.result = last in omega (arith, c.win_at.ensures, n)

pub returns : goal.returns
returns c start count noted fits h =
    let long : length c.args.chain.now.stages.items ≡ c.len-stages.result = omega (arith, c.len-stages.ensures) in
    let n : start.stages ≡ c.len-stages.result = count ∙ long in
    let inv = c.loop-i.invariant start count noted fits h in
    let acts = (made_at (board_of start) c.args.enc.now c.args.board.now.slots.items h.ready.at).actions in
    let last = c.takers_at-2.ensures ∙ ap (λ k. takers_place k c.len-stages.result c.len-stages.result) (c.requires.actions ∙ acts) ∙ ap (λ k. takers_place (action_count start.task) k c.len-stages.result) (sym n) in
    let many = stage_count c.args.chain.now c.len-stages.result (sym long) in
    let shares = end_shares_at start (c.loop-i.enc, c.loop-i.board.slots.items) (until_sets c.args.chain.now) c.loop-i.i c.len-stages.result c.win_at.result c.takers_at-2.result many n (omega arith) c.win_at.ensures last inv in
    left_with (board_of start) c.take_end.new.enc c.take_end.new.board.slots.items _ _ c.take_end.result
    (λ z. subst (λ k. HasTakers start (c.take_end.new.enc, c.take_end.new.board.slots.items) (until_sets c.args.chain.now) (suc k)) (sym n) (last_taken_at start (c.loop-i.enc, c.loop-i.board.slots.items) (c.take_end.new.enc, c.take_end.new.board.slots.items) (until_sets c.args.chain.now) c.loop-i.i c.len-stages.result c.win_at.result c.takers_at-2.result many n (omega arith) c.win_at.ensures last inv z))
    (c.take_end.ensures start inv.ready.at shares)

pub steps_of-steps-requires : goal.steps_of-steps-requires
steps_of-steps-requires c =
    let e = c.requires.ready.2.0 in
    let n = c.requires.ready.1 in
    omega (arith, c.len-stages.ensures)

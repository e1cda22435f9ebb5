use Rattle.std.proofs.Common.{◌≡◌, ◌∙◌, arith, length, map, sym}
use Rattle.std.proofs.lemmas.Result.{err_from_is_err_and}
use Rattle.plan_certs.specs.Named.{set_of}
use Rattle.slot_board.proofs.BoardSlots.{same_actions, went}
use Rattle.slot_board.proofs.Endings.{ends_with, found_of, passed_on}
use Rattle.cert_check.proofs.UnionLemmas.{judged_goal, judged_initial, judged_rest, same_goal}
use Rattle.cert_check.proofs.verdict.judge.Goals as goal

pub join_all-requires : goal.join_all-requires
join_all-requires c = let r = c.requires.ready in (r.0, _, r.1, r.2)

pub returns-in_err-join_all : goal.returns-in_err-join_all
returns-in_err-join_all c start at fits =
    passed_on start c.join_all.new.enc c.join_all.new.board.slots.items _ _ c.join_all.result c.from_residual.result _ c.in_err-join_all.was (err_from_is_err_and c.from_residual.result c.from_residual.ensures.1) (c.join_all.ensures start c.args.asked.class at fits)

pub holds_initial-requires : goal.holds_initial-requires
holds_initial-requires c = let r = c.requires.ready in (r.0, c.args.asked.class, _, went r.0 c.join_all.new.enc c.join_all.new.board.slots.items _ c.join_all.result _ c.in_ok-join_all.was (c.join_all.ensures r.0 c.args.asked.class r.1 r.2), r.2)

pub returns-in_err-holds_initial : goal.returns-in_err-holds_initial
returns-in_err-holds_initial c start at fits =
    passed_on start c.holds_initial.new.enc c.holds_initial.new.board.slots.items _ _ c.holds_initial.result c.from_residual-in_err-holds_initial.result _ c.in_err-holds_initial.was (err_from_is_err_and c.from_residual-in_err-holds_initial.result c.from_residual-in_err-holds_initial.ensures.1) (c.holds_initial.ensures start c.args.asked.class _ (went start c.join_all.new.enc c.join_all.new.board.slots.items _ c.join_all.result _ c.in_ok-join_all.was (c.join_all.ensures start c.args.asked.class at fits)) fits)

pub returns-then-not-branch : goal.returns-then-not-branch
returns-then-not-branch c start at fits =
    let now = found_of start c.holds_initial.new.enc c.holds_initial.new.board.slots.items _ c.holds_initial.result _ c.in_ok-holds_initial.was (c.holds_initial.ensures start c.args.asked.class _ (went start c.join_all.new.enc c.join_all.new.board.slots.items _ c.join_all.result _ c.in_ok-join_all.was (c.join_all.ensures start c.args.asked.class at fits)) fits) in
    (now.0.at, judged_initial c.args.asked.class start.task (map set_of c.args.sets.now) (sym now.1 ∙ c.if-not-branch.true))

pub holds_goal-requires-clause-ready : goal.holds_goal-requires-clause-ready
holds_goal-requires-clause-ready c = let r = c.requires.ready in (r.0, c.args.asked.class, _, (found_of r.0 c.holds_initial.new.enc c.holds_initial.new.board.slots.items _ c.holds_initial.result _ c.in_ok-holds_initial.was (c.holds_initial.ensures r.0 c.args.asked.class _ (went r.0 c.join_all.new.enc c.join_all.new.board.slots.items _ c.join_all.result _ c.in_ok-join_all.was (c.join_all.ensures r.0 c.args.asked.class r.1 r.2)) r.2)).0, r.2)

pub holds_goal-requires-clause-goal : goal.holds_goal-requires-clause-goal
holds_goal-requires-clause-goal c =
    let r = c.requires.ready in
    same_goal r.0 c.args.enc.now c.holds_initial.new.enc c.args.board.now.slots.items c.holds_initial.new.board.slots.items r.1 (found_of r.0 c.holds_initial.new.enc c.holds_initial.new.board.slots.items _ c.holds_initial.result _ c.in_ok-holds_initial.was (c.holds_initial.ensures r.0 c.args.asked.class _ (went r.0 c.join_all.new.enc c.join_all.new.board.slots.items _ c.join_all.result _ c.in_ok-join_all.was (c.join_all.ensures r.0 c.args.asked.class r.1 r.2)) r.2)).0.at c.requires.goal

pub returns-in_err-holds_goal : goal.returns-in_err-holds_goal
returns-in_err-holds_goal c start at fits =
    passed_on start c.holds_goal.new.enc c.holds_goal.new.board.slots.items _ _ c.holds_goal.result c.from_residual-in_err-holds_goal.result _ c.in_err-holds_goal.was (err_from_is_err_and c.from_residual-in_err-holds_goal.result c.from_residual-in_err-holds_goal.ensures.1) (c.holds_goal.ensures start c.args.asked.class _ (found_of start c.holds_initial.new.enc c.holds_initial.new.board.slots.items _ c.holds_initial.result _ c.in_ok-holds_initial.was (c.holds_initial.ensures start c.args.asked.class _ (went start c.join_all.new.enc c.join_all.new.board.slots.items _ c.join_all.result _ c.in_ok-join_all.was (c.join_all.ensures start c.args.asked.class at fits)) fits)).0 fits)

pub returns-then-branch : goal.returns-then-branch
returns-then-branch c start at fits =
    let now = found_of start c.holds_goal.new.enc c.holds_goal.new.board.slots.items _ c.holds_goal.result _ c.in_ok-holds_goal.was (c.holds_goal.ensures start c.args.asked.class _ (found_of start c.holds_initial.new.enc c.holds_initial.new.board.slots.items _ c.holds_initial.result _ c.in_ok-holds_initial.was (c.holds_initial.ensures start c.args.asked.class _ (went start c.join_all.new.enc c.join_all.new.board.slots.items _ c.join_all.result _ c.in_ok-join_all.was (c.join_all.ensures start c.args.asked.class at fits)) fits)).0 fits) in
    (now.0.at, judged_goal c.args.asked.class start.task (map set_of c.args.sets.now) (sym (found_of start c.holds_initial.new.enc c.holds_initial.new.board.slots.items _ c.holds_initial.result _ c.in_ok-holds_initial.was (c.holds_initial.ensures start c.args.asked.class _ (went start c.join_all.new.enc c.join_all.new.board.slots.items _ c.join_all.result _ c.in_ok-join_all.was (c.join_all.ensures start c.args.asked.class at fits)) fits)).1 ∙ c.if-not-branch.false) (sym now.1 ∙ c.if-branch.true))

pub judge_actions-requires-clause-ready : goal.judge_actions-requires-clause-ready
judge_actions-requires-clause-ready c = let r = c.requires.ready in (r.0, (found_of r.0 c.holds_goal.new.enc c.holds_goal.new.board.slots.items _ c.holds_goal.result _ c.in_ok-holds_goal.was (c.holds_goal.ensures r.0 c.args.asked.class _ (found_of r.0 c.holds_initial.new.enc c.holds_initial.new.board.slots.items _ c.holds_initial.result _ c.in_ok-holds_initial.was (c.holds_initial.ensures r.0 c.args.asked.class _ (went r.0 c.join_all.new.enc c.join_all.new.board.slots.items _ c.join_all.result _ c.in_ok-join_all.was (c.join_all.ensures r.0 c.args.asked.class r.1 r.2)) r.2)).0 r.2)).0.at, r.2)

pub judge_actions-requires-clause-actions : goal.judge_actions-requires-clause-actions
judge_actions-requires-clause-actions c =
    let r = c.requires.ready in
    let now = (found_of r.0 c.holds_goal.new.enc c.holds_goal.new.board.slots.items _ c.holds_goal.result _ c.in_ok-holds_goal.was (c.holds_goal.ensures r.0 c.args.asked.class _ (found_of r.0 c.holds_initial.new.enc c.holds_initial.new.board.slots.items _ c.holds_initial.result _ c.in_ok-holds_initial.was (c.holds_initial.ensures r.0 c.args.asked.class _ (went r.0 c.join_all.new.enc c.join_all.new.board.slots.items _ c.join_all.result _ c.in_ok-join_all.was (c.join_all.ensures r.0 c.args.asked.class r.1 r.2)) r.2)).0 r.2)).0.at in
    let e : length c.holds_goal.new.enc.actions ≡ length c.args.enc.now.actions = same_actions r.0 c.args.enc.now c.holds_goal.new.enc c.args.board.now.slots.items c.holds_goal.new.board.slots.items r.1 now in
    omega (arith, c.requires.actions)

pub returns : goal.returns
returns c start at fits =
    let first = found_of start c.holds_initial.new.enc c.holds_initial.new.board.slots.items _ c.holds_initial.result _ c.in_ok-holds_initial.was (c.holds_initial.ensures start c.args.asked.class _ (went start c.join_all.new.enc c.join_all.new.board.slots.items _ c.join_all.result _ c.in_ok-join_all.was (c.join_all.ensures start c.args.asked.class at fits)) fits) in
    let second = found_of start c.holds_goal.new.enc c.holds_goal.new.board.slots.items _ c.holds_goal.result _ c.in_ok-holds_goal.was (c.holds_goal.ensures start c.args.asked.class _ (found_of start c.holds_initial.new.enc c.holds_initial.new.board.slots.items _ c.holds_initial.result _ c.in_ok-holds_initial.was (c.holds_initial.ensures start c.args.asked.class _ (went start c.join_all.new.enc c.join_all.new.board.slots.items _ c.join_all.result _ c.in_ok-join_all.was (c.join_all.ensures start c.args.asked.class at fits)) fits)).0 fits) in
    ends_with start c.judge_actions.new.enc c.judge_actions.new.board.slots.items _ _ c.judge_actions.result
    (λ judged now. (now.0, now.1 ∙ judged_rest c.args.asked.class start.task (map set_of c.args.sets.now) (sym first.1 ∙ c.if-not-branch.false) (sym second.1 ∙ c.if-branch.false)))
    (c.judge_actions.ensures start second.0.at fits)

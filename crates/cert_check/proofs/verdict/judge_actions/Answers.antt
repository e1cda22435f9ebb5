use Rattle.std.proofs.Common.{◌≡◌, ◌∙◌, ap, arith, if◌then◌else◌, length, sym}
use Rattle.std.proofs.lemmas.Result.{err_from_is_err_and}
use Rattle.slot_board.proofs.BoardSlots.{same_actions, went}
use Rattle.slot_board.proofs.Endings.{found_of, passed_on}
use Rattle.cert_check.specs.declared.verdict.Flaw.TheVariants.{Action}
use Rattle.cert_check.specs.declared.verdict.Judged.TheVariants.{Accepted, Rejected}
use Rattle.cert_check.proofs.KeptLemmas.{nothing_kept}
use Rattle.cert_check.proofs.verdict.judge_actions.Goals as goal

pub clear_union-requires : goal.clear_union-requires
clear_union-requires c = let r = c.requires.ready in (r.0, r.1, r.2.board)

pub returns-in_err-clear_union : goal.returns-in_err-clear_union
returns-in_err-clear_union c start at fits =
    passed_on start c.clear_union.new.enc c.clear_union.new.board.slots.items _ _ c.clear_union.result c.from_residual.result _ c.in_err-clear_union.was (err_from_is_err_and c.from_residual.result c.from_residual.ensures.1) (c.clear_union.ensures start at fits.board)

pub some_set_is_left-requires-clause-ready : goal.some_set_is_left-requires-clause-ready
some_set_is_left-requires-clause-ready c = let r = c.requires.ready in (r.0, _, went r.0 c.clear_union.new.enc c.clear_union.new.board.slots.items _ c.clear_union.result _ c.in_ok-clear_union.was (c.clear_union.ensures r.0 r.1 r.2.board), r.2.sets_fit, nothing_kept c.args.asked.class r.0.task)

pub some_set_is_left-requires-clause-actions : goal.some_set_is_left-requires-clause-actions
some_set_is_left-requires-clause-actions c =
    let r = c.requires.ready in
    let union = went r.0 c.clear_union.new.enc c.clear_union.new.board.slots.items _ c.clear_union.result _ c.in_ok-clear_union.was (c.clear_union.ensures r.0 r.1 r.2.board) in
    let e : length c.clear_union.new.enc.actions ≡ length c.args.enc.now.actions = same_actions r.0 c.args.enc.now c.clear_union.new.enc c.args.board.now.slots.items c.clear_union.new.board.slots.items r.1 union.at in
    omega (arith, c.requires.actions)

pub returns-in_err-some_set_is_left : goal.returns-in_err-some_set_is_left
returns-in_err-some_set_is_left c start at fits =
    passed_on start c.some_set_is_left.new.enc c.some_set_is_left.new.board.slots.items _ _ c.some_set_is_left.result c.from_residual-in_err-some_set_is_left.result _ c.in_err-some_set_is_left.was (err_from_is_err_and c.from_residual-in_err-some_set_is_left.result c.from_residual-in_err-some_set_is_left.ensures.1)
    (c.some_set_is_left.ensures start _ (went start c.clear_union.new.enc c.clear_union.new.board.slots.items _ c.clear_union.result _ c.in_ok-clear_union.was (c.clear_union.ensures start at fits.board)) fits.sets_fit (nothing_kept c.args.asked.class start.task))

pub returns-then-branch : goal.returns-then-branch
returns-then-branch c start at fits =
    let now = found_of start c.some_set_is_left.new.enc c.some_set_is_left.new.board.slots.items _ c.some_set_is_left.result _ c.in_ok-some_set_is_left.was (c.some_set_is_left.ensures start _ (went start c.clear_union.new.enc c.clear_union.new.board.slots.items _ c.clear_union.result _ c.in_ok-clear_union.was (c.clear_union.ensures start at fits.board)) fits.sets_fit (nothing_kept c.args.asked.class start.task)) in
    (now.0, ap (λ b. if b then Rejected Action else Accepted) (sym c.if-branch.true ∙ now.1))

pub returns-else-branch : goal.returns-else-branch
returns-else-branch c start at fits =
    let now = found_of start c.some_set_is_left.new.enc c.some_set_is_left.new.board.slots.items _ c.some_set_is_left.result _ c.in_ok-some_set_is_left.was (c.some_set_is_left.ensures start _ (went start c.clear_union.new.enc c.clear_union.new.board.slots.items _ c.clear_union.result _ c.in_ok-clear_union.was (c.clear_union.ensures start at fits.board)) fits.sets_fit (nothing_kept c.args.asked.class start.task)) in
    (now.0, ap (λ b. if b then Rejected Action else Accepted) (sym c.if-branch.false ∙ now.1))

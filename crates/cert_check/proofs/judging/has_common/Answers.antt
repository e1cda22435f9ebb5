use Rattle.std.proofs.Common.{◌≡◌, ◌∙◌, arith, length}
use Rattle.std.proofs.lemmas.Result.{err_from_is_err_and}
use Rattle.slot_board.proofs.BoardSlots.{went}
use Rattle.slot_board.proofs.Endings.{passed_on, wants_memory}
use Rattle.cert_check.proofs.JudgeLemmas.{common_answer, common_done, common_program, run_can, run_left}
use Rattle.cert_check.proofs.KnownSets.{of_union, shows_union}
use Rattle.cert_check.proofs.judging.has_common.Goals as goal

pub returns-in_err-steps : goal.returns-in_err-steps
returns-in_err-steps c start f h union fits =
    wants_memory start c.args.enc.now c.args.board.now.slots.items _ c.from_residual.result _ c.in_err-steps.ensures.never_full (err_from_is_err_and c.from_residual.result c.from_residual.ensures.1) union.at

pub make_all-requires : goal.make_all-requires
make_all-requires c =
    let r = c.requires in
    let placed = of_union c.args.enc.now c.args.board.now.slots.items r.1 in
    (r.0, placed, shows_union r.0 c.args.enc.now c.args.board.now.slots.items r.1 r.3, run_can r.0 placed _ _ (c.deref.ensures.value ∙ c.in_ok-steps.ensures.made) (common_program r.0 c.args.enc.now c.args.board.now.slots.items r.1 r.2 _ r.3 r.4))

pub returns-in_err-make_all : goal.returns-in_err-make_all
returns-in_err-make_all c start f h union fits =
    let placed = of_union c.args.enc.now c.args.board.now.slots.items f in
    let is = c.deref.ensures.value ∙ c.in_ok-steps.ensures.made in
    passed_on start c.make_all.new.enc c.make_all.new.board.slots.items _ _ c.make_all.result c.from_residual-in_err-make_all.result _ c.in_err-make_all.was (err_from_is_err_and c.from_residual-in_err-make_all.result c.from_residual-in_err-make_all.ensures.1)
    (c.make_all.ensures start placed (shows_union start c.args.enc.now c.args.board.now.slots.items f union) (run_can start placed _ _ is (common_program start c.args.enc.now c.args.board.now.slots.items f h _ union fits)))

pub is_empty-requires-clause-working : goal.is_empty-requires-clause-working
is_empty-requires-clause-working c =
    let r = c.requires in
    let placed = of_union c.args.enc.now c.args.board.now.slots.items r.1 in
    let is = c.deref.ensures.value ∙ c.in_ok-steps.ensures.made in
    let done = went r.0 c.make_all.new.enc c.make_all.new.board.slots.items _ c.make_all.result _ c.in_ok-make_all.was
    (c.make_all.ensures r.0 placed (shows_union r.0 c.args.enc.now c.args.board.now.slots.items r.1 r.3) (run_can r.0 placed _ _ is (common_program r.0 c.args.enc.now c.args.board.now.slots.items r.1 r.2 _ r.3 r.4))) in
    (r.0, done.at)

pub is_empty-requires-clause-place : goal.is_empty-requires-clause-place
is_empty-requires-clause-place c =
    let r = c.requires in
    let placed = of_union c.args.enc.now c.args.board.now.slots.items r.1 in
    let is = c.deref.ensures.value ∙ c.in_ok-steps.ensures.made in
    let done = went r.0 c.make_all.new.enc c.make_all.new.board.slots.items _ c.make_all.result _ c.in_ok-make_all.was
    (c.make_all.ensures r.0 placed (shows_union r.0 c.args.enc.now c.args.board.now.slots.items r.1 r.3) (run_can r.0 placed _ _ is (common_program r.0 c.args.enc.now c.args.board.now.slots.items r.1 r.2 _ r.3 r.4))) in
    let long : length c.make_all.new.board.slots.items ≡ r.0.places = done.at.long in
    let five : r.0.places ≡ 5 = r.4.board.five in
    omega arith

pub returns : goal.returns
returns c start f h union fits =
    let placed = of_union c.args.enc.now c.args.board.now.slots.items f in
    let is = c.deref.ensures.value ∙ c.in_ok-steps.ensures.made in
    let done = common_done start c.args.enc.now c.args.board.now.slots.items f h _ union fits c.make_all.new.enc c.make_all.new.board.slots.items (went start c.make_all.new.enc c.make_all.new.board.slots.items _ c.make_all.result _ c.in_ok-make_all.was
    (run_left start c.make_all.new.enc c.make_all.new.board.slots.items placed _ _ _ c.make_all.result is (λ shows. shows) (c.make_all.ensures start placed (shows_union start c.args.enc.now c.args.board.now.slots.items f union) (run_can start placed _ _ is (common_program start c.args.enc.now c.args.board.now.slots.items f h _ union fits))))) in
    (done.0, common_answer start c.make_all.new.enc c.make_all.new.board.slots.items f h c.is_empty.result done.0 done.1 c.is_empty.ensures)

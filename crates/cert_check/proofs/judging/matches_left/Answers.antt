use Rattle.std.proofs.Common.{◌≡◌, ◌∙◌, arith, length}
use Rattle.std.proofs.lemmas.Result.{err_from_is_err_and}
use Rattle.slot_board.proofs.BoardSlots.{went}
use Rattle.slot_board.proofs.Endings.{passed_on, wants_memory}
use Rattle.cert_check.proofs.JudgeLemmas.{fix_done, fix_found, fix_program, run_can, run_left}
use Rattle.cert_check.proofs.KnownSets.{of_left, shows_left}
use Rattle.cert_check.proofs.judging.matches_left.Goals as goal

pub returns-in_err-steps : goal.returns-in_err-steps
returns-in_err-steps c start f g b left fits =
    wants_memory start c.args.enc.now c.args.board.now.slots.items _ c.from_residual.result _ c.in_err-steps.ensures.never_full (err_from_is_err_and c.from_residual.result c.from_residual.ensures.1) left.by_set.by_union.at

pub make_all-requires : goal.make_all-requires
make_all-requires c =
    let r = c.requires in
    let placed = of_left c.args.enc.now c.args.board.now.slots.items r.1 r.2 r.3 in
    (r.0, placed, shows_left r.0 c.args.enc.now c.args.board.now.slots.items r.1 r.2 r.3 r.4, run_can r.0 placed _ _ (c.deref.ensures.value ∙ c.in_ok-steps.ensures.made) (fix_program r.0 c.args.enc.now c.args.board.now.slots.items r.1 r.2 r.3 _ r.4 r.5))

pub returns-in_err-make_all : goal.returns-in_err-make_all
returns-in_err-make_all c start f g b left fits =
    let placed = of_left c.args.enc.now c.args.board.now.slots.items f g b in
    let is = c.deref.ensures.value ∙ c.in_ok-steps.ensures.made in
    passed_on start c.make_all.new.enc c.make_all.new.board.slots.items _ _ c.make_all.result c.from_residual-in_err-make_all.result _ c.in_err-make_all.was (err_from_is_err_and c.from_residual-in_err-make_all.result c.from_residual-in_err-make_all.ensures.1)
    (c.make_all.ensures start placed (shows_left start c.args.enc.now c.args.board.now.slots.items f g b left) (run_can start placed _ _ is (fix_program start c.args.enc.now c.args.board.now.slots.items f g b _ left fits)))

pub is_matched-requires-clause-working : goal.is_matched-requires-clause-working
is_matched-requires-clause-working c =
    let r = c.requires in
    let placed = of_left c.args.enc.now c.args.board.now.slots.items r.1 r.2 r.3 in
    let is = c.deref.ensures.value ∙ c.in_ok-steps.ensures.made in
    let done = went r.0 c.make_all.new.enc c.make_all.new.board.slots.items _ c.make_all.result _ c.in_ok-make_all.was
    (c.make_all.ensures r.0 placed (shows_left r.0 c.args.enc.now c.args.board.now.slots.items r.1 r.2 r.3 r.4) (run_can r.0 placed _ _ is (fix_program r.0 c.args.enc.now c.args.board.now.slots.items r.1 r.2 r.3 _ r.4 r.5))) in
    (r.0, done.at)

pub is_matched-requires-clause-place : goal.is_matched-requires-clause-place
is_matched-requires-clause-place c =
    let r = c.requires in
    let placed = of_left c.args.enc.now c.args.board.now.slots.items r.1 r.2 r.3 in
    let is = c.deref.ensures.value ∙ c.in_ok-steps.ensures.made in
    let done = went r.0 c.make_all.new.enc c.make_all.new.board.slots.items _ c.make_all.result _ c.in_ok-make_all.was
    (c.make_all.ensures r.0 placed (shows_left r.0 c.args.enc.now c.args.board.now.slots.items r.1 r.2 r.3 r.4) (run_can r.0 placed _ _ is (fix_program r.0 c.args.enc.now c.args.board.now.slots.items r.1 r.2 r.3 _ r.4 r.5))) in
    let long : length c.make_all.new.board.slots.items ≡ r.0.places = done.at.long in
    let five : r.0.places ≡ 5 = r.5.board.five in
    omega arith

pub returns : goal.returns
returns c start f g b left fits =
    let placed = of_left c.args.enc.now c.args.board.now.slots.items f g b in
    let is = c.deref.ensures.value ∙ c.in_ok-steps.ensures.made in
    let done = fix_done start c.args.enc.now c.args.board.now.slots.items f g b c.args.cube.now left fits c.make_all.new.enc c.make_all.new.board.slots.items (went start c.make_all.new.enc c.make_all.new.board.slots.items _ c.make_all.result _ c.in_ok-make_all.was
    (run_left start c.make_all.new.enc c.make_all.new.board.slots.items placed _ _ _ c.make_all.result is (λ shows. shows) (c.make_all.ensures start placed (shows_left start c.args.enc.now c.args.board.now.slots.items f g b left) (run_can start placed _ _ is (fix_program start c.args.enc.now c.args.board.now.slots.items f g b _ left fits))))) in
    (done.0, fix_found start c.args.enc.now c.args.board.now.slots.items f g b c.args.cube.now left fits c.make_all.new.enc c.make_all.new.board.slots.items c.is_matched.result done c.is_matched.ensures)

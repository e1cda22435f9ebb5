use Rattle.std.proofs.Common.{◌≡◌, ◌∙◌, ap, subst, sym}
use Rattle.dd_sets.specs.declared.slots.SetId.{SetId}
use Rattle.plan_certs.specs.Named.{set_of as cubes_in}
use Rattle.slot_board.proofs.Endings.{wants_memory}
use Rattle.cert_check.specs.Programs.{set_steps}
use Rattle.board_steps.specs.Steps.{CanMakeAll}
use Rattle.std.proofs.lemmas.Result.{err_from_is_err_and}
use Rattle.cert_check.proofs.JudgeLemmas.{run_can, run_left, set_done, set_program}
use Rattle.cert_check.proofs.KnownSets.{of_union, shows_union}
use Rattle.cert_check.proofs.judging.make_by_steps.Goals as goal

pub returns-in_err-steps : goal.returns-in_err-steps
returns-in_err-steps c start f union fits =
    let p = err_from_is_err_and c.from_residual.result c.from_residual.ensures.1 in
    wants_memory start c.args.enc.now c.args.board.now.slots.items _ c.from_residual.result _ c.in_err-steps.ensures.never_full p union.at

pub make_all-requires : goal.make_all-requires
make_all-requires c =
    let r = c.requires in
    let placed = of_union c.args.enc.now c.args.board.now.slots.items r.1 in
    (r.0, placed, shows_union r.0 c.args.enc.now c.args.board.now.slots.items r.1 r.2, run_can r.0 placed _ _ (c.deref.ensures.value ∙ c.in_ok-steps.ensures.made) (subst (λ (s : SetId). CanMakeAll r.0 placed (set_steps s (cubes_in c.args.set.now))) (sym c.space.ensures) (set_program r.0 c.args.enc.now c.args.board.now.slots.items r.1 _ r.2 r.3)))

pub returns : goal.returns
returns c start f union fits =
    let placed = of_union c.args.enc.now c.args.board.now.slots.items f in
    let is : c.deref.result.now ≡ set_steps c.args.enc.now.space (cubes_in c.args.set.now) = c.deref.ensures.value ∙ c.in_ok-steps.ensures.made ∙ ap (λ (s : SetId). set_steps s (cubes_in c.args.set.now)) c.space.ensures in
    run_left start c.make_all.new.enc c.make_all.new.board.slots.items placed _ _ _ c.make_all.result is
    (λ shows. set_done start c.args.enc.now c.args.board.now.slots.items f _ union fits c.make_all.new.enc c.make_all.new.board.slots.items shows)
    (c.make_all.ensures start placed (shows_union start c.args.enc.now c.args.board.now.slots.items f union) (run_can start placed _ _ is (set_program start c.args.enc.now c.args.board.now.slots.items f _ union fits)))

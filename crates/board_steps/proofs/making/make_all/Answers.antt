-- One step more.
use Rattle.std.proofs.Common.{get_or, subst, sym, refl, ap, ◌∙◌, arith}
use Rattle.std.proofs.lemmas.List.{drop_all}
use Rattle.std.proofs.lemmas.Result.{err_from_is_err_and}
use Rattle.slot_board.proofs.BoardSlots.{went, passed}
use Rattle.board_steps.specs.Steps.{CanMakeAll, Shows, after_step, after_steps}
use Rattle.board_steps.specs.declared.steps.Step.TheVariants.{Whole}
use Rattle.board_steps.proofs.MakeLemmas.{drop_more}
use Rattle.board_steps.proofs.making.make_all.Goals as goal

pub loop-step-init : goal.loop-step-init
loop-step-init c start placed shows can = record { here = placed; shows = shows; can = can; leads = refl }

pub make-requires : goal.make-requires
make-requires c =
    let r = c.requires in
    let half = c.loop-step.invariant r.0 r.1 r.2 r.3 in
    let more = drop_more c.args.steps.now c.loop-step.step-index (Whole 0) c.loop-step-test.true in
    (r.0, half.here, half.shows, (subst (CanMakeAll r.0 half.here) more half.can).0)

pub returns-in_err-make : goal.returns-in_err-make
returns-in_err-make c start placed shows can =
    let half = c.loop-step.invariant start placed shows can in
    let more = drop_more c.args.steps.now c.loop-step.step-index (Whole 0) c.loop-step-test.true in
    let p = err_from_is_err_and c.from_residual.result c.from_residual.ensures.1 in
    passed start c.make.new.enc c.make.new.board.slots.items _ _ c.make.result c.from_residual.result _ c.in_err-make.was p (c.make.ensures start half.here half.shows (subst (CanMakeAll start half.here) more half.can).0)

pub loop-step-preserved : goal.loop-step-preserved
loop-step-preserved c start placed shows can =
    let half = c.loop-step.invariant start placed shows can in
    let more = drop_more c.args.steps.now c.loop-step.step-index (Whole 0) c.loop-step-test.true in
    let both = subst (CanMakeAll start half.here) more half.can in
    record {
      here = after_step start half.here (get_or c.args.steps.now c.loop-step.step-index (Whole 0));
      shows = went start c.make.new.enc c.make.new.board.slots.items _ c.make.result _ c.in_ok-make.was (c.make.ensures start half.here half.shows both.0);
      can = both.1;
      leads = sym (ap (after_steps start half.here) more) ∙ half.leads;
    }

pub returns : goal.returns
returns c start placed shows can =
    let half = c.loop-step.invariant start placed shows can in
    subst (Shows start c.loop-step.enc c.loop-step.board.slots.items) (sym (ap (after_steps start half.here) (drop_all c.loop-step.step-index c.args.steps.now (omega (arith, c.loop-step-test.false)))) ∙ half.leads) half.shows

-- The copy, then the note.
use Rattle.std.proofs.Common.{◌≡◌, ◌++◌, [], ◌∷◌}
use Rattle.std.proofs.lemmas.Result.{err_from_is_err_and}
use Rattle.slot_board.proofs.BoardSlots.{passed, went}
use Rattle.slot_board.proofs.Endings.{noted_then}
use Rattle.reach_plan.specs.Steps.{untaken}
use Rattle.slot_board.specs.declared.steps.Step.TheVariants.{Advance}
use Rattle.reach_plan.proofs.PlaceFits.{fits_small}
use Rattle.reach_plan.proofs.SearchSteps.{advanced}
use Rattle.reach_plan.proofs.search.advance.Goals as goal

pub copy_of-requires-clause-working : goal.copy_of-requires-clause-working
copy_of-requires-clause-working c = let r = c.requires.ready in (r.0, r.3.by_layer.at)

pub returns-in_err-copy_of : goal.returns-in_err-copy_of
returns-in_err-copy_of c start f g ready small =
    let p = err_from_is_err_and c.from_residual.result c.from_residual.ensures.1 in
    passed start c.copy_of.new.enc c.copy_of.new.self.slots.items _ _ c.copy_of.result c.from_residual.result _ c.in_err-copy_of.was p (c.copy_of.ensures start ready.by_layer.at (fits_small start 0 _ g ready.holds_next small))

pub returns : goal.returns
returns c start f g ready small =
    let m = went start c.copy_of.new.enc c.copy_of.new.self.slots.items _ c.copy_of.result _ c.in_ok-copy_of.was (c.copy_of.ensures start ready.by_layer.at (fits_small start 0 _ g ready.holds_next small)) in
    noted_then start c.copy_of.new.enc c.copy_of.new.self.slots.items (c.note.new.steps.items ≡ c.args.steps.now.items ++ Advance ∷ []) _ c.note.result c.note.ensures.never_full c.note.ensures.noted m.at
    (λ done. ((advanced start c.args.enc.now c.copy_of.new.enc c.args.board.now.slots.items c.copy_of.new.self.slots.items 0 f untaken g c.requires.places ready m).by_layer, done))

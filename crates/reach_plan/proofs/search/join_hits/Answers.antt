-- The join first, then its place.
use Rattle.std.proofs.Common.{◌≡◌, ◌++◌, [], ◌∷◌, arith, length}
use Rattle.std.proofs.lemmas.Result.{err_from_is_err_and}
use Rattle.slot_board.proofs.BoardSlots.{passed, went}
use Rattle.slot_board.proofs.Endings.{noted_then}
use Rattle.slot_board.specs.declared.steps.Step.TheVariants.{Grow}
use Rattle.reach_plan.specs.Steps.{untaken}
use Rattle.reach_plan.proofs.PlaceFits.{grown_fits, joined_fits}
use Rattle.reach_plan.proofs.SearchSteps.{joined_new, joined_none}
use Rattle.reach_plan.proofs.search.join_hits.Goals as goal

pub combine-requires-clause-working : goal.combine-requires-clause-working
combine-requires-clause-working c = let r = c.requires.ready in (r.0, r.4.by_next.by_layer.at)

pub returns-in_err-combine : goal.returns-in_err-combine
returns-in_err-combine c start f g hits ready =
    let p = err_from_is_err_and c.from_residual.result c.from_residual.ensures.1 in
    passed start c.combine.new.enc c.combine.new.self.slots.items _ _ c.combine.result c.from_residual.result _ c.in_err-combine.was p (c.combine.ensures start ready.by_next.by_layer.at (joined_fits start c.args.enc.now c.args.board.now.slots.items 0 3 f untaken g hits ready))

pub is_same-requires-clause-working : goal.is_same-requires-clause-working
is_same-requires-clause-working c =
    let r = c.requires.ready in
    (r.0, (went r.0 c.combine.new.enc c.combine.new.self.slots.items _ c.combine.result _ c.in_ok-combine.was (c.combine.ensures r.0 r.4.by_next.by_layer.at (joined_fits r.0 c.args.enc.now c.args.board.now.slots.items 0 3 r.1 untaken r.2 r.3 r.4))).at)

pub is_same-requires-clause-a : goal.is_same-requires-clause-a
is_same-requires-clause-a c =
    let r = c.requires.ready in
    let now : length c.combine.new.self.slots.items ≡ r.0.places = (went r.0 c.combine.new.enc c.combine.new.self.slots.items _ c.combine.result _ c.in_ok-combine.was (c.combine.ensures r.0 r.4.by_next.by_layer.at (joined_fits r.0 c.args.enc.now c.args.board.now.slots.items 0 3 r.1 untaken r.2 r.3 r.4))).at.long in
    let was : length c.args.board.now.slots.items ≡ r.0.places = r.4.by_next.by_layer.at.long in
    omega (arith, c.requires.places)

pub is_same-requires-clause-b : goal.is_same-requires-clause-b
is_same-requires-clause-b c =
    let r = c.requires.ready in
    let now : length c.combine.new.self.slots.items ≡ r.0.places = (went r.0 c.combine.new.enc c.combine.new.self.slots.items _ c.combine.result _ c.in_ok-combine.was (c.combine.ensures r.0 r.4.by_next.by_layer.at (joined_fits r.0 c.args.enc.now c.args.board.now.slots.items 0 3 r.1 untaken r.2 r.3 r.4))).at.long in
    let was : length c.args.board.now.slots.items ≡ r.0.places = r.4.by_next.by_layer.at.long in
    omega (arith, c.requires.places)

pub returns-then-is_same : goal.returns-then-is_same
returns-then-is_same c start f g hits ready =
    let m = went start c.combine.new.enc c.combine.new.self.slots.items _ c.combine.result _ c.in_ok-combine.was (c.combine.ensures start ready.by_next.by_layer.at (joined_fits start c.args.enc.now c.args.board.now.slots.items 0 3 f untaken g hits ready)) in
    joined_none start c.args.enc.now c.combine.new.enc c.args.board.now.slots.items c.combine.new.self.slots.items f g hits c.args.a c.args.steps.now.items c.requires.places ready m (c.is_same.ensures.0 c.if-is_same.true)

pub copy_of-requires-clause-working : goal.copy_of-requires-clause-working
copy_of-requires-clause-working c =
    let r = c.requires.ready in
    (r.0, (went r.0 c.combine.new.enc c.combine.new.self.slots.items _ c.combine.result _ c.in_ok-combine.was (c.combine.ensures r.0 r.4.by_next.by_layer.at (joined_fits r.0 c.args.enc.now c.args.board.now.slots.items 0 3 r.1 untaken r.2 r.3 r.4))).at)

pub copy_of-requires-clause-place : goal.copy_of-requires-clause-place
copy_of-requires-clause-place c =
    let r = c.requires.ready in
    let now : length c.combine.new.self.slots.items ≡ r.0.places = (went r.0 c.combine.new.enc c.combine.new.self.slots.items _ c.combine.result _ c.in_ok-combine.was (c.combine.ensures r.0 r.4.by_next.by_layer.at (joined_fits r.0 c.args.enc.now c.args.board.now.slots.items 0 3 r.1 untaken r.2 r.3 r.4))).at.long in
    let was : length c.args.board.now.slots.items ≡ r.0.places = r.4.by_next.by_layer.at.long in
    omega (arith, c.requires.places)

pub copy_of-requires-clause-from : goal.copy_of-requires-clause-from
copy_of-requires-clause-from c =
    let r = c.requires.ready in
    let now : length c.combine.new.self.slots.items ≡ r.0.places = (went r.0 c.combine.new.enc c.combine.new.self.slots.items _ c.combine.result _ c.in_ok-combine.was (c.combine.ensures r.0 r.4.by_next.by_layer.at (joined_fits r.0 c.args.enc.now c.args.board.now.slots.items 0 3 r.1 untaken r.2 r.3 r.4))).at.long in
    let was : length c.args.board.now.slots.items ≡ r.0.places = r.4.by_next.by_layer.at.long in
    omega (arith, c.requires.places)

pub returns-in_err-copy_of : goal.returns-in_err-copy_of
returns-in_err-copy_of c start f g hits ready =
    let p = err_from_is_err_and c.from_residual-in_err-copy_of.result c.from_residual-in_err-copy_of.ensures.1 in
    let m = went start c.combine.new.enc c.combine.new.self.slots.items _ c.combine.result _ c.in_ok-combine.was (c.combine.ensures start ready.by_next.by_layer.at (joined_fits start c.args.enc.now c.args.board.now.slots.items 0 3 f untaken g hits ready)) in
    passed start c.copy_of.new.enc c.copy_of.new.self.slots.items _ _ c.copy_of.result c.from_residual-in_err-copy_of.result _ c.in_err-copy_of.was p (c.copy_of.ensures start m.at (grown_fits start c.args.enc.now c.combine.new.enc c.args.board.now.slots.items c.combine.new.self.slots.items 1 f g hits ready m))

pub returns : goal.returns
returns c start f g hits ready =
    let m = went start c.combine.new.enc c.combine.new.self.slots.items _ c.combine.result _ c.in_ok-combine.was (c.combine.ensures start ready.by_next.by_layer.at (joined_fits start c.args.enc.now c.args.board.now.slots.items 0 3 f untaken g hits ready)) in
    let w = went start c.copy_of.new.enc c.copy_of.new.self.slots.items _ c.copy_of.result _ c.in_ok-copy_of.was (c.copy_of.ensures start m.at (grown_fits start c.args.enc.now c.combine.new.enc c.args.board.now.slots.items c.combine.new.self.slots.items 1 f g hits ready m)) in
    noted_then start c.copy_of.new.enc c.copy_of.new.self.slots.items (c.note.new.steps.items ≡ c.args.steps.now.items ++ Grow c.args.a ∷ []) _ c.note.result c.note.ensures.never_full c.note.ensures.noted w.at
    (λ done. joined_new start c.args.enc.now c.combine.new.enc c.copy_of.new.enc c.args.board.now.slots.items c.combine.new.self.slots.items c.copy_of.new.self.slots.items f g hits c.args.a c.args.steps.now.items c.note.new.steps.items c.requires.places ready m w done)

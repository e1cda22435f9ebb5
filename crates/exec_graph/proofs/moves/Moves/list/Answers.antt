use Rattle.std.proofs.Common.{◌≡◌, ◌≤◌, refl, slice_get, Some, subst, sym}
use Rattle.task_core.specs.Tasks.{fluent_count}
use Rattle.exec_graph.specs.Moves.{configuration_of, found_by}
use Rattle.exec_graph.specs.declared.moves.Moves.{Moves}
use Rattle.exec_graph.proofs.Listing.{grown_one, moves_more, number_most, value_more}
use Rattle.exec_graph.proofs.moves.Moves.list.Goals as goal

pub mark-requires-clause-number : goal.mark-requires-clause-number
mark-requires-clause-number c =
    let n = fluent_count c.args.task.now in
    let before = c.args.self.now in
    let at = subst (λ ys. slice_get ys c.in_ok-number.number ≡ Some (configuration_of n c.args.place))
    (c.in_ok-number.ensures.added n c.requires.within c.requires.moves.within) (c.in_ok-number.ensures.number n c.requires.within c.requires.moves.within) in
    subst (λ m. c.in_ok-number.number ≤ m) (sym c.requires.moves.listed.count) (number_most (found_by n before) (configuration_of n c.args.place) c.in_ok-number.number at)

pub mark-requires-clause-visit : goal.mark-requires-clause-visit
mark-requires-clause-visit c = c.requires.moves.listed.begun

pub returns-clause-value : goal.returns-clause-value
returns-clause-value c =
    let n = fluent_count c.args.task.now in
    let before = c.args.self.now in
    let after : Moves = record {
      places = c.number_of.new.places;
      guesses = c.take.new.self;
      marks = c.mark.new.marks;
      visit = before.visit;
      numbers = c.push_if.new.numbers;
      refused = before.refused;
      lost = before.lost;
    } in
    let inside = c.requires.within in
    let moves = c.requires.moves in
    let counted = c.in_ok-number.ensures in
    value_more n before after c.args.place c.in_ok-number.number c.in_ok-fresh.fresh moves
    (counted.added n inside moves.within) (counted.within n inside moves.within) (counted.number n inside moves.within)
    c.in_ok-fresh.ensures.marked c.in_ok-fresh.ensures.fresh c.in_ok-push_if.ensures refl refl refl

pub returns-clause-moves : goal.returns-clause-moves
returns-clause-moves c =
    let n = fluent_count c.args.task.now in
    let before = c.args.self.now in
    let after : Moves = record {
      places = c.number_of.new.places;
      guesses = c.take.new.self;
      marks = c.mark.new.marks;
      visit = before.visit;
      numbers = c.push_if.new.numbers;
      refused = before.refused;
      lost = before.lost;
    } in
    let inside = c.requires.within in
    let moves = c.requires.moves in
    let counted = c.in_ok-number.ensures in
    moves_more n before after c.args.place c.in_ok-number.number c.in_ok-fresh.fresh moves
    (counted.added n inside moves.within) (counted.within n inside moves.within) (counted.number n inside moves.within)
    c.in_ok-fresh.ensures.marked c.in_ok-fresh.ensures.fresh c.in_ok-push_if.ensures refl

pub returns-clause-grown : goal.returns-clause-grown
returns-clause-grown c =
    let n = fluent_count c.args.task.now in
    let before = c.args.self.now in
    let after : Moves = record {
      places = c.number_of.new.places;
      guesses = c.take.new.self;
      marks = c.mark.new.marks;
      visit = before.visit;
      numbers = c.push_if.new.numbers;
      refused = before.refused;
      lost = before.lost;
    } in
    let inside = c.requires.within in
    let moves = c.requires.moves in
    let counted = c.in_ok-number.ensures in
    grown_one n before after c.args.place c.in_ok-number.number c.in_ok-fresh.fresh moves
    (counted.added n inside moves.within) (counted.within n inside moves.within) (counted.number n inside moves.within)
    c.in_ok-fresh.ensures.marked c.in_ok-fresh.ensures.fresh c.in_ok-push_if.ensures refl

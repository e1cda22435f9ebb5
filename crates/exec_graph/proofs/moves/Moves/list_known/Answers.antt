use Rattle.std.proofs.Common.{refl, sym, ◌∙◌, ap}
use Rattle.task_core.specs.Tasks.{fluent_count}
use Rattle.exec_graph.specs.Moves.{with_configuration, moves_value}
use Rattle.exec_graph.specs.declared.moves.Moves.{Moves}
use Rattle.exec_graph.proofs.KnownPlaces.{known_place}
use Rattle.exec_graph.proofs.Listing.{grown_one, moves_more, value_more}
use Rattle.exec_graph.proofs.moves.Moves.list_known.Goals as goal

pub mark-requires-clause-number : goal.mark-requires-clause-number
mark-requires-clause-number c = (known_place (fluent_count c.args.task.now) c.args.self.now c.args.number c.requires.number).marked c.args.self.now.marks.items c.requires.moves.listed.count

pub mark-requires-clause-visit : goal.mark-requires-clause-visit
mark-requires-clause-visit c = c.requires.moves.listed.begun

pub returns-clause-value : goal.returns-clause-value
returns-clause-value c =
    let n = fluent_count c.args.task.now in
    let before = c.args.self.now in
    let after : Moves = record {
      places = before.places;
      guesses = before.guesses;
      marks = c.mark.new.marks;
      visit = before.visit;
      numbers = c.push_if.new.numbers;
      refused = before.refused;
      lost = before.lost;
    } in
    let moves = c.requires.moves in
    let known = known_place n before c.args.number c.requires.number in
    value_more n before after known.place c.args.number c.in_ok-fresh.fresh moves known.same moves.within known.found
    c.in_ok-fresh.ensures.marked c.in_ok-fresh.ensures.fresh c.in_ok-push_if.ensures refl refl refl
    ∙ ap (with_configuration (moves_value n before)) (sym known.here)

pub returns-clause-moves : goal.returns-clause-moves
returns-clause-moves c =
    let n = fluent_count c.args.task.now in
    let before = c.args.self.now in
    let after : Moves = record {
      places = before.places;
      guesses = before.guesses;
      marks = c.mark.new.marks;
      visit = before.visit;
      numbers = c.push_if.new.numbers;
      refused = before.refused;
      lost = before.lost;
    } in
    let moves = c.requires.moves in
    let known = known_place n before c.args.number c.requires.number in
    moves_more n before after known.place c.args.number c.in_ok-fresh.fresh moves known.same moves.within known.found
    c.in_ok-fresh.ensures.marked c.in_ok-fresh.ensures.fresh c.in_ok-push_if.ensures refl

pub returns-clause-grown : goal.returns-clause-grown
returns-clause-grown c =
    let n = fluent_count c.args.task.now in
    let before = c.args.self.now in
    let after : Moves = record {
      places = before.places;
      guesses = before.guesses;
      marks = c.mark.new.marks;
      visit = before.visit;
      numbers = c.push_if.new.numbers;
      refused = before.refused;
      lost = before.lost;
    } in
    let moves = c.requires.moves in
    let known = known_place n before c.args.number c.requires.number in
    grown_one n before after known.place c.args.number c.in_ok-fresh.fresh moves known.same moves.within known.found
    c.in_ok-fresh.ensures.marked c.in_ok-fresh.ensures.fresh c.in_ok-push_if.ensures refl

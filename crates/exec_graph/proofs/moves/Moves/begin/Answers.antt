use Rattle.std.proofs.Common.{false, refl}
use Rattle.exec_graph.specs.declared.moves.Moves.{Moves}
use Rattle.exec_graph.proofs.Listing.{moves_begun}
use Rattle.exec_graph.proofs.moves.Moves.begin.Goals as goal

pub returns-clause-moves : goal.returns-clause-moves
returns-clause-moves c = λ n h.
    let before = c.args.self.now in
    let after : Moves = record {
      places = before.places;
      guesses = before.guesses;
      marks = before.marks;
      visit = c.args.visit;
      numbers = c.clear.new.self;
      refused = false;
      lost = false;
    } in
    moves_begun n c.args.visit before after h refl refl refl c.clear.ensures.items

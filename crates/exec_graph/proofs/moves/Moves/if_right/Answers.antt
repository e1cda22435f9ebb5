use Rattle.std.proofs.Common.{◌≡◌, sym, ◌∙◌}
use Rattle.std.specs.Cmp.Lexicographic.{bytes_decides}
use Rattle.exec_graph.proofs.moves.Moves.if_right.Goals as goal

pub returns-then-place-context : goal.returns-then-place-context
returns-then-place-context c =
    let place = c.in_ok-place.place.now in
    let same : c.bits.result.now ≡ c.args.words.now = (bytes_decides c.bits.result.now c.args.words.now).0 (sym c.eq.ensures ∙ c.if-eq.true) in
    record {
      place = place;
      is = sym c.in_ok-place.ensures.key;
      state = sym c.bits.ensures.value ∙ same;
      context = c.if-place-context.true;
    }

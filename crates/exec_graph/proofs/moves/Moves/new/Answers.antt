use Rattle.std.proofs.Common.{◌<◌, sym, ◌∙◌, subst}
use Rattle.exec_graph.proofs.Listing.{moves_fresh}
use Rattle.exec_graph.proofs.moves.Moves.new.Goals as goal

pub returns-clause-before : goal.returns-clause-before
returns-clause-before c = λ n within differ.
    moves_fresh n _ within differ (c.in_ok-marks.ensures.count ∙ c.len.ensures.len) (λ k l. c.in_ok-marks.ensures.each k (subst (λ m. k < m) (sym c.len.ensures.len) l))

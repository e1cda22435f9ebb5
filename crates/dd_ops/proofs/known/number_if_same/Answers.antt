-- The part is that of the list.
use Rattle.std.proofs.Common.{◌∙◌, sym}
use Rattle.std.proofs.lemmas.Slice.{between_is}
use Rattle.dd_ops.proofs.known.number_if_same.Goals as goal

pub returns-in-Some-clause-same : goal.returns-in-Some-clause-same
returns-in-Some-clause-same c =
    sym (between_is c.args.entries.now c.args.list.start c.args.list.end) ∙ sym c.in-Some.ensures.lookup.0.2 ∙ c.are_same.ensures c.if-are_same.true

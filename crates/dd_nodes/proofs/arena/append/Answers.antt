-- The cell that was pushed stands in no chain yet.
use Rattle.std.proofs.Common.{◌≡◌, length, sym, subst, arith, [], ◌∷◌}
use Rattle.dd_nodes.specs.Arena.{AreChained}
use Rattle.dd_nodes.proofs.Chains.{push_chained}
use Rattle.dd_nodes.proofs.arena.append.Goals as goal

pub link-requires-clause-chained : goal.link-requires-clause-chained
link-requires-clause-chained c =
    let cells = c.widen.new.cells.items in
    let buckets = c.widen.new.buckets.items in
    let count : c.len-place.result ≡ length cells = omega (arith, c.widen.new.cells.ok.0) in
    subst (λ l. AreChained (length buckets) l buckets c.len-place.result) (sym c.push_reserved.ensures.items)
    (push_chained (length buckets) cells (record { node = c.args.node; next = 0 } ∷ []) buckets c.len-place.result (omega arith)
    (subst (AreChained (length buckets) cells buckets) (sym count) c.widen.ensures.arena.chained))

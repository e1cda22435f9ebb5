-- At first the cache is empty, and no list has a number.
use Rattle.std.proofs.Common.{arith}
use Rattle.dd_ops.proofs.CachedLemmas.{empty_cache}
use Rattle.dd_ops.proofs.ops.Ops.new.Goals as goal

pub invariant_of-result : goal.invariant_of-result
invariant_of-result c = empty_cache c.in_ok-new.field-0 c.in_ok-new-3.field-0.places.items c.in_ok-new-3.field-0.entries.items c.in_ok-new-2.field-0.pairs 1
    c.in_ok-new.ensures.table c.in_ok-new-3.ensures.empty c.in_ok-new-2.ensures.empty (omega arith)

-- Nothing is left where everything is forgotten.
use Rattle.std.proofs.Common.{arith}
use Rattle.dd_ops.proofs.CachedLemmas.{none_known}
use Rattle.dd_ops.proofs.known.next_number.Goals as goal

pub returns-then-next-eq18446744073709551615-clause-known : goal.returns-then-next-eq18446744073709551615-clause-known
returns-then-next-eq18446744073709551615-clause-known c nodes known =
    none_known nodes c.forget-then-next-eq18446744073709551615.new.self.places.items c.forget-then-next-eq18446744073709551615.new.self.entries.items c.forget.new.self.pairs 1
    c.forget-then-next-eq18446744073709551615.ensures.empty c.forget.ensures.empty (omega arith)

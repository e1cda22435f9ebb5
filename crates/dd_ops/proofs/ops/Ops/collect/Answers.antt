-- What the cache had is forgotten, and so are the lists with numbers.
use Rattle.dd_ops.proofs.CachedLemmas.{empty_cache}
use Rattle.dd_ops.proofs.ops.Ops.collect.Goals as goal

pub invariant_of-self : goal.invariant_of-self
invariant_of-self c = empty_cache c.collect.new.self c.forget-2.new.self.places.items c.forget-2.new.self.entries.items c.forget.new.self.pairs c.self.inside.next
    c.collect.ensures.table c.forget-2.ensures.empty c.forget.ensures.empty c.self.invariant.known.some

-- What is kept beside the new pair was kept before.
use Rattle.std.proofs.Common.{⊎_elim, inl, inr, subst}
use Rattle.dd_cache.specs.CacheMap.{CacheMap, Has}
use Rattle.dd_cache.proofs.cache.Cache.keep.Goals as goal

pub returns-clause-others : goal.returns-clause-others
returns-clause-others c k v has = ⊎_elim
    (λ before. inl (c.widen.ensures.others k v (subst (λ (cache : CacheMap). Has cache k v) c.self.view_is before)))
    (λ new. inr new)
    (c.put.ensures.others k v has)

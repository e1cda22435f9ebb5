-- The pairs are those of the places.
use Rattle.std.proofs.Common.{subst, sym}
use Rattle.dd_cache.specs.CacheMap.{CacheMap, Has}
use Rattle.dd_cache.proofs.cache.Cache.cached.Goals as goal

pub returns-in-Some-clause-exact : goal.returns-in-Some-clause-exact
returns-in-Some-clause-exact c value has =
    c.in-Some.ensures.exact c.self.invariant.4 value (subst (λ (cache : CacheMap). Has cache c.args.key.now value) (sym c.self.view_is) has)

pub returns-in-None-clause-exact : goal.returns-in-None-clause-exact
returns-in-None-clause-exact c value has =
    c.in-None.ensures.exact c.self.invariant.4 value (subst (λ (cache : CacheMap). Has cache c.args.key.now value) (sym c.self.view_is) has)

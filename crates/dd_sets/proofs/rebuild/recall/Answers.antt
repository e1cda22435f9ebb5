-- The key is that of the number.
use Rattle.std.proofs.Common.{Contains, subst}
use Rattle.dd_cache.specs.declared.key.Key.{Key}
use Rattle.dd_sets.proofs.rebuild.recall.Goals as goal

pub returns-in-Some-clause-found : goal.returns-in-Some-clause-found
returns-in-Some-clause-found c from to order memo =
    memo c.args.number.0 c.in-Some.found (subst (λ (k : Key). Contains c.args.memo.now.pairs (k, c.in-Some.found)) c.key_of.ensures c.in-Some.ensures.found)

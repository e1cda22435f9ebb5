-- Each pair was there before, or is the new one.
use Rattle.std.proofs.Common.{refl, sym, subst}
use Rattle.dd_cache.specs.declared.key.Key.{Key}
use Rattle.dd_ops.specs.Cached.{AddsPair, IsFixed}
use Rattle.dd_ops.proofs.CachedLemmas.{cofactor_added, pair_of_kind}
use Rattle.dd_ops.proofs.memo.remember_cofactor.Goals as goal

pub returns-clause-kept : goal.returns-clause-kept
returns-clause-kept c nodes old new = cofactor_added c.args.cache.now.pairs c.remember.new.cache.pairs nodes c.args.f.0 c.args.fixed.var c.args.fixed.value c.args.r.0
    (subst (λ (k : Key). AddsPair k c.args.r.0 c.args.cache.now.pairs c.remember.new.cache.pairs) c.cofactor_key.ensures c.remember.ensures) old new

pub returns-clause-others : goal.returns-clause-others
returns-clause-others c = pair_of_kind c.args.cache.now.pairs c.remember.new.cache.pairs IsFixed c.cofactor_key.result c.args.r.0
    (subst IsFixed (sym c.cofactor_key.ensures) refl) c.remember.ensures

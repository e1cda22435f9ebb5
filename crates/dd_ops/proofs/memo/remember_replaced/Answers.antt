-- Each pair was there before, or is the new one.
use Rattle.std.proofs.Common.{refl, sym, subst}
use Rattle.dd_cache.specs.declared.key.Key.{Key}
use Rattle.dd_ops.specs.Cached.{AddsPair, IsOfCall}
use Rattle.dd_ops.proofs.CachedLemmas.{replaced_added, pair_of_kind}
use Rattle.dd_ops.proofs.memo.remember_replaced.Goals as goal

pub returns-clause-kept : goal.returns-clause-kept
returns-clause-kept c nodes map old new = replaced_added c.args.cache.now.pairs c.remember.new.cache.pairs nodes map c.args.call c.args.f.0 c.args.r.0
    (subst (λ (k : Key). AddsPair k c.args.r.0 c.args.cache.now.pairs c.remember.new.cache.pairs) c.subst_key.ensures c.remember.ensures) old new

pub returns-clause-others : goal.returns-clause-others
returns-clause-others c = pair_of_kind c.args.cache.now.pairs c.remember.new.cache.pairs (IsOfCall c.args.call) c.subst_key.result c.args.r.0
    (subst (IsOfCall c.args.call) (sym c.subst_key.ensures) (refl, refl)) c.remember.ensures

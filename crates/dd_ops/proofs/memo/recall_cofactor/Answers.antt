-- The key is that of the cofactor.
use Rattle.std.proofs.Common.{Contains, subst}
use Rattle.std.proofs.lemmas.Option.{IfSome_then}
use Rattle.dd_cache.specs.declared.key.Key.{Key}
use Rattle.dd_ops.proofs.memo.recall_cofactor.Goals as goal

pub returns-clause-answer : goal.returns-clause-answer
returns-clause-answer c = IfSome_then c.recall.result c.recall.ensures.found
    (λ r has nodes remembers. remembers c.args.f.0 c.args.fixed.var c.args.fixed.value r.0 (subst (λ (k : Key). Contains c.args.cache.now.pairs (k, r.0)) c.cofactor_key.ensures has))

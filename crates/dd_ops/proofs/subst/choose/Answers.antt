-- The answers that are remembered stay answers as the table grows.
use Rattle.std.proofs.Common.{refl}
use Rattle.dd_ops.specs.Cached.{IsQuestion}
use Rattle.dd_ops.proofs.CachedLemmas.{questions_extend, same_pairs}
use Rattle.dd_ops.proofs.subst.choose.Goals as goal

pub returns-in-Some-clause-questions : goal.returns-in-Some-clause-questions
returns-in-Some-clause-questions c =
    questions_extend c.args.dd.now c.join_replaced.new.dd c.join_replaced.ensures.kept c.requires.table c.args.cache.now.pairs c.requires.questions

pub returns-in-Some-clause-others : goal.returns-in-Some-clause-others
returns-in-Some-clause-others c = same_pairs c.args.cache.now.pairs c.args.cache.now.pairs IsQuestion refl

-- What is remembered stays right as the table grows, and so is what is added.
use Rattle.std.proofs.Common.{refl}
use Rattle.dd_ops.specs.Cached.{IsQuestion}
use Rattle.dd_ops.proofs.CachedLemmas.{questions_extend, same_pairs}
use Rattle.dd_ops.proofs.ite.join.Goals as goal

pub returns-in_err-r-clause-memo : goal.returns-in_err-r-clause-memo
returns-in_err-r-clause-memo c =
    questions_extend c.args.dd.now c.operand_or_node.new.dd c.operand_or_node.ensures.kept c.requires.table c.args.cache.now.pairs c.requires.memo

pub returns-in_err-r-clause-others : goal.returns-in_err-r-clause-others
returns-in_err-r-clause-others c = same_pairs c.args.cache.now.pairs c.args.cache.now.pairs IsQuestion refl

pub returns-clause-memo : goal.returns-clause-memo
returns-clause-memo c =
    c.remember_answer.ensures.kept c.operand_or_node.new.dd.nodes
    (questions_extend c.args.dd.now c.operand_or_node.new.dd c.operand_or_node.ensures.kept c.requires.table c.args.cache.now.pairs c.requires.memo)
    c.in_ok-r.ensures.answer

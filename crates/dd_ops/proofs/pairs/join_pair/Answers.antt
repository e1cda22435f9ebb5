-- What is remembered stays right as the table grows, and so is what is added.
use Rattle.std.proofs.Common.{refl, subst, sym}
use Rattle.dd_ops.specs.Answers.{IsAnswer}
use Rattle.dd_ops.specs.Cached.{IsQuestion}
use Rattle.dd_ops.specs.declared.question.Question.{Question}
use Rattle.dd_ops.proofs.CachedLemmas.{questions_extend, same_pairs}
use Rattle.dd_ops.proofs.pairs.join_pair.Goals as goal

pub returns-in_err-r-clause-memo : goal.returns-in_err-r-clause-memo
returns-in_err-r-clause-memo g c =
    questions_extend c.args.dd.now c.operand_or_node.new.dd c.operand_or_node.ensures.kept c.requires.table c.args.cache.now.pairs c.requires.memo

pub returns-in_err-r-clause-others : goal.returns-in_err-r-clause-others
returns-in_err-r-clause-others g c = same_pairs c.args.cache.now.pairs c.args.cache.now.pairs IsQuestion refl

pub returns-clause-memo : goal.returns-clause-memo
returns-clause-memo g c =
    c.remember_answer.ensures.kept c.operand_or_node.new.dd.nodes
    (questions_extend c.args.dd.now c.operand_or_node.new.dd c.operand_or_node.ensures.kept c.requires.table c.args.cache.now.pairs c.requires.memo)
    (subst (λ (q : Question). IsAnswer c.operand_or_node.new.dd.nodes q c.in_ok-r.r.0) (sym c.question_of.ensures) c.in_ok-r.ensures.answer)

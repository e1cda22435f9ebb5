-- The answer to the question whether the variable's replacement is true.
use Rattle.std.proofs.Common.{refl}
use Rattle.dd_ops.proofs.ValueLemmas.{ok_then}
use Rattle.dd_ops.specs.Cached.{IsQuestion}
use Rattle.dd_ops.proofs.CachedLemmas.{questions_extend, same_pairs}
use Rattle.dd_ops.proofs.SubstLemmas.{chosen_later}
use Rattle.dd_nodes.specs.declared.node.DdErr.TheVariants.{Full}
use Rattle.dd_ops.proofs.ErrorLemmas.{passed_on}
use Rattle.dd_ops.proofs.GrowthReplaced.{variable_adds, variable_full, replaced_answer_adds, replaced_answer_full}
use Rattle.dd_ops.proofs.subst.ask_image.Goals as goal

pub returns-in_err-test-clause-questions : goal.returns-in_err-test-clause-questions
returns-in_err-test-clause-questions c =
    questions_extend c.args.dd.now c.image.new.dd c.image.ensures.kept c.requires.table c.args.cache.now.pairs c.requires.questions

pub returns-in_err-test-clause-others : goal.returns-in_err-test-clause-others
returns-in_err-test-clause-others c = same_pairs c.args.cache.now.pairs c.args.cache.now.pairs IsQuestion refl

pub answer-requires-clause-memo : goal.answer-requires-clause-memo
answer-requires-clause-memo c =
    questions_extend c.args.dd.now c.image.new.dd c.image.ensures.kept c.requires.table c.args.cache.now.pairs c.requires.questions

pub returns-clause-answer : goal.returns-clause-answer
returns-clause-answer c = ok_then c.answer.result c.answer.ensures.answer
    (λ r answer. chosen_later c.args.dd.now c.image.new.dd c.answer.new.dd c.requires.table c.image.ensures.table c.answer.ensures.table c.image.ensures.kept c.answer.ensures.kept
    c.args.images.now.map.now c.requires.images.numbers c.args.own.number.0 c.args.own.node c.requires.node c.args.answers.lo c.args.answers.hi c.requires.lo c.requires.hi c.in_ok-test.test c.in_ok-test.ensures.number c.in_ok-test.ensures.value r.0 answer)

pub returns-in_err-test-clause-adds : goal.returns-in_err-test-clause-adds
returns-in_err-test-clause-adds c = variable_adds c.args.images.now.map.now c.args.dd.now c.requires.table c.requires.images.numbers c.args.own.number.0 c.args.own.node c.requires.node c.image.new.dd c.image.ensures.kept c.image.ensures.adds

pub returns-in_err-test-clause-full : goal.returns-in_err-test-clause-full
returns-in_err-test-clause-full c is = variable_full c.args.images.now.map.now c.args.dd.now c.requires.table c.requires.images.numbers c.args.own.number.0 c.args.own.node c.requires.node c.image.new.dd c.image.ensures.kept (c.in_err-test.ensures.full (passed_on c.from_residual.result c.in_err-test.field-0.0 Full c.from_residual.ensures.1 is))

pub returns-clause-adds : goal.returns-clause-adds
returns-clause-adds c = replaced_answer_adds c.args.images.now.map.now c.args.dd.now c.requires.table c.requires.images.numbers c.args.own.number.0 c.args.own.node c.requires.node c.image.new.dd c.image.ensures.kept c.in_ok-test.test c.args.answers.hi c.args.answers.lo c.in_ok-test.ensures.value c.requires.hi c.requires.lo
    c.image.ensures.adds c.answer.new.dd c.answer.ensures.adds

pub returns-clause-full : goal.returns-clause-full
returns-clause-full c is = replaced_answer_full c.args.images.now.map.now c.args.dd.now c.requires.table c.requires.images.numbers c.args.own.number.0 c.args.own.node c.requires.node c.image.new.dd c.image.ensures.kept c.in_ok-test.test c.args.answers.hi c.args.answers.lo c.in_ok-test.ensures.value c.requires.hi c.requires.lo
    c.answer.new.dd c.answer.ensures.kept.vars (c.answer.ensures.full is)

-- What is remembered stays right as the table grows, and so is what is added.
use Rattle.dd_ops.specs.Cached.{MayAdd}
use Rattle.dd_ops.proofs.CachedLemmas.{replaced_extend, replaced_beside_questions, questions_beside_call, adds_questions, adds_own, adds_more}
use Rattle.dd_ops.proofs.subst.remember_choice.Goals as goal

pub returns-in_err-r-clause-memo : goal.returns-in_err-r-clause-memo
returns-in_err-r-clause-memo c =
    replaced_beside_questions c.args.cache.now.pairs c.choose.new.cache.pairs c.choose.new.dd.nodes c.args.images.now.map.now c.args.images.now.number c.choose.ensures.others
    (replaced_extend c.args.dd.now c.choose.new.dd c.choose.ensures.kept c.requires.table c.args.images.now.map.now c.requires.images.numbers c.args.images.now.number c.args.cache.now.pairs c.requires.memo)

pub returns-in_err-r-clause-others : goal.returns-in_err-r-clause-others
returns-in_err-r-clause-others c = adds_questions c.args.cache.now.pairs c.choose.new.cache.pairs c.args.images.now.number c.choose.ensures.others

pub returns-clause-questions : goal.returns-clause-questions
returns-clause-questions c =
    questions_beside_call c.choose.new.cache.pairs c.remember_replaced.new.cache.pairs c.choose.new.dd.nodes c.args.images.now.number c.remember_replaced.ensures.others c.choose.ensures.questions

pub returns-clause-memo : goal.returns-clause-memo
returns-clause-memo c =
    c.remember_replaced.ensures.kept c.choose.new.dd.nodes c.args.images.now.map.now
    (replaced_beside_questions c.args.cache.now.pairs c.choose.new.cache.pairs c.choose.new.dd.nodes c.args.images.now.map.now c.args.images.now.number c.choose.ensures.others
    (replaced_extend c.args.dd.now c.choose.new.dd c.choose.ensures.kept c.requires.table c.args.images.now.map.now c.requires.images.numbers c.args.images.now.number c.args.cache.now.pairs c.requires.memo))
    c.in_ok-r.ensures.answer

pub returns-clause-others : goal.returns-clause-others
returns-clause-others c = adds_more (MayAdd c.args.images.now.number) c.args.cache.now.pairs c.choose.new.cache.pairs c.remember_replaced.new.cache.pairs
    (adds_questions c.args.cache.now.pairs c.choose.new.cache.pairs c.args.images.now.number c.choose.ensures.others)
    (adds_own c.choose.new.cache.pairs c.remember_replaced.new.cache.pairs c.args.images.now.number c.remember_replaced.ensures.others)

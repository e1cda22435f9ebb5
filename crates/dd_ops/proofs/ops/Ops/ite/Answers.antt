-- The answer to the question, in the table as it was.
use Rattle.std.proofs.Common.{List, [], ◌∷◌}
use Rattle.dd_nodes.specs.Subfunctions.{Function}
use Rattle.dd_nodes.specs.Table.{NodeTable}
use Rattle.dd_ops.specs.Answers.{asked_of}
use Rattle.dd_ops.specs.declared.question.Question.{Question}
use Rattle.dd_ops.proofs.CachedLemmas.{cache_after_answer}
use Rattle.dd_ops.proofs.GrowthOps.{grows}
use Rattle.dd_ops.proofs.ValueLemmas.{answers, ok_then, answer_function}
use Rattle.dd_ops.proofs.ops.Ops.ite.Goals as goal

pub returns-clause-answers : goal.returns-clause-answers
returns-clause-answers c =
    let q : Question = record { f = c.args.f; g = c.args.g; h = c.args.h } in
    answers c.self.inside.dd c.args.self.now c.answer.new.dd c.self.view_is c.self.invariant.table c.answer.ensures.kept c.answer.ensures.table (asked_of c.args.self.now.nodes q) c.answer.result
    (ok_then c.answer.result c.answer.ensures.answer
    (λ r answer. answer_function c.self.inside.dd c.args.self.now c.answer.new.dd c.self.view_is c.self.invariant.table c.answer.ensures.kept q
    (record { f = c.requires.f_in_table; g = c.requires.g_in_table; h = c.requires.h_in_table }) r.0 answer))
    (ok_then c.answer.result c.answer.ensures.answer (λ r answer. answer.number))
    c.answer.ensures.only_full

-- the one piece of the call, over any table
asked_pieces : Question → NodeTable → List Function
asked_pieces q t = asked_of t.nodes q ∷ []

pub returns-clause-grows : goal.returns-clause-grows
unfolding asked_pieces
returns-clause-grows c =
    let q : Question = record { f = c.args.f; g = c.args.g; h = c.args.h } in
    grows (asked_pieces q) c.self.inside.dd c.args.self.now c.answer.new.dd c.self.view_is c.self.invariant.table c.answer.ensures.adds c.answer.result c.answer.ensures.kept c.answer.ensures.full

pub invariant_of-self : goal.invariant_of-self
invariant_of-self c = cache_after_answer c.self.inside.dd c.answer.new.dd c.answer.ensures.kept c.self.invariant.table c.self.inside.known.places.items c.self.inside.known.entries.items c.self.inside.cache.pairs c.answer.new.cache.pairs c.self.inside.next c.self.invariant
    c.answer.ensures.table c.answer.ensures.memo c.answer.ensures.others

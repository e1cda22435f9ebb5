-- The answer of the pair, in the table as it was.
use Rattle.std.proofs.Common.{List, [], ◌∷◌, arith, subst, sym}
use Rattle.dd_nodes.specs.NodeList.{function}
use Rattle.dd_nodes.specs.Subfunctions.{Function}
use Rattle.dd_nodes.specs.Table.{NodeTable}
use Rattle.dd_ops.specs.Answers.{IsAsked, asked_of}
use Rattle.dd_ops.specs.Pairs.{join_of}
use Rattle.dd_ops.specs.declared.question.Question.{Question}
use Rattle.dd_ops.proofs.CachedLemmas.{cache_after_answer}
use Rattle.dd_ops.proofs.GrowthOps.{grows}
use Rattle.dd_ops.proofs.ValueLemmas.{answer_function, answers, answers_or, grows_or, ok_then}
use Rattle.dd_ops.proofs.ops.Ops.or.Goals as goal

pub answer_join-requires-clause-asked : goal.answer_join-requires-clause-asked
answer_join-requires-clause-asked c =
    let q : Question = join_of (record { f = c.args.f; g = c.args.g }) in
    let asked : IsAsked c.args.self.now.nodes q = record { f = c.requires.f_in_table; g = omega arith; h = c.requires.g_in_table } in
    subst (λ (t : NodeTable). IsAsked t.nodes q) (sym c.self.view_is) asked

pub returns-clause-answers : goal.returns-clause-answers
returns-clause-answers c =
    let q : Question = join_of (record { f = c.args.f; g = c.args.g }) in
    let asked : IsAsked c.args.self.now.nodes q = record { f = c.requires.f_in_table; g = omega arith; h = c.requires.g_in_table } in
    answers_or c.args.self.now c.answer_join.new.dd c.answer_join.result (function c.args.self.now.nodes c.args.f.0) (function c.args.self.now.nodes c.args.g.0)
    (answers c.self.inside.dd c.args.self.now c.answer_join.new.dd c.self.view_is c.self.invariant.table c.answer_join.ensures.kept c.answer_join.ensures.table (asked_of c.args.self.now.nodes q) c.answer_join.result
    (ok_then c.answer_join.result c.answer_join.ensures.answer
    (λ r answer. answer_function c.self.inside.dd c.args.self.now c.answer_join.new.dd c.self.view_is c.self.invariant.table c.answer_join.ensures.kept q asked r.0 answer))
    (ok_then c.answer_join.result c.answer_join.ensures.answer (λ r answer. answer.number))
    c.answer_join.ensures.only_full)

-- the one piece of the call, over any table
asked_pieces : Question → NodeTable → List Function
asked_pieces q t = asked_of t.nodes q ∷ []

pub returns-clause-grows : goal.returns-clause-grows
unfolding asked_pieces
returns-clause-grows c =
    let q : Question = join_of (record { f = c.args.f; g = c.args.g }) in
    grows_or c.args.self.now c.answer_join.new.dd c.answer_join.result (function c.args.self.now.nodes c.args.f.0) (function c.args.self.now.nodes c.args.g.0)
    (grows (asked_pieces q) c.self.inside.dd c.args.self.now c.answer_join.new.dd c.self.view_is c.self.invariant.table c.answer_join.ensures.adds c.answer_join.result c.answer_join.ensures.kept c.answer_join.ensures.full)

pub invariant_of-self : goal.invariant_of-self
invariant_of-self c = cache_after_answer c.self.inside.dd c.answer_join.new.dd c.answer_join.ensures.kept c.self.invariant.table c.self.inside.known.places.items c.self.inside.known.entries.items c.self.inside.cache.pairs c.answer_join.new.cache.pairs c.self.inside.next c.self.invariant
    c.answer_join.ensures.table c.answer_join.ensures.memo c.answer_join.ensures.others

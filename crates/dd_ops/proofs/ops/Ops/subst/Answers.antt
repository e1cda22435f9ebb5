-- The replaced function, in the table as it was.
use Rattle.std.proofs.Common.{All, ℕ, List, sym, subst}
use Rattle.dd_nodes.specs.declared.node.Ref.{Ref}
use Rattle.dd_nodes.specs.NodeList.{IsNumber, function}
use Rattle.dd_nodes.specs.Subfunctions.{Function}
use Rattle.dd_nodes.specs.Table.{NodeTable}
use Rattle.dd_ops.specs.Growth.{pieces_of_subst}
use Rattle.dd_ops.specs.Cached.{key_of_question}
use Rattle.dd_ops.specs.Operations.{subst_of}
use Rattle.dd_ops.proofs.CachedLemmas.{cache_after_subst, known_memo}
use Rattle.dd_ops.proofs.GrowthOps.{grows}
use Rattle.dd_ops.proofs.SubstLemmas.{listed_numbers}
use Rattle.dd_ops.proofs.ValueLemmas.{answers, ok_then, subst_function}
use Rattle.dd_ops.proofs.ops.Ops.subst.Goals as goal

pub returns-clause-answers : goal.returns-clause-answers
returns-clause-answers c =
    answers c.self.inside.dd c.args.self.now c.substitute.new.dd c.self.view_is c.self.invariant.table c.substitute.ensures.kept c.substitute.ensures.table
    (subst_of c.args.self.now.nodes c.args.map.now (function c.args.self.now.nodes c.args.f.0)) c.substitute.result
    (ok_then c.substitute.result c.substitute.ensures.answer
    (λ r answer. subst_function c.self.inside.dd c.args.self.now c.substitute.new.dd c.self.view_is c.self.invariant.table c.substitute.ensures.kept c.args.map.now (listed_numbers c.args.self.now.nodes c.args.map.now c.requires.map_in_table) c.args.f.0 c.requires.f_in_table r.0 answer))
    (ok_then c.substitute.result c.substitute.ensures.answer (λ r answer. answer.number))
    c.substitute.ensures.only_full

-- the pieces of the call, over any table
subst_pieces_of : List (ℕ × Ref) → ℕ → NodeTable → List Function
subst_pieces_of map f t = pieces_of_subst t.vars t.nodes map f

pub returns-clause-grows : goal.returns-clause-grows
unfolding subst_pieces_of
returns-clause-grows c =
    grows (subst_pieces_of c.args.map.now c.args.f.0) c.self.inside.dd c.args.self.now c.substitute.new.dd c.self.view_is c.self.invariant.table c.substitute.ensures.adds c.substitute.result c.substitute.ensures.kept c.substitute.ensures.full

pub substitute-requires-clause-map : goal.substitute-requires-clause-map
substitute-requires-clause-map c = subst (λ (t : NodeTable). All (λ (entry : ℕ × Ref). IsNumber t.nodes entry.1.0) c.args.map.now) (sym c.self.view_is) c.requires.map_in_table

pub substitute-requires-clause-memo : goal.substitute-requires-clause-memo
substitute-requires-clause-memo c = known_memo c.self.inside.dd.nodes c.number_of-number.new.lists.places.items c.number_of-number.new.lists.entries.items c.number_of-number.new.cache.pairs c.number_of-number.new.next c.args.map.now c.number_of-number.result
    (c.number_of-number.ensures.known c.self.inside.dd.nodes c.self.invariant.known
    (subst (λ (t : NodeTable). All (λ (entry : ℕ × Ref). IsNumber t.nodes entry.1.0) c.args.map.now) (sym c.self.view_is) c.requires.map_in_table))

pub invariant_of-self : goal.invariant_of-self
invariant_of-self c = cache_after_subst c.self.inside.dd c.substitute.new.dd c.substitute.ensures.kept c.self.invariant.table
    c.number_of-number.new.lists.places.items c.number_of-number.new.lists.entries.items c.self.inside.known.places.items c.self.inside.known.entries.items
    c.self.inside.cache.pairs c.number_of-number.new.cache.pairs c.substitute.new.cache.pairs c.self.inside.next c.number_of-number.new.next c.args.map.now c.number_of-number.result
    c.self.invariant c.substitute.ensures.table c.number_of-number.ensures.within
    (c.number_of-number.ensures.known c.self.inside.dd.nodes c.self.invariant.known
    (subst (λ (t : NodeTable). All (λ (entry : ℕ × Ref). IsNumber t.nodes entry.1.0) c.args.map.now) (sym c.self.view_is) c.requires.map_in_table))
    c.substitute.ensures.questions c.substitute.ensures.memo c.substitute.ensures.others

pub substitute-requires-clause-questions : goal.substitute-requires-clause-questions
substitute-requires-clause-questions c q r has = c.self.invariant.questions q r (c.number_of-number.ensures.within (key_of_question q) r has)

-- The cofactor, in the table as it was.
use Rattle.std.proofs.Common.{ℕ, Bool, List, [], ◌∷◌}
use Rattle.dd_nodes.specs.NodeList.{function}
use Rattle.dd_nodes.specs.Subfunctions.{Function}
use Rattle.dd_nodes.specs.Table.{NodeTable}
use Rattle.dd_ops.specs.Operations.{cofactor_of}
use Rattle.dd_ops.proofs.CachedLemmas.{cache_after_cofactor}
use Rattle.dd_ops.proofs.GrowthOps.{grows}
use Rattle.dd_ops.proofs.ValueLemmas.{answers, ok_then, cofactor_function}
use Rattle.dd_ops.proofs.ops.Ops.cofactor.Goals as goal

pub returns-clause-answers : goal.returns-clause-answers
returns-clause-answers c =
    answers c.self.inside.dd c.args.self.now c.fix.new.dd c.self.view_is c.self.invariant.table c.fix.ensures.kept c.fix.ensures.table (cofactor_of (function c.args.self.now.nodes c.args.f.0) c.args.v c.args.value) c.fix.result
    (ok_then c.fix.result c.fix.ensures.answer
    (λ r answer. cofactor_function c.self.inside.dd c.args.self.now c.fix.new.dd c.self.view_is c.self.invariant.table c.fix.ensures.kept c.args.f.0 c.args.v c.args.value c.requires.f_in_table r.0 answer))
    (ok_then c.fix.result c.fix.ensures.answer (λ r answer. answer.number))
    c.fix.ensures.only_full

-- the one piece of the call, over any table
fixed_pieces : ℕ → ℕ → Bool → NodeTable → List Function
fixed_pieces f v b t = cofactor_of (function t.nodes f) v b ∷ []

pub returns-clause-grows : goal.returns-clause-grows
unfolding fixed_pieces
returns-clause-grows c =
    grows (fixed_pieces c.args.f.0 c.args.v c.args.value) c.self.inside.dd c.args.self.now c.fix.new.dd c.self.view_is c.self.invariant.table c.fix.ensures.adds c.fix.result c.fix.ensures.kept c.fix.ensures.full

pub invariant_of-self : goal.invariant_of-self
invariant_of-self c = cache_after_cofactor c.self.inside.dd c.fix.new.dd c.fix.ensures.kept c.self.invariant.table c.self.inside.known.places.items c.self.inside.known.entries.items c.self.inside.cache.pairs c.fix.new.cache.pairs c.self.inside.next c.self.invariant
    c.fix.ensures.table c.fix.ensures.memo c.fix.ensures.others

-- The node that `mk` answers is the cofactor, and the memo's numbers stay cofactors.
use Rattle.std.proofs.Common.{refl, sym, subst}
use Rattle.dd_nodes.specs.Table.{NodeTable}
use Rattle.dd_ops.specs.Cached.{RemembersCofactors, IsFixed}
use Rattle.dd_ops.proofs.CachedLemmas.{cofactors_extend, same_pairs}
use Rattle.dd_ops.proofs.CofactorLemmas.{lo_stays_below, hi_stays_below, cofactor_joined}
use Rattle.dd_nodes.specs.declared.node.DdErr.TheVariants.{Full}
use Rattle.dd_ops.proofs.ErrorLemmas.{passed_on}
use Rattle.dd_ops.proofs.GrowthFixed.{fixed_join_adds, fixed_join_full}
use Rattle.dd_ops.proofs.cofactor.join_fixed.Goals as goal

pub make-requires-clause-lo_below : goal.make-requires-clause-lo_below
make-requires-clause-lo_below c = lo_stays_below c.args.dd.now.vars c.args.dd.now.nodes c.requires.table.reduced c.args.own.number.0 c.args.own.node c.requires.node c.args.fixed.var c.args.fixed.value c.requires.before c.args.answers.lo.0 c.args.answers.hi.0 c.requires.lo c.requires.hi

pub make-requires-clause-hi_below : goal.make-requires-clause-hi_below
make-requires-clause-hi_below c = hi_stays_below c.args.dd.now.vars c.args.dd.now.nodes c.requires.table.reduced c.args.own.number.0 c.args.own.node c.requires.node c.args.fixed.var c.args.fixed.value c.requires.before c.args.answers.lo.0 c.args.answers.hi.0 c.requires.lo c.requires.hi

pub returns-in_err-r-clause-memo : goal.returns-in_err-r-clause-memo
returns-in_err-r-clause-memo c = subst (λ (t : NodeTable). RemembersCofactors t.nodes c.args.cache.now.pairs) (sym c.in_err-r.ensures.refused) c.requires.memo

pub returns-in_err-r-clause-others : goal.returns-in_err-r-clause-others
returns-in_err-r-clause-others c = same_pairs c.args.cache.now.pairs c.args.cache.now.pairs IsFixed refl

pub returns-clause-answer : goal.returns-clause-answer
returns-clause-answer c =
    cofactor_joined c.args.dd.now.vars c.args.dd.now.nodes c.requires.table.reduced c.args.own.number.0 c.args.own.node c.requires.node c.args.fixed.var c.args.fixed.value c.requires.before c.args.answers.lo.0 c.args.answers.hi.0 c.requires.lo c.requires.hi
    c.make.new.dd.nodes c.in_ok-r.r.0 c.make.ensures.extends c.in_ok-r.ensures.function c.in_ok-r.ensures.in_table c.in_ok-r.ensures.from_var

pub returns-clause-memo : goal.returns-clause-memo
returns-clause-memo c =
    c.remember_cofactor.ensures.kept c.make.new.dd.nodes
    (cofactors_extend c.args.dd.now c.make.new.dd (record { vars = c.make.ensures.vars; limit = c.make.ensures.limit; nodes = c.make.ensures.extends }) c.requires.table c.args.cache.now.pairs c.requires.memo)
    (returns-clause-answer c)

pub returns-in_err-r-clause-full : goal.returns-in_err-r-clause-full
returns-in_err-r-clause-full c is =
    let facts = c.in_err-r.ensures.full (passed_on c.from_residual.result c.in_err-r.field-0.0 Full c.from_residual.ensures.1 is) in
    fixed_join_full c.args.dd.now c.requires.table c.args.own.number.0 c.args.own.node c.requires.node c.args.fixed.var c.args.fixed.value c.requires.before c.args.answers.lo c.args.answers.hi c.requires.lo c.requires.hi c.make.new.dd
    facts.0 facts.1 facts.2 c.in_err-r.ensures.refused

pub returns-clause-adds : goal.returns-clause-adds
returns-clause-adds c =
    fixed_join_adds c.args.dd.now c.requires.table c.args.own.number.0 c.args.own.node c.requires.node c.args.fixed.var c.args.fixed.value c.requires.before c.args.answers.lo c.args.answers.hi c.requires.lo c.requires.hi c.make.new.dd
    c.make.ensures.table c.make.ensures.vars c.make.result c.make.ensures.cases c.make.ensures.function c.make.ensures.refused

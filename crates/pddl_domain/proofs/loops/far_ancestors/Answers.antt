use Rattle.std.proofs.Common.{map, get_or, ◌∙◌, ap, arith}
use Rattle.pddl_domain.proofs.AncestorLemmas.{one_step, ancestors_below, twice_as_far}
use Rattle.pddl_domain.proofs.loops.far_ancestors.Goals as goal

pub loop-steps-init : goal.loop-steps-init
loop-steps-init c = record { some = omega arith; far = c.in_ok-far.ensures.items ∙ one_step c.args.parents.now }

pub twice-requires : goal.twice-requires
twice-requires c = rw (c.deref.ensures.value, c.loop-steps.invariant.far) (ancestors_below c.args.parents.now c.loop-steps.steps c.requires)

pub loop-steps-preserved : goal.loop-steps-preserved
loop-steps-preserved c = record {
  some = omega (arith, c.loop-steps.invariant.some);
  far =
      c.in_ok-far-2.ensures
      ∙ (ap (λ xs. map (λ t. get_or xs t 0) xs) (c.deref.ensures.value ∙ c.loop-steps.invariant.far)
      ∙ twice_as_far c.args.parents.now c.loop-steps.steps c.requires);
}

-- The slots take the new numbers of their own.
use Rattle.std.proofs.Common.{ℕ, sym, ap, subst, ◌∙◌}
use Rattle.dd_sets.specs.Orders.{AreOf}
use Rattle.dd_sets.specs.Stores.{renumbered}
use Rattle.dd_sets.proofs.CollectLemmas.{collected_sets, roots_ready}
use Rattle.dd_sets.proofs.sets.Sets.collect.Goals as goal

pub collect-requires : goal.collect-requires
collect-requires c = record { roots = roots_ready {t = c.self.inside.ops} {l = c.self.inside.slots.slots} c.self.invariant.0 c.in_ok-numbers.numbers.items c.in_ok-numbers.ensures }

pub invariant_of-self : goal.invariant_of-self
invariant_of-self c = (
  (collected_sets c.self.view_is c.self.invariant.0 c.in_ok-numbers.numbers.items c.collect.new.roots.items c.in_ok-numbers.ensures c.collect.ensures.vars c.collect.ensures.limit c.collect.ensures.table c.collect.ensures.roots
      (c.renumber.ensures ∙ ap (renumbered c.self.inside.slots.slots) c.deref-2.ensures.value)).sound,
  subst (λ (n : ℕ). AreOf n c.self.inside.order.fluents c.self.inside.order.variables) (sym c.collect.ensures.vars) c.self.invariant.1,
)

pub returns-clause-collected : goal.returns-clause-collected
returns-clause-collected c =
    collected_sets c.self.view_is c.self.invariant.0 c.in_ok-numbers.numbers.items c.collect.new.roots.items c.in_ok-numbers.ensures c.collect.ensures.vars c.collect.ensures.limit c.collect.ensures.table c.collect.ensures.roots
    (c.renumber.ensures ∙ ap (renumbered c.self.inside.slots.slots) c.deref-2.ensures.value)

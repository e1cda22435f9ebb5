-- Two lists that undo each other are those of the places, and where the places have an order, they do.
use Rattle.std.proofs.Common.{◌≡◌, List, ℕ, sym, ap, subst, length, ◌<◌, ◌∙◌, arith}
use Rattle.dd_sets.specs.Orders.{HasOrder, at_place, Undoes}
use Rattle.dd_sets.proofs.OrderedLemmas.{are_places, order_undoes}
use Rattle.dd_sets.proofs.order.Order.of_places.Goals as goal

pub returns-then-undo_each_other-clause-places : goal.returns-then-undo_each_other-clause-places
returns-then-undo_each_other-clause-places c =
    let both = c.undo_each_other.ensures.0 c.if-undo_each_other.true in
    are_places c.args.places.now c.in_ok-variables.variables.items c.in_ok-fluents.fluents.items c.in_ok-variables.ensures (omega arith)
    (c.in_ok-fluents.ensures.count ∙ ap length c.deref.ensures.value)
    (subst (λ (back : List ℕ). Undoes back c.in_ok-variables.variables.items) c.deref-2.ensures.value
    (subst (λ (there : List ℕ). Undoes c.deref-2.result.now there) c.deref-3.ensures.value both.0))

pub returns-else-undo_each_other-clause-none : goal.returns-else-undo_each_other-clause-none
returns-else-undo_each_other-clause-none c order =
    let both = order_undoes c.args.places.now c.in_ok-variables.variables.items c.in_ok-fluents.fluents.items c.in_ok-variables.ensures
    (c.in_ok-fluents.ensures.count ∙ ap length c.deref.ensures.value)
    (subst (λ (numbers : List ℕ). HasOrder numbers → (k : ℕ) → k < length numbers → at_place c.in_ok-fluents.fluents.items (at_place numbers k) ≡ k) c.deref.ensures.value c.in_ok-fluents.ensures.undone)
    order in
    let yes = c.undo_each_other.ensures.1
    (subst (λ (back : List ℕ). Undoes back c.deref-3.result.now × Undoes c.deref-3.result.now back) (sym c.deref-2.ensures.value)
    (subst (λ (there : List ℕ). Undoes c.in_ok-fluents.fluents.items there × Undoes there c.in_ok-fluents.fluents.items) (sym c.deref-3.ensures.value) both)) in
    let no = c.if-undo_each_other.false in
    cc (yes, no)

-- The numbers are those that callers see.
use Rattle.std.proofs.Common.{◌≡◌, ◌∙◌, List, ℕ, ap, subst, IsTrue, ◌↔◌}
use Rattle.dd_sets.specs.Orders.{IsOwnOrder, Ordered}
use Rattle.dd_sets.proofs.order.Order.is_of_fluents.Goals as goal

pub returns : goal.returns
returns c = subst (λ (order : List ℕ). IsTrue c.leaves_places.result ↔ IsOwnOrder order)
    (c.deref.ensures.value ∙ ap (λ (order : Ordered). order.fluents) c.self.view_is) c.leaves_places.ensures

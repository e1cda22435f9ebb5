use Rattle.std.proofs.Common.{refl, sym, subst}
use Rattle.std.specs.Prelude.{IsSome}
use Rattle.trace.proofs.stops.goal_parts.Goals as goal

pub false_goal-requires : goal.false_goal-requires
false_goal-requires c = record { goal = subst (λ o. IsSome o) (sym c.in-Some.is) refl }

use Rattle.std.proofs.Common.{◌≡◌, ◌++◌, drop, map}
use Rattle.ctl_syntax.specs.Conditions.{CondTree, condition_value}
use Rattle.ctl_syntax.specs.Goals.{ef, map_plain, plain}
use Rattle.ctl_syntax.specs.Values.{ctl_value}
use Rattle.fair_theory.proofs.goals.visit_goals.Given as goal

abbrev pub invariant-loop-visit : goal.invariant-loop-visit
invariant-loop-visit l =
    map (map_plain condition_value) (map ctl_value l.goals.items) ++ map (λ (visit : CondTree). ef (plain visit)) (map condition_value (drop l.visit-index l.visits))
    ≡ map (λ (visit : CondTree). ef (plain visit)) (map condition_value l.visits)

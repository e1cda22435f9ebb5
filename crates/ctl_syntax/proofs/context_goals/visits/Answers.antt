use Rattle.std.proofs.Common.{◌≡◌, List, Some, true, false, map, sym, ◌∙◌, ap, rules}
use Rattle.std.specs.Option.{option_map}
use Rattle.ctl_syntax.specs.Conditions.{CondTree, condition_value}
use Rattle.ctl_syntax.specs.GoalSteps.{is_visit_row}
use Rattle.ctl_syntax.specs.Values.{ctl_value}
use Rattle.ctl_syntax.proofs.GoalForms.{no_visits, visits_row}
use Rattle.ctl_syntax.proofs.context_goals.visits.Goals as goal

pub returns-then-not-is_patrol : goal.returns-then-not-is_patrol
returns-then-not-is_patrol c =
    let none : is_visit_row (map ctl_value c.args.parts.now) ≡ false = search rules in
    ap (option_map (map condition_value)) (sym (no_visits (map ctl_value c.args.parts.now) none))

pub returns : goal.returns
returns c =
    let some : is_visit_row (map ctl_value c.args.parts.now) ≡ true = search rules in
    ap (λ (conds : List CondTree). Some conds) c.in_ok-visit_copies.ensures
    ∙ ap (option_map (map condition_value)) (sym (visits_row (map ctl_value c.args.parts.now) some))

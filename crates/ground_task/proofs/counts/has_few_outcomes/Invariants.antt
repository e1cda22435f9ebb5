use Rattle.std.proofs.Common.{◌≡◌, drop, length}
use Rattle.std.specs.Prelude.{nat_le}
use Rattle.std.specs.List.{list_all}
use Rattle.ground_instances.specs.Kept.{kept_by}
use Rattle.ground_instances.specs.Tables.{setting_in}
use Rattle.pddl_ast.specs.Values.{domain_value}
use Rattle.pddl_system.specs.Outcomes.{outcomes_of}
use Rattle.pddl_system.specs.Sizes.{most_outcomes_of_one}
use Rattle.ground_task.proofs.counts.has_few_outcomes.Given as goal

abbrev pub invariant-loop-instance : goal.invariant-loop-instance
invariant-loop-instance l =
    list_all (λ i. nat_le (length (outcomes_of (setting_in l.setting) i)) most_outcomes_of_one) (drop l.instance-index (kept_by (setting_in l.setting) (domain_value l.domain)))
    ≡ list_all (λ i. nat_le (length (outcomes_of (setting_in l.setting) i)) most_outcomes_of_one) (kept_by (setting_in l.setting) (domain_value l.domain))

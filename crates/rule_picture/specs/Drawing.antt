-- Private: what is drawn.
use Rattle.std.specs.List.{All}
use Rattle.plan_rules.specs.Plans.{IsCubeOf}
use Rattle.rule_picture.specs.declared.rules.Seen.{Seen}
use Rattle.rule_picture.specs.declared.text.Drawn.{Drawn}
use Rattle.task_core.specs.Tasks.{fluent_count}

-- the rules ask for fluents of the task alone
abbrev pub AreOverTask : Drawn → Type 0
AreOverTask drawn = All (λ (rule : Seen). IsCubeOf (fluent_count drawn.task.now) rule.cube.now) drawn.rules.now

use Rattle.plan_witness.proofs.Counting.{some_none}
use Rattle.plan_witness.proofs.steps.counting_number.Goals as goal

pub unwrap-requires : goal.unwrap-requires
unwrap-requires c = some_none c.counting_rule.result _ c.requires.some c.counting_rule.ensures.none

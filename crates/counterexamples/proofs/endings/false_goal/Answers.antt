use Rattle.std.proofs.Common.{sym, ap, ◌∙◌}
use Rattle.std.specs.Option.{option_copied}
use Rattle.plan_check.proofs.GraphVerdicts.{goal_small}
use Rattle.counterexamples.proofs.FalseParts.{found_goal}
use Rattle.counterexamples.proofs.endings.false_goal.Goals as goal

pub false_parts-requires : goal.false_parts-requires
false_parts-requires c = goal_small c.args.task.now c.unwrap-goal.result.now (sym c.as_ref.ensures.value ∙ ap option_copied c.unwrap-goal.ensures)

pub returns : goal.returns
returns c =
    found_goal c.false_parts.result c.args.task.now c.unwrap-goal.result.now c.args.state.now (sym c.as_ref.ensures.value ∙ ap option_copied c.unwrap-goal.ensures)
    c.false_parts.ensures.each c.false_parts.ensures.some

use Rattle.std.proofs.Common.{rules}
use Rattle.check_command.proofs.ReachedStates.{reaches_some}
use Rattle.plan_rules.specs.Rules.{plain_of}
use Rattle.task_core.specs.Tasks.{system_of}
use Rattle.control_command.proofs.judged.is_good_along.Goals as goal

pub returns-in_ok-serve-in-Ok-clause-yes : goal.returns-in_ok-serve-in-Ok-clause-yes
returns-in_ok-serve-in-Ok-clause-yes c is = record {
  begins = reaches_some (system_of c.args.grounded.now.task) (plain_of c.args.plan.now) _ c.in-Ok.ensures.graph (search rules);
  good = c.in_ok-is_yes-in-Ok.ensures (plain_of c.args.plan.now) c.requires.of_kind c.in-Ok.ensures.graph c.if-not-branch.false;
  one_move = c.in_ok-serve-in-Ok.ensures.one_move is;
  no_dead_rule = c.in_ok-serve-in-Ok.ensures.no_dead_rule is;
}

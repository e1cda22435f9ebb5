use Rattle.std.proofs.Common.{rules}
use Rattle.control_command.proofs.followed.Followed.begin.Goals as goal

pub loop-state-preserved : goal.loop-state-preserved
loop-state-preserved c = record {
  within = λ n all. c.in_ok-add.ensures n (let here = all c.loop-state.state-index c.state-item.result in search (rules, here)) (c.loop-state.invariant.within n all);
}

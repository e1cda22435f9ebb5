use Rattle.std.proofs.Common.{map, rules}
use Rattle.dead_ends.specs.Strays.{strays_from}
use Rattle.dead_ends.specs.Values.{stray_value}
use Rattle.plan_witness.specs.Values.{steps_value}
use Rattle.std.specs.Prelude.{◌++◌}
use Rattle.task_core.specs.States.{vector}
use Rattle.task_core.specs.Tasks.{fluent_count, system_of}
use Rattle.dead_ends.proofs.Straying.{steps_more}
use Rattle.dead_ends.proofs.strays.push_all.Goals as goal

pub loop-number-preserved : goal.loop-number-preserved
loop-number-preserved c =
    let n = fluent_count c.args.task.now in
    let states = map (vector n) c.args.leaving.now.states.now in
    let back = c.args.leaving.now.back in
    record {
      so_far = steps_more (system_of c.args.task.now) states back n c.loop-number.number (vector n c.loop-number.before) (map (stray_value n) c.loop-number.strays.items) (map (stray_value n) c.push_strays.new.strays.items)
          (map (stray_value n) c.args.strays.now.items ++ strays_from (system_of c.args.task.now) states back 0 (vector n c.args.start.now) (steps_value n c.args.steps.now))
          c.args.steps.now c.index-steps-number.result c.loop-number-test.true c.index-steps-number.is c.in_ok-push_strays.ensures.strays c.loop-number.invariant.so_far;
      before = search (rules);
      within = λ h. c.in_ok-push_strays.ensures.within (c.loop-number.invariant.within h);
    }

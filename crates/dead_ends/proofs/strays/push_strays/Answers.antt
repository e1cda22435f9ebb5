use Rattle.std.proofs.Common.{map}
use Rattle.dead_ends.specs.Strays.{stray_by}
use Rattle.plan_witness.specs.Values.{step_value}
use Rattle.task_core.specs.States.{vector}
use Rattle.task_core.specs.Tasks.{fluent_count, system_of}
use Rattle.dead_ends.proofs.Straying.{found_more, within_more}
use Rattle.dead_ends.proofs.strays.push_strays.Goals as goal

pub loop-outcome-preserved : goal.loop-outcome-preserved
loop-outcome-preserved c =
    let n = fluent_count c.args.task.now in
    let taken = c.args.taken.now in
    let f = stray_by (system_of c.args.task.now) (map (vector n) c.args.leaving.now.states.now) c.args.leaving.now.back taken.number (vector n taken.before.now) (step_value n taken.step.now) in
    record {
      so_far = found_more n f c.loop-outcome.outcome c.args.strays.now.items c.loop-outcome.strays.items c.push_found.new.strays.items c.stray_by.result
          c.loop-outcome.invariant.so_far c.in_ok-push_found.ensures c.stray_by.ensures.value;
      within = λ h. within_more n c.loop-outcome.strays.items c.push_found.new.strays.items c.stray_by.result c.in_ok-push_found.ensures c.stray_by.ensures.within (c.loop-outcome.invariant.within h);
    }

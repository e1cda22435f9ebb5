use Rattle.std.proofs.Common.{◌∙◌, sym}
use Rattle.relaxed_reach.specs.Literals.{has}
use Rattle.relaxed_reach.specs.Relaxed.{task_gives}
use Rattle.relaxed_reach.proofs.Lacks.{given_is_in, grown_has, grown_is_in, lacking_falls, lesser, same_where_no_fewer}
use Rattle.relaxed_reach.proofs.Soundness.{task_gives_grows}
use Rattle.relaxed_reach.proofs.reaching.reached_literals.Goals as goal

pub loop-missing-init : goal.loop-missing-init
loop-missing-init c =
    let begins = c.start_literals-literals.ensures in
    record {
      begun = λ f value h. begins f value ∙ h;
      least = λ other relaxed f value h. relaxed.starts f value (sym (begins f value) ∙ h);
      counted = c.missing_count-missing.ensures;
    }

pub loop-missing-preserved : goal.loop-missing-preserved
loop-missing-preserved c =
    let task = c.args.task.now in
    let known = has c.loop-missing.literals in
    let grown = has c.with_task-grown.result in
    let inv = c.loop-missing.invariant in
    record {
      begun = λ f value h. grown_has known (task_gives task known) grown c.with_task-grown.ensures f value (inv.begun f value h);
      least = λ other relaxed. grown_is_in known (task_gives task known) grown other c.with_task-grown.ensures (inv.least other relaxed)
          (λ f value h. relaxed.closed f value (task_gives_grows task known other (inv.least other relaxed) f value h));
      counted = c.missing_count-left.ensures;
    }

pub loop-missing-smaller : goal.loop-missing-smaller
loop-missing-smaller c =
    let task = c.args.task.now in
    let known = has c.loop-missing.literals in
    let grown = has c.with_task-grown.result in
    lesser _ _ _ _ c.missing_count-left.ensures c.loop-missing.invariant.counted (lacking_falls c.fluent_limit-limit.result known grown (grown_has known (task_gives task known) grown c.with_task-grown.ensures)) c.if-left-missing.false

pub returns-then-left-missing : goal.returns-then-left-missing
returns-then-left-missing c =
    let task = c.args.task.now in
    let known = c.loop-missing.literals in
    let grown = c.with_task-grown.result in
    let inv = c.loop-missing.invariant in
    record {
      relaxed = record {
        starts = inv.begun;
        closed = λ f value h.
            same_where_no_fewer c.fluent_limit-limit.result c.fluent_limit-limit.ensures known grown (grown_has (has known) (task_gives task (has known)) (has grown) c.with_task-grown.ensures)
            (sym c.missing_count-left.ensures ∙ c.if-left-missing.true ∙ inv.counted) f value
            (given_is_in (has known) (task_gives task (has known)) (has grown) c.with_task-grown.ensures f value h);
      };
      least = inv.least;
    }

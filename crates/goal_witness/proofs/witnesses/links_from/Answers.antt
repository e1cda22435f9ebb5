use Rattle.std.proofs.Common.{sym, subst}
use Rattle.ctl_syntax.specs.Values.{ctl_value}
use Rattle.task_core.specs.Tasks.{fluent_count}
use Rattle.goal_witness.specs.Failing.{FailsFrom, IsFailing}
use Rattle.goal_witness.proofs.Joined.{joined_end, joined_more}
use Rattle.goal_witness.proofs.witnesses.links_from.Goals as goal

pub inside-preserved : goal.inside-preserved
inside-preserved g c =
    let scene = c.args.scene.now in
    let n = fluent_count scene.task.now in
    let leads = subst (IsFailing scene (ctl_value c.inside.part.now) c.inside.at) c.in-Leads.is c.in_ok-how.ensures in
    record {
      fails = leads.inside;
      joins = λ more fails.
          subst (FailsFrom scene (ctl_value c.args.goal.now) c.args.number) (sym (joined_more n c.inside.links.items _ _ more c.in_ok-push-in-Leads.ensures.items))
          (c.inside.invariant.joins _ (leads.joins more fails));
    }

pub inside-smaller : goal.inside-smaller
inside-smaller g c =
    (subst (IsFailing c.args.scene.now (ctl_value c.inside.part.now) c.inside.at) c.in-Leads.is c.in_ok-how.ensures).smaller

pub returns-in-Ends : goal.returns-in-Ends
returns-in-Ends g c =
    let scene = c.args.scene.now in
    let n = fluent_count scene.task.now in
    let ends = subst (IsFailing scene (ctl_value c.inside.part.now) c.inside.at) c.in-Ends.is c.in_ok-how.ensures in
    subst (FailsFrom scene (ctl_value c.args.goal.now) c.args.number) (sym (joined_end n c.inside.links.items _ _ c.in_ok-push-in-Ends.ensures.items))
    (c.inside.invariant.joins _ ends)

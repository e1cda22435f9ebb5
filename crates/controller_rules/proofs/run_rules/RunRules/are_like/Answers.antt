use Rattle.std.proofs.Common.{arith}
use Rattle.task_core.specs.Tasks.{fluent_count}
use Rattle.controller_rules.proofs.Counting.{like_all, like_more}
use Rattle.controller_rules.proofs.run_rules.RunRules.are_like.Goals as goal

pub loop-place-preserved : goal.loop-place-preserved
loop-place-preserved c =
    let first = c.in-Some.ensures in
    record {
      past = omega (arith, c.loop-place.invariant.past, first.0);
      like = like_more (fluent_count c.args.task.now) c.args.self.now c.args.state.now c.args.context c.args.first
          c.loop-place.place c.in-Some.number c.index.result.now c.index-in-Some.result.now c.loop-place.invariant.past c.requires.first
          c.index.ensures c.index-in-Some.ensures first (c.is_same_move.ensures c.if-not-is_same_move.false) c.loop-place.invariant.like;
    }

pub returns-in-None : goal.returns-in-None
returns-in-None c = λ _ k d later inside now_counts.
    like_all (fluent_count c.args.task.now) c.args.self.now c.args.state.now c.args.context c.args.first
    c.loop-place.place c.loop-place.invariant.past c.in-None.ensures c.loop-place.invariant.like k d later inside inside now_counts

use Rattle.task_core.specs.Tasks.{fluent_count}
use Rattle.controller_rules.proofs.Counting.{no_move, one_move, some_first}
use Rattle.controller_rules.proofs.run_rules.RunRules.agree_in.Goals as goal

pub returns-in-Some-clause-one_move : goal.returns-in-Some-clause-one_move
returns-in-Some-clause-one_move c = λ alike.
    one_move (fluent_count c.args.task.now) c.args.self.now c.args.state.now c.args.context c.in-Some.first
    (some_first c.args.self.now c.in-Some.first c.in-Some.ensures.1) c.in-Some.ensures
    (λ k d later less inside now_counts. c.are_like.ensures alike k d later inside now_counts)

pub returns-in-None-clause-one_move : goal.returns-in-None-clause-one_move
returns-in-None-clause-one_move c = λ _. no_move (fluent_count c.args.task.now) c.args.self.now c.args.state.now c.args.context c.in-None.ensures

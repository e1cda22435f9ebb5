use Rattle.std.proofs.Common.{sym, ap, ◌∙◌}
use Rattle.std.proofs.lemmas.Bool.{false≢true}
use Rattle.plan_rules.specs.Rules.{plain_of}
use Rattle.task_core.specs.Tasks.{fluent_count, system_of}
use Rattle.goal_witness.proofs.Missing.{followers_of, not_stuck, not_unexecutable}
use Rattle.goal_witness.proofs.witnesses.goes_on.Goals as goal

pub returns-in-Table-clause-followers : goal.returns-in-Table-clause-followers
returns-in-Table-clause-followers c = λ task h t. absurd (false≢true t)

pub returns-in-Table-clause-complete : goal.returns-in-Table-clause-complete
returns-in-Table-clause-complete c = λ task goal h m. absurd (let clash = sym (ap plain_of c.in-Table.is) ∙ m.is in cc)

pub returns-in-Auto-clause-followers : goal.returns-in-Auto-clause-followers
returns-in-Auto-clause-followers c = λ task h t.
    followers_of (system_of task) (plain_of c.args.plan.now) (fluent_count task) c.args.graph.now h _ _ (ap plain_of c.in-Auto.is) (c.is_followed.ensures.unexecutable t) (c.is_followed.ensures.stuck t)

pub returns-in-Auto-clause-complete : goal.returns-in-Auto-clause-complete
returns-in-Auto-clause-complete c = λ task goal h m.
    c.is_followed.ensures.all (not_unexecutable (system_of task) (plain_of c.args.plan.now) (fluent_count task) c.args.graph.now h goal m) (not_stuck (system_of task) (plain_of c.args.plan.now) (fluent_count task) c.args.graph.now h goal m)

use Rattle.ctl_syntax.specs.Values.{ctl_value}
use Rattle.task_core.specs.Tasks.{fluent_count}
use Rattle.plan_check.proofs.ContextLaws.{few_names}
use Rattle.plan_check.proofs.SpreadSteps.{graph_turned}
use Rattle.goal_witness.specs.Scenes.{plan_in, sys_in}
use Rattle.goal_witness.proofs.failing.label_of.Goals as goal

pub labels-requires-clause-inside : goal.labels-requires-clause-inside
labels-requires-clause-inside g c = c.requires.scene.graph.next_below

pub labels-requires-clause-turned : goal.labels-requires-clause-turned
labels-requires-clause-turned g c = graph_turned (sys_in c.args.scene.now) (plan_in c.args.scene.now) (fluent_count c.args.scene.now.task.now) c.args.scene.now.graph.now c.requires.scene.graph

pub labels-requires-clause-followers : goal.labels-requires-clause-followers
labels-requires-clause-followers g c = c.requires.scene.followers

pub labels-requires-clause-names : goal.labels-requires-clause-names
labels-requires-clause-names g c = few_names c.args.scene.now.task.now (ctl_value c.args.goal.now) c.requires.names

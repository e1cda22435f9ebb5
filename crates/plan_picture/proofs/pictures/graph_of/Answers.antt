use Rattle.std.proofs.Common.{◌<◌, ◌≤◌, ◌∙◌, ⊎_elim, sym}
use Rattle.std.proofs.lemmas.Bool.{cases_lt, true≢false}
use Rattle.exec_graph.specs.Values.{plain_graph}
use Rattle.plan_rules.specs.Rules.{plain_of}
use Rattle.task_core.specs.Tasks.{fluent_count, system_of}
use Rattle.plan_picture.proofs.Goals.{reaches_more, reaches_no_more}
use Rattle.plan_picture.proofs.pictures.graph_of.Goals as goal

pub returns-then-is_large-clause-configurations : goal.returns-then-is_large-clause-configurations
returns-then-is_large-clause-configurations c = λ _.
    reaches_more (system_of c.args.task.now) (plain_of c.args.plan.now) (plain_graph (fluent_count c.args.task.now) c.in-Ok.graph) c.args.most
    c.in-Ok.ensures.graph (c.is_large.ensures.0 c.if-is_large.true)

pub returns-else-is_large-clause-not_more : goal.returns-else-is_large-clause-not_more
returns-else-is_large-clause-not_more c =
    let graph = plain_graph (fluent_count c.args.task.now) c.in-Ok.graph in
    reaches_no_more (system_of c.args.task.now) (plain_of c.args.plan.now) graph c.args.most c.in-Ok.ensures.graph
    (⊎_elim
    (λ (more : c.args.most < graph.size). absurd (true≢false (sym (c.is_large.ensures.1 more) ∙ c.if-is_large.false)))
    (λ (few : graph.size ≤ c.args.most). few)
    (cases_lt c.args.most graph.size))

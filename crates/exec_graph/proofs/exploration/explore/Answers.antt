use Rattle.std.proofs.Common.{sym, ap, subst}
use Rattle.std.proofs.lemmas.Result.{err_from_is_err_and}
use Rattle.task_core.specs.Systems.{System}
use Rattle.plan_rules.specs.Plans.{IsPlanOf}
use Rattle.plan_rules.specs.Rules.{plain_of}
use Rattle.exec_graph.specs.Executions.{ReachesMoreThan}
use Rattle.exec_graph.specs.Graphs.{IsGraphOf}
use Rattle.exec_graph.specs.Values.{IsWithinFluents, plain_graph}
use Rattle.exec_graph.proofs.ShortTasks.{too_many_too}
use Rattle.exec_graph.proofs.exploration.explore.Goals as goal

pub explore_task-requires : goal.explore_task-requires
explore_task-requires c =
    let P : System → Type 0 = λ sys. IsPlanOf sys.fluents sys.actions c.args.plan.now in
    subst P (sym c.in_ok-short.ensures.system) c.requires

pub returns-clause-graph : goal.returns-clause-graph
returns-clause-graph c =
    let P : System → Type 0 = λ sys. IsGraphOf sys (plain_of c.args.plan.now) (plain_graph sys.fluents c.in_ok-graph.graph) in
    subst P c.in_ok-short.ensures.system c.in_ok-graph.ensures.graph

pub returns-clause-within : goal.returns-clause-within
returns-clause-within c =
    let P : System → Type 0 = λ sys. IsWithinFluents sys.fluents c.in_ok-graph.graph in
    subst P c.in_ok-short.ensures.system c.in_ok-graph.ensures.within

pub returns-clause-few_initial : goal.returns-clause-few_initial
returns-clause-few_initial c h =
    let e = c.in_ok-short.ensures in
    c.in_ok-graph.ensures.few_initial
    (too_many_too c.args.task.now c.in_ok-short.short 262144 (sym (ap (λ (sys : System). sys.fluents) e.system)) (sym e.facts) (sym e.entries) h)

pub returns-clause-few : goal.returns-clause-few
returns-clause-few c h =
    let P : System → Type 0 = λ sys. ReachesMoreThan sys (plain_of c.args.plan.now) 262144 in
    c.in_ok-graph.ensures.few (subst P (sym c.in_ok-short.ensures.system) h)

pub returns-in_err-graph-clause-initial : goal.returns-in_err-graph-clause-initial
returns-in_err-graph-clause-initial c =
    let e = c.in_ok-short.ensures in
    let p = err_from_is_err_and c.from_residual-in_err-graph.result c.from_residual-in_err-graph.ensures.1 in
    rw (p.1, p.2) (λ is.
    too_many_too c.in_ok-short.short c.args.task.now 262144 (ap (λ (sys : System). sys.fluents) e.system) e.facts e.entries (c.in_err-graph.ensures.initial is))

pub returns-in_err-graph-clause-too_large : goal.returns-in_err-graph-clause-too_large
returns-in_err-graph-clause-too_large c =
    let P : System → Type 0 = λ sys. ReachesMoreThan sys (plain_of c.args.plan.now) 262144 in
    let p = err_from_is_err_and c.from_residual-in_err-graph.result c.from_residual-in_err-graph.ensures.1 in
    rw (p.1, p.2) (λ is. subst P c.in_ok-short.ensures.system (c.in_err-graph.ensures.too_large is))

pub returns-in_err-graph-clause-not_initial : goal.returns-in_err-graph-clause-not_initial
returns-in_err-graph-clause-not_initial c =
    let e = c.in_ok-short.ensures in
    let p = err_from_is_err_and c.from_residual-in_err-graph.result c.from_residual-in_err-graph.ensures.1 in
    rw (p.1, p.2) (λ is many.
    c.in_err-graph.ensures.not_initial is
    (too_many_too c.args.task.now c.in_ok-short.short 262144 (sym (ap (λ (sys : System). sys.fluents) e.system)) (sym e.facts) (sym e.entries) many))

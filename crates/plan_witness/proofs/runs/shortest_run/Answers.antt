use Rattle.std.specs.Prelude.{IfNone, IfSome, Option}
use Rattle.std.proofs.Common.{subst}
use Rattle.exec_graph.specs.Values.{followers_at}
use Rattle.plan_check.specs.Walks.{IsMarked}
use Rattle.plan_witness.specs.Ways.{IsShortestWay, NoneLeads}
use Rattle.plan_witness.specs.declared.shortest.Way.{Way}
use Rattle.plan_witness.proofs.FoundRuns.{marked_none, marked_run, start_below}
use Rattle.plan_witness.proofs.Meanings.{marked_reached}
use Rattle.plan_witness.proofs.runs.shortest_run.Goals as goal

pub run_along-requires-clause-start : goal.run_along-requires-clause-start
run_along-requires-clause-start g c =
    let way = subst (λ (o : Option Way). IfSome o (λ x. IsShortestWay (followers_at c.args.scene.now.graph.now) c.deref.result.now (IsMarked c.args.ends.now) x.start x.numbers.items)) c.in-Some.is c.in_ok-found.ensures.shortest in
    start_below c.args.scene.now.task.now c.args.scene.now.plan.now c.args.scene.now.graph.now c.requires.scene.graph c.in_ok-starts.starts.items c.deref.result.now c.deref.ensures.value c.in_ok-starts.ensures.count c.in_ok-starts.ensures.marked c.in-Some.way.start way.begins

pub run_along-requires-clause-walk : goal.run_along-requires-clause-walk
run_along-requires-clause-walk g c =
    (subst (λ (o : Option Way). IfSome o (λ x. IsShortestWay (followers_at c.args.scene.now.graph.now) c.deref.result.now (IsMarked c.args.ends.now) x.start x.numbers.items)) c.in-Some.is c.in_ok-found.ensures.shortest).walk

pub returns-in-Some-clause-shortest : goal.returns-in-Some-clause-shortest
returns-in-Some-clause-shortest g c =
    let way = subst (λ (o : Option Way). IfSome o (λ x. IsShortestWay (followers_at c.args.scene.now.graph.now) c.deref.result.now (IsMarked c.args.ends.now) x.start x.numbers.items)) c.in-Some.is c.in_ok-found.ensures.shortest in
    marked_run c.args.scene.now.task.now c.args.scene.now.plan.now c.args.scene.now.graph.now c.requires.scene.graph c.in_ok-starts.starts.items c.deref.result.now c.deref.ensures.value c.in_ok-starts.ensures.count c.in_ok-starts.ensures.marked
    c.args.ends.now c.in-Some.way.start c.in-Some.way.numbers.items c.in_ok-run-in-Some.run' way c.in_ok-run-in-Some.ensures.start c.in_ok-run-in-Some.ensures.steps

pub returns-in-Some-clause-reached : goal.returns-in-Some-clause-reached
returns-in-Some-clause-reached g c =
    let way = subst (λ (o : Option Way). IfSome o (λ x. IsShortestWay (followers_at c.args.scene.now.graph.now) c.deref.result.now (IsMarked c.args.ends.now) x.start x.numbers.items)) c.in-Some.is c.in_ok-found.ensures.shortest in
    marked_reached c.args.scene.now.task.now c.args.scene.now.plan.now c.args.scene.now.graph.now c.requires.scene.graph c.args.ends.now _
    (marked_run c.args.scene.now.task.now c.args.scene.now.plan.now c.args.scene.now.graph.now c.requires.scene.graph c.in_ok-starts.starts.items c.deref.result.now c.deref.ensures.value c.in_ok-starts.ensures.count c.in_ok-starts.ensures.marked
    c.args.ends.now c.in-Some.way.start c.in-Some.way.numbers.items c.in_ok-run-in-Some.run' way c.in_ok-run-in-Some.ensures.start c.in_ok-run-in-Some.ensures.steps).shows

pub returns-clause-none : goal.returns-clause-none
returns-clause-none g c =
    let none = subst (λ (o : Option Way). IfNone o (NoneLeads (followers_at c.args.scene.now.graph.now) c.deref.result.now (IsMarked c.args.ends.now))) c.in-None.is c.in_ok-found.ensures.none in
    marked_none c.args.scene.now.task.now c.args.scene.now.plan.now c.args.scene.now.graph.now c.requires.scene.graph c.in_ok-starts.starts.items c.deref.result.now c.deref.ensures.value c.in_ok-starts.ensures.count c.in_ok-starts.ensures.marked
    c.args.ends.now c.requires.count none

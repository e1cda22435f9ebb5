use Rattle.std.proofs.Common.{◌≡◌, ◌<◌, ℕ, List, Option, subst, sym, arith}
use Rattle.std.specs.Prelude.{IfNone, IfSome}
use Rattle.std.proofs.lemmas.List.{length-map}
use Rattle.task_core.specs.States.{vector}
use Rattle.task_core.specs.Tasks.{fluent_count, system_of}
use Rattle.plan_rules.specs.Rules.{plain_of}
use Rattle.exec_graph.specs.Values.{followers_at, graph_size, state_at}
use Rattle.plan_check.specs.Walks.{IsWalk}
use Rattle.plan_witness.specs.Heights.{HasNoStart, IsHighestStart, IsWayDown}
use Rattle.plan_witness.specs.Marked.{IsRunAlong, place_at}
use Rattle.plan_witness.specs.Values.{step_value, steps_value}
use Rattle.plan_witness.specs.Ways.{at}
use Rattle.plan_witness.proofs.Lengths.{longest_down, no_start, reached_down, walks_within, within_it}
use Rattle.plan_witness.proofs.longest.longest_run.Goals as goal

pub heights_within-requires-clause-within : goal.heights_within-requires-clause-within
heights_within-requires-clause-within g c = walks_within c.args.scene.now.task.now c.args.scene.now.plan.now c.args.scene.now.graph.now c.requires.scene.graph c.args.bound c.requires.bounded

pub way_down-requires-clause-start : goal.way_down-requires-clause-start
way_down-requires-clause-start g c =
    let graph = c.args.scene.now.graph.now in
    (subst (λ (o : Option ℕ). IfSome o (IsHighestStart graph c.deref.result.now (graph_size graph))) c.in-Some.is c.highest_start.ensures.some).below

pub run_along-requires-clause-start : goal.run_along-requires-clause-start
run_along-requires-clause-start g c =
    let graph = c.args.scene.now.graph.now in
    subst (λ (k : ℕ). k < graph_size graph) (sym c.in_ok-way-in-Some.ensures.start)
    (subst (λ (o : Option ℕ). IfSome o (IsHighestStart graph c.deref.result.now (graph_size graph))) c.in-Some.is c.highest_start.ensures.some).below

pub run_along-requires-clause-walk : goal.run_along-requires-clause-walk
run_along-requires-clause-walk g c =
    subst (λ (k : ℕ). IsWalk (followers_at c.args.scene.now.graph.now) k c.in_ok-way-in-Some.way.numbers.items) (sym c.in_ok-way-in-Some.ensures.start) c.in_ok-way-in-Some.ensures.down.walk

pub returns-in-Some-clause-longest : goal.returns-in-Some-clause-longest
returns-in-Some-clause-longest g c =
    let scene = c.args.scene.now in
    let task = scene.task.now in
    let graph = scene.graph.now in
    let n = fluent_count task in
    let start = c.in-Some.start in
    let s = subst (λ (hs : List ℕ). IsHighestStart graph hs (graph_size graph) start) c.deref.ensures.value
    (subst (λ (o : Option ℕ). IfSome o (IsHighestStart graph c.deref.result.now (graph_size graph))) c.in-Some.is c.highest_start.ensures.some) in
    let numbers = c.in_ok-way-in-Some.way.numbers.items in
    let w = c.in_ok-way-in-Some.ensures in
    let run = c.in_ok-run-in-Some.run' in
    longest_down task scene.plan.now graph c.requires.scene.graph c.in_ok-heights.heights.items c.in_ok-heights.ensures start s numbers run
    (subst (λ (hs : List ℕ). IsWayDown (followers_at graph) start numbers (at hs start)) c.deref-in-Some.ensures.value w.down)
    (subst (λ (k : ℕ). vector n run.start ≡ state_at n graph k) w.start c.in_ok-run-in-Some.ensures.start)
    (subst (λ (k : ℕ). IsRunAlong (system_of task) (plain_of scene.plan.now) (place_at n graph) k numbers (steps_value n run.steps.items)) w.start c.in_ok-run-in-Some.ensures.steps)

pub returns-in-Some-clause-reached : goal.returns-in-Some-clause-reached
returns-in-Some-clause-reached g c =
    let scene = c.args.scene.now in
    let task = scene.task.now in
    let graph = scene.graph.now in
    let n = fluent_count task in
    let start = c.in-Some.start in
    let s = subst (λ (hs : List ℕ). IsHighestStart graph hs (graph_size graph) start) c.deref.ensures.value
    (subst (λ (o : Option ℕ). IfSome o (IsHighestStart graph c.deref.result.now (graph_size graph))) c.in-Some.is c.highest_start.ensures.some) in
    let numbers = c.in_ok-way-in-Some.way.numbers.items in
    let w = c.in_ok-way-in-Some.ensures in
    let run = c.in_ok-run-in-Some.run' in
    reached_down task scene.plan.now graph c.requires.scene.graph c.in_ok-heights.heights.items c.in_ok-heights.ensures start s numbers run
    (subst (λ (hs : List ℕ). IsWayDown (followers_at graph) start numbers (at hs start)) c.deref-in-Some.ensures.value w.down)
    (subst (λ (k : ℕ). vector n run.start ≡ state_at n graph k) w.start c.in_ok-run-in-Some.ensures.start)
    (subst (λ (k : ℕ). IsRunAlong (system_of task) (plain_of scene.plan.now) (place_at n graph) k numbers (steps_value n run.steps.items)) w.start c.in_ok-run-in-Some.ensures.steps)

pub returns-in-Some-clause-bounded : goal.returns-in-Some-clause-bounded
returns-in-Some-clause-bounded g c =
    let scene = c.args.scene.now in
    let task = scene.task.now in
    let graph = scene.graph.now in
    let n = fluent_count task in
    let start = c.in-Some.start in
    let s = subst (λ (hs : List ℕ). IsHighestStart graph hs (graph_size graph) start) c.deref.ensures.value
    (subst (λ (o : Option ℕ). IfSome o (IsHighestStart graph c.deref.result.now (graph_size graph))) c.in-Some.is c.highest_start.ensures.some) in
    let numbers = c.in_ok-way-in-Some.way.numbers.items in
    let w = c.in_ok-way-in-Some.ensures in
    let run = c.in_ok-run-in-Some.run' in
    let most = within_it task scene.plan.now graph c.requires.scene.graph c.in_ok-heights.heights.items c.in_ok-heights.ensures start s c.args.bound numbers (steps_value n run.steps.items)
    (walks_within task scene.plan.now graph c.requires.scene.graph c.args.bound c.requires.bounded)
    (subst (λ (hs : List ℕ). IsWayDown (followers_at graph) start numbers (at hs start)) c.deref-in-Some.ensures.value w.down)
    (subst (λ (k : ℕ). IsRunAlong (system_of task) (plain_of scene.plan.now) (place_at n graph) k numbers (steps_value n run.steps.items)) w.start c.in_ok-run-in-Some.ensures.steps) in
    let same = length-map run.steps.items (step_value n) in
    omega (arith, most, same)

pub returns-clause-none : goal.returns-clause-none
returns-clause-none g c =
    let graph = c.args.scene.now.graph.now in
    no_start c.args.scene.now.task.now c.args.scene.now.plan.now graph c.requires.scene.graph
    (subst (λ (o : Option ℕ). IfNone o (HasNoStart graph (graph_size graph))) c.in-None.is c.highest_start.ensures.none)

use Rattle.std.proofs.Common.{◌≡◌, subst, rules}
use Rattle.exec_graph.specs.Values.{followers_at}
use Rattle.plan_check.specs.Labels.{IsLeast}
use Rattle.plan_check.specs.declared.spreading.Need.TheVariants.{Each}
use Rattle.plan_check.proofs.SpreadSteps.{graph_turned}
use Rattle.task_core.specs.Tasks.{fluent_count}
use Rattle.goal_witness.specs.Scenes.{plan_in, size_in, sys_in}
use Rattle.goal_witness.specs.Walks.{IsRoundWithout, NoneWithout}
use Rattle.goal_witness.proofs.Found.{none_of}
use Rattle.goal_witness.proofs.Truths.{comes_back, right_lacks, whole_lacks}
use Rattle.goal_witness.proofs.runs.endless.Goals as goal

pub spread-requires-clause-turned : goal.spread-requires-clause-turned
spread-requires-clause-turned g c = graph_turned (sys_in c.args.scene.now) (plan_in c.args.scene.now) (fluent_count c.args.scene.now.task.now) c.args.scene.now.graph.now c.requires.scene.graph

pub spread-requires-clause-followers : goal.spread-requires-clause-followers
spread-requires-clause-followers g c = c.requires.scene.followers

pub lasso_without-requires-clause-lacks : goal.lasso_without-requires-clause-lacks
lasso_without-requires-clause-lacks g c =
    let scene = c.args.scene.now in
    let s = c.requires.scene in
    let copied : c.in_ok-whole.whole.items ≡ c.args.sides.right.now = search rules in
    let least : IsLeast (size_in scene) Each (followers_at scene.graph.now) c.args.sides.left.now c.args.sides.right.now c.spread.new.marks.items =
    subst (λ ms. IsLeast (size_in scene) Each (followers_at scene.graph.now) c.args.sides.left.now ms c.spread.new.marks.items) copied c.in_ok-spread.ensures.least in
    let fails = whole_lacks (size_in scene) (followers_at scene.graph.now) s.graph.next_below s.followers c.args.sides.left.now c.args.sides.right.now c.spread.new.marks.items c.requires.left c.requires.right least c.args.number c.requires.number c.requires.none c.requires.misses in
    right_lacks (size_in scene) (followers_at scene.graph.now) s.graph.next_below s.followers c.args.sides.left.now c.args.sides.right.now c.spread.new.marks.items c.requires.left c.requires.right least c.args.number c.requires.number c.requires.none c.requires.misses c.args.number fails

pub returns : goal.returns
returns g c =
    let scene = c.args.scene.now in
    let s = c.requires.scene in
    let copied : c.in_ok-whole.whole.items ≡ c.args.sides.right.now = search rules in
    let least : IsLeast (size_in scene) Each (followers_at scene.graph.now) c.args.sides.left.now c.args.sides.right.now c.spread.new.marks.items =
    subst (λ ms. IsLeast (size_in scene) Each (followers_at scene.graph.now) c.args.sides.left.now ms c.spread.new.marks.items) copied c.in_ok-spread.ensures.least in
    absurd
    (comes_back (size_in scene) (followers_at scene.graph.now) s.graph.next_below s.followers c.args.sides.left.now c.args.sides.right.now c.spread.new.marks.items c.requires.left c.requires.right least c.args.number c.requires.number c.requires.none c.requires.misses
    (none_of c.in_ok-lasso.field-0 (NoneWithout (followers_at scene.graph.now) c.args.sides.right.now (IsRoundWithout (followers_at scene.graph.now) c.args.sides.right.now) c.args.number) c.in-None.is c.in_ok-lasso.ensures.none))

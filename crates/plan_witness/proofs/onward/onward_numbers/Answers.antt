use Rattle.std.proofs.Common.{◌≡◌, ◌<◌, ◌↔◌, ℕ, List, Bool, length, nat_lt, sym, subst}
use Rattle.std.specs.Prelude.{Vec}
use Rattle.std.specs.List.{filter, range_with_len}
use Rattle.std.proofs.lemmas.Result.{IfOk-weaker}
use Rattle.plan_check.proofs.MarkFacts.{marked_below}
use Rattle.plan_check.specs.Walks.{IsMarked}
use Rattle.task_core.specs.Tasks.{fluent_count, system_of}
use Rattle.exec_graph.specs.Values.{graph_size}
use Rattle.plan_rules.specs.Rules.{plain_of}
use Rattle.plan_witness.specs.Marked.{place_at}
use Rattle.plan_witness.specs.Onward.{AreOnward, places_in}
use Rattle.plan_witness.specs.Scenes.{place_of}
use Rattle.plan_witness.specs.Ways.{at, far}
use Rattle.plan_witness.proofs.Onwards.{are_met, are_onward}
use Rattle.plan_witness.proofs.onward.onward_numbers.Goals as goal

pub returns-clause-met : goal.returns-clause-met
returns-clause-met g c = are_met c.args.scene.now.task.now c.args.scene.now.plan.now c.args.scene.now.graph.now c.requires.scene.graph

pub returns-in_err-starts-clause-met : goal.returns-in_err-starts-clause-met
returns-in_err-starts-clause-met g c = are_met c.args.scene.now.task.now c.args.scene.now.plan.now c.args.scene.now.graph.now c.requires.scene.graph

pub returns-in_err-ways-clause-met : goal.returns-in_err-ways-clause-met
returns-in_err-ways-clause-met g c = are_met c.args.scene.now.task.now c.args.scene.now.plan.now c.args.scene.now.graph.now c.requires.scene.graph

pub returns-clause-onward : goal.returns-clause-onward
returns-clause-onward g c =
    let scene = c.args.scene.now in
    let task = scene.task.now in
    let graph = scene.graph.now in
    let n = fluent_count task in
    let size = graph_size graph in
    let x = place_of n c.args.spot.now in
    let seen = c.deref.result.now in
    let lengths = c.in_ok-ways.ways.lengths.items in
    let count : length seen ≡ size = subst (λ (xs : List Bool). length xs ≡ size) (sym c.deref.ensures.value) c.in_ok-starts.ensures.count in
    let marked : (i : ℕ) → i < size → IsMarked seen i ↔ (place_at n graph i ≡ x) =
    subst (λ (xs : List Bool). (i : ℕ) → i < size → IsMarked xs i ↔ (place_at n graph i ≡ x)) (sym c.deref.ensures.value) (c.in_ok-starts.ensures.marked n c.requires.scene.within c.requires.state) in
    IfOk-weaker c.reached_numbers.result (λ (v : Vec ℕ _). v.items ≡ filter (λ i. nat_lt (at lengths i) far) (range_with_len 0 size))
    (λ (v : Vec ℕ _). AreOnward (system_of task) (plain_of scene.plan.now) (places_in scene) x v.items)
    (λ v e. are_onward task scene.plan.now graph c.requires.scene.graph seen lengths c.in_ok-ways.ways.before.items c.in_ok-ways.ensures x c.requires.reached marked (λ i m. subst (λ (k : ℕ). i < k) count (marked_below seen i m)) v.items e)
    c.reached_numbers.ensures

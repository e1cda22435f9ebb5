use Rattle.std.proofs.Common.{◌≡◌, length, sym, ap, ◌∙◌, subst}
use Rattle.list_laws.proofs.Options.{some_has}
use Rattle.exec_graph.specs.Values.{followers_at}
use Rattle.plan_check.specs.Walks.{IsMarked, IsWalk, last_number}
use Rattle.plan_witness.specs.Values.{steps_value}
use Rattle.plan_witness.specs.Ways.{IsShortestWay, NoneLeads}
use Rattle.task_core.specs.Tasks.{fluent_count}
use Rattle.goal_witness.specs.Walks.{IsAlong}
use Rattle.goal_witness.specs.Zones.{kept}
use Rattle.plan_witness.specs.declared.shortest.Way.{Way}
use Rattle.goal_witness.proofs.Found.{none_of}
use Rattle.goal_witness.proofs.Searched.{found_start, found_way, no_way, zone}
use Rattle.goal_witness.proofs.runs.way_without.Goals as goal

pub joined-requires : goal.joined-requires
joined-requires g c = c.requires.right ∙ sym c.requires.left

pub shortest_way-requires-clause-zone : goal.shortest_way-requires-clause-zone
shortest_way-requires-clause-zone g c =
    zone c.args.scene.now c.requires.scene c.args.sides.right.now c.in_ok-inside.inside.items c.requires.right c.in_ok-inside.ensures c.args.number c.requires.number c.requires.lacks c.deref.result.now c.deref.ensures.value

pub shortest_way-requires-clause-starts : goal.shortest_way-requires-clause-starts
shortest_way-requires-clause-starts g c = ap length c.deref-2.ensures.value ∙ c.in_ok-only.ensures.count

pub shortest_way-requires-clause-ends : goal.shortest_way-requires-clause-ends
shortest_way-requires-clause-ends g c = ap length c.deref-3.ensures.value ∙ (c.in_ok-ends.ensures.count ∙ c.requires.left)

pub steps_of-requires-clause-walk : goal.steps_of-requires-clause-walk
steps_of-requires-clause-walk g c =
    let scene = c.args.scene.now in
    let next = followers_at scene.graph.now in
    let read = c.deref.result.now in
    let starts = c.deref-2.result.now in
    let ends = c.deref-3.result.now in
    let way = c.in-Some.way in
    let shortest = some_has c.in_ok-way.field-0 (λ (w : Way). IsShortestWay (kept next read) starts (IsMarked ends) w.start w.numbers.items) way c.in-Some.is c.in_ok-way.ensures.shortest in
    let found = found_way scene c.requires.scene c.args.sides.right.now c.in_ok-inside.inside.items c.requires.right c.in_ok-inside.ensures c.args.number c.requires.number c.requires.lacks
    c.args.sides.left.now c.in_ok-ends.ends.items starts ends read c.deref.ensures.value c.requires.left c.in_ok-ends.ensures c.deref-3.ensures.value c.in_ok-only.only.items c.deref-2.ensures.value c.in_ok-only.ensures.count c.in_ok-only.ensures.marked
    way.start way.numbers.items shortest in
    subst (IsWalk next c.args.number) (sym c.deref-in-Some.ensures.value) found.walk.walk

pub returns-in-Some-clause-some : goal.returns-in-Some-clause-some
returns-in-Some-clause-some g c =
    let scene = c.args.scene.now in
    let next = followers_at scene.graph.now in
    let read = c.deref.result.now in
    let starts = c.deref-2.result.now in
    let ends = c.deref-3.result.now in
    let way = c.in-Some.way in
    let shortest = some_has c.in_ok-way.field-0 (λ (w : Way). IsShortestWay (kept next read) starts (IsMarked ends) w.start w.numbers.items) way c.in-Some.is c.in_ok-way.ensures.shortest in
    let end = some_has c.in_ok-way.field-0 (λ (w : Way). last_number w.start w.numbers.items ≡ w.end) way c.in-Some.is c.in_ok-way.ensures.end in
    let found = found_way scene c.requires.scene c.args.sides.right.now c.in_ok-inside.inside.items c.requires.right c.in_ok-inside.ensures c.args.number c.requires.number c.requires.lacks
    c.args.sides.left.now c.in_ok-ends.ends.items starts ends read c.deref.ensures.value c.requires.left c.in_ok-ends.ensures c.deref-3.ensures.value c.in_ok-only.only.items c.deref-2.ensures.value c.in_ok-only.ensures.count c.in_ok-only.ensures.marked
    way.start way.numbers.items shortest in
    let is : way.start ≡ c.args.number = found_start scene c.requires.scene c.args.sides.right.now c.in_ok-inside.inside.items c.requires.right c.in_ok-inside.ensures c.args.number c.requires.number c.requires.lacks
    c.args.sides.left.now c.in_ok-ends.ends.items starts ends read c.deref.ensures.value c.requires.left c.in_ok-ends.ensures c.deref-3.ensures.value c.in_ok-only.only.items c.deref-2.ensures.value c.in_ok-only.ensures.count c.in_ok-only.ensures.marked
    way.start shortest.begins in
    record {
      numbers = way.numbers.items;
      least = found;
      ends = ap (λ i. last_number i way.numbers.items) (sym is) ∙ end;
      along = subst (λ ns. IsAlong scene c.args.number ns (steps_value (fluent_count scene.task.now) c.in_ok-taken-in-Some.taken.items)) c.deref-in-Some.ensures.value c.in_ok-taken-in-Some.ensures;
    }

pub returns-clause-none : goal.returns-clause-none
returns-clause-none g c =
    let scene = c.args.scene.now in
    let next = followers_at scene.graph.now in
    let read = c.deref.result.now in
    let starts = c.deref-2.result.now in
    let ends = c.deref-3.result.now in
    no_way scene c.requires.scene c.args.sides.right.now c.in_ok-inside.inside.items c.requires.right c.in_ok-inside.ensures c.args.number c.requires.number c.requires.lacks
    c.args.sides.left.now c.in_ok-ends.ends.items starts ends read c.deref.ensures.value c.requires.left c.in_ok-ends.ensures c.deref-3.ensures.value c.in_ok-only.only.items c.deref-2.ensures.value c.in_ok-only.ensures.count c.in_ok-only.ensures.marked
    (none_of c.in_ok-way.field-0 (NoneLeads (kept next read) starts (IsMarked ends)) c.in-None.is c.in_ok-way.ensures.none)

use Rattle.std.proofs.Common.{◌≡◌, ◌≤◌, ◌+◌, [], length, map, sym, ap, ◌∙◌, subst, refl, false}
use Rattle.std.specs.List.{All, fold}
use Rattle.task_core.specs.States.{IsWithin}
use Rattle.task_core.specs.Tasks.{fluent_count, system_of}
use Rattle.task_core.proofs.TaskSystem.{is_system}
use Rattle.plan_rules.specs.Rules.{plain_of}
use Rattle.exec_graph.specs.Counting.{add_configuration}
use Rattle.exec_graph.specs.Drafts.{beginnings}
use Rattle.exec_graph.specs.Moves.{IsBeforeVisit, IsPlaceWithin, configuration_of}
use Rattle.exec_graph.specs.Rows.{row_count, row_of}
use Rattle.exec_graph.proofs.RowFacts.{firsts_length}
use Rattle.exec_graph.specs.declared.exploration.Draft.{Draft}
use Rattle.exec_graph.proofs.Visits.{count_is, few_initial, first_count, first_draft, graph_made, initial_differ, next_short, none_more, prev_short, rows_inside}
use Rattle.exec_graph.proofs.exploration.explore_task.Goals as goal

pub first_moves-requires : goal.first_moves-requires
first_moves-requires c = subst (All (IsWithin (fluent_count c.args.task.now))) (sym c.deref.ensures.value) c.in_ok-states.ensures.within

pub visit_all-requires-clause-within : goal.visit_all-requires-clause-within
visit_all-requires-clause-within c =
    let rows = c.in_ok-new.field-0 in
    let none : row_count rows ≡ 0 = sym (firsts_length (row_of rows) (row_count rows)) ∙ ap length c.in_ok-new.ensures.none in
    subst (λ k. IsBeforeVisit (fluent_count c.args.task.now) (k + 1) c.in_ok-first_moves.field-0) (sym none) c.in_ok-first_moves.ensures.before

pub visit_all-requires-clause-few : goal.visit_all-requires-clause-few
visit_all-requires-clause-few c =
    let task = c.args.task.now in
    let n = fluent_count task in
    let states = c.in_ok-states.states.items in
    let draft : Draft = record { moves = c.in_ok-first_moves.field-0; next = c.in_ok-new.field-0; unexecutable = false; stuck = false } in
    let places : map (configuration_of n) draft.moves.places.keys ≡ fold add_configuration [] (beginnings n states) =
    c.in_ok-first_moves.ensures.list ∙ ap (λ ss. fold add_configuration [] (beginnings n ss)) c.deref.ensures.value in
    subst (λ k. k ≤ 262144) (sym (first_count n (system_of task) states c.in_ok-states.ensures.list (initial_differ task) draft places))
    (few_initial task 262144 c.in_ok-states.ensures.few)

pub visit_all-requires-clause-searched : goal.visit_all-requires-clause-searched
visit_all-requires-clause-searched c =
    let task = c.args.task.now in
    let n = fluent_count task in
    let states = c.in_ok-states.states.items in
    let draft : Draft = record { moves = c.in_ok-first_moves.field-0; next = c.in_ok-new.field-0; unexecutable = false; stuck = false } in
    let places : map (configuration_of n) draft.moves.places.keys ≡ fold add_configuration [] (beginnings n states) =
    c.in_ok-first_moves.ensures.list ∙ ap (λ ss. fold add_configuration [] (beginnings n ss)) c.deref.ensures.value in
    first_draft n (system_of task) states c.in_ok-states.ensures.list (initial_differ task) (plain_of c.args.plan.now) (is_system task) draft places
    c.in_ok-new.ensures.none refl refl

pub turned-requires-clause-inside : goal.turned-requires-clause-inside
turned-requires-clause-inside c =
    rows_inside (fluent_count c.args.task.now) (system_of c.args.task.now) (plain_of c.args.plan.now) c.visit_all.new.self
    c.in_ok-visit_all.ensures.searched c.in_ok-visit_all.ensures.whole

pub into_graph-requires-clause-next_short : goal.into_graph-requires-clause-next_short
into_graph-requires-clause-next_short c =
    next_short (fluent_count c.args.task.now) (system_of c.args.task.now) (plain_of c.args.plan.now) c.visit_all.new.self
    c.in_ok-visit_all.ensures.searched c.in_ok-visit_all.ensures.whole c.in_ok-visit_all.ensures.few

pub into_graph-requires-clause-prev_short : goal.into_graph-requires-clause-prev_short
into_graph-requires-clause-prev_short c =
    prev_short (fluent_count c.args.task.now) (system_of c.args.task.now) (plain_of c.args.plan.now) c.visit_all.new.self
    c.in_ok-visit_all.ensures.searched c.in_ok-visit_all.ensures.whole c.in_ok-visit_all.ensures.few
    c.in_ok-prev.prev c.in_ok-prev.ensures.count c.in_ok-prev.ensures.turned

pub returns-clause-graph : goal.returns-clause-graph
returns-clause-graph c =
    let task = c.args.task.now in
    let n = fluent_count task in
    let states = c.in_ok-states.states in
    let made = c.into_graph.ensures in
    graph_made n (system_of task) (plain_of c.args.plan.now) c.visit_all.new.self c.in_ok-visit_all.ensures.searched c.in_ok-visit_all.ensures.whole
    c.into_graph.result made.places
    (made.initials ∙ c.len.ensures ∙ states.ok.0 ∙ count_is n (system_of task) states.items c.in_ok-states.ensures.list (initial_differ task))
    made.next c.in_ok-prev.prev made.prev c.in_ok-prev.ensures.turned made.unexecutable made.stuck

pub returns-clause-within : goal.returns-clause-within
returns-clause-within c = subst (All (IsPlaceWithin (fluent_count c.args.task.now))) (sym c.into_graph.ensures.places) c.in_ok-visit_all.ensures.within.within

pub returns-clause-few : goal.returns-clause-few
returns-clause-few c =
    none_more (fluent_count c.args.task.now) (system_of c.args.task.now) (plain_of c.args.plan.now) c.visit_all.new.self
    c.in_ok-visit_all.ensures.searched c.in_ok-visit_all.ensures.whole 262144 c.in_ok-visit_all.ensures.few

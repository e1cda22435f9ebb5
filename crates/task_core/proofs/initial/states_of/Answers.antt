use Rattle.std.proofs.Common.{map, subst, sym, ◌∙◌}
use Rattle.std.proofs.lemmas.List.Elements.{All-get_or}
use Rattle.task_core.specs.States.{IsWithin, vector}
use Rattle.task_core.specs.Tasks.{fluent_count, in_space}
use Rattle.task_core.proofs.StateSpace.{filter_all, kept_more}
use Rattle.task_core.proofs.TaskSystem.{each_inside}
use Rattle.task_core.proofs.initial.states_of.Goals as goal

pub returns-then-always_holds-clause-list : goal.returns-then-always_holds-clause-list
returns-then-always_holds-clause-list c =
    let task = c.args.task.now in
    sym (filter_all (in_space task) (map (vector (fluent_count task)) c.args.vectors.items)
    (each_inside task (c.always_holds.ensures c.if-always_holds.true)))

pub loop-found-preserved : goal.loop-found-preserved
loop-found-preserved c =
    let task = c.args.task.now in
    let n = fluent_count task in
    let found = c.deref-found-items.result.now in
    let x = c.found-item.result in
    record {
      list = c.in_ok-add_if_state.ensures.list
          ∙ kept_more (in_space task) (vector n) found c.loop-found.found-index x (map (vector n) c.loop-found.states.items) c.loop-found-test.true c.found-item.is c.loop-found.invariant.list;
      within = λ m all. c.in_ok-add_if_state.ensures.within m
          (subst (IsWithin m) (sym c.found-item.is) (All-get_or (IsWithin m) found c.loop-found.found-index x c.loop-found-test.true all))
          (c.loop-found.invariant.within m all);
    }

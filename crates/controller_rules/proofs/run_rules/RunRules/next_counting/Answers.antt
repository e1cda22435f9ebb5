use Rattle.std.proofs.Common.{rules, arith, length, Some, None}
use Rattle.cube_index.specs.Index.{answers, values_of}
use Rattle.cube_index.specs.Places.{IsFirstTrue}
use Rattle.task_core.specs.Tasks.{fluent_count}
use Rattle.controller_rules.proofs.Counting.{found, none_left, skipped}
use Rattle.controller_rules.proofs.run_rules.RunRules.next_counting.Goals as goal

pub returns-then-index-context : goal.returns-then-index-context
returns-then-index-context c =
    let run = c.args.self.now in
    let first : IsFirstTrue (answers run.index (values_of c.args.state.now)) c.loop-place.place (length run.rules.items) (Some c.in-Some.number) = search rules in
    found (fluent_count c.args.task.now) run c.args.state.now c.args.context c.args.task.now.few_fluents c.requires
    c.args.from c.loop-place.place c.in-Some.number c.index.result.now c.loop-place.invariant.past first.1 c.index.ensures c.if-index-context.true c.loop-place.invariant.none first

pub loop-place-preserved : goal.loop-place-preserved
loop-place-preserved c =
    let run = c.args.self.now in
    let first : IsFirstTrue (answers run.index (values_of c.args.state.now)) c.loop-place.place (length run.rules.items) (Some c.in-Some.number) = search rules in
    record {
      past = omega (arith, c.loop-place.invariant.past, first.0);
      none = skipped (fluent_count c.args.task.now) run c.args.state.now c.args.context c.args.task.now.few_fluents c.requires
          c.args.from c.loop-place.place c.in-Some.number c.index.result.now c.loop-place.invariant.past first.1 c.index.ensures c.if-index-context.false c.loop-place.invariant.none first;
    }

pub returns-in-None : goal.returns-in-None
returns-in-None c =
    let run = c.args.self.now in
    let none : IsFirstTrue (answers run.index (values_of c.args.state.now)) c.loop-place.place (length run.rules.items) None = search rules in
    none_left (fluent_count c.args.task.now) run c.args.state.now c.args.context c.args.task.now.few_fluents c.requires
    c.args.from c.loop-place.place c.loop-place.invariant.past c.loop-place.invariant.none none

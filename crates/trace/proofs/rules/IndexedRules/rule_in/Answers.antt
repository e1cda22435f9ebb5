use Rattle.std.proofs.Common.{◌≡◌, ◌<◌, ◌∙◌, Some, ap, arith, length, slice_get, sym}
use Rattle.std.proofs.lemmas.Option.{slice_get-get_or}
use Rattle.task_core.specs.Tasks.{action_count, fluent_count}
use Rattle.trace.proofs.Chosen.{counts, in_task, nothing, passed}
use Rattle.trace.proofs.rules.IndexedRules.rule_in.Goals as goal

pub returns-then-rule-context-clause-counts : goal.returns-then-rule-context-clause-counts
returns-then-rule-context-clause-counts c =
    let task = c.args.task.now in
    let indexed = c.args.self.now in
    let number = c.in-Some.number in
    let rule = c.index-rule.result.now in
    let lt : number < length indexed.rules.items = omega (arith, c.in-Some.ensures.1, c.len.ensures) in
    let there : slice_get indexed.rules.items number ≡ Some rule = slice_get-get_or indexed.rules.items number rule lt ∙ ap Some (sym c.index-rule.ensures) in
    counts (fluent_count task) (action_count task) task.few_fluents indexed c.requires c.args.state.now c.args.context c.loop-number.from c.len.result number rule c.loop-number.invariant.none c.in-Some.ensures there c.if-rule-context.true

pub returns-then-rule-context-clause-in_task : goal.returns-then-rule-context-clause-in_task
returns-then-rule-context-clause-in_task c =
    let task = c.args.task.now in
    let indexed = c.args.self.now in
    let number = c.in-Some.number in
    let rule = c.index-rule.result.now in
    let lt : number < length indexed.rules.items = omega (arith, c.in-Some.ensures.1, c.len.ensures) in
    let there : slice_get indexed.rules.items number ≡ Some rule = slice_get-get_or indexed.rules.items number rule lt ∙ ap Some (sym c.index-rule.ensures) in
    in_task (fluent_count task) (action_count task) task.few_fluents indexed c.requires c.args.state.now c.args.context number rule there

pub loop-number-preserved : goal.loop-number-preserved
loop-number-preserved c =
    let task = c.args.task.now in
    let indexed = c.args.self.now in
    let number = c.in-Some.number in
    let rule = c.index-rule.result.now in
    let lt : number < length indexed.rules.items = omega (arith, c.in-Some.ensures.1, c.len.ensures) in
    let there : slice_get indexed.rules.items number ≡ Some rule = slice_get-get_or indexed.rules.items number rule lt ∙ ap Some (sym c.index-rule.ensures) in
    record {
      none = passed (fluent_count task) (action_count task) task.few_fluents indexed c.requires c.args.state.now c.args.context c.loop-number.from c.len.result number rule c.loop-number.invariant.none c.in-Some.ensures there c.if-rule-context.false;
      within = omega (arith, lt);
    }

pub returns-clause-none : goal.returns-clause-none
returns-clause-none c =
    let task = c.args.task.now in
    let indexed = c.args.self.now in
    let all : c.len.result ≡ length indexed.rules.items = omega (arith, c.len.ensures) in
    nothing (fluent_count task) (action_count task) task.few_fluents indexed c.requires c.args.state.now c.args.context c.loop-number.from c.len.result all c.loop-number.invariant.none c.in_default.ensures

use Rattle.std.proofs.Common.{◌≡◌, false, map, sym, ap, ◌∙◌, arith}
use Rattle.std.specs.Prelude.{slice_get, Some}
use borrow.Author.Count.{below_more}
use Rattle.std.proofs.lemmas.List.{length-map}
use Rattle.std.proofs.lemmas.Option.{same_Some, slice_get-get_or, slice_get_within}
use Rattle.task_core.specs.ContextPlans.{Configuration}
use Rattle.task_core.specs.States.{vector}
use Rattle.task_core.specs.Tasks.{fluent_count}
use Rattle.plan_rules.specs.Rules.{context_rule_of}
use Rattle.plan_witness.specs.Runs.{is_for}
use Rattle.plan_witness.proofs.Counting.{find_nothing}
use Rattle.plan_witness.proofs.Taken.{get_mapped}
use Rattle.plan_witness.proofs.rules.counting_rule.Goals as goal

pub returns-then-is_for-clause-counts : goal.returns-then-is_for-clause-counts
returns-then-is_for-clause-counts c =
    let r = c.index-rules-number.result in (
      context_rule_of r,
      record {
        numbered = get_mapped context_rule_of c.args.rules.now c.loop-number.number r (slice_get-get_or c.args.rules.now c.loop-number.number r c.loop-number-test.true ∙ ap Some (sym c.index-rules-number.is));
        is = sym c.is_for.ensures ∙ c.if-is_for.true;
        first = c.loop-number.invariant;
      },
    )

pub loop-number-preserved : goal.loop-number-preserved
loop-number-preserved c =
    let x : Configuration = record { state = vector (fluent_count c.args.task.now) c.args.state.now; context = c.args.context } in
    let r = c.index-rules-number.result in
    let number = c.loop-number.number in
    let at = get_mapped context_rule_of c.args.rules.now number r (slice_get-get_or c.args.rules.now number r c.loop-number-test.true ∙ ap Some (sym c.index-rules-number.is)) in
    λ k other b. below_more (λ j. slice_get (map context_rule_of c.args.rules.now) j ≡ Some other → is_for x other ≡ false) number
    (λ j l. c.loop-number.invariant j other l)
    (λ e.
    let same : other ≡ context_rule_of r = same_Some other (context_rule_of r) (sym e ∙ at) in
    ap (is_for x) same ∙ sym c.is_for.ensures ∙ c.if-is_for.false)
    k b

pub returns-clause-none : goal.returns-clause-none
returns-clause-none c =
    let x : Configuration = record { state = vector (fluent_count c.args.task.now) c.args.state.now; context = c.args.context } in
    find_nothing (is_for x) (map context_rule_of c.args.rules.now)
    (λ k other e. c.loop-number.invariant k other (let l = slice_get_within (map context_rule_of c.args.rules.now) k other e in omega (arith, l, length-map c.args.rules.now context_rule_of, c.loop-number-test.false)) e)

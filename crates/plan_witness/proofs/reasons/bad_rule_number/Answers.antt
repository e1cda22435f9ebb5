use Rattle.std.proofs.Common.{◌≡◌, true, map, slice_get, Some, sym, ap, ◌∙◌, subst, arith}
use borrow.Author.Count.{below_more}
use Rattle.std.proofs.lemmas.List.{length-map}
use Rattle.std.proofs.lemmas.Option.{same_Some, slice_get-get_or}
use Rattle.list_laws.proofs.Elements.{Contains-map}
use Rattle.task_core.specs.Cubes.{matches}
use Rattle.task_core.specs.States.{vector}
use Rattle.task_core.specs.Systems.{Exec}
use Rattle.task_core.specs.Tasks.{fluent_count, system_of}
use Rattle.plan_rules.specs.Rules.{PlanRule, rule_of}
use Rattle.plan_witness.proofs.Taken.{get_contained, get_mapped}
use Rattle.plan_witness.proofs.reasons.bad_rule_number.Goals as goal

pub returns-then-is_bad_rule-clause-bad : goal.returns-then-is_bad_rule-clause-bad
returns-then-is_bad_rule-clause-bad c =
    let r = c.index-rules-number.result in
    let number = c.loop-number.number in
    record {
      rule = rule_of r;
      numbered = get_mapped rule_of c.args.rules.now number r (slice_get-get_or c.args.rules.now number r c.loop-number-test.true ∙ ap Some (sym c.index-rules-number.is));
      matched = c.is_bad_rule.ensures.matched c.if-is_bad_rule.true;
      refused = c.is_bad_rule.ensures.refused c.if-is_bad_rule.true;
    }

pub returns-then-is_bad_rule-clause-has : goal.returns-then-is_bad_rule-clause-has
returns-then-is_bad_rule-clause-has c =
    let r = c.index-rules-number.result in
    record {
      rule = rule_of r;
      listed = Contains-map rule_of c.args.rules.now r (c.loop-number.number, c.loop-number-test.true, sym c.index-rules-number.is);
      matched = c.is_bad_rule.ensures.matched c.if-is_bad_rule.true;
      refused = c.is_bad_rule.ensures.refused c.if-is_bad_rule.true;
    }

pub loop-number-preserved : goal.loop-number-preserved
loop-number-preserved c =
    let n = fluent_count c.args.task.now in
    let sys = system_of c.args.task.now in
    let v = vector n c.args.state.now in
    let r = c.index-rules-number.result in
    let number = c.loop-number.number in
    let at = get_mapped rule_of c.args.rules.now number r (slice_get-get_or c.args.rules.now number r c.loop-number-test.true ∙ ap Some (sym c.index-rules-number.is)) in
    λ k rule b. below_more (λ j. slice_get (map rule_of c.args.rules.now) j ≡ Some rule → matches rule.cube v ≡ true → Exec sys v rule.action) number
    (λ j l. c.loop-number.invariant j rule l)
    (λ e m.
    let same : rule ≡ rule_of r = same_Some rule (rule_of r) (sym e ∙ at) in
    subst (λ (x : PlanRule). Exec sys v x.action) (sym same) (c.is_bad_rule.ensures.good c.if-is_bad_rule.false (subst (λ (x : PlanRule). matches x.cube v ≡ true) same m)))
    k b

pub returns-clause-none : goal.returns-clause-none
returns-clause-none c = λ x.
    let at = get_contained (map rule_of c.args.rules.now) x.rule x.listed in
    absurd (x.refused (c.loop-number.invariant at.0 x.rule (let l = at.1 in omega (arith, l, length-map c.args.rules.now rule_of, c.loop-number-test.false)) at.2 x.matched))

use Rattle.std.proofs.Common.{◌≡◌, true, map, slice_get, Some, refl, sym, ap, ◌∙◌, subst, arith}
use borrow.Author.Count.{below_more}
use Rattle.std.proofs.lemmas.List.{length-map}
use Rattle.std.proofs.lemmas.Option.{same_Some, slice_get-get_or}
use Rattle.task_core.specs.Cubes.{matches}
use Rattle.task_core.specs.States.{vector}
use Rattle.task_core.specs.Systems.{HasOutcome}
use Rattle.task_core.specs.Tasks.{fluent_count, system_of}
use Rattle.plan_rules.specs.Rules.{PlanRule, rule_of}
use Rattle.plan_witness.proofs.Taken.{get_mapped, rule_leads}
use Rattle.plan_witness.proofs.steps.table_step.Goals as goal

pub returns-in-Some-clause-found : goal.returns-in-Some-clause-found
returns-in-Some-clause-found c = λ context.
    let r = c.index-rules-number.result in
    record {
      rule = rule_of r;
      numbered = get_mapped rule_of c.args.rules.now c.loop-number.number r (slice_get-get_or c.args.rules.now c.loop-number.number r c.loop-number-test.true ∙ ap Some (sym c.index-rules-number.is));
      matched = c.in-Some.ensures.matched;
      acts = refl;
      outcome = record { below = c.in-Some.ensures.below; leads = c.in-Some.ensures.leads };
      stays = refl;
    }

pub loop-number-preserved : goal.loop-number-preserved
loop-number-preserved c =
    let n = fluent_count c.args.task.now in
    let sys = system_of c.args.task.now in
    let v = vector n c.args.from.now in
    let w = vector n c.args.to.now in
    let r = c.index-rules-number.result in
    let number = c.loop-number.number in
    let at = get_mapped rule_of c.args.rules.now number r (slice_get-get_or c.args.rules.now number r c.loop-number-test.true ∙ ap Some (sym c.index-rules-number.is)) in
    λ k rule b. below_more (λ j. slice_get (map rule_of c.args.rules.now) j ≡ Some rule → matches rule.cube v ≡ true → HasOutcome sys v rule.action w → ⊥) number
    (λ j l. c.loop-number.invariant j rule l)
    (λ e m h.
    let same : rule ≡ rule_of r = same_Some rule (rule_of r) (sym e ∙ at) in
    let g : matches (rule_of r).cube v ≡ true → HasOutcome sys v (rule_of r).action w → ⊥ = c.in-None.ensures.none in
    g (subst (λ (x : PlanRule). matches x.cube v ≡ true) same m) (subst (λ (x : PlanRule). HasOutcome sys v x.action w) same h))
    k b

pub returns-clause-none : goal.returns-clause-none
returns-clause-none c = λ l.
    let n = fluent_count c.args.task.now in
    let x = rule_leads (system_of c.args.task.now) (map rule_of c.args.rules.now) (vector n c.args.from.now) (vector n c.args.to.now) l in
    c.loop-number.invariant x.0 x.1 (let b = x.2 in omega (arith, b, length-map c.args.rules.now rule_of, c.loop-number-test.false)) x.3 x.4 x.5

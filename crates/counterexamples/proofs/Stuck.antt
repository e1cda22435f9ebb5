-- Where a plan with contexts doesn't go on.
use Rattle.std.proofs.Common.{◌≡◌, ℕ, List, Option, Some, ap, refl, subst, sym, ◌∙◌, ⊎_elim}
use Rattle.std.specs.Prelude.{slice_get}
use Rattle.std.specs.Option.{option_and_then, option_map}
use Rattle.std.proofs.lemmas.Option.{none-some, same_Some}
use Rattle.task_core.specs.ContextPlans.{Configuration}
use Rattle.task_core.specs.Systems.{HasOutcome, System}
use Rattle.task_core.specs.Vectors.{Vector}
use Rattle.plan_rules.specs.Denoted.{denoted_contexts, next_context}
use Rattle.plan_rules.specs.Rules.{ContextRule, automaton}
use Rattle.exec_graph.specs.Executions.{HasLostOutcome, IsStuckAt}
use Rattle.plan_witness.specs.Ends.{IsLostAt, LosesOutcome}
use Rattle.plan_witness.specs.Runs.{IsCounting}
use Rattle.plan_witness.proofs.Counting.{counting_at}
use Rattle.counterexamples.specs.Findings.{LosesAt}

-- the rule that stands at the number is the one that counts
pub loses_by : (sys : System) (rules : List ContextRule) (x : Configuration) (number outcome : ℕ) (rule other : ContextRule) → IsCounting rules x number rule → slice_get rules number ≡ Some other
    → IsLostAt sys other x.state outcome → LosesAt sys rules x number other.action outcome
loses_by sys rules x number outcome rule other counts at lost =
    let same : rule ≡ other = same_Some rule other (sym counts.numbered ∙ at) in
    record { rule = other; counts = subst (IsCounting rules x number) same counts; acts = refl; lost = lost }

-- where a plan doesn't go on and a rule counts, that rule loses an outcome
pub loses : (sys : System) (rules : List ContextRule) (x : Configuration) (number : ℕ) (rule other : ContextRule) → IsCounting rules x number rule → slice_get rules number ≡ Some other
    → IsStuckAt sys (automaton 0 rules) x → LosesOutcome sys other x.state
loses sys rules x number rule other counts at stuck =
    let same : rule ≡ other = same_Some rule other (sym counts.numbered ∙ at) in
    let is = counting_at rules x number other (subst (IsCounting rules x number) same counts) in
    let acts : (denoted_contexts rules).act x.state x.context ≡ Some other.action = ap (λ (o : Option ContextRule). option_map (λ (r : ContextRule). r.action) o) is in
    let onward : (t : Vector) → (denoted_contexts rules).ctxt x.state x.context t ≡ next_context other.next t = λ t. ap (λ (o : Option ContextRule). option_and_then (λ (r : ContextRule). next_context r.next t) o) is in
    ⊎_elim (λ none. absurd (none-some other.action (sym none ∙ acts)))
    (λ (l : HasLostOutcome sys (denoted_contexts rules) x). record {
      after = l.after;
      outcome = subst (λ a. HasOutcome sys x.state a l.after) (sym (same_Some other.action l.action (sym acts ∙ l.acts))) l.outcome;
      lost = sym (onward l.after) ∙ l.lost;
    }) stuck

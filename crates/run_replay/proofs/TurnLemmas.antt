-- A turn by the rule that counts in it.
use Rattle.std.proofs.Common.{◌≡◌, ◌≢◌, ◌↔◌, ℕ, Bool, true, false, IsTrue, if◌then◌else◌, List, [], ◌∷◌, Option, Some, None, refl, sym, ap, ◌∙◌}
use Rattle.std.specs.List.{list_any}
use Rattle.std.proofs.lemmas.Bool.{false≢true}
use Rattle.std.specs.Option.{option_map, option_and_then}
use Rattle.task_core.specs.Vectors.{Vector}
use Rattle.task_core.specs.Systems.{System, Exec}
use Rattle.plan_rules.specs.Rules.{ContextRule}
use Rattle.plan_rules.specs.Denoted.{can_execute, denoted_contexts, next_context, rule_at}
use Rattle.plan_rules.specs.Advices.{Advised, advised_by}
use Rattle.run_replay.specs.Turns.{taking, turn_by}
use Rattle.run_replay.specs.Traces.{Turn, Ends, Goes, Capped, Stray, Unexecutable, acting, choosing, outcome_state, stepping, turn}

choosing_is : (sys : System) (rules : List ContextRule) (number : ℕ) (s : Vector) (c : ℕ) (rule : ContextRule) (words : List ℕ)
    → rule_at rules s c ≡ Some rule → choosing sys (denoted_contexts rules) number s c rule.action words ≡ taking sys number s (advised_by rule) words
choosing_is sys rules number s c rule [] e = refl
choosing_is sys rules number s c rule (word ∷ words) e =
    ap (λ (found : Option ContextRule). stepping sys number s rule.action
    (λ (t : Vector). option_and_then (λ (r : ContextRule). next_context r.next t) found) word words
    (outcome_state sys s rule.action word)) e

acting_is : (sys : System) (rules : List ContextRule) (full : Bool) (number : ℕ) (s : Vector) (c : ℕ) (words : List ℕ) (found : Option ContextRule)
    → rule_at rules s c ≡ found
    → acting sys (denoted_contexts rules) full number s c (option_map (λ (r : ContextRule). r.action) found) words
    ≡ turn_by sys full number s words (option_map advised_by found)
acting_is sys rules full number s c words None e = refl
acting_is sys rules full number s c words (Some rule) e =
    ap (λ (t : Turn). if can_execute sys s rule.action then (if full then Ends Capped words else t) else Ends (Unexecutable number) words)
    (choosing_is sys rules number s c rule words e)

-- the turn is the one by the rule that counts
pub turn_is : (sys : System) (rules : List ContextRule) (full : Bool) (number : ℕ) (s : Vector) (c : ℕ) (words : List ℕ) (a : Option Advised)
    → a ≡ option_map advised_by (rule_at rules s c)
    → turn sys (denoted_contexts rules) full number s (Some c) words ≡ turn_by sys full number s words a
turn_is sys rules full number s c words a e =
    acting_is sys rules full number s c words (rule_at rules s c) refl ∙ ap (turn_by sys full number s words) (sym e)

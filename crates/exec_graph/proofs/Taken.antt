-- An action that was taken in a state leads to nothing new there.
use Rattle.std.proofs.Common.{◌≡◌, ◌≢◌, ℕ, ◌<◌, Bool, true, false, not, ◌||◌, cond, List, [], ◌∷◌, length, slice_index_or, refl, sym, ap, ◌∙◌, subst, inl, inr, ⊎_elim}
use Rattle.std.specs.List.{Contains, fold, slice_set}
use Rattle.std.proofs.lemmas.Bool.{cases_eq, cases_lt, false≢true, or_left, or_right}
use Rattle.std.proofs.lemmas.List.{get_or-set_other, get_or_past}
use Rattle.task_core.specs.Vectors.{Vector}
use Rattle.task_core.specs.Systems.{System}
use Rattle.task_core.specs.ContextPlans.{Configuration, first_context}
use Rattle.task_core.specs.Cubes.{matches}
use Rattle.plan_rules.specs.Advices.{Advised}
use Rattle.plan_rules.specs.Denoted.{can_execute}
use Rattle.plan_rules.specs.Rules.{PlanRule, always}
use Rattle.exec_graph.specs.Counting.{HasTaken, HaveTaken, Moved, add_configuration, advised_in_table, onward_to, with_outcome, with_rule, with_table_rule}
use Rattle.exec_graph.proofs.Listed.{added_same}
use Rattle.exec_graph.proofs.RuleMoves.{next_rule, rule_refused}
use Rattle.list_laws.proofs.Elements.{Contains-cons, Contains-head}
use Rattle.list_laws.proofs.Booleans.{or_false}

in_first : Vector → Configuration
in_first t = record { state = t; context = first_context }

abbrev advised : ℕ → Advised
advised action = record { action = action; next = always first_context }

one_same : (m : Moved) (t : Vector) → Contains m.next (record { state = t; context = first_context }) → with_outcome (always first_context) m t ≡ m
one_same m t c =
    let e : fold add_configuration m.next (onward_to (always first_context) t) ≡ m.next = added_same m.next (record { state = t; context = first_context }) c in
    λ i. record { next = e i; refused = m.refused; lost = or_false m.lost i }

all_same : (ts : List Vector) (m : Moved) → ((t : Vector) → Contains ts t → Contains m.next (record { state = t; context = first_context })) → fold (with_outcome (always first_context)) m ts ≡ m
all_same [] m h = refl
all_same (t ∷ ts) m h =
    ap (λ w. fold (with_outcome (always first_context)) w ts) (one_same m t (h t (Contains-head t ts)))
    ∙ all_same ts m (λ u c. h u (Contains-cons t ts u c))

rule_same : (sys : System) (s : Vector) (m : Moved) (action : ℕ) → HasTaken sys s m action → with_rule sys s m (advised action) ≡ m
rule_same sys s m action h =
    let can = can_execute sys s action in
    let all : fold (with_outcome (always first_context)) m (sys.next s action) ≡ m = all_same (sys.next s action) m h.next in
    let refused : ((fold (with_outcome (always first_context)) m (sys.next s action)).refused || not can) ≡ m.refused =
    ap (λ w. w.refused || not can) all ∙ at can refl in
    λ i. record { next = ap (λ w. w.next) all i; refused = refused i; lost = ap (λ w. w.lost) all i }
  where
    at : (b : Bool) → can_execute sys s action ≡ b → (m.refused || not (can_execute sys s action)) ≡ m.refused
    at true e = ap (λ b. m.refused || not b) e ∙ or_false m.refused
    at false e = or_left m.refused (not (can_execute sys s action)) (h.refused e) ∙ sym (h.refused e)

pub table_same : (sys : System) (s : Vector) (m : Moved) (rule : PlanRule) → HasTaken sys s m rule.action → with_table_rule sys s m rule ≡ m
table_same sys s m rule h = go (matches rule.cube s)
  where
    go : (b : Bool) → cond b (with_rule sys s m (advised_in_table rule)) m ≡ m
    go true = rule_same sys s m rule.action h
    go false = refl

taken_grows : (sys : System) (s : Vector) (m : Moved) (b : Advised) (action : ℕ) → HasTaken sys s m action → HasTaken sys s (with_rule sys s m b) action
taken_grows sys s m b action h = record {
  next = λ t c. next_rule sys s m b (record { state = t; context = first_context }) (inl (h.next t c));
  refused = λ e. rule_refused sys s m b ∙ or_left m.refused (not (can_execute sys s b.action)) (h.refused e);
}

taken_now : (sys : System) (s : Vector) (m : Moved) (action : ℕ) → HasTaken sys s (with_rule sys s m (advised action)) action
taken_now sys s m action = record {
  next = λ t c. next_rule sys s m (advised action) (record { state = t; context = first_context }) (inr (record { outcome = c; context = refl }));
  refused = λ e. rule_refused sys s m (advised action) ∙ or_right m.refused (not (can_execute sys s action)) (ap not e);
}

-- one action more
pub taken_more : (sys : System) (s : Vector) (m now : Moved) (rule : PlanRule) (taken marks : List Bool) → now ≡ with_rule sys s m (advised_in_table rule)
    → marks ≡ slice_set taken rule.action true → HaveTaken sys s m taken → HaveTaken sys s now marks
taken_more sys s m now rule taken marks is set h action e =
    subst (λ w. HasTaken sys s w action) (sym is)
    (⊎_elim
    (λ (same : action ≡ rule.action). subst (λ a. HasTaken sys s (with_rule sys s m (advised_in_table rule)) a) (sym same) (taken_now sys s m rule.action))
    (λ (ne : action ≢ rule.action).
    taken_grows sys s m (advised_in_table rule) action
    (h action (sym (get_or-set_other taken rule.action action true false ne) ∙ ap (λ ms. slice_index_or ms action false) (sym set) ∙ e)))
    (cases_eq action rule.action))

pub none_taken : (sys : System) (s : Vector) (m : Moved) (taken : List Bool) → ((a : ℕ) → a < length taken → slice_index_or taken a false ≡ false) → HaveTaken sys s m taken
none_taken sys s m taken none action e =
    absurd (false≢true (sym (⊎_elim (λ l. none action l) (λ past. get_or_past taken action false past) (cases_lt action (length taken))) ∙ e))

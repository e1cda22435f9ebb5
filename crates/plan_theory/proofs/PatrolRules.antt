-- The printed rules of a patrol goal denote a plan that acts as printed.
use Rattle.std.proofs.Common.{◌≡◌, ℕ, suc, ◌≤◌, Bool, true, false, List, [], ◌∷◌, length, Some, refl, sym, ◌∙◌, subst, arith, ⊎_elim}
use Rattle.std.specs.Prelude.{◌&&◌, ◌==◌, if◌then◌else◌}
use Rattle.std.specs.List.{All, Contains}
use Rattle.std.proofs.lemmas.Bool.{and_from, and_parts, cond-false, cond-true, cases_eq, eq-eqb, eqb-true, true≢false}
use Rattle.std.proofs.lemmas.List.Elements.{All-cons, All-nil}
use Rattle.task_core.specs.Cubes.{SetOfVectors}
use Rattle.task_core.specs.Systems.{System, IsVector, IsSystem}
use Rattle.task_core.specs.Vectors.{Vector}
use Rattle.plan_rules.specs.Denoted.{denoted_contexts}
use Rattle.plan_rules.specs.Plans.{IsContextOf, IsContextRuleOf}
use Rattle.plan_theory.specs.LayerPlans.{is_action}
use Rattle.plan_theory.specs.Patrols.{patrol_set}
use Rattle.plan_theory.specs.PatrolPlans.{ActsAsPatrol}
use Rattle.plan_theory.specs.PatrolPrinted.{context_after, patrol_action, patrol_next, patrol_nexts, patrol_rules, patrol_states, visit_in}
use Rattle.plan_theory.proofs.ContextRuleParts.{leading_below, rules_act, rules_within}
use Rattle.plan_theory.proofs.PatrolSets.{acts_in_patrol}
use Rattle.list_laws.proofs.Elements.{Contains-cons, Contains-head}
use Rattle.plan_theory.proofs.WeakPrinted.{is_action-Some, is_action-from}

-- the next contexts of a context: itself and the one after
module _ (m c : ℕ) where
  abbrev end_nexts : List ℕ
  end_nexts = if m == 1 then 1 ∷ [] else 1 ∷ m ∷ []

  before_end : (c == m) ≡ false → patrol_nexts m c ≡ c ∷ suc c ∷ []
  before_end e = cond-false (c == m) end_nexts (c ∷ suc c ∷ []) e

  at_end_alone : (c == m) ≡ true → (m == 1) ≡ true → patrol_nexts m c ≡ 1 ∷ []
  at_end_alone e f = cond-true (c == m) end_nexts (c ∷ suc c ∷ []) e ∙ cond-true (m == 1) (1 ∷ []) (1 ∷ m ∷ []) f

  at_end : (c == m) ≡ true → (m == 1) ≡ false → patrol_nexts m c ≡ 1 ∷ m ∷ []
  at_end e f = cond-true (c == m) end_nexts (c ∷ suc c ∷ []) e ∙ cond-false (m == 1) (1 ∷ []) (1 ∷ m ∷ []) f

  pub has_itself : Contains (patrol_nexts m c) c
  has_itself = go (c == m) (m == 1) refl refl
    where
      go : (b d : Bool) → (c == m) ≡ b → (m == 1) ≡ d → Contains (patrol_nexts m c) c
      go true true e f =
          let one : 1 ≡ c = sym (eqb-true m 1 f) ∙ sym (eqb-true c m e) in
          subst (λ xs. Contains xs c) (sym (at_end_alone e f)) (subst (Contains (1 ∷ [])) one (Contains-head 1 []))
      go true false e f =
          subst (λ xs. Contains xs c) (sym (at_end e f)) (Contains-cons 1 (m ∷ []) c (subst (Contains (m ∷ [])) (sym (eqb-true c m e)) (Contains-head m [])))
      go false d e f = subst (λ xs. Contains xs c) (sym (before_end e)) (Contains-head c (suc c ∷ []))

  pub has_after : Contains (patrol_nexts m c) (context_after m c)
  has_after = go (c == m) (m == 1) refl refl
    where
      go : (b d : Bool) → (c == m) ≡ b → (m == 1) ≡ d → Contains (patrol_nexts m c) (context_after m c)
      go true true e f = subst (Contains (patrol_nexts m c)) (sym (cond-true (c == m) 1 (suc c) e)) (subst (λ xs. Contains xs 1) (sym (at_end_alone e f)) (Contains-head 1 []))
      go true false e f = subst (Contains (patrol_nexts m c)) (sym (cond-true (c == m) 1 (suc c) e)) (subst (λ xs. Contains xs 1) (sym (at_end e f)) (Contains-head 1 (m ∷ [])))
      go false d e f = subst (Contains (patrol_nexts m c)) (sym (cond-false (c == m) 1 (suc c) e)) (subst (λ xs. Contains xs (suc c)) (sym (before_end e)) (Contains-cons c (suc c ∷ []) (suc c) (Contains-head (suc c) [])))

  pub nexts_are_contexts : IsContextOf m c → All (IsContextOf m) (patrol_nexts m c)
  nexts_are_contexts here = go (c == m) (m == 1) refl refl
    where
      low : 1 ≤ c
      low = here.first

      high : c ≤ m
      high = here.last

      one : IsContextOf m 1
      one = record { first = omega arith; last = (let a = low in let b = high in omega arith) }

      below : (c == m) ≡ false → suc c ≤ m
      below e =
          ⊎_elim
          (λ (same : c ≡ m). absurd (true≢false (sym (eq-eqb c m same) ∙ e)))
          (λ differ. let a = high in omega arith)
          (cases_eq c m)

      go : (b d : Bool) → (c == m) ≡ b → (m == 1) ≡ d → All (IsContextOf m) (patrol_nexts m c)
      go true true e f = subst (All (IsContextOf m)) (sym (at_end_alone e f)) (All-cons (IsContextOf m) 1 [] one (All-nil (IsContextOf m)))
      go true false e f =
          subst (All (IsContextOf m)) (sym (at_end e f))
          (All-cons (IsContextOf m) 1 (m ∷ []) one (All-cons (IsContextOf m) m [] (record { first = (let a = low in let b = high in omega arith); last = omega arith }) (All-nil (IsContextOf m))))
      go false d e f =
          let next : IsContextOf m (suc c) = record { first = omega arith; last = below e } in
          subst (All (IsContextOf m)) (sym (before_end e))
          (All-cons (IsContextOf m) c (suc c ∷ []) here (All-cons (IsContextOf m) (suc c) [] next (All-nil (IsContextOf m))))

module _ (sys : System) (visits : List SetOfVectors) where
  -- the sets of a context agree on what a state does
  one_way : (v : Vector) (c j a : ℕ) → patrol_states sys visits c j a v ≡ true → (patrol_next visits c v ≡ j) × (patrol_action sys visits c v ≡ Some a)
  one_way v c j a holds =
      let inside = and_parts (patrol_set sys visits v) ((patrol_next visits c v == j) && is_action a (patrol_action sys visits c v)) holds in
      let both = and_parts (patrol_next visits c v == j) (is_action a (patrol_action sys visits c v)) inside.1 in
      (eqb-true (patrol_next visits c v) j both.0, is_action-Some a (patrol_action sys visits c v) both.1)

  next_among : (c : ℕ) (v : Vector) → Contains (patrol_nexts (length visits) c) (patrol_next visits c v)
  next_among c v = go (visit_in visits c v) refl
    where
      go : (b : Bool) → visit_in visits c v ≡ b → Contains (patrol_nexts (length visits) c) (patrol_next visits c v)
      go true e = subst (Contains (patrol_nexts (length visits) c)) (sym (cond-true (visit_in visits c v) (context_after (length visits) c) c e)) (has_after (length visits) c)
      go false e = subst (Contains (patrol_nexts (length visits) c)) (sym (cond-false (visit_in visits c v) (context_after (length visits) c) c e)) (has_itself (length visits) c)

  module _ (ok : IsSystem sys) where
    acts_at : (v : Vector) (c : ℕ) → IsVector sys v → 1 ≤ c → c ≤ length visits → patrol_set sys visits v ≡ true
        → ((denoted_contexts (patrol_rules sys visits)).act v c ≡ patrol_action sys visits c v)
        × ((t : Vector) → (denoted_contexts (patrol_rules sys visits)).ctxt v c t ≡ Some (patrol_next visits c v))
    acts_at v c is first last wins =
        let j = patrol_next visits c v in
        let acts = acts_in_patrol sys ok visits c first last v is wins in
        let a = acts.action in
        let holds : patrol_states sys visits c j a v ≡ true =
        and_from (patrol_set sys visits v) ((j == j) && is_action a (patrol_action sys visits c v)) wins
        (and_from (j == j) (is_action a (patrol_action sys visits c v)) (eq-eqb j j refl) (is_action-from a (patrol_action sys visits c v) acts.chosen)) in
        rules_act sys (patrol_states sys visits) (patrol_nexts (length visits)) (length visits) v c j a is first last
        (next_among c v)
        (leading_below sys ok (patrol_set sys visits) v a acts.leads) holds
        j (patrol_action sys visits c v) (one_way v c)

    pub acts_as_patrol : ActsAsPatrol sys visits (denoted_contexts (patrol_rules sys visits))
    acts_as_patrol = record {
      acts = λ v c is first last wins. (acts_at v c is first last wins).0;
      goes_on = λ v c t is first last wins. (acts_at v c is first last wins).1 t;
    }

  pub patrol_rules_within : All (IsContextRuleOf sys.fluents sys.actions (length visits)) (patrol_rules sys visits)
  patrol_rules_within = rules_within sys (patrol_states sys visits) (patrol_nexts (length visits)) (length visits) (nexts_are_contexts (length visits))

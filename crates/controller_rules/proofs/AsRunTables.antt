-- The table of the rules and that of the rules as they are run are solutions together, where the rules
-- have one move.
use Rattle.std.proofs.Common.{◌≡◌, ◌&&◌, ◌||◌, ℕ, Bool, true, false, cond, eqb, List, [], ◌∷◌, map, Option, Some, None, refl, sym, ◌∙◌}
use Rattle.std.specs.List.{Contains, find, list_any}
use Rattle.std.specs.Option.{option_map_or}
use Rattle.std.proofs.lemmas.Bool.{false≢true, and_parts, eq-eqb, eqb-true}
use Rattle.plan_rules.proofs.DenotedPairs.{denoted-pair}
use Rattle.list_laws.proofs.Elements.{Contains-map, find-found, list_any-from, list_any-witness}
use Rattle.rule_lookup.specs.RunRules.{in_one_context}
use Rattle.plan_rules.specs.Denoted.{advises, denoted}
use Rattle.plan_rules.specs.Rules.{PlanRule, table}
use Rattle.task_core.specs.ContextPlans.{Configuration, first_context}
use Rattle.task_core.specs.Cubes.{matches}
use Rattle.task_core.specs.Solutions.{IsReached, IsSolution}
use Rattle.task_core.specs.Systems.{System}
use Rattle.task_core.specs.Tables.{IsTable}
use Rattle.task_core.specs.Vectors.{Vector}
use Rattle.task_core.specs.declared.classes.Class.{Class}
use Rattle.first_match.specs.FirstMatch.{begins_with_action, run_table}
use Rattle.first_match.proofs.RunPairs.{run_denoted, run_from}
use Rattle.first_match.proofs.SameRuns.{solution_to}
use Rattle.controller_rules.specs.AsRun.{HasOneMove, HasOneMoveAt}

-- where nothing is found, nothing passes
one_none : {X : Type 0} (b : Bool) (x : X) (rest : Option X) (tail : Bool) → cond b (Some x) rest ≡ None → (rest ≡ None → tail ≡ false) → (b || tail) ≡ false
one_none true x rest tail is others = absurd (cc is)
one_none false x rest tail is others = others is

find-none : {X : Type 0} (p : X → Bool) (xs : List X) → find p xs ≡ None → list_any p xs ≡ false
find-none p [] is = refl
find-none p (x ∷ xs) is = one_none (p x) x (find p xs) (list_any p xs) is (find-none p xs)

module _ (sys : System) where
  -- a rule that matches counts, as it is run
  abbrev pub at_first : Vector → Configuration
  at_first s = record { state = s; context = first_context }

  -- where all that match make one move, the first makes each that is advised
  advised_begins : (rules : List PlanRule) (s : Vector) (a : ℕ) → HasOneMoveAt (map in_one_context rules) (at_first s) → advises rules s a ≡ true → begins_with_action rules s a ≡ true
  advised_begins rules s a one advised =
      let some = list_any-witness (λ (r : PlanRule). eqb r.action a && matches r.cube s) rules advised in
      let rule = some.0 in
      let both = and_parts (eqb rule.action a) (matches rule.cube s) some.2 in
      go rule some.1 (eqb-true rule.action a both.0) both.1 (find (λ (r : PlanRule). matches r.cube s) rules) refl
    where
      go : (rule : PlanRule) → Contains rules rule → rule.action ≡ a → matches rule.cube s ≡ true → (found : Option PlanRule) → find (λ (r : PlanRule). matches r.cube s) rules ≡ found
          → option_map_or (λ (r : PlanRule). eqb r.action a) found false ≡ true
      go rule listed acts fits None is = absurd (false≢true (sym (find-none (λ (r : PlanRule). matches r.cube s) rules is) ∙ list_any-from (λ (r : PlanRule). matches r.cube s) rules rule listed fits))
      go rule listed acts fits (Some first) is =
          let at = find-found (λ (r : PlanRule). matches r.cube s) rules first is in
          let same = one (in_one_context first) (in_one_context rule) (Contains-map in_one_context rules first at.0) (Contains-map in_one_context rules rule listed) at.1 fits in
          eq-eqb first.action a (same.action ∙ acts)

  module _ (class : Class) (rules : List PlanRule) (one : HasOneMove sys (table class rules)) where
    -- the pairs of a state that may be reached are the same
    to_run : (s : Vector) (a : ℕ) → IsReached sys (denoted sys rules) s → Contains (denoted sys rules) (s, a) → Contains (run_table sys rules) (s, a)
    to_run s a r pair =
        let is = denoted-pair sys rules s a pair in
        run_from sys rules s a (record { vector = is.vector; below = is.below; begins = advised_begins rules s a (one (at_first s) (r, refl)) is.advised; executable = is.executable })

    from_run : (s : Vector) (a : ℕ) → IsReached sys (denoted sys rules) s → Contains (run_table sys rules) (s, a) → Contains (denoted sys rules) (s, a)
    from_run s a r pair = run_denoted sys rules s a pair

    pub run_solves : (wanted : Class) → IsSolution wanted sys (denoted sys rules) → IsSolution wanted sys (run_table sys rules)
    run_solves wanted solves = solution_to sys (denoted sys rules) (run_table sys rules) to_run from_run wanted solves

  pub run_is_table : (rules : List PlanRule) → IsTable sys (denoted sys rules) → IsTable sys (run_table sys rules)
  run_is_table rules is s a pair = is s a (run_denoted sys rules s a pair)

-- Rules that are good as they are run are those of a controller.
use Rattle.std.proofs.Common.{◌≡◌, ◌↔◌, ◌&&◌, ◌<◌, ◌==◌, ℕ, zero, suc, Bool, true, false, cond, List, [], ◌∷◌, ◌++◌, length, map, get_or, Option, Some, None, refl, sym, ap, ◌∙◌, subst, arith}
use Rattle.std.specs.List.{Contains}
use Rattle.std.proofs.lemmas.Bool.{and_from, and_parts, and_right, eq-eqb, eqb-true, false≢true}
use Rattle.std.proofs.lemmas.List.{length-map}
use Rattle.list_laws.proofs.Elements.{Contains-map, Contains-map-witness, find-found}
use Rattle.rule_lookup.specs.RunRules.{in_one_context}
use Rattle.plan_rules.specs.Denoted.{denoted}
use Rattle.plan_rules.specs.Rules.{ContextRule, PlanRule, table}
use Rattle.task_core.specs.ContextPlans.{Configuration, first_context}
use Rattle.task_core.specs.Cubes.{matches}
use Rattle.task_core.specs.Solutions.{IsReached}
use Rattle.task_core.specs.Systems.{IsSystem, System}
use Rattle.task_core.specs.Vectors.{Vector}
use Rattle.task_core.specs.declared.classes.Class.{Class}
use Rattle.first_match.specs.FirstMatch.{AreGoodAsRun, EachRuleCounts, RulesAgree, first_rule, run_table}
use Rattle.first_match.proofs.Agreeing.{agreeing_followed, agreeing_reached, agreeing_solve, counts_where}
use Rattle.first_match.proofs.RunPairs.{run_denoted}
use Rattle.first_match.proofs.SameRuns.{reached_wider}
use Rattle.controller_rules.specs.AsRun.{HasNoHiddenRule, HasOneMove, IsFirstAt, counts_at}
use Rattle.controller_rules.specs.Unlisted.{AreGoodUnlisted}

-- a list at one of its places
record Split {X : Type 0} (xs : List X) (k : ℕ) : Type 0 where
  before : List X
  here : X
  after : List X
  is : xs ≡ before ++ here ∷ after
  place : length before ≡ k

split_at : {X : Type 0} (xs : List X) (k : ℕ) → k < length xs → Split xs k
split_at [] k less = absurd (omega arith)
split_at (x ∷ xs) zero less = record { before = []; here = x; after = xs; is = refl; place = refl }
split_at (x ∷ xs) (suc k) less =
    let rest = split_at xs k (omega arith) in
    record { before = x ∷ rest.before; here = rest.here; after = rest.after; is = ap (λ ys. x ∷ ys) rest.is; place = ap suc rest.place }

-- where nothing is found, the first doesn't pass, and nothing is found behind it
none_first : {X : Type 0} (b : Bool) (x : X) (rest : Option X) → cond b (Some x) rest ≡ None → (b ≡ false) × (rest ≡ None)
none_first true x rest is = absurd (cc is)
none_first false x rest is = (refl, is)

none_on : {X : Type 0} (b : Bool) (x : X) (rest : Option X) → b ≡ false → rest ≡ None → cond b (Some x) rest ≡ None
none_on true x rest fails is = absurd (false≢true (sym fails))
none_on false x rest fails is = is

right_false : (a b : Bool) → a ≡ true → (a && b) ≡ false → b ≡ false
right_false true b holds fails = fails
right_false false b holds fails = absurd (false≢true holds)

module _ (x : Configuration) where
  counts : PlanRule → Bool
  counts rule = counts_at x (in_one_context rule)

  counts_later : (other : PlanRule) (before : List PlanRule) (rule : PlanRule) (after : List PlanRule) → matches other.cube x.state ≡ false
      → IsFirstAt (map in_one_context (before ++ rule ∷ after)) x (length before) → IsFirstAt (map in_one_context (other ∷ before ++ rule ∷ after)) x (suc (length before))
  counts_later other before rule after fails rest = record { counts = rest.counts; first = earlier }
    where
      earlier : (k : ℕ) → k < suc (length before) → get_or (map (counts_at x) (map in_one_context (other ∷ before ++ rule ∷ after))) k false ≡ false
      earlier zero less = and_right (first_context == x.context) (matches other.cube x.state) fails
      earlier (suc k) less = rest.first k (omega arith)

  -- the rule behind those of which none matches is the first that counts
  counts_first : x.context ≡ first_context → (before : List PlanRule) (rule : PlanRule) (after : List PlanRule) → first_rule before x.state ≡ None
      → matches rule.cube x.state ≡ true → IsFirstAt (map in_one_context (before ++ rule ∷ after)) x (length before)
  counts_first here [] rule after none matched = record {
    counts = and_from (first_context == x.context) (matches rule.cube x.state) (eq-eqb first_context x.context (sym here)) matched;
    first = λ k less. absurd (omega arith);
  }
  counts_first here (other ∷ before) rule after none matched =
      let parts = none_first (matches other.cube x.state) other (first_rule before x.state) none in
      counts_later other before rule after parts.0 (counts_first here before rule after parts.1 matched)

  -- and where it is, none of those before it matches
  first_counts : (before : List PlanRule) (rule : PlanRule) (after : List PlanRule)
      → get_or (map (counts_at x) (map in_one_context (before ++ rule ∷ after))) (length before) false ≡ true → counts_at x (in_one_context rule) ≡ true
  first_counts [] rule after is = is
  first_counts (other ∷ before) rule after is = first_counts before rule after is

  none_before : x.context ≡ first_context → (before rest : List PlanRule)
      → ((k : ℕ) → k < length before → get_or (map (counts_at x) (map in_one_context (before ++ rest))) k false ≡ false) → first_rule before x.state ≡ None
  none_before here [] rest none = refl
  none_before here (other ∷ before) rest none =
      none_on (matches other.cube x.state) other (first_rule before x.state)
      (right_false (first_context == x.context) (matches other.cube x.state) (eq-eqb first_context x.context (sym here)) (none 0 (omega arith)))
      (none_before here before rest (λ k less. none (suc k) (omega arith)))

module _ (class : Class) (sys : System) (ok : IsSystem sys) (rules : List PlanRule) where
  -- each rule counts in some state
  not_hidden : EachRuleCounts sys rules → HasNoHiddenRule sys (table class rules)
  not_hidden each k below =
      let split = split_at rules k (subst (λ m. k < m) (length-map rules in_one_context) below) in
      let at = each split.before split.here split.after split.is in
      let x : Configuration = record { state = at.state; context = first_context } in
      record {
        place = x;
        is_state = at.is_state;
        first = subst (λ (ys : List PlanRule). IsFirstAt (map in_one_context ys) x k) (sym split.is)
            (subst (IsFirstAt (map in_one_context (split.before ++ split.here ∷ split.after)) x) split.place
            (counts_first x refl split.before split.here split.after at.new at.matched));
      }

  counts_behind : HasNoHiddenRule sys (table class rules) → EachRuleCounts sys rules
  counts_behind unhidden before rule after is =
      let long : length before < length rules = subst (λ (ys : List PlanRule). length before < length ys) (sym is) (within before) in
      let at = unhidden (length before) (subst (λ m. length before < m) (sym (length-map rules in_one_context)) long) in
      let x = at.place in
      let first : IsFirstAt (map in_one_context (before ++ rule ∷ after)) x (length before) = subst (λ (ys : List PlanRule). IsFirstAt (map in_one_context ys) x (length before)) is at.first in
      let parts = and_parts (first_context == x.context) (matches rule.cube x.state) (first_counts x before rule after first.counts) in
      record {
        state = x.state;
        is_state = at.is_state;
        matched = parts.1;
        new = none_before x (sym (eqb-true first_context x.context parts.0)) before (rule ∷ after) first.first;
      }
    where
      within : (xs : List PlanRule) → length xs < length (xs ++ rule ∷ after)
      within [] = omega arith
      within (y ∷ ys) = let rest = within ys in omega arith

  -- rules that count in a configuration match its state
  matched_at : (x : Configuration) (rule : ContextRule) → Contains (map in_one_context rules) rule → counts_at x rule ≡ true
      → (plain : PlanRule) × Contains rules plain × (in_one_context plain ≡ rule) × (matches plain.cube x.state ≡ true)
  matched_at x rule has counts' =
      let from = Contains-map-witness in_one_context rules rule has in
      let both = and_parts (rule.context == x.context) (matches rule.cube x.state) counts' in
      (from.0, from.1, from.2, ap (λ (r : ContextRule). matches r.cube x.state) from.2 ∙ both.1)

  one_move_of : RulesAgree sys rules → HasOneMove sys (table class rules)
  one_move_of agree x reached rule other has has' counts' counts'' =
      let one = matched_at x rule has counts' in
      let two = matched_at x other has' counts'' in
      let at = agreeing_reached sys ok rules agree x.state reached.0 in
      let first = counts_where rules x.state one.0 one.1 one.3 in
      let act = agree x.state first.0 one.0 at first.1 one.1 one.3 in
      let act' = agree x.state first.0 two.0 at first.1 two.1 two.3 in
      record {
        action = sym (ap (λ (r : ContextRule). r.action) one.2) ∙ act ∙ sym act' ∙ ap (λ (r : ContextRule). r.action) two.2;
        next = sym (ap (λ (r : ContextRule). r.next) one.2) ∙ ap (λ (r : ContextRule). r.next) two.2;
      }

  reached_as_read : (s : Vector) → IsReached sys (run_table sys rules) s → IsReached sys (denoted sys rules) s
  reached_as_read s reached = reached_wider sys (run_table sys rules) (denoted sys rules) (run_denoted sys rules) s reached

  agree_of : HasOneMove sys (table class rules) → RulesAgree sys rules
  agree_of one s rule other reached is has matched =
      let x : Configuration = record { state = s; context = first_context } in
      let found = find-found (λ (r : PlanRule). matches r.cube s) rules rule is in
      (one x (reached_as_read s reached, refl) (in_one_context other) (in_one_context rule) (Contains-map in_one_context rules other has) (Contains-map in_one_context rules rule found.0) matched found.1).action

  controls : AreGoodAsRun class sys rules → AreGoodUnlisted class sys rules
  controls good = record {
    followed = agreeing_followed sys ok rules good.agree class good.solve;
    solve = agreeing_solve sys ok rules good.agree class good.solve;
    run_solve = good.solve.solves;
    one_move = one_move_of good.agree;
    no_hidden_rule = not_hidden good.each_counts;
  }

  controlled : AreGoodUnlisted class sys rules → AreGoodAsRun class sys rules
  controlled good = record {
    solve = record {
      followed = λ s rule reached is.
          let found = find-found (λ (r : PlanRule). matches r.cube s) rules rule is in
          good.followed s rule (reached_as_read s reached) found.0 found.1;
      solves = good.run_solve;
    };
    agree = agree_of good.one_move;
    each_counts = counts_behind good.no_hidden_rule;
  }

  pub good_as_run : AreGoodAsRun class sys rules ↔ AreGoodUnlisted class sys rules
  good_as_run = (controls, controlled)

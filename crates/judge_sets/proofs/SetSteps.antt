-- What one rule more makes of the sets of a table.
use Rattle.std.proofs.Common.{◌≡◌, ◌≢◌, ℕ, Bool, true, false, not, ◌&&◌, ◌||◌, ◌==◌, List, [], ◌∷◌, ◌++◌, Option, Some, None, find, cond, refl, sym, ap, ◌∙◌}
use Rattle.std.specs.List.{list_any}
use Rattle.std.specs.Option.{option_map_or}
use Rattle.std.proofs.Math.Path.{fun_ext}
use Rattle.std.proofs.lemmas.Bool.{eq-eqb, ne_eqb}
use Rattle.std.proofs.lemmas.List.Folds.{list_any-append}
use Rattle.dd_nodes.specs.NodeList.{Values}
use Rattle.dd_ops.specs.Operations.{and_of, minus_of, or_of}
use Rattle.plan_rules.specs.Rules.{PlanRule}
use Rattle.list_laws.proofs.Booleans.{or_none}
use Rattle.list_laws.proofs.Elements.{find-Some, find-found, list_any-false, list_any-from, list_any-none}
use Rattle.encode_task.specs.TaskSets.{cube_set}
use Rattle.judge_sets.specs.TableSets.{differ_set, matched_set, rule_at, taken_set}

-- the first of a list that passes, with more behind
module _ {X : Type 0} (p : X → Bool) where
  find_before : (xs ys : List X) (x : X) → find p xs ≡ Some x → find p (xs ++ ys) ≡ Some x
  find_before [] ys x e = absurd (cc)
  find_before (y ∷ xs) ys x e = go (p y) e (find_before xs ys x)
    where
      go : (b : Bool) → cond b (Some y) (find p xs) ≡ Some x → (find p xs ≡ Some x → find p (xs ++ ys) ≡ Some x) → cond b (Some y) (find p (xs ++ ys)) ≡ Some x
      go true e later = e
      go false e later = later e

  find_after : (xs ys : List X) → find p xs ≡ None → find p (xs ++ ys) ≡ find p ys
  find_after [] ys e = refl
  find_after (y ∷ xs) ys e = go (p y) e (find_after xs ys)
    where
      go : (b : Bool) → cond b (Some y) (find p xs) ≡ None → (find p xs ≡ None → find p (xs ++ ys) ≡ find p ys) → cond b (Some y) (find p (xs ++ ys)) ≡ find p ys
      go true e later = absurd (cc)
      go false e later = later e

  pub any_none : (xs : List X) → find p xs ≡ None → list_any p xs ≡ false
  any_none xs e = go (list_any p xs) refl
    where
      go : (b : Bool) → list_any p xs ≡ b → list_any p xs ≡ false
      go true h = let w = find-Some p xs h in let f : None ≡ Some w.0 = sym e ∙ w.1 in absurd (cc)
      go false h = h

  any_some : (xs : List X) (x : X) → find p xs ≡ Some x → list_any p xs ≡ true
  any_some xs x e = let f = find-found p xs x e in list_any-from p xs x f.0 f.1

module _ (before : List PlanRule) (rule : PlanRule) where
  abbrev passes : Values → PlanRule → Bool
  passes values r = cube_set r.cube values

  pub matched_is : or_of (matched_set before) (cube_set rule.cube) ≡ matched_set (before ++ rule ∷ [])
  matched_is = fun_ext (λ values. ap (λ b. matched_set before values || b) (or_none (cube_set rule.cube values)) ∙ sym (list_any-append (passes values) before (rule ∷ [])))

  -- what an action takes
  abbrev tells : ℕ → Option PlanRule → Bool
  tells a o = option_map_or (λ (r : PlanRule). r.action == a) o false

  one_rule : (c : Bool) (a : ℕ) → a ≡ rule.action → (false || (c && not false)) ≡ tells a (cond c (Some rule) None)
  one_rule true a same = sym (eq-eqb rule.action a (sym same))
  one_rule false a same = refl

  or_nothing : (x c : Bool) → (x || (c && not true)) ≡ x
  or_nothing true c = refl
  or_nothing false true = refl
  or_nothing false false = refl

  taken_at : (a : ℕ) → a ≡ rule.action → (values : Values) (o : Option PlanRule) → rule_at before values ≡ o
      → (taken_set before a values || (cube_set rule.cube values && not (matched_set before values))) ≡ taken_set (before ++ rule ∷ []) a values
  taken_at a same values None e =
      ap (λ m. taken_set before a values || (cube_set rule.cube values && not m)) (any_none (passes values) before e)
      ∙ ap (λ (o : Option PlanRule). tells a o || (cube_set rule.cube values && not false)) e
      ∙ one_rule (cube_set rule.cube values) a same
      ∙ sym (ap (tells a) (find_after (passes values) before (rule ∷ []) e))
  taken_at a same values (Some first) e =
      ap (λ m. taken_set before a values || (cube_set rule.cube values && not m)) (any_some (passes values) before first e)
      ∙ or_nothing (taken_set before a values) (cube_set rule.cube values)
      ∙ ap (tells a) e
      ∙ sym (ap (tells a) (find_before (passes values) before (rule ∷ []) first e))

  pub taken_is : (a : ℕ) → a ≡ rule.action → or_of (taken_set before a) (minus_of (cube_set rule.cube) (matched_set before)) ≡ taken_set (before ++ rule ∷ []) a
  taken_is a same = fun_ext (λ values. taken_at a same values (rule_at before values) refl)

  -- and what the others take
  not_rule : (c : Bool) (a : ℕ) → a ≢ rule.action → false ≡ tells a (cond c (Some rule) None)
  not_rule true a differs = sym (ne_eqb rule.action a (λ e. differs (sym e)))
  not_rule false a differs = refl

  others_at : (a : ℕ) → a ≢ rule.action → (values : Values) (o : Option PlanRule) → rule_at before values ≡ o → taken_set before a values ≡ taken_set (before ++ rule ∷ []) a values
  others_at a differs values None e =
      ap (tells a) e ∙ not_rule (cube_set rule.cube values) a differs ∙ sym (ap (tells a) (find_after (passes values) before (rule ∷ []) e))
  others_at a differs values (Some first) e =
      ap (tells a) e ∙ sym (ap (tells a) (find_before (passes values) before (rule ∷ []) first e))

  pub others_take : (a : ℕ) → a ≢ rule.action → taken_set before a ≡ taken_set (before ++ rule ∷ []) a
  others_take a differs = fun_ext (λ values. others_at a differs values (rule_at before values) refl)

  -- where rules differ
  abbrev differs_from : Values → PlanRule → PlanRule → Bool
  differs_from values first r = cube_set r.cube values && not (first.action == r.action)

  abbrev differ_of : Values → List PlanRule → Option PlanRule → Bool
  differ_of values rules o = option_map_or (λ (first : PlanRule). list_any (differs_from values first) rules) o false

  none_differ : (values : Values) (first : PlanRule) → list_any (passes values) before ≡ false → list_any (differs_from values first) before ≡ false
  none_differ values first none =
      list_any-none (differs_from values first) before (λ r has. ap (λ b. b && not (first.action == r.action)) (list_any-false (passes values) before r none has))

  itself : (c : Bool) → (c && not (rule.action == rule.action)) ≡ false
  itself true = ap not (eq-eqb rule.action rule.action refl)
  itself false = refl

  first_one : (values : Values) (c : Bool) → cube_set rule.cube values ≡ c → list_any (passes values) before ≡ false
      → (false || ((c && false) && not (taken_set before rule.action values))) ≡ differ_of values (before ++ rule ∷ []) (cond c (Some rule) None)
  first_one values true e none = sym (
      list_any-append (differs_from values rule) before (rule ∷ [])
      ∙ ap (λ b. b || ((cube_set rule.cube values && not (rule.action == rule.action)) || false)) (none_differ values rule none)
      ∙ ap (λ b. b || false) (itself (cube_set rule.cube values)))
  first_one values false e none = refl

  or_last : (x c t : Bool) → (x || ((c && true) && t)) ≡ (x || ((c && t) || false))
  or_last true c t = refl
  or_last false true true = refl
  or_last false true false = refl
  or_last false false t = refl

  differ_at : (values : Values) (o : Option PlanRule) → rule_at before values ≡ o
      → (differ_set before values || ((cube_set rule.cube values && matched_set before values) && not (taken_set before rule.action values))) ≡ differ_set (before ++ rule ∷ []) values
  differ_at values None e =
      let none = any_none (passes values) before e in
      ap (λ m. differ_set before values || ((cube_set rule.cube values && m) && not (taken_set before rule.action values))) none
      ∙ ap (λ (o : Option PlanRule). differ_of values before o || ((cube_set rule.cube values && false) && not (taken_set before rule.action values))) e
      ∙ first_one values (cube_set rule.cube values) refl none
      ∙ sym (ap (differ_of values (before ++ rule ∷ [])) (find_after (passes values) before (rule ∷ []) e))
  differ_at values (Some first) e =
      ap (λ m. differ_set before values || ((cube_set rule.cube values && m) && not (taken_set before rule.action values))) (any_some (passes values) before first e)
      ∙ ap (λ (o : Option PlanRule). differ_of values before o || ((cube_set rule.cube values && true) && not (tells rule.action o))) e
      ∙ or_last (list_any (differs_from values first) before) (cube_set rule.cube values) (not (first.action == rule.action))
      ∙ sym (list_any-append (differs_from values first) before (rule ∷ []))
      ∙ sym (ap (differ_of values (before ++ rule ∷ [])) (find_before (passes values) before (rule ∷ []) first e))

  pub differ_is : or_of (differ_set before) (minus_of (and_of (cube_set rule.cube) (matched_set before)) (taken_set before rule.action)) ≡ differ_set (before ++ rule ∷ [])
  differ_is = fun_ext (λ values. differ_at values (rule_at before values) refl)

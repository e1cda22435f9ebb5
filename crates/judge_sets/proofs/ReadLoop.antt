-- How far the rules are read.
use Rattle.std.proofs.Common.{◌≡◌, ◌↔◌, ◌⊎◌, IsTrue, ℕ, zero, suc, ◌+◌, ◌<◌, ◌≤◌, Bool, true, ◌&&◌, List, [], ◌∷◌, ◌++◌, drop, get_or, length, map, take, take-suc, take_all, refl, sym, ap, subst, ◌∙◌, inl, inr, ⊎_elim, arith}
use Rattle.std.proofs.lemmas.Bool.{and_from, and_parts}
use Rattle.std.proofs.lemmas.List.{length-map}
use Rattle.task_core.specs.Systems.{System}
use Rattle.plan_rules.specs.Rules.{PlanRule, rule_of}
use Rattle.plan_rules.specs.declared.rules.Rule.{Rule}
use Rattle.first_match.specs.FirstMatch.{CountsBehind, EachRuleCounts}
use Rattle.judge_sets.specs.Places.{IsNextRule, Scene}

split_at : {X : Type 0} (xs : List X) (i : ℕ) (d : X) → i < length xs → xs ≡ take i xs ++ get_or xs i d ∷ drop (suc i) xs
split_at [] i d within = absurd (omega (arith, within))
split_at (x ∷ xs) zero d within = refl
split_at (x ∷ xs) (suc i) d within = ap (λ (ys : List _). x ∷ ys) (split_at xs i d (omega (arith, within)))

map_at : {X Y : Type 0} (f : X → Y) (xs : List X) (i : ℕ) (d : X) → get_or (map f xs) i (f d) ≡ f (get_or xs i d)
map_at f [] i d = refl
map_at f (x ∷ xs) zero d = refl
map_at f (x ∷ xs) (suc i) d = map_at f xs i d

module _ (scene : Scene) (rules : List Rule) (are : scene.rules ≡ map rule_of rules) (i : ℕ) (x : Rule) (within : i < length rules) (is : x ≡ get_or rules i x) where
  within_scene : i < length scene.rules
  within_scene = let e : length scene.rules ≡ length rules = ap length are ∙ length-map rules rule_of in omega arith

  item : get_or scene.rules i (rule_of x) ≡ rule_of x
  item = ap (λ (ys : List PlanRule). get_or ys i (rule_of x)) are ∙ map_at rule_of rules i x ∙ ap rule_of (sym is)

  pub next_rule : IsNextRule scene (take i scene.rules) (rule_of x)
  next_rule = (drop (suc i) scene.rules, split_at scene.rules i (rule_of x) within_scene ∙ ap (λ (r : PlanRule). take i scene.rules ++ r ∷ drop (suc i) scene.rules) item)

  pub rules_more : take i scene.rules ++ rule_of x ∷ [] ≡ take (i + 1) scene.rules
  rules_more =
      ap (λ (r : PlanRule). take i scene.rules ++ r ∷ []) (sym item) ∙ sym (take-suc scene.rules i (rule_of x) within_scene)
      ∙ ap (λ k. take k scene.rules) (let e : suc i ≡ i + 1 = omega arith in e)

pub all_read : (scene : Scene) (rules : List Rule) → scene.rules ≡ map rule_of rules → (i : ℕ) → length rules ≤ i → take i scene.rules ≡ scene.rules
all_read scene rules are i past = take_all i scene.rules (let e : length scene.rules ≡ length rules = ap length are ∙ length-map rules rule_of in omega arith)

-- whether each counts
pub none_counts : (sys : System) → IsTrue true ↔ EachRuleCounts sys []
none_counts sys = ((λ h before rule after e. absurd (none before rule after e)), (λ w. refl))
  where
    none : (before : List PlanRule) (x : PlanRule) (after : List PlanRule) → [] ≡ before ++ x ∷ after → ⊥
    none [] x after e = cc
    none (y ∷ before) x after e = cc

-- where a list with one element behind is split
split_behind : {X : Type 0} (xs : List X) (x : X) (before : List X) (y : X) (after : List X) → xs ++ x ∷ [] ≡ before ++ y ∷ after → ((xs ≡ before) × (x ≡ y)) ⊎ ((more : List X) × (xs ≡ before ++ y ∷ more))
split_behind [] x [] y after e = inl (refl, (let f = e in cc))
split_behind [] x (b ∷ []) y after e = absurd (cc)
split_behind [] x (b ∷ (d ∷ before)) y after e = absurd (cc)
split_behind (z ∷ xs) x [] y after e = inr (xs, ap (λ w. w ∷ xs) (let f : z ≡ y = cc in f))
split_behind {X} (z ∷ xs) x (b ∷ before) y after e =
    let same : z ≡ b = cc in
    let rest : xs ++ x ∷ [] ≡ before ++ y ∷ after = cc in
    ⊎_elim
    (λ (both : (xs ≡ before) × (x ≡ y)). inl (ap (λ w. w ∷ xs) same ∙ ap (λ (ws : List X). b ∷ ws) both.0, both.1))
    (λ (later : (more : List X) × (xs ≡ before ++ y ∷ more)). inr (later.0, ap (λ w. w ∷ xs) same ∙ ap (λ (ws : List X). b ∷ ws) later.1))
    (split_behind xs x before y after rest)

append_more : {X : Type 0} (before : List X) (y : X) (more : List X) (x : X) → (before ++ y ∷ more) ++ x ∷ [] ≡ before ++ y ∷ (more ++ x ∷ [])
append_more [] y more x = refl
append_more {X} (b ∷ before) y more x = ap (λ (ws : List X). b ∷ ws) (append_more before y more x)

pub counts_more : (sys : System) (before : List PlanRule) (rule : PlanRule) (each counts both : Bool) → both ≡ (each && counts)
    → (IsTrue each ↔ EachRuleCounts sys before) → (IsTrue counts ↔ CountsBehind sys before rule) → IsTrue both ↔ EachRuleCounts sys (before ++ rule ∷ [])
counts_more sys before rule each counts both is all one = (
  (λ h front x after e.
      let parts = and_parts each counts (sym is ∙ h) in
      ⊎_elim
      (λ (here : (before ≡ front) × (rule ≡ x)).
      subst (λ (f : List PlanRule). CountsBehind sys f x) here.0 (subst (CountsBehind sys before) here.1 (one.0 parts.1)))
      (λ (there : (more : List PlanRule) × (before ≡ front ++ x ∷ more)). all.0 parts.0 front x there.0 there.1)
      (split_behind before rule front x after e)),
  (λ w.
      is
      ∙ and_from each counts (all.1 (λ front x after e. w front x (after ++ rule ∷ []) (ap (λ (xs : List PlanRule). xs ++ rule ∷ []) e ∙ append_more front x after rule)))
      (one.1 (w before rule [] refl))),
)

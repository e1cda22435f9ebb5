-- How many fluents outcomes leave alone.
use Rattle.std.proofs.Common.{◌≡◌, ℕ, zero, suc, ◌+◌, ◌<◌, ◌≤◌, Bool, true, false, not, cond, ◌||◌, List, [], ◌∷◌, ◌++◌, is_some, map, Vec, refl, sym, ap, subst, ◌∙◌, ⊎_elim, arith}
use Rattle.std.specs.List.{list_any}
use Rattle.std.specs.declared.alloc.Global.{Global}
use Rattle.std.proofs.lemmas.Bool.{cases_lt}
use Rattle.task_core.specs.declared.literals.FluentId.{FluentId}
use Rattle.dd_sets.specs.LiveSets.{listed_set}
use Rattle.dd_sets.specs.declared.slots.SetId.{SetId}
use Rattle.encode_task.specs.Counts.{count_below, leaves, action_leaves, some_leaves, left_by, left_in_outcomes, left_in_actions}
use Rattle.encode_task.specs.Seen.{slots_of}
use Rattle.encode_task.specs.Slots.{ActionSlots}
use Rattle.encode_task.specs.declared.action_sets.ActionSets.{ActionSets}
use Rattle.encode_task.proofs.StepLemmas.{listing, old, new, none}

bit_within : (a b : Bool) → (a ≡ true → b ≡ true) → cond a 1 0 ≤ cond b 1 0
bit_within false b step = omega arith
bit_within true true step = omega arith
bit_within true false step = absurd (let e : ◌≡◌ {A = Bool} false true = step refl in cc)

bit_or : (a b : Bool) → cond (a || b) 1 0 ≤ cond a 1 0 + cond b 1 0
bit_or true b = omega arith
bit_or false b = omega arith

count_within : (p q : ℕ → Bool) → ((f : ℕ) → p f ≡ true → q f ≡ true) → (n : ℕ) → count_below p n ≤ count_below q n
count_within p q step zero = omega arith
count_within p q step (suc n) = omega (arith, bit_within (p n) (q n) (step n), count_within p q step n)

count_less : (p q : ℕ → Bool) → ((f : ℕ) → p f ≡ true → q f ≡ true) → (g : ℕ) → p g ≡ false → q g ≡ true → (n : ℕ) → g < n → count_below p n + 1 ≤ count_below q n
count_less p q step g out in_q zero within = absurd (omega arith)
count_less p q step g out in_q (suc n) within = ⊎_elim
    (λ (deeper : g < n). omega (arith, bit_within (p n) (q n) (step n), count_less p q step g out in_q n deeper))
    (λ (here : n ≤ g).
    let same : g ≡ n = omega arith in
    let low : ◌≡◌ {A = ℕ} (cond (p n) 1 0) 0 = ap (λ b. cond b 1 0) (ap p (sym same) ∙ out) in
    let high : ◌≡◌ {A = ℕ} (cond (q n) 1 0) 1 = ap (λ b. cond b 1 0) (ap q (sym same) ∙ in_q) in
    omega (arith, count_within p q step n))
    (cases_lt g n)

count_or : (p q : ℕ → Bool) (n : ℕ) → count_below (λ f. p f || q f) n ≤ count_below p n + count_below q n
count_or p q zero = omega arith
count_or p q (suc n) = omega (arith, bit_or (p n) (q n), count_or p q n)

count_none : (n : ℕ) → count_below (λ f. false) n ≡ 0
count_none zero = refl
count_none (suc n) = omega (arith, count_none n)

-- an outcome that changes nothing leaves all fluents alone
pub left_all : (n : ℕ) → left_by n [] ≡ n
left_all zero = refl
left_all (suc n) = omega (arith, left_all n)

-- one fluent more that is listed is one less that is left alone
pub left_less : (n : ℕ) (changed : List (FluentId × SetId)) (e : FluentId × SetId) → is_some (listed_set changed e.0.0) ≡ false → e.0.0 < n
    → left_by n (changed ++ e ∷ []) + 1 ≤ left_by n changed
left_less n changed e unlisted within =
    count_less (λ f. leaves f (changed ++ e ∷ [])) (λ f. leaves f changed) fewer e.0.0 out (ap not unlisted) n within
  where
    fewer : (f : ℕ) → leaves f (changed ++ e ∷ []) ≡ true → leaves f changed ≡ true
    fewer f left = elim (listing changed e f) [
      | old slot before after ↦ absurd (let n : not (is_some (listed_set (changed ++ e ∷ []) f)) ≡ false = ap (λ o. not (is_some o)) after in cc)
      | new same after ↦ absurd (let n : not (is_some (listed_set (changed ++ e ∷ []) f)) ≡ false = ap (λ o. not (is_some o)) after in cc)
      | none differs before after ↦ ap (λ o. not (is_some o)) before
    ]

    out : leaves e.0.0 (changed ++ e ∷ []) ≡ false
    out = elim (listing changed e e.0.0) [
      | old slot before after ↦ ap (λ o. not (is_some o)) after
      | new same after ↦ ap (λ o. not (is_some o)) after
      | none differs before after ↦ absurd (differs refl)
    ]

-- one outcome more, one action more
pub left_more_outcomes : (n : ℕ) (outcomes : List (List (FluentId × SetId))) (x : List (FluentId × SetId)) → left_in_outcomes n (outcomes ++ x ∷ []) ≡ left_in_outcomes n outcomes + left_by n x
left_more_outcomes n [] x = omega arith
left_more_outcomes n (y ∷ outcomes) x = omega (arith, left_more_outcomes n outcomes x)

pub left_more_actions : (n : ℕ) (actions : List ActionSlots) (x : ActionSlots) → left_in_actions n (actions ++ x ∷ []) ≡ left_in_actions n actions + left_in_outcomes n x.outcomes
left_more_actions n [] x = omega arith
left_more_actions n (y ∷ actions) x = omega (arith, left_more_actions n actions x)

-- no more fluents are left alone by some outcome than by all outcomes one by one
few_left_outcomes : (n : ℕ) (outcomes : List (List (FluentId × SetId))) → count_below (λ f. list_any (leaves f) outcomes) n ≤ left_in_outcomes n outcomes
few_left_outcomes n [] = omega (arith, count_none n)
few_left_outcomes n (x ∷ outcomes) = omega (arith, count_or (λ f. leaves f x) (λ f. list_any (leaves f) outcomes) n, few_left_outcomes n outcomes)

pub few_left : (n : ℕ) (actions : List ActionSlots) → count_below (some_leaves actions) n ≤ left_in_actions n actions
few_left n [] = omega (arith, count_none n)
few_left n (x ∷ actions) = omega (arith, count_or (λ f. action_leaves f x) (some_leaves actions) n, few_left_outcomes n x.outcomes, few_left n actions)

-- fewer among fewer
pub count_up : (p : ℕ → Bool) (few many : ℕ) → few ≤ many → count_below p few ≤ count_below p many
count_up p few zero within = let e : few ≡ 0 = omega arith in subst (λ k. count_below p k ≤ 0) (sym e) (omega arith)
count_up p few (suc many) within = ⊎_elim
    (λ (less : few < suc many). omega (arith, count_up p few many (omega arith)))
    (λ (all : suc many ≤ few). let e : few ≡ suc many = omega arith in subst (λ k. count_below p k ≤ count_below p (suc many)) (sym e) (omega arith))
    (cases_lt few (suc many))

-- one number more
pub count_next : (p : ℕ → Bool) (n : ℕ) → count_below p (n + 1) ≡ cond (p n) 1 0 + count_below p n
count_next p n = let e : n + 1 ≡ suc n = omega arith in ap (count_below p) e

-- whether some outcome leaves a fluent alone, by what the program keeps
outcomes_leave : (f : ℕ) (outcomes : List (Vec (FluentId × SetId) Global)) → list_any (λ (changed : Vec (FluentId × SetId) Global). leaves f changed.items) outcomes ≡ list_any (leaves f) (map (λ changed. changed.items) outcomes)
outcomes_leave f [] = refl
outcomes_leave f (x ∷ outcomes) = ap (λ b. leaves f x.items || b) (outcomes_leave f outcomes)

pub actions_leave : (f : ℕ) (actions : List ActionSets) → list_any (λ (action : ActionSets). list_any (λ (changed : Vec (FluentId × SetId) Global). leaves f changed.items) action.outcomes.items) actions ≡ some_leaves (map slots_of actions) f
actions_leave f [] = refl
actions_leave f (x ∷ actions) = (λ i. outcomes_leave f x.outcomes.items i || actions_leave f actions i)

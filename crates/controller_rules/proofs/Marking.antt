-- Marks that say which rules serve, and the rules that are marked.
use Rattle.std.proofs.Common.{◌≡◌, ◌⊎◌, ◌+◌, ◌++◌, ◌<◌, ◌≤◌, ℕ, zero, suc, Bool, true, false, cond, List, [], ◌∷◌, length, drop, get_or, map, max, take, Some, None, inl, inr, refl, sym, ap, ◌∙◌, subst, arith}
use Rattle.std.proofs.lemmas.Bool.{cases_lt, false≢true}
use Rattle.std.proofs.lemmas.List.{get_or_default, length-map, take-map}
use Rattle.cube_index.specs.Places.{IsFirstTrue}
use Rattle.exec_graph.specs.Graphs.{PlainGraph}
use Rattle.plan_rules.specs.Rules.{ContextRule}
use Rattle.task_core.specs.ContextPlans.{Configuration}
use Rattle.task_core.specs.States.{vector}
use Rattle.task_core.specs.declared.states.State.{State}
use Rattle.std.specs.List.{All}
use Rattle.std.proofs.lemmas.List.Elements.{All-cons, All-contains, All-head, All-nil, All-tail}
use Rattle.list_laws.proofs.Elements.{Contains-map}
use Rattle.plan_document.specs.Faithful.{IsOneNext, IsToldRule}
use Rattle.rule_lookup.specs.RunRules.{run_rules}
use Rattle.plan_rules.specs.Plans.{IsContextOf, IsContextRuleOf, IsNextOf, IsPlainPlanOf, IsRuleOf}
use Rattle.plan_rules.specs.Rules.{PlainPlan, always, automaton, context_rule_of, next_of, table}
use Rattle.plan_rules.specs.declared.rules.AutoRule.{AutoRule}
use Rattle.controller_rules.proofs.Graphs.{place_is}
use Rattle.controller_rules.specs.declared.run_rules.RunRule.{RunRule}
use Rattle.controller_rules.specs.AsRun.{IsFirstAt, counts_at}
use Rattle.controller_rules.specs.Checks.{ServesIn, place_of, run_value}
use Rattle.controller_rules.specs.Serving.{MarkServing, greatest_named, marked, marked_part, next_named}

-- the first rule that counts in a configuration is the one of this number
pub first_is : (rules : List ContextRule) (x : Configuration) (len first k : ℕ) → IsFirstTrue (map (counts_at x) rules) 0 len (Some first) → IsFirstAt rules x k → k ≡ first
first_is rules x len first k (low, high, counts, none) is = by_order (cases_lt k first) (cases_lt first k)
  where
    by_order : (k < first) ⊎ (first ≤ k) → (first < k) ⊎ (k ≤ first) → k ≡ first
    by_order (inl before) q = absurd (false≢true (sym (none k (omega arith) before) ∙ is.counts))
    by_order (inr p) (inl after) = absurd (false≢true (sym (is.first first after) ∙ counts))
    by_order (inr late) (inr early) = omega (arith, late, early)

-- past the end nothing is true
beyond : (bs : List Bool) (k : ℕ) → length bs ≤ k → get_or bs k false ≡ false
beyond [] k past = refl
beyond (b ∷ bs) zero past = absurd (omega arith)
beyond (b ∷ bs) (suc k) past = beyond bs k (omega arith)

-- and where none counts there is no first
pub none_first : (rules : List ContextRule) (x : Configuration) (len k : ℕ) → length (map (counts_at x) rules) ≤ len → IsFirstTrue (map (counts_at x) rules) 0 len None → IsFirstAt rules x k → ⊥
none_first rules x len k long none is = by_place (cases_lt k len)
  where
    by_place : (k < len) ⊎ (len ≤ k) → ⊥
    by_place (inl inside) = false≢true (sym (none k (omega arith) inside) ∙ is.counts)
    by_place (inr past) = false≢true (sym (beyond (map (counts_at x) rules) k (omega (arith, long, past))) ∙ is.counts)

-- one configuration more
pub serving_more : (n : ℕ) (rules : List ContextRule) (graph : PlainGraph) (number : ℕ) (state : State) (context : ℕ) → (graph.configuration number).state ≡ vector n state
    → (graph.configuration number).context ≡ context → (marks marks' : List Bool)
    → ((i k : ℕ) → i < number → IsFirstAt rules (graph.configuration i) k → get_or marks k false ≡ true)
    → ((k : ℕ) → get_or marks k false ≡ true → get_or marks' k false ≡ true)
    → ((k : ℕ) → IsFirstAt rules (place_of n state context) k → get_or marks' k false ≡ true)
    → (i k : ℕ) → i < number + 1 → IsFirstAt rules (graph.configuration i) k → get_or marks' k false ≡ true
serving_more n rules graph number state context state_is context_is marks marks' before kept here i k less first = by_place (cases_lt i number)
  where
    by_place : (i < number) ⊎ (number ≤ i) → get_or marks' k false ≡ true
    by_place (inl early) = kept k (before i k early first)
    by_place (inr late) =
        let is : i ≡ number = omega (arith, less, late) in
        here k (subst (λ x. IsFirstAt rules x k) (sym (place_is n (graph.configuration number) state context state_is context_is)) (subst (λ j. IsFirstAt rules (graph.configuration j) k) is first))

-- once all were looked at, each mark says whether its rule serves
pub marks_say : (rules : List ContextRule) (graph : PlainGraph) (marks : List Bool) (number : ℕ) → length marks ≡ length rules → graph.size ≤ number
    → ((k : ℕ) → get_or marks k false ≡ true → ServesIn rules graph k)
    → ((i k : ℕ) → i < number → IsFirstAt rules (graph.configuration i) k → get_or marks k false ≡ true) → MarkServing rules graph marks
marks_say rules graph marks number long all marked' serving = record {
  one_each = long;
  serving = λ k. (marked' k, λ serves. let below = serves.below in serving serves.node k (omega (arith, below, all)) serves.first);
}

-- one element more of those that are marked
onto : {X : Type 0} (b : Bool) (x : X) (xs ys : List X) → x ∷ cond b (xs ++ ys) xs ≡ cond b ((x ∷ xs) ++ ys) (x ∷ xs)
onto true x xs ys = refl
onto false x xs ys = refl

none_marked : {X : Type 0} (n : ℕ) (xs : List X) → marked (take n []) (take n xs) ≡ []
none_marked zero xs = refl
none_marked (suc n) xs = refl

marked_suc : {X : Type 0} (marks : List Bool) (xs : List X) (n : ℕ) (d : X) → n < length xs
    → marked (take (suc n) marks) (take (suc n) xs) ≡ cond (get_or marks n false) (marked (take n marks) (take n xs) ++ get_or xs n d ∷ []) (marked (take n marks) (take n xs))
marked_suc [] xs n d below = sym (none_marked n xs)
marked_suc (mark ∷ marks) [] n d below = absurd (omega arith)
marked_suc (true ∷ marks) (x ∷ xs) zero d below = refl
marked_suc (false ∷ marks) (x ∷ xs) zero d below = refl
marked_suc (true ∷ marks) (x ∷ xs) (suc n) d below =
    ap (λ ys. x ∷ ys) (marked_suc marks xs n d (omega arith)) ∙ onto (get_or marks n false) x (marked (take n marks) (take n xs)) (get_or xs n d ∷ [])
marked_suc (false ∷ marks) (x ∷ xs) (suc n) d below = marked_suc marks xs n d (omega arith)

pub marked_more : {X Y : Type 0} (f : X → Y) (marks : List Bool) (xs : List X) (n : ℕ) (x : X) (is : Bool) (before after : List Y) → n < length xs → x ≡ get_or xs n x → is ≡ get_or marks n false
    → before ≡ marked (take n marks) (map f (take n xs)) → after ≡ cond is (before ++ f x ∷ []) before → after ≡ marked (take (n + 1) marks) (map f (take (n + 1) xs))
marked_more {X} {Y} f marks xs n x is before after below here mark was now =
    let next : n + 1 ≡ suc n = omega arith in
    subst (λ m. after ≡ marked (take m marks) (map f (take m xs))) (sym next)
    (now ∙ ap (λ (b : Bool). cond b (before ++ f x ∷ []) before) mark ∙ ap (λ (ys : List Y). cond (get_or marks n false) (ys ++ f x ∷ []) ys) was ∙ step)
  where
    at-map : (m : ℕ) (zs : List X) (d : X) → get_or (map f zs) m (f d) ≡ f (get_or zs m d)
    at-map m [] d = refl
    at-map zero (z ∷ zs) d = refl
    at-map (suc m) (z ∷ zs) d = at-map m zs d

    step : cond (get_or marks n false) (marked (take n marks) (map f (take n xs)) ++ f x ∷ []) (marked (take n marks) (map f (take n xs))) ≡ marked (take (suc n) marks) (map f (take (suc n) xs))
    step =
        ap (λ (ys : List Y). cond (get_or marks n false) (marked (take n marks) ys ++ f x ∷ []) (marked (take n marks) ys)) (sym (take-map f n xs))
        ∙ ap (λ (y : Y). cond (get_or marks n false) (marked (take n marks) (take n (map f xs)) ++ y ∷ []) (marked (take n marks) (take n (map f xs)))) (ap f here ∙ sym (at-map n xs x))
        ∙ sym (marked_suc marks (map f xs) n (f x) (subst (λ m. n < m) (sym (length-map xs f)) below))
        ∙ ap (marked (take (suc n) marks)) (take-map f (suc n) xs)

-- the same of an element that is copied
pub marked_more_at : {X Y : Type 0} (f : X → Y) (marks : List Bool) (xs : List X) (n : ℕ) (d : X) (is : Bool) (before after : List Y) → n < length xs → is ≡ get_or marks n false
    → before ≡ marked (take n marks) (map f (take n xs)) → after ≡ cond is (before ++ f (get_or xs n d) ∷ []) before → after ≡ marked (take (n + 1) marks) (map f (take (n + 1) xs))
marked_more_at f marks xs n d is before after below mark was now =
    marked_more f marks xs n (get_or xs n d) is before after below (get_or_default xs n d (get_or xs n d) below) mark was now

-- all of them
marked_all : {X : Type 0} (marks : List Bool) (xs : List X) (n : ℕ) → length xs ≤ n → marked (take n marks) (take n xs) ≡ marked marks xs
marked_all [] xs n all = none_marked n xs
marked_all (mark ∷ marks) [] zero all = refl
marked_all (mark ∷ marks) [] (suc n) all = refl
marked_all (mark ∷ marks) (x ∷ xs) zero all = absurd (omega arith)
marked_all (true ∷ marks) (x ∷ xs) (suc n) all = ap (λ ys. x ∷ ys) (marked_all marks xs n (omega arith))
marked_all (false ∷ marks) (x ∷ xs) (suc n) all = marked_all marks xs n (omega arith)

pub marked_whole : {X Y : Type 0} (f : X → Y) (marks : List Bool) (xs : List X) (n : ℕ) (done : List Y) → length xs ≤ n → done ≡ marked (take n marks) (map f (take n xs)) → done ≡ marked marks (map f xs)
marked_whole {X} {Y} f marks xs n done all is = is ∙ ap (marked (take n marks)) (sym (take-map f n xs)) ∙ marked_all marks (map f xs) n (subst (λ m. m ≤ n) (sym (length-map xs f)) all)

-- the greatest context that is named is no less than the first
pub some_greatest : (rules : List ContextRule) → 1 ≤ greatest_named rules
some_greatest [] = omega arith
some_greatest (rule ∷ rules) = omega (arith, some_greatest rules)

-- one rule more
pub greatest_more : {X : Type 0} (f : X → ContextRule) (xs : List X) (i : ℕ) (x : X) (before after whole : ℕ) → i < length xs → x ≡ get_or xs i x
    → after ≡ max before (max (f x).context (next_named (f x).next)) → max before (greatest_named (map f (drop i xs))) ≡ whole → max after (greatest_named (map f (drop (i + 1) xs))) ≡ whole
greatest_more {X} f xs i x before after whole below here now was =
    let next : i + 1 ≡ suc i = omega arith in
    let split : drop i xs ≡ x ∷ drop (suc i) xs = parts xs i below here in
    let is : max before (max (max (f x).context (next_named (f x).next)) (greatest_named (map f (drop (suc i) xs)))) ≡ whole = sym (ap (λ (ys : List X). max before (greatest_named (map f ys))) split) ∙ was in
    subst (λ m. max after (greatest_named (map f (drop m xs))) ≡ whole) (sym next) (omega (arith, now, is))
  where
    parts : (ys : List X) (k : ℕ) → k < length ys → x ≡ get_or ys k x → drop k ys ≡ x ∷ drop (suc k) ys
    parts [] k less is = absurd (omega arith)
    parts (y ∷ ys) zero less is = ap (λ (z : X). z ∷ ys) (sym is)
    parts (y ∷ ys) (suc k) less is = parts ys k (omega arith) is

pub greatest_end : {X : Type 0} (f : X → ContextRule) (xs : List X) (i greatest whole : ℕ) → length xs ≤ i → 1 ≤ greatest → max greatest (greatest_named (map f (drop i xs))) ≡ whole → greatest ≡ whole
greatest_end {X} f xs i greatest whole all some is =
    let none : drop i xs ≡ [] = past xs i all in
    let end : max greatest 1 ≡ whole = sym (ap (λ (ys : List X). max greatest (greatest_named (map f ys))) none) ∙ is in
    omega (arith, some, end)
  where
    past : (ys : List X) (k : ℕ) → length ys ≤ k → drop k ys ≡ []
    past [] zero few = refl
    past [] (suc k) few = refl
    past (y ∷ ys) zero few = absurd (omega arith)
    past (y ∷ ys) (suc k) few = past ys k (omega arith)

-- a rule that goes on in one context
record GoesOnAs (n m contexts : ℕ) (rule : ContextRule) : Type 0 where
  of : IsContextRuleOf n m contexts rule
  next : ℕ
  is : rule.next ≡ always next

pub all_marked : {X : Type 0} (P : X → Type 0) (marks : List Bool) (xs : List X) → All P xs → All P (marked marks xs)
all_marked P [] xs all = All-nil P
all_marked P (mark ∷ marks) [] all = All-nil P
all_marked P (true ∷ marks) (x ∷ xs) all = All-cons P x (marked marks xs) (All-head P x xs all) (all_marked P marks xs (All-tail P x xs all))
all_marked P (false ∷ marks) (x ∷ xs) all = all_marked P marks xs (All-tail P x xs all)

go_on : (n m contexts : ℕ) (runs : List RunRule) → All (IsContextRuleOf n m contexts) (map run_value runs) → All (GoesOnAs n m contexts) (map run_value runs)
go_on n m contexts [] all = All-nil (GoesOnAs n m contexts)
go_on n m contexts (run ∷ runs) all =
    All-cons (GoesOnAs n m contexts) (run_value run) (map run_value runs)
    (record { of = All-head (IsContextRuleOf n m contexts) (run_value run) (map run_value runs) all; next = run.next; is = refl })
    (go_on n m contexts runs (All-tail (IsContextRuleOf n m contexts) (run_value run) (map run_value runs) all))

within_greatest : (n m contexts g : ℕ) (rules : List ContextRule) → greatest_named rules ≤ g → All (GoesOnAs n m contexts) rules → All (IsContextRuleOf n m g) rules
within_greatest n m contexts g [] few all = All-nil (IsContextRuleOf n m g)
within_greatest n m contexts g (rule ∷ rules) few all =
    let here = All-head (GoesOnAs n m contexts) rule rules all in
    let onward : IsContextOf contexts here.next = subst (IsNextOf n contexts) here.is here.of.next in
    let named : next_named rule.next ≡ here.next = ap next_named here.is in
    All-cons (IsContextRuleOf n m g) rule rules
    (record {
      context = record { first = here.of.context.first; last = omega (arith, few) };
      cube = here.of.cube;
      action = here.of.action;
      next = subst (IsNextOf n g) (sym here.is) (record { first = onward.first; last = omega (arith, few, named) });
    })
    (within_greatest n m contexts g rules (omega (arith, few)) (All-tail (GoesOnAs n m contexts) rule rules all))

greatest_within : (n m contexts : ℕ) (rules : List ContextRule) → 1 ≤ contexts → All (GoesOnAs n m contexts) rules → greatest_named rules ≤ contexts
greatest_within n m contexts [] some all = some
greatest_within n m contexts (rule ∷ rules) some all =
    let here = All-head (GoesOnAs n m contexts) rule rules all in
    let onward : IsContextOf contexts here.next = subst (IsNextOf n contexts) here.is here.of.next in
    let named : next_named rule.next ≡ here.next = ap next_named here.is in
    let own = here.of.context.last in
    let other = onward.last in
    omega (arith, own, other, named, greatest_within n m contexts rules some (All-tail (GoesOnAs n m contexts) rule rules all))

-- a part speaks of the task and of its contexts, as the plan does
pub part_within : (n m : ℕ) (marks : List Bool) (plan : PlainPlan) (runs : List RunRule) → map run_value runs ≡ run_rules plan → IsPlainPlanOf n m plan → IsPlainPlanOf n m (marked_part marks plan)
part_within n m marks (table class rules) runs is of = all_marked (IsRuleOf n m) marks rules of
part_within n m marks (automaton contexts rules) runs is of =
    let each = subst (All (GoesOnAs n m contexts)) is (go_on n m contexts runs (subst (All (IsContextRuleOf n m contexts)) (sym is) of.each)) in
    let kept = all_marked (GoesOnAs n m contexts) marks rules each in
    let most = of.number.last in
    record {
      number = record { first = some_greatest (marked marks rules); last = omega (arith, most, greatest_within n m contexts (marked marks rules) of.number.first kept) };
      each = within_greatest n m contexts (greatest_named (marked marks rules)) (marked marks rules) (omega arith) kept;
    }

-- a rule whose next context depends on the state isn't told in full
pub not_told : (rules : List AutoRule) (k : ℕ) (rule : AutoRule) → k < length rules → rule ≡ get_or rules k rule → (IsOneNext (next_of rule.next) → ⊥) → All IsToldRule (map context_rule_of rules) → ⊥
not_told rules k rule below is never told =
    never ((All-contains IsToldRule (map context_rule_of rules) (context_rule_of rule) told (Contains-map context_rule_of rules rule (k, below, sym is))).next)

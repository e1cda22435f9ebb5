-- The number of nodes of some functions is that of the nodes that are reached from their numbers.
use Rattle.std.proofs.Common.{◌≡◌, ◌≢◌, ℕ, zero, suc, ◌+◌, ◌<◌, ◌≤◌, Bool, true, false, not, ◌||◌, List, [], ◌∷◌, length, map, filter, flat_map, slice_index_or, refl, sym, ap, subst, ◌∙◌, ⊎_elim, arith, if◌then◌else◌}
use Rattle.std.specs.List.{All, AllPairs, Any, Contains, list_any, list_all}
use Rattle.std.proofs.lemmas.Bool.{cases_Bool, cases_lt, both_ways, or_left, or_right, or_cases, or_from, and_parts, and_from, cond-true, cond-false, not-true, not_from_false, false_from_ne_true}
use Rattle.std.proofs.lemmas.List.{length-map}
use Rattle.std.proofs.lemmas.List.Folds.{list_all-append, list_all-map}
use Rattle.dd_nodes.specs.declared.node.Node.{Node}
use Rattle.dd_nodes.specs.Laws.{AreReachedNodes}
use Rattle.dd_nodes.specs.NodeList.{IsNumber, function, IsReduced}
use Rattle.dd_nodes.specs.Reached.{IsReached}
use Rattle.dd_nodes.specs.Subfunctions.{Function, IsSubfunction, fixed, lists, lists_up_to, agree, subfunctions, count_different, nodes_beside, nodes, constants}
use Rattle.dd_nodes.proofs.NodeLemmas.{function_false, function_true}
use Rattle.dd_nodes.proofs.Canonicity.{canonical}
use Rattle.dd_nodes.proofs.Counting.{count, any_filter, any_weaker, Apart, covered, pigeonhole, count_covered}
use Rattle.dd_nodes.proofs.Agreement.{agree_same, agree_turn, agree_chain, agree_values, lists_from, part_listed}
use Rattle.dd_nodes.proofs.Dependence.{depends_number}
use Rattle.dd_nodes.proofs.Reaching.{reached_sub, sub_reached, reached_number}

-- the different functions of a list are counted up to agreement
pub count_is : (vars : ℕ) (fs : List Function) → count_different vars fs ≡ count (agree vars) fs
unfolding count_different count
count_is vars [] = refl
count_is vars (f ∷ fs) = ap (λ n. if list_any (agree vars f) fs then n else n + 1) (count_is vars fs)

-- numbers whose functions agree are equal
pub one_number : (nodes : List Node) (vars : ℕ) → IsReduced vars nodes → (m n : ℕ) → IsNumber nodes m → IsNumber nodes n → agree vars (function nodes m) (function nodes n) ≡ true → m ≡ n
one_number nodes vars reduced m n number_m number_n same = canonical vars nodes reduced m n number_m number_n
    (agree_values vars (function nodes m) (function nodes n) (depends_number vars nodes reduced m) (depends_number vars nodes reduced n) same)

-- what holds of each list of at most n truth values holds of all in `lists_up_to n`
pub lists_up_from : (p : List Bool → Bool) (n : ℕ) → ((first : List Bool) → length first ≤ n → p first ≡ true) → list_all p (lists_up_to n) ≡ true
unfolding lists_up_to
lists_up_from p zero each = and_from (p []) true (each [] (omega arith)) refl
lists_up_from p (suc n) each =
    list_all-append p (lists_up_to n) (lists (suc n))
    ∙ and_from (list_all p (lists_up_to n)) (list_all p (lists (suc n)))
    (lists_up_from p n (λ first few. each first (omega arith)))
    (lists_from p (suc n) (λ first long. each first (omega arith)))

-- what the elements that are kept pass, all of the filter passes
all_filter : {A : Type 0} (p keep : A → Bool) (xs : List A) → list_all (λ x. not (keep x) || p x) xs ≡ true → list_all p (filter keep xs) ≡ true
all_filter p keep [] all = refl
all_filter p keep (x ∷ xs) all =
    let parts = and_parts (not (keep x) || p x) (list_all (λ y. not (keep y) || p y) xs) all in
    let rest : list_all p (filter keep xs) ≡ true = all_filter p keep xs parts.1 in
    ⊎_elim
    (λ (kept : keep x ≡ true).
    let here : p x ≡ true = ⊎_elim (λ (left : not (keep x) ≡ true). absurd (both_ways (keep x) (not-true (keep x) left) kept)) (λ (passes : p x ≡ true). passes) (or_cases (not (keep x)) (p x) parts.0) in
    ap (list_all p) (cond-true (keep x) (x ∷ filter keep xs) (filter keep xs) kept) ∙ and_from (p x) (list_all p (filter keep xs)) here rest)
    (λ (left : keep x ≡ false). ap (list_all p) (cond-false (keep x) (x ∷ filter keep xs) (filter keep xs) left) ∙ rest)
    (cases_Bool (keep x))

all_flat_map : {X A : Type 0} (p : A → Bool) (h : X → List A) (g : ℕ → X) (xs : List ℕ) → ((k n : ℕ) → k < length xs → slice_index_or xs k n ≡ n → list_all p (h (g n)) ≡ true) → list_all p (flat_map h (map g xs)) ≡ true
all_flat_map p h g [] each = refl
all_flat_map p h g (x ∷ xs) each =
    list_all-append p (h (g x)) (flat_map h (map g xs))
    ∙ and_from (list_all p (h (g x))) (list_all p (flat_map h (map g xs))) (each zero x (omega arith) refl) (all_flat_map p h g xs (λ k y within at. each (suc k) y (omega arith) at))

-- a member stays in a map
at_map : {X Y : Type 0} (h : X → Y) (xs : List X) (k : ℕ) (x : X) → k < length xs → slice_index_or xs k x ≡ x → (k < length (map h xs)) × (slice_index_or (map h xs) k (h x) ≡ h x)
at_map h [] k x within at = absurd (omega arith)
at_map h (y ∷ xs) zero x within at = (omega arith, ap h at)
at_map h (y ∷ xs) (suc k) x within at =
    let rest = at_map h xs k x (omega arith) at in
    let inner : k < length (map h xs) = rest.0 in
    (omega arith, rest.1)

pub any_map : {X Y : Type 0} (P : X → Type 0) (Q : Y → Type 0) (h : X → Y) → ((x : X) → P x → Q (h x)) → (xs : List X) → Any P xs → Any Q (map h xs)
any_map P Q h follows xs (k, x, within, at, p) =
    let place = at_map h xs k x within at in
    (k, h x, place.0, place.1, follows x p)

-- what holds of the members of a list of numbers
all_members : (p : ℕ → Bool) (xs : List ℕ) → ((m : ℕ) → Contains xs m → p m ≡ true) → list_all p xs ≡ true
all_members p [] each = refl
all_members p (x ∷ xs) each = and_from (p x) (list_all p xs)
    (each x (zero, omega arith, refl))
    (all_members p xs (λ m member. let within : member.0 < length xs = member.1 in each m (suc member.0, omega arith, member.2)))

any_member : {A : Type 0} (p : A → Bool) (h : ℕ → A) (xs : List ℕ) (k m : ℕ) → k < length xs → slice_index_or xs k m ≡ m → p (h m) ≡ true → list_any p (map h xs) ≡ true
any_member p h [] k m within at here = absurd (omega arith)
any_member p h (x ∷ xs) zero m within at here = or_left (p (h x)) (list_any p (map h xs)) (ap (λ y. p (h y)) at ∙ here)
any_member p h (x ∷ xs) (suc k) m within at here = or_right (p (h x)) (list_any p (map h xs)) (any_member p h xs k m (omega arith) at here)

module _ (vars : ℕ) (list : List Node) (reduced : IsReduced vars list) where
  -- a number from 2 on has the function of no constant
  no_constant : (m : ℕ) → 2 ≤ m → IsNumber list m → list_any (agree vars (function list m)) constants ≡ false
  no_constant m large number = or_from (agree vars (function list m) (λ _. false)) (list_any (agree vars (function list m)) ((λ _. true) ∷ []))
      (false_from_ne_true (agree vars (function list m) (λ _. false)) (λ same.
      let e : m ≡ 0 = one_number list vars reduced m 0 number (omega arith)
      (agree_chain vars (function list m) (λ _. false) (function list 0) same (agree_same vars (λ _. false) (function list 0) (λ values. sym (function_false list values)))) in omega arith))
      (or_from (agree vars (function list m) (λ _. true)) false
      (false_from_ne_true (agree vars (function list m) (λ _. true)) (λ same.
      let e : m ≡ 1 = one_number list vars reduced m 1 number (omega arith)
      (agree_chain vars (function list m) (λ _. true) (function list 1) same (agree_same vars (λ _. true) (function list 1) (λ values. sym (function_true list values)))) in omega arith))
      refl)

  -- and a constant number has that of one
  a_constant : (m : ℕ) (g : Function) → m < 2 → agree vars g (function list m) ≡ true → list_any (agree vars g) constants ≡ true
  a_constant zero g small same = or_left (agree vars g (λ _. false)) (list_any (agree vars g) ((λ _. true) ∷ []))
      (agree_chain vars g (function list 0) (λ _. false) same (agree_same vars (function list 0) (λ _. false) (λ values. function_false list values)))
  a_constant (suc zero) g small same = or_right (agree vars g (λ _. false)) (list_any (agree vars g) ((λ _. true) ∷ []))
      (or_left (agree vars g (λ _. true)) false
      (agree_chain vars g (function list 1) (λ _. true) same (agree_same vars (function list 1) (λ _. true) (λ values. function_true list values))))
  a_constant (suc (suc m)) g small same = absurd (omega arith)

  -- the functions of different numbers are apart
  apart_map : (xs : List ℕ) → ((m : ℕ) → Contains xs m → IsNumber list m) → AllPairs (λ m n. m ≢ n) xs → Apart (agree vars) (map (function list) xs)
  apart_map [] numbers differ = tt
  apart_map (x ∷ xs) numbers differ = (
    none_member (agree vars (function list x)) xs (λ k y within at.
        false_from_ne_true (agree vars (function list x) (function list y)) (λ same.
        differ 0 (suc k) y (omega arith) (omega arith)
        (one_number list vars reduced x y (numbers x (zero, omega arith, refl)) (numbers y (suc k, omega arith, at)) same ∙ sym at))),
    apart_map xs (λ m member. let within : member.0 < length xs = member.1 in numbers m (suc member.0, omega arith, member.2)) (λ i j d less within. differ (suc i) (suc j) d (omega arith) (omega arith)),
  )
    where
      none_member : (p : Function → Bool) (xs : List ℕ) → ((k y : ℕ) → k < length xs → slice_index_or xs k y ≡ y → p (function list y) ≡ false) → list_any p (map (function list) xs) ≡ false
      none_member p [] each = refl
      none_member p (y ∷ ys) each = or_from (p (function list y)) (list_any p (map (function list) ys)) (each zero y (omega arith) refl)
          (none_member p ys (λ k z within at. each (suc k) z (omega arith) at))

  module _ (from reached : List ℕ) (numbers : All (IsNumber list) from) (are : AreReachedNodes list from reached) where
    member_number : (m : ℕ) → Contains reached m → IsNumber list m
    member_number m member =
        let root = ((are.all m).0 member).1 in
        reached_number vars list reduced root.1 m root.4 (subst (λ i. IsNumber list i) root.3 (numbers root.0 root.1 root.2))

    abbrev keep : Function → Bool
    keep g = not (list_any (agree vars g) constants)

    abbrev candidates : List Function
    candidates = flat_map (subfunctions vars) (map (function list) from)

    listed_here : covered (agree vars) (filter keep candidates) (map (function list) reached) ≡ true
    listed_here =
        list_all-map (λ g. list_any (agree vars g) (filter keep candidates)) (function list) reached
        ∙ all_members (λ m. list_any (agree vars (function list m)) (filter keep candidates)) reached
        (λ m member.
        let is_reached = (are.all m).0 member in
        let number : IsNumber list m = member_number m member in
        any_filter (agree vars (function list m)) keep candidates
        (λ g same. not_from_false (list_any (agree vars g) constants) (false_from_ne_true (list_any (agree vars g) constants)
        (λ some. both_ways (list_any (agree vars (function list m)) constants) (no_constant m is_reached.0 number)
        (any_weaker (agree vars g) (agree vars (function list m)) (λ h e. agree_chain vars (function list m) g h same e) constants some))))
        (part_listed vars (map (function list) from) (function list m)
        (any_map (λ n. IsReached list n m) (λ piece. IsSubfunction vars piece (function list m)) (function list) (λ n leads. reached_sub vars list reduced n m leads) from is_reached.1)))

    -- each subfunction of a root's function that is not constant is the function of a number that
    -- is reached
    found : (k n : ℕ) → k < length from → slice_index_or from k n ≡ n → (first : List Bool) → length first ≤ vars
        → not (keep (fixed first (function list n))) || list_any (agree vars (fixed first (function list n))) (map (function list) reached) ≡ true
    found k n within at first few =
        let g : Function = fixed first (function list n) in
        let sub : IsSubfunction vars (function list n) g = record { first = first; few = few; fixes = λ values. refl } in
        let there = sub_reached vars list reduced n g sub in
        let same : agree vars g (function list there.0) ≡ true = agree_same vars g (function list there.0) (λ values. ap (λ f. f values) (sym there.2)) in
        ⊎_elim
        (λ (small : there.0 < 2). or_left (not (keep g)) (list_any (agree vars g) (map (function list) reached))
        (ap (λ b. not (not b)) (a_constant there.0 g small same)))
        (λ (large : 2 ≤ there.0).
        let member = (are.all there.0).1 (large, (k, n, within, at, there.1)) in
        or_right (not (keep g)) (list_any (agree vars g) (map (function list) reached))
        (any_member (agree vars g) (function list) reached member.0 there.0 member.1 member.2 same))
        (cases_lt there.0 2)

    found_here : covered (agree vars) (map (function list) reached) (filter keep candidates) ≡ true
    found_here = all_filter (λ g. list_any (agree vars g) (map (function list) reached)) keep candidates
        (all_flat_map passes (subfunctions vars) (function list) from
        (λ k n within at. list_all-map passes (λ first. fixed first (function list n)) (lists_up_to vars)
        ∙ lists_up_from (λ first. passes (fixed first (function list n))) vars (λ first few. found k n within at first few)))
      where
        passes : Function → Bool
        passes g = not (keep g) || list_any (agree vars g) (map (function list) reached)

    pub nodes_counted : nodes vars (map (function list) from) ≡ length reached
    unfolding nodes_beside
    nodes_counted =
        let most : count (agree vars) (filter keep candidates) ≤ length (map (function list) reached) =
        count_covered (agree vars) (agree_turn vars) (agree_chain vars) (map (function list) reached) (filter keep candidates) found_here in
        let least : length (map (function list) reached) ≤ count (agree vars) (filter keep candidates) =
        pigeonhole (agree vars) (agree_turn vars) (agree_chain vars) (filter keep candidates) (map (function list) reached) (apart_map reached member_number are.once) listed_here in
        count_is vars (filter keep candidates) ∙ omega (arith, length-map reached (function list))

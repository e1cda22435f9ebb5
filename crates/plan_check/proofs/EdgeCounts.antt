-- Edges counted from both of their ends, and those that lead to different numbers.
use Rattle.std.proofs.Common.{◌≡◌, ◌≢◌, ◌⊎◌, ◌↔◌, ℕ, ◌<◌, ◌≤◌, cond, eqb, List, [], ◌∷◌, length, map, refl, sym, ap, ◌∙◌, subst, arith, ⊎_elim, inl, inr}
use Rattle.std.specs.List.{AllPairs, Contains}
use Rattle.std.proofs.lemmas.Bool.{cases_eq, eq-eqb, ne_eqb}
use Rattle.std.proofs.lemmas.List.{length-append, length-map}
use Rattle.exec_graph.specs.Rows.{edge}
use Rattle.exec_graph.specs.Values.{lengths_below, sum_below}
use Rattle.plan_check.specs.Spreads.{edges_to}
use Rattle.plan_check.proofs.Sums.{is_one, length_is, sum_one, sum_same, sum_swap, times, times_none}
use Rattle.list_laws.proofs.Elements.{Contains-cases, Contains-cons, Contains-head, Contains-nil}
use Rattle.list_laws.proofs.Distinct.{first_once, rest_once}

-- lists without doubles

times_once : (xs : List ℕ) (x : ℕ) → AllPairs (λ i j. i ≢ j) xs → Contains xs x → times xs x ≡ 1
times_once [] x once c = absurd (Contains-nil x c)
times_once (y ∷ ys) x once c =
    ⊎_elim
    (λ (e : x ≡ y).
    let here : is_one y x ≡ 1 = ap (λ b. cond b 1 0) (eq-eqb x y e) in
    let rest = times_none ys x (λ m. first_once y ys once (subst (Contains ys) e m)) in
    omega arith)
    (λ (ne : x ≢ y).
    let there : is_one y x ≡ 0 = ap (λ b. cond b 1 0) (ne_eqb x y ne) in
    let rest = times_once ys x (rest_once y ys once) (⊎_elim (λ (e : y ≡ x). absurd (ne (sym e))) (λ m. m) (Contains-cases y ys x c)) in
    omega arith)
    (cases_eq x y)

pub contained : (xs : List ℕ) (x : ℕ) → Contains xs x ⊎ (Contains xs x → ⊥)
contained [] x = inr (Contains-nil x)
contained (y ∷ ys) x =
    ⊎_elim
    (λ (e : y ≡ x). inl (subst (Contains (y ∷ ys)) e (Contains-head y ys)))
    (λ (ne : y ≢ x).
    ⊎_elim
    (λ c. inl (Contains-cons y ys x c))
    (λ (none : Contains ys x → ⊥). inr (λ c. ⊎_elim ne none (Contains-cases y ys x c)))
    (contained ys x))
    (cases_eq y x)

-- where each number is listed before those that follow it, once, both kinds of lists are together as long
pub edges_even : (n : ℕ) (next prev : ℕ → List ℕ) → ((i j : ℕ) → j < n → Contains (prev j) i ↔ (i < n) × Contains (next i) j)
    → ((i : ℕ) → i < n → AllPairs (λ j k. j ≢ k) (next i)) → ((j : ℕ) → j < n → AllPairs (λ i k. i ≢ k) (prev j))
    → ((i j : ℕ) → i < n → Contains (next i) j → j < n) → lengths_below prev n ≡ lengths_below next n
edges_even n next prev lists next_once prev_once stays =
    let back = sum_same (λ j. sum_below (times (prev j)) n) (λ j. length (prev j)) n (λ j l. length_is (prev j) n (λ i c. ((lists i j l).0 c).0)) in
    let turn = sum_same (λ j. sum_below (times (prev j)) n) (λ j. sum_below (λ i. times (next i) j) n) n
    (λ j l. sum_same (times (prev j)) (λ i. times (next i) j) n (λ i m. both i j m l)) in
    let swap = sum_swap (λ j i. times (next i) j) n n in
    let on = sum_same (λ i. sum_below (times (next i)) n) (λ i. length (next i)) n (λ i l. length_is (next i) n (λ j c. stays i j l c)) in
    sym back ∙ turn ∙ swap ∙ on
  where
    both : (i j : ℕ) → i < n → j < n → times (prev j) i ≡ times (next i) j
    both i j l m =
        ⊎_elim
        (λ (c : Contains (prev j) i). times_once (prev j) i (prev_once j m) c ∙ sym (times_once (next i) j (next_once i l) ((lists i j m).0 c).1))
        (λ (none : Contains (prev j) i → ⊥). times_none (prev j) i none ∙ sym (times_none (next i) j (λ c. none ((lists i j m).1 (l, c)))))
        (contained (prev j) i)

-- the edges to different numbers below n are no more than those to all of them
edges_within : (prev : ℕ → List ℕ) (f : ℕ → ℕ) (n : ℕ) (xs : List ℕ) → ((x : ℕ) → Contains xs x → length (prev x) ≡ f x) → AllPairs (λ i j. i ≢ j) xs
    → ((x : ℕ) → Contains xs x → x < n) → length (edges_to prev xs) ≤ sum_below f n
edges_within prev f n [] same once below = omega arith
edges_within prev f n (x ∷ xs) same once below =
    let g : ℕ → ℕ = λ i. cond (eqb i x) 0 (f i) in
    let here : cond (eqb x x) 0 (f x) ≡ 0 = ap (λ b. cond b 0 (f x)) (eq-eqb x x refl) in
    let there : (i : ℕ) → i ≢ x → f i ≡ cond (eqb i x) 0 (f i) = λ i ne. sym (ap (λ b. cond b 0 (f i)) (ne_eqb i x ne)) in
    let rest = edges_within prev (λ i. cond (eqb i x) 0 (f i)) n xs
    (λ y c. same y (Contains-cons x xs y c) ∙ there y (λ e. first_once x xs once (subst (Contains xs) e c)))
    (rest_once x xs once) (λ y c. below y (Contains-cons x xs y c)) in
    let whole = sum_one f (λ i. cond (eqb i x) 0 (f i)) n x (below x (Contains-head x xs)) there in
    let first = same x (Contains-head x xs) in
    let long = length-append (map (λ i. edge i x) (prev x)) (edges_to prev xs) in
    let mapped = length-map (prev x) (λ i. edge i x) in
    omega arith

pub edges_most : (prev : ℕ → List ℕ) (n : ℕ) (xs : List ℕ) → AllPairs (λ i j. i ≢ j) xs → ((x : ℕ) → Contains xs x → x < n) → length (edges_to prev xs) ≤ lengths_below prev n
edges_most prev n xs once below = edges_within prev (λ i. length (prev i)) n xs (λ x c. refl) once below

-- Sums over the numbers below n.
use Rattle.std.proofs.Common.{◌≡◌, ◌≢◌, ℕ, zero, suc, ◌+◌, ◌<◌, ◌≤◌, cond, eqb, List, [], ◌∷◌, length, refl, sym, ap, subst, arith, ⊎_elim}
use Rattle.std.specs.List.{Contains}
use Rattle.std.proofs.lemmas.Bool.{cases_eq, cases_lt, eq-eqb, ne_eqb}
use Rattle.exec_graph.specs.Values.{sum_below}
use Rattle.list_laws.proofs.Elements.{Contains-cons, Contains-head}

pub sum_same : (f g : ℕ → ℕ) (n : ℕ) → ((i : ℕ) → i < n → f i ≡ g i) → sum_below f n ≡ sum_below g n
sum_same f g zero h = refl
sum_same f g (suc n) h =
    let rest = sum_same f g n (λ i l. h i (omega arith)) in
    let last = h n (omega arith) in
    omega arith

pub sum_zero : (n : ℕ) → sum_below (λ i. 0) n ≡ 0
sum_zero zero = refl
sum_zero (suc n) = let rest = sum_zero n in omega arith

pub sum_plus : (f g : ℕ → ℕ) (n : ℕ) → sum_below (λ i. f i + g i) n ≡ sum_below f n + sum_below g n
sum_plus f g zero = refl
sum_plus f g (suc n) = let rest = sum_plus f g n in omega arith

pub sum_most : (f g : ℕ → ℕ) (n : ℕ) → ((i : ℕ) → i < n → f i ≤ g i) → sum_below f n ≤ sum_below g n
sum_most f g zero h = omega arith
sum_most f g (suc n) h =
    let rest = sum_most f g n (λ i l. h i (omega arith)) in
    let last = h n (omega arith) in
    omega arith

-- and one less where one of them is less
pub sum_less : (f g : ℕ → ℕ) (n k : ℕ) → k < n → ((i : ℕ) → i < n → f i ≤ g i) → f k + 1 ≤ g k → sum_below f n + 1 ≤ sum_below g n
sum_less f g zero k l h less = absurd (omega arith)
sum_less f g (suc n) k l h less =
    ⊎_elim
    (λ (e : k ≡ n).
    let rest = sum_most f g n (λ i b. h i (omega arith)) in
    let last : f n + 1 ≤ g n = subst (λ m. f m + 1 ≤ g m) e less in
    omega arith)
    (λ (ne : k ≢ n).
    let rest = sum_less f g n k (omega (arith, ne)) (λ i b. h i (omega arith)) less in
    let last = h n (omega arith) in
    omega arith)
    (cases_eq k n)

-- one of them changed
pub sum_one : (f g : ℕ → ℕ) (n k : ℕ) → k < n → ((i : ℕ) → i ≢ k → f i ≡ g i) → sum_below g n + f k ≡ sum_below f n + g k
sum_one f g zero k l h = absurd (omega arith)
sum_one f g (suc n) k l h =
    ⊎_elim
    (λ (e : k ≡ n).
    let rest = sum_same f g n (λ i b. h i (λ (is : i ≡ k). absurd (omega arith))) in
    let here : f k ≡ f n = ap f e in
    let there : g k ≡ g n = ap g e in
    omega arith)
    (λ (ne : k ≢ n).
    let rest = sum_one f g n k (omega (arith, ne)) h in
    let last = h n (λ is. ne (sym is)) in
    omega arith)
    (cases_eq k n)

pub sum_swap : (f : ℕ → ℕ → ℕ) (n m : ℕ) → sum_below (λ i. sum_below (f i) m) n ≡ sum_below (λ j. sum_below (λ i. f i j) n) m
sum_swap f zero m = sym (sum_zero m)
sum_swap f (suc n) m =
    let rest = sum_swap f n m in
    let split = sum_plus (λ j. sum_below (λ i. f i j) n) (λ j. f n j) m in
    omega arith

-- the numbers below a bound count no more than those below a higher one
pub sum_rises : (f : ℕ → ℕ) (k n : ℕ) → k ≤ n → sum_below f k ≤ sum_below f n
sum_rises f k zero l = let e : k ≡ 0 = omega arith in subst (λ m. sum_below f m ≤ 0) (sym e) (omega arith)
sum_rises f k (suc n) l =
    ⊎_elim
    (λ (b : k < suc n). let rest = sum_rises f k n (omega arith) in omega arith)
    (λ (b : suc n ≤ k). let e : k ≡ suc n = omega arith in subst (λ m. sum_below f m ≤ sum_below f (suc n)) (sym e) (omega arith))
    (cases_lt k (suc n))

-- one number more
pub sum_next : (f : ℕ → ℕ) (k : ℕ) → sum_below f (k + 1) ≡ sum_below f k + f k
sum_next f k = let e : k + 1 ≡ suc k = omega arith in ap (sum_below f) e

-- 1 at one number, else 0
abbrev pub is_one : ℕ → ℕ → ℕ
is_one y i = cond (eqb i y) 1 0

one_here : (i y : ℕ) → i ≡ y → is_one y i ≡ 1
one_here i y e = ap (λ b. cond b 1 0) (eq-eqb i y e)

one_there : (i y : ℕ) → (i ≡ y → ⊥) → is_one y i ≡ 0
one_there i y ne = ap (λ b. cond b 1 0) (ne_eqb i y ne)

pub sum_single : (y n : ℕ) → y < n → sum_below (is_one y) n ≡ 1
sum_single y n l =
    let one = sum_one (λ i. 0) (is_one y) n y l (λ i ne. sym (one_there i y ne)) in
    let z = sum_zero n in
    let h = one_here y y refl in
    omega arith

-- how often a number stands in a list
abbrev pub times : List ℕ → ℕ → ℕ
times [] x = 0
times (y ∷ ys) x = is_one y x + times ys x

pub length_is : (xs : List ℕ) (n : ℕ) → ((x : ℕ) → Contains xs x → x < n) → sum_below (times xs) n ≡ length xs
length_is [] n below = sum_zero n
length_is (y ∷ ys) n below =
    let split = sum_plus (is_one y) (times ys) n in
    let one = sum_single y n (below y (Contains-head y ys)) in
    let rest = length_is ys n (λ x c. below x (Contains-cons y ys x c)) in
    omega arith

pub times_none : (xs : List ℕ) (x : ℕ) → (Contains xs x → ⊥) → times xs x ≡ 0
times_none [] x none = refl
times_none (y ∷ ys) x none =
    let here = one_there x y (λ (e : x ≡ y). none (subst (Contains (y ∷ ys)) (sym e) (Contains-head y ys))) in
    let rest = times_none ys x (λ c. none (Contains-cons y ys x c)) in
    omega arith

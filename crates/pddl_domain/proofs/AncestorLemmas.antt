-- Ancestors many steps up.
use Rattle.std.proofs.Common.{◌≡◌, ℕ, zero, suc, ◌+◌, ◌*◌, ◌<◌, ◌≤◌, ◌-◌, suc-mul, mul-suc, ◌||◌, inl, inr, replicate, refl, sym, ◌∙◌, ap, arith, Bool, true, false, List, [], ◌∷◌, map, length, get_or, take, All, ◌==◌, zero-mul}
use Rattle.std.specs.List.{list_any, range_with_len}
use Rattle.std.proofs.Math.ListN.{set}
use Rattle.std.proofs.lemmas.List.{get_or-map, length-map, length-set, same_lists, get_or-set_other}
use Rattle.std.proofs.lemmas.List.FromFn.{length-map-range_with_len, get_or-map-range_with_len, length-range_with_len, get_or-range_with_len}
use Rattle.std.proofs.lemmas.List.Folds.{list_any_at, list_any_more, Any-from_list_any}
use Rattle.pddl_ast.specs.Fits.{ancestor}
use Rattle.pddl_domain.specs.Ancestors.{is_own_ancestor, ancestors, which_of}
use Rattle.std.proofs.lemmas.Grind.{get_or-set_at}
use Rattle.std.proofs.lemmas.Simd.{splat_is_map}
use Rattle.std.proofs.lemmas.Bool.Decides.{nat_tests}
use Rattle.pddl_domain.proofs.Pigeonhole.{repeats, same_or_not}
use Rattle.list_laws.proofs.Booleans.{or_false, or_true, same_truth}

-- two functions that agree below n
pub map_range_agree : {X : Type 0} (f g : ℕ → X) (a n : ℕ) → ((k : ℕ) → a ≤ k → k < a + n → f k ≡ g k) → map f (range_with_len a n) ≡ map g (range_with_len a n)
map_range_agree f g a zero same = refl
map_range_agree f g a (suc n) same =
    let here : f a ≡ g a = same a (omega arith) (omega arith) in
    let rest : map f (range_with_len (a + 1) n) ≡ map g (range_with_len (a + 1) n) = map_range_agree f g (a + 1) n (λ k lo hi. same k (omega arith) (omega arith)) in
    cc

-- so many steps, and then so many more
pub ancestor_add : (ps : List ℕ) (m n t : ℕ) → ancestor ps m (ancestor ps n t) ≡ ancestor ps (n + m) t
ancestor_add ps m zero t = ap (λ k. ancestor ps k t) (let e : m ≡ 0 + m = omega arith in e)
ancestor_add ps m (suc n) t = ancestor_add ps m n (get_or ps t 0) ∙ ap (λ k. ancestor ps k t) (let e : suc (n + m) ≡ suc n + m = omega arith in e)

pub ancestor_below : (ps : List ℕ) → All (λ t. t < length ps) ps → (n t : ℕ) → t < length ps → ancestor ps n t < length ps
ancestor_below ps within zero t h = h
ancestor_below ps within (suc n) t h = ancestor_below ps within n (get_or ps t 0) (within t 0 h)

pub get_or-ancestors : (ps : List ℕ) (n t d : ℕ) → t < length ps → get_or (ancestors ps n) t d ≡ ancestor ps n t
get_or-ancestors ps n t d h = get_or-map-range_with_len (ancestor ps n) 0 (length ps) t t d h (omega arith)

pub length-ancestors : (ps : List ℕ) (n : ℕ) → length (ancestors ps n) ≡ length ps
length-ancestors ps n = length-map-range_with_len (ancestor ps n) 0 (length ps)

pub ancestors_below : (ps : List ℕ) (n : ℕ) → All (λ t. t < length ps) ps → All (λ t. t < length (ancestors ps n)) (ancestors ps n)
ancestors_below ps n within k d h =
    let inside : k < length ps = omega (arith, length-ancestors ps n) in
    rw (get_or-ancestors ps n k d inside, length-ancestors ps n) (ancestor_below ps within n k inside)

pub get_or_default : (xs : List ℕ) (k d : ℕ) → k < length xs → get_or xs k d ≡ get_or xs k 0
get_or_default [] k d h = absurd (let z : k < 0 = h in omega arith)
get_or_default (x ∷ xs) zero d h = refl
get_or_default (x ∷ xs) (suc k) d h = get_or_default xs k d (omega arith)

pub one_step : (ps : List ℕ) → ps ≡ ancestors ps 1
one_step ps = same_lists ps (ancestors ps 1) (sym (length-ancestors ps 1)) (λ k d h. get_or_default ps k d h ∙ sym (get_or-ancestors ps 1 k d h))

pub twice_as_far : (ps : List ℕ) (n : ℕ) → All (λ t. t < length ps) ps → map (λ t. get_or (ancestors ps n) t 0) (ancestors ps n) ≡ ancestors ps (n * 2)
twice_as_far ps n within = same_lists (map (λ t. get_or (ancestors ps n) t 0) (ancestors ps n)) (ancestors ps (n * 2))
    (length-map (ancestors ps n) (λ t. get_or (ancestors ps n) t 0) ∙ (length-ancestors ps n ∙ sym (length-ancestors ps (n * 2))))
    (λ k d h.
    let inside : k < length ps = omega (arith, length-map (ancestors ps n) (λ t. get_or (ancestors ps n) t 0), length-ancestors ps n) in
    let far : k < length (ancestors ps n) = omega (arith, length-ancestors ps n) in
    get_or-map (λ t. get_or (ancestors ps n) t 0) (ancestors ps n) k 0 d far
    ∙ (ap (λ t. get_or (ancestors ps n) t 0) (get_or-ancestors ps n k 0 inside)
    ∙ (get_or-ancestors ps n (ancestor ps n k) 0 (ancestor_below ps within n k inside)
    ∙ (ancestor_add ps n n k
    ∙ (ap (λ m. ancestor ps m k) (let e : n + n ≡ n * 2 = omega arith in e)
    ∙ sym (get_or-ancestors ps (n * 2) k d inside))))))

pub none_of : (n : ℕ) → replicate n false ≡ which_of n []
none_of n = splat_is_map (range_with_len 0 n) n false (length-range_with_len 0 n)

-- one number more
pub one_more_of : (n : ℕ) (ts : List ℕ) (i t : ℕ) → i < length ts → t < n → t ≡ get_or ts i t → set (which_of n (take i ts)) t true ≡ which_of n (take (i + 1) ts)
one_more_of n ts i t inside small is = same_lists (set (which_of n (take i ts)) t true) (which_of n (take (i + 1) ts))
    (length-set (which_of n (take i ts)) t true ∙ (length-map-range_with_len (stands (take i ts)) 0 n ∙ sym (length-map-range_with_len (stands (take (i + 1) ts)) 0 n)))
    (λ k d h.
    let low : k < n = omega (arith, length-set (which_of n (take i ts)) t true, length-map-range_with_len (stands (take i ts)) 0 n) in
    let old : get_or (which_of n (take i ts)) k d ≡ stands (take i ts) k = get_or-map-range_with_len (stands (take i ts)) 0 n k k d low (omega arith) in
    let new : get_or (which_of n (take (i + 1) ts)) k d ≡ stands (take (i + 1) ts) k = get_or-map-range_with_len (stands (take (i + 1) ts)) 0 n k k d low (omega arith) in
    let more : stands (take (i + 1) ts) k ≡ (stands (take i ts) k || (t == k)) =
    list_any_more (λ s. s == k) ts i t inside ∙ ap (λ s. stands (take i ts) k || (s == k)) (sym is) in
    elim (same_or_not k t) [
      | inl e ↦ (let at : get_or (set (which_of n (take i ts)) t true) k d ≡ true = get_or-set_at (which_of n (take i ts)) t k true d e (omega (arith, length-map-range_with_len (stands (take i ts)) 0 n)) in
          let here : (t == k) ≡ true = grind (arith, nat_tests) in
          at ∙ sym (new ∙ (more ∙ (ap (λ b. stands (take i ts) k || b) here ∙ or_true (stands (take i ts) k)))))
      | inr ne ↦ (let at : get_or (set (which_of n (take i ts)) t true) k d ≡ get_or (which_of n (take i ts)) k d = get_or-set_other (which_of n (take i ts)) t k true d ne in
          let off : (t == k) ≡ false = grind (arith, nat_tests) in
          at ∙ (old ∙ sym (new ∙ (more ∙ (ap (λ b. stands (take i ts) k || b) off ∙ or_false (stands (take i ts) k))))))
    ])
  where
    stands : List ℕ → ℕ → Bool
    stands xs k = list_any (λ s. s == k) xs

-- a chain that comes back after some steps comes back after any number of such rounds
pub rounds : (ps : List ℕ) (p t : ℕ) → ancestor ps p t ≡ t → (k : ℕ) → ancestor ps (k * p) t ≡ t
rounds ps p t back zero = rw zero-mul refl
rounds ps p t back (suc k) =
    rw suc-mul (sym (ancestor_add ps p (k * p) t) ∙ (ap (ancestor ps p) (rounds ps p t back k) ∙ back))

le_times : (n p : ℕ) → 0 < p → n ≤ n * p
le_times n (suc p) h = rw mul-suc (omega arith)
le_times n zero h = absurd (let z : 0 < 0 = h in omega arith)

-- what stands on a loop is some type's ancestor, however far
pub far_above : (ps : List ℕ) → All (λ t. t < length ps) ps → (n p t : ℕ) → 0 < p → t < length ps → ancestor ps p t ≡ t → (s : ℕ) × (s < length ps) × (ancestor ps n s ≡ t)
far_above ps within n p t some small back =
    let far : n ≤ n * p = le_times n p some in
    let here : ancestor ps n (ancestor ps (n * p - n) t) ≡ t =
    ancestor_add ps n (n * p - n) t ∙ (ap (λ m. ancestor ps m t) (let e : n * p - n + n ≡ n * p = omega arith in e) ∙ rounds ps p t back n) in
    (ancestor ps (n * p - n) t, ancestor_below ps within (n * p - n) t small, here)

-- what is some type's ancestor as far up as there are types, or farther, stands on a loop
pub on_loop_from_far : (ps : List ℕ) → All (λ t. t < length ps) ps → (n s t : ℕ) → length ps ≤ n → s < length ps → ancestor ps n s ≡ t → is_own_ancestor ps t ≡ true
on_loop_from_far ps within n s t far small above =
    let r = repeats (length ps) (λ i. ancestor ps i s) (λ i h. ancestor_below ps within i s small) in
    let before : r.i < r.j = r.before in
    let inside : r.j ≤ length ps = r.within in
    let round = r.j - r.i in
    let up = n - r.i in
    let back : ancestor ps round (ancestor ps r.i s) ≡ ancestor ps r.i s =
    ancestor_add ps round r.i s ∙ (ap (λ m. ancestor ps m s) (let e : r.i + round ≡ r.j = omega arith in e) ∙ sym r.same) in
    let top : ancestor ps up (ancestor ps r.i s) ≡ t =
    ancestor_add ps up r.i s ∙ (ap (λ m. ancestor ps m s) (let e : r.i + up ≡ n = omega arith in e) ∙ above) in
    let turn : ancestor ps round t ≡ t =
    ap (ancestor ps round) (sym top)
    ∙ (ancestor_add ps round up (ancestor ps r.i s)
    ∙ (ap (λ m. ancestor ps m (ancestor ps r.i s)) (let e : up + round ≡ round + up = omega arith in e)
    ∙ (sym (ancestor_add ps up round (ancestor ps r.i s))
    ∙ (ap (ancestor ps up) back ∙ top)))) in
    let k = round - 1 in
    let low : k < length ps = omega arith in
    let at : get_or (range_with_len 0 (length ps)) k 0 ≡ k = get_or-range_with_len 0 (length ps) k 0 low ∙ (let e : 0 + k ≡ k = omega arith in e) in
    let same : ancestor ps (suc k) t ≡ t = ap (λ m. ancestor ps m t) (let e : suc k ≡ round = omega arith in e) ∙ turn in
    let test : (ancestor ps (suc k) t == t) ≡ true = grind (arith, nat_tests) in
    list_any_at (λ m. ancestor ps (suc m) t == t) (range_with_len 0 (length ps)) k 0 (rw length-range_with_len low) (rw at test)

equal_from_test : (a b : ℕ) → (a == b) ≡ true → a ≡ b
equal_from_test a b h = grind (arith, nat_tests)

far_from_on_loop : (ps : List ℕ) → All (λ t. t < length ps) ps → (n t : ℕ) → t < length ps → is_own_ancestor ps t ≡ true → list_any (λ s. s == t) (ancestors ps n) ≡ true
far_from_on_loop ps within n t small own =
    let (i, m, low, at, here) = Any-from_list_any (λ m. ancestor ps (suc m) t == t) (range_with_len 0 (length ps)) own in
    let (s, inside, above) = far_above ps within n (suc m) t (omega arith) small (equal_from_test (ancestor ps (suc m) t) t here) in
    list_any_at (λ s. s == t) (ancestors ps n) s 0 (rw length-ancestors inside) (rw (get_or-ancestors ps n s 0 inside) (let e : (ancestor ps n s == t) ≡ true = grind (arith, nat_tests) in e))

-- the types on loops are the ancestors of types, as far up as there are types, or farther
pub far_in_loops : (ps : List ℕ) → All (λ t. t < length ps) ps → (n : ℕ) → length ps ≤ n → which_of (length ps) (ancestors ps n) ≡ map (is_own_ancestor ps) (range_with_len 0 (length ps))
far_in_loops ps within n far = map_range_agree (λ t. list_any (λ s. s == t) (ancestors ps n)) (is_own_ancestor ps) 0 (length ps)
    (λ t lo hi.
    let small : t < length ps = omega arith in
    same_truth (list_any (λ s. s == t) (ancestors ps n)) (is_own_ancestor ps t)
    (λ h.
    let (i, s, low, at, here) = Any-from_list_any (λ s. s == t) (ancestors ps n) h in
    let inside : i < length ps = omega (arith, length-ancestors ps n) in
    on_loop_from_far ps within n i t far inside (sym (get_or-ancestors ps n i s inside) ∙ (at ∙ equal_from_test s t here)))
    (far_from_on_loop ps within n t small))

pub found_on_loops : (ps : List ℕ) → All (λ t. t < length ps) ps → (n : ℕ) → length ps ≤ n → (far : List ℕ) → far ≡ ancestors ps n
    → which_of (length far) far ≡ map (is_own_ancestor ps) (range_with_len 0 (length ps))
found_on_loops ps within n many far is =
    ap (λ (xs : List ℕ). which_of (length xs) xs) is ∙ (ap (λ m. which_of m (ancestors ps n)) (length-ancestors ps n) ∙ far_in_loops ps within n many)

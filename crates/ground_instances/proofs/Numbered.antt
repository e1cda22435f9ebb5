-- Bindings by their numbers.
use Rattle.std.proofs.Common.{◌≡◌, ℕ, zero, suc, ◌+◌, ◌*◌, ◌/◌, ◌%◌, ◌<◌, List, [], ◌∷◌, ◌++◌, length, get_or, take, drop, map, refl, ap, sym, subst, ◌∙◌, arith, add-one, length-append, append_assoc}
use Rattle.std.proofs.lemmas.List.{length-map}
use Rattle.std.specs.List.{flat_map}
use Rattle.std.proofs.lemmas.List.Concat.{get_or-flat_map}
use Rattle.std.proofs.lemmas.Nat.{div-add-mod'}
use Rattle.std.proofs.Math.Nat.{div-lt_iff_lt-mul, mod-lt, mul-div_cancel_left, mul_comm, zero-mul}
use Rattle.std.proofs.Math.Seq.{drop-cons}
use Rattle.pddl_system.specs.Objects.{bindings}
use Rattle.pddl_system.specs.Sizes.{binding_count}

-- pieces of one length
length-pieces : {Y : Type 0} (f : ℕ → List Y) (m : ℕ) → ((o : ℕ) → length (f o) ≡ m) → (xs : List ℕ) → length (flat_map f xs) ≡ length xs * m
length-pieces f m same [] = omega arith
length-pieces f m same (x ∷ xs) =
    let e : length (f x ++ flat_map f xs) ≡ length (f x) + length (flat_map f xs) = length-append (f x) (flat_map f xs) in
    let h : length (flat_map f xs) ≡ length xs * m = length-pieces f m same xs in
    let k : length (f x) ≡ m = same x in
    let s : suc (length xs) * m ≡ length xs * m + m = omega arith in
    omega arith

-- there are as many bindings as are counted
pub length_bindings : (objects : ℕ → List ℕ) (types : List ℕ) → length (bindings objects types) ≡ binding_count objects types
length_bindings objects [] = refl
length_bindings objects (t ∷ ts) =
    length-pieces (λ o. map (λ rest. o ∷ rest) (bindings objects ts)) (binding_count objects ts)
    (λ o. length-map (bindings objects ts) (λ rest. o ∷ rest) ∙ length_bindings objects ts) (objects t)

get_or-map-cons : (o : ℕ) (rows : List (List ℕ)) (k : ℕ) → k < length rows → get_or (map (λ rest. o ∷ rest) rows) k [] ≡ o ∷ get_or rows k []
get_or-map-cons o [] k h = absurd (omega arith)
get_or-map-cons o (row ∷ rows) zero h = refl
get_or-map-cons o (row ∷ rows) (suc k) h = get_or-map-cons o rows k (omega arith)

length-take-below : (xs : List ℕ) (i : ℕ) → i < length xs → length (take i xs) ≡ i
length-take-below [] i h = absurd (omega arith)
length-take-below (x ∷ xs) zero h = refl
length-take-below (x ∷ xs) (suc i) h = ap suc (length-take-below xs i (omega arith))

-- the binding with a number: the first object by division, the others by the remainder
pub first_of_binding : (objects : ℕ → List ℕ) (t : ℕ) (ts : List ℕ) (n : ℕ) → 0 < binding_count objects ts → n < length (objects t) * binding_count objects ts
    → get_or (bindings objects (t ∷ ts)) n [] ≡ get_or (objects t) (n / binding_count objects ts) 0 ∷ get_or (bindings objects ts) (n % binding_count objects ts) []
first_of_binding objects t ts n some below =
    let m : ℕ = binding_count objects ts in
    let rows : List (List ℕ) = bindings objects ts in
    let f : ℕ → List (List ℕ) = λ o. map (λ rest. o ∷ rest) rows in
    let same : (o : ℕ) → length (f o) ≡ m = λ o. length-map rows (λ rest. o ∷ rest) ∙ length_bindings objects ts in
    let i : ℕ = n / m in
    let j : ℕ = n % m in
    let i-below : i < length (objects t) = (div-lt_iff_lt-mul {k = m} {x = n} {y = length (objects t)} some).1 below in
    let j-below : j < m = mod-lt n some in
    let j-row : j < length rows = subst (λ k. j < k) (sym (length_bindings objects ts)) j-below in
    let o : ℕ = get_or (objects t) i 0 in
    let j-piece : j < length (f o) = subst (λ k. j < k) (sym (same o)) j-below in
    let before : length (flat_map f (take i (objects t))) ≡ i * m = length-pieces f m same (take i (objects t)) ∙ ap (λ k. k * m) (length-take-below (objects t) i i-below) in
    let place : length (flat_map f (take i (objects t))) + j ≡ n = ap (λ k. k + j) before ∙ div-add-mod' n m in
    sym (ap (λ k. get_or (flat_map f (objects t)) k []) place)
    ∙ get_or-flat_map f (objects t) i j 0 [] i-below j-piece
    ∙ get_or-map-cons o rows j j-row

positive-left : (l r n : ℕ) → n < l * r → 0 < l
positive-left zero r n h = absurd (omega (arith, zero-mul r))
positive-left (suc l) r n h = omega arith

positive-right : (l r n : ℕ) → n < l * r → 0 < r
positive-right l r n h = positive-left r l n (subst (λ k. n < k) (mul_comm l r) h)

unrolled : (objects : ℕ → List ℕ) (types : List ℕ) (i : ℕ) → i < length types → binding_count objects (drop i types) ≡ length (objects (get_or types i 0)) * binding_count objects (drop (i + 1) types)
unrolled objects types i within =
    ap (binding_count objects) (drop-cons types i 0 within)
    ∙ ap (λ k. length (objects (get_or types i 0)) * binding_count objects (drop k types)) (sym (add-one i))

-- what one variable more does to a number that is taken apart
pub some_objects : (objects : ℕ → List ℕ) (types : List ℕ) (i below rest : ℕ) (chosen : List ℕ) → i < length types
    → chosen ≡ objects (get_or types i 0) → below ≡ binding_count objects (drop i types) → rest < below → 0 < length chosen
some_objects objects types i below rest chosen within is at h =
    subst (λ (xs : List ℕ). 0 < length xs) (sym is)
    (positive-left (length (objects (get_or types i 0))) (binding_count objects (drop (i + 1) types)) rest
    (subst (λ k. rest < k) (at ∙ unrolled objects types i within) h))

pub some_below : (objects : ℕ → List ℕ) (types : List ℕ) (i below rest : ℕ) → i < length types
    → below ≡ binding_count objects (drop i types) → rest < below → 0 < binding_count objects (drop (i + 1) types)
some_below objects types i below rest within at h =
    positive-right (length (objects (get_or types i 0))) (binding_count objects (drop (i + 1) types)) rest
    (subst (λ k. rest < k) (at ∙ unrolled objects types i within) h)

pub divided : (objects : ℕ → List ℕ) (types : List ℕ) (i below rest : ℕ) (chosen : List ℕ) → i < length types
    → chosen ≡ objects (get_or types i 0) → below ≡ binding_count objects (drop i types) → rest < below
    → below / length chosen ≡ binding_count objects (drop (i + 1) types)
divided objects types i below rest chosen within is at h =
    let some : 0 < length chosen = some_objects objects types i below rest chosen within is at h in
    ap (λ k. k / length chosen) (at ∙ unrolled objects types i within ∙ ap (λ (xs : List ℕ). length xs * binding_count objects (drop (i + 1) types)) (sym is))
    ∙ mul-div_cancel_left (binding_count objects (drop (i + 1) types)) some

pub within_objects : (objects : ℕ → List ℕ) (types : List ℕ) (i below rest : ℕ) (chosen : List ℕ) → i < length types
    → chosen ≡ objects (get_or types i 0) → below ≡ binding_count objects (drop i types) → rest < below
    → rest / (below / length chosen) < length chosen
within_objects objects types i below rest chosen within is at h =
    let r : ℕ = binding_count objects (drop (i + 1) types) in
    let d : below / length chosen ≡ r = divided objects types i below rest chosen within is at h in
    let some : 0 < r = some_below objects types i below rest within at h in
    let e : below ≡ length chosen * r = at ∙ unrolled objects types i within ∙ ap (λ (xs : List ℕ). length xs * r) (sym is) in
    subst (λ k. rest / k < length chosen) (sym d) ((div-lt_iff_lt-mul {k = r} {x = rest} {y = length chosen} some).1 (subst (λ k. rest < k) e h))

pub remainder_below : (objects : ℕ → List ℕ) (types : List ℕ) (i below rest : ℕ) (chosen : List ℕ) → i < length types
    → chosen ≡ objects (get_or types i 0) → below ≡ binding_count objects (drop i types) → rest < below
    → rest % (below / length chosen) < below / length chosen
remainder_below objects types i below rest chosen within is at h =
    let d = divided objects types i below rest chosen within is at h in
    mod-lt rest (subst (λ k. 0 < k) (sym d) (some_below objects types i below rest within at h))

-- the objects so far and those that are still to come
pub scope_step : (objects : ℕ → List ℕ) (types : List ℕ) (i below rest : ℕ) (chosen scope next all : List ℕ) → i < length types
    → chosen ≡ objects (get_or types i 0) → below ≡ binding_count objects (drop i types) → rest < below
    → next ≡ scope ++ get_or chosen (rest / (below / length chosen)) 0 ∷ []
    → scope ++ get_or (bindings objects (drop i types)) rest [] ≡ all
    → next ++ get_or (bindings objects (drop (i + 1) types)) (rest % (below / length chosen)) [] ≡ all
scope_step objects types i below rest chosen scope next all within is at h pushed before =
    let t : ℕ = get_or types i 0 in
    let r : ℕ = binding_count objects (drop (i + 1) types) in
    let d : below / length chosen ≡ r = divided objects types i below rest chosen within is at h in
    let some : 0 < r = some_below objects types i below rest within at h in
    let rows : List (List ℕ) = bindings objects (drop (i + 1) types) in
    let first : get_or (bindings objects (t ∷ drop (i + 1) types)) rest [] ≡ get_or (objects t) (rest / r) 0 ∷ get_or rows (rest % r) []
    = first_of_binding objects t (drop (i + 1) types) rest some (subst (λ k. rest < k) (at ∙ unrolled objects types i within) h) in
    let here : drop i types ≡ t ∷ drop (i + 1) types = drop-cons types i 0 within ∙ ap (λ k. t ∷ drop k types) (sym (add-one i)) in
    ap (λ xs. xs ++ get_or rows (rest % (below / length chosen)) []) pushed
    ∙ append_assoc scope (get_or chosen (rest / (below / length chosen)) 0 ∷ []) (get_or rows (rest % (below / length chosen)) [])
    ∙ ap (λ k. scope ++ get_or chosen (rest / k) 0 ∷ get_or rows (rest % k) []) d
    ∙ ap (λ (xs : List ℕ). scope ++ get_or xs (rest / r) 0 ∷ get_or rows (rest % r) []) is
    ∙ ap (λ xs. scope ++ xs) (sym first)
    ∙ ap (λ ts. scope ++ get_or (bindings objects ts) rest []) (sym here)
    ∙ before

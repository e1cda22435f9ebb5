-- What is printed of numbered elements: one element more, and fewer of them.
use Rattle.std.proofs.Common.{◌≡◌, ℕ, zero, suc, ◌+◌, ◌<◌, ◌≤◌, List, [], ◌∷◌, ◌++◌, map, length, get_or, take, refl, ap, sym, ◌∙◌, append_assoc, arith}
use Rattle.std.proofs.lemmas.List.{append-nil, length-append}
use Rattle.std.specs.List.{flat_map}
use Rattle.plan_picture.specs.Texts.{numbered}

-- of what elements are
pub numbered_map : {X Y : Type 0} (part : ℕ → Y → List ℕ) (f : X → Y) (k : ℕ) (xs : List X)
    → numbered part k (map f xs) ≡ numbered (λ i x. part i (f x)) k xs
numbered_map part f k [] = refl
numbered_map part f k (x ∷ xs) = ap (λ ys. part k (f x) ++ ys) (numbered_map part f (suc k) xs)

-- the same of each
pub numbered_same : {X : Type 0} (part part' : ℕ → X → List ℕ) → ((i : ℕ) (x : X) → part i x ≡ part' i x) → (k : ℕ) (xs : List X)
    → numbered part k xs ≡ numbered part' k xs
numbered_same part part' same k [] = refl
numbered_same part part' same k (x ∷ xs) =
    ap (λ ys. part k x ++ ys) (numbered_same part part' same (suc k) xs) ∙ ap (λ y. y ++ numbered part' (suc k) xs) (same k x)

pub flat_map_map : {X Y : Type 0} (part : Y → List ℕ) (f : X → Y) (xs : List X) → flat_map part (map f xs) ≡ flat_map (λ x. part (f x)) xs
flat_map_map part f [] = refl
flat_map_map part f (x ∷ xs) = ap (λ ys. part (f x) ++ ys) (flat_map_map part f xs)

pub flat_map_same : {X : Type 0} (part part' : X → List ℕ) → ((x : X) → part x ≡ part' x) → (xs : List X) → flat_map part xs ≡ flat_map part' xs
flat_map_same part part' same [] = refl
flat_map_same part part' same (x ∷ xs) =
    ap (λ ys. part x ++ ys) (flat_map_same part part' same xs) ∙ ap (λ y. y ++ flat_map part' xs) (same x)

more_from : {X : Type 0} (part : ℕ → X → List ℕ) (k : ℕ) (xs : List X) (i : ℕ) (d : X) → i < length xs
    → numbered part k (take (suc i) xs) ≡ numbered part k (take i xs) ++ part (k + i) (get_or xs i d)
more_from part k [] i d l = absurd (omega arith)
more_from part k (x ∷ xs) zero d l =
    let here : k + 0 ≡ k = omega arith in
    append-nil (part k x) ∙ ap (λ m. part m x) (sym here)
more_from part k (x ∷ xs) (suc i) d l =
    let there : suc k + i ≡ k + suc i = omega arith in
    ap (λ ys. part k x ++ ys) (more_from part (suc k) xs i d (omega arith) ∙ ap (λ m. numbered part (suc k) (take i xs) ++ part m (get_or xs i d)) there)
    ∙ sym (append_assoc (part k x) (numbered part (suc k) (take i xs)) (part (k + suc i) (get_or xs i d)))

pub numbered_next : {X : Type 0} (part : ℕ → X → List ℕ) (xs : List X) (i : ℕ) (d : X) → i < length xs
    → numbered part 0 (take (i + 1) xs) ≡ numbered part 0 (take i xs) ++ part i (get_or xs i d)
numbered_next part xs i d l =
    let here : 0 + i ≡ i = omega arith in
    let next : i + 1 ≡ suc i = omega arith in
    ap (λ m. numbered part 0 (take m xs)) next ∙ more_from part 0 xs i d l ∙ ap (λ m. numbered part 0 (take i xs) ++ part m (get_or xs i d)) here

pub numbered_more : {X Y : Type 0} (part : ℕ → Y → List ℕ) (f : X → Y) (xs : List X) (i : ℕ) (d : X) → i < length xs
    → numbered part 0 (map f (take (i + 1) xs)) ≡ numbered part 0 (map f (take i xs)) ++ part i (f (get_or xs i d))
numbered_more part f xs i d l =
    numbered_map part f 0 (take (i + 1) xs) ∙ numbered_next (λ i x. part i (f x)) xs i d l
    ∙ ap (λ ys. ys ++ part i (f (get_or xs i d))) (sym (numbered_map part f 0 (take i xs)))

-- an element more after what was printed so far
pub pushed_next : {X : Type 0} (part : ℕ → X → List ℕ) (xs : List X) (i : ℕ) (x : X) (start old new : List ℕ) → i < length xs → x ≡ get_or xs i x
    → old ≡ start ++ numbered part 0 (take i xs) → new ≡ old ++ part i x → new ≡ start ++ numbered part 0 (take (i + 1) xs)
pushed_next part xs i x start old new l is before pushed =
    pushed ∙ ap (λ ys. ys ++ part i x) before ∙ append_assoc start (numbered part 0 (take i xs)) (part i x)
    ∙ ap (λ y. start ++ (numbered part 0 (take i xs) ++ part i y)) is ∙ ap (λ ys. start ++ ys) (sym (numbered_next part xs i x l))

-- fewer elements are no longer
pub numbered_shorter : {X : Type 0} (part : ℕ → X → List ℕ) (k : ℕ) (xs : List X) (i : ℕ) → length (numbered part k (take i xs)) ≤ length (numbered part k xs)
numbered_shorter part k [] zero = omega arith
numbered_shorter part k [] (suc i) = omega arith
numbered_shorter part k (x ∷ xs) zero = omega arith
numbered_shorter part k (x ∷ xs) (suc i) =
    omega (arith, length-append (part k x) (numbered part (suc k) (take i xs)), length-append (part k x) (numbered part (suc k) xs), numbered_shorter part (suc k) xs i)

pub flat_map_shorter : {X : Type 0} (part : X → List ℕ) (xs : List X) (i : ℕ) → length (flat_map part (take i xs)) ≤ length (flat_map part xs)
flat_map_shorter part [] zero = omega arith
flat_map_shorter part [] (suc i) = omega arith
flat_map_shorter part (x ∷ xs) zero = omega arith
flat_map_shorter part (x ∷ xs) (suc i) =
    omega (arith, length-append (part x) (flat_map part (take i xs)), length-append (part x) (flat_map part xs), flat_map_shorter part xs i)

-- what is printed so far is too long, and so is the whole
pub longer_whole : (start some all out : List ℕ) (most : ℕ) → out ≡ start ++ some → length some ≤ length all → most < length out → most < length (start ++ all)
longer_whole start some all out most is short long = omega (arith, length-append start some, length-append start all, short, long, ap length is)

-- what is printed with one element more is too long, and so is the whole
pub longer_with_next : {X : Type 0} (part : ℕ → X → List ℕ) (xs : List X) (i : ℕ) (x : X) (start out : List ℕ) (most : ℕ) → i < length xs → x ≡ get_or xs i x
    → out ≡ start ++ numbered part 0 (take i xs) → most < length (out ++ part i x) → most < length (start ++ numbered part 0 xs)
longer_with_next part xs i x start out most within at is long =
    longer_whole start (numbered part 0 (take (i + 1) xs)) (numbered part 0 xs) (out ++ part i x) most
    (pushed_next part xs i x start out (out ++ part i x) within at is refl) (numbered_shorter part 0 xs (i + 1)) long

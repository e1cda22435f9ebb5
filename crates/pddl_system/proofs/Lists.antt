-- Lists that are put together of lists.
use Rattle.std.proofs.Common.{◌≡◌, ℕ, zero, suc, ◌+◌, ◌*◌, ◌<◌, Bool, true, false, ◌&&◌, ◌||◌, inl, inr, List, [], ◌∷◌, map, length, refl, sym, ◌∙◌, ap, arith, Option, Some, None}
use Rattle.std.specs.Prelude.{nat_lt, slice_get}
use Rattle.std.proofs.lemmas.Bool.{false≢true, and_from, and_left, and_parts, and_right, or_parts, or_from}
use Rattle.std.specs.List.{flat_map, filter, list_all, list_any, range_with_len}
use Rattle.std.proofs.lemmas.List.{length-append, length-map}
use Rattle.std.proofs.lemmas.List.Folds.{list_any-append, list_all-append}
use Rattle.pddl_system.proofs.Members.{Among}
use Rattle.list_laws.proofs.Booleans.{and_true}

-- a list of lists of one length, put together
pub length-flat_map_of : {X Y : Type 0} (f : X → List Y) (n : ℕ) → ((x : X) → length (f x) ≡ n) → (xs : List X) → length (flat_map f xs) ≡ length xs * n
length-flat_map_of f n each [] = omega arith
length-flat_map_of f n each (x ∷ xs) =
    let rest = length-flat_map_of f n each xs in
    let here = each x in
    let parts = length-append (f x) (flat_map f xs) in
    omega arith

-- some element of lists that are put together, and each of them
pub list_any-flat_map : {X Y : Type 0} (p : Y → Bool) (f : X → List Y) (xs : List X) → list_any p (flat_map f xs) ≡ list_any (λ x. list_any p (f x)) xs
list_any-flat_map p f [] = refl
list_any-flat_map p f (x ∷ xs) =
    list_any-append p (f x) (flat_map f xs) ∙ ap (λ b. list_any p (f x) || b) (list_any-flat_map p f xs)

pub list_all-flat_map : {X Y : Type 0} (p : Y → Bool) (f : X → List Y) (xs : List X) → list_all p (flat_map f xs) ≡ list_all (λ x. list_all p (f x)) xs
list_all-flat_map p f [] = refl
list_all-flat_map p f (x ∷ xs) =
    list_all-append p (f x) (flat_map f xs) ∙ ap (λ b. list_all p (f x) && b) (list_all-flat_map p f xs)

-- tests that give one answer
pub list_any-same : {X : Type 0} (p q : X → Bool) → ((x : X) → p x ≡ q x) → (xs : List X) → list_any p xs ≡ list_any q xs
list_any-same p q same [] = refl
list_any-same p q same (x ∷ xs) = ap (λ b. b || list_any p xs) (same x) ∙ ap (λ b. q x || b) (list_any-same p q same xs)

pub list_all-same : {X : Type 0} (p q : X → Bool) → ((x : X) → p x ≡ q x) → (xs : List X) → list_all p xs ≡ list_all q xs
list_all-same p q same [] = refl
list_all-same p q same (x ∷ xs) = ap (λ b. b && list_all p xs) (same x) ∙ ap (λ b. q x && b) (list_all-same p q same xs)

-- a part of a test that doesn't look at the element
or_around : (a b c d : Bool) → (a || b || (c || d || b)) ≡ (a || (c || d) || b)
or_around true b c d = refl
or_around false true true d = refl
or_around false true false true = refl
or_around false true false false = refl
or_around false false true d = refl
or_around false false false true = refl
or_around false false false false = refl

pub list_any_or : {X : Type 0} (p : X → Bool) (b : Bool) (xs : List X) → 0 < length xs → list_any (λ x. p x || b) xs ≡ (list_any p xs || b)
list_any_or p b [] some = absurd (omega arith)
list_any_or p b (x ∷ []) some = last (p x) b
  where
    last : (a b : Bool) → (a || b || false) ≡ (a || false || b)
    last true b = refl
    last false true = refl
    last false false = refl
list_any_or p b (x ∷ y ∷ ys) some =
    ap (λ c. p x || b || c) (list_any_or p b (y ∷ ys) (omega arith)) ∙ or_around (p x) b (p y) (list_any p ys)

pub list_any_or_before : {X : Type 0} (b : Bool) (p : X → Bool) (xs : List X) → 0 < length xs → list_any (λ x. b || p x) xs ≡ (b || list_any p xs)
list_any_or_before true p [] some = absurd (omega arith)
list_any_or_before true p (x ∷ xs) some = refl
list_any_or_before false p xs some = refl

pub list_any_and : {X : Type 0} (b : Bool) (p : X → Bool) (xs : List X) → list_any (λ x. b && p x) xs ≡ (b && list_any p xs)
list_any_and true p xs = refl
list_any_and false p [] = refl
list_any_and false p (x ∷ xs) = list_any_and false p xs

-- some element of what a test keeps
pub list_any-filter : {X : Type 0} (p q : X → Bool) (xs : List X) → list_any q (filter p xs) ≡ list_any (λ x. p x && q x) xs
list_any-filter p q [] = refl
list_any-filter p q (x ∷ xs) = by_test (p x) refl (list_any-filter p q xs)
  where
    by_test : (b : Bool) → p x ≡ b → list_any q (filter p xs) ≡ list_any (λ x. p x && q x) xs → list_any q (filter p (x ∷ xs)) ≡ list_any (λ x. p x && q x) (x ∷ xs)
    by_test true is rest = rw is (ap (λ b. q x || b) rest)
    by_test false is rest = rw is rest

-- where no element passes p, none passes q
pub list_any-weaker : {X : Type 0} (p q : X → Bool) → ((x : X) → p x ≡ false → q x ≡ false) → (xs : List X) → list_any p xs ≡ false → list_any q xs ≡ false
list_any-weaker p q weaker [] h = refl
list_any-weaker p q weaker (x ∷ xs) h =
    let parts = or_parts (p x) (list_any p xs) h in
    or_from (q x) (list_any q xs) (weaker x parts.0) (list_any-weaker p q weaker xs parts.1)

pub list_any-never : {X : Type 0} (p : X → Bool) → ((x : X) → p x ≡ false) → (xs : List X) → list_any p xs ≡ false
list_any-never p never [] = refl
list_any-never p never (x ∷ xs) = or_from (p x) (list_any p xs) (never x) (list_any-never p never xs)

-- two lists that have one image
pub zip_length : {X Y Z : Type 0} (f : X → Z) (g : Y → Z) (xs : List X) (ys : List Y) → map f xs ≡ map g ys → length xs ≡ length ys
zip_length f g xs ys h = sym (length-map xs f) ∙ ap length h ∙ length-map ys g

pub zip_any : {X Y Z : Type 0} (f : X → Z) (g : Y → Z) (p : X → Bool) (q : Y → Bool) → ((x : X) (y : Y) → f x ≡ g y → p x ≡ q y) → (xs : List X) (ys : List Y) → map f xs ≡ map g ys → list_any p xs ≡ list_any q ys
zip_any f g p q same [] [] h = refl
zip_any f g p q same [] (y ∷ ys) h = absurd (cc)
zip_any f g p q same (x ∷ xs) [] h = absurd (cc)
zip_any f g p q same (x ∷ xs) (y ∷ ys) h =
    let head : f x ≡ g y = cc in
    let tail : map f xs ≡ map g ys = cc in
    ap (λ b. b || list_any p xs) (same x y head) ∙ ap (λ b. q y || b) (zip_any f g p q same xs ys tail)

pub zip_map : {X Y Z W : Type 0} (f : X → Z) (g : Y → Z) (h : X → W) (k : Y → W) → ((x : X) (y : Y) → f x ≡ g y → h x ≡ k y) → (xs : List X) (ys : List Y) → map f xs ≡ map g ys → map h xs ≡ map k ys
zip_map f g h k same [] [] e = refl
zip_map f g h k same [] (y ∷ ys) e = absurd (cc)
zip_map f g h k same (x ∷ xs) [] e = absurd (cc)
zip_map f g h k same (x ∷ xs) (y ∷ ys) e =
    let head : f x ≡ g y = cc in
    let tail : map f xs ≡ map g ys = cc in
    ap (λ w. w ∷ map h xs) (same x y head) ∙ ap (λ ws. k y ∷ ws) (zip_map f g h k same xs ys tail)

pub zip_get : {X Y Z : Type 0} (f : X → Z) (g : Y → Z) (R : Option X → Option Y → Type 0) → R None None → ((x : X) (y : Y) → f x ≡ g y → R (Some x) (Some y)) → (xs : List X) (ys : List Y) → map f xs ≡ map g ys → (i : ℕ) → R (slice_get xs i) (slice_get ys i)
zip_get f g R none some [] [] h i = none
zip_get f g R none some [] (y ∷ ys) h i = absurd (cc)
zip_get f g R none some (x ∷ xs) [] h i = absurd (cc)
zip_get f g R none some (x ∷ xs) (y ∷ ys) h zero = some x y (cc)
zip_get f g R none some (x ∷ xs) (y ∷ ys) h (suc i) =
    let tail : map f xs ≡ map g ys = cc in
    zip_get f g R none some xs ys tail i

-- and a test of the elements of one that pass another
pub zip_all : {X Y Z : Type 0} (f : X → Z) (g : Y → Z) (given p : X → Bool) (xs : List X) (ys : List Y) → ((x : X) (y : Y) → given x ≡ true → Among y ys → f x ≡ g y → p x ≡ true) → list_all given xs ≡ true → map f xs ≡ map g ys → list_all p xs ≡ true
zip_all f g given p [] ys passes all h = refl
zip_all f g given p (x ∷ xs) [] passes all h = absurd (cc)
zip_all f g given p (x ∷ xs) (y ∷ ys) passes all h =
    let head : f x ≡ g y = cc in
    let tail : map f xs ≡ map g ys = cc in
    let both = and_parts (given x) (list_all given xs) all in
    and_from (p x) (list_all p xs) (passes x y both.0 (inl refl) head) (zip_all f g given p xs ys (λ z w is k e. passes z w is (inr k) e) both.1 tail)

-- tests that give one answer where a third passes
pub list_all-same-given : {X : Type 0} (given p q : X → Bool) → ((x : X) → given x ≡ true → p x ≡ q x) → (xs : List X) → list_all given xs ≡ true → list_all p xs ≡ list_all q xs
list_all-same-given given p q same [] all = refl
list_all-same-given given p q same (x ∷ xs) all =
    let both = and_parts (given x) (list_all given xs) all in
    ap (λ b. b && list_all p xs) (same x both.0) ∙ ap (λ b. q x && b) (list_all-same-given given p q same xs both.1)

-- a test and a condition beside it, at each of some elements
pub beside_each : {X : Type 0} (q : X → Bool) (b : Bool) (xs : List X) → nat_lt 0 (length xs) ≡ true → (b && list_all q xs) ≡ list_all (λ x. q x && b) xs
beside_each q b [] some = absurd (false≢true some)
beside_each q false (x ∷ xs) some = sym (and_left (q x && false) (list_all (λ y. q y && false) xs) (and_right (q x) false refl))
beside_each q true (x ∷ xs) some = list_all-same q (λ y. q y && true) (λ y. sym (and_true (q y))) (x ∷ xs)

-- one answer for each of some elements
pub one_for_each : {X : Type 0} (b : Bool) (xs : List X) → nat_lt 0 (length xs) ≡ true → b ≡ list_all (λ (x : X). b) xs
one_for_each b [] some = absurd (false≢true some)
one_for_each false (x ∷ xs) some = refl
one_for_each {X} true (x ∷ xs) some = sym (each xs)
  where
    each : (ys : List X) → list_all (λ (y : X). true) ys ≡ true
    each [] = refl
    each (y ∷ ys) = each ys

-- Numbers that are read one after another.
use Rattle.std.proofs.Common.{◌≡◌, ℕ, zero, suc, ◌+◌, ◌<◌, List, [], ◌∷◌, ◌++◌, None, Some, map, length, get_or, drop, refl, sym, ap, ◌∙◌, append_assoc, arith}
use Rattle.std.specs.Prelude.{Option}
use Rattle.std.specs.Option.{option_and_then, option_map}
use Rattle.serde_json.specs.Data.{Data}
use Rattle.serde_json.specs.View.{items_of}
use Rattle.plan_picture.specs.Runs.{PlainMove}
use Rattle.plan_page.specs.Explanations.{count_in, counts_in, moves_of}

-- behind some elements and one more
behind : {X : Type 0} (xs : List X) (x : X) (rest : Option (List X))
    → option_map (λ (ys : List X). xs ++ ys) (option_map (λ (ys : List X). x ∷ ys) rest) ≡ option_map (λ (ys : List X). (xs ++ x ∷ []) ++ ys) rest
behind xs x None = refl
behind xs x (Some ys) = ap Some (sym (append_assoc xs (x ∷ []) ys))

-- the first of the items that are left is a number
counted_first : {X : Type 0} (f : X → Data) (xs : List X) (i : ℕ) (x : X) (before : List ℕ) (count : ℕ) → i < length xs → x ≡ get_or xs i x → count_in (f x) ≡ Some count
    → option_map (λ (rest : List ℕ). before ++ rest) (counts_in (items_of (map f (drop i xs))))
    ≡ option_map (λ (rest : List ℕ). (before ++ count ∷ []) ++ rest) (counts_in (items_of (map f (drop (suc i) xs))))
counted_first f [] i x before count within at is = absurd (omega arith)
counted_first f (y ∷ xs) zero x before count within at is =
    let rest = counts_in (items_of (map f xs)) in
    ap (λ (z : _). option_map (λ (ns : List ℕ). before ++ ns) (option_and_then (λ (n : ℕ). option_map (λ (ns : List ℕ). n ∷ ns) rest) (count_in (f z)))) (sym at)
    ∙ ap (λ (o : Option ℕ). option_map (λ (ns : List ℕ). before ++ ns) (option_and_then (λ (n : ℕ). option_map (λ (ns : List ℕ). n ∷ ns) rest) o)) is
    ∙ behind before count rest
counted_first f (y ∷ xs) (suc i) x before count within at is = counted_first f xs i x before count (omega arith) at is

pub counted_next : {X : Type 0} (f : X → Data) (xs : List X) (i : ℕ) (x : X) (before after : List ℕ) (count : ℕ) (whole : Option (List ℕ)) → i < length xs → x ≡ get_or xs i x
    → count_in (f x) ≡ Some count → after ≡ before ++ count ∷ []
    → option_map (λ (rest : List ℕ). before ++ rest) (counts_in (items_of (map f (drop i xs)))) ≡ whole
    → option_map (λ (rest : List ℕ). after ++ rest) (counts_in (items_of (map f (drop (i + 1) xs)))) ≡ whole
counted_next f xs i x before after count whole within at is pushed was =
    let next : i + 1 ≡ suc i = omega arith in
    ap (λ k. option_map (λ (rest : List ℕ). after ++ rest) (counts_in (items_of (map f (drop k xs))))) next
    ∙ ap (λ (ns : List ℕ). option_map (λ (rest : List ℕ). ns ++ rest) (counts_in (items_of (map f (drop (suc i) xs))))) pushed
    ∙ sym (counted_first f xs i x before count within at is) ∙ was

-- the first of the items that are left is none
none_first : {X : Type 0} (f : X → Data) (xs : List X) (i : ℕ) (x : X) (before : List ℕ) → i < length xs → x ≡ get_or xs i x → count_in (f x) ≡ None
    → option_map (λ (rest : List ℕ). before ++ rest) (counts_in (items_of (map f (drop i xs)))) ≡ None
none_first f [] i x before within at is = absurd (omega arith)
none_first f (y ∷ xs) zero x before within at is =
    let rest = counts_in (items_of (map f xs)) in
    ap (λ (z : _). option_map (λ (ns : List ℕ). before ++ ns) (option_and_then (λ (n : ℕ). option_map (λ (ns : List ℕ). n ∷ ns) rest) (count_in (f z)))) (sym at)
    ∙ ap (λ (o : Option ℕ). option_map (λ (ns : List ℕ). before ++ ns) (option_and_then (λ (n : ℕ). option_map (λ (ns : List ℕ). n ∷ ns) rest) o)) is
none_first f (y ∷ xs) (suc i) x before within at is = none_first f xs i x before (omega arith) at is

pub none_counted : {X : Type 0} (f : X → Data) (xs : List X) (i : ℕ) (x : X) (before : List ℕ) (whole : Option (List ℕ)) → i < length xs → x ≡ get_or xs i x
    → count_in (f x) ≡ None → option_map (λ (rest : List ℕ). before ++ rest) (counts_in (items_of (map f (drop i xs)))) ≡ whole → whole ≡ None
none_counted f xs i x before whole within at is was = sym was ∙ none_first f xs i x before within at is

-- one more move
abbrev move_by : ℕ → ℕ → PlainMove
move_by rule outcome = record { rule = rule; outcome = outcome }

moved_first : (rules outcomes : List ℕ) (i : ℕ) (d : ℕ) (before : List PlainMove) → i < length rules → i < length outcomes
    → option_map (λ (rest : List PlainMove). before ++ rest) (moves_of (drop i rules) (drop i outcomes))
    ≡ option_map (λ (rest : List PlainMove). (before ++ move_by (get_or rules i d) (get_or outcomes i d) ∷ []) ++ rest) (moves_of (drop (suc i) rules) (drop (suc i) outcomes))
moved_first [] outcomes i d before within within' = absurd (omega arith)
moved_first (r ∷ rules) [] i d before within within' = absurd (omega arith)
moved_first (r ∷ rules) (o ∷ outcomes) zero d before within within' = behind before (move_by r o) (moves_of rules outcomes)
moved_first (r ∷ rules) (o ∷ outcomes) (suc i) d before within within' = moved_first rules outcomes i d before (omega arith) (omega arith)

pub moved_next : (rules outcomes : List ℕ) (i : ℕ) (d : ℕ) (before after : List PlainMove) (whole : Option (List PlainMove)) → i < length rules → i < length outcomes
    → after ≡ before ++ move_by (get_or rules i d) (get_or outcomes i d) ∷ []
    → option_map (λ (rest : List PlainMove). before ++ rest) (moves_of (drop i rules) (drop i outcomes)) ≡ whole
    → option_map (λ (rest : List PlainMove). after ++ rest) (moves_of (drop (i + 1) rules) (drop (i + 1) outcomes)) ≡ whole
moved_next rules outcomes i d before after whole within within' pushed was =
    let next : i + 1 ≡ suc i = omega arith in
    ap (λ k. option_map (λ (rest : List PlainMove). after ++ rest) (moves_of (drop k rules) (drop k outcomes))) next
    ∙ ap (λ (ms : List PlainMove). option_map (λ (rest : List PlainMove). ms ++ rest) (moves_of (drop (suc i) rules) (drop (suc i) outcomes))) pushed
    ∙ sym (moved_first rules outcomes i d before within within') ∙ was

-- as many of both
pub uneven : (rules outcomes : List ℕ) → (length rules ≡ length outcomes → ⊥) → moves_of rules outcomes ≡ None
uneven [] [] even = absurd (even refl)
uneven [] (o ∷ outcomes) even = refl
uneven (r ∷ rules) [] even = refl
uneven (r ∷ rules) (o ∷ outcomes) even =
    ap (λ (moves : Option (List PlainMove)). option_map (λ (ms : List PlainMove). move_by r o ∷ ms) moves) (uneven rules outcomes (λ same. even (ap suc same)))

-- none is left
pub moved_all : (rules outcomes : List ℕ) (i : ℕ) (before : List PlainMove) (whole : Option (List PlainMove)) → i ≡ length rules → length rules ≡ length outcomes
    → option_map (λ (rest : List PlainMove). before ++ rest) (moves_of (drop i rules) (drop i outcomes)) ≡ whole → whole ≡ Some before
moved_all rules outcomes i before whole last even was =
    sym was
    ∙ ap (λ (rs : List ℕ). option_map (λ (rest : List PlainMove). before ++ rest) (moves_of rs (drop i outcomes))) (nothing_left rules i last)
    ∙ ap (λ (os : List ℕ). option_map (λ (rest : List PlainMove). before ++ rest) (moves_of [] os)) (nothing_left outcomes i (last ∙ even))
    ∙ ap Some (all_of before)
  where
    nothing_left : {X : Type 0} (xs : List X) (i : ℕ) → i ≡ length xs → drop i xs ≡ []
    nothing_left [] zero last = refl
    nothing_left [] (suc i) last = refl
    nothing_left (x ∷ xs) zero last = absurd (omega (arith, last))
    nothing_left (x ∷ xs) (suc i) last = nothing_left xs i (omega (arith, last))

    all_of : {X : Type 0} (xs : List X) → xs ++ [] ≡ xs
    all_of [] = refl
    all_of (x ∷ xs) = ap (λ ys. x ∷ ys) (all_of xs)

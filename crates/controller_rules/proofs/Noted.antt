-- Rules with their comments, one rule more.
use Rattle.std.proofs.Common.{◌≡◌, ◌+◌, ◌++◌, ◌<◌, ◌≤◌, ℕ, zero, suc, List, [], ◌∷◌, Option, Some, length, get_or, drop, refl, sym, ap, ◌∙◌, arith, codes, eqb, append_assoc, length-append}
use Rattle.std.specs.Prelude.{decimal, slice_get}
use Rattle.std.proofs.lemmas.Bool.{cond-false, ne_eqb}
use Rattle.std.proofs.Math.Seq.{drop-cons}
use Rattle.std.proofs.lemmas.List.{append-nil, drop_all, drop-drop}
use Rattle.controller_rules.specs.Texts.{latest, note_before, noted_text, remark}

get_dropped : (ns : List ℕ) (i : ℕ) → slice_get (drop i ns) 0 ≡ slice_get ns i
get_dropped [] zero = refl
get_dropped [] (suc i) = refl
get_dropped (n ∷ ns) zero = refl
get_dropped (n ∷ ns) (suc i) = get_dropped ns i

module _ {X : Type 0} (text : X → List ℕ) where
  -- the rule at a place comes first of those that are left
  at_place : (b : Option ℕ) (xs : List X) (ns : List ℕ) (i : ℕ) (d : X) → i < length xs
      → noted_text text b (drop i xs) (drop i ns)
      ≡ note_before b (slice_get ns i) ++ text (get_or xs i d) ++ noted_text text (latest b (slice_get ns i)) (drop (i + 1) xs) (drop (i + 1) ns)
  at_place b xs ns i d inside =
      let next : suc i ≡ i + 1 = omega arith in
      ap (λ ys. noted_text text b ys (drop i ns)) (drop-cons xs i d inside)
      ∙ ap (λ o. note_before b o ++ text (get_or xs i d) ++ noted_text text (latest b o) (drop (suc i) xs) (drop 1 (drop i ns))) (get_dropped ns i)
      ∙ ap (λ ys. note_before b (slice_get ns i) ++ text (get_or xs i d) ++ noted_text text (latest b (slice_get ns i)) (drop (suc i) xs) ys) (drop-drop 1 i ns)
      ∙ ap (λ j. note_before b (slice_get ns i) ++ text (get_or xs i d) ++ noted_text text (latest b (slice_get ns i)) (drop j xs) (drop (i + 1) ns)) next

  -- what was written and what is left make the whole
  pub written_more : (whole before noted after : List ℕ) (b b' : Option ℕ) (xs : List X) (ns : List ℕ) (i : ℕ) (x : X) → i < length xs → x ≡ get_or xs i x
      → before ++ noted_text text b (drop i xs) (drop i ns) ≡ whole
      → noted ≡ before ++ note_before b (slice_get ns i) → after ≡ noted ++ text x → b' ≡ latest b (slice_get ns i)
      → after ++ noted_text text b' (drop (i + 1) xs) (drop (i + 1) ns) ≡ whole
  written_more whole before noted after b b' xs ns i x inside is all first second last =
      let note = note_before b (slice_get ns i) in
      let rest = noted_text text (latest b (slice_get ns i)) (drop (i + 1) xs) (drop (i + 1) ns) in
      let left : after ++ noted_text text b' (drop (i + 1) xs) (drop (i + 1) ns) ≡ after ++ rest = ap (λ o. after ++ noted_text text o (drop (i + 1) xs) (drop (i + 1) ns)) last in
      let made : after ++ rest ≡ (before ++ note) ++ text x ++ rest = ap (λ t. t ++ rest) (second ∙ ap (λ t. t ++ text x) first) in
      let moved : (before ++ note) ++ text x ++ rest ≡ before ++ (note ++ text x ++ rest) = simp append_assoc in
      let here : before ++ (note ++ text x ++ rest) ≡ before ++ noted_text text b (drop i xs) (drop i ns) =
      ap (λ y. before ++ (note ++ text y ++ rest)) is ∙ ap (λ t. before ++ t) (sym (at_place b xs ns i x inside)) in
      left ∙ made ∙ moved ∙ here ∙ all

  -- at the end nothing is left
  pub written_all : (whole before : List ℕ) (b : Option ℕ) (xs : List X) (ns : List ℕ) (i : ℕ) → length xs ≤ i
      → before ++ noted_text text b (drop i xs) (drop i ns) ≡ whole → before ≡ whole
  written_all whole before b xs ns i past all =
      sym (append-nil before) ∙ ap (λ ys. before ++ noted_text text b ys (drop i ns)) (sym (drop_all i xs past)) ∙ all

-- a part is no longer than the whole
pub longer : (most : ℕ) (whole before rest : List ℕ) → before ++ rest ≡ whole → most < length before → most < length whole
longer most whole before rest is long = omega (arith, sym (length-append before rest) ∙ ap length is)

-- the number at a place
pub some_at : (ns : List ℕ) (i d : ℕ) → i < length ns → Some (get_or ns i d) ≡ slice_get ns i
some_at [] i d inside = absurd (omega arith)
some_at (n ∷ ns) zero d inside = refl
some_at (n ∷ ns) (suc i) d inside = some_at ns i d (omega arith)

-- the comment before what isn't at the beginning
pub remark_later : (n : ℕ) → (n ≡ 0 → ⊥) → remark n ≡ codes " steps before: " ++ decimal n
remark_later n other = cond-false (eqb n 0) (codes " at the beginning") (codes " steps before: " ++ decimal n) (ne_eqb n 0 other)

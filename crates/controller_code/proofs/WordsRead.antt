-- The words of a condition are read to its value, and passed over where they don't count.
use Rattle.std.proofs.Common.{◌≡◌, ◌<◌, ℕ, suc, ◌+◌, ◌-◌, ◌==◌, Bool, true, false, not, ◌&&◌, ◌||◌, List, [], ◌∷◌, ◌++◌, map, refl, sym, ◌∙◌, ap, subst, append-nil, append_assoc, arith}
use Rattle.std.specs.Prelude.{if◌then◌else◌, nat_le}
use Rattle.std.specs.List.{flat_map, list_all, list_any}
use Rattle.std.proofs.lemmas.Bool.Decides.{nat_tests}
use Rattle.task_core.specs.Conditions.{holds, holds_step}
use Rattle.task_core.specs.Vectors.{Vector, value_of}
use Rattle.task_core.specs.declared.conditions.Cond.{Cond}
use Rattle.task_core.specs.declared.conditions.Cond.TheOpen.{Cond-F, Yes, No, Is, Not, All, Any}
use Rattle.task_core.specs.declared.conditions.Cond.TheViews.{roll-Cond}
use Rattle.task_core.specs.declared.conditions.Cond.TheFolds.{map-Cond, fold-roll-Cond, ind-Cond}
use Rattle.task_core.proofs.Agreement.{holds_roll}
use Rattle.controller_code.specs.Words.{pending_after, read_words, then_word, value_after, words_hold, words_layer, words_of}

abbrev State : Type 0
State = ℕ → Bool

-- what is shown of words: they are read to a value, and passed over inside brackets that don't count
record AreRead (words : List ℕ) (meaning : State → Bool) : Type 0 where
  value : (s : State) (b : Bool) (rest : List ℕ) → read_words s 0 b (words ++ rest) ≡ read_words s 0 (meaning s) rest
  passed : (s : State) (n : ℕ) (b : Bool) (rest : List ℕ) → read_words s (suc n) b (words ++ rest) ≡ read_words s (suc n) b rest

abbrev Shown : Type 0
Shown = (c : Cond) × AreRead (words_of c) (holds c)

-- the word of a fluent
no_number : (k f : ℕ) → k < 7 → (7 + f == k) ≡ false
no_number k f small = grind (arith, nat_tests)

long_enough : (f : ℕ) → nat_le 7 (7 + f) ≡ true
long_enough f = grind (arith, nat_tests)

taken_off : (f : ℕ) → 7 + f - 7 ≡ f
taken_off f = omega arith

fluent_value : (s : State) (b : Bool) (f : ℕ) → value_after s b 0 (7 + f) ≡ s f
fluent_value s b f =
    ap (λ x. if x then true else if 7 + f == 3 then false else if 7 + f == 4 then not b else if nat_le 7 (7 + f) then s (7 + f - 7) else b) (no_number 2 f (omega arith))
    ∙ ap (λ x. if x then false else if 7 + f == 4 then not b else if nat_le 7 (7 + f) then s (7 + f - 7) else b) (no_number 3 f (omega arith))
    ∙ ap (λ x. if x then not b else if nat_le 7 (7 + f) then s (7 + f - 7) else b) (no_number 4 f (omega arith))
    ∙ ap (λ x. if x then s (7 + f - 7) else b) (long_enough f)
    ∙ ap s (taken_off f)

fluent_pending : (b : Bool) (f : ℕ) → pending_after b 0 (7 + f) ≡ 0
fluent_pending b f =
    ap (λ x. if x then (if b then 0 else 1) else if 7 + f == 6 then (if b then 1 else 0) else 0) (no_number 5 f (omega arith))
    ∙ ap (λ x. if x then (if b then 1 else 0) else 0) (no_number 6 f (omega arith))

fluent_passed : (b : Bool) (n f : ℕ) → pending_after b (suc n) (7 + f) ≡ suc n
fluent_passed b n f =
    ap (λ x. if x then suc (suc n) else if 7 + f == 1 then n else suc n) (no_number 0 f (omega arith))
    ∙ ap (λ x. if x then n else suc n) (no_number 1 f (omega arith))

fluent_read : (f : ℕ) → AreRead ((7 + f) ∷ []) (λ s. s f)
fluent_read f = record {
  value = λ s b rest.
      ap (λ n. read_words s n (value_after s b 0 (7 + f)) rest) (fluent_pending b f)
      ∙ ap (λ x. read_words s 0 x rest) (fluent_value s b f);
  passed = λ s n b rest. ap (λ k. read_words s k b rest) (fluent_passed b n f);
}

-- a negation
not_read : (words : List ℕ) (meaning : State → Bool) → AreRead words meaning → AreRead (words ++ 4 ∷ []) (λ s. not (meaning s))
not_read words meaning are = record {
  value = λ s b rest. ap (read_words s 0 b) (append_assoc words (4 ∷ []) rest) ∙ are.value s b (4 ∷ rest);
  passed = λ s n b rest. ap (read_words s (suc n) b) (append_assoc words (4 ∷ []) rest) ∙ are.passed s n b (4 ∷ rest);
}

-- parts, each with a word after it, and what follows
abbrev row : ℕ → List Shown → List ℕ
row word parts = flat_map (then_word word) (map words_of (map (λ e. e.0) parts))

split : (word : ℕ) (e : Shown) (parts : List Shown) (rest : List ℕ) → row word (e ∷ parts) ++ rest ≡ words_of e.0 ++ (word ∷ (row word parts ++ rest))
split word e parts rest =
    append_assoc (words_of e.0 ++ word ∷ []) (row word parts) rest ∙ append_assoc (words_of e.0) (word ∷ []) (row word parts ++ rest)

passed_5 : (parts : List Shown) (s : State) (n : ℕ) (b : Bool) (rest : List ℕ) → read_words s (suc n) b (row 5 parts ++ rest) ≡ read_words s (suc n) b rest
passed_5 [] s n b rest = refl
passed_5 (e ∷ parts) s n b rest =
    ap (read_words s (suc n) b) (split 5 e parts rest) ∙ e.1.passed s n b (5 ∷ (row 5 parts ++ rest)) ∙ passed_5 parts s n b rest

passed_6 : (parts : List Shown) (s : State) (n : ℕ) (b : Bool) (rest : List ℕ) → read_words s (suc n) b (row 6 parts ++ rest) ≡ read_words s (suc n) b rest
passed_6 [] s n b rest = refl
passed_6 (e ∷ parts) s n b rest =
    ap (read_words s (suc n) b) (split 6 e parts rest) ∙ e.1.passed s n b (6 ∷ (row 6 parts ++ rest)) ∙ passed_6 parts s n b rest

abbrev all_true : List Shown → State → Bool
all_true parts s = list_all (λ p. p s) (map holds (map (λ e. e.0) parts))

abbrev some_true : List Shown → State → Bool
some_true parts s = list_any (λ p. p s) (map holds (map (λ e. e.0) parts))

all_read : (parts : List Shown) (s : State) (rest : List ℕ) → read_words s 0 true (row 5 parts ++ (1 ∷ rest)) ≡ read_words s 0 (all_true parts s) rest
all_read [] s rest = refl
all_read (e ∷ parts) s rest =
    ap (read_words s 0 true) (split 5 e parts (1 ∷ rest)) ∙ e.1.value s true (5 ∷ (row 5 parts ++ (1 ∷ rest))) ∙ on (all_read parts s rest) (holds e.0 s)
  where
    on : read_words s 0 true (row 5 parts ++ (1 ∷ rest)) ≡ read_words s 0 (all_true parts s) rest → (b : Bool) → read_words s 0 b (5 ∷ (row 5 parts ++ (1 ∷ rest))) ≡ read_words s 0 (b && all_true parts s) rest
    on later true = later
    on later false = passed_5 parts s 0 false (1 ∷ rest)

some_read : (parts : List Shown) (s : State) (rest : List ℕ) → read_words s 0 false (row 6 parts ++ (1 ∷ rest)) ≡ read_words s 0 (some_true parts s) rest
some_read [] s rest = refl
some_read (e ∷ parts) s rest =
    ap (read_words s 0 false) (split 6 e parts (1 ∷ rest)) ∙ e.1.value s false (6 ∷ (row 6 parts ++ (1 ∷ rest))) ∙ on (some_read parts s rest) (holds e.0 s)
  where
    on : read_words s 0 false (row 6 parts ++ (1 ∷ rest)) ≡ read_words s 0 (some_true parts s) rest → (b : Bool) → read_words s 0 b (6 ∷ (row 6 parts ++ (1 ∷ rest))) ≡ read_words s 0 (b || some_true parts s) rest
    on later false = later
    on later true = passed_6 parts s 0 true (1 ∷ rest)

all_of : (parts : List Shown) → AreRead (0 ∷ 2 ∷ row 5 parts ++ 1 ∷ []) (all_true parts)
all_of parts = record {
  value = λ s b rest. ap (read_words s 0 true) (append_assoc (row 5 parts) (1 ∷ []) rest) ∙ all_read parts s rest;
  passed = λ s n b rest. ap (read_words s (suc (suc n)) b) (append_assoc (row 5 parts) (1 ∷ []) rest) ∙ passed_5 parts s (suc n) b (1 ∷ rest);
}

some_of : (parts : List Shown) → AreRead (0 ∷ 3 ∷ row 6 parts ++ 1 ∷ []) (some_true parts)
some_of parts = record {
  value = λ s b rest. ap (read_words s 0 false) (append_assoc (row 6 parts) (1 ∷ []) rest) ∙ some_read parts s rest;
  passed = λ s n b rest. ap (read_words s (suc (suc n)) b) (append_assoc (row 6 parts) (1 ∷ []) rest) ∙ passed_6 parts s (suc n) b (1 ∷ rest);
}

-- one layer
abbrev first_of : Cond-F Shown → Cond-F Cond
first_of = map-Cond Shown Cond (λ e. e.0)

layer_read : (y : Cond-F Shown) → AreRead (words_layer (map-Cond Cond (List ℕ) words_of (first_of y))) (holds_step (map-Cond Cond ((ℕ → Bool) → Bool) holds (first_of y)))
layer_read Yes = record { value = λ s b rest. refl; passed = λ s n b rest. refl }
layer_read No = record { value = λ s b rest. refl; passed = λ s n b rest. refl }
layer_read (Is f) = fluent_read f.0
layer_read (Not part) = not_read (words_of part.value.0) (holds part.value.0) part.value.1
layer_read (All parts) = all_of parts.items
layer_read (Any parts) = some_of parts.items

roll_read : (y : Cond-F Shown) → AreRead (words_of (roll-Cond (first_of y))) (holds (roll-Cond (first_of y)))
roll_read y =
    let layer = layer_read y in
    let words : words_of (roll-Cond (first_of y)) ≡ words_layer (map-Cond Cond (List ℕ) words_of (first_of y)) = fold-roll-Cond (List ℕ) words_layer (first_of y) in
    record {
      value = λ s b rest.
          ap (λ ws. read_words s 0 b (ws ++ rest)) words ∙ layer.value s b rest
          ∙ ap (λ x. read_words s 0 x rest) (sym (holds_roll (first_of y) s));
      passed = λ s n b rest. ap (λ ws. read_words s (suc n) b (ws ++ rest)) words ∙ layer.passed s n b rest;
    }

are_read : (c : Cond) → AreRead (words_of c) (holds c)
are_read = ind-Cond (λ c. AreRead (words_of c) (holds c)) (λ x y is. subst (λ z. AreRead (words_of (roll-Cond z)) (holds (roll-Cond z))) is (roll_read y))

-- the words of a condition hold where it does
pub words_told : (c : Cond) (v : Vector) → words_hold (words_of c) v ≡ holds c (value_of v)
words_told c v =
    ap (read_words (value_of v) 0 true) (sym (append-nil (words_of c))) ∙ (are_read c).value (value_of v) true []

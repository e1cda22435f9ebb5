-- What the tests of names say.
use Rattle.std.proofs.Common.{◌≡◌, ◌≢◌, ℕ, zero, suc, Bool, true, false, not, ◌&&◌, List, [], ◌∷◌, map, refl, sym, ◌∙◌, ap, arith}
use Rattle.std.specs.Prelude.{codes, nat_eq}
use Rattle.std.specs.Rc.{rc_str_bytes}
use Rattle.std.specs.declared.alloc.Global.{Global}
use Rattle.std.specs.declared.rc.RcStr.{RcStr}
use Rattle.std.specs.List.{All, list_all}
use Rattle.std.specs.Str.{bytes_eq}
use Rattle.std.specs.Cmp.Lexicographic.{pointwise}
use Rattle.std.proofs.lemmas.Bool.{and_parts, and_from, or_parts, or_from, not-true, false≢true}
use Rattle.std.proofs.lemmas.Slice.Eq.{slice_eq-Decides, bytes_eq-Decides}
use Rattle.task_core.specs.Names.{AreActionNames, AreDistinct, AreFluentNames, IsName, IsWord, Name, first_word, is_name_byte}
use Rattle.task_core.specs.Checks.{all_differ, fluent_name_passes, has_some, is_among, name_passes, same_name, says_not, word_passes}

-- `==` of two texts
abbrev same_text : RcStr Global → RcStr Global → Bool
same_text x y = pointwise nat_eq (rc_str_bytes x) (rc_str_bytes y)

-- `==` of two lists of texts is the test of their bytes
pub same_bytes : (xs ys : List (RcStr Global)) → pointwise same_text xs ys ≡ pointwise bytes_eq (map rc_str_bytes xs) (map rc_str_bytes ys)
same_bytes [] [] = refl
same_bytes [] (y ∷ ys) = refl
same_bytes (x ∷ xs) [] = refl
same_bytes (x ∷ xs) (y ∷ ys) = ap (λ b. bytes_eq (rc_str_bytes x) (rc_str_bytes y) && b) (same_bytes xs ys)

-- the same names are equal, and the other way round
same_equal : (v w : Name) → same_name v w ≡ true → v ≡ w
same_equal v w e = (slice_eq-Decides (λ a b. bytes_eq-Decides a b) v w (same_name v w) refl).0 e

equal_same : (v w : Name) → v ≡ w → same_name v w ≡ true
equal_same v w e = (slice_eq-Decides (λ a b. bytes_eq-Decides a b) v w (same_name v w) refl).1 e

-- a test of each element and a fact about each
all_from : {X : Type 0} (p : X → Bool) (P : X → Type 0) → ((x : X) → p x ≡ true → P x) → (xs : List X) → list_all p xs ≡ true → All P xs
all_from p P h [] e k d l = absurd (omega arith)
all_from p P h (x ∷ xs) e zero d l = h x (and_parts (p x) (list_all p xs) e).0
all_from p P h (x ∷ xs) e (suc k) d l = all_from p P h xs (and_parts (p x) (list_all p xs) e).1 k d (omega arith)

all_to : {X : Type 0} (p : X → Bool) (P : X → Type 0) → ((x : X) → P x → p x ≡ true) → (xs : List X) → All P xs → list_all p xs ≡ true
all_to p P h [] a = refl
all_to p P h (x ∷ xs) a =
    and_from (p x) (list_all p xs) (h x (a 0 x (omega arith))) (all_to p P h xs (λ k d l. a (suc k) d (omega arith)))

some_from : {X : Type 0} (xs : List X) → has_some xs ≡ true → xs ≢ []
some_from [] e is = false≢true e
some_from (x ∷ xs) e is = cc

some_to : {X : Type 0} (xs : List X) → xs ≢ [] → has_some xs ≡ true
some_to [] ne = absurd (ne refl)
some_to (x ∷ xs) ne = refl

word_from : (w : List ℕ) → word_passes w ≡ true → IsWord w
word_from w e =
    let parts = and_parts (has_some w) (list_all is_name_byte w) e in
    record { some = some_from w parts.0; bytes = all_from is_name_byte (λ c. is_name_byte c ≡ true) (λ c h. h) w parts.1 }

word_to : (w : List ℕ) → IsWord w → word_passes w ≡ true
word_to w is = and_from (has_some w) (list_all is_name_byte w) (some_to w is.some) (all_to is_name_byte (λ c. is_name_byte c ≡ true) (λ c h. h) w is.bytes)

name_from : (n : Name) → name_passes n ≡ true → IsName n
name_from n e =
    let parts = and_parts (has_some n) (list_all word_passes n) e in
    record { some = some_from n parts.0; each_word = all_from word_passes IsWord word_from n parts.1 }

name_to : (n : Name) → IsName n → name_passes n ≡ true
name_to n is = and_from (has_some n) (list_all word_passes n) (some_to n is.some) (all_to word_passes IsWord word_to n is.each_word)

no_not_from : (n : Name) → not (says_not n) ≡ true → first_word n ≢ codes "not"
no_not_from n e is =
    let same = (bytes_eq-Decides (first_word n) (codes "not")).1 is in
    false≢true (sym (not-true _ e) ∙ same)

no_not_to : (n : Name) → first_word n ≢ codes "not" → not (says_not n) ≡ true
no_not_to n ne =
    elim (says_not n) as (λ b. (says_not n ≡ b) → not b ≡ true) [
      | true ↦ λ e. absurd (ne ((bytes_eq-Decides (first_word n) (codes "not")).0 e))
      | false ↦ λ _. refl
    ] refl

-- names that all differ
among_from : (names : List Name) (n : Name) → is_among names n ≡ false → All (λ other. other ≢ n) names
among_from [] n e k d l is = absurd (omega arith)
among_from (m ∷ names) n e zero d l is =
    false≢true (sym (or_parts (same_name m n) (is_among names n) e).0 ∙ equal_same m n is)
among_from (m ∷ names) n e (suc k) d l is = among_from names n (or_parts (same_name m n) (is_among names n) e).1 k d (omega arith) is

among_to : (names : List Name) (n : Name) → All (λ other. other ≢ n) names → is_among names n ≡ false
among_to [] n a = refl
among_to (m ∷ names) n a =
    or_from (same_name m n) (is_among names n)
    (elim (same_name m n) as (λ b. (same_name m n ≡ b) → b ≡ false) [ true ↦ λ e. absurd (a 0 m (omega arith) (same_equal m n e)) | false ↦ λ _. refl ] refl)
    (among_to names n (λ k d l. a (suc k) d (omega arith)))

differ_from : (names : List Name) → all_differ names ≡ true → AreDistinct names
differ_from [] e i j d l h is = absurd (omega arith)
differ_from (n ∷ names) e i zero d l h is = absurd (omega arith)
differ_from (n ∷ names) e zero (suc j) d l h is =
    among_from names n (not-true _ (and_parts (not (is_among names n)) (all_differ names) e).0) j d (omega arith) (sym is)
differ_from (n ∷ names) e (suc i) (suc j) d l h is =
    differ_from names (and_parts (not (is_among names n)) (all_differ names) e).1 i j d (omega arith) (omega arith) is

differ_to : (names : List Name) → AreDistinct names → all_differ names ≡ true
differ_to [] a = refl
differ_to (n ∷ names) a =
    and_from (not (is_among names n)) (all_differ names)
    (ap not (among_to names n (λ k d l is. a 0 (suc k) d (omega arith) (omega arith) (sym is))))
    (differ_to names (λ i j d l h is. a (suc i) (suc j) d (omega arith) (omega arith) is))

pub action_names_from : (names : List Name) → list_all name_passes names ≡ true → all_differ names ≡ true → AreActionNames names
action_names_from names e f = record { each = all_from name_passes IsName name_from names e; distinct = differ_from names f }

pub action_names_to : (names : List Name) → AreActionNames names → (list_all name_passes names ≡ true) × (all_differ names ≡ true)
action_names_to names are = (all_to name_passes IsName name_to names are.each, differ_to names are.distinct)

pub fluent_names_from : (names : List Name) → list_all fluent_name_passes names ≡ true → all_differ names ≡ true → AreFluentNames names
fluent_names_from names e f = record {
  each = all_from fluent_name_passes IsName (λ n h. name_from n (and_parts (name_passes n) (not (says_not n)) h).0) names e;
  no_not = all_from fluent_name_passes (λ n. first_word n ≢ codes "not") (λ n h. no_not_from n (and_parts (name_passes n) (not (says_not n)) h).1) names e;
  distinct = differ_from names f;
}

both_pass : (names : List Name) → list_all name_passes names ≡ true → list_all (λ n. not (says_not n)) names ≡ true → list_all fluent_name_passes names ≡ true
both_pass [] e f = refl
both_pass (n ∷ names) e f =
    let es = and_parts (name_passes n) (list_all name_passes names) e in
    let fs = and_parts (not (says_not n)) (list_all (λ m. not (says_not m)) names) f in
    and_from (fluent_name_passes n) (list_all fluent_name_passes names) (and_from (name_passes n) (not (says_not n)) es.0 fs.0) (both_pass names es.1 fs.1)

pub fluent_names_to : (names : List Name) → AreFluentNames names → (list_all fluent_name_passes names ≡ true) × (all_differ names ≡ true)
fluent_names_to names are = (
  both_pass names (all_to name_passes IsName name_to names are.each) (all_to (λ n. not (says_not n)) (λ n. first_word n ≢ codes "not") no_not_to names are.no_not),
  differ_to names are.distinct,
)

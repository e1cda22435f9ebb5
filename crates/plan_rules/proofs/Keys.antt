-- The keys of a table of names are looked up by their words.
use Rattle.std.proofs.Common.{◌≡◌, ℕ, suc, Bool, ◌&&◌, ◌||◌, ◌++◌, true, false, List, [], ◌∷◌, map, nat_eq, cond, not, length, ◌+◌, refl, ap, sym, ◌∙◌, arith}
use Rattle.std.specs.Prelude.{Some, None, position, nat_lt}
use Rattle.std.specs.Rc.{rc_str_bytes}
use Rattle.std.specs.List.{list_all, list_any, position_or_len}
use Rattle.std.specs.Str.{bytes_eq, IsUtf8, is_utf8}
use Rattle.std.specs.Cmp.Lexicographic.{pointwise}
use Rattle.std.specs.declared.alloc.Global.{Global}
use Rattle.std.proofs.lemmas.Bool.{and_from, false≢true}
use Rattle.std.proofs.lemmas.Bool.Decides.{nat_tests}
use Rattle.std.proofs.lemmas.List.{length-map}
use Rattle.std.proofs.lemmas.Str.{IsUtf8-from_is_utf8, IsUtf8-string_bytes, is_utf8-from_IsUtf8}
use Rattle.std.specs.declared.rc.RcStr.{RcStr}
use Rattle.task_core.specs.Names.{Name, Words}
use Rattle.plan_rules.specs.NameKeys.{key_of}
use Rattle.plan_rules.specs.Readings.{number_of_name}
use Rattle.plan_rules.proofs.NameNumbers.{differs, same_name}

abbrev pub Key : Type 0
Key = Words

abbrev pub same_key : Key → Key → Bool
same_key k l = pointwise (λ (v w : RcStr Global). pointwise nat_eq (rc_str_bytes v) (rc_str_bytes w)) k.items l.items

same_words : (vs ws : List (RcStr Global)) → pointwise (λ (v w : RcStr Global). pointwise nat_eq (rc_str_bytes v) (rc_str_bytes w)) vs ws ≡ pointwise bytes_eq (map rc_str_bytes vs) (map rc_str_bytes ws)
same_words [] [] = refl
same_words [] (w ∷ ws) = refl
same_words (v ∷ vs) [] = refl
same_words (v ∷ vs) (w ∷ ws) = ap (λ b. bytes_eq (rc_str_bytes v) (rc_str_bytes w) && b) (same_words vs ws)

pub same_key-words : (k l : Key) → same_key k l ≡ pointwise bytes_eq (key_of k) (key_of l)
same_key-words k l = same_words k.items l.items

pub any-words : (k : Key) (ls : List Key) → list_any (same_key k) ls ≡ list_any (pointwise bytes_eq (key_of k)) (map key_of ls)
any-words k [] = refl
any-words k (l ∷ ls) = ap (λ b. b || list_any (same_key k) ls) (same_key-words k l) ∙ ap (λ b. pointwise bytes_eq (key_of k) (key_of l) || b) (any-words k ls)

prefix-words : (k : Key) (ls : List Key) → position_or_len (same_key k) ls ≡ position_or_len (pointwise bytes_eq (key_of k)) (map key_of ls)
prefix-words k [] = refl
prefix-words k (l ∷ ls) =
    ap (λ b. cond (not b) (1 + position_or_len (same_key k) ls) 0) (same_key-words k l)
    ∙ ap (λ n. cond (not (pointwise bytes_eq (key_of k) (key_of l))) (1 + n) 0) (prefix-words k ls)

pub position-words : (k : Key) (ls : List Key) → position (same_key k) ls ≡ position (pointwise bytes_eq (key_of k)) (map key_of ls)
position-words k ls =
    ap (λ n. cond (nat_lt n (length ls)) (Some n) None) (prefix-words k ls)
    ∙ ap (λ n. cond (nat_lt (position_or_len (pointwise bytes_eq (key_of k)) (map key_of ls)) n) (Some (position_or_len (pointwise bytes_eq (key_of k)) (map key_of ls))) None) (sym (length-map ls key_of))

-- the words of a key are in UTF-8, so words that aren't are in no key
in_utf8 : (ws : List (RcStr Global)) → list_all is_utf8 (map rc_str_bytes ws) ≡ true
in_utf8 [] = refl
in_utf8 (w ∷ ws) = and_from (is_utf8 (rc_str_bytes w)) (list_all is_utf8 (map rc_str_bytes ws)) (is_utf8-from_IsUtf8 (rc_str_bytes w) (IsUtf8-string_bytes w.text.value)) (in_utf8 ws)

is_other : (n : Name) → list_all is_utf8 n ≡ false → (l : Key) → pointwise bytes_eq n (key_of l) ≡ false
is_other n e l = differs (pointwise bytes_eq n (key_of l)) (same_name n (key_of l)) (λ is. false≢true (sym e ∙ ap (list_all is_utf8) is ∙ in_utf8 l.items))

one_more : (n : ℕ) → 1 + n ≡ suc n
one_more n = omega arith

all_passed : (n : Name) → list_all is_utf8 n ≡ false → (ls : List Key) → position_or_len (pointwise bytes_eq n) (map key_of ls) ≡ length (map key_of ls)
all_passed n e [] = refl
all_passed n e (l ∷ ls) =
    ap (λ b. cond (not b) (1 + position_or_len (pointwise bytes_eq n) (map key_of ls)) 0) (is_other n e l)
    ∙ ap (λ m. 1 + m) (all_passed n e ls)
    ∙ one_more (length (map key_of ls))

pub unlisted : (n : Name) → list_all is_utf8 n ≡ false → (ls : List Key) → number_of_name (map key_of ls) n ≡ None
unlisted n e ls =
    let names : List Name = map key_of ls in
    let past : nat_lt (length names) (length names) ≡ false = grind (arith, nat_tests) in
    ap (λ m. cond (nat_lt m (length names)) (Some m) None) (all_passed n e ls)
    ∙ ap (λ b. cond b (Some (length names)) None) past

-- a text that isn't in UTF-8 among texts
pub has_other : (before : List (List ℕ)) (text : List ℕ) (rest : List (List ℕ)) → is_utf8 text ≡ false → list_all is_utf8 (before ++ text ∷ rest) ≡ false
has_other [] text rest e = ap (λ b. b && list_all is_utf8 rest) e
has_other (x ∷ before) text rest e = ap (λ b. is_utf8 x && b) (has_other before text rest e) ∙ and_no (is_utf8 x)
  where
    and_no : (b : Bool) → b && false ≡ false
    and_no true = refl
    and_no false = refl

pub no_text : (bs : List ℕ) → (IsUtf8 bs → ⊥) → is_utf8 bs ≡ false
no_text bs isnt =
    elim (is_utf8 bs) as (λ b. (is_utf8 bs ≡ b) → b ≡ false) [
      | true ↦ λ e. absurd (isnt (IsUtf8-from_is_utf8 bs e))
      | false ↦ λ _. refl
    ] refl

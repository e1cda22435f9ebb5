-- Ranges of numbers, and the first number that passes a test.
use Rattle.std.proofs.Common.{◌≡◌, ℕ, zero, suc, ◌+◌, ◌-◌, ◌<◌, Bool, true, [], ◌∷◌, ◌++◌, sym, ◌∙◌, ap, arith, None, Some, append-nil, append_assoc}
use Rattle.std.specs.List.{find, range_with_len}
use Rattle.std.specs.Option.{option_or}
use Rattle.std.proofs.lemmas.Bool.{cond-true}
use Rattle.std.proofs.lemmas.List.{map-id}
use Rattle.std.proofs.lemmas.List.FromFn.{map-range_with_len_more}
use Rattle.std.proofs.lemmas.List.Folds.{find-append}

-- one number more
pub range-more : (n : ℕ) → range_with_len 0 (n + 1) ≡ range_with_len 0 n ++ n ∷ []
range-more n = sym (map-id (range_with_len 0 (n + 1))) ∙ (map-range_with_len_more (λ k. k) 0 n n (omega arith) ∙ ap (λ xs. xs ++ n ∷ []) (map-id (range_with_len 0 n)))

pub range_split : (k m : ℕ) → range_with_len 0 (k + m) ≡ range_with_len 0 k ++ range_with_len k m
range_split k zero = ap (range_with_len 0) (let e : k + 0 ≡ k = omega arith in e) ∙ sym (append-nil (range_with_len 0 k))
range_split k (suc m) =
    let e : k + suc m ≡ (k + 1) + m = omega arith in
    ap (range_with_len 0) e ∙ (range_split (k + 1) m
    ∙ (ap (λ xs. xs ++ range_with_len (k + 1) m) (range-more k) ∙ append_assoc (range_with_len 0 k) (k ∷ []) (range_with_len (k + 1) m)))

pub find-first : (p : ℕ → Bool) (k n : ℕ) → find p (range_with_len 0 k) ≡ None → k < n → p k ≡ true → find p (range_with_len 0 n) ≡ Some k
find-first p k n before within here =
    let m = n - k - 1 in
    let e : n ≡ k + suc m = omega arith in
    ap (λ x. find p (range_with_len 0 x)) e
    ∙ (ap (find p) (range_split k (suc m)) ∙ (find-append p (range_with_len 0 k) (range_with_len k (suc m))
    ∙ (ap (λ o. option_or o (find p (range_with_len k (suc m)))) before ∙ cond-true (p k) (Some k) (find p (range_with_len (k + 1) m)) here)))

-- a number that is found in the first numbers is found in more of them
pub find-before : (p : ℕ → Bool) (b n a : ℕ) → b < n → find p (range_with_len 0 b) ≡ Some a → find p (range_with_len 0 n) ≡ Some a
find-before p b n a below h =
    let m = n - b in
    let e : n ≡ b + m = omega arith in
    ap (λ k. find p (range_with_len 0 k)) e ∙ ap (find p) (range_split b m) ∙ find-append p (range_with_len 0 b) (range_with_len b m) ∙ ap (λ o. option_or o (find p (range_with_len b m))) h

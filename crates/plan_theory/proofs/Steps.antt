-- What holds at a number and goes on with each step holds from there on.
use Rattle.std.proofs.Common.{◌≡◌, ℕ, zero, suc, ◌<◌, ◌≤◌, subst, arith, ⊎_elim}
use Rattle.std.proofs.lemmas.Bool.{cases_lt}

pub along : (P : ℕ → Type 0) (n : ℕ) → P n → ((m : ℕ) → n ≤ m → P m → P (suc m)) → (m : ℕ) → n ≤ m → P m
along P n h step zero l = let e : n ≡ 0 = omega arith in subst P e h
along P n h step (suc m) l =
    ⊎_elim
    (λ (s : n < suc m). step m (omega arith) (along P n h step m (omega arith)))
    (λ (s : suc m ≤ n). let e : n ≡ suc m = omega arith in subst P e h)
    (cases_lt n (suc m))

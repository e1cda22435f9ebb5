-- The words of states, bit by bit.
use Rattle.std.proofs.Common.{◌≡◌, ℕ, zero, suc, ◌<◌, ◌/◌, ◌%◌, Bool, false, ◌||◌, ◌&&◌, eqb, max, List, [], ◌∷◌, length, get_or, refl, sym, ◌∙◌, ap, arith, bit_and, bit_or}
use Rattle.std.specs.Int.{bit_at}
use Rattle.std.proofs.lemmas.List.{get_or_past}
use Rattle.std.proofs.lemmas.Nat.Bits.{bit_at_and, bit_at_or, bit_at-lt, bit_at-zero}
use Rattle.exec_graph.specs.Effects.{truth_in}
use Rattle.list_laws.proofs.Numbers.{least_bit}

-- whether a word has a bit
abbrev has : ℕ → ℕ → Bool
has word k = eqb (bit_at word k) 1

either : (x y : ℕ) → x < 2 → y < 2 → eqb (max x y) 1 ≡ (eqb x 1 || eqb y 1)
either zero zero hx hy = refl
either zero (suc zero) hx hy = refl
either zero (suc (suc y)) hx hy = absurd (omega arith)
either (suc zero) zero hx hy = refl
either (suc zero) (suc zero) hx hy = refl
either (suc zero) (suc (suc y)) hx hy = absurd (omega arith)
either (suc (suc x)) y hx hy = absurd (omega arith)

one_word : (a b c k : ℕ) → has (bit_or a (bit_and b c)) k ≡ (has a k || (has b k && has c k))
one_word a b c k =
    ap (λ n. eqb n 1) (bit_at_or a (bit_and b c) k)
    ∙ either (bit_at a k) (bit_at (bit_and b c) k) (bit_at-lt a k) (bit_at-lt (bit_and b c) k)
    ∙ ap (λ t. has a k || t) (ap (λ n. eqb n 1) (bit_at_and b c k) ∙ least_bit (bit_at b k) (bit_at c k) (bit_at-lt b k) (bit_at-lt c k))

-- the words of a, and those of c as far as they are in b
abbrev pub joined : List ℕ → List ℕ → List ℕ → List ℕ
joined a b c =
    bit_or (get_or a 0 0) (bit_and (get_or b 0 0) (get_or c 0 0))
    ∷ bit_or (get_or a 1 0) (bit_and (get_or b 1 0) (get_or c 1 0))
    ∷ bit_or (get_or a 2 0) (bit_and (get_or b 2 0) (get_or c 2 0))
    ∷ bit_or (get_or a 3 0) (bit_and (get_or b 3 0) (get_or c 3 0))
    ∷ []

none_of : (word k : ℕ) → word ≡ 0 → has word k ≡ false
none_of word k e = ap (λ n. has n k) e ∙ ap (λ n. eqb n 1) (bit_at-zero k)

module _ (a b c : List ℕ) (la : length a ≡ 4) (lb : length b ≡ 4) where
  word_at : (q k : ℕ) → has (get_or (joined a b c) q 0) k ≡ (has (get_or a q 0) k || (has (get_or b q 0) k && has (get_or c q 0) k))
  word_at zero k = one_word (get_or a 0 0) (get_or b 0 0) (get_or c 0 0) k
  word_at (suc zero) k = one_word (get_or a 1 0) (get_or b 1 0) (get_or c 1 0) k
  word_at (suc (suc zero)) k = one_word (get_or a 2 0) (get_or b 2 0) (get_or c 2 0) k
  word_at (suc (suc (suc zero))) k = one_word (get_or a 3 0) (get_or b 3 0) (get_or c 3 0) k
  word_at (suc (suc (suc (suc q)))) k =
      let i : ℕ = suc (suc (suc (suc q))) in
      let none_a : has (get_or a i 0) k ≡ false = none_of (get_or a i 0) k (get_or_past a i 0 (omega (arith, la))) in
      let none_b : has (get_or b i 0) k ≡ false = none_of (get_or b i 0) k (get_or_past b i 0 (omega (arith, lb))) in
      none_of (get_or (joined a b c) i 0) k refl
      ∙ sym (ap (λ t. t || (has (get_or b i 0) k && has (get_or c i 0) k)) none_a ∙ ap (λ t. t && has (get_or c i 0) k) none_b)

  pub truth_joined : (f : ℕ) → truth_in (joined a b c) f ≡ (truth_in a f || (truth_in b f && truth_in c f))
  truth_joined f = word_at (f / 64) (f % 64)

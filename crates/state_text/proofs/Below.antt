-- What is printed of the numbers below a bound, one number more.
use Rattle.std.proofs.Common.{◌≡◌, ℕ, suc, ◌+◌, List, ◌++◌, ap, ◌∙◌, append_assoc, arith}
use Rattle.state_text.specs.Texts.{below}

pub below_more : (part : ℕ → List ℕ) (i : ℕ) (start old new word : List ℕ) → old ≡ start ++ below part i → new ≡ old ++ word → word ≡ part i
    → new ≡ start ++ below part (i + 1)
below_more part i start old new word before pushed is =
    let next : suc i ≡ i + 1 = omega arith in
    pushed ∙ ap (λ xs. xs ++ word) before ∙ ap (λ w. (start ++ below part i) ++ w) is ∙ append_assoc start (below part i) (part i)
    ∙ ap (λ k. start ++ below part k) next

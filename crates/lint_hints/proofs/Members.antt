-- The members of a group, one number more.
use Rattle.std.proofs.Common.{◌≡◌, ℕ, suc, ◌+◌, Bool, List, ◌++◌, ◌∙◌, ap, arith}
use Rattle.lint_hints.specs.Sentences.{alone_if, members_below}

pub members_more : (group : ℕ → Bool) (i : ℕ) (value : Bool) (old new : List ℕ) → old ≡ members_below group i → new ≡ old ++ alone_if value i → value ≡ group i
    → new ≡ members_below group (i + 1)
members_more group i value old new before pushed is =
    let next : suc i ≡ i + 1 = omega arith in
    pushed ∙ ap (λ xs. xs ++ alone_if value i) before ∙ ap (λ b. members_below group i ++ alone_if b i) is ∙ ap (λ k. members_below group k) next

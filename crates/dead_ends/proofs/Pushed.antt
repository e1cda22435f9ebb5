-- Two texts that are added in turn.
use Rattle.std.proofs.Common.{◌≡◌, ◌++◌, ◌∙◌, List, ℕ, ap, append_assoc}
use Rattle.std.specs.Prelude.{OnOk, Result, Ok, Err}

pub pushed_two : {T E : Type 0} (r : Result T E) (old first second mid end : List ℕ) → mid ≡ old ++ first → OnOk r (end ≡ mid ++ second) → OnOk r (end ≡ old ++ (first ++ second))
pushed_two (Ok done) old first second mid end is next = next ∙ ap (λ xs. xs ++ second) is ∙ append_assoc old first second
pushed_two (Err e) old first second mid end is next = tt

-- A text that is appended in two pieces.
use Rattle.std.proofs.Common.{◌≡◌, ◌++◌, ◌∙◌, List, ℕ, ap, append_assoc}
use Rattle.std.specs.Prelude.{OnOk, Result, Ok, Err}

pub pushed : {A E : Type 0} (r : Result A E) (s s1 s2 a b : List ℕ) → s1 ≡ s ++ a → OnOk r (s2 ≡ s1 ++ b) → OnOk r (s2 ≡ s ++ (a ++ b))
pushed (Ok value) s s1 s2 a b one two = two ∙ ap (λ (t : List ℕ). t ++ b) one ∙ append_assoc s a b
pushed (Err error) s s1 s2 a b one two = two

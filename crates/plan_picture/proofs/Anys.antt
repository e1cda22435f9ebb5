-- Some element of a list passes a test.
use Rattle.std.proofs.Common.{◌≡◌, ◌<◌, ℕ, zero, suc, Bool, ◌||◌, true, List, [], ◌∷◌, map, length, get_or, ap, sym, ◌∙◌, arith}
use Rattle.std.proofs.lemmas.Bool.{or_right}
use Rattle.std.specs.List.{list_any}

pub any_at : {X Y : Type 0} (test : Y → Bool) (f : X → Y) (xs : List X) (i : ℕ) (x : X) → i < length xs → x ≡ get_or xs i x → test (f x) ≡ true → list_any test (map f xs) ≡ true
any_at test f [] i x within at is = absurd (omega arith)
any_at test f (y ∷ xs) zero x within at is = ap (λ b. b || list_any test (map f xs)) (ap (λ z. test (f z)) (sym at) ∙ is)
any_at test f (y ∷ xs) (suc i) x within at is = or_right (test (f y)) (list_any test (map f xs)) (any_at test f xs i x (omega arith) at is)

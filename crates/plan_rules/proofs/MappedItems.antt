-- What holds of each rule, at the rule that a loop has come to.
use Rattle.std.proofs.Common.{◌≡◌, ℕ, ◌<◌, List, length, map, get_or, subst, sym, ap, ◌∙◌, arith}
use Rattle.std.specs.Prelude.{All}
use Rattle.std.proofs.lemmas.List.{get_or-map, length-map}

pub mapped_item : {X Y : Type 0} (P : Y → Type 0) (f : X → Y) (xs : List X) (i : ℕ) (x : X) → All P (map f xs) → i < length xs → x ≡ get_or xs i x → P (f x)
mapped_item P f xs i x all within is =
    let inside : i < length (map f xs) = omega (arith, length-map xs f) in
    subst P (get_or-map f xs i x (f x) within ∙ ap f (sym is)) (all i (f x) inside)

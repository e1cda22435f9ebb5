-- Texts that are appended, and lists that grow by one.
use Rattle.std.proofs.Common.{◌≡◌, ℕ, ◌+◌, ◌<◌, List, [], ◌∷◌, ◌++◌, ◌∙◌, ap, append_assoc, get_or, if◌then◌else◌, length, map, sym, take}
use Rattle.std.proofs.lemmas.List.{map-append, take_more}
use Rattle.std.specs.Prelude.{Err, Ok, OnOk, Result, is_ok}

-- three texts appended, the last by a call that may fail
pub three_pushed : {X E : Type 0} (r : Result X E) (out a b c one two three : List ℕ) → one ≡ out ++ a → two ≡ one ++ b
    → three ≡ (if is_ok r then two ++ c else two) → OnOk r (three ≡ out ++ (a ++ b ++ c))
three_pushed (Ok x) out a b c one two three one_is two_is three_is =
    three_is ∙ ap (λ xs. xs ++ c) (two_is ∙ ap (λ xs. xs ++ b) one_is ∙ append_assoc out a b) ∙ append_assoc out (a ++ b) c
three_pushed (Err e) out a b c one two three one_is two_is three_is = tt

-- one list is another, item by item, up to a place: one item more
pub item_more : {X Y Z : Type 0} (f : X → Z) (g : Y → Z) (xs : List X) (i : ℕ) (x : X) (before now : List Y) (y : Y) → i < length xs → x ≡ get_or xs i x
    → now ≡ before ++ y ∷ [] → g y ≡ f x → map g before ≡ map f (take i xs) → map g now ≡ map f (take (i + 1) xs)
item_more f g xs i x before now y below at pushed same so_far =
    ap (map g) pushed ∙ map-append g before (y ∷ []) ∙ ap (λ zs. zs ++ g y ∷ []) so_far ∙ ap (λ z. map f (take i xs) ++ z ∷ []) (same ∙ ap f at)
    ∙ sym (map-append f (take i xs) (get_or xs i x ∷ [])) ∙ ap (map f) (sym (take_more xs i x below))

-- Parts, one after another.
use Rattle.std.proofs.Common.{ap, append-nil, append_assoc, arith, ◌∙◌}
use Rattle.std.specs.Prelude.{◌≡◌, ◌≤◌, ℕ, ◌+◌, ◌-◌, ◌++◌, [], ◌∷◌, codes, map}
use Rattle.std.specs.List.{range_with_len}
use Rattle.std.proofs.lemmas.Grind.{flat_map-append}
use Rattle.std.proofs.lemmas.List.FromFn.{map-range_with_len_more}
use Rattle.task_gen.specs.Texts.{Bytes, line_feed, lines, spaced}

-- one part more, behind a space
pub one_more : (f : ℕ → Bytes) (a n j : ℕ) → a + n ≡ j → spaced (map f (range_with_len a (n + 1))) ≡ spaced (map f (range_with_len a n)) ++ (codes " " ++ f j)
one_more f a n j e =
    ap spaced (map-range_with_len_more f a n j e)
    ∙ flat_map-append (λ part. codes " " ++ part) (map f (range_with_len a n)) (f j ∷ [])
    ∙ ap (λ rest. spaced (map f (range_with_len a n)) ++ rest) (append-nil (codes " " ++ f j))

-- the same, by the number of the next part
pub one_more_at : (f : ℕ → Bytes) (a i : ℕ) → a ≤ i → spaced (map f (range_with_len a (i + 1 - a))) ≡ spaced (map f (range_with_len a (i - a))) ++ (codes " " ++ f i)
one_more_at f a i le =
    let e : i + 1 - a ≡ i - a + 1 = omega (arith, le) in
    ap (λ n. spaced (map f (range_with_len a n))) e ∙ one_more f a (i - a) i (omega (arith, le))

-- a part between two others, and what ends the line
pub line_of_parts : (out first mid last end : Bytes) → ((out ++ first) ++ mid) ++ (last ++ end) ≡ out ++ ((first ++ (mid ++ last)) ++ end)
line_of_parts out first mid last end = grind (arith, append_assoc)

nested : (a b c d : Bytes) → ((a ++ b) ++ c) ++ d ≡ a ++ (b ++ (c ++ (d ++ [])))
nested a b c d = grind (arith, append_assoc, append-nil)

-- four lines, one after another
pub four_lines : (none one two three four a b c d : Bytes) → none ≡ [] → one ≡ none ++ (a ++ line_feed) → two ≡ one ++ (b ++ line_feed) → three ≡ two ++ (c ++ line_feed) → four ≡ three ++ (d ++ line_feed) → four ≡ lines (a ∷ b ∷ c ∷ d ∷ [])
four_lines none one two three four a b c d e0 e1 e2 e3 e4 =
    let A = a ++ line_feed in let B = b ++ line_feed in let C = c ++ line_feed in let D = d ++ line_feed in
    e4 ∙ ap (λ t. t ++ D) (e3 ∙ ap (λ t. t ++ C) (e2 ∙ ap (λ t. t ++ B) (e1 ∙ ap (λ t. t ++ A) e0)))
    ∙ nested A B C D

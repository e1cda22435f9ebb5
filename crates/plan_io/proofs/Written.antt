-- Bytes that were written one piece after another.
use Rattle.std.proofs.Common.{◌≡◌, ℕ, ◌+◌, ◌-◌, ◌≤◌, List, ◌++◌, Option, None, Some, take, drop, length, refl, sym, ap, ◌∙◌, append_assoc, arith, length-drop}
use Rattle.std.proofs.Math.Seq.{take-add}
use Rattle.std.proofs.lemmas.List.{take_all}
use Rattle.std.specs.Io.KnownBytes.{append_known}

append_known-append : (known : Option (List ℕ)) (first second : List ℕ) → append_known (append_known known first) second ≡ append_known known (first ++ second)
append_known-append None first second = refl
append_known-append (Some xs) first second = ap (λ l. Some l) (append_assoc xs first second)

-- what is left of the text, as the slice from `taken` on
rest_is : (text : List ℕ) (taken : ℕ) → take (length text - taken) (drop taken text) ≡ drop taken text
rest_is text taken = take_all _ _ (omega (arith, length-drop taken text))

-- a put of a front of what is left of the text, after the front that was taken before
pub written_more : (start before after : Option (List ℕ)) (text : List ℕ) (taken count : ℕ) → before ≡ append_known start (take taken text)
    → after ≡ append_known before (take count (take (length text - taken) (drop taken text))) → after ≡ append_known start (take (taken + count) text)
written_more start before after text taken count earlier put =
    put
    ∙ ap (λ known. append_known known (take count (take (length text - taken) (drop taken text)))) earlier
    ∙ append_known-append start (take taken text) _
    ∙ ap (append_known start) (ap (λ rest. take taken text ++ take count rest) (rest_is text taken) ∙ sym (take-add taken count text))

-- no put takes more than what is left
pub taken_within : (text : List ℕ) (taken count : ℕ) → taken ≤ length text → count ≤ length (take (length text - taken) (drop taken text)) → taken + count ≤ length text
taken_within text taken count h k = let left : count ≤ length (drop taken text) = rw rest_is at k in omega (arith, length-drop taken text)

-- The flaws of a text of which a record is read stand in the order of the text.
use Rattle.std.proofs.Common.{ℕ, suc, ◌+◌, ◌-◌, ◌≤◌, Bool, true, false, if◌then◌else◌, List, [], ◌∷◌, ◌++◌, Option, Some, None, IfSome, codes, arith}
use Rattle.sexpr_text.specs.declared.forms.Span.{Span}
use Rattle.sexpr_text.specs.declared.faults.FaultKind.TheVariants.{BadNumber}
use Rattle.sexpr_text.specs.Forest.{Forest, nothing, word, group}
use Rattle.sexpr_text.specs.Formed.{IsRising}
use Rattle.sexpr_text.specs.Flaws.{Flaw, flaw_at, IsInOrder}
use Rattle.sexpr_text.specs.Numerals.{is_numeral}
use Rattle.sexpr_text.specs.Parts.{after_first, begins_with, first_group_with}
use Rattle.sexpr_text.proofs.FlawLaws.{in_order-from, in_order-up_to}
use Rattle.sexpr_text.proofs.GroupLaws.{rising-bounds}
use Rattle.run_replay.specs.Records.{numbers_flaws, record_flaws, flaws_of_found, is_record}

-- a group that was found in a row: it stands within the row, and its parts between its parentheses
record IsPlaced (lo hi : ℕ) (found : Span × Forest) : Type 0 where
  from : lo ≤ found.0.start
  some : found.0.start + 2 ≤ found.0.end
  up_to : found.0.end ≤ hi
  parts : IsRising (found.0.start + 1) (found.0.end - 1) found.1

either_way : {X : Type 0} (P : X → Type 0) (b : Bool) (x y : Option X) → IfSome x P → IfSome y P → IfSome (if b then x else y) P
either_way P true x y p q = p
either_way P false x y p q = q

later : (lo low hi : ℕ) (found : Option (Span × Forest)) → lo ≤ low → IfSome found (IsPlaced low hi) → IfSome found (IsPlaced lo hi)
later lo low hi None le p = p
later lo low hi (Some found) le p = record { from = omega (arith, le, p.from); some = p.some; up_to = p.up_to; parts = p.parts }

found_is_placed : (test : Forest → Bool) (lo hi : ℕ) (row : Forest) → IsRising lo hi row → IfSome (first_group_with test row) (IsPlaced lo hi)
found_is_placed test lo hi nothing h = tt
found_is_placed test lo hi (word span text rest) (a, b, c, d, e) =
    later lo span.end hi (first_group_with test rest) (omega arith) (found_is_placed test span.end hi rest e)
found_is_placed test lo hi (group span parts rest) (a, b, c, d) =
    either_way (IsPlaced lo hi) (test parts) (Some (span, parts)) (first_group_with test rest)
    (record { from = a; some = b; up_to = rising-bounds span.end hi rest d; parts = c })
    (later lo span.end hi (first_group_with test rest) (omega arith) (found_is_placed test span.end hi rest d))

numeral_or_flaw : (b : Bool) (span : Span) (hi : ℕ) (flaws : List Flaw) → IsInOrder (suc span.start) hi flaws
    → IsInOrder span.start hi ((if b then [] else flaw_at span BadNumber ∷ []) ++ flaws)
numeral_or_flaw true span hi flaws h = in_order-from span.start (suc span.start) hi flaws (omega arith) h
numeral_or_flaw false span hi flaws h = (omega arith, h)

numbers_in_order : (lo hi : ℕ) (row : Forest) → IsRising lo hi row → IsInOrder lo hi (numbers_flaws row)
numbers_in_order lo hi nothing h = h
numbers_in_order lo hi (word span text rest) (a, b, c, d, e) =
    in_order-from lo span.start hi (numbers_flaws (word span text rest)) a
    (numeral_or_flaw (is_numeral text) span hi (numbers_flaws rest)
    (in_order-from (suc span.start) span.end hi (numbers_flaws rest) (omega arith) (numbers_in_order span.end hi rest e)))
numbers_in_order lo hi (group span parts rest) (a, b, c, d) =
    (a, in_order-from (suc span.start) span.end hi (numbers_flaws rest) (omega arith) (numbers_in_order span.end hi rest d))

rising_from : (lo low hi : ℕ) (row : Forest) → lo ≤ low → IsRising low hi row → IsRising lo hi row
rising_from lo low hi nothing le h = omega (arith, le, h)
rising_from lo low hi (word span text rest) le (a, b, c, d, e) = (omega (arith, le, a), b, c, d, e)
rising_from lo low hi (group span parts rest) le (a, b, c, d) = (omega (arith, le, a), b, c, d)

rising_after : (lo hi : ℕ) (row : Forest) → IsRising lo hi row → IsRising lo hi (after_first row)
rising_after lo hi nothing h = h
rising_after lo hi (word span text rest) (a, b, c, d, e) = rising_from lo span.end hi rest (omega arith) e
rising_after lo hi (group span parts rest) (a, b, c, d) = rising_from lo span.end hi rest (omega arith) d

-- the same from the start of the list that the numbers stand in
widened : (span : Span) (hi : ℕ) (row : Forest) → span.end ≤ hi → span.start + 2 ≤ span.end
    → IsRising (span.start + 1) (span.end - 1) row → IsInOrder span.start hi (numbers_flaws row)
widened span hi row le some h =
    in_order-from span.start (span.start + 1) hi (numbers_flaws row) (omega arith)
    (in_order-up_to (span.start + 1) (span.end - 1) hi (numbers_flaws row) (omega arith) (numbers_in_order (span.start + 1) (span.end - 1) row h))

record_in_order : (span : Span) (hi : ℕ) (row : Forest) → span.end ≤ hi → span.start + 2 ≤ span.end
    → IsRising (span.start + 1) (span.end - 1) row → IsInOrder span.start hi (record_flaws span row)
record_in_order span hi nothing le some h = (omega arith, omega arith)
record_in_order span hi (word s text rest) le some h = widened span hi (word s text rest) le some h
record_in_order span hi (group s parts rest) le some h = widened span hi (group s parts rest) le some h

found_in_order : (hi : ℕ) (found : Option (Span × Forest)) → IfSome found (IsPlaced 0 hi) → IsInOrder 0 (hi + 1) (flaws_of_found found)
found_in_order hi None p = (omega arith, omega arith)
found_in_order hi (Some (span, parts)) p =
    in_order-from 0 span.start (hi + 1) (record_flaws span (after_first parts)) (omega arith)
    (record_in_order span (hi + 1) (after_first parts) (omega (arith, p.up_to)) p.some (rising_after (span.start + 1) (span.end - 1) parts p.parts))

-- all flaws of the text stand in its order
pub text_in_order : (hi : ℕ) (trees : Forest) → IsRising 0 hi trees → IsInOrder 0 (hi + 1) (flaws_of_found (is_record trees))
text_in_order hi trees h = found_in_order hi (is_record trees) (found_is_placed (begins_with (codes "record")) 0 hi trees h)

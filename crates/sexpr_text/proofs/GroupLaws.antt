-- The flaws of a row of groups stand in the order of the text.
use Rattle.std.proofs.Common.{ℕ, suc, ◌≤◌, List, ◌++◌, arith}
use Rattle.sexpr_text.specs.declared.forms.Span.{Span}
use Rattle.sexpr_text.specs.Forest.{Forest, nothing, word, group}
use Rattle.sexpr_text.specs.Formed.{IsRising}
use Rattle.sexpr_text.specs.Flaws.{Flaw, IsInOrder}
use Rattle.sexpr_text.specs.Parts.{flaws_of_groups}
use Rattle.sexpr_text.specs.Ordered.{AreGroupFlaws}
use Rattle.sexpr_text.proofs.FlawLaws.{in_order-from, in_order-append}

pub rising-bounds : (lo hi : ℕ) (row : Forest) → IsRising lo hi row → lo ≤ hi
rising-bounds lo hi nothing h = h
rising-bounds lo hi (word span text rest) (a, b, c, d, e) = let k : span.end ≤ hi = rising-bounds span.end hi rest e in omega arith
rising-bounds lo hi (group span parts rest) (a, b, c, d) = let k : span.end ≤ hi = rising-bounds span.end hi rest d in omega arith

pub groups-in_order : (flaws : Span → Forest → List Flaw) → AreGroupFlaws flaws → (lo hi : ℕ) (row : Forest)
    → IsRising lo hi row → IsInOrder lo hi (flaws_of_groups flaws row)
groups-in_order flaws each lo hi nothing h = h
groups-in_order flaws each lo hi (word span text rest) (a, b, c, d, e) =
    (a, in_order-from (suc span.start) span.end hi (flaws_of_groups flaws rest) (omega arith) (groups-in_order flaws each span.end hi rest e))
groups-in_order flaws each lo hi (group span parts rest) (a, b, c, d) =
    in_order-from lo span.start hi (flaws span parts ++ flaws_of_groups flaws rest) a
    (in_order-append span.start span.end hi (flaws span parts) (flaws_of_groups flaws rest) (each span parts b c) (groups-in_order flaws each span.end hi rest d))

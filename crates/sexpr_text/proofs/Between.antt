-- Forms between two offsets, one after the other.
use Rattle.std.proofs.Common.{◌≡◌, ℕ, ◌<◌, ◌≤◌, ◌⊎◌, inl, inr, true, List, arith}
use Rattle.sexpr_text.specs.Lexis.{is_blank}
use Rattle.sexpr_text.specs.Forest.{Forest, nothing, word, group, join}
use Rattle.sexpr_text.specs.Spelling.{IsGap, IsBetween}

pub IsGap-none : (b : List ℕ) (k : ℕ) → IsGap b k k
IsGap-none b k = record { ordered = omega arith; blank = λ i l u. absurd (omega arith) }

pub IsGap-join : (b : List ℕ) (lo mid hi : ℕ) → IsGap b lo mid → IsGap b mid hi → IsGap b lo hi
IsGap-join b lo mid hi g h = record {
  ordered = omega (arith, g.ordered, h.ordered);
  blank = λ i l u. IsGap-at i l u (le_or_lt mid i);
}
  where
    le_or_lt : (x y : ℕ) → (x ≤ y) ⊎ (y < x)
    le_or_lt x y = grind arith

    IsGap-at : (i : ℕ) → lo ≤ i → i < hi → (mid ≤ i) ⊎ (i < mid) → is_blank b i ≡ true
    IsGap-at i l u (inl w) = h.blank i w u
    IsGap-at i l u (inr w) = g.blank i l w

-- a gap before forms
pub IsBetween-after_gap : (b : List ℕ) (lo mid hi : ℕ) (t : Forest) → IsGap b lo mid → IsBetween b mid hi t → IsBetween b lo hi t
IsBetween-after_gap b lo mid hi nothing g h = IsGap-join b lo mid hi g h
IsBetween-after_gap b lo mid hi (word span text rest) g h = (IsGap-join b lo mid span.start g h.0, h.1, h.2)
IsBetween-after_gap b lo mid hi (group span parts rest) g h = (IsGap-join b lo mid span.start g h.0, h.1, h.2, h.3)

-- forms after forms
pub IsBetween-join : (b : List ℕ) (lo mid hi : ℕ) (s t : Forest) → IsBetween b lo mid s → IsBetween b mid hi t → IsBetween b lo hi (join s t)
IsBetween-join b lo mid hi nothing t g h = IsBetween-after_gap b lo mid hi t g h
IsBetween-join b lo mid hi (word span text rest) t g h = (g.0, g.1, IsBetween-join b span.end mid hi rest t g.2 h)
IsBetween-join b lo mid hi (group span parts rest) t g h = (g.0, g.1, g.2, IsBetween-join b span.end mid hi rest t g.3 h)

pub IsBetween-le : (b : List ℕ) (lo hi : ℕ) (t : Forest) → IsBetween b lo hi t → lo ≤ hi
IsBetween-le b lo hi nothing g = g.ordered
IsBetween-le b lo hi (word span text rest) g =
    omega (arith, g.0.ordered, g.1.nonempty, IsBetween-le b span.end hi rest g.2)
IsBetween-le b lo hi (group span parts rest) g =
    omega (arith, g.0.ordered, g.1.nonempty, IsBetween-le b span.end hi rest g.3)

-- a gap after forms
pub IsBetween-then_gap : (b : List ℕ) (lo mid hi : ℕ) (t : Forest) → IsBetween b lo mid t → IsGap b mid hi → IsBetween b lo hi t
IsBetween-then_gap b lo mid hi nothing g h = IsGap-join b lo mid hi g h
IsBetween-then_gap b lo mid hi (word span text rest) g h = (g.0, g.1, IsBetween-then_gap b span.end mid hi rest g.2 h)
IsBetween-then_gap b lo mid hi (group span parts rest) g h = (g.0, g.1, g.2, IsBetween-then_gap b span.end mid hi rest g.3 h)

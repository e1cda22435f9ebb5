-- What is wrong in a text, pass by pass. A reader goes over a text in passes; each pass has a list
-- of everything that is wrong in the text by its rules, wherever it stands. The fault of the text
-- is then the first flaw of the first pass that has one.
use Rattle.std.specs.Prelude.{◌≡◌, ℕ, suc, ◌==◌, ◌≤◌, nat_lt, nat_le, true, Bool, ◌&&◌, ◌||◌}
use Rattle.std.specs.Prelude.{if◌then◌else◌, List, [], ◌∷◌, Option, Some, None, Contains}
use Rattle.std.specs.Option.{option_map}
use Rattle.sexpr_text.specs.declared.forms.Span.{Span}
use Rattle.sexpr_text.specs.declared.faults.FaultKind.{FaultKind}
use Rattle.sexpr_text.specs.declared.faults.InputFault.{InputFault}
use Rattle.sexpr_text.specs.Kinds.{code_of}

-- something that is wrong in a text: the offset at which it stands, and the fault, with its place
pub record Flaw : Type 0 where
  pub offset : ℕ
  pub fault : InputFault

-- a flaw of this kind at a form, which begins where its span begins
abbrev pub flaw_at : Span → FaultKind → Flaw
flaw_at span kind =
    record { offset = span.start; fault = record { kind = kind; place = span.place } }

-- whether a flaw comes no later than another: at a lesser offset, or at the same one with no
-- greater code
abbrev pub comes_first : Flaw → Flaw → Bool
comes_first f g =
    nat_lt f.offset g.offset
    || (f.offset == g.offset && nat_le (code_of f.fault.kind) (code_of g.fault.kind))

-- the earlier of a flaw and the first of others
abbrev pub earlier_of : Flaw → Option Flaw → Flaw
earlier_of f None = f
earlier_of f (Some g) = if comes_first f g then f else g

-- the first of all flaws of a pass: at the least offset, and there of the lowest code
unfoldable pub first_of : List Flaw → Option Flaw
first_of [] = None
first_of (f ∷ fs) = Some (earlier_of f (first_of fs))

-- the fault of a text whose passes have these flaws: the first flaw of the first pass that has one
unfoldable pub fault_of_passes : List (List Flaw) → Option InputFault
fault_of_passes [] = None
fault_of_passes ([] ∷ passes) = fault_of_passes passes
fault_of_passes ((f ∷ fs) ∷ passes) = option_map (λ (flaw : Flaw). flaw.fault) (first_of (f ∷ fs))

-- a flaw of the list that no other of the list comes before
pub record IsFirstOf (flaws : List Flaw) (f : Flaw) : Type 0 where
  pub listed : Contains flaws f
  pub least : (g : Flaw) → Contains flaws g → comes_first f g ≡ true

-- the fault of the flaw that a list begins with. A pass lists its flaws in the order of
-- the text, so that this is the first of them all (`listed_in_order`)
abbrev pub first_listed : List Flaw → Option InputFault
first_listed [] = None
first_listed (f ∷ fs) = Some f.fault

-- the offsets of the flaws rise from lo up to and without hi
abbrev pub IsInOrder : ℕ → ℕ → List Flaw → Type 0
IsInOrder lo hi [] = lo ≤ hi
IsInOrder lo hi (f ∷ fs) = (lo ≤ f.offset) × IsInOrder (suc f.offset) hi fs

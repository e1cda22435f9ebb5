-- Which lexical fault a text has.
use Rattle.std.specs.Prelude.{◌≡◌, ℕ, ◌<◌, ◌≤◌, ◌⊎◌, true, false, List, length}
use Rattle.sexpr_text.specs.declared.faults.FaultKind.{FaultKind}
use Rattle.sexpr_text.specs.declared.faults.FaultKind.TheVariants.{BadByte, StrayClose, OpenAtEnd}
use Rattle.sexpr_text.specs.declared.faults.FaultKind.TheVariants.{TooDeep}
use Rattle.sexpr_text.specs.declared.faults.InputFault.{InputFault}
use Rattle.sexpr_text.specs.Lexis.{place_at, opens_at, closes_at, is_in_word, is_blank, depth_at}

-- how many parentheses may be open at once
abbrev pub most_open : ℕ
most_open = 200

-- a byte that is in no comment, and is no white space, parenthesis or byte of a word
pub record IsBadByte (b : List ℕ) (k : ℕ) : Type 0 where
  pub inside : k < length b
  pub no_blank : is_blank b k ≡ false
  pub no_open : opens_at b k ≡ false
  pub no_close : closes_at b k ≡ false
  pub no_word : is_in_word b k ≡ false

-- a `)` that closes nothing
pub record IsStrayClose (b : List ℕ) (k : ℕ) : Type 0 where
  pub closes : closes_at b k ≡ true
  pub none_open : depth_at b k ≡ 0

-- a `(` where as many as may be are open already
pub record IsTooDeep (b : List ℕ) (k : ℕ) : Type 0 where
  pub opens : opens_at b k ≡ true
  pub full : most_open ≤ depth_at b k

-- the faults that stand at one byte of a text, as a set of offsets and kinds. No offset has two
abbrev pub IsFaultAt : List ℕ → ℕ → FaultKind → Type 0
IsFaultAt b k BadByte = IsBadByte b k
IsFaultAt b k StrayClose = IsStrayClose b k
IsFaultAt b k TooDeep = IsTooDeep b k
IsFaultAt b k _ = ⊥

-- the fault at the least offset
pub record IsFirstFault (b : List ℕ) (k : ℕ) (kind : FaultKind) : Type 0 where
  pub present : IsFaultAt b k kind
  pub least : (j : ℕ) (other : FaultKind) → IsFaultAt b j other → k ≤ j

-- a `(` after which the depth never comes back
pub record IsNeverClosed (b : List ℕ) (k : ℕ) : Type 0 where
  pub opens : opens_at b k ≡ true
  pub stays : (m : ℕ) → k < m → m ≤ length b → depth_at b k < depth_at b m

-- the first `(` that is never closed
pub record IsFirstNeverClosed (b : List ℕ) (k : ℕ) : Type 0 where
  pub present : IsNeverClosed b k
  pub least : (j : ℕ) → IsNeverClosed b j → k ≤ j

-- no byte is at fault
abbrev pub HasNoFaultAt : List ℕ → Type 0
HasNoFaultAt b = (k : ℕ) (kind : FaultKind) → IsFaultAt b k kind → ⊥

-- no byte is at fault, and every `(` is closed
pub record HasNoFault (b : List ℕ) : Type 0 where
  pub sound : HasNoFaultAt b
  pub closed : (k : ℕ) → IsNeverClosed b k → ⊥

-- the fault of a text: the first that stands at a byte; where there is none, the first parenthesis
-- that is never closed
abbrev pub HasFault : List ℕ → InputFault → Type 0
HasFault b fault =
    (k : ℕ)
    × (fault.place ≡ place_at b k)
    × (IsFirstFault b k fault.kind
    ⊎ (HasNoFaultAt b × (fault.kind ≡ OpenAtEnd) × IsFirstNeverClosed b k))

-- How a command reads its files, one after another. `held` is what the shelf tells of each name,
-- and `failed name` says that the shelf's count of faults rose in the fetch of that file. `Spells`
-- says which bytes spell which tree, and `Wrong` with which refusal other bytes of a file of some
-- name are refused.
use Rattle.std.specs.Prelude.{◌≡◌, ℕ, ◌≤◌, ◌⊎◌, length, codes}
use Rattle.plan_io.specs.Held.{Held, Missing, Gives, MayExceed}
use Rattle.command_base.specs.Answers.{Answer, refused, Refusal, over_limit, read_fault}
use Rattle.command_base.specs.Words.{Bytes}

-- the most bytes of a file
abbrev pub file_limit : ℕ
file_limit = 1048576

-- these are the bytes of the file of this name, as far as the shelf tells, and it isn't too long
pub record IsFile (held : Bytes → Held) (name bytes : Bytes) : Type 0 where
  pub gives : Gives (held name) bytes
  pub short : length bytes ≤ file_limit

-- the file of this name spells the tree
pub record Holds {X : Type 0} (held : Bytes → Held) (Spells : Bytes → X → Type 0) (name : Bytes)
    (tree : X) : Type 0 where
  pub bytes : Bytes
  pub file : IsFile held name bytes
  pub spelled : Spells bytes tree

-- the file of this name is there and spells no tree, which is refused so
pub record IsMisspelled (held : Bytes → Held) (Wrong : Bytes → Bytes → Refusal → Type 0)
    (name : Bytes) (refusal : Refusal) : Type 0 where
  pub bytes : Bytes
  pub file : IsFile held name bytes
  pub wrong : Wrong name bytes refusal

-- there is no file of this name, or it couldn't be read
abbrev pub IsUnreadable : (Bytes → Held) → (Bytes → Type 0) → Bytes → Refusal → Type 0
IsUnreadable held failed name refusal =
    (refusal ≡ read_fault name) × ((held name ≡ Missing) ⊎ failed name)

-- the file of this name is too long
abbrev pub IsTooLong : (Bytes → Held) → Bytes → Refusal → Type 0
IsTooLong held name refusal =
    (refusal ≡ over_limit (codes "file")) × MayExceed file_limit (held name)

-- the file of this name is refused
abbrev pub IsRefusedFile : (Bytes → Held) → (Bytes → Type 0) → (Bytes → Bytes → Refusal → Type 0)
    → Bytes → Refusal → Type 0
IsRefusedFile held failed Wrong name refusal =
    IsUnreadable held failed name refusal ⊎ IsTooLong held name refusal
    ⊎ IsMisspelled held Wrong name refusal

-- the file of this name is refused, and that is the answer; or it spells a tree, and then comes
-- what Then says. Where Then reads a further file, the nesting is the order in which files are
-- refused
abbrev pub ReadThen : {X : Type 0} → (Bytes → Held) → (Bytes → Type 0) → Bytes
    → (Bytes → X → Type 0) → (Bytes → Bytes → Refusal → Type 0)
    → (X → Answer → Type 0) → Answer → Type 0
ReadThen {X} held failed name Spells Wrong Then answer =
    ((refusal : Refusal) × (answer ≡ refused refusal)
    × IsRefusedFile held failed Wrong name refusal)
    ⊎ ((tree : X) × Holds held Spells name tree × Then tree answer)

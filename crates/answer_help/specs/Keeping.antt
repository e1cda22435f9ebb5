-- The files that a shelf gave and that were kept, each with its name and its bytes.
use Rattle.std.specs.Prelude.{◌≡◌, ◌⊎◌, ℕ, ⊤, List, [], ◌∷◌, ◌++◌, map, string_bytes}
use Rattle.plan_io.specs.Held.{Held, Gives}
use Rattle.answer_help.specs.declared.keeping.KeptFile.{KeptFile}
use Rattle.answer_help.specs.declared.keeping.KeepingShelf.{KeepingShelf}

pub record Kept : Type 0 where
  pub name : List ℕ
  pub bytes : List ℕ

abbrev pub kept : List ℕ → List ℕ → Kept
kept name bytes = record { name = name; bytes = bytes }

abbrev pub kept_file : KeptFile → Kept
kept_file file = kept (string_bytes file.name) file.bytes.items

abbrev pub kept_files : List KeptFile → List Kept
kept_files files = map kept_file files

-- the files that a shelf keeps
abbrev pub kept_in : {S : Type 0} → KeepingShelf S → List Kept
kept_in shelf = kept_files shelf.files.items

-- each of the kept files can be the one that is told under its name
abbrev pub AreToldAs : (List ℕ → Held) → List Kept → Type 0
AreToldAs held [] = ⊤
AreToldAs held (file ∷ files) = Gives (held file.name) file.bytes × AreToldAs held files

-- no kept file has this name
abbrev pub NamesNone : List Kept → List ℕ → Type 0
NamesNone [] name = ⊤
NamesNone (file ∷ files) name = (file.name ≡ name → ⊥) × NamesNone files name

-- the file of this name and with these bytes was kept, or there was no memory for it
abbrev pub IsKept : List Kept → List ℕ → List ℕ → List Kept → Type 0
IsKept before name bytes after =
    (after ≡ before) ⊎ (after ≡ before ++ kept name bytes ∷ [])

-- what a keeping shelf tells of the file of a name is what the shelf in it tells
abbrev pub held_by : {S : Type 0} → (S → List ℕ → Held) → KeepingShelf S → List ℕ → Held
held_by held shelf name = held shelf.shelf name

-- and its count of faults is that of the shelf in it
abbrev pub faults_by : {S : Type 0} → (S → ℕ) → KeepingShelf S → ℕ
faults_by faults shelf = faults shelf.shelf

-- nothing more was kept, or a file of this name that can be the one that is told
abbrev pub IsKeptAfter : (List ℕ → Held) → List Kept → List ℕ → List Kept → Type 0
IsKeptAfter held before name after =
    (after ≡ before)
    ⊎ ((bytes : List ℕ) × Gives (held name) bytes × (after ≡ before ++ kept name bytes ∷ []))

-- a fetch of the file of this name, of which no more than that file was kept; it changes nothing that
-- is held
pub record KeepsAfter {S : Type 0} (held : S → List ℕ → Held) (fetched : S → List ℕ → S → Type 0)
    (before : KeepingShelf S) (name : List ℕ) (after : KeepingShelf S) : Type 0 where
  pub fetch : fetched before.shelf name after.shelf
  pub kept : IsKeptAfter (held before.shelf) (kept_in before) name (kept_in after)
  pub same : (file : List ℕ) → held after.shelf file ≡ held before.shelf file

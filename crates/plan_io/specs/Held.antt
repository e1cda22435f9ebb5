-- What a shelf tells of the file under a name.
use Rattle.std.specs.Prelude.{◌≡◌, ℕ, ◌<◌, List, length, ⊤}

-- nothing is told; there is no such file; the file's bytes
pub data Held : Type 0 where
  Untold : Held
  Missing : Held
  Holds : List ℕ → Held

-- these bytes can be the file: any can where nothing is told, none where there is no such file, and
-- else its own alone
abbrev pub Gives : Held → List ℕ → Type 0
Gives Untold bytes = ⊤
Gives Missing bytes = ⊥
Gives (Holds file) bytes = bytes ≡ file

-- the file can have more than limit bytes: it can where nothing is told, and a told file does where
-- it is that long
abbrev pub MayExceed : ℕ → Held → Type 0
MayExceed limit Untold = ⊤
MayExceed limit Missing = ⊥
MayExceed limit (Holds file) = limit < length file

-- it is told that the file has more than limit bytes
abbrev pub Exceeds : ℕ → Held → Type 0
Exceeds limit Untold = ⊥
Exceeds limit Missing = ⊥
Exceeds limit (Holds file) = limit < length file

-- The names of fluents and actions: lists of words, as the texts of plans spell them.
use Rattle.std.specs.Prelude.{◌≡◌, ◌≢◌, ℕ, ◌==◌, Bool, true, ◌&&◌, not, List, [], codes, map}
use Rattle.std.specs.Prelude.{nat_le, slice_index_or, Vec}
use Rattle.std.specs.List.{All, AllPairs}
use Rattle.std.specs.Rc.{rc_str_bytes}
use Rattle.std.specs.declared.alloc.Global.{Global}
use Rattle.std.specs.declared.rc.RcStr.{RcStr}
use Rattle.task_core.specs.declared.actions.GroundAction.{GroundAction}

-- a name is a list of words, and a word a list of bytes
abbrev pub Name : Type 0
Name = List (List ℕ)

-- a byte of a word: 33 to 126, but no parenthesis, no `;` and no letter `A` to `Z`
abbrev pub is_name_byte : ℕ → Bool
is_name_byte c =
    nat_le 33 c && nat_le c 126 && not (c == 40) && not (c == 41) && not (c == 59)
    && not (nat_le 65 c && nat_le c 90)

-- a word: one such byte at least
pub record IsWord (text : List ℕ) : Type 0 where
  pub some : text ≢ []
  pub bytes : All (λ c. is_name_byte c ≡ true) text

-- a name: one word at least
pub record IsName (name : Name) : Type 0 where
  pub some : name ≢ []
  pub each_word : All IsWord name

-- the first word of a name; the empty one where there is none
abbrev pub first_word : Name → List ℕ
first_word name = slice_index_or name 0 []

-- names that are all different
abbrev pub AreDistinct : List Name → Type 0
AreDistinct = AllPairs (λ v w. v ≢ w)

-- what the names of a task's actions are
pub record AreActionNames (names : List Name) : Type 0 where
  pub each : All IsName names
  pub distinct : AreDistinct names

-- what the names of a task's fluents are; none begins with `not`, so that a negative literal can be
-- told from a fluent
pub record AreFluentNames (names : List Name) : Type 0 where
  pub each : All IsName names
  pub no_not : All (λ name. first_word name ≢ codes "not") names
  pub distinct : AreDistinct names

-- the words of a name as a task holds them: texts, which names may share
abbrev pub Words : Type 0
Words = Vec (RcStr Global) Global

-- the words of a name, as bytes
abbrev pub name_bytes : Words → Name
name_bytes words = map rc_str_bytes words.items

abbrev pub name_of : GroundAction → Name
name_of action = name_bytes action.name

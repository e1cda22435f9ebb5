-- What a shelf in memory has: its meaning, as clauses see it.
use Rattle.std.specs.Prelude.{◌≡◌, ℕ, ◌⊎◌, List, Option, None, Some, Contains, String, Vec}
use Rattle.std.specs.Prelude.{string_bytes}
use Rattle.std.specs.Prelude.{map, refl}
use Rattle.std.specs.Cmp.Lexicographic.{slice_cmp}
use Rattle.std.specs.Ordering.{nat_cmp}
use Rattle.std.specs.FinMap as finite
use Rattle.std.specs.BTreeMap.{BTreeMap}
use Rattle.std.specs.Coded.{Coded, code_by, coded×, coded_ℕ, coded_list, coded_option}
use Rattle.std.specs.declared.alloc.Global.{Global}
use Rattle.plan_io.specs.Counts.{raised}
use Rattle.plan_io.specs.Held.{Held, Missing, Holds}

-- finitely many files, each the bytes under a name; a name is its text's bytes
abbrev pub Files : Type 0
Files = finite.FinMap (slice_cmp nat_cmp) (List ℕ)

-- files: the files that the shelf holds; calls: how many fetches were made, in 64 bits;
-- failing: the numbers of the fetches that fail; faults: how many fetches failed by their number;
-- last: the name that was fetched last, where there was a fetch, and memory to keep its name
pub record MemShelfState : Type 0 where
  pub files : Files
  pub calls : ℕ
  pub failing : List ℕ
  pub faults : ℕ
  pub last : Option (List ℕ)

-- a state is stored as the tuple of its fields
abbrev pub state_code : Coded MemShelfState
state_code =
    code_by (Files × (ℕ × (List ℕ × (ℕ × Option (List ℕ)))))
    (coded× (finite.code (coded_list coded_ℕ) (coded_list coded_ℕ))
    (coded× coded_ℕ (coded× (coded_list coded_ℕ)
    (coded× coded_ℕ (coded_option (coded_list coded_ℕ))))))
    (λ s. (s.files, (s.calls, (s.failing, (s.faults, s.last)))))
    (λ t. record {
      files = t.0;
      calls = t.1.0;
      failing = t.1.1.0;
      faults = t.1.1.1.0;
      last = t.1.1.1.1;
    })
    (λ _. refl)

-- what is told of a name that has this file, or none
abbrev pub told : Option (List ℕ) → Held
told None = Missing
told (Some file) = Holds file

-- what is told of a name among these files
abbrev pub held_of : Files → List ℕ → Held
held_of files name = told (finite.get files name)

-- a shelf in memory tells of every name
abbrev pub held_in : MemShelfState → List ℕ → Held
held_in state name = held_of state.files name

-- the next fetch fails by its number, counted from 1
abbrev pub FetchFails : MemShelfState → Type 0
FetchFails state = Contains state.failing (raised state.calls)

-- the name is kept as that of the last fetch, or there was no memory for it
abbrev pub IsLast : List ℕ → Option (List ℕ) → Type 0
IsLast name last = (last ≡ Some name) ⊎ (last ≡ None)

-- the state after a fetch that doesn't fail by its number, and after one that does; `last` is what
-- is kept of its name
abbrev pub counted : MemShelfState → Option (List ℕ) → MemShelfState
counted state last = record state { calls = raised state.calls; last = last }

abbrev pub struck : MemShelfState → Option (List ℕ) → MemShelfState
struck state last =
    record state { calls = raised state.calls; faults = raised state.faults; last = last }

-- one state came of the other by one fetch of the file of this name
pub record IsFetched (before : MemShelfState) (name : List ℕ) (after : MemShelfState)
    : Type 0 where
  pub failed : FetchFails before → after ≡ struck before after.last
  pub done : (¬ FetchFails before) → after ≡ counted before after.last
  pub named : IsLast name after.last

-- the files that a map from texts to vectors stores
abbrev pub files_of : BTreeMap (String Global) (Vec ℕ Global) → Files
files_of stored = finite.from_entries (map (λ e. (string_bytes e.0, e.1.items)) stored.entries)

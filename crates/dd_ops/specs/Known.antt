-- Private: lists of replacements that have numbers, and what the cache holds for them.
use Rattle.std.specs.Prelude.{◌≡◌, ℕ, ◌+◌, ◌<◌, ◌≤◌, List, ◌++◌, length, take, drop, ◌⊎◌, Some, slice_get, slice_set}
use Rattle.std.specs.List.{Contains}
use Rattle.dd_cache.specs.declared.key.Key.{Key}
use Rattle.dd_nodes.specs.declared.node.Node.{Node}
use Rattle.dd_nodes.specs.declared.node.Ref.{Ref}
use Rattle.dd_ops.specs.Answers.{AreNumbers, IsReplaced}
use Rattle.dd_nodes.specs.Table.{NodeTable, IsNodeTable}
use Rattle.dd_ops.specs.Cached.{key_of_subst, Remembers, RemembersCofactors}
use Rattle.dd_ops.specs.declared.known.KnownList.{KnownList}

-- the part of all entries that is a list's
abbrev pub part_of : KnownList → List (ℕ × Ref) → List (ℕ × Ref)
part_of list entries = drop list.start (take list.end entries)

-- no place has a list yet
abbrev pub AreEmpty : List KnownList → Type 0
AreEmpty places = (k : ℕ) (list : KnownList) → slice_get places k ≡ Some list
    → (list.number ≡ 0) × (list.start ≡ 0) × (list.end ≡ 0)

-- a list stands at a place, with this number
abbrev pub IsKnownAt : List KnownList → List (ℕ × Ref) → List (ℕ × Ref) → ℕ → Type 0
IsKnownAt places entries map number =
    (k : ℕ) × (list : KnownList) × (slice_get places k ≡ Some list) × (part_of list entries ≡ map)
    × (number ≡ list.number)

-- a list's entries may have been appended to the others, and then it may have been put at a place
abbrev pub IsPut : ℕ → ℕ → List (ℕ × Ref) → List KnownList → List (ℕ × Ref) → List KnownList
    → List (ℕ × Ref) → Type 0
IsPut place number map places entries new_places new_entries =
    ((new_places ≡ places) × (new_entries ≡ entries))
    ⊎ ((new_places ≡ places) × (new_entries ≡ entries ++ map))
    ⊎ ((new_places ≡ slice_set places place (record {
      number = number;
      start = length entries;
      end = length entries + length map;
    })) × (new_entries ≡ entries ++ map))

-- what lists have numbers: each number means a list, which is that of each place with the number, and
-- each pair of the cache for a number has the variables of the list replaced
pub record AreKnown (nodes : List Node) (places : List KnownList) (entries : List (ℕ × Ref))
    (pairs : List (Key × ℕ)) (next : ℕ) : Type 0 where
  pub meaning : ℕ → List (ℕ × Ref)
  pub some : 0 < next
  pub numbers : (number : ℕ) → AreNumbers nodes (meaning number)
  pub placed : (k : ℕ) (list : KnownList) → slice_get places k ≡ Some list
      → (list.number < next) × (list.end ≤ length entries)
      × (meaning list.number ≡ part_of list entries)
  pub replaced : (number f r : ℕ) → Contains pairs (key_of_subst number f, r)
      → (number < next) × IsReplaced nodes (meaning number) f r

-- the same, and a number means a list
pub record IsKnownAs (nodes : List Node) (places : List KnownList) (entries : List (ℕ × Ref))
    (pairs : List (Key × ℕ)) (next : ℕ) (map : List (ℕ × Ref)) (number : ℕ) : Type 0 where
  pub known : AreKnown nodes places entries pairs next
  pub means : known.meaning number ≡ map
  pub below : number < next

-- each pair means what it says in the table
pub record IsCacheOf (dd : NodeTable) (places : List KnownList) (entries : List (ℕ × Ref))
    (pairs : List (Key × ℕ)) (next : ℕ) : Type 0 where
  pub table : IsNodeTable dd
  pub questions : Remembers dd.nodes pairs
  pub cofactors : RemembersCofactors dd.nodes pairs
  pub known : AreKnown dd.nodes places entries pairs next

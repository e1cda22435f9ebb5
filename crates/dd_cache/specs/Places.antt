-- Private: where a cache keeps a pair.
use Rattle.std.specs.Prelude.{◌≡◌, ℕ, ◌+◌, ◌*◌, ◌/◌, ◌%◌, true, if◌then◌else◌, List, length}
use Rattle.std.specs.Prelude.{Option, Some, None, slice_get}
use Rattle.std.specs.List.{filter_map}
use Rattle.dd_cache.specs.declared.cache.Entry.{Entry}
use Rattle.dd_cache.specs.declared.key.Key.{Key}

-- a sum of the key's numbers, each with a factor of its own, in 64 bits (the multilinear hash:
-- D. Lemire, O. Kaser, "Strongly Universal String Hashing is Fast", The Computer Journal, 2014)
abbrev pub mixed : Key → ℕ
mixed key =
    ((((key.op * 11400714819323198485 % 18446744073709551616
    + key.a * 13787848793156543929 % 18446744073709551616) % 18446744073709551616
    + key.b * 10723151780598845931 % 18446744073709551616) % 18446744073709551616
    + key.c * 14029467366897019727 % 18446744073709551616) % 18446744073709551616
    + key.call * 15285092046158830845 % 18446744073709551616) % 18446744073709551616

-- the place of a key among so many
abbrev pub place_of : Key → ℕ → ℕ
place_of key places = mixed key / 4294967296 * places / 4294967296

-- the pair of a place that is taken
abbrev pub pair_of : Entry → Option (Key × ℕ)
pair_of entry = if entry.used then Some (entry.key, entry.value) else None

-- the pairs of all places
abbrev pub pairs_of : List Entry → List (Key × ℕ)
pairs_of entries = filter_map pair_of entries

-- each pair stands at the place of its key
abbrev pub ArePlaced : List Entry → Type 0
ArePlaced entries =
    (i : ℕ) (entry : Entry) → slice_get entries i ≡ Some entry → entry.used ≡ true
    → i ≡ place_of entry.key (length entries)

-- What callers see of a cache: a finite map from keys to values, and how often it had the answer.
use Rattle.std.specs.Prelude.{ℕ, ◌+◌, min, List}
use Rattle.std.specs.List.{Contains}
use Rattle.dd_cache.specs.declared.key.Key.{Key}

-- the pairs that are kept, in no promised order, and the number of look-ups that gave a value
pub record CacheMap : Type 0 where
  pub pairs : List (Key × ℕ)
  pub hits : ℕ

-- the map gives a key this value
abbrev pub Has : CacheMap → Key → ℕ → Type 0
Has cache key value = Contains cache.pairs (key, value)

-- a count of 64 bits after one more; it stands still at its last value
abbrev pub one_more : ℕ → ℕ
one_more count = min (count + 1) 18446744073709551615

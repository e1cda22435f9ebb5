-- How the nodes of a table are kept: in one list of cells, each of which stands in the chain of its
-- bucket. A chain leads from the last of its cells to the first, by places counted from 1; 0 ends
-- it.
use Rattle.std.specs.Prelude.{◌≡◌, ℕ, zero, suc, ◌+◌, ◌*◌, ◌/◌, ◌%◌, ◌^◌, ◌<◌, ◌≤◌, ◌==◌}
use Rattle.std.specs.Prelude.{if◌then◌else◌, List, map, length, slice_index, slice_index_or, Vec, vec_capacity}
use Rattle.std.specs.declared.alloc.Global.{Global}
use Rattle.dd_nodes.specs.declared.node.Node.{Node}
use Rattle.dd_nodes.specs.declared.arena.Cell.{Cell}

-- the nodes of some cells, in their order
abbrev pub nodes_of : List Cell → List Node
nodes_of = map (λ cell. cell.node)

-- a node's number for its bucket: its parts by large odd numbers, modulo 2^64
unfoldable pub mixed : Node → ℕ
mixed node =
    ((node.var * 11400714819323198485 % 2 ^ 64 + node.lo.0 * 14029467366897019727 % 2 ^ 64) % 2 ^ 64
    + node.hi.0 * 9650029242287828579 % 2 ^ 64)
    % 2 ^ 64

-- the bucket of a node among so many
unfoldable pub bucket : Node → ℕ → ℕ
bucket node count = mixed node / 2 ^ 32 * count / 2 ^ 32

-- a cell that stands for those past the end of a list
abbrev pub no_cell : Cell
no_cell = record { node = record { var = 0; lo = record { 0 = 0 }; hi = record { 0 = 0 } }; next = 0 }

-- the bucket of the cell at a place
abbrev pub bucket_at : List Cell → ℕ → ℕ → ℕ
bucket_at cells count place = bucket (slice_index_or cells place no_cell).node count

-- the last of the first k places that has this bucket, counted from 1, and 0 where none has
unfoldable pub last_in : (ℕ → ℕ) → ℕ → ℕ → ℕ
last_in bucket_of b zero = 0
last_in bucket_of b (suc k) = if bucket_of k == b then suc k else last_in bucket_of b k

-- the first cells stand in the chains of so many buckets: each bucket has the last of its cells,
-- and each cell the one before it in its bucket
pub record AreChained (count : ℕ) (cells : List Cell) (heads : List ℕ) (done : ℕ) : Type 0 where
  pub starts : (b : ℕ) → b < count → slice_index heads b ≡ last_in (bucket_at cells count) b done
  pub nexts : (i : ℕ) → i < done
      → (slice_index_or cells i no_cell).next
      ≡ last_in (bucket_at cells count) (bucket_at cells count i) i

-- an arena: there is room for few cells and few buckets, and each cell stands in its chain
pub record IsArena (cells : Vec Cell Global) (buckets : Vec ℕ Global) : Type 0 where
  pub small : vec_capacity cells ≤ 16777216
  pub within : length cells.items ≤ vec_capacity cells
  pub some_bucket : 0 < length buckets.items
  pub few_buckets : length buckets.items ≤ vec_capacity buckets
  pub bucket_room : vec_capacity buckets ≤ 33554432
  pub chained : AreChained (length buckets.items) cells.items buckets.items (length cells.items)

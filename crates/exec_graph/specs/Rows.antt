-- Private: lists of numbers that stand behind one another in one list, and the same lists turned
-- round: with the numbers of the lists in which a number stands.
use Rattle.std.specs.Prelude.{◌≡◌, ◌<◌, ◌≤◌, ◌+◌, ◌-◌, ◌==◌, ℕ, zero, suc, List, [], ◌∷◌, ◌++◌}
use Rattle.std.specs.Prelude.{length, map, take, drop, slice_index_or, sum}
use Rattle.std.specs.List.{Contains, filter}
use Rattle.exec_graph.specs.Numbers.{numbers_of}
use Rattle.exec_graph.specs.declared.rows.Rows.{Rows}

-- Private: the list of a place. `starts` says where each begins, and then where the last ends.
abbrev pub row_at : List ℕ → List ℕ → ℕ → List ℕ
row_at starts numbers i =
    take (slice_index_or starts (i + 1) 0 - slice_index_or starts i 0)
    (drop (slice_index_or starts i 0) numbers)

-- Private: the first list begins at the beginning, each ends where the next one begins, and the
-- last ends at the end
pub record IsRowed (starts numbers : List ℕ) : Type 0 where
  pub some : 0 < length starts
  pub first : slice_index_or starts 0 0 ≡ 0
  pub ordered : (i j : ℕ) → i ≤ j → j < length starts
      → slice_index_or starts i 0 ≤ slice_index_or starts j 0
  pub last : slice_index_or starts (length starts - 1) 0 ≡ length numbers

-- Private: the list of a place, and how many lists there are
abbrev pub row_of : Rows → ℕ → List ℕ
row_of rows = row_at rows.starts.items (numbers_of rows.numbers)

abbrev pub row_count : Rows → ℕ
row_count rows = length rows.starts.items - 1

abbrev pub AreRows : Rows → Type 0
AreRows rows = IsRowed rows.starts.items (numbers_of rows.numbers)

-- Private: no list has more numbers than there may be configurations
abbrev pub HasShortRows : Rows → Type 0
HasShortRows rows = (i : ℕ) → i < row_count rows → length (row_of rows i) ≤ 262144

-- Private: all the lists
abbrev pub firsts : (ℕ → List ℕ) → ℕ → List (List ℕ)
firsts row zero = []
firsts row (suc n) = firsts row n ++ row n ∷ []

abbrev pub rows_of : Rows → List (List ℕ)
rows_of rows = firsts (row_of rows) (row_count rows)

-- Private: each number in them is that of a list
abbrev pub HasRowsInside : Rows → Type 0
HasRowsInside rows =
    (i j : ℕ) → i < row_count rows → Contains (row_of rows i) j → j < row_count rows

-- Private: list i has the number j
pub record Edge : Type 0 where
  pub source : ℕ
  pub target : ℕ

abbrev pub edge : ℕ → ℕ → Edge
edge i j = record { source = i; target = j }

-- Private: the edges of the first so many lists, list by list
abbrev pub edges_of : (ℕ → List ℕ) → ℕ → List Edge
edges_of next zero = []
edges_of next (suc i) = edges_of next i ++ map (edge i) (next i)

-- Private: the lists that have a number, in the order of the edges
abbrev pub sources : List Edge → ℕ → List ℕ
sources edges j = map (λ (e : Edge). e.source) (filter (λ (e : Edge). e.target == j) edges)

-- Private: how many edges lead to each of so many numbers
pub record IsCounted (size : ℕ) (counts : List ℕ) (edges : List Edge) : Type 0 where
  pub count : length counts ≡ size
  pub each : (j : ℕ) → j < size → slice_index_or counts j 0 ≡ length (sources edges j)
  pub all : sum counts ≡ length edges

-- Private: the sources of the edges stand in the first places of the lists, and `ends` says behind
-- which
pub record IsFilled (size : ℕ) (starts ends numbers : List ℕ) (edges : List Edge) : Type 0 where
  pub count : size ≤ length ends
  pub behind : (j : ℕ) → j < size
      → slice_index_or ends j 0 ≡ slice_index_or starts j 0 + length (sources edges j)
  pub held : (j : ℕ) → j < size
      → take (length (sources edges j)) (drop (slice_index_or starts j 0) numbers) ≡ sources edges j

-- Private: the lists have just the room for the sources of the edges
pub record HasRoom (size : ℕ) (starts : List ℕ) (edges : List Edge) : Type 0 where
  pub count : length starts ≡ size + 1
  pub each : (j : ℕ) → j < size
      → slice_index_or starts (j + 1) 0 ≡ slice_index_or starts j 0 + length (sources edges j)

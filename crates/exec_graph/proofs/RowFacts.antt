-- Lists behind one another, one list more, and the lists turned round.
use Rattle.std.proofs.Common.{◌≡◌, ◌≢◌, ℕ, zero, suc, ◌+◌, ◌-◌, ◌<◌, ◌≤◌, ◌==◌, cond, List, [], ◌∷◌, ◌++◌, length, map, take, drop, slice_get, slice_index_or, Some, refl, sym, ap, ◌∙◌, subst, arith, inl, inr, ⊎_elim, ◌⊎◌, append_assoc, take_all}
use Rattle.std.specs.List.{AllPairs, Contains, filter, slice_set, sum}
use Rattle.std.proofs.lemmas.Bool.{cases_lt, cases_eq, eq-eqb, eqb-true, ne_eqb}
use Rattle.std.proofs.lemmas.List.{length-set, length-take, length-drop, length-append, length-map, length_push, get_or-set_same, get_or-set_other, get_or_append_left, get_or_push, get_or_default, map-append, take_more, take_more_set, take-append-le, take-append-drop, take-set-le, drop-append-le, drop_at, drop-set-add, drop-set-lt, append-nil}
use Rattle.std.proofs.lemmas.List.Elements.{filter-append, Contains-append_left, Contains-append_right, Contains-append_cases}
use Rattle.std.proofs.lemmas.List.Sums.{sum_by-set, sum_by-le, sum_by_more, get_or-le-sum_by}
use Rattle.std.proofs.lemmas.List.Quantifiers.{all_pairs_push}
use Rattle.exec_graph.specs.Rows.{Edge, HasRoom, IsCounted, IsFilled, IsRowed, edge, edges_of, firsts, row_at, sources}
use Rattle.exec_graph.proofs.Listed.{get-front}
use Rattle.list_laws.proofs.Elements.{Contains-cases, Contains-cons, Contains-filter-witness, Contains-head, Contains-map-witness, Contains-nil}
use Rattle.list_laws.proofs.Distinct.{first_once, rest_once}

-- the lists one after another
pub firsts_length : (row : ℕ → List ℕ) (n : ℕ) → length (firsts row n) ≡ n
firsts_length row zero = refl
firsts_length row (suc n) = let rest = firsts_length row n in omega (arith, length-append (firsts row n) (row n ∷ []))

get_last : {X : Type 0} (xs : List X) (y : X) (n : ℕ) → length xs ≡ n → slice_get (xs ++ y ∷ []) n ≡ Some y
get_last [] y zero e = refl
get_last [] y (suc n) e = absurd (omega (arith, e))
get_last (x ∷ xs) y zero e = absurd (omega (arith, e))
get_last (x ∷ xs) y (suc n) e = get_last xs y n (omega (arith, e))

pub firsts_get : (row : ℕ → List ℕ) (n i : ℕ) → i < n → slice_get (firsts row n) i ≡ Some (row i)
firsts_get row zero i l = absurd (omega arith)
firsts_get row (suc n) i l =
    ⊎_elim
    (λ (h : i < n). get-front (firsts row n) (row n ∷ []) i (row i) (firsts_get row n i h))
    (λ (h : n ≤ i). let e : n ≡ i = omega arith in subst (λ k. slice_get (firsts row n ++ row n ∷ []) k ≡ Some (row k)) e (get_last (firsts row n) (row n) n (firsts_length row n)))
    (cases_lt i n)

firsts_same : (f g : ℕ → List ℕ) (n : ℕ) → ((i : ℕ) → i < n → f i ≡ g i) → firsts f n ≡ firsts g n
firsts_same f g zero h = refl
firsts_same f g (suc n) h =
    let rest = firsts_same f g n (λ i l. h i (omega arith)) in
    ap (λ xs. xs ++ f n ∷ []) rest ∙ ap (λ y. firsts g n ++ y ∷ []) (h n (omega arith))

-- where lists begin
pub start_within : (starts numbers : List ℕ) → IsRowed starts numbers → (i : ℕ) → i < length starts → slice_index_or starts i 0 ≤ length numbers
start_within starts numbers h i l =
    let some = h.some in
    let most = h.ordered i (length starts - 1) (omega arith) (omega arith) in
    omega (arith, h.last)

pub row_length : (starts numbers : List ℕ) → IsRowed starts numbers → (i : ℕ) → i + 1 < length starts
    → length (row_at starts numbers i) + slice_index_or starts i 0 ≡ slice_index_or starts (i + 1) 0
row_length starts numbers h i l =
    let up = h.ordered i (i + 1) (omega arith) l in
    let most = start_within starts numbers h (i + 1) l in
    let a = slice_index_or starts i 0 in
    let b = slice_index_or starts (i + 1) 0 in
    omega (arith, length-take (b - a) (drop a numbers), length-drop a numbers)

-- one list more
module _ (starts numbers more : List ℕ) (h : IsRowed starts numbers) where
  abbrev pub with_end : List ℕ
  with_end = starts ++ length (numbers ++ more) ∷ []

  now_old : (i : ℕ) → i < length starts → slice_index_or with_end i 0 ≡ slice_index_or starts i 0
  now_old i l = get_or_append_left starts (length (numbers ++ more) ∷ []) 0 i l

  now_new : slice_index_or with_end (length starts) 0 ≡ length (numbers ++ more)
  now_new = get_or_push starts (length (numbers ++ more)) 0 (length starts) refl

  now_length : length with_end ≡ length starts + 1
  now_length = length_push starts (length (numbers ++ more))

  pub pushed_rows : IsRowed with_end (numbers ++ more)
  pushed_rows =
      let some = h.some in
      record {
        some = omega (arith, now_length);
        first = now_old 0 some ∙ h.first;
        ordered = λ i j le l.
            ⊎_elim
            (λ (s : j < length starts). let old = h.ordered i j le s in let ei = now_old i (omega arith) in let ej = now_old j s in omega arith)
            (λ (s : length starts ≤ j).
            let last : j ≡ length starts = omega (arith, now_length) in
            let ej : slice_index_or with_end j 0 ≡ length (numbers ++ more) = ap (λ k. slice_index_or with_end k 0) last ∙ now_new in
            ⊎_elim
            (λ (t : i < length starts). let ei = now_old i t in let most = start_within starts numbers h i t in omega (arith, length-append numbers more))
            (λ (t : length starts ≤ i). let same : i ≡ j = omega arith in let e = ap (λ k. slice_index_or with_end k 0) same in omega arith)
            (cases_lt i (length starts)))
            (cases_lt j (length starts));
        last = let e : length with_end - 1 ≡ length starts = omega (arith, now_length) in ap (λ k. slice_index_or with_end k 0) e ∙ now_new;
      }

  row_kept : (i : ℕ) → i < length starts - 1 → row_at with_end (numbers ++ more) i ≡ row_at starts numbers i
  row_kept i l =
      let a = slice_index_or starts i 0 in
      let b = slice_index_or starts (i + 1) 0 in
      let la = start_within starts numbers h i (omega arith) in
      let lb = start_within starts numbers h (i + 1) (omega arith) in
      let ea : slice_index_or with_end i 0 ≡ a = now_old i (omega arith) in
      let eb : slice_index_or with_end (i + 1) 0 ≡ b = now_old (i + 1) (omega arith) in
      ap (λ k. take (slice_index_or with_end (i + 1) 0 - k) (drop k (numbers ++ more))) ea
      ∙ ap (λ k. take (k - a) (drop a (numbers ++ more))) eb
      ∙ ap (take (b - a)) (drop-append-le a numbers more la)
      ∙ take-append-le (b - a) (drop a numbers) more (omega (arith, length-drop a numbers))

  row_new : row_at with_end (numbers ++ more) (length starts - 1) ≡ more
  row_new =
      let some = h.some in
      let n = length starts - 1 in
      let next : n + 1 ≡ length starts = omega arith in
      let ea : slice_index_or with_end n 0 ≡ length numbers = now_old n (omega arith) ∙ h.last in
      let eb : slice_index_or with_end (n + 1) 0 ≡ length (numbers ++ more) = ap (λ k. slice_index_or with_end k 0) next ∙ now_new in
      ap (λ k. take (slice_index_or with_end (n + 1) 0 - k) (drop k (numbers ++ more))) ea
      ∙ ap (λ k. take (k - length numbers) (drop (length numbers) (numbers ++ more))) eb
      ∙ ap (take (length (numbers ++ more) - length numbers)) (drop_at numbers more (length numbers) refl)
      ∙ take_all (length (numbers ++ more) - length numbers) more (omega (arith, length-append numbers more))

  pub pushed_more : firsts (row_at with_end (numbers ++ more)) (length with_end - 1) ≡ firsts (row_at starts numbers) (length starts - 1) ++ more ∷ []
  pushed_more =
      let some = h.some in
      let n = length starts - 1 in
      let count : length with_end - 1 ≡ suc n = omega (arith, now_length) in
      ap (firsts (row_at with_end (numbers ++ more))) count
      ∙ ap (λ xs. xs ++ row_at with_end (numbers ++ more) n ∷ []) (firsts_same (row_at with_end (numbers ++ more)) (row_at starts numbers) n row_kept)
      ∙ ap (λ y. firsts (row_at starts numbers) n ++ y ∷ []) row_new

  pub pushed_count : length with_end - 1 ≡ (length starts - 1) + 1
  pushed_count = let some = h.some in omega (arith, now_length)

-- no lists
pub no_rows : IsRowed (0 ∷ []) []
no_rows = record { some = omega arith; first = refl; ordered = λ i j le l. let i0 : i ≡ 0 = omega arith in let j0 : j ≡ 0 = omega arith in subst (λ k. slice_index_or (0 ∷ []) k 0 ≤ slice_index_or (0 ∷ []) j 0) (sym i0) (subst (λ k. slice_index_or (0 ∷ []) 0 0 ≤ slice_index_or (0 ∷ []) k 0) (sym j0) (omega arith)); last = refl }

-- the sources of edges
pub sources-append : (xs ys : List Edge) (j : ℕ) → sources (xs ++ ys) j ≡ sources xs j ++ sources ys j
sources-append xs ys j =
    ap (map (λ (e : Edge). e.source)) (filter-append (λ (e : Edge). e.target == j) xs ys)
    ∙ map-append (λ (e : Edge). e.source) (filter (λ (e : Edge). e.target == j) xs) (filter (λ (e : Edge). e.target == j) ys)

one_source : (i k j : ℕ) → k ≡ j → sources (edge i k ∷ []) j ≡ i ∷ []
one_source i k j e = ap (λ b. map (λ (e : Edge). e.source) (cond b (edge i k ∷ []) [])) (eq-eqb k j e)

no_source : (i k j : ℕ) → (k ≡ j → ⊥) → sources (edge i k ∷ []) j ≡ []
no_source i k j ne = ap (λ b. map (λ (e : Edge). e.source) (cond b (edge i k ∷ []) [])) (ne_eqb k j ne)

pub source_more : (xs : List Edge) (i j : ℕ) → sources (xs ++ edge i j ∷ []) j ≡ sources xs j ++ i ∷ []
source_more xs i j = sources-append xs (edge i j ∷ []) j ∙ ap (λ ys. sources xs j ++ ys) (one_source i j j refl)

pub source_other : (xs : List Edge) (i k j : ℕ) → (k ≡ j → ⊥) → sources (xs ++ edge i k ∷ []) j ≡ sources xs j
source_other xs i k j ne = sources-append xs (edge i k ∷ []) j ∙ ap (λ ys. sources xs j ++ ys) (no_source i k j ne) ∙ append-nil (sources xs j)

-- the edges of one list more, and one edge more of a list
pub edges_next : (next : ℕ → List ℕ) (i : ℕ) → edges_of next (i + 1) ≡ edges_of next i ++ map (edge i) (next i)
edges_next next i = let e : suc i ≡ i + 1 = omega arith in subst (λ k. edges_of next k ≡ edges_of next i ++ map (edge i) (next i)) e refl

pub edge_more : (next : ℕ → List ℕ) (i k j : ℕ) (xs : List ℕ) → k < length xs → slice_index_or xs k j ≡ j
    → edges_of next i ++ map (edge i) (take (k + 1) xs) ≡ (edges_of next i ++ map (edge i) (take k xs)) ++ edge i j ∷ []
edge_more next i k j xs l is =
    ap (λ ys. edges_of next i ++ map (edge i) ys) (take_more xs k j l ∙ ap (λ y. take k xs ++ y ∷ []) is)
    ∙ ap (λ ys. edges_of next i ++ ys) (map-append (edge i) (take k xs) (j ∷ []))
    ∙ sym (append_assoc (edges_of next i) (map (edge i) (take k xs)) (edge i j ∷ []))

sources_front : (xs ys : List Edge) (j : ℕ) → length (sources xs j) ≤ length (sources (xs ++ ys) j)
sources_front xs ys j = let e = ap length (sources-append xs ys j) in omega (arith, length-append (sources xs j) (sources ys j))

sources_rise : (next : ℕ → List ℕ) (i n j : ℕ) → i ≤ n → length (sources (edges_of next i) j) ≤ length (sources (edges_of next n) j)
sources_rise next i zero j le = let e : i ≡ 0 = omega arith in subst (λ k. length (sources (edges_of next k) j) ≤ length (sources (edges_of next zero) j)) (sym e) (omega arith)
sources_rise next i (suc n) j le =
    ⊎_elim
    (λ (l : i < suc n). let rest = sources_rise next i n j (omega arith) in let one = sources_front (edges_of next n) (map (edge n) (next n)) j in omega arith)
    (λ (l : suc n ≤ i). let e : i ≡ suc n = omega arith in subst (λ k. length (sources (edges_of next k) j) ≤ length (sources (edges_of next (suc n)) j)) (sym e) (omega arith))
    (cases_lt i (suc n))

-- the edges so far are a part of all
pub sources_part : (next : ℕ → List ℕ) (i n j k : ℕ) → i < n
    → length (sources (edges_of next i ++ map (edge i) (take k (next i))) j) ≤ length (sources (edges_of next n) j)
sources_part next i n j k l =
    let front = sources_front (edges_of next i ++ map (edge i) (take k (next i))) (map (edge i) (drop k (next i))) j in
    let whole : (edges_of next i ++ map (edge i) (take k (next i))) ++ map (edge i) (drop k (next i)) ≡ edges_of next (suc i) =
    append_assoc (edges_of next i) (map (edge i) (take k (next i))) (map (edge i) (drop k (next i)))
    ∙ ap (λ ys. edges_of next i ++ ys) (sym (map-append (edge i) (take k (next i)) (drop k (next i))) ∙ ap (map (edge i)) (take-append-drop k (next i))) in
    let rise = sources_rise next (suc i) n j (omega arith) in
    let same = ap (λ es. length (sources es j)) whole in
    omega arith

pub edges_length : (starts numbers : List ℕ) → IsRowed starts numbers → (n : ℕ) → n < length starts → length (edges_of (row_at starts numbers) n) ≡ slice_index_or starts n 0
edges_length starts numbers h zero l = sym h.first
edges_length starts numbers h (suc n) l =
    let rest = edges_length starts numbers h n (omega arith) in
    let row = row_length starts numbers h n (omega arith) in
    let up : n + 1 ≡ suc n = omega arith in
    let same = ap (λ k. slice_index_or starts k 0) up in
    omega (arith, length-append (edges_of (row_at starts numbers) n) (map (edge n) (row_at starts numbers n)), length-map (row_at starts numbers n) (edge n))

-- counting
sum_zeros : (n : ℕ) (xs : List ℕ) → ((i : ℕ) → i < length xs → slice_index_or xs i 0 ≡ 0) → sum xs ≡ 0
sum_zeros n xs h =
    let most = sum_by-le (λ x. x) 0 xs (λ i d l. let z = h i l in let e = get_or-any xs i d l in omega arith) in
    omega arith
  where
    get_or-any : (ys : List ℕ) (i d : ℕ) → i < length ys → slice_index_or ys i d ≡ slice_index_or ys i 0
    get_or-any [] i d l = absurd (omega arith)
    get_or-any (y ∷ ys) zero d l = refl
    get_or-any (y ∷ ys) (suc i) d l = get_or-any ys i d (omega arith)

pub counted_none : (size : ℕ) (counts : List ℕ) → length counts ≡ size → ((i : ℕ) → i < size → slice_index_or counts i 0 ≡ 0) → IsCounted size counts []
counted_none size counts count h = record { count = count; each = λ j l. h j l; all = sum_zeros size counts (λ i l. h i (omega arith)) }

pub counted_more : (size : ℕ) (counts : List ℕ) (edges : List Edge) (i j : ℕ) → IsCounted size counts edges → j < size
    → IsCounted size (slice_set counts j (slice_index_or counts j 0 + 1)) (edges ++ edge i j ∷ [])
counted_more size counts edges i j h l =
    let inside : j < length counts = omega (arith, h.count) in
    let more = slice_index_or counts j 0 + 1 in
    record {
      count = length-set counts j more ∙ h.count;
      each = λ k lk.
          ⊎_elim
          (λ (e : k ≡ j).
          let old = h.each j l in
          let same : slice_index_or (slice_set counts j more) k 0 ≡ more = ap (λ m. slice_index_or (slice_set counts j more) m 0) e ∙ get_or-set_same counts j more 0 inside in
          let grown : length (sources (edges ++ edge i j ∷ []) k) ≡ length (sources edges j ++ i ∷ []) = ap (λ m. length (sources (edges ++ edge i j ∷ []) m)) e ∙ ap length (source_more edges i j) in
          omega (arith, length-append (sources edges j) (i ∷ [])))
          (λ (ne : k ≢ j).
          get_or-set_other counts j k more 0 ne ∙ h.each k lk ∙ sym (ap length (source_other edges i j k (λ e. ne (sym e)))))
          (cases_eq k j);
      all = let set = sum_by-set (λ x. x) counts j more 0 inside in let old = h.all in omega (arith, length-append edges (edge i j ∷ []));
    }

-- the room of each list
starts_rise : (size : ℕ) (starts : List ℕ) (edges : List Edge) → HasRoom size starts edges → (j i : ℕ) → i ≤ j → j ≤ size
    → slice_index_or starts i 0 ≤ slice_index_or starts j 0
starts_rise size starts edges h zero i le l = let e : i ≡ 0 = omega arith in let s = ap (λ k. slice_index_or starts k 0) e in omega arith
starts_rise size starts edges h (suc j) i le l =
    ⊎_elim
    (λ (s : i < suc j).
    let rest = starts_rise size starts edges h j i (omega arith) (omega arith) in
    let one = h.each j (omega arith) in
    let up : j + 1 ≡ suc j = omega arith in
    let same = ap (λ k. slice_index_or starts k 0) up in
    omega arith)
    (λ (s : suc j ≤ i). let e : i ≡ suc j = omega arith in let same = ap (λ k. slice_index_or starts k 0) e in omega arith)
    (cases_lt i (suc j))

pub room_rows : (size : ℕ) (starts numbers : List ℕ) (edges : List Edge) → HasRoom size starts edges → slice_index_or starts 0 0 ≡ 0 → slice_index_or starts size 0 ≡ length numbers → IsRowed starts numbers
room_rows size starts numbers edges h first last = record {
  some = omega (arith, h.count);
  first = first;
  ordered = λ i j le l. starts_rise size starts edges h j i le (omega (arith, h.count));
  last = let e : length starts - 1 ≡ size = omega (arith, h.count) in ap (λ k. slice_index_or starts k 0) e ∙ last;
}

pub room_made : (size : ℕ) (counts starts : List ℕ) (edges : List Edge) → IsCounted size counts edges → length starts ≡ length counts + 1
    → ((j : ℕ) → j ≤ length counts → slice_index_or starts j 0 ≡ sum (take j counts)) → HasRoom size starts edges
room_made size counts starts edges h count each = record {
  count = count ∙ ap (λ n. n + 1) h.count;
  each = λ j l.
      let inside : j < length counts = omega (arith, h.count) in
      let here = each j (omega arith) in
      let next = each (j + 1) (omega arith) in
      let more = sum_by_more (λ x. x) counts j 0 inside in
      let one = h.each j l in
      omega arith;
}

pub room_end : (size : ℕ) (counts starts : List ℕ) (edges : List Edge) → IsCounted size counts edges
    → ((j : ℕ) → j ≤ length counts → slice_index_or starts j 0 ≡ sum (take j counts)) → slice_index_or starts size 0 ≡ length edges
room_end size counts starts edges h each =
    each size (omega (arith, h.count)) ∙ ap sum (take_all size counts (omega (arith, h.count))) ∙ h.all

-- filling
pub filled_none : (size : ℕ) (starts numbers : List ℕ) → size ≤ length starts → IsFilled size starts starts numbers []
filled_none size starts numbers few = record { count = few; behind = λ j l. omega arith; held = λ j l. refl }

pub filled_more : (size : ℕ) (starts ends numbers : List ℕ) (edges all : List Edge) (i j : ℕ) → HasRoom size starts all
    → slice_index_or starts size 0 ≡ length numbers → ((k : ℕ) → length (sources (edges ++ edge i j ∷ []) k) ≤ length (sources all k))
    → IsFilled size starts ends numbers edges → j < size
    → IsFilled size starts (slice_set ends j (slice_index_or ends j 0 + 1)) (slice_set numbers (slice_index_or ends j 0) i) (edges ++ edge i j ∷ [])
filled_more size starts ends numbers edges all i j room last part h l = record {
  count = let c = h.count in omega (arith, length-set ends j more);
  behind = λ k lk.
      ⊎_elim
      (λ (e : k ≡ j).
      let old = h.behind j l in
      let same : slice_index_or (slice_set ends j more) k 0 ≡ more = ap (λ m. slice_index_or (slice_set ends j more) m 0) e ∙ get_or-set_same ends j more 0 inside in
      let grown : length (sources (edges ++ edge i j ∷ []) k) ≡ length (sources edges j ++ i ∷ []) = ap (λ m. length (sources (edges ++ edge i j ∷ []) m)) e ∙ ap length (source_more edges i j) in
      let at = ap (λ m. slice_index_or starts m 0) e in
      omega (arith, length-append (sources edges j) (i ∷ [])))
      (λ (ne : k ≢ j).
      get_or-set_other ends j k more 0 ne ∙ h.behind k lk
      ∙ ap (λ xs. slice_index_or starts k 0 + length xs) (sym (source_other edges i j k (λ e. ne (sym e)))))
      (cases_eq k j);
  held = λ k lk. ⊎_elim (λ (e : k ≡ j). subst (λ m. Held m) (sym e) here) (λ (ne : k ≢ j). there k lk ne) (cases_eq k j);
}
  where
    inside : j < length ends
    inside = let c = h.count in omega arith

    end : ℕ
    end = slice_index_or ends j 0

    more : ℕ
    more = end + 1

    now : List ℕ
    now = slice_set numbers end i

    grown : List Edge
    grown = edges ++ edge i j ∷ []

    Held : ℕ → Type 0
    Held k = take (length (sources grown k)) (drop (slice_index_or starts k 0) now) ≡ sources grown k

    end_is : end ≡ slice_index_or starts j 0 + length (sources edges j)
    end_is = h.behind j l

    below_next : end < slice_index_or starts (j + 1) 0
    below_next =
        let p = part j in
        let e = ap length (source_more edges i j) in
        let r = room.each j l in
        omega (arith, end_is, length-append (sources edges j) (i ∷ []))

    below_last : end < length numbers
    below_last =
        let rise = starts_rise size starts all room size (j + 1) (omega arith) (omega arith) in
        let b = below_next in
        omega (arith, last)

    here : Held j
    here =
        let s = slice_index_or starts j 0 in
        let m = length (sources edges j) in
        let count : length (sources grown j) ≡ m + 1 = ap length (source_more edges i j) ∙ length-append (sources edges j) (i ∷ []) in
        let b = below_last in
        let fits : m < length (drop s numbers) = omega (arith, length-drop s numbers, end_is) in
        ap (λ n. take n (drop s now)) count
        ∙ ap (λ k. take (m + 1) (drop s (slice_set numbers k i))) end_is
        ∙ ap (take (m + 1)) (drop-set-add s numbers m i)
        ∙ take_more_set (drop s numbers) m i fits
        ∙ ap (λ xs. xs ++ i ∷ []) (h.held j l)
        ∙ sym (source_more edges i j)

    unchanged : (k : ℕ) → k < size → k ≢ j → take (length (sources edges k)) (drop (slice_index_or starts k 0) now) ≡ take (length (sources edges k)) (drop (slice_index_or starts k 0) numbers)
    unchanged k lk ne =
        let s = slice_index_or starts k 0 in
        let m = length (sources edges k) in
        let p = part k in
        let e = ap length (source_other edges i j k (λ e. ne (sym e))) in
        let r = room.each k lk in
        ⊎_elim
        (λ (before : k < j).
        let rise = starts_rise size starts all room j (k + 1) (omega arith) (omega arith) in
        let d = end - s in
        let place : end ≡ s + d = omega (arith, end_is) in
        ap (λ q. take m (drop s (slice_set numbers q i))) place
        ∙ ap (take m) (drop-set-add s numbers d i)
        ∙ take-set-le m (drop s numbers) d i (omega (arith, end_is)))
        (λ (after : j ≤ k).
        let rise = starts_rise size starts all room k (j + 1) (omega arith) (omega arith) in
        let b = below_next in
        ap (take m) (drop-set-lt s numbers end i (omega arith)))
        (cases_lt k j)

    there : (k : ℕ) → k < size → k ≢ j → Held k
    there k lk ne =
        let same : sources grown k ≡ sources edges k = source_other edges i j k (λ e. ne (sym e)) in
        ap (λ xs. take (length xs) (drop (slice_index_or starts k 0) now)) same ∙ unchanged k lk ne ∙ h.held k lk ∙ sym same

pub end_inside : (size : ℕ) (starts ends numbers : List ℕ) (edges all : List Edge) (i j : ℕ) → HasRoom size starts all
    → slice_index_or starts size 0 ≡ length numbers → ((k : ℕ) → length (sources (edges ++ edge i j ∷ []) k) ≤ length (sources all k))
    → IsFilled size starts ends numbers edges → j < size → slice_index_or ends j 0 < length numbers
end_inside size starts ends numbers edges all i j room last part h l =
    let p = part j in
    let e = ap length (source_more edges i j) in
    let r = room.each j l in
    let rise = starts_rise size starts all room size (j + 1) (omega arith) (omega arith) in
    omega (arith, h.behind j l, last, length-append (sources edges j) (i ∷ []))

pub filled_row : (size : ℕ) (starts ends numbers : List ℕ) (edges : List Edge) → HasRoom size starts edges → IsFilled size starts ends numbers edges
    → (j : ℕ) → j < size → row_at starts numbers j ≡ sources edges j
filled_row size starts ends numbers edges room h j l =
    let r = room.each j l in
    let count : slice_index_or starts (j + 1) 0 - slice_index_or starts j 0 ≡ length (sources edges j) = omega arith in
    ap (λ n. take n (drop (slice_index_or starts j 0) numbers)) count ∙ h.held j l

-- which lists have a number
row_sources : (i j : ℕ) (xs : List ℕ) (s : ℕ) → Contains (sources (map (edge i) xs) j) s → (i ≡ s) × Contains xs j
row_sources i j xs s c =
    let w = Contains-map-witness (λ (e : Edge). e.source) (filter (λ (e : Edge). e.target == j) (map (edge i) xs)) s c in
    let f = Contains-filter-witness (λ (e : Edge). e.target == j) (map (edge i) xs) w.0 w.1 in
    let m = Contains-map-witness (edge i) xs w.0 f.0 in
    (ap (λ (e : Edge). e.source) m.2 ∙ w.2, subst (Contains xs) (ap (λ (e : Edge). e.target) m.2 ∙ eqb-true w.0.target j f.1) m.1)

pub source_means : (next : ℕ → List ℕ) (n i j : ℕ) → Contains (sources (edges_of next n) j) i → (i < n) × Contains (next i) j
source_means next zero i j c = absurd (Contains-nil i c)
source_means next (suc n) i j c =
    ⊎_elim
    (λ d. let rest = source_means next n i j d in (omega (arith, rest.0), rest.1))
    (λ d. let here = row_sources n j (next n) i d in let e : n ≡ i = here.0 in (omega arith, subst (λ k. Contains (next k) j) e here.1))
    (Contains-append_cases (sources (edges_of next n) j) (sources (map (edge n) (next n)) j) i
    (subst (λ xs. Contains xs i) (sources-append (edges_of next n) (map (edge n) (next n)) j) c))

row_has : (i j : ℕ) (xs : List ℕ) → Contains xs j → Contains (sources (map (edge i) xs) j) i
row_has i j [] c = absurd (Contains-nil j c)
row_has i j (x ∷ xs) c =
    subst (λ ys. Contains ys i) (sym (sources-append (edge i x ∷ []) (map (edge i) xs) j))
    (⊎_elim
    (λ (e : x ≡ j). Contains-append_left (sources (edge i x ∷ []) j) (sources (map (edge i) xs) j) i (subst (λ ys. Contains ys i) (sym (one_source i x j e)) (Contains-head i [])))
    (λ d. Contains-append_right (sources (edge i x ∷ []) j) (sources (map (edge i) xs) j) i (row_has i j xs d))
    (Contains-cases x xs j c))

pub source_from : (next : ℕ → List ℕ) (n i j : ℕ) → i < n → Contains (next i) j → Contains (sources (edges_of next n) j) i
source_from next zero i j l c = absurd (omega arith)
source_from next (suc n) i j l c =
    subst (λ xs. Contains xs i) (sym (sources-append (edges_of next n) (map (edge n) (next n)) j))
    (⊎_elim
    (λ (h : i < n). Contains-append_left (sources (edges_of next n) j) (sources (map (edge n) (next n)) j) i (source_from next n i j h c))
    (λ (h : n ≤ i). let e : i ≡ n = omega arith in
    Contains-append_right (sources (edges_of next n) j) (sources (map (edge n) (next n)) j) i
    (subst (λ k. Contains (sources (map (edge n) (next n)) j) k) (sym e) (row_has n j (next n) (subst (λ k. Contains (next k) j) e c))))
    (cases_lt i n))

-- each once

row_none : (i j : ℕ) (xs : List ℕ) → (Contains xs j → ⊥) → sources (map (edge i) xs) j ≡ []
row_none i j [] none = refl
row_none i j (x ∷ xs) none =
    sources-append (edge i x ∷ []) (map (edge i) xs) j
    ∙ ap (λ ys. ys ++ sources (map (edge i) xs) j) (no_source i x j (λ e. none (subst (Contains (x ∷ xs)) e (Contains-head x xs))))
    ∙ row_none i j xs (λ c. none (Contains-cons x xs j c))

row_once : (i j : ℕ) (xs : List ℕ) → AllPairs (λ i j. i ≢ j) xs → (sources (map (edge i) xs) j ≡ []) ⊎ (sources (map (edge i) xs) j ≡ i ∷ [])
row_once i j [] once = inl refl
row_once i j (x ∷ xs) once =
    ⊎_elim
    (λ (e : x ≡ j). inr (sources-append (edge i x ∷ []) (map (edge i) xs) j
    ∙ ap (λ ys. ys ++ sources (map (edge i) xs) j) (one_source i x j e)
    ∙ ap (λ ys. i ∷ ys) (row_none i j xs (λ c. first_once x xs once (subst (Contains xs) (sym e) c)))))
    (λ (ne : x ≢ j).
    let skip : sources (map (edge i) (x ∷ xs)) j ≡ sources (map (edge i) xs) j =
    sources-append (edge i x ∷ []) (map (edge i) xs) j ∙ ap (λ ys. ys ++ sources (map (edge i) xs) j) (no_source i x j ne) in
    ⊎_elim (λ h. inl (skip ∙ h)) (λ h. inr (skip ∙ h)) (row_once i j xs (rest_once x xs once)))
    (cases_eq x j)

pub sources_once : (next : ℕ → List ℕ) (n j : ℕ) → ((i : ℕ) → i < n → AllPairs (λ i j. i ≢ j) (next i)) → AllPairs (λ i k. i ≢ k) (sources (edges_of next n) j)
sources_once next zero j once = λ i k d l h. absurd (omega arith)
sources_once next (suc n) j once =
    let rest = sources_once next n j (λ i l. once i (omega arith)) in
    let before = sources (edges_of next n) j in
    subst (AllPairs (λ i k. i ≢ k)) (sym (sources-append (edges_of next n) (map (edge n) (next n)) j))
    (⊎_elim
    (λ (e : sources (map (edge n) (next n)) j ≡ []). subst (λ ys. AllPairs (λ i k. i ≢ k) (before ++ ys)) (sym e) (subst (AllPairs (λ i k. i ≢ k)) (sym (append-nil before)) rest))
    (λ (e : sources (map (edge n) (next n)) j ≡ n ∷ []). subst (λ ys. AllPairs (λ i k. i ≢ k) (before ++ ys)) (sym e)
    (all_pairs_push (λ i k. i ≢ k) before n rest
    (λ k d l h. let m = source_means next n (slice_index_or before k d) j (k, l, same_read before k d l) in let b : slice_index_or before k d < n = m.0 in omega arith)))
    (row_once n j (next n) (once n (omega arith))))
  where
    same_read : (xs : List ℕ) (k d : ℕ) → k < length xs → slice_index_or xs k (slice_index_or xs k d) ≡ slice_index_or xs k d
    same_read [] k d l = absurd (omega arith)
    same_read (x ∷ xs) zero d l = refl
    same_read (x ∷ xs) (suc k) d l = same_read xs k d (omega arith)

-- one number more of a list that is read
pub item_inside : (next : ℕ → List ℕ) (n i k : ℕ) (read : List ℕ) → ((i j : ℕ) → i < n → Contains (next i) j → j < n)
    → read ≡ next i → i < n → k < length read → slice_index_or read k 0 < n
item_inside next n i k read inside is l h = inside i (slice_index_or read k 0) l (subst (λ xs. Contains xs (slice_index_or read k 0)) is (k, h, get_or_default read k (slice_index_or read k 0) 0 h))

pub row_begun : (next : ℕ → List ℕ) (i : ℕ) → edges_of next i ≡ edges_of next i ++ map (edge i) (take 0 (next i))
row_begun next i = sym (append-nil (edges_of next i))

row_grown : (next : ℕ → List ℕ) (i k : ℕ) (read : List ℕ) → read ≡ next i → k < length read
    → edges_of next i ++ map (edge i) (take (k + 1) (next i)) ≡ (edges_of next i ++ map (edge i) (take k (next i))) ++ edge i (slice_index_or read k 0) ∷ []
row_grown next i k read is h =
    let j = slice_index_or read k 0 in
    subst (λ xs. edges_of next i ++ map (edge i) (take (k + 1) xs) ≡ (edges_of next i ++ map (edge i) (take k xs)) ++ edge i j ∷ []) is
    (edge_more next i k j read h (get_or_default read k j 0 h))

pub row_done : (next : ℕ → List ℕ) (i k : ℕ) (read : List ℕ) → read ≡ next i → length read ≤ k
    → edges_of next i ++ map (edge i) (take k (next i)) ≡ edges_of next (i + 1)
row_done next i k read is h =
    ap (λ xs. edges_of next i ++ map (edge i) xs) (take_all k (next i) (subst (λ xs. length xs ≤ k) is h)) ∙ sym (edges_next next i)

pub counted_step : (next : ℕ → List ℕ) (size : ℕ) (counts now : List ℕ) (i k : ℕ) (read : List ℕ) → read ≡ next i → k < length read
    → IsCounted size counts (edges_of next i ++ map (edge i) (take k (next i))) → slice_index_or read k 0 < size
    → now ≡ slice_set counts (slice_index_or read k 0) (slice_index_or counts (slice_index_or read k 0) 0 + 1)
    → IsCounted size now (edges_of next i ++ map (edge i) (take (k + 1) (next i)))
counted_step next size counts now i k read is h counted l e =
    subst (λ xs. IsCounted size xs (edges_of next i ++ map (edge i) (take (k + 1) (next i)))) (sym e)
    (subst (IsCounted size (slice_set counts (slice_index_or read k 0) (slice_index_or counts (slice_index_or read k 0) 0 + 1))) (sym (row_grown next i k read is h))
    (counted_more size counts (edges_of next i ++ map (edge i) (take k (next i))) i (slice_index_or read k 0) counted l))

pub counted_small : (starts numbers : List ℕ) → IsRowed starts numbers → (size : ℕ) (counts : List ℕ) (i k j : ℕ) (read : List ℕ) → read ≡ row_at starts numbers i
    → i + 1 < length starts → k < length read → IsCounted size counts (edges_of (row_at starts numbers) i ++ map (edge i) (take k (row_at starts numbers i)))
    → j < size → slice_index_or counts j 0 + 1 ≤ length numbers
counted_small starts numbers h size counts i k j read is l lk counted lj =
    let next = row_at starts numbers in
    let one = get_or-le-sum_by (λ x. x) counts j 0 (omega (arith, counted.count)) in
    let all = counted.all in
    let before = edges_length starts numbers h i (omega arith) in
    let row = row_length starts numbers h i l in
    let most = start_within starts numbers h (i + 1) l in
    let same = ap length is in
    let part = ap (λ n. n) (length-take k (next i)) in
    omega (arith, length-append (edges_of next i) (map (edge i) (take k (next i))), length-map (take k (next i)) (edge i))

pub filled_step : (next : ℕ → List ℕ) (size : ℕ) (starts ends numbers ends_now numbers_now : List ℕ) (i k : ℕ) (read : List ℕ) → read ≡ next i → k < length read
    → HasRoom size starts (edges_of next size) → slice_index_or starts size 0 ≡ length numbers → i < size
    → IsFilled size starts ends numbers (edges_of next i ++ map (edge i) (take k (next i))) → slice_index_or read k 0 < size
    → numbers_now ≡ slice_set numbers (slice_index_or ends (slice_index_or read k 0) 0) i
    → ends_now ≡ slice_set ends (slice_index_or read k 0) (slice_index_or ends (slice_index_or read k 0) 0 + 1)
    → IsFilled size starts ends_now numbers_now (edges_of next i ++ map (edge i) (take (k + 1) (next i)))
filled_step next size starts ends numbers ends_now numbers_now i k read is h room last li filled l numbers_are ends_are =
    let j = slice_index_or read k 0 in
    let e = slice_index_or ends j 0 in
    let grown = row_grown next i k read is h in
    let part : (m : ℕ) → length (sources ((edges_of next i ++ map (edge i) (take k (next i))) ++ edge i j ∷ []) m) ≤ length (sources (edges_of next size) m) =
    λ m. subst (λ es. length (sources es m) ≤ length (sources (edges_of next size) m)) grown (sources_part next i size m (k + 1) li) in
    subst (λ xs. IsFilled size starts xs numbers_now (edges_of next i ++ map (edge i) (take (k + 1) (next i)))) (sym ends_are)
    (subst (λ xs. IsFilled size starts (slice_set ends j (e + 1)) xs (edges_of next i ++ map (edge i) (take (k + 1) (next i)))) (sym numbers_are)
    (subst (IsFilled size starts (slice_set ends j (e + 1)) (slice_set numbers e i)) (sym grown)
    (filled_more size starts ends numbers (edges_of next i ++ map (edge i) (take k (next i))) (edges_of next size) i j room last part filled l)))

pub end_fits : (next : ℕ → List ℕ) (size : ℕ) (starts ends numbers : List ℕ) (i k : ℕ) (read : List ℕ) → read ≡ next i → k < length read
    → HasRoom size starts (edges_of next size) → slice_index_or starts size 0 ≡ length numbers → i < size
    → IsFilled size starts ends numbers (edges_of next i ++ map (edge i) (take k (next i))) → slice_index_or read k 0 < size
    → slice_index_or ends (slice_index_or read k 0) 0 < length numbers
end_fits next size starts ends numbers i k read is h room last li filled l =
    let j = slice_index_or read k 0 in
    let grown = row_grown next i k read is h in
    let part : (m : ℕ) → length (sources ((edges_of next i ++ map (edge i) (take k (next i))) ++ edge i j ∷ []) m) ≤ length (sources (edges_of next size) m) =
    λ m. subst (λ es. length (sources es m) ≤ length (sources (edges_of next size) m)) grown (sources_part next i size m (k + 1) li) in
    end_inside size starts ends numbers (edges_of next i ++ map (edge i) (take k (next i))) (edges_of next size) i j room last part filled l

-- one list more, as it is read
pub pushed_value : (starts numbers more starts_now numbers_now : List ℕ) (end : ℕ) → IsRowed starts numbers → numbers_now ≡ numbers ++ more → end ≡ length numbers_now
    → starts_now ≡ starts ++ end ∷ [] → firsts (row_at starts_now numbers_now) (length starts_now - 1) ≡ firsts (row_at starts numbers) (length starts - 1) ++ more ∷ []
pushed_value starts numbers more starts_now numbers_now end h numbers_are end_is starts_are =
    let all : starts_now ≡ with_end starts numbers more h = starts_are ∙ ap (λ k. starts ++ k ∷ []) (end_is ∙ ap length numbers_are) in
    subst (λ xs. firsts (row_at xs numbers_now) (length xs - 1) ≡ firsts (row_at starts numbers) (length starts - 1) ++ more ∷ []) (sym all)
    (subst (λ xs. firsts (row_at (with_end starts numbers more h) xs) (length (with_end starts numbers more h) - 1) ≡ firsts (row_at starts numbers) (length starts - 1) ++ more ∷ []) (sym numbers_are)
    (pushed_more starts numbers more h))

pub counted_all : (starts numbers : List ℕ) → IsRowed starts numbers → (counts : List ℕ) → IsCounted (length starts - 1) counts (edges_of (row_at starts numbers) (length starts - 1)) → sum counts ≡ length numbers
counted_all starts numbers h counts counted =
    let some = h.some in
    counted.all ∙ edges_length starts numbers h (length starts - 1) (omega arith) ∙ h.last

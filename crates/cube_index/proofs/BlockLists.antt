-- The blocks of an index, and the first match among their places.
use Rattle.std.proofs.Common.{◌≡◌, ℕ, ◌+◌, ◌-◌, ◌*◌, ◌/◌, ◌%◌, ◌^◌, ◌<◌, ◌≤◌, Bool, true, false, ◌&&◌, eqb, ltb, leb, min, max, List, [], ◌∷◌, ◌++◌, take, drop, length, length-drop, get_or, map, Option, Some, None, refl, sym, ◌∙◌, ap, subst, ⊎_elim, arith, w64}
use Rattle.std.specs.Int.{bit_at, trailing_zeros}
use Rattle.std.specs.List.{range_with_len}
use Rattle.std.specs.Option.{is_some}
use Rattle.std.proofs.lemmas.Bool.{false≢true, cases_lt, and_parts, le-leb, lt-ltb, leb-true, ltb-true}
use Rattle.std.proofs.lemmas.List.{get_or_past, get_or-map, get_or_append_left, get_or-append-add, drop-map, take-map, get_or-take, get_or-drop, length-map, length-take, map-append}
use Rattle.std.proofs.lemmas.List.FromFn.{fill_by_all, get_or-map-range_with_len, length-map-range_with_len}
use Rattle.std.proofs.lemmas.Nat.Bits.{bit_at-trailing_zeros}
use Rattle.task_core.specs.Vectors.{Vector}
use Rattle.task_core.specs.Cubes.{Cube, matches}
use Rattle.cube_index.specs.declared.blocks.Block.{Block}
use Rattle.cube_index.specs.declared.blocks.Test.{Test}
use Rattle.cube_index.specs.Index.{tests_of}
use Rattle.cube_index.specs.Agreement.{agrees_with_all, answer, has_bit}
use Rattle.cube_index.specs.Places.{HasNone, IsFirstTrue}
use Rattle.cube_index.proofs.Bits.{has_bit_none}

-- the answers of an index with so many cubes
abbrev pub all_answers : Vector → List (List Test) → ℕ → List Bool
all_answers v blocks count = map (answer v blocks) (range_with_len 0 count)

-- what an index answers at a place of a block
pub answer_at : (v : Vector) (blocks : List (List Test)) (count n p : ℕ) → p < 64 → 64 * n + p < count
    → get_or (all_answers v blocks count) (64 * n + p) false ≡ agrees_with_all v p (get_or blocks n [])
answer_at v blocks count n p hp hc =
    let block : (64 * n + p) / 64 ≡ n = omega (arith, hp) in
    let place : (64 * n + p) % 64 ≡ p = omega (arith, hp) in
    get_or-map-range_with_len (answer v blocks) 0 count (64 * n + p) (64 * n + p) false hc (omega arith)
    ∙ ap (λ r. agrees_with_all v r (get_or blocks ((64 * n + p) / 64) [])) place
    ∙ ap (λ b. agrees_with_all v p (get_or blocks b [])) block

-- a word says which cubes of a block match, at the places from `low` on and before `high`
abbrev pub Says : Vector → List Test → ℕ → ℕ → ℕ → Type 0
Says v tests low high word =
    (p : ℕ) → p < 64 → has_bit word p ≡ ((leb low p && ltb p high) && agrees_with_all v p tests)

asked : (low high p : ℕ) (b : Bool) → low ≤ p → p < high → ((leb low p && ltb p high) && b) ≡ b
asked low high p b h1 h2 = ap (λ c. (c && ltb p high) && b) (le-leb low p h1) ∙ ap (λ c. c && b) (lt-ltb p high h2)

-- the bits of a place that was asked
at_place : (v : Vector) (blocks : List (List Test)) (count n from to word k : ℕ) → to ≤ count
    → Says v (get_or blocks n []) (from - 64 * n) (min (to - 64 * n) 64) word
    → max from (64 * n) ≤ k → k < min to (64 * n + 64) → get_or (all_answers v blocks count) k false ≡ has_bit word (k - 64 * n)
at_place v blocks count n from to word k few says low high =
    let hp : k - 64 * n < 64 = omega (arith, low, high) in
    let is : 64 * n + (k - 64 * n) ≡ k = omega (arith, low) in
    let hc : 64 * n + (k - 64 * n) < count = omega (arith, low, high, few) in
    let h1 : from - 64 * n ≤ k - 64 * n = omega (arith, low) in
    let h2 : k - 64 * n < min (to - 64 * n) 64 = omega (arith, low, high) in
    ap (λ j. get_or (all_answers v blocks count) j false) (sym is)
    ∙ answer_at v blocks count n (k - 64 * n) hp hc
    ∙ sym (asked (from - 64 * n) (min (to - 64 * n) 64) (k - 64 * n) (agrees_with_all v (k - 64 * n) (get_or blocks n [])) h1 h2)
    ∙ sym (says (k - 64 * n) hp)

-- where no bit is set, nothing of the block matches
pub none_in_block : (v : Vector) (blocks : List (List Test)) (count n from to word : ℕ) → to ≤ count
    → Says v (get_or blocks n []) (from - 64 * n) (min (to - 64 * n) 64) word
    → word ≡ 0 → HasNone (all_answers v blocks count) (max from (64 * n)) (min to (64 * n + 64))
none_in_block v blocks count n from to word few says none = λ k low high.
    at_place v blocks count n from to word k few says low high ∙ ap (λ w. has_bit w (k - 64 * n)) none ∙ has_bit_none (k - 64 * n)

-- else the lowest bit is the first match
pub first_in_block : (v : Vector) (blocks : List (List Test)) (count n from to word : ℕ) → to ≤ count
    → Says v (get_or blocks n []) (from - 64 * n) (min (to - 64 * n) 64) word
    → 0 < word → word < 2 ^ 64
    → IsFirstTrue (all_answers v blocks count) (max from (64 * n)) (min to (64 * n + 64)) (Some (64 * n + trailing_zeros w64 word))
first_in_block v blocks count n from to word few says some fits =
    let p : ℕ = trailing_zeros w64 word in
    let lowest : (p < 64) × (bit_at word p ≡ 1) × ((i : ℕ) → i < p → bit_at word i ≡ 0) = bit_at-trailing_zeros w64 word some fits in
    let set : ((leb (from - 64 * n) p && ltb p (min (to - 64 * n) 64)) && agrees_with_all v p (get_or blocks n [])) ≡ true =
    sym (says p lowest.0) ∙ ap (λ b. eqb b 1) lowest.1 in
    let parts = and_parts (leb (from - 64 * n) p && ltb p (min (to - 64 * n) 64)) (agrees_with_all v p (get_or blocks n [])) set in
    let within = and_parts (leb (from - 64 * n) p) (ltb p (min (to - 64 * n) 64)) parts.0 in
    let low : from - 64 * n ≤ p = leb-true (from - 64 * n) p within.0 in
    let high : p < min (to - 64 * n) 64 = ltb-true p (min (to - 64 * n) 64) within.1 in
    let h1 : max from (64 * n) ≤ 64 * n + p = omega (arith, low) in
    let h2 : 64 * n + p < min to (64 * n + 64) = omega (arith, high) in
    let back : 64 * n + p - 64 * n ≡ p = omega arith in (
      h1,
      h2,
      at_place v blocks count n from to word (64 * n + p) few says h1 h2 ∙ ap (λ j. has_bit word j) back ∙ ap (λ b. eqb b 1) lowest.1,
      λ k from_on before.
          let h3 : k < min to (64 * n + 64) = omega (arith, before, h2) in
          let below : k - 64 * n < p = omega (arith, before, from_on) in
          at_place v blocks count n from to word k few says from_on h3 ∙ ap (λ b. eqb b 1) (lowest.2 (k - 64 * n) below),
    )

-- the first match of one block, where the blocks before it have none
pub first_of_all : (bs : List Bool) (from to end start stop : ℕ) (found : Option ℕ) → IsFirstTrue bs (max from start) (min end stop) found
    → is_some found ≡ true → end ≤ to → ((k : ℕ) → from ≤ k → k < start → k < end → get_or bs k false ≡ false)
    → IsFirstTrue bs from to found
first_of_all bs from to end start stop None first some le before = absurd (false≢true some)
first_of_all bs from to end start stop (Some k) (low, high, here, none) some le before = (
  omega (arith, low),
  omega (arith, high, le),
  here,
  λ j from_on less.
      ⊎_elim (λ (lt : j < start). before j from_on lt (omega (arith, less, high)))
      (λ (ge : start ≤ j). none j (omega (arith, ge, from_on)) less)
      (cases_lt j start),
)

-- one block without a match more
pub none_more : (bs : List Bool) (from end n : ℕ) (found : Option ℕ) → IsFirstTrue bs (max from (64 * n)) (min end (64 * n + 64)) found
    → is_some found ≡ false → ((k : ℕ) → from ≤ k → k < 64 * n → k < end → get_or bs k false ≡ false)
    → (k : ℕ) → from ≤ k → k < 64 * (n + 1) → k < end → get_or bs k false ≡ false
none_more bs from end n (Some j) first some before = absurd (false≢true (sym some))
none_more bs from end n None none some before = λ k from_on less in_part.
    ⊎_elim (λ (lt : k < 64 * n). before k from_on lt in_part)
    (λ (ge : 64 * n ≤ k). none k (omega (arith, ge, from_on)) (omega (arith, less, in_part)))
    (cases_lt k (64 * n))

-- no match at all
pub none_of_all : (v : Vector) (blocks : List (List Test)) (count from to end : ℕ) → end ≡ min to count
    → ((k : ℕ) → from ≤ k → k < end → get_or (all_answers v blocks count) k false ≡ false)
    → HasNone (all_answers v blocks count) from to
none_of_all v blocks count from to end is before = λ k from_on less.
    ⊎_elim (λ (lt : k < end). before k from_on lt)
    (λ (ge : end ≤ k).
    let past : count ≤ k = omega (arith, ge, is, less) in
    let long : length (all_answers v blocks count) ≡ count = length-map-range_with_len (answer v blocks) 0 count in
    get_or_past (all_answers v blocks count) k false (omega (arith, past, long)))
    (cases_lt k end)

-- what the word of a block says
pub block_says : (v : Vector) (blocks : List Block) (n : ℕ) (block : Block) (l h low high places word : ℕ) → n < length blocks → block ≡ get_or blocks n block
    → l ≡ low → h ≡ high
    → ((k : ℕ) → k < 64 → has_bit places k ≡ (leb l k && ltb k h))
    → ((k : ℕ) → k < 64 → has_bit word k ≡ (has_bit places k && agrees_with_all v k block.tests.items))
    → Says v (get_or (tests_of blocks) n []) low high word
block_says v blocks n block l h low high places word within is el eh asks says = λ p hp.
    let tests : get_or (tests_of blocks) n [] ≡ block.tests.items =
    get_or-map (λ (b : Block). b.tests.items) blocks n block [] within ∙ ap (λ (b : Block). b.tests.items) (sym is) in
    says p hp
    ∙ ap (λ b. b && agrees_with_all v p block.tests.items) (asks p hp ∙ ap (λ x. leb x p && ltb p h) el ∙ ap (λ x. leb low p && ltb p x) eh)
    ∙ ap (λ (t : List Test). (leb low p && ltb p high) && agrees_with_all v p t) (sym tests)

-- one block more
pub blocks_more : (v : Vector) (blocks : List Block) (block : Block) (cubes : List Cube) (n : ℕ) → length blocks ≡ n
    → ((k : ℕ) → k < 64 * n → k < length cubes → answer v (tests_of blocks) k ≡ matches (get_or cubes k []) v)
    → ((k : ℕ) → k < length (take 64 (drop (64 * n) cubes)) → agrees_with_all v k block.tests.items ≡ matches (get_or (take 64 (drop (64 * n) cubes)) k []) v)
    → (k : ℕ) → k < 64 * (n + 1) → k < length cubes → answer v (tests_of (blocks ++ block ∷ [])) k ≡ matches (get_or cubes k []) v
blocks_more v blocks block cubes n long before here k less within =
    let f : Block → List Test = λ b. b.tests.items in
    let count : length (tests_of blocks) ≡ n = length-map blocks f ∙ long in
    let joined : tests_of (blocks ++ block ∷ []) ≡ tests_of blocks ++ block.tests.items ∷ [] = map-append f blocks (block ∷ []) in
    ⊎_elim
    (λ (lt : k < 64 * n).
    let old : k / 64 < length (tests_of blocks) = omega (arith, lt, count) in
    ap (λ (l : List (List Test)). agrees_with_all v (k % 64) (get_or l (k / 64) [])) joined
    ∙ ap (agrees_with_all v (k % 64)) (get_or_append_left (tests_of blocks) (block.tests.items ∷ []) [] (k / 64) old)
    ∙ before k lt within)
    (λ (ge : 64 * n ≤ k).
    let place : k % 64 ≡ k - 64 * n = omega (arith, ge, less) in
    let number : k / 64 ≡ length (tests_of blocks) + 0 = omega (arith, ge, less, count) in
    let small : k - 64 * n < 64 = omega (arith, ge, less) in
    let size : length (take 64 (drop (64 * n) cubes)) ≡ min 64 (length (drop (64 * n) cubes)) = length-take 64 (drop (64 * n) cubes) in
    let rest : length (drop (64 * n) cubes) ≡ length cubes - 64 * n = length-drop (64 * n) cubes in
    let in_part : k - 64 * n < length (take 64 (drop (64 * n) cubes)) = omega (arith, size, rest, small, within, ge) in
    let back : 64 * n + (k - 64 * n) ≡ k = omega (arith, ge) in
    ap (λ (l : List (List Test)). agrees_with_all v (k % 64) (get_or l (k / 64) [])) joined
    ∙ ap (λ i. agrees_with_all v (k % 64) (get_or (tests_of blocks ++ block.tests.items ∷ []) i [])) number
    ∙ ap (agrees_with_all v (k % 64)) (get_or-append-add (tests_of blocks) (block.tests.items ∷ []) 0 [])
    ∙ ap (λ p. agrees_with_all v p block.tests.items) place
    ∙ here (k - 64 * n) in_part
    ∙ ap (λ (cube : Cube). matches cube v) (get_or-take 64 (drop (64 * n) cubes) (k - 64 * n) [] small ∙ get_or-drop (64 * n) cubes (k - 64 * n) [])
    ∙ ap (λ j. matches (get_or cubes j []) v) back)
    (cases_lt k (64 * n))

-- the index of some cubes
pub is_index : (v : Vector) (blocks : List (List Test)) (cubes : List Cube) (count : ℕ) → count ≡ length cubes
    → ((k : ℕ) → k < length cubes → answer v blocks k ≡ matches (get_or cubes k []) v)
    → all_answers v blocks count ≡ map (λ (cube : Cube). matches cube v) cubes
is_index v blocks cubes count is same =
    let f : Cube → Bool = λ cube. matches cube v in
    ap (all_answers v blocks) is
    ∙ sym (fill_by_all (answer v blocks) (map f cubes) (length cubes) false (length-map cubes f)
    (λ k h. get_or-map f cubes k [] false h ∙ sym (same k h)))

-- the cubes of a block, by what they are of
pub part_of : {X : Type 0} (f : X → Cube) (xs part : List X) (n : ℕ) → part ≡ take 64 (drop n xs) → map f part ≡ take 64 (drop n (map f xs))
part_of f xs part n is =
    ap (map f) is ∙ sym (ap (take 64) (drop-map f n xs) ∙ take-map f 64 (drop n xs))

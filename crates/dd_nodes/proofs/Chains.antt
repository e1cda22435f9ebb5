-- Cells in the chains of their buckets.
use Rattle.std.proofs.Common.{◌≡◌, ◌≢◌, ℕ, zero, suc, ◌+◌, ◌-◌, ◌<◌, ◌≤◌, eqb, List, [], ◌∷◌, ◌++◌, length, get_or, set, replicate, slice_get, Some, refl, sym, ap, subst, ◌∙◌, ⊎_elim, arith}
use Rattle.std.proofs.lemmas.Bool.{cases_lt, cases_eq, eq-eqb, ne_eqb, cond-true, cond-false}
use Rattle.std.proofs.lemmas.List.{get_or-set_same, get_or-set_other, get_or_append_left, length-map, get_or_read, map-set, set-get_or}
use Rattle.dd_nodes.specs.declared.node.Node.{Node}
use Rattle.dd_nodes.specs.declared.arena.Cell.{Cell}
use Rattle.dd_nodes.specs.NodeList.{node_at, Lacks}
use Rattle.dd_nodes.specs.Arena.{no_cell, nodes_of, bucket, bucket_at, last_in, AreChained}
use Rattle.dd_nodes.proofs.NodeLemmas.{node_at_inner, node_place}

-- a node that stands for those past the end of a list
abbrev pub no_node : Node
no_node = no_cell.node

-- the last place of a bucket, step by step
module _ (f : ℕ → ℕ) (b : ℕ) where
  last_same : (k : ℕ) → f k ≡ b → last_in f b (suc k) ≡ suc k
  unfolding last_in
  last_same k e = cond-true (eqb (f k) b) (suc k) (last_in f b k) (eq-eqb (f k) b e)

  last_other : (k : ℕ) → f k ≢ b → last_in f b (suc k) ≡ last_in f b k
  unfolding last_in
  last_other k e = cond-false (eqb (f k) b) (suc k) (last_in f b k) (ne_eqb (f k) b e)

  last_within : (k : ℕ) → last_in f b k ≤ k
  unfolding last_in
  last_within zero = omega arith
  last_within (suc k) = ⊎_elim
      (λ (e : f k ≡ b). let s : last_in f b (suc k) ≡ suc k = last_same k e in omega arith)
      (λ (e : f k ≢ b). let s : last_in f b (suc k) ≡ last_in f b k = last_other k e in let w : last_in f b k ≤ k = last_within k in omega arith)
      (cases_eq (f k) b)

  -- it has the bucket
  last_fits : (k : ℕ) → 0 < last_in f b k → f (last_in f b k - 1) ≡ b
  unfolding last_in
  last_fits zero some = absurd (omega arith)
  last_fits (suc k) some = ⊎_elim
      (λ (e : f k ≡ b). let s : last_in f b (suc k) ≡ suc k = last_same k e in let here : last_in f b (suc k) - 1 ≡ k = omega arith in ap f here ∙ e)
      (λ (e : f k ≢ b).
      let s : last_in f b (suc k) ≡ last_in f b k = last_other k e in
      ap (λ n. f (n - 1)) s ∙ last_fits k (omega arith))
      (cases_eq (f k) b)

  -- and no later one has
  last_none : (k i : ℕ) → last_in f b k ≤ i → i < k → f i ≢ b
  last_none zero i from below = absurd (omega arith)
  last_none (suc k) i from below = ⊎_elim
      (λ (e : f k ≡ b). let s : last_in f b (suc k) ≡ suc k = last_same k e in absurd (omega arith))
      (λ (e : f k ≢ b).
      let s : last_in f b (suc k) ≡ last_in f b k = last_other k e in
      ⊎_elim
      (λ (h : i < k). last_none k i (omega arith) h)
      (λ (h : k ≤ i). let here : i ≡ k = omega arith in subst (λ n. f n ≢ b) (sym here) e)
      (cases_lt i k))
      (cases_eq (f k) b)

-- the last place of a bucket is told by the buckets
last_kept : (f g : ℕ → ℕ) (b k : ℕ) → ((i : ℕ) → i < k → f i ≡ g i) → last_in f b k ≡ last_in g b k
unfolding last_in
last_kept f g b zero same = refl
last_kept f g b (suc k) same = ⊎_elim
    (λ (e : g k ≡ b). last_same f b k (same k (omega arith) ∙ e) ∙ sym (last_same g b k e))
    (λ (e : g k ≢ b). last_other f b k (λ h. e (sym (same k (omega arith)) ∙ h)) ∙ last_kept f g b k (λ i below. same i (omega arith)) ∙ sym (last_other g b k e))
    (cases_eq (g k) b)

-- no cell is chained at first
pub none_chained : (count : ℕ) (cells : List Cell) (heads : List ℕ) → ((b : ℕ) → get_or heads b 0 ≡ 0) → AreChained count cells heads 0
unfolding last_in
none_chained count cells heads zeros = record { starts = λ b within. zeros b; nexts = λ i below. absurd (omega arith) }

-- the next cell is put at the head of its chain
pub one_chained : (count : ℕ) (cells after : List Cell) (heads : List ℕ) (done b next : ℕ)
    → AreChained count cells heads done
    → length heads ≡ count → b < count
    → ((i : ℕ) → i ≤ done → (get_or after i no_cell).node ≡ (get_or cells i no_cell).node)
    → ((i : ℕ) → i < done → (get_or after i no_cell).next ≡ (get_or cells i no_cell).next)
    → b ≡ bucket_at cells count done
    → (get_or after done no_cell).next ≡ get_or heads b 0
    → AreChained count after (set heads b (done + 1)) (done + 1)
one_chained count cells after heads done b next chained size within nodes nexts is links = record { starts = starts_now; nexts = nexts_now }
  where
    more : done + 1 ≡ suc done
    more = omega arith

    same : (i : ℕ) → i ≤ done → bucket_at after count i ≡ bucket_at cells count i
    same i below = ap (λ node. bucket node count) (nodes i below)

    here : bucket_at after count done ≡ b
    here = same done (omega arith) ∙ sym is

    starts_now : (c : ℕ) → c < count → get_or (set heads b (done + 1)) c 0 ≡ last_in (bucket_at after count) c (done + 1)
    starts_now c c_within = ⊎_elim
        (λ (e : c ≡ b). subst (λ d. get_or (set heads b (done + 1)) d 0 ≡ last_in (bucket_at after count) d (done + 1)) (sym e)
        (get_or-set_same heads b (done + 1) 0 (omega arith) ∙ more ∙ sym (last_same (bucket_at after count) b done here) ∙ ap (last_in (bucket_at after count) b) (sym more)))
        (λ (e : c ≢ b).
        get_or-set_other heads b c (done + 1) 0 e
        ∙ chained.starts c c_within
        ∙ sym (last_kept (bucket_at after count) (bucket_at cells count) c done (λ i below. same i (omega arith)))
        ∙ sym (last_other (bucket_at after count) c done (λ h. e (sym h ∙ here)))
        ∙ ap (last_in (bucket_at after count) c) (sym more))
        (cases_eq c b)

    nexts_now : (i : ℕ) → i < done + 1 → (get_or after i no_cell).next ≡ last_in (bucket_at after count) (bucket_at after count i) i
    nexts_now i below = ⊎_elim
        (λ (h : i < done).
        nexts i h ∙ chained.nexts i h
        ∙ ap (λ c. last_in (bucket_at cells count) c i) (sym (same i (omega arith)))
        ∙ sym (last_kept (bucket_at after count) (bucket_at cells count) (bucket_at after count i) i (λ j lower. same j (omega arith))))
        (λ (h : done ≤ i).
        let e : i ≡ done = omega arith in
        subst (λ j. (get_or after j no_cell).next ≡ last_in (bucket_at after count) (bucket_at after count j) j) (sym e)
        (links ∙ chained.starts b within
        ∙ sym (last_kept (bucket_at after count) (bucket_at cells count) b done (λ j lower. same j (omega arith)))
        ∙ ap (λ c. last_in (bucket_at after count) c done) (sym here)))
        (cases_lt i done)

-- the same where the cell is written in its place
pub link_chained : (count : ℕ) (cells : List Cell) (heads : List ℕ) (done b : ℕ)
    → AreChained count cells heads done → done < length cells
    → length heads ≡ count → b < count
    → b ≡ bucket_at cells count done
    → (cell : Cell) → cell.node ≡ (get_or cells done no_cell).node → cell.next ≡ get_or heads b 0
    → AreChained count (set cells done cell) (set heads b (done + 1)) (done + 1)
link_chained count cells heads done b chained inside size within is cell node next =
    one_chained count cells (set cells done cell) heads done b cell.next chained size within nodes
    (λ i below. ap (λ k. k.next) (get_or-set_other cells done i cell no_cell (λ e. omega arith)))
    is (ap (λ k. k.next) here ∙ next)
  where
    here : get_or (set cells done cell) done no_cell ≡ cell
    here = get_or-set_same cells done cell no_cell inside

    nodes : (i : ℕ) → i ≤ done → (get_or (set cells done cell) i no_cell).node ≡ (get_or cells i no_cell).node
    nodes i below = ⊎_elim
        (λ (e : i ≡ done). subst (λ j. (get_or (set cells done cell) j no_cell).node ≡ (get_or cells j no_cell).node) (sym e) (ap (λ k. k.node) here ∙ node))
        (λ (e : i ≢ done). ap (λ k. k.node) (get_or-set_other cells done i cell no_cell e))
        (cases_eq i done)

-- cells that are appended change no chain
pub push_chained : (count : ℕ) (cells more : List Cell) (heads : List ℕ) (done : ℕ) → done ≤ length cells → AreChained count cells heads done → AreChained count (cells ++ more) heads done
push_chained count cells more heads done within chained = record {
  starts = λ b small. chained.starts b small ∙ sym (last_kept (bucket_at (cells ++ more) count) (bucket_at cells count) b done (λ i below. same i (omega arith)));
  nexts = λ i below.
      ap (λ cell. cell.next) (get_or_append_left cells more no_cell i (omega arith)) ∙ chained.nexts i below
      ∙ ap (λ c. last_in (bucket_at cells count) c i) (sym (same i (omega arith)))
      ∙ sym (last_kept (bucket_at (cells ++ more) count) (bucket_at cells count) (bucket_at (cells ++ more) count i) i (λ j lower. same j (omega arith)));
}
  where
    same : (i : ℕ) → i < length cells → bucket_at (cells ++ more) count i ≡ bucket_at cells count i
    same i below = ap (λ cell. bucket cell.node count) (get_or_append_left cells more no_cell i below)

-- how far a walk along a chain has come: no cell from the place on is the node, and the place, if
-- there is one, has the node's bucket
pub record IsSearched (count : ℕ) (cells : List Cell) (node : Node) (at : ℕ) : Type 0 where
  pub within : at ≤ length cells
  pub fits : 0 < at → bucket_at cells count (at - 1) ≡ bucket node count
  pub absent : (i : ℕ) → at ≤ i → i < length cells → (get_or cells i no_cell).node ≢ node

module _ (count : ℕ) (cells : List Cell) (heads : List ℕ) (node : Node) (chained : AreChained count cells heads (length cells)) where
  -- cells of other buckets are other nodes
  others : (k : ℕ) → (i : ℕ) → last_in (bucket_at cells count) (bucket node count) k ≤ i → i < k → (get_or cells i no_cell).node ≢ node
  others k i from below same = last_none (bucket_at cells count) (bucket node count) k i from below (ap (λ n. bucket n count) same)

  pub search_start : (at b : ℕ) → b ≡ bucket node count → b < count → at ≡ get_or heads b 0 → IsSearched count cells node at
  search_start at b is within start =
      let e : at ≡ last_in (bucket_at cells count) (bucket node count) (length cells) =
      start ∙ chained.starts b within ∙ ap (λ c. last_in (bucket_at cells count) c (length cells)) is in
      subst (IsSearched count cells node) (sym e) (record {
        within = last_within (bucket_at cells count) (bucket node count) (length cells);
        fits = last_fits (bucket_at cells count) (bucket node count) (length cells);
        absent = others (length cells);
      })

  pub search_step : (at : ℕ) → 0 < at → IsSearched count cells node at → (get_or cells (at - 1) no_cell).node ≢ node → IsSearched count cells node ((get_or cells (at - 1) no_cell).next)
  search_step at some so_far other =
      let w : at ≤ length cells = so_far.within in
      let e : (get_or cells (at - 1) no_cell).next ≡ last_in (bucket_at cells count) (bucket node count) (at - 1) =
      chained.nexts (at - 1) (omega arith) ∙ ap (λ c. last_in (bucket_at cells count) c (at - 1)) (so_far.fits some) in
      let low : last_in (bucket_at cells count) (bucket node count) (at - 1) ≤ at - 1 = last_within (bucket_at cells count) (bucket node count) (at - 1) in
      subst (IsSearched count cells node) (sym e) (record {
        within = omega arith;
        fits = last_fits (bucket_at cells count) (bucket node count) (at - 1);
        absent = λ i from inside. ⊎_elim
            (λ (h : i < at - 1). others (at - 1) i from h)
            (λ (h : at - 1 ≤ i). ⊎_elim
            (λ (k : i < at). let here : i ≡ at - 1 = omega arith in subst (λ j. (get_or cells j no_cell).node ≢ node) (sym here) other)
            (λ (k : at ≤ i). so_far.absent i k inside)
            (cases_lt i at))
            (cases_lt i (at - 1));
      })

  -- the places fall along a chain
  pub search_falls : (at : ℕ) → 0 < at → IsSearched count cells node at → (get_or cells (at - 1) no_cell).next < at
  search_falls at some so_far =
      let w : at ≤ length cells = so_far.within in
      let e : (get_or cells (at - 1) no_cell).next ≡ last_in (bucket_at cells count) (bucket_at cells count (at - 1)) (at - 1) = chained.nexts (at - 1) (omega arith) in
      let low : last_in (bucket_at cells count) (bucket_at cells count (at - 1)) (at - 1) ≤ at - 1 = last_within (bucket_at cells count) (bucket_at cells count (at - 1)) (at - 1) in
      omega arith

-- the node of a cell
pub node_of_cell : (cells : List Cell) (i : ℕ) → i < length cells → slice_get (nodes_of cells) i ≡ Some (get_or cells i no_cell).node
node_of_cell [] i within = absurd (omega arith)
node_of_cell (cell ∷ cells) zero within = refl
node_of_cell (cell ∷ cells) (suc i) within = node_of_cell cells i (omega arith)

-- the node of a cell that was read
pub node_read : (cells : List Cell) (i : ℕ) (cell : Cell) → i < length cells → cell ≡ get_or cells i cell → slice_get (nodes_of cells) i ≡ Some cell.node
node_read cells i cell within read = node_of_cell cells i within ∙ ap (λ k. Some k.node) (sym (get_or_read cells i cell within read no_cell))

pub node_at_cell : (cells : List Cell) (i : ℕ) → i < length cells → node_at (nodes_of cells) (i + 2) ≡ Some (get_or cells i no_cell).node
node_at_cell cells i within = node_at_inner (nodes_of cells) i ∙ node_of_cell cells i within

-- at the end of the chain the node is nowhere
pub search_end : (count : ℕ) (cells : List Cell) (node : Node) → IsSearched count cells node 0 → Lacks (nodes_of cells) node
search_end count cells node searched n there =
    let place = node_place (nodes_of cells) n node there in
    let large : 2 ≤ n = place.0 in
    let short : n < length (nodes_of cells) + 2 = place.1 in
    let same_length : length (nodes_of cells) ≡ length cells = length-map cells (λ (cell : Cell). cell.node) in
    let within : n - 2 < length cells = omega arith in
    searched.absent (n - 2) (omega arith) within
    (same_some (get_or cells (n - 2) no_cell).node node (sym (node_of_cell cells (n - 2) within) ∙ place.2))
  where
    same_some : (a b : Node) → Some a ≡ Some b → a ≡ b
    same_some a b e = cc

-- a cell whose next place is changed has the node that it had
pub next_changed : (cells : List Cell) (i : ℕ) (cell : Cell) → i < length cells → cell.node ≡ (get_or cells i no_cell).node → nodes_of (set cells i cell) ≡ nodes_of cells
next_changed cells i cell within same =
    map-set (λ (c : Cell). c.node) cells i cell ∙ ap (λ node. set (nodes_of cells) i node) (same ∙ sym (at cells i within))
    ∙ set-get_or (nodes_of cells) i no_node
  where
    at : (cells : List Cell) (i : ℕ) → i < length cells → get_or (nodes_of cells) i no_node ≡ (get_or cells i no_cell).node
    at [] i within = absurd (omega arith)
    at (c ∷ cells) zero within = refl
    at (c ∷ cells) (suc i) within = at cells i (omega arith)

-- a list of zeros has 0 everywhere
pub zeros_at : (n i : ℕ) → get_or {A = ℕ} (replicate n 0) i 0 ≡ 0
zeros_at zero i = refl
zeros_at (suc n) zero = refl
zeros_at (suc n) (suc i) = zeros_at n i

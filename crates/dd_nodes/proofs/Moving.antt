-- The marked nodes move down in their order, each mark becoming the new place.
use Rattle.std.proofs.Common.{◌≡◌, ◌≢◌, ℕ, zero, suc, ◌+◌, ◌-◌, ◌<◌, ◌≤◌, ltb, List, [], ◌∷◌, length, map, get_or, set, take, slice_get, Some, refl, sym, ap, subst, ◌∙◌, ⊎_elim, arith}
use Rattle.std.proofs.lemmas.Bool.{cases_lt, cases_eq, lt-ltb, le-ltb, cond-true, cond-false}
use Rattle.std.proofs.lemmas.List.{length-set, length-map, length-take-le, get_or-set_same, get_or-set_other, get_or-take, get_or_read}
use Rattle.std.proofs.lemmas.Option.{slice_get_within, same_Some}
use Rattle.std.specs.List.{All}
use Rattle.dd_nodes.specs.declared.node.Ref.{Ref}
use Rattle.dd_nodes.specs.declared.arena.Cell.{Cell}
use Rattle.dd_nodes.specs.Arena.{no_cell, nodes_of}
use Rattle.dd_nodes.specs.Collecting.{HasMark, HasPlace, AreInOrder, AreClosed, AreNewPlaces, marked_below, renumbered, new_root, new_node, number_by, root_by, node_by, Keeps}
use Rattle.dd_nodes.proofs.NodeLemmas.{same_node}
use Rattle.dd_nodes.proofs.Chains.{node_of_cell}
use Rattle.dd_nodes.proofs.Collecting.{below_marked, below_unmarked, below_within, below_rises, number_small, number_large}

-- the nodes before a place have moved, and from it on all is as it was
pub record AreMoved (marks : List ℕ) (cells now : List Cell) (places : List ℕ) (place kept : ℕ) : Type 0 where
  pub size : length now ≡ length cells
  pub marks_size : length places ≡ length marks
  pub count : kept ≡ marked_below marks place
  pub moved : (i : ℕ) → i < place → 0 < get_or marks i 0 → (get_or now (marked_below marks i) no_cell).node ≡ new_node marks (get_or cells i no_cell).node
  pub numbered : (i : ℕ) → i < place → 0 < get_or marks i 0 → get_or places i 0 ≡ marked_below marks i + 1
  pub rest : (i : ℕ) → place ≤ i → (get_or now i no_cell).node ≡ (get_or cells i no_cell).node
  pub marks_rest : (i : ℕ) → place ≤ i → get_or places i 0 ≡ get_or marks i 0

-- the number by a mark that is the new place
pub by_place : (marks places : List ℕ) (n : ℕ) → (2 ≤ n → get_or places (n - 2) 0 ≡ marked_below marks (n - 2) + 1) → number_by places n ≡ renumbered marks n
by_place marks places n is = ⊎_elim
    (λ (small : n < 2). cond-true (ltb n 2) n (get_or places (n - 2) 0 + 1) (lt-ltb n 2 small) ∙ sym (number_small marks n small))
    (λ (large : 2 ≤ n).
    let e : get_or places (n - 2) 0 ≡ marked_below marks (n - 2) + 1 = is large in
    let f : renumbered marks n ≡ marked_below marks (n - 2) + 2 = number_large marks n large in
    cond-false (ltb n 2) n (get_or places (n - 2) 0 + 1) (le-ltb n 2 large) ∙ omega arith)
    (cases_lt n 2)

module _ (marks : List ℕ) (cells : List Cell) where
  pub none_moved : AreMoved marks cells cells marks 0 0
  unfolding marked_below
  none_moved = record {
    size = refl;
    marks_size = refl;
    count = refl;
    moved = λ i below. absurd (omega arith);
    numbered = λ i below. absurd (omega arith);
    rest = λ i above. refl;
    marks_rest = λ i above. refl;
  }

  module _ (now : List Cell) (places : List ℕ) (place kept : ℕ) (so_far : AreMoved marks cells now places place kept) (within : place < length cells) (marks_size : length marks ≡ length cells) where
    -- the new number of a child
    pub child_number : (n : ℕ) → n < place + 2 → HasMark marks n → number_by places n ≡ renumbered marks n
    child_number n lower has = by_place marks places n (λ large. so_far.numbered (n - 2) (omega arith) (has large))

    pub child_place : place ≤ 16777215 → (n : ℕ) → n < place + 2 → HasMark marks n → HasPlace places n
    child_place small n lower has =
        let size : length places ≡ length marks = so_far.marks_size in (
          omega arith,
          λ large.
              (let e : get_or places (n - 2) 0 ≡ marked_below marks (n - 2) + 1 = so_far.numbered (n - 2) (omega arith) (has large) in
              let w : marked_below marks (n - 2) ≤ n - 2 = below_within marks (n - 2) in
              omega arith),
        )

    pub kept_within : kept ≤ place
    kept_within = let count : kept ≡ marked_below marks place = so_far.count in let w : marked_below marks place ≤ place = below_within marks place in omega arith

    -- a marked node moves
    pub one_moved : 0 < get_or marks place 0 → (cell : Cell) → cell.node ≡ new_node marks (get_or cells place no_cell).node
        → AreMoved marks cells (set now kept cell) (set places place (kept + 1)) (place + 1) (kept + 1)
    one_moved some cell node =
        let size : length now ≡ length cells = so_far.size in
        let places_size : length places ≡ length marks = so_far.marks_size in
        let count : kept ≡ marked_below marks place = so_far.count in
        let below : kept ≤ place = kept_within in
        record {
          size = length-set now kept cell ∙ so_far.size;
          marks_size = length-set places place (kept + 1) ∙ so_far.marks_size;
          count =
              let more : place + 1 ≡ suc place = omega arith in
              let e : marked_below marks (suc place) ≡ suc (marked_below marks place) = below_marked marks place some in
              let f : marked_below marks (place + 1) ≡ marked_below marks (suc place) = ap (marked_below marks) more in
              omega arith;
          moved = λ i less marked. ⊎_elim
              (λ (e : i ≡ place).
              subst (λ j. (get_or (set now kept cell) (marked_below marks j) no_cell).node ≡ new_node marks (get_or cells j no_cell).node) (sym e)
              (ap (λ j. (get_or (set now kept cell) j no_cell).node) (sym so_far.count) ∙ ap (λ k. k.node) (get_or-set_same now kept cell no_cell (omega arith)) ∙ node))
              (λ (e : i ≢ place).
              let rises : marked_below marks i < marked_below marks place = below_rises marks i place marked (omega arith) in
              ap (λ k. k.node) (get_or-set_other now kept (marked_below marks i) cell no_cell (λ same. omega arith)) ∙ so_far.moved i (omega arith) marked)
              (cases_eq i place);
          numbered = λ i less marked. ⊎_elim
              (λ (e : i ≡ place).
              subst (λ j. get_or (set places place (kept + 1)) j 0 ≡ marked_below marks j + 1) (sym e)
              (get_or-set_same places place (kept + 1) 0 (omega arith) ∙ ap (λ n. n + 1) so_far.count))
              (λ (e : i ≢ place). get_or-set_other places place i (kept + 1) 0 e ∙ so_far.numbered i (omega arith) marked)
              (cases_eq i place);
          rest = λ i above. ap (λ k. k.node) (get_or-set_other now kept i cell no_cell (λ same. omega arith)) ∙ so_far.rest i (omega arith);
          marks_rest = λ i above. get_or-set_other places place i (kept + 1) 0 (λ same. omega arith) ∙ so_far.marks_rest i (omega arith);
        }

    -- where the node at the place is read, and its mark
    module _ (small : length cells ≤ 16777216) (order : AreInOrder (nodes_of cells)) (closed : AreClosed (nodes_of cells) marks) (cell : Cell) (read : cell ≡ get_or now place cell) (some : 0 < get_or places place 0) where
      pub was_marked : 0 < get_or marks place 0
      was_marked = subst (λ n. 0 < n) (so_far.marks_rest place (omega arith)) some

      same_cell : cell.node ≡ (get_or cells place no_cell).node
      same_cell = let size : length now ≡ length cells = so_far.size in ap (λ k. k.node) (get_or_read now place cell (omega arith) read no_cell) ∙ so_far.rest place (omega arith)

      was_node : slice_get (nodes_of cells) place ≡ Some cell.node
      was_node = node_of_cell cells place within ∙ ap Some (sym same_cell)

      lo_before : cell.node.lo.0 < place + 2
      lo_before = order.lo_before place cell.node was_node

      hi_before : cell.node.hi.0 < place + 2
      hi_before = order.hi_before place cell.node was_node

      lo_has : HasMark marks cell.node.lo.0
      lo_has = closed.los_have place cell.node was_marked was_node

      hi_has : HasMark marks cell.node.hi.0
      hi_has = closed.his_have place cell.node was_marked was_node

      pub lo_placed : HasPlace places cell.node.lo.0
      lo_placed = child_place (omega arith) cell.node.lo.0 lo_before lo_has

      pub hi_placed : HasPlace places cell.node.hi.0
      hi_placed = child_place (omega arith) cell.node.hi.0 hi_before hi_has

      pub node_placed : node_by places cell.node ≡ new_node marks (get_or cells place no_cell).node
      node_placed = same_node (node_by places cell.node) (new_node marks cell.node) refl (child_number cell.node.lo.0 lo_before lo_has) (child_number cell.node.hi.0 hi_before hi_has)
          ∙ ap (new_node marks) same_cell

    -- another does not
    pub one_left : get_or marks place 0 ≡ 0 → AreMoved marks cells now places (place + 1) kept
    one_left none = record {
      size = so_far.size;
      marks_size = so_far.marks_size;
      count =
          let more : place + 1 ≡ suc place = omega arith in
          so_far.count ∙ sym (below_unmarked marks place none) ∙ ap (marked_below marks) (sym more);
      moved = λ i less marked. ⊎_elim
          (λ (e : i ≡ place). let f : get_or marks i 0 ≡ get_or marks place 0 = ap (λ j. get_or marks j 0) e in absurd (omega arith))
          (λ (e : i ≢ place). so_far.moved i (omega arith) marked)
          (cases_eq i place);
      numbered = λ i less marked. ⊎_elim
          (λ (e : i ≡ place). let f : get_or marks i 0 ≡ get_or marks place 0 = ap (λ j. get_or marks j 0) e in absurd (omega arith))
          (λ (e : i ≢ place). so_far.numbered i (omega arith) marked)
          (cases_eq i place);
      rest = λ i above. so_far.rest i (omega arith);
      marks_rest = λ i above. so_far.marks_rest i (omega arith);
    }

  module _ (now : List Cell) (places : List ℕ) (kept : ℕ) (all : AreMoved marks cells now places (length cells) kept) where
    pub all_kept : kept ≤ length cells
    all_kept = let count : kept ≡ marked_below marks (length cells) = all.count in let w : marked_below marks (length cells) ≤ length cells = below_within marks (length cells) in omega arith

    -- what is left is what was marked
    pub all_moved : Keeps marks (nodes_of cells) (nodes_of (take kept now))
    all_moved =
        let size : length now ≡ length cells = all.size in
        let few : kept ≤ length cells = all_kept in
        let left : length (take kept now) ≡ kept = length-take-le kept now (omega arith) in
        record {
          count = length-map (take kept now) (λ (cell : Cell). cell.node) ∙ left ∙ all.count ∙ ap (marked_below marks) (sym (length-map cells (λ (cell : Cell). cell.node)));
          nodes = λ i node marked at.
              let nodes_size : length (nodes_of cells) ≡ length cells = length-map cells (λ (cell : Cell). cell.node) in
              let within_nodes : i < length (nodes_of cells) = slice_get_within (nodes_of cells) i node at in
              let within : i < length cells = omega arith in
              let is : (get_or cells i no_cell).node ≡ node = same_Some (get_or cells i no_cell).node node (sym (node_of_cell cells i within) ∙ at) in
              let rises : marked_below marks i < marked_below marks (length cells) = below_rises marks i (length cells) marked within in
              let count : kept ≡ marked_below marks (length cells) = all.count in
              node_of_cell (take kept now) (marked_below marks i) (omega arith)
              ∙ ap (λ k. Some k.node) (get_or-take kept now (marked_below marks i) no_cell (omega arith))
              ∙ ap Some (all.moved i within marked ∙ ap (new_node marks) is);
        }

    pub all_numbered : length marks ≡ length cells → ((i : ℕ) → length cells ≤ i → get_or marks i 0 ≡ 0) → AreNewPlaces marks places
    all_numbered size past i marked = ⊎_elim
        (λ (h : i < length cells). all.numbered i h marked)
        (λ (h : length cells ≤ i). let e : get_or marks i 0 ≡ 0 = past i h in absurd (omega arith))
        (cases_lt i (length cells))

-- a list each of whose elements is changed in its place
pub each_changed : {X : Type 0} (f : X → X) (d : X) (old new : List X) → length new ≡ length old → ((k : ℕ) → k < length old → get_or new k d ≡ f (get_or old k d)) → new ≡ map f old
each_changed f d [] [] size each = refl
each_changed f d [] (y ∷ new) size each = absurd (omega arith)
each_changed f d (x ∷ old) [] size each = absurd (omega arith)
each_changed f d (x ∷ old) (y ∷ new) size each =
    let here : y ≡ f x = each zero (omega arith) in
    let rest : new ≡ map f old = each_changed f d old new (omega arith) (λ k within. each (suc k) (omega arith)) in
    λ i. here i ∷ rest i

-- the roots' numbers by their marks are their new numbers
pub roots_by : (marks places : List ℕ) → AreNewPlaces marks places → (roots : List Ref) → All (λ (r : Ref). HasMark marks r.0) roots → map (root_by places) roots ≡ map (new_root marks) roots
roots_by marks places are [] have = refl
roots_by marks places are (r ∷ roots) have =
    let here : number_by places r.0 ≡ renumbered marks r.0 = by_place marks places r.0 (λ large. are (r.0 - 2) (have 0 r (omega arith) large)) in
    let rest : map (root_by places) roots ≡ map (new_root marks) roots = roots_by marks places are roots (λ k d within. have (suc k) d (omega arith)) in
    λ i. record { 0 = here i } ∷ rest i

-- a root's mark is a place
pub root_place : (marks places : List ℕ) → AreNewPlaces marks places → length places ≡ length marks → length marks ≤ 16777216 → (n : ℕ) → n < length marks + 2 → HasMark marks n → HasPlace places n
root_place marks places are size small n within has = (
  omega arith,
  λ large.
      (let e : get_or places (n - 2) 0 ≡ marked_below marks (n - 2) + 1 = are (n - 2) (has large) in
      let w : marked_below marks (n - 2) ≤ n - 2 = below_within marks (n - 2) in
      omega arith),
)

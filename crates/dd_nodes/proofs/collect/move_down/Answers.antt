-- A marked node moves to the place of the marks below, and another stays behind.
use Rattle.std.proofs.Common.{◌≡◌, ◌∙◌, ◌<◌, ◌≤◌, length, get_or, sym, subst, arith, refl}
use Rattle.std.proofs.lemmas.List.{get_or_read, length-map}
use Rattle.dd_nodes.specs.declared.arena.Cell.{Cell}
use Rattle.dd_nodes.specs.Arena.{nodes_of}
use Rattle.dd_nodes.specs.Collecting.{Keeps}
use Rattle.dd_nodes.proofs.Moving.{AreMoved, none_moved, kept_within, was_marked, lo_placed, hi_placed, node_placed, one_moved, one_left, all_moved}
use Rattle.dd_nodes.proofs.collect.move_down.Goals as goal

pub loop-place-init : goal.loop-place-init
loop-place-init c = record { moved = none_moved c.args.marks.now.items c.args.cells.now.items; room = refl; marks_room = refl }

pub loop-place-preserved-then-index-eq0 : goal.loop-place-preserved-then-index-eq0
loop-place-preserved-then-index-eq0 c =
    let marks = c.args.marks.now.items in
    let cells = c.args.cells.now.items in
    let now = c.loop-place.cells.items in
    let places = c.loop-place.marks.items in
    let place = c.loop-place.place in
    let kept = c.loop-place.kept in
    let moved = c.loop-place.invariant.moved in
    let within : place < length cells = omega (arith, c.args.cells.now.ok.0) in
    let nodes_size : length (nodes_of cells) ≡ length cells = length-map cells (λ (cell : Cell). cell.node) in
    let size : length marks ≡ length cells = c.requires.closed.size ∙ nodes_size in
    let places_size : length places ≡ length marks = moved.marks_size in
    let mark_at : c.index.result.now ≡ get_or places place 0 = get_or_read places place c.index.result.now (omega arith) c.index.ensures 0 in
    let rest : get_or places place 0 ≡ get_or marks place 0 = moved.marks_rest place (omega arith) in
    record { moved = one_left marks cells now places place kept moved within size (omega arith); room = c.loop-place.invariant.room; marks_room = c.loop-place.invariant.marks_room }

pub renumber_children-requires-clause-lo : goal.renumber_children-requires-clause-lo
renumber_children-requires-clause-lo c =
    let marks = c.args.marks.now.items in
    let cells = c.args.cells.now.items in
    let now = c.loop-place.cells.items in
    let places = c.loop-place.marks.items in
    let place = c.loop-place.place in
    let kept = c.loop-place.kept in
    let moved = c.loop-place.invariant.moved in
    let within : place < length cells = omega (arith, c.args.cells.now.ok.0) in
    let nodes_size : length (nodes_of cells) ≡ length cells = length-map cells (λ (cell : Cell). cell.node) in
    let size : length marks ≡ length cells = c.requires.closed.size ∙ nodes_size in
    let places_size : length places ≡ length marks = moved.marks_size in
    let mark_at : c.index.result.now ≡ get_or places place 0 = get_or_read places place c.index.result.now (omega arith) c.index.ensures 0 in
    let some : 0 < get_or places place 0 = omega arith in
    let cell = c.index-in-loop-place.result.now in
    lo_placed marks cells now places place kept moved within size c.requires.small c.requires.order c.requires.closed cell c.index-in-loop-place.ensures some

pub renumber_children-requires-clause-hi : goal.renumber_children-requires-clause-hi
renumber_children-requires-clause-hi c =
    let marks = c.args.marks.now.items in
    let cells = c.args.cells.now.items in
    let now = c.loop-place.cells.items in
    let places = c.loop-place.marks.items in
    let place = c.loop-place.place in
    let kept = c.loop-place.kept in
    let moved = c.loop-place.invariant.moved in
    let within : place < length cells = omega (arith, c.args.cells.now.ok.0) in
    let nodes_size : length (nodes_of cells) ≡ length cells = length-map cells (λ (cell : Cell). cell.node) in
    let size : length marks ≡ length cells = c.requires.closed.size ∙ nodes_size in
    let places_size : length places ≡ length marks = moved.marks_size in
    let mark_at : c.index.result.now ≡ get_or places place 0 = get_or_read places place c.index.result.now (omega arith) c.index.ensures 0 in
    let some : 0 < get_or places place 0 = omega arith in
    let cell = c.index-in-loop-place.result.now in
    hi_placed marks cells now places place kept moved within size c.requires.small c.requires.order c.requires.closed cell c.index-in-loop-place.ensures some

pub index_mut-requires : goal.index_mut-requires
index_mut-requires c =
    let marks = c.args.marks.now.items in
    let cells = c.args.cells.now.items in
    let now = c.loop-place.cells.items in
    let places = c.loop-place.marks.items in
    let place = c.loop-place.place in
    let kept = c.loop-place.kept in
    let moved = c.loop-place.invariant.moved in
    let within : place < length cells = omega (arith, c.args.cells.now.ok.0) in
    let nodes_size : length (nodes_of cells) ≡ length cells = length-map cells (λ (cell : Cell). cell.node) in
    let size : length marks ≡ length cells = c.requires.closed.size ∙ nodes_size in
    let few : kept ≤ place = kept_within marks cells now places place kept moved within size in
    let now_size : length now ≡ length cells = moved.size in
    omega (arith, c.loop-place.cells.ok.0)

pub overflow_add-kept : goal.overflow_add-kept
overflow_add-kept c =
    let marks = c.args.marks.now.items in
    let cells = c.args.cells.now.items in
    let now = c.loop-place.cells.items in
    let places = c.loop-place.marks.items in
    let place = c.loop-place.place in
    let kept = c.loop-place.kept in
    let moved = c.loop-place.invariant.moved in
    let within : place < length cells = omega (arith, c.args.cells.now.ok.0) in
    let nodes_size : length (nodes_of cells) ≡ length cells = length-map cells (λ (cell : Cell). cell.node) in
    let size : length marks ≡ length cells = c.requires.closed.size ∙ nodes_size in
    let few : kept ≤ place = kept_within marks cells now places place kept moved within size in
    let small = c.requires.small in
    omega arith

pub overflow_cast-kept : goal.overflow_cast-kept
overflow_cast-kept c =
    let marks = c.args.marks.now.items in
    let cells = c.args.cells.now.items in
    let now = c.loop-place.cells.items in
    let places = c.loop-place.marks.items in
    let place = c.loop-place.place in
    let kept = c.loop-place.kept in
    let moved = c.loop-place.invariant.moved in
    let within : place < length cells = omega (arith, c.args.cells.now.ok.0) in
    let nodes_size : length (nodes_of cells) ≡ length cells = length-map cells (λ (cell : Cell). cell.node) in
    let size : length marks ≡ length cells = c.requires.closed.size ∙ nodes_size in
    let few : kept ≤ place = kept_within marks cells now places place kept moved within size in
    let small = c.requires.small in
    omega arith

pub loop-place-preserved : goal.loop-place-preserved
loop-place-preserved c =
    let marks = c.args.marks.now.items in
    let cells = c.args.cells.now.items in
    let now = c.loop-place.cells.items in
    let places = c.loop-place.marks.items in
    let place = c.loop-place.place in
    let kept = c.loop-place.kept in
    let moved = c.loop-place.invariant.moved in
    let within : place < length cells = omega (arith, c.args.cells.now.ok.0) in
    let nodes_size : length (nodes_of cells) ≡ length cells = length-map cells (λ (cell : Cell). cell.node) in
    let size : length marks ≡ length cells = c.requires.closed.size ∙ nodes_size in
    let places_size : length places ≡ length marks = moved.marks_size in
    let mark_at : c.index.result.now ≡ get_or places place 0 = get_or_read places place c.index.result.now (omega arith) c.index.ensures 0 in
    let some : 0 < get_or places place 0 = omega arith in
    let cell = c.index-in-loop-place.result.now in
    record {
      moved = one_moved marks cells now places place kept moved within size (was_marked marks cells now places place kept moved within size c.requires.small c.requires.order c.requires.closed cell c.index-in-loop-place.ensures some) _ (c.renumber_children.ensures ∙ node_placed marks cells now places place kept moved within size c.requires.small c.requires.order c.requires.closed cell c.index-in-loop-place.ensures some);
      room = c.loop-place.invariant.room;
      marks_room = c.loop-place.invariant.marks_room;
    }

pub returns-clause-kept : goal.returns-clause-kept
returns-clause-kept c =
    let marks = c.args.marks.now.items in
    let cells = c.args.cells.now.items in
    let end : c.loop-place.place ≡ length cells = omega (arith, c.args.cells.now.ok.0) in
    subst (λ l. Keeps marks (nodes_of cells) (nodes_of l)) (sym c.truncate.ensures.items)
    (all_moved marks cells c.loop-place.cells.items c.loop-place.marks.items c.loop-place.kept
    (subst (λ n. AreMoved marks cells c.loop-place.cells.items c.loop-place.marks.items n c.loop-place.kept) end c.loop-place.invariant.moved))

-- The children stand before the node, so the marks of later nodes' children stay right.
use Rattle.std.proofs.Common.{◌≡◌, ◌<◌, ◌+◌, get_or, slice_get, Some, sym, subst, arith}
use Rattle.std.proofs.lemmas.List.{get_or_read}
use Rattle.dd_nodes.specs.Arena.{nodes_of}
use Rattle.dd_nodes.proofs.Chains.{node_read}
use Rattle.dd_nodes.proofs.Marking.{IsMarked, is_marked, marked_closed}
use Rattle.dd_nodes.proofs.collect.mark_children.Goals as goal

pub mark-requires : goal.mark-requires
mark-requires c =
    let cell = c.index-then-index-ne0.result.now in
    let before : cell.node.lo.0 < c.args.place + 2 =
    c.requires.order.lo_before c.args.place cell.node (node_read c.args.cells.now.items c.args.place cell c.requires.within c.index-then-index-ne0.ensures) in
    omega arith

pub mark-requires-then-index-ne0 : goal.mark-requires-then-index-ne0
mark-requires-then-index-ne0 c =
    let cell = c.index-then-index-ne0.result.now in
    let before : cell.node.hi.0 < c.args.place + 2 =
    c.requires.order.hi_before c.args.place cell.node (node_read c.args.cells.now.items c.args.place cell c.requires.within c.index-then-index-ne0.ensures) in
    omega arith

pub returns-then-index-ne0-clause-marks : goal.returns-then-index-ne0-clause-marks
returns-then-index-ne0-clause-marks c roots are =
    let marks = c.args.marks.now.items in
    let place = c.args.place in
    let cell = c.index-then-index-ne0.result.now in
    let node = cell.node in
    let first = c.mark.new.marks.items in
    let there : slice_get (nodes_of c.args.cells.now.items) place ≡ Some node = node_read c.args.cells.now.items place cell c.requires.within c.index-then-index-ne0.ensures in
    let mark_at : c.index.result.now ≡ get_or marks place 0 = get_or_read marks place c.index.result.now (omega arith) c.index.ensures 0 in
    let lo_before : node.lo.0 < place + 2 = c.requires.order.lo_before place node there in
    let hi_before : node.hi.0 < place + 2 = c.requires.order.hi_before place node there in
    marked_closed (nodes_of c.args.cells.now.items) c.requires.order roots marks place node there (omega arith)
    first (subst (λ l. IsMarked marks l node.lo.0) (sym c.mark.ensures.marks) (is_marked marks node.lo.0 (omega arith)))
    c.mark-then-index-ne0.new.marks.items
    (subst (λ l. IsMarked first l node.hi.0) (sym c.mark-then-index-ne0.ensures.marks) (is_marked first node.hi.0 (omega arith)))
    are

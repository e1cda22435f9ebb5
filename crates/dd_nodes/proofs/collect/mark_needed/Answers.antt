-- One root more, and one node more.
use Rattle.std.proofs.Common.{◌≡◌, ◌<◌, ◌≤◌, ◌+◌, ◌-◌, ◌∙◌, length, get_or, take, ap, sym, subst, arith}
use Rattle.std.proofs.lemmas.List.{take_more}
use Rattle.dd_nodes.specs.declared.node.Ref.{Ref}
use Rattle.dd_nodes.specs.Arena.{nodes_of}
use Rattle.dd_nodes.specs.Collecting.{AreMarks, with_mark}
use Rattle.dd_nodes.proofs.Marking.{IsMarked, is_marked, root_marked, no_ref}
use Rattle.dd_nodes.proofs.collect.mark_needed.Goals as goal

pub loop-root-preserved : goal.loop-root-preserved
loop-root-preserved c =
    let roots = c.args.roots.now.items in
    let nodes = nodes_of c.args.cells.now.items in
    let marks = c.loop-root.marks.items in
    let i = c.loop-root.root-index in
    let within : i < length roots = omega arith in
    let in_list : (get_or roots i no_ref).0 < length nodes + 2 = c.requires.roots i no_ref within in
    let same : get_or c.deref-root-items.result.now i no_ref ≡ get_or roots i no_ref = ap (λ l. get_or l i no_ref) c.deref-root-items.ensures.value in
    let size : length marks ≡ length nodes = c.loop-root.invariant.marks.size in
    record {
      marks = subst (λ l. AreMarks nodes l c.mark.new.marks.items (length nodes)) (sym (take_more roots i no_ref within))
          (root_marked nodes (take i roots) marks (get_or roots i no_ref) c.mark.new.marks.items
          (subst (λ l. IsMarked marks l (get_or roots i no_ref).0) (sym (c.mark.ensures.marks ∙ ap (λ (r : Ref). with_mark marks r.0) same)) (is_marked marks (get_or roots i no_ref).0 (omega arith)))
          c.loop-root.invariant.marks);
      room = c.mark.ensures.room ∙ c.loop-root.invariant.room;
    }

pub loop-place-preserved : goal.loop-place-preserved
loop-place-preserved c =
    let place = c.loop-place.place in
    let below : place ≤ length c.args.cells.now.items = c.loop-place.invariant.within in
    let back : place ≡ place - 1 + 1 = omega arith in
    record {
      within = omega arith;
      marks = c.mark_children.ensures.marks c.args.roots.now.items
          (subst (AreMarks (nodes_of c.args.cells.now.items) c.args.roots.now.items c.loop-place.marks.items) back c.loop-place.invariant.marks);
      room = c.mark_children.ensures.room ∙ c.loop-place.invariant.room;
    }

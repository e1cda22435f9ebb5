-- The marks say what is kept, and the places what the roots are.
use Rattle.std.proofs.Common.{◌≡◌, ◌∙◌, ◌<◌, ◌≤◌, ◌+◌, length, get_or, sym, subst, arith}
use Rattle.std.proofs.lemmas.List.{length-map}
use Rattle.dd_nodes.specs.Arena.{nodes_of}
use Rattle.dd_nodes.specs.Collecting.{Keeps}
use Rattle.dd_nodes.specs.declared.arena.Cell.{Cell}
use Rattle.dd_nodes.proofs.Moving.{root_place, roots_by}
use Rattle.dd_nodes.proofs.collect.keep_needed.Goals as goal

pub renumber_roots-requires : goal.renumber_roots-requires
renumber_roots-requires c k d within =
    let cells = c.args.cells.now.items in
    let marks = c.mark_needed.new.marks.items in
    let nodes_size : length (nodes_of cells) ≡ length cells = length-map cells (λ (cell : Cell). cell.node) in
    let few : length cells ≤ 16777216 = omega arith in
    let size : length marks ≡ length (nodes_of cells) = c.mark_needed.ensures.marks.size in
    root_place marks c.move_down.new.marks.items c.move_down.ensures.places c.move_down.ensures.size (omega arith) (get_or c.args.roots.now.items k d).0
    (subst (λ n. (get_or c.args.roots.now.items k d).0 < n + 2) (sym size) (c.requires.roots k d within))
    (c.mark_needed.ensures.marks.roots_have k d within)

pub returns-clause-collection : goal.returns-clause-collection
returns-clause-collection c = record {
  marks = c.mark_needed.new.marks.items;
  needed = c.mark_needed.ensures.marks;
  kept = subst (Keeps c.mark_needed.new.marks.items (nodes_of c.args.cells.now.items)) (sym c.chain_anew.ensures.nodes) c.move_down.ensures.kept;
  roots = c.renumber_roots.ensures
      ∙ roots_by c.mark_needed.new.marks.items c.move_down.new.marks.items c.move_down.ensures.places c.args.roots.now.items c.mark_needed.ensures.marks.roots_have;
}

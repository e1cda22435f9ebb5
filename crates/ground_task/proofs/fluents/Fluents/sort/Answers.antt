use Rattle.std.proofs.Common.{List, length, ap, ◌∙◌}
use Rattle.pddl_ast.specs.Trees.{AtomTree}
use Rattle.pddl_system.specs.GroundAtoms.{is_among}
use Rattle.ground_task.proofs.OrderLemmas.{trees_count, trees_differ, trees_same, trees_sorted}
use Rattle.ground_task.proofs.fluents.Fluents.sort.Goals as goal

pub returns-clause-sorted : goal.returns-clause-sorted
returns-clause-sorted c = trees_sorted c.sort.new.self.keys c.in_ok-sort.ensures.sorted

pub returns-clause-differ : goal.returns-clause-differ
returns-clause-differ c = trees_differ c.sort.new.self.keys c.in_ok-sort.ensures.unique

pub returns-clause-same : goal.returns-clause-same
returns-clause-same c = λ a. trees_same c.self.inside.atoms.keys c.sort.new.self.keys a c.in_ok-sort.ensures.reordered.0 ∙ ap (λ (l : List AtomTree). is_among l a) c.self.view_is

pub returns-clause-count : goal.returns-clause-count
returns-clause-count c = trees_count c.self.inside.atoms.keys c.sort.new.self.keys c.in_ok-sort.ensures.reordered.0 ∙ ap (λ (l : List AtomTree). length l) c.self.view_is

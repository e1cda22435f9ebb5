use Rattle.std.proofs.Common.{List, ap, ◌∙◌}
use Rattle.ground_instances.specs.Atoms.{atom_tree}
use Rattle.pddl_ast.specs.Trees.{AtomTree}
use Rattle.pddl_system.specs.States.{fluent_number}
use Rattle.ground_task.proofs.AtomLemmas.{atom_number}
use Rattle.ground_task.proofs.fluents.Fluents.number_of.Goals as goal

pub returns-in-Some : goal.returns-in-Some
returns-in-Some c =
    c.in-Some.ensures.index ∙ atom_number c.args.atom.now c.self.inside.atoms.keys
    ∙ ap (λ (atoms : List AtomTree). fluent_number atoms (atom_tree c.args.atom.now)) c.self.view_is

pub returns-in-None : goal.returns-in-None
returns-in-None c =
    c.in-None.ensures.index ∙ atom_number c.args.atom.now c.self.inside.atoms.keys
    ∙ ap (λ (atoms : List AtomTree). fluent_number atoms (atom_tree c.args.atom.now)) c.self.view_is

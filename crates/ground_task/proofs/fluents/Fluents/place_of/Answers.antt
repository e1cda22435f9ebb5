use Rattle.std.proofs.Common.{◌∙◌}
use Rattle.ground_instances.specs.Atoms.{atom_tree}
use Rattle.pddl_system.specs.GroundAtoms.{same_atom}
use Rattle.ground_task.proofs.AtomLemmas.{no_place}
use Rattle.ground_task.proofs.fluents.Fluents.place_of.Goals as goal

pub returns-in-None : goal.returns-in-None
returns-in-None c = c.len.ensures.count ∙ no_place (same_atom (atom_tree c.args.atom.now)) c.args.self.now c.in-None.ensures

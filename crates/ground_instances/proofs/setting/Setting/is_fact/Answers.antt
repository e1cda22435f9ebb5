use Rattle.std.proofs.Common.{ap, ◌∙◌}
use Rattle.ground_instances.specs.Atoms.{atom_tree}
use Rattle.pddl_system.specs.GroundAtoms.{is_among}
use Rattle.ground_instances.specs.Tables.{Tables}
use Rattle.ground_instances.proofs.SameAtoms.{among_trees}
use Rattle.ground_instances.proofs.setting.Setting.is_fact.Goals as goal

pub returns : goal.returns
returns c =
    c.contains.ensures ∙ among_trees c.args.atom.now c.self.inside.facts.keys
    ∙ ap (λ (t : Tables). is_among t.facts (atom_tree c.args.atom.now)) c.self.view_is

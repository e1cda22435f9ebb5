use Rattle.ground_instances.specs.Atoms.{atom_tree}
use Rattle.pddl_ast.specs.Values.{domain_value, problem_value}
use Rattle.ground_task.proofs.WordLemmas.{atom_words}
use Rattle.ground_task.proofs.names.fluent_name.Goals as goal

pub returns : goal.returns
returns c =
    rw (c.in_ok-with_objects.ensures, c.in_ok-first.ensures, c.deref.ensures.value, c.deref-2.ensures.value, c.deref-3.ensures)
    (atom_words (domain_value c.args.naming.now.domain.now) (problem_value c.args.naming.now.problem.now) c.args.naming.now.words.now c.requires (atom_tree c.args.atom.now))

use Rattle.ground_task.specs.Numbered.{instance_with}
use Rattle.pddl_ast.specs.Values.{domain_value, problem_value, schema_value}
use Rattle.ground_task.proofs.WordLemmas.{instance_words}
use Rattle.ground_task.proofs.names.action_name.Goals as goal

pub returns : goal.returns
returns c =
    rw (c.in_ok-with_objects.ensures, c.in_ok-first.ensures, c.deref.ensures.value, c.deref-2.ensures.value, c.deref-3.ensures, c.requires.first)
    (instance_words (domain_value c.args.naming.now.domain.now) (problem_value c.args.naming.now.problem.now) c.args.naming.now.words.now c.requires.words (instance_with (schema_value c.args.schema.now) c.args.instance.now))

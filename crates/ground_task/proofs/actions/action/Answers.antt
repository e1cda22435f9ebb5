use Rattle.pddl_ast.specs.Values.{domain_value, problem_value, schema_value}
use Rattle.ground_task.specs.Numbered.{instance_with}
use Rattle.ground_task.proofs.NumberedLemmas.{picked}
use Rattle.ground_task.proofs.WordLemmas.{action_word}
use Rattle.ground_task.proofs.actions.action.Goals as goal

pub action_name-requires-clause-first : goal.action_name-requires-clause-first
action_name-requires-clause-first c =
    let naming = c.args.naming.now in
    let d = domain_value naming.domain.now in
    let s = schema_value c.schema_of-schema.result.now in
    let item = c.args.draft.now.instance.now in
    let there = picked item.objects.items d.actions item.action (instance_with s item) c.schema_of-schema.ensures in
    action_word d (problem_value naming.problem.now) naming.words.now c.requires.words item.action s there.0 there.1

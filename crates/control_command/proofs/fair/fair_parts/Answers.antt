use Rattle.std.proofs.Common.{inr, rules}
use Rattle.pddl_ast.specs.Values.{domain_value, problem_value}
use Rattle.control_command.specs.Values.{fair_words_of}
use Rattle.control_command.proofs.FairAnswers.{many_fairly, ready_fairly}
use Rattle.control_command.proofs.fair.fair_parts.Goals as goal

pub returns-then-not-has_few_parts : goal.returns-then-not-has_few_parts
returns-then-not-has_few_parts c =
    let s = c.args.sought.now in
    inr (many_fairly (fair_words_of s.asked.now) (domain_value s.domain.now) (problem_value s.problem.now) c.args.goal.now c.requires.stands c.args.grounded.task c.requires.of_task
    (search rules) _ (search rules))

pub fair_tried-requires : goal.fair_tried-requires
fair_tried-requires c =
    ready_fairly c.args.sought.now _ c.args.grounded.task c.in_ok-made.made c.with_goal-judged.ensures c.in_ok-made.ensures (search rules) c.requires

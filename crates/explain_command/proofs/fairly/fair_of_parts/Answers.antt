use Rattle.std.proofs.Common.{inr, refl}
use Rattle.fair_theory.specs.FairGoals.{most_fair_stages, stage_count}
use Rattle.ctl_syntax.specs.GoalValues.{tree_of_goal}
use Rattle.explain_command.proofs.Fairness.{many_stages}
use Rattle.fair_theory.proofs.NamesBelow.{translated_names}
use Rattle.explain_command.proofs.fairly.fair_of_parts.Goals as goal

pub returns-then-not-has_few_stages-clause-refused : goal.returns-then-not-has_few_stages-clause-refused
returns-then-not-has_few_stages-clause-refused c =
    inr (record {
      goal = c.args.goal.now;
      is_given = refl;
      parts = c.args.parts.now;
      has_parts = c.requires.parts;
      many = many_stages c.has_few_stages.result (stage_count (tree_of_goal c.args.parts.now)) most_fair_stages c.has_few_stages.ensures c.if-not-has_few_stages.true;
      refused = refl;
    })

pub returns-clause-names : goal.returns-clause-names
returns-clause-names c = λ n names. translated_names n c.args.parts.now c.in_ok-fair_goal.field-0 c.in_ok-fair_goal.ensures names

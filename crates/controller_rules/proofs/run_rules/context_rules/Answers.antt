use Rattle.std.proofs.Common.{subst}
use Rattle.plan_document.specs.Faithful.{IsOneNext}
use Rattle.plan_rules.specs.Rules.{next_of}
use Rattle.plan_rules.specs.declared.rules.Next.{Next}
use Rattle.controller_rules.proofs.Marking.{not_told}
use Rattle.controller_rules.proofs.run_rules.context_rules.Goals as goal

pub returns-in-Cases-clause-none : goal.returns-in-Cases-clause-none
returns-in-Cases-clause-none c =
    not_told c.args.rules.now c.loop-rule.rule-index c.rule-item.result c.loop-rule-test.true c.rule-item.is (λ one. subst (λ (next : Next). IsOneNext (next_of next)) c.in-Cases.is one)

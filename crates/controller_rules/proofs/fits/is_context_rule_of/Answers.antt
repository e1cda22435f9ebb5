use Rattle.std.proofs.Common.{rules, subst}
use Rattle.plan_rules.specs.Plans.{IsCubeOf}
use Rattle.controller_rules.proofs.fits.is_context_rule_of.Goals as goal

pub returns-then-is_context_of : goal.returns-then-is_context_of
returns-then-is_context_of c = λ is.
    record {
      context = c.is_context_of.ensures c.if-is_context_of.true;
      cube = subst (IsCubeOf c.args.fluents) c.deref.ensures.value (c.is_cube_of.ensures c.if-not-is_cube_of.false);
      action = search rules;
      next = c.is_next_of.ensures c.args.fluents is;
    }

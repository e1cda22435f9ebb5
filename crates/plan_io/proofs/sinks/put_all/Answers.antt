use Rattle.std.proofs.Common.{arith, ap, length, ◌∙◌}
use Rattle.plan_io.proofs.Written.{written_more, taken_within}
use Rattle.plan_io.proofs.sinks.put_all.Goals as goal

pub loop-taken-preserved : goal.loop-taken-preserved
loop-taken-preserved g c = record {
  within = taken_within _ _ _ c.loop-taken.invariant.within c.in-Ok.ensures.within;
  written = written_more _ _ _ _ _ _ c.loop-taken.invariant.written c.in-Ok.ensures.taken;
  quiet = c.in-Ok.ensures.quiet ∙ c.loop-taken.invariant.quiet;
  empty = λ none. absurd (omega (arith, ap length none));
}

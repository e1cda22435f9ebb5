use Rattle.std.proofs.Common.{sym, ◌∙◌}
use Rattle.std.proofs.lemmas.Bool.{false≢true}
use Rattle.ctl_syntax.specs.Values.{ctl_value}
use Rattle.goal_witness.proofs.witnesses.goal_witness.Goals as goal

pub returns-then-not-goes_on-clause-none : goal.returns-then-not-goes_on-clause-none
returns-then-not-goes_on-clause-none c = λ misses.
    absurd (false≢true (sym c.if-not-goes_on.true ∙ c.goes_on.ensures.complete c.args.task.now (ctl_value c.args.goal.now) c.requires.graph misses))

pub witness_in-requires-clause-scene : goal.witness_in-requires-clause-scene
witness_in-requires-clause-scene c = record {
  plan = c.requires.plan;
  graph = c.requires.graph;
  within = c.requires.within;
  followers = c.goes_on.ensures.followers c.args.task.now c.requires.graph c.if-not-goes_on.false;
}

-- The rules from the place on.
use Rattle.std.specs.Prelude.{drop}
use Rattle.controller_code.specs.FirstMoves.{DecidesFirst}
use Rattle.controller_code.specs.Steps.{AreKept}
use Rattle.controller_code.proofs.steps.Steps.add_rules.Given as goal

abbrev pub invariant-loop-place : goal.invariant-loop-place
invariant-loop-place l = record {
  kept : AreKept l.fn.self.list.items l.self.list.items;
  decides : DecidesFirst l.self.list.items l.rest (drop l.place l.rules);
}

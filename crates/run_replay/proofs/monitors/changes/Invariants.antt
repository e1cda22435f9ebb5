use Rattle.std.specs.Prelude.{◌≡◌, ◌≤◌}
use Rattle.run_replay.specs.Changes.{differences_below}
use Rattle.run_replay.proofs.monitors.changes.Given as goal

abbrev pub invariant-loop-f : goal.invariant-loop-f
invariant-loop-f l = record {
  counted : l.count ≡ differences_below l.f l.before l.after;
  few : l.count ≤ l.f;
}

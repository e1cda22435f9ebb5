use Rattle.std.proofs.Common.{◌≡◌, ◌-◌, ◌≤◌, [], length, take}
use Rattle.std.specs.Io.KnownBytes.{append_known}
use Rattle.plan_io.proofs.sinks.put_all.Given as goal

abbrev pub invariant-loop-taken : goal.invariant-loop-taken
invariant-loop-taken g l = record {
  within : l.taken ≤ length l.bytes;
  written : g.O.Sink.written l.sink ≡ append_known (g.O.Sink.written l.initial.sink) (take l.taken l.bytes);
  quiet : g.O.Sink.faults l.sink ≡ g.O.Sink.faults l.initial.sink;
  empty : l.bytes ≡ [] → l.sink ≡ l.initial.sink;
}

abbrev pub decreases-loop-taken : goal.decreases-loop-taken
decreases-loop-taken g l = length l.bytes - l.taken

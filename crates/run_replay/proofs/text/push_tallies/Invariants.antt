use Rattle.std.specs.Prelude.{◌≡◌, ◌++◌, map, take}
use Rattle.run_replay.specs.TraceTexts.{tally_lines}
use Rattle.run_replay.proofs.text.push_tallies.Given as goal

-- the lines of the monitors so far
abbrev pub invariant-loop-monitor : goal.invariant-loop-monitor
invariant-loop-monitor g l =
    l.out.items ≡ l.fn.out.items ++ tally_lines
    (map (λ monitor. (goal.Monitor-dyn g (monitor.vtable, monitor.value)).shown monitor.value) (take l.monitor-index l.monitors))

-- The lines of the steps so far.
use Rattle.std.proofs.Common.{◌≡◌, ◌++◌, string_bytes, take}
use Rattle.std.specs.List.{flat_map}
use Rattle.counterexamples.specs.Values.{source_value}
use Rattle.task_core.specs.Tasks.{fluent_count}
use Rattle.trace.specs.Texts.{made_lines}
use Rattle.trace.specs.Values.{mades_value}
use Rattle.trace.proofs.texts.push_mades.Given as goal

abbrev pub invariant-loop-made : goal.invariant-loop-made
invariant-loop-made l =
    string_bytes l.out ≡ string_bytes l.fn.out ++ flat_map (made_lines (source_value l.source)) (mades_value (fluent_count l.source.task.now) (take l.made-index l.steps))

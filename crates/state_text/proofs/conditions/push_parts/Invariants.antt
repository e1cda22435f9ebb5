-- The text so far, and the parts that are left, are together the whole.
use Rattle.std.proofs.Common.{◌≡◌, ◌++◌, drop, map, string_bytes}
use Rattle.task_core.specs.Tasks.{fluent_names}
use Rattle.state_text.specs.Texts.{conditions_text}
use Rattle.state_text.proofs.conditions.push_parts.Given as goal

abbrev pub invariant-loop-part : goal.invariant-loop-part
invariant-loop-part l =
    string_bytes l.out ++ conditions_text (fluent_names l.task) (map (λ part. part.now) (drop l.part-index l.parts))
    ≡ string_bytes l.fn.out ++ conditions_text (fluent_names l.task) (map (λ part. part.now) l.parts)

-- The text so far, and the lines of the literals that are left, are together the whole.
use Rattle.std.proofs.Common.{◌≡◌, ◌++◌, drop, string_bytes}
use Rattle.relaxed_reach.specs.Literals.{has}
use Rattle.never_executed.specs.Texts.{reasons_text}
use Rattle.never_executed.proofs.texts.push_reasons.Given as goal

abbrev pub invariant-loop-lit : goal.invariant-loop-lit
invariant-loop-lit l =
    string_bytes l.out ++ reasons_text l.relaxed.task.now (has l.relaxed.literals.now) (drop l.lit-index l.lits)
    ≡ string_bytes l.fn.out ++ reasons_text l.relaxed.task.now (has l.relaxed.literals.now) l.lits

use Rattle.std.proofs.Common.{◌≡◌}
use Rattle.answer_help.specs.FaultHelp.{after_lines}
use Rattle.answer_help.proofs.fault_texts.after_lines.Given as goal

abbrev pub invariant-loop-line : goal.invariant-loop-line
invariant-loop-line l = l.rest ≡ after_lines l._line l.text

-- The loop goes on while each part so far passes.
use Rattle.std.proofs.Common.{◌≡◌, drop, map}
use Rattle.std.specs.List.{list_all}
use Rattle.std.specs.Rc.{rc_str_bytes}
use Rattle.task_core.specs.Checks.{name_passes, word_passes}
use Rattle.task_core.proofs.checks.name_passes.Given as goal

abbrev pub invariant-loop-word : goal.invariant-loop-word
invariant-loop-word l = list_all word_passes (map rc_str_bytes (drop l.word-index l.words)) ≡ name_passes (map rc_str_bytes l.words)

-- The loop goes on while each part so far passes.
use Rattle.std.proofs.Common.{◌≡◌, drop}
use Rattle.std.specs.List.{list_all}
use Rattle.task_core.specs.Names.{is_name_byte}
use Rattle.task_core.specs.Checks.{word_passes}
use Rattle.task_core.proofs.checks.word_passes.Given as goal

abbrev pub invariant-loop-c : goal.invariant-loop-c
invariant-loop-c l = list_all is_name_byte (drop l.c-index l.c-items) ≡ word_passes l.text

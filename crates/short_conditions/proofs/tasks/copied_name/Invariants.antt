use Rattle.std.proofs.Common.{◌≡◌, map, take}
use Rattle.std.specs.Rc.{rc_str_bytes}
use Rattle.task_core.specs.Names.{name_bytes}
use Rattle.short_conditions.proofs.tasks.copied_name.Given as goal

abbrev pub invariant-loop-word : goal.invariant-loop-word
invariant-loop-word l = name_bytes l.copy ≡ map rc_str_bytes (take l.word-index l.name)

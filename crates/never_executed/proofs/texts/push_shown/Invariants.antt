-- The text so far, and the lines of the outcomes that are left, are together the whole.
use Rattle.std.proofs.Common.{◌≡◌, ◌++◌, drop, map, string_bytes}
use Rattle.std.specs.List.{flat_map}
use Rattle.relaxed_reach.specs.Literals.{has}
use Rattle.never_executed.specs.Texts.{maker_line}
use Rattle.never_executed.specs.Values.{maker_value}
use Rattle.never_executed.proofs.texts.push_shown.Given as goal

abbrev pub invariant-loop-maker : goal.invariant-loop-maker
invariant-loop-maker l =
    string_bytes l.out ++ flat_map (maker_line l.relaxed.task.now (has l.relaxed.literals.now) l.lit) (map maker_value (drop l.maker-index l.makers))
    ≡ string_bytes l.fn.out ++ flat_map (maker_line l.relaxed.task.now (has l.relaxed.literals.now) l.lit) (map maker_value l.makers)

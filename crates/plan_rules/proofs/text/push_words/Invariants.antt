use Rattle.std.proofs.Common.{◌≡◌, ◌++◌, map, take, string_bytes}
use Rattle.std.specs.Rc.{rc_str_bytes}
use Rattle.plan_rules.specs.Texts.{spaced}
use Rattle.plan_rules.proofs.text.push_words.Given as goal

abbrev pub invariant-loop-i : goal.invariant-loop-i
invariant-loop-i l = string_bytes l.out ≡ string_bytes l.fn.out ++ spaced (map rc_str_bytes (take l.i l.words))

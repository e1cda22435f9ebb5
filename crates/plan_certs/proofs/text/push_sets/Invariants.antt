use Rattle.std.proofs.Common.{◌≡◌, ◌++◌, map, take, string_bytes}
use Rattle.std.specs.List.{flat_map}
use Rattle.task_core.specs.Names.{name_bytes}
use Rattle.plan_certs.specs.Named.{set_of}
use Rattle.plan_certs.specs.Texts.{set_text}
use Rattle.plan_certs.proofs.text.push_sets.Given as goal

abbrev pub invariant-loop-set : goal.invariant-loop-set
invariant-loop-set l =
    string_bytes l.out ≡ string_bytes l.fn.out ++ flat_map (set_text (map name_bytes l.fluents)) (map set_of (take l.set-index l.sets))

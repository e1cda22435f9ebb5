-- The text so far, and the names of the members that are left, are together the whole.
use Rattle.std.proofs.Common.{◌≡◌, ◌++◌, drop, map, string_bytes}
use Rattle.std.specs.List.{flat_map}
use Rattle.lint_hints.specs.Sentences.{member_text}
use Rattle.task_core.specs.Names.{name_bytes}
use Rattle.lint_hints.proofs.sentences.push_members.Given as goal

abbrev pub invariant-loop-member : goal.invariant-loop-member
invariant-loop-member l =
    string_bytes l.out ++ flat_map (member_text (map name_bytes l.fluents)) (drop l.member-index l.members)
    ≡ string_bytes l.fn.out ++ flat_map (member_text (map name_bytes l.fluents)) l.members

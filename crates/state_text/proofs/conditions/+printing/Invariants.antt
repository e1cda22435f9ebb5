-- The text so far, and what is left of the conditions, are together the whole.
use Rattle.std.proofs.Common.{◌≡◌, ◌++◌, drop, map, string_bytes}
use Rattle.std.specs.List.{flat_map}
use Rattle.task_core.specs.Names.{name_bytes}
use Rattle.state_text.specs.Texts.{after_space, condition_text}
use Rattle.state_text.proofs.conditions.+printing.Given as goal

abbrev pub invariant-push_conditions-loop-cond : goal.invariant-push_conditions-loop-cond
invariant-push_conditions-loop-cond l =
    string_bytes l.out ++ flat_map after_space (map (condition_text (map name_bytes l.fluents)) (drop l.cond-index l.conds))
    ≡ string_bytes l.fn.out ++ flat_map after_space (map (condition_text (map name_bytes l.fluents)) l.conds)

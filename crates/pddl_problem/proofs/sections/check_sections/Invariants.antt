use Rattle.std.proofs.Common.{◌≡◌, drop}
use Rattle.sexpr_text.specs.Forest.{forest_of}
use Rattle.pddl_problem.specs.Sections.{none_seen, sections_flaws}
use Rattle.pddl_problem.proofs.sections.check_sections.Given as goal

abbrev pub invariant-loop-item : goal.invariant-loop-item
invariant-loop-item l =
    sections_flaws none_seen (forest_of l.items) ≡ sections_flaws l.seen (forest_of (drop l.item-index l.items))

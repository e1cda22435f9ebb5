use Rattle.std.proofs.Common.{◌≡◌, drop}
use Rattle.sexpr_text.specs.Forest.{forest_of}
use Rattle.pddl_domain.specs.Sections as specs
use Rattle.pddl_domain.proofs.sections.check_sections.Given as goal

abbrev pub invariant-loop-form : goal.invariant-loop-form
invariant-loop-form l =
    specs.sections_flaws specs.none_came (forest_of l.sections) ≡ specs.sections_flaws l.seen (forest_of (drop l.form-index l.sections))

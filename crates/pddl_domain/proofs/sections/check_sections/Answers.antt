use Rattle.std.proofs.Common.{◌≡◌, List, Some, ◌+◌, drop, ◌++◌, sym, ◌∙◌, ap, subst}
use Rattle.std.proofs.lemmas.Result.{err_from_is_err_and}
use Rattle.sexpr_text.specs.Flaws.{Flaw, first_listed}
use Rattle.sexpr_text.specs.Forest.{Forest, group, forest_of}
use Rattle.sexpr_text.specs.Passes.{IfFault}
use Rattle.pddl_domain.specs.declared.sections.Section.{Section}
use Rattle.pddl_domain.specs.Sections as specs
use Rattle.pddl_domain.proofs.ListLemmas.{next_group}
use Rattle.pddl_domain.proofs.PassLemmas.{fault-earlier}
use Rattle.pddl_domain.proofs.sections.check_sections.Goals as goal

pub returns-in_err-check_kind-in-Word-head_of-clause-fault : goal.returns-in_err-check_kind-in-Word-head_of-clause-fault
returns-in_err-check_kind-in-Word-head_of-clause-fault c =
    let x = c.in_err-check_kind-in-Word-head_of in
    let k = c.loop-form.form-index in
    let seen = c.loop-form.seen in
    let span = c.in-Group.span in
    let w = c.in-Word-head_of.head.now in
    let items = forest_of c.in-Word-head_of.rest.now in
    let kind = c.section_kind-section.result in
    let rest = forest_of (drop (k + 1) c.args.sections.now) in
    let later = specs.sections_flaws (specs.seen_after seen (specs.section_kind w)) rest in
    let next = next_group c.args.sections.now k c.form-item.result span c.in-Group.parts.now c.loop-form-test.true c.form-item.is c.in-Group.ensures in
    let all : specs.sections_flaws specs.none_came (forest_of c.args.sections.now) ≡ specs.kind_flaws seen span w items kind ++ later =
    c.loop-form.invariant
    ∙ (ap (specs.sections_flaws seen) next
    ∙ (ap (λ (parts : Forest). specs.sections_flaws seen (group span parts rest)) c.in-Word-head_of.ensures
    ∙ ap (λ (s : Section). specs.kind_flaws seen span w items s ++ later) (sym c.section_kind-section.ensures))) in
    let P : List Flaw → Type 0 = λ flaws. IfFault x.field-0.0 (λ f. first_listed flaws ≡ Some f) in
    let p = err_from_is_err_and c.from_residual.result c.from_residual.ensures.1 in
    rw (p.1, p.2) (subst P (sym all) (fault-earlier (specs.kind_flaws seen span w items kind) later x.field-0.0 x.ensures.fault))

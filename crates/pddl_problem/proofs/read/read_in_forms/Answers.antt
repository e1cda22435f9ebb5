use Rattle.std.proofs.Common.{◌≡◌, Some, None, ap, sym, subst, ◌∙◌}
use Rattle.std.specs.Option.{option_map}
use Rattle.std.proofs.lemmas.Result.{err_from_is_err_and}
use Rattle.sexpr_text.specs.Flaws.{fault_of_passes}
use Rattle.sexpr_text.specs.Forest.{forest_of}
use Rattle.sexpr_text.specs.Passes.{IfFault}
use Rattle.pddl_ast.specs.Environment.{known_value}
use Rattle.pddl_ast.specs.Fits.{FitsProblem, known_in}
use Rattle.pddl_ast.specs.Known.{Known}
use Rattle.pddl_ast.specs.Trees.{DomainTree}
use Rattle.pddl_ast.specs.Values.{domain_value}
use Rattle.pddl_problem.specs.Listed.{listed_fault}
use Rattle.pddl_problem.specs.Problems.{Definition, definition_passes, problem_passes, problem_of}
use Rattle.pddl_problem.specs.Values.{definition_value}
use Rattle.pddl_problem.proofs.Fitting.{definition-found, problem-fits}
use Rattle.pddl_problem.proofs.Ordered.{problem-fault, no_definition-fault}
use Rattle.pddl_problem.proofs.PassLemmas.{fault-along}
use Rattle.pddl_problem.proofs.WordNames.{read_words}
use Rattle.pddl_problem.proofs.read.read_in_forms.Goals as goal

pub returns-in_default-clause-fault : goal.returns-in_default-clause-fault
returns-in_default-clause-fault c =
    rw c.no_define.ensures (no_definition-fault (domain_value c.args.domain.now) (forest_of c.args.forms.now) c.in_default.ensures)

pub returns-in_err-problem-clause-fault : goal.returns-in_err-problem-clause-fault
returns-in_err-problem-clause-fault c =
    let domain : DomainTree = domain_value c.args.domain.now in
    let forest = forest_of c.args.forms.now in
    let d : Definition = definition_value c.in-Some.definition in
    let e = problem-fault domain forest d c.requires.rising c.in-Some.ensures in
    let x = c.in_err-problem in
    let P : Known → Type 0 = λ known. IfFault x.field-0.0 (λ f. listed_fault (definition_passes domain.name known d) ≡ Some f) in
    let here : P (known_in domain) = subst P c.in_ok-known.ensures x.ensures.fault in
    let p = err_from_is_err_and c.from_residual-in_err-problem.result c.from_residual-in_err-problem.ensures.1 in
    rw (p.1, p.2) (fault-along (fault_of_passes (problem_passes domain forest)) (listed_fault (definition_passes domain.name (known_in domain) d)) x.field-0.0 e here)

pub returns-clause-sound : goal.returns-clause-sound
returns-clause-sound c =
    let domain : DomainTree = domain_value c.args.domain.now in
    let d : Definition = definition_value c.in-Some.definition in
    problem-fault domain (forest_of c.args.forms.now) d c.requires.rising c.in-Some.ensures
    ∙ (ap (λ (known : Known). listed_fault (definition_passes domain.name known d)) (sym c.in_ok-known.ensures) ∙ c.in_ok-problem.ensures.sound)

pub returns-clause-read : goal.returns-clause-read
returns-clause-read c =
    let domain : DomainTree = domain_value c.args.domain.now in
    let d : Definition = definition_value c.in-Some.definition in
    ap (option_map (problem_of (known_in domain))) (sym c.in-Some.ensures)
    ∙ (ap (λ (known : Known). Some (problem_of known d)) (sym c.in_ok-known.ensures) ∙ ap Some (sym c.in_ok-problem.ensures.read))

pub returns-clause-fits : goal.returns-clause-fits
returns-clause-fits c =
    let domain : DomainTree = domain_value c.args.domain.now in
    let forest = forest_of c.args.forms.now in
    let d : Definition = definition_value c.in-Some.definition in
    let known : known_value c.in_ok-known.known ≡ known_in domain = c.in_ok-known.ensures in
    let none : listed_fault (definition_passes domain.name (known_in domain) d) ≡ None =
    ap (λ (k : Known). listed_fault (definition_passes domain.name k d)) (sym known) ∙ c.in_ok-problem.ensures.sound in
    let fits : FitsProblem domain (problem_of (known_in domain) d) =
    problem-fits domain forest d c.requires.domain (definition-found forest d (sym c.in-Some.ensures)) c.requires.shallow none in
    subst (FitsProblem domain) (sym (c.in_ok-problem.ensures.read ∙ ap (λ (k : Known). problem_of k d) known)) fits

pub returns-clause-words : goal.returns-clause-words
returns-clause-words c =
    let domain : DomainTree = domain_value c.args.domain.now in
    let d : Definition = definition_value c.in-Some.definition in
    read_words domain (forest_of c.args.forms.now) _ c.requires.rising
    (ap (option_map (problem_of (known_in domain))) (sym c.in-Some.ensures)
    ∙ (ap (λ (known : Known). Some (problem_of known d)) (sym c.in_ok-known.ensures) ∙ ap Some (sym c.in_ok-problem.ensures.read)))

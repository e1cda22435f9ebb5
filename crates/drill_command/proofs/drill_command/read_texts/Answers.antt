use Rattle.std.proofs.Common.{◌∙◌, ◌≤◌, ℕ, List, length, subst, sym}
use Rattle.std.proofs.lemmas.Result.{err_from_is_err_and}
use Rattle.pddl_ast.specs.Values.{domain_value, problem_value}
use Rattle.command_base.specs.Values.{drill_kind_of, drill_words_of, refusal_of}
use Rattle.drill_command.proofs.DrillAnswers.{domain_refused, problem_refused}
use Rattle.drill_command.proofs.DrillSizes.{drill_problem_short}
use Rattle.drill_command.proofs.drill_command.read_texts.Goals as goal

pub returns-in_err-domain-clause-refused : goal.returns-in_err-domain-clause-refused
returns-in_err-domain-clause-refused c =
    let p = err_from_is_err_and c.from_residual.result c.from_residual.ensures.1 in
    let asked = drill_words_of c.args.asked.now in
    rw (p.1, p.2) (domain_refused asked c.deref.result.now (refusal_of c.in_err-domain.field-0.0) (c.deref.ensures.value ∙ c.requires.domain) c.in_err-domain.ensures.refused)

pub problem_in-requires-clause-short : goal.problem_in-requires-clause-short
problem_in-requires-clause-short c =
    subst (λ (t : List ℕ). length t ≤ 1048576) (sym (c.deref-2.ensures.value ∙ c.requires.problem)) (drill_problem_short (drill_kind_of c.args.asked.now.kind) c.args.asked.now.size c.requires.size.1)

pub returns-in_err-problem-clause-refused : goal.returns-in_err-problem-clause-refused
returns-in_err-problem-clause-refused c =
    let p = err_from_is_err_and c.from_residual-in_err-problem.result c.from_residual-in_err-problem.ensures.1 in
    let asked = drill_words_of c.args.asked.now in
    rw (p.1, p.2) (problem_refused asked c.deref.result.now c.deref-2.result.now (domain_value c.in_ok-domain.domain) (refusal_of c.in_err-problem.field-0.0)
    (c.deref.ensures.value ∙ c.requires.domain) (c.deref-2.ensures.value ∙ c.requires.problem) c.in_ok-domain.ensures.spells c.in_err-problem.ensures.refused)

pub returns-clause-names : goal.returns-clause-names
returns-clause-names c =
    let words = c.in_ok-domain.ensures.words in
    c.read_names_are_words.ensures (domain_value c.in_ok-domain.domain) (problem_value c.in_ok-problem.problem) words.predicates words.actions words.constants c.in_ok-problem.ensures.words

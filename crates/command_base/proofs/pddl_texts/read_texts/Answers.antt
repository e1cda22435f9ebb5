use Rattle.std.proofs.lemmas.Result.{err_from_is_err_and}
use Rattle.pddl_ast.specs.Values.{domain_value, problem_value}
use Rattle.plan_io.specs.Fetches.{FailedLast}
use Rattle.command_base.specs.Values.{refusal_of}
use Rattle.command_base.proofs.Fetched.{files_may_be, files_stop, problem_misread}
use Rattle.command_base.proofs.pddl_texts.read_texts.Goals as goal

pub returns-in_err-problem-clause-refused : goal.returns-in_err-problem-clause-refused
returns-in_err-problem-clause-refused g c =
    let p = err_from_is_err_and c.from_residual-in_err-problem.result c.from_residual-in_err-problem.ensures.1 in
    let held = g.S.Shelf.held c.args.shelf.now in
    let failed = FailedLast g.S.Shelf.fetched g.S.Shelf.faults c.args.shelf.now c.fetch_both.new.shelf in
    let read = c.in_ok-file.ensures in
    let problem = rw (← c.deref.ensures.value) at read.problem_file in
    rw (p.1, p.2) (problem_misread held failed c.args.domain_name.now c.args.problem_name.now _ _ (refusal_of c.in_err-problem.field-0.0)
    (record { bytes = c.in_ok-file.file.text.items; file = read.domain_file; spelled = read.spells }) problem c.in_err-problem.ensures.refused)

pub returns-in_err-problem-clause-stopped : goal.returns-in_err-problem-clause-stopped
returns-in_err-problem-clause-stopped g c =
    let p = err_from_is_err_and c.from_residual-in_err-problem.result c.from_residual-in_err-problem.ensures.1 in
    let held = g.S.Shelf.held c.args.shelf.now in
    let failed = FailedLast g.S.Shelf.fetched g.S.Shelf.faults c.args.shelf.now c.fetch_both.new.shelf in
    let read = c.in_ok-file.ensures in
    rw (p.1, p.2) (files_stop held failed g.S.Shelf.fetched c.args.domain_name.now c.args.problem_name.now _ c.args.shelf.now c.fetch_both.new.shelf
    (_, record { bytes = c.in_ok-file.file.text.items; file = read.domain_file; spelled = read.spells }) read.fetched)

pub returns-in_err-problem-clause-fetches : goal.returns-in_err-problem-clause-fetches
returns-in_err-problem-clause-fetches g c =
    let read = c.in_ok-file.ensures in
    files_may_be (g.S.Shelf.held c.args.shelf.now) g.S.Shelf.fetched c.args.domain_name.now c.args.problem_name.now c.args.shelf.now c.fetch_both.new.shelf
    (_, record { bytes = c.in_ok-file.file.text.items; file = read.domain_file; spelled = read.spells }) read.fetched

pub returns-clause-names : goal.returns-clause-names
returns-clause-names g c =
    let domain = domain_value c.in_ok-file.file.domain in
    let problem = problem_value c.in_ok-problem.problem in
    let words = c.in_ok-file.ensures.words in
    c.read_names_are_words.ensures domain problem words.predicates words.actions words.constants c.in_ok-problem.ensures.words

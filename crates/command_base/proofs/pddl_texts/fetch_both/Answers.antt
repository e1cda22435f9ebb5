use Rattle.std.proofs.lemmas.Result.{err_from_is_err_and}
use Rattle.command_base.specs.Values.{refusal_of}
use Rattle.pddl_ast.specs.Values.{domain_value}
use Rattle.command_base.proofs.Fetched.{problem_unread}
use Rattle.command_base.proofs.pddl_texts.fetch_both.Goals as goal

pub returns-in_err-bytes-clause-refused : goal.returns-in_err-bytes-clause-refused
returns-in_err-bytes-clause-refused g c =
    let p = err_from_is_err_and c.from_residual-in_err-bytes.result c.from_residual-in_err-bytes.ensures.1 in
    let read = c.in_ok-domain.ensures in
    rw (p.1, p.2) (problem_unread (g.S.Shelf.held c.args.shelf.now) g.S.Shelf.fetched g.S.Shelf.faults c.args.domain_name.now c.args.problem_name.now _
    (domain_value c.in_ok-domain.domain.domain) (refusal_of c.in_err-bytes.field-0.0) c.args.shelf.now _ _
    (record { bytes = c.in_ok-domain.domain.text.items; file = read.file; spelled = read.spells }) read.shelf.kept read.fetch read.shelf.quiet c.in_err-bytes.ensures.refused)

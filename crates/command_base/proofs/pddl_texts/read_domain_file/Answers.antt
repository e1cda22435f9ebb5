use Rattle.std.proofs.lemmas.Result.{err_from_is_err_and}
use Rattle.plan_io.specs.Fetches.{FailedLast}
use Rattle.command_base.specs.PddlTexts.{IsFaultyDomain}
use Rattle.command_base.specs.Values.{refusal_of}
use Rattle.command_base.proofs.Refusals.{misspelled_file}
use Rattle.command_base.proofs.pddl_texts.read_domain_file.Goals as goal

pub returns-in_err-domain-clause-refused : goal.returns-in_err-domain-clause-refused
returns-in_err-domain-clause-refused g c =
    let p = err_from_is_err_and c.from_residual-in_err-domain.result c.from_residual-in_err-domain.ensures.1 in
    let held = g.S.Shelf.held c.args.shelf.now in
    let failed = FailedLast g.S.Shelf.fetched g.S.Shelf.faults c.args.shelf.now c.fetch.new.shelf in
    let file = rw (← c.deref.ensures.value) at c.in_ok-text.ensures.file in
    rw (p.1, p.2) (misspelled_file held failed IsFaultyDomain c.args.name.now _ (refusal_of c.in_err-domain.field-0.0) file c.in_err-domain.ensures.refused)

use Rattle.std.proofs.Common.{length}
use Rattle.sexpr_text.specs.Forest.{forest_of}
use Rattle.run_replay.proofs.RecordFaults.{record_fault}
use Rattle.run_replay.proofs.records.read_words.Goals as goal

pub returns-clause-fault : goal.returns-clause-fault
returns-clause-fault c =
    record_fault c.read_found.result c.args.bytes.now (length c.args.bytes.now) (forest_of c.deref.result.now)
    c.passes_in_order.ensures.first
    (rw c.deref.ensures.value c.in_ok-forms.ensures.forms) (rw c.deref.ensures.value c.in_ok-forms.ensures.formed.rising)
    c.read_found.ensures.fault

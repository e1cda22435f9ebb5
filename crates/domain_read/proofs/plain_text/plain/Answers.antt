use Rattle.std.proofs.Common.{◌≡◌, length}
use Rattle.sexpr_text.specs.Forest.{forest_of}
use Rattle.domain_read.proofs.Ordered.{plain_answer, length_answer, fault_answer}
use Rattle.domain_read.proofs.plain_text.plain.Goals as goal

pub returns-in-Ok-clause-length : goal.returns-in-Ok-clause-length
returns-in-Ok-clause-length c = length_answer c.args.bytes.now c.deref.result.now c.edited_text.result c.edited_text.ensures.exact

pub returns-in-Ok-clause-plain : goal.returns-in-Ok-clause-plain
returns-in-Ok-clause-plain c =
    plain_answer c.args.bytes.now c.deref.result.now (length c.args.bytes.now) c.edited_text.result (rw c.deref.ensures.value c.in-Ok.ensures.forms) (rw c.deref.ensures.value c.in-Ok.ensures.formed) c.edited_text.ensures.sound c.edited_text.ensures.exact

pub returns-in-Ok-clause-fault : goal.returns-in-Ok-clause-fault
returns-in-Ok-clause-fault c =
    fault_answer c.args.bytes.now c.deref.result.now (length c.args.bytes.now) c.edited_text.result (rw c.deref.ensures.value c.in-Ok.ensures.forms) (rw c.deref.ensures.value c.in-Ok.ensures.formed) c.edited_text.ensures.fault

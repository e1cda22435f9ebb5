use Rattle.task_core.specs.Vectors.{value_of}
use Rattle.cube_index.proofs.Bits.{wants_true, wants_false}
use Rattle.cube_index.proofs.blocks.Test.wanting.Goals as goal

pub returns-then-value-clause-narrowed : goal.returns-then-value-clause-narrowed
returns-then-value-clause-narrowed c = λ v k h.
    rw (c.if-value.true) (wants_true (value_of v c.args.self.fluent.0) c.args.self.if_true c.args.self.if_false c.args.place k c.requires h)

pub returns-else-value-clause-narrowed : goal.returns-else-value-clause-narrowed
returns-else-value-clause-narrowed c = λ v k h.
    rw (c.if-value.false) (wants_false (value_of v c.args.self.fluent.0) c.args.self.if_true c.args.self.if_false c.args.place k c.requires h)

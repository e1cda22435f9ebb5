use Rattle.task_core.specs.Vectors.{value_of}
use Rattle.cube_index.proofs.Bits.{max_either_way}
use Rattle.cube_index.proofs.blocks.Test.any.Goals as goal

pub returns-clause-all : goal.returns-clause-all
returns-clause-all c = λ v k h. max_either_way (value_of v c.args.fluent.0) k h

use Rattle.std.proofs.Common.{◌∙◌, codes}
use Rattle.command_base.specs.Values.{kind_of}
use Rattle.command_base.specs.Words.{kind_word as word_of}
use Rattle.why_command.proofs.Whys.{joined}
use Rattle.why_command.proofs.planned.push_question.Goals as goal

pub returns : goal.returns
returns c =
    joined c.extend_from_slice-2.result c.args.text.now.items c.extend_from_slice.new.self.items c.extend_from_slice-2.new.self.items (codes "a plan exists: mbp plan ") c.as_bytes.result.now (word_of (kind_of c.args.kind))
    c.in_ok-extend_from_slice.ensures.items c.extend_from_slice-2.ensures.items (c.as_bytes.ensures.value ∙ c.kind_word.ensures)

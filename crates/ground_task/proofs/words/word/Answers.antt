use Rattle.std.proofs.Common.{◌∙◌}
use Rattle.std.specs.Str.{IsUtf8}
use Rattle.ground_task.proofs.WordLemmas.{word_is_text}
use Rattle.ground_task.proofs.words.word.Goals as goal

pub returns : goal.returns
returns c =
    let text : IsUtf8 c.as_bytes.result.now = rw c.as_bytes.ensures (word_is_text c.args.text.now c.requires) in
    c.in_ok-from_string.ensures.ok ∙ c.in_ok-from_utf8_lossy.ensures.ok text ∙ c.as_bytes.ensures

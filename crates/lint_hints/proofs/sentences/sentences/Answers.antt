use Rattle.std.proofs.Common.{string_bytes}
use Rattle.lint_hints.specs.Sentences.{shape_text}
use Rattle.lint_hints.proofs.Pushed.{item_more}
use Rattle.lint_hints.proofs.sentences.sentences.Goals as goal

pub loop-one-preserved : goal.loop-one-preserved
loop-one-preserved c =
    item_more (shape_text c.args.task.now) string_bytes c.args.found.now c.loop-one.one-index c.one-item.result c.loop-one.told.items c.push.new.self.items
    c.in_ok-sentence.field-0 c.loop-one-test.true c.one-item.is c.in_ok-push.ensures.items c.in_ok-sentence.ensures c.loop-one.invariant

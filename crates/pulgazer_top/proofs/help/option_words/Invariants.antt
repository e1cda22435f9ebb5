use Rattle.std.proofs.Common.{◌≡◌, map, take}
use Rattle.pulgazer_top.specs.Table.{option_word}
use Rattle.pulgazer_top.proofs.help.option_words.Given as goal

abbrev pub invariant-loop-option : goal.invariant-loop-option
invariant-loop-option l = map (λ word. word.now) l.words.items ≡ map option_word (take l.option-index l.options)

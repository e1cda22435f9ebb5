use Rattle.std.proofs.Common.{◌≡◌, map, take}
use Rattle.pulgazer_top.specs.Table.{subcommand_word}
use Rattle.pulgazer_top.proofs.help.subcommand_words.Given as goal

abbrev pub invariant-loop-sub : goal.invariant-loop-sub
invariant-loop-sub l = map (λ word. word.now) l.words.items ≡ map subcommand_word (take l.sub-index l.subs)

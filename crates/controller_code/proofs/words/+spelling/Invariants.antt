-- The words so far, and those of the parts that are left, are together the whole.
use Rattle.std.specs.Prelude.{◌≡◌, ◌++◌, drop, map}
use Rattle.std.specs.List.{flat_map}
use Rattle.controller_code.specs.Words.{then_word, words_of}
use Rattle.controller_code.proofs.words.+spelling.Given as goal

abbrev pub invariant-push_parts-loop-part : goal.invariant-push_parts-loop-part
invariant-push_parts-loop-part l =
    l.words.items ++ flat_map (then_word l.word) (map words_of (drop l.part-index l.parts))
    ≡ l.fn.words.items ++ flat_map (then_word l.word) (map words_of l.parts)

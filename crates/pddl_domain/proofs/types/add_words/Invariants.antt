use Rattle.std.proofs.Common.{◌≡◌, drop}
use Rattle.std.specs.List.{fold}
use Rattle.pddl_domain.specs.Types as specs
use Rattle.pddl_domain.proofs.types.add_words.Given as goal

abbrev pub invariant-loop-word : goal.invariant-loop-word
invariant-loop-word l = record {
  table : fold specs.with_name l.initial.names.table l.words ≡ fold specs.with_name l.names.table (drop l.word-index l.words);
  texts : l.names.texts.items ≡ l.names.table;
}

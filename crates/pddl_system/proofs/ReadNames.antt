-- Names that are words as texts spell them are words of a task.
use Rattle.std.proofs.Common.{◌≢◌, ℕ, ◌<◌, List, [], ◌∷◌, length, arith}
use Rattle.std.proofs.lemmas.List.Elements.{All-append, All-weaker}
use Rattle.task_core.specs.Names.{IsWord}
use Rattle.pddl_ast.specs.declared.trees.Named.{Named}
use Rattle.pddl_ast.specs.declared.trees.Predicate.{Predicate}
use Rattle.pddl_ast.specs.Trees.{SchemaTree}
use Rattle.pddl_ast.specs.WordTexts.{IsWordText}
use Rattle.pddl_system.specs.Laws.{ReadNamesAreWords}

some_byte : (w : List ℕ) → 0 < length w → w ≢ []
some_byte [] h e = omega arith
some_byte (c ∷ w) h e = cc

pub word_is : (w : List ℕ) → IsWordText w → IsWord w
word_is w is = record { some = some_byte w is.some; bytes = is.bytes }

pub read_names_are_words : ReadNamesAreWords
read_names_are_words d p predicates actions constants objects = record {
  predicates = All-weaker (λ (q : Predicate). IsWordText q.name) (λ (q : Predicate). IsWord q.name) (λ q. word_is q.name) d.predicates predicates;
  actions = All-weaker (λ (s : SchemaTree). IsWordText s.name) (λ (s : SchemaTree). IsWord s.name) (λ s. word_is s.name) d.actions actions;
  objects = All-append (λ (n : Named). IsWord n.name) d.constants p.objects
      (All-weaker (λ (n : Named). IsWordText n.name) (λ (n : Named). IsWord n.name) (λ n. word_is n.name) d.constants constants)
      (All-weaker (λ (n : Named). IsWordText n.name) (λ (n : Named). IsWord n.name) (λ n. word_is n.name) p.objects objects);
}

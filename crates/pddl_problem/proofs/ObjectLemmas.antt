-- The names of objects.
use Rattle.std.proofs.Common.{◌≡◌, ℕ, List, [], ◌∷◌, ◌++◌, sym, ◌∙◌, append_assoc}
use Rattle.std.proofs.lemmas.List.{append-nil}
use Rattle.pddl_ast.specs.declared.typed_lists.Declares.TheVariants.{Objects}
use Rattle.pddl_ast.specs.TypedLists.{all_seen}

-- every name of a list of objects counts as seen
pub seen-objects : (names seen : List (List ℕ)) → all_seen Objects names seen ≡ seen ++ names
seen-objects [] seen = sym (append-nil seen)
seen-objects (n ∷ ns) seen = seen-objects ns (seen ++ n ∷ []) ∙ append_assoc seen (n ∷ []) ns

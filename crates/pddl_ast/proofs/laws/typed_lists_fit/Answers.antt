use Rattle.std.proofs.Common.{refl, false, [], true, ◌≡◌}
use Rattle.std.proofs.lemmas.List.Elements.{All-nil}
use Rattle.pddl_ast.specs.TypedLists.{is_wanted}
use Rattle.pddl_ast.proofs.ListFitting.{names-fine}
use Rattle.pddl_ast.proofs.laws.typed_lists_fit.Goals as goal

pub returns : goal.returns
returns c = record {
  different = λ declares types before list d h. (names-fine declares types list before before [] false refl d (All-nil (λ name. is_wanted declares name ≡ true)) h).0;
  wanted = λ declares types before list d h. (names-fine declares types list before before [] false refl d (All-nil (λ name. is_wanted declares name ≡ true)) h).1;
}

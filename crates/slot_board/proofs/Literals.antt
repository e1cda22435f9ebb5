-- What one literal more makes of the set of a cube.
use Rattle.std.proofs.Common.{◌≡◌, ℕ, Bool, true, false, not, ◌&&◌, [], ◌∷◌, ◌++◌, refl, sym, ap, ◌∙◌}
use Rattle.std.proofs.Math.Path.{fun_ext}
use Rattle.std.proofs.lemmas.List.Folds.{list_all-append}
use Rattle.dd_nodes.specs.NodeList.{Values}
use Rattle.dd_nodes.specs.Subfunctions.{Function}
use Rattle.dd_ops.specs.Operations.{variable}
use Rattle.task_core.specs.Cubes.{Cube}
use Rattle.task_core.specs.Vectors.{same_value}
use Rattle.task_core.specs.declared.literals.Lit.{Lit}
use Rattle.encode_task.specs.TaskSets.{cube_set}
use Rattle.slot_board.specs.Board.{combined, sign_of}

same_true : (x : Bool) → x ≡ (same_value x true && true)
same_true true = refl
same_true false = refl

same_false : (x : Bool) → not x ≡ (same_value x false && true)
same_false true = refl
same_false false = refl

literal_at : (b : Bool) (g : Function) (f : ℕ) (values : Values) → combined (sign_of b) g (variable f) values ≡ (g values && (same_value (values f) b && true))
literal_at true g f values = ap (λ t. g values && t) (same_true (values f))
literal_at false g f values = ap (λ t. g values && t) (same_false (values f))

pub literal_is : (done : Cube) (lit : Lit) → combined (sign_of lit.positive) (cube_set done) (variable lit.fluent.0) ≡ cube_set (done ++ lit ∷ [])
literal_is done lit = fun_ext (λ values.
    literal_at lit.positive (cube_set done) lit.fluent.0 values
    ∙ sym (list_all-append (λ (l : Lit). same_value (values l.fluent.0) l.positive) done (lit ∷ [])))

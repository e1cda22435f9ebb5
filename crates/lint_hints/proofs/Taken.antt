-- Groups that are found, where one shape goes from one list to another.
use Rattle.std.proofs.Common.{◌≡◌, ℕ, suc, ◌<◌, List, [], ◌∷◌, ◌++◌, drop, length, subst, sym, take}
use Rattle.std.specs.Prelude.{slice_index_or}
use Rattle.std.specs.List.{remove}
use Rattle.std.proofs.lemmas.List.Elements.{All-append, All-drop, All-get_or, All-push, All-same, All-take}
use Rattle.lint_shapes.specs.Found.{AreFound}
use Rattle.lint_shapes.specs.declared.shapes.OneOf.{OneOf}
use Rattle.mutex_groups.specs.Groups.{AreInductive}
use Rattle.task_core.specs.declared.tasks.Task.{Task}

pub left_found : (task : Task) (shapes left : List OneOf) (place : ℕ) → left ≡ remove shapes place → AreFound task shapes → AreFound task left
left_found task shapes left place is found =
    let P = λ (one : OneOf). AreInductive task one.groups.items in
    All-same P left (remove shapes place) is
    (All-append P (take place shapes) (drop (suc place) shapes) (All-take P place shapes found) (All-drop P (suc place) shapes found))

pub one_found : (task : Task) (shapes : List OneOf) (place : ℕ) (one : OneOf) → place < length shapes → one ≡ slice_index_or shapes place one → AreFound task shapes
    → AreInductive task one.groups.items
one_found task shapes place one below is found =
    subst (λ (o : OneOf). AreInductive task o.groups.items) (sym is) (All-get_or (λ (o : OneOf). AreInductive task o.groups.items) shapes place one below found)

pub more_found : (task : Task) (chosen after : List OneOf) (one : OneOf) → after ≡ chosen ++ one ∷ [] → AreInductive task one.groups.items → AreFound task chosen
    → AreFound task after
more_found task chosen after one is each found =
    let P = λ (o : OneOf). AreInductive task o.groups.items in
    All-same P after (chosen ++ one ∷ []) is (All-push P chosen one found each)

use Rattle.std.proofs.lemmas.List.Elements.{All-push, All-same}
use Rattle.std.proofs.Common.{[], ◌∷◌, ◌++◌, subst, sym}
use Rattle.std.specs.Prelude.{Vec}
use Rattle.std.specs.declared.alloc.Global.{Global}
use Rattle.mutex_groups.specs.Groups.{AreInductive}
use Rattle.lint_shapes.specs.Found.{AreFound}
use Rattle.lint_shapes.specs.declared.shapes.OneOf.{OneOf}
use Rattle.lint_shapes.proofs.groups.add_shape.Goals as goal

pub returns-in_ok-push-in-Some-2 : goal.returns-in_ok-push-in-Some-2
returns-in_ok-push-in-Some-2 c =
    let task = c.args.world.now.task.now in
    let found = c.groups_of.new.search.found.items in
    let one : OneOf = record { shape = c.args.shape; groups = c.in-Some-2.groups } in
    let groups = rw c.in-Some-2.is at c.in_ok-groups.ensures.groups in
    All-same (λ (one : OneOf). AreInductive task one.groups.items) c.push.new.self.items (found ++ one ∷ []) c.in_ok-push-in-Some-2.ensures.items
    (All-push (λ (one : OneOf). AreInductive task one.groups.items) found one
    (subst (λ (all : Vec OneOf Global). AreFound task all.items) (sym c.in_ok-groups.ensures.kept) c.requires) groups)

use Rattle.std.proofs.Common.{◌+◌, length, subst, arith}
use Rattle.std.proofs.lemmas.List.{get_or-append-add, get_or_append_left, length-append}
use Rattle.pddl_ast.specs.declared.trees.Named.{Named}
use Rattle.task_core.specs.Names.{IsWord}
use Rattle.ground_task.proofs.words.object_words.Goals as goal

pub push_words-requires : goal.push_words-requires
push_words-requires c k d within =
    let cs = c.args.constants.now in
    let os = c.args.objects.now in
    subst (λ (n : Named). IsWord n.name) (get_or_append_left cs os d k within) (c.requires k d (omega (arith, within, length-append cs os)))

pub push_words-requires-2 : goal.push_words-requires-2
push_words-requires-2 c k d within =
    let cs = c.args.constants.now in
    let os = c.args.objects.now in
    subst (λ (n : Named). IsWord n.name) (get_or-append-add cs os k d) (c.requires (length cs + k) d (omega (arith, within, length-append cs os)))

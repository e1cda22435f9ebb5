use Rattle.std.proofs.Common.{◌≡◌, ◌<◌, get_or, length, map, ap, sym, subst, ◌∙◌, arith}
use Rattle.std.proofs.lemmas.List.{get_or-map, length-map}
use Rattle.pddl_ast.specs.Trees.{SchemaTree}
use Rattle.pddl_ast.specs.Values.{schema_value}
use Rattle.task_core.specs.Names.{IsWord}
use Rattle.ground_task.proofs.words.action_words.Goals as goal

pub word-requires : goal.word-requires
word-requires c =
    let actions = c.args.actions.now in
    let i = c.loop-action.action-index in
    let item = c.action-item.result in
    let there : i < length actions = c.loop-action-test.true in
    let same : get_or (map schema_value actions) i (schema_value item) ≡ schema_value item =
    get_or-map schema_value actions i item (schema_value item) there ∙ ap schema_value (sym c.action-item.is) in
    subst (λ (t : SchemaTree). IsWord t.name) same (c.requires i (schema_value item) (omega (arith, there, length-map actions schema_value)))

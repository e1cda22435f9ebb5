use Rattle.std.proofs.Common.{ap, ◌∙◌}
use Rattle.sexpr_text.specs.Forest.{nothing, join, forest_of}
use Rattle.sexpr_text.proofs.Forests.{forest_of-push, form_then-word}
use Rattle.sexpr_text.proofs.nest.Nest.add_word.Goals as goal

pub returns-clause-trees : goal.returns-clause-trees
returns-clause-trees c =
    ap forest_of c.in_ok-push.ensures.items
    ∙ (forest_of-push c.args.self.now.parts.items _
    ∙ ap (join (forest_of c.args.self.now.parts.items)) (form_then-word c.args.span c.args.text nothing))

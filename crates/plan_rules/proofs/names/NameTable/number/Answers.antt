use Rattle.std.proofs.Common.{ap, sym, ◌∙◌}
use Rattle.sexpr_text.specs.Forest.{forest_of}
use Rattle.sexpr_text.specs.Parts.{texts_of}
use Rattle.plan_rules.specs.Readings.{number_of_name}
use Rattle.plan_rules.proofs.Keys.{unlisted}
use Rattle.plan_rules.proofs.names.NameTable.number.Goals as goal

pub returns-in-None : goal.returns-in-None
returns-in-None c =
    sym (unlisted (texts_of (forest_of c.args.row.now)) (c.in_ok-words.ensures.nowhere c.in-None.is) c.self.inside.names.keys)
    ∙ ap (λ names. number_of_name names (texts_of (forest_of c.args.row.now))) c.self.view_is

use Rattle.std.proofs.Common.{codes, map, string_bytes, ◌∷◌}
use Rattle.command_base.proofs.WordLists.{neither_form}
use Rattle.command_base.proofs.words.plan_words.Goals as goal

pub returns-in-None : goal.returns-in-None
returns-in-None c = neither_form (codes "plan" ∷ map string_bytes c.args.words.now) c.certified_plan_words.result c.in-None.ensures.said c.certified_plan_words.ensures

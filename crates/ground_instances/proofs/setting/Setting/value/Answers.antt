use Rattle.std.proofs.Common.{◌∙◌}
use Rattle.pddl_ast.specs.Values.{formula_value}
use Rattle.ground_instances.specs.Tables.{setting_in}
use Rattle.ground_instances.proofs.PartialLemmas.{known_value_is}
use Rattle.ground_instances.proofs.setting.Setting.value.Goals as goal

pub returns-clause-value : goal.returns-clause-value
returns-clause-value c = c.in_ok-partial_value.ensures.value ∙ known_value_is (setting_in c.args.self.now) (formula_value c.args.formula.now) c.args.scope.now.items

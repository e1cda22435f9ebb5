use Rattle.sexpr_text.proofs.OneAnswer.{spells_trees-unique, spells-unique}
use Rattle.sexpr_text.proofs.laws.one_spelling.Goals as goal

pub returns-clause-trees : goal.returns-clause-trees
returns-clause-trees c = spells_trees-unique

pub returns-clause-forms : goal.returns-clause-forms
returns-clause-forms c = spells-unique

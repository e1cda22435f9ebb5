use Rattle.pddl_system.proofs.ReadNames.{read_names_are_words}
use Rattle.pddl_system.proofs.laws.read_names_are_words.Goals as goal

pub returns : goal.returns
returns c = read_names_are_words

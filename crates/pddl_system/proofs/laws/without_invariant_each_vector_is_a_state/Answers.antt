use Rattle.pddl_system.proofs.States.{each_outcome_takes_place, each_vector_is_a_state, executable_without_invariant, initial_vectors_are_states}
use Rattle.pddl_system.proofs.laws.without_invariant_each_vector_is_a_state.Goals as goal

pub returns-clause-inside : goal.returns-clause-inside
returns-clause-inside c = each_vector_is_a_state

pub returns-clause-initial : goal.returns-clause-initial
returns-clause-initial c = initial_vectors_are_states

pub returns-clause-executable : goal.returns-clause-executable
returns-clause-executable c = executable_without_invariant

pub returns-clause-outcomes : goal.returns-clause-outcomes
returns-clause-outcomes c = each_outcome_takes_place

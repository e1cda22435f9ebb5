use Rattle.controller_rules.proofs.texts.write_automaton.Goals as goal

pub push_context_rules-requires-clause-in_task : goal.push_context_rules-requires-clause-in_task
push_context_rules-requires-clause-in_task c =
    (c.args.plan.now.contexts, rw c.deref.ensures.value c.requires.in_task)

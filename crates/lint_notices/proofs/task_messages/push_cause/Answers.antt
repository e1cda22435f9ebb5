use Rattle.lint_notices.proofs.task_messages.push_cause.Goals as goal

pub returns-in-NoObjects : goal.returns-in-NoObjects
returns-in-NoObjects c = rw c.in-NoObjects.is c.push_words.ensures

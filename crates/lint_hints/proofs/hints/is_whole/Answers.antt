use Rattle.lint_hints.proofs.hints.is_whole.Goals as goal

pub returns : goal.returns
returns c = λ judged. record { task = c.args.task.now; of_texts = c.requires; excludes_nothing = c.excludes_nothing.ensures judged }

-- Private: what the code's own types stand for.
use Rattle.lint_notices.specs.Values.{names_value}
use Rattle.lint_command.specs.Words.{MistakesWords}
use Rattle.lint_command.specs.declared.words.MistakesWords.{MistakesWords as CodeMistakesWords}

abbrev pub mistakes_words_of : CodeMistakesWords → MistakesWords
mistakes_words_of asked = record { names = names_value asked.names; json = asked.json }

-- Private: what the code's own types stand for.
use Rattle.command_base.specs.Values.{check_words_of, placed_of}
use Rattle.explain_command.specs.Lined.{LinedPlan}
use Rattle.explain_command.specs.Words.{ExplainWords}
use Rattle.explain_command.specs.declared.lined.Lined.{Lined as CodeLined}
use Rattle.explain_command.specs.declared.words.ExplainWords.{ExplainWords as CodeExplainWords}

abbrev pub explain_words_of : CodeExplainWords → ExplainWords
explain_words_of asked =
    record { check = check_words_of asked.check; fair = asked.fair; shown = asked.shown }

abbrev pub lined_of : CodeLined → LinedPlan
lined_of lined = record { placed = placed_of lined.read; lines = lined.lines.items }

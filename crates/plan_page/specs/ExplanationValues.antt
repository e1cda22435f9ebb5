-- What the code's own types stand for.
use Rattle.std.specs.Prelude.{string_bytes}
use Rattle.std.specs.Option.{option_map}
use Rattle.plan_picture.specs.Values.{run_value}
use Rattle.plan_page.specs.Explanations.{PlainExplanation, PlainShownRun}
use Rattle.plan_page.specs.declared.explanations.Explanation.{Explanation}
use Rattle.plan_page.specs.declared.explanations.ShownRun.{ShownRun}

abbrev pub shown_value : ShownRun → PlainShownRun
shown_value shown = record {
  run = run_value shown.run;
  sentence = string_bytes shown.sentence;
}

abbrev pub explanation_value : Explanation → PlainExplanation
explanation_value explanation = record {
  verdict = string_bytes explanation.verdict;
  shown = option_map shown_value explanation.shown;
}

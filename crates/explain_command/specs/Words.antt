-- What is asked of a plan.
use Rattle.std.specs.Prelude.{Bool, true, false}
use Rattle.command_base.specs.Words.{CheckWords}
use Rattle.explain_command.specs.declared.words.ShownAs.{ShownAs}
use Rattle.explain_command.specs.declared.words.ShownAs.TheVariants.{Document, Run, Verdict}

-- what is asked: the verdict that `check` gives on a plan; or, where the plan has contexts and it is to be
-- judged as one whose actions may be tried again, the verdict for the goal that stands for that; and
-- what is shown of it
pub record ExplainWords : Type 0 where
  pub check : CheckWords
  pub fair : Bool
  pub shown : ShownAs

-- a JSON document is to be shown
abbrev pub is_document : ShownAs → Bool
is_document Verdict = false
is_document Run = false
is_document Document = true

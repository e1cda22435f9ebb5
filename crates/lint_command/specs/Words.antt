-- In which files mistakes are looked for, and whether the answer is to be a JSON document.
use Rattle.std.specs.Prelude.{Bool}
use Rattle.lint_notices.specs.Texts.{PlainFileNames}

pub record MistakesWords : Type 0 where
  pub names : PlainFileNames
  pub json : Bool

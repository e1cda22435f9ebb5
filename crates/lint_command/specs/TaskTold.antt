-- Private: what was added to what is told.
use Rattle.std.specs.Prelude.{◌≡◌, List, ◌++◌}
use Rattle.lint_notices.specs.Notices.{PlainNotice}

-- something of this kind was added
pub record HasAdded (Told : List PlainNotice → Type 0) (before after : List PlainNotice) : Type 0 where
  pub added : List PlainNotice
  pub told : Told added
  pub after_is : after ≡ before ++ added

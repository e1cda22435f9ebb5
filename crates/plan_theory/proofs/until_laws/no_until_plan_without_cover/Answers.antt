use Rattle.plan_theory.proofs.NoUntil.{none_without_cover}
use Rattle.plan_theory.proofs.until_laws.no_until_plan_without_cover.Goals as goal

pub returns : goal.returns
returns c = record { none = none_without_cover }

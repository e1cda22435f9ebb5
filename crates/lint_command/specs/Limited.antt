-- Private: what is told where grounding ended so.
use Rattle.std.specs.Prelude.{◌≡◌, List, [], Some}
use Rattle.command_base.specs.Grounding.{limit_name}
use Rattle.ground_task.specs.Limits.{limit_of}
use Rattle.ground_task.specs.declared.grounding.GroundErr.{GroundErr}
use Rattle.lint_notices.specs.Notices.{PlainNotice, PlainReport}
use Rattle.pddl_system.specs.Sizes.{Limit}

-- a limit is passed, and its name is told below the notices
pub record IsLimitedBy (error : GroundErr) (notices : List PlainNotice) (report : PlainReport) : Type 0 where
  pub limit : Limit
  pub passed : limit_of error ≡ Some limit
  pub told : report ≡ record { notices = notices; hints = []; limit = Some (limit_name limit) }

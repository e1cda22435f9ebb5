use Rattle.std.proofs.Common.{◌≡◌, map, take}
use Rattle.std.specs.List.{fold}
use Rattle.plan_document.specs.Documents.{with_literal}
use Rattle.serde_json.specs.Data.{no_members}
use Rattle.serde_json.specs.View.{members_view}
use Rattle.task_core.specs.Names.{name_bytes}
use Rattle.plan_document.proofs.rules.literal_object.Given as goal

abbrev pub invariant-loop-literal : goal.invariant-loop-literal
invariant-loop-literal l = members_view l.members.entries ≡ fold (with_literal (map name_bytes l.fluents)) no_members (take l.literal-index l.cube)

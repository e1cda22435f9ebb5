-- Those so far were added, each with its cause.
use Rattle.std.proofs.Common.{◌≡◌, ◌++◌, drop, map}
use Rattle.std.specs.List.{All, filter}
use Rattle.ground_instances.specs.Tables.{setting_in}
use Rattle.pddl_ast.specs.Values.{schema_value}
use Rattle.pddl_ast.specs.declared.trees.Schema.{Schema}
use Rattle.relaxed_reach.specs.Literals.{has}
use Rattle.never_executed.specs.Causes.{IsCause}
use Rattle.never_executed.specs.NeverRuns.{never_runs}
use Rattle.never_executed.specs.declared.finding.NeverRun.{NeverRun}
use Rattle.never_executed.proofs.finding.found_among.Given as goal

abbrev pub invariant-loop-schema : goal.invariant-loop-schema
invariant-loop-schema l = record {
  names :
      let test = never_runs l.looked.task.now (has l.looked.literals.now) in
      map (λ (never : NeverRun). never.schema.now.name) l.found.items ++ filter test (map (λ (schema : Schema). schema.name) (drop l.schema-index l.schemas))
      ≡ filter test (map (λ (schema : Schema). schema.name) l.schemas);
  causes : All (λ (never : NeverRun). IsCause (setting_in l.looked.setting.now) l.looked.task.now (has l.looked.literals.now) (schema_value never.schema.now) never.cause) l.found.items;
}

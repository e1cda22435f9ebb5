-- The labels so far, none of which is too long.
use Rattle.std.proofs.Common.{◌≡◌, false, map, take}
use Rattle.std.specs.List.{list_any}
use Rattle.task_core.specs.Names.{name_bytes}
use Rattle.plan_picture.specs.Labels.{bytes_of}
use Rattle.plan_picture.specs.Texts.{is_long_name, name_label}
use Rattle.plan_picture.proofs.labels.fluent_labels.Given as goal

abbrev pub invariant-loop-fluent : goal.invariant-loop-fluent
invariant-loop-fluent l = record {
  labels : bytes_of l.labels.items ≡ map name_label (map name_bytes (take l.fluent-index l.fluents));
  short : list_any is_long_name (map name_bytes (take l.fluent-index l.fluents)) ≡ false;
}

use Rattle.std.proofs.Common.{◌≡◌, map, drop, ◌++◌}
use Rattle.sexpr_text.specs.Forest.{forest_of}
use Rattle.sexpr_text.specs.Parts.{each_group, flaws_of_groups}
use Rattle.sexpr_text.proofs.groups.read_groups.Given as goal

abbrev pub invariant-loop-form : goal.invariant-loop-form
invariant-loop-form g l = record {
  sound : flaws_of_groups (g.R.GroupReader.flaws l.reader) (forest_of l.row) ≡ flaws_of_groups (g.R.GroupReader.flaws l.reader) (forest_of (drop l.form-index l.row));
  read : map g.R.GroupReader.plain l.items.items ++ each_group (g.R.GroupReader.tree l.reader) (forest_of (drop l.form-index l.row)) ≡ each_group (g.R.GroupReader.tree l.reader) (forest_of l.row);
}

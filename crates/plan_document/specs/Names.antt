-- Names as JSON. A name stands there as in the text of a plan, as "(at a)".
use Rattle.std.specs.Prelude.{List, map}
use Rattle.serde_json.specs.Data.{Data, array, string}
use Rattle.serde_json.specs.View.{items_of}
use Rattle.task_core.specs.Names.{Name}
use Rattle.plan_rules.specs.Texts.{atom_text}

abbrev pub name_data : Name → Data
name_data name = string (atom_text name)

abbrev pub names_data : List Name → Data
names_data names = array (items_of (map name_data names))

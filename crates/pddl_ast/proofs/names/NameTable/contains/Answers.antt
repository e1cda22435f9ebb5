use Rattle.std.proofs.Common.{sym}
use Rattle.pddl_ast.proofs.NameLemmas.{table_contains}
use Rattle.pddl_ast.proofs.names.NameTable.contains.Goals as goal

pub returns : goal.returns
returns c = table_contains c.args.self.now c.self.inside.names.keys c.args.name.now c.as_bytes.result.now c.contains.result (sym c.self.view_is) c.as_bytes.ensures c.contains.ensures

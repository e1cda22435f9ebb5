use Rattle.std.proofs.Common.{sym}
use Rattle.pddl_ast.proofs.NameLemmas.{table_number}
use Rattle.pddl_ast.proofs.names.NameTable.number_of.Goals as goal

pub returns : goal.returns
returns c = table_number c.args.self.now c.self.inside.names.keys c.args.name.now c.as_bytes.result.now c.get_index_of.result (sym c.self.view_is) c.as_bytes.ensures c.get_index_of.ensures.index

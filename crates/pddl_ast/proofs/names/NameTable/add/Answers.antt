use Rattle.std.proofs.Common.{ap, sym, refl, ◌∙◌, not}
use Rattle.pddl_ast.proofs.NameLemmas.{table_contains, table_adds}
use Rattle.pddl_ast.proofs.names.NameTable.add.Goals as goal

pub returns-clause-new : goal.returns-clause-new
returns-clause-new c =
    c.in_ok-is_new.ensures.added
    ∙ ap not (table_contains c.args.self.now c.self.inside.names.keys c.args.name.now c.in_ok-bytes.bytes.items _ (sym c.self.view_is) (c.in_ok-bytes.ensures.items ∙ c.as_bytes.ensures) refl)

pub returns-clause-names : goal.returns-clause-names
returns-clause-names c =
    table_adds c.args.self.now _ c.self.inside.names.keys c.insert_full.new.self.keys c.args.name.now c.in_ok-bytes.bytes (sym c.self.view_is) refl (c.in_ok-bytes.ensures.items ∙ c.as_bytes.ensures) c.in_ok-is_new.ensures.keys

use Rattle.std.proofs.Common.{◌≡◌, ◌∙◌, sym, ap, None}
use Rattle.pddl_ast.specs.Scopes.{table_entry, meaning}
use Rattle.pddl_ast.proofs.ScopeLemmas.{is_none, table_grow}
use Rattle.pddl_ast.proofs.scope.Meanings.make_room.Goals as goal

pub returns-clause-same : goal.returns-clause-same
returns-clause-same c = λ any.
    let t = c.args.self.now.numbers.entries in
    let spelled : c.in_ok-bytes.bytes.items ≡ c.args.name.now = c.in_ok-bytes.ensures.items ∙ c.as_bytes-2.ensures in
    let none : table_entry t c.as_bytes.result.now ≡ None = is_none _ (sym c.contains_key.ensures ∙ c.if-contains_key.false) in
    ap (λ es. meaning es any) c.in_ok-insert.ensures.entries
    ∙ table_grow any c.in_ok-bytes.bytes t (ap (table_entry t) (spelled ∙ sym c.as_bytes.ensures) ∙ none)

use Rattle.std.proofs.Common.{◌∙◌, ap, is_some, if◌then◌else◌}
use Rattle.std.specs.Str.{bytes_eq}
use Rattle.pddl_ast.specs.Scopes.{table_entry, meaning}
use Rattle.pddl_ast.proofs.ScopeLemmas.{table_set}
use Rattle.pddl_ast.proofs.scope.Meanings.set.Goals as goal

pub returns-in-Some : goal.returns-in-Some
returns-in-Some c = λ any.
    let t = c.args.self.now.numbers.entries in
    ap (λ es. meaning es any) (c.get_mut.follows.holds c.args.number).0
    ∙ (table_set any c.as_bytes.result.now t c.args.number (ap (λ w. is_some (table_entry t w)) c.as_bytes.ensures ∙ c.requires.room)
    ∙ ap (λ w. if bytes_eq any w then c.args.number else meaning t any) c.as_bytes.ensures)

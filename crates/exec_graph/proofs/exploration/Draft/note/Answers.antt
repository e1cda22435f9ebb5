use Rattle.std.proofs.Common.{◌≡◌, ◌<◌, ◌^◌, ◌++◌, ◌∷◌, [], ℕ, subst, sym}
use Rattle.std.specs.List.{Contains}
use Rattle.exec_graph.specs.Rows.{rows_of}
use Rattle.exec_graph.proofs.exploration.Draft.note.Goals as goal

pub push-requires-clause-small : goal.push-requires-clause-small
push-requires-clause-small c = subst (λ xs. (k : ℕ) → Contains xs k → k < 2 ^ 32) (sym c.deref.ensures.value) c.requires.small

pub returns-clause-next : goal.returns-clause-next
returns-clause-next c =
    subst (λ xs. rows_of c.push.new.self ≡ rows_of c.args.self.now.next ++ xs ∷ []) c.deref.ensures.value c.in_ok-push.ensures.more

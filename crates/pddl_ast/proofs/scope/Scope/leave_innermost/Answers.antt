use Rattle.std.proofs.Common.{subst}
use Rattle.pddl_ast.specs.Scopes.{Tells}
use Rattle.pddl_ast.proofs.ScopeLemmas.{leave_room, leave_tells}
use Rattle.pddl_ast.proofs.scope.Scope.leave_innermost.Goals as goal

pub set-requires : goal.set-requires
set-requires c = record {
  room = leave_room c.pop.new.self.items c.in-Some.variable c.self.inside.meanings.numbers.entries
      (subst (λ vs. Tells vs c.self.inside.meanings.numbers.entries) c.in-Some.ensures.items c.self.invariant);
}

pub invariant_of-self : goal.invariant_of-self
invariant_of-self c =
    leave_tells c.pop.new.self.items c.in-Some.variable c.self.inside.meanings.numbers.entries c.set.new.self.numbers.entries
    (subst (λ vs. Tells vs c.self.inside.meanings.numbers.entries) c.in-Some.ensures.items c.self.invariant) c.set.ensures

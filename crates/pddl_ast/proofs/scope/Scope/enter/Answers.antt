use Rattle.std.proofs.Common.{◌≡◌, ◌∙◌, Some, sym, ap, arith, subst, get_or, length, if◌then◌else◌}
use Rattle.std.specs.Str.{bytes_eq}
use Rattle.std.proofs.lemmas.List.{get_or_push}
use Rattle.pddl_ast.specs.Scopes.{Tells, meaning}
use Rattle.pddl_ast.specs.declared.scope.Variable.{Variable}
use Rattle.pddl_ast.proofs.ScopeLemmas.{enter_tells}
use Rattle.pddl_ast.proofs.scope.Scope.enter.Goals as goal

pub invariant_of-self-2 : goal.invariant_of-self-2
invariant_of-self-2 c =
    let variables = c.self.inside.variables.items in
    let inner : Variable = record { name = c.args.name; hidden = c.number_of-hidden.result } in
    let roomy = c.make_room.new.self.numbers.entries in
    let after = c.set.new.self.numbers.entries in
    let number = c.len-number.result in
    let count : length variables ≡ number = omega (arith, c.self.inside.variables.ok.0, c.len-number.ensures) in
    let shown : c.index.result.now ≡ inner =
    c.index.ensures
    ∙ (ap (λ vs. get_or vs number c.index.result.now) c.in_ok-push.ensures.items
    ∙ get_or_push variables inner c.index.result.now number count) in
    subst (λ vs. Tells vs after) (sym c.in_ok-push.ensures.items)
    (enter_tells variables _ roomy after inner c.self.invariant c.in_ok-make_room.ensures.same c.number_of-hidden.ensures
    (λ name. c.set.ensures name
    ∙ (ap (λ (v : Variable). if bytes_eq name v.name then Some number else meaning roomy name) shown
    ∙ ap (λ n. if bytes_eq name c.args.name then Some n else meaning roomy name) (sym count))))

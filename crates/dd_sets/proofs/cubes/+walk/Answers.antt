-- The cubes of a node, and those of a constant.
use Rattle.std.proofs.Common.{◌≡◌, ◌++◌, ◌∷◌, [], sym, ap, ◌∙◌, refl, arith, map, Vec, Global}
use Rattle.std.proofs.lemmas.List.{map-append}
use Rattle.task_core.specs.declared.literals.Lit.{Lit}
use Rattle.std.proofs.lemmas.Grind.{common_steps}
use borrow.Author.Tests.{eqb-true}
use Rattle.dd_sets.proofs.CubeLemmas.{zero_number, none_more, one_more, node_more}
use Rattle.dd_sets.proofs.cubes.+walk.Goals as goal

pub returns-in_ok-walk-in-Some-2-clause-cubes : goal.returns-in_ok-walk-in-Some-2-clause-cubes
returns-in_ok-walk-in-Some-2-clause-cubes t c =
    let popped : c.pop.new.self.items ≡ c.args.path.now.items = grind (arith, common_steps) in
    node_more c.args.dd.now.vars c.args.dd.now.nodes c.requires.table.reduced c.args.number.0 c.in-Some.node (sym c.in-Some.ensures.node) _ _ _
    c.args.path.now.items c.push.new.self.items c.push-in-Some.new.self.items
    (c.in_ok-push-in-Some.ensures.items ∙ ap (λ l. c.args.path.now.items ++ l ∷ []) c.literal.ensures)
    (c.in_ok-push-in-Some-2.ensures.items ∙ (λ i. popped i ++ c.literal-in-Some.ensures i ∷ []))
    c.in_ok-walk-in-Some.ensures.cubes
    c.in_ok-walk-in-Some-2.ensures.cubes

pub returns-in_ok-push-in-None-clause-cubes : goal.returns-in_ok-push-in-None-clause-cubes
returns-in_ok-push-in-None-clause-cubes t c first rest whole from =
    one_more c.args.dd.now.nodes c.args.number.0 first rest (map (λ (cube : Vec Lit Global). cube.items) c.args.cubes.now.items) _ c.args.path.now.items
    (eqb-true c.args.number.0 1 (sym c.if-eq.ensures))
    (ap (map (λ (cube : Vec Lit Global). cube.items)) c.in_ok-push-in-None.ensures.items
    ∙ map-append (λ (cube : Vec Lit Global). cube.items) c.args.cubes.now.items (c.in_ok-from_slice-in-None.field-0 ∷ [])
    ∙ ap (λ l. map (λ (cube : Vec Lit Global). cube.items) c.args.cubes.now.items ++ l ∷ []) (c.in_ok-from_slice-in-None.ensures.items ∙ c.deref.ensures.value))

pub returns-else-eq-clause-cubes : goal.returns-else-eq-clause-cubes
returns-else-eq-clause-cubes t c first rest whole from =
    none_more c.args.dd.now.nodes c.args.number.0 first rest _ c.args.path.now.items (zero_number c.args.number.0 (c.in-None.ensures.constant.0 refl) c.if-eq.ensures)

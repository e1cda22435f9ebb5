-- A variable that is not listed keeps its value.
use Rattle.std.proofs.Common.{◌∙◌, sym}
use Rattle.dd_nodes.specs.NodeList.{Values}
use Rattle.dd_ops.proofs.ValueLemmas.{ok_then, node_variable}
use Rattle.dd_ops.proofs.SubstLemmas.{replaced_other}
use Rattle.std.proofs.Common.{subst, ℕ, None, List, [], ◌∷◌, is_some, Option, ◌≡◌, cond, ap}
use Rattle.dd_nodes.specs.declared.node.DdErr.TheVariants.{Full}
use Rattle.dd_nodes.specs.declared.node.Ref.{Ref}
use Rattle.dd_nodes.specs.Subfunctions.{Function}
use Rattle.dd_ops.specs.Operations.{variable, listed}
use Rattle.dd_ops.specs.Answers.{IsFullFor, pieces_of_variable}
use Rattle.dd_ops.specs.Growth.{AddsParts}
use Rattle.dd_ops.proofs.GrowthOps.{adds_variable, full_variable, refused_same}
use Rattle.dd_ops.proofs.subst.image.Goals as goal

pub returns-in-None-clause-value : goal.returns-in-None-clause-value
returns-in-None-clause-value c = ok_then c.mk.result c.mk.ensures.function
    (λ r value (values : Values). value values ∙ node_variable c.args.dd.now.nodes c.args.var values
    ∙ replaced_other c.args.dd.now.nodes c.args.images.now.map.now c.args.var (sym c.in-None.ensures) values)

-- a variable that is not listed is the one piece
unlisted : (map : List (ℕ × Ref)) (v : ℕ) → None ≡ listed map v → ◌≡◌ {A = List Function} (variable v ∷ []) (pieces_of_variable map v)
unlisted map v none = ap (λ (o : Option Ref). cond (is_some o) [] (variable v ∷ [])) none

pub returns-in-None-clause-adds : goal.returns-in-None-clause-adds
returns-in-None-clause-adds c = subst (λ (pieces : List Function). AddsParts c.args.dd.now.vars pieces c.args.dd.now.nodes c.mk.new.self.nodes)
    (unlisted c.args.images.now.map.now c.args.var c.in-None.ensures)
    (adds_variable c.args.dd.now c.mk.new.self c.requires.table c.args.var c.mk.ensures.table c.mk.ensures.vars c.mk.result c.mk.ensures.cases c.mk.ensures.function c.mk.ensures.refused)

pub returns-in-None-clause-full : goal.returns-in-None-clause-full
returns-in-None-clause-full c is =
    let facts = c.mk.ensures.full.0 is in
    subst (λ (pieces : List Function). IsFullFor pieces c.mk.new.self) (unlisted c.args.images.now.map.now c.args.var c.in-None.ensures)
    (full_variable c.args.dd.now c.mk.new.self c.requires.table c.args.var c.requires.in_range facts.1 facts.2 facts.0
    (refused_same c.mk.result Full is c.mk.ensures.refused))

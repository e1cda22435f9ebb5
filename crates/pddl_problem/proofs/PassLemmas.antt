-- The passes over a definition, one after the other.
use Rattle.std.proofs.Common.{◌≡◌, List, [], ◌∷◌, ap, ◌∙◌, Some}
use Rattle.std.specs.Prelude.{Option}
use Rattle.sexpr_text.specs.declared.faults.InputFault.{InputFault}
use Rattle.sexpr_text.specs.declared.faults.ReadErr.{ReadErr}
use Rattle.sexpr_text.specs.declared.faults.ReadErr.TheVariants.{Fault, Memory}
use Rattle.sexpr_text.specs.Flaws.{Flaw, first_listed}
use Rattle.sexpr_text.specs.Passes.{IfFault}
use Rattle.pddl_ast.specs.Trees.{ProblemTree}
use Rattle.pddl_problem.specs.Listed.{listed_fault}

-- a pass without flaws is skipped
pub listed-skip : (flaws : List Flaw) (passes : List (List Flaw)) → flaws ≡ [] → listed_fault (flaws ∷ passes) ≡ listed_fault passes
listed-skip flaws passes h = ap (λ fs. listed_fault (fs ∷ passes)) h

-- the fault of the first pass is that of all
listed-first : (flaws : List Flaw) (passes : List (List Flaw)) (f : InputFault) → first_listed flaws ≡ Some f → listed_fault (flaws ∷ passes) ≡ Some f
listed-first [] passes f h = cc
listed-first (g ∷ gs) passes f h = h

pub fault-skip : (flaws : List Flaw) (passes : List (List Flaw)) (e : ReadErr) → flaws ≡ []
    → IfFault e (λ f. listed_fault passes ≡ Some f) → IfFault e (λ f. listed_fault (flaws ∷ passes) ≡ Some f)
fault-skip flaws passes Memory h k = k
fault-skip flaws passes (Fault f) h k = listed-skip flaws passes h ∙ k

pub fault-first : (flaws : List Flaw) (passes : List (List Flaw)) (e : ReadErr)
    → IfFault e (λ f. first_listed flaws ≡ Some f) → IfFault e (λ f. listed_fault (flaws ∷ passes) ≡ Some f)
fault-first flaws passes Memory k = k
fault-first flaws passes (Fault f) k = listed-first flaws passes f k

-- problems with equal parts are equal
pub problem-parts : (p q : ProblemTree) → p.name ≡ q.name → p.objects ≡ q.objects → p.facts ≡ q.facts → p.entries ≡ q.entries → p.goal ≡ q.goal
    → p.ctl ≡ q.ctl → p.place ≡ q.place → p.ctl_place ≡ q.ctl_place → p ≡ q
problem-parts p q a b c d e f g h =
    ap (λ x. record p { name = x }) a
    ∙ (ap (λ x. record p { name = q.name; objects = x }) b
    ∙ (ap (λ x. record p { name = q.name; objects = q.objects; facts = x }) c
    ∙ (ap (λ x. record p { name = q.name; objects = q.objects; facts = q.facts; entries = x }) d
    ∙ (ap (λ x. record p { name = q.name; objects = q.objects; facts = q.facts; entries = q.entries; goal = x }) e
    ∙ (ap (λ x. record p { name = q.name; objects = q.objects; facts = q.facts; entries = q.entries; goal = q.goal; ctl = x }) f
    ∙ (ap (λ x. record p { name = q.name; objects = q.objects; facts = q.facts; entries = q.entries; goal = q.goal; ctl = q.ctl; place = x }) g
    ∙ ap (λ x. record p { name = q.name; objects = q.objects; facts = q.facts; entries = q.entries; goal = q.goal; ctl = q.ctl; place = q.place; ctl_place = x }) h))))))

pub fault-along : (a b : Option InputFault) (e : ReadErr) → a ≡ b → IfFault e (λ f. b ≡ Some f) → IfFault e (λ f. a ≡ Some f)
fault-along a b Memory h k = k
fault-along a b (Fault f) h k = h ∙ k

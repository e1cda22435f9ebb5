-- Relative to a domain every text spells exactly one problem or has exactly one fault.
use Rattle.std.proofs.Common.{◌≡◌, ℕ, ◌⊎◌, inl, inr, List, ap, sym, refl, ◌∙◌, Some, None}
use Rattle.std.specs.Prelude.{Option}
use Rattle.std.specs.Option.{option_map}
use Rattle.sexpr_text.specs.declared.faults.InputFault.{InputFault}
use Rattle.sexpr_text.specs.Flaws.{fault_of_passes}
use Rattle.sexpr_text.specs.Forest.{Forest}
use Rattle.sexpr_text.proofs.OneAnswer.{spells_trees-unique}
use Rattle.sexpr_text.proofs.PassLaws.{answered, not_both, one_fault_by}
use Rattle.pddl_ast.specs.Fits.{known_in}
use Rattle.pddl_ast.specs.Trees.{DomainTree, ProblemTree}
use Rattle.pddl_ast.specs.Definitions.{no_define}
use Rattle.pddl_problem.specs.Problems.{Definition, ReadsAsProblem, IsFlawlessProblem, SpellsProblem, HasProblemFault, definition_in, problem_in, problem_of, problem_passes}
use Rattle.pddl_problem.proofs.Ordered.{no_definition-fault}

-- forms in which no pass lists a flaw read as a problem
problem_from : (d : DomainTree) (forest : Forest) → fault_of_passes (problem_passes d forest) ≡ None → (o : Option Definition) → definition_in forest ≡ o
    → (p : ProblemTree) × (problem_in d forest ≡ Some p)
problem_from d forest h None e =
    let some : fault_of_passes (problem_passes d forest) ≡ Some no_define.fault = no_definition-fault d forest (sym e) in
    let no : None ≡ Some no_define.fault = sym h ∙ some in
    absurd (cc)
problem_from d forest h (Some def) e = (problem_of (known_in d) def, ap (option_map (problem_of (known_in d))) e)

pub spelled_or_faulty : (b : List ℕ) (d : DomainTree) → ((p : ProblemTree) × SpellsProblem b d p) ⊎ ((f : InputFault) × HasProblemFault b d f)
spelled_or_faulty b d = elim (answered (problem_passes d) b) [
  | inl h ↦ (let p = problem_from d h.0 h.1.sound (definition_in h.0) refl in inl (p.0, record { reads = (h.0, h.1.spelled, p.1); flawless = (h.0, h.1.spelled, h.1.sound) }))
  | inr h ↦ inr h
]

pub one_problem : (b : List ℕ) (d : DomainTree) (p q : ProblemTree) → SpellsProblem b d p → SpellsProblem b d q → p ≡ q
one_problem b d p q h k = by h.reads k.reads
  where
    by : ReadsAsProblem b d p → ReadsAsProblem b d q → p ≡ q
    by (trees, s, e) (others, t, f) =
        let same : trees ≡ others = spells_trees-unique b trees others s t in
        let both : Some p ≡ Some q = sym e ∙ (ap (problem_in d) same ∙ f) in
        cc

pub one_fault : (b : List ℕ) (d : DomainTree) (f g : InputFault) → HasProblemFault b d f → HasProblemFault b d g → f ≡ g
one_fault b d f g = one_fault_by (problem_passes d) b f g

pub never_both : (b : List ℕ) (d : DomainTree) (p : ProblemTree) (f : InputFault) → SpellsProblem b d p → HasProblemFault b d f → ⊥
never_both b d p f h g = by h.flawless
  where
    by : IsFlawlessProblem b d → ⊥
    by (trees, s, none) = not_both (problem_passes d) b trees f (record { spelled = s; sound = none }) g

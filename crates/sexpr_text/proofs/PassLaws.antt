-- Every text spells forms without a flaw or has exactly one fault, whatever the passes.
use Rattle.std.proofs.Common.{◌≡◌, ℕ, ◌⊎◌, inl, inr, List, refl, ap, ◌∙◌}
use Rattle.std.specs.Prelude.{Option, Some, None}
use Rattle.sexpr_text.specs.declared.faults.InputFault.{InputFault}
use Rattle.sexpr_text.specs.Forest.{Forest}
use Rattle.sexpr_text.specs.Spelling.{SpellsTrees}
use Rattle.sexpr_text.specs.Flaws.{Flaw, fault_of_passes}
use Rattle.sexpr_text.specs.Passes.{HasFaultBy}
use Rattle.sexpr_text.specs.Ordered.{IsFlawless}
use Rattle.sexpr_text.proofs.OneAnswer.{spells_trees-unique, fault-no_spelling, fault-unique, spelled_or_faulty}

abbrev pub Answered : (Forest → List (List Flaw)) → List ℕ → Type 0
Answered passes b = ((trees : Forest) × IsFlawless passes b trees) ⊎ ((f : InputFault) × HasFaultBy passes b f)

by_passes : (passes : Forest → List (List Flaw)) (b : List ℕ) (trees : Forest) → SpellsTrees b trees
    → (o : Option InputFault) → fault_of_passes (passes trees) ≡ o → Answered passes b
by_passes passes b trees s None e = inl (trees, record { spelled = s; sound = e })
by_passes passes b trees s (Some f) e = inr (f, inr (trees, s, e))

pub answered : (passes : Forest → List (List Flaw)) (b : List ℕ) → Answered passes b
answered passes b =
    elim (spelled_or_faulty b) [ inl s ↦ by_passes passes b s.0 s.1 (fault_of_passes (passes s.0)) refl | inr f ↦ inr (f.0, inl f.1) ]

pub not_both : (passes : Forest → List (List Flaw)) (b : List ℕ) (trees : Forest) (f : InputFault)
    → IsFlawless passes b trees → HasFaultBy passes b f → ⊥
not_both passes b trees f g (inl h) = fault-no_spelling b f trees h g.spelled
not_both passes b trees f g (inr (other, s, e)) =
    let same : trees ≡ other = spells_trees-unique b trees other g.spelled s in
    let none : fault_of_passes (passes trees) ≡ None = g.sound in
    let some : fault_of_passes (passes trees) ≡ Some f = ap (λ t. fault_of_passes (passes t)) same ∙ e in
    cc

pub one_fault_by : (passes : Forest → List (List Flaw)) (b : List ℕ) (f g : InputFault) → HasFaultBy passes b f → HasFaultBy passes b g → f ≡ g
one_fault_by passes b f g (inl h) (inl k) = fault-unique b f g h k
one_fault_by passes b f g (inl h) (inr (other, s, e)) = absurd (fault-no_spelling b f other h s)
one_fault_by passes b f g (inr (trees, r, e)) (inl k) = absurd (fault-no_spelling b g trees k r)
one_fault_by passes b f g (inr (trees, r, e)) (inr (other, s, k)) =
    let same : trees ≡ other = spells_trees-unique b trees other r s in
    let some : fault_of_passes (passes trees) ≡ Some g = ap (λ t. fault_of_passes (passes t)) same ∙ k in
    cc

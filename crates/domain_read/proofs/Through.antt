-- The passes over a text are those over its forms and then those over the forms that they mean; and
-- what the plain text reads as, the text reads as.
use Rattle.std.proofs.Common.{◌≡◌, ℕ, inl, inr, List, [], ◌∷◌, ◌++◌, refl, ◌∙◌, ap}
use Rattle.std.specs.Prelude.{Result, Ok, Err, IfOk, IfErr, Some, None}
use Rattle.sexpr_text.specs.declared.faults.InputFault.{InputFault}
use Rattle.sexpr_text.specs.declared.faults.ReadErr.{ReadErr}
use Rattle.sexpr_text.specs.declared.faults.ReadErr.TheVariants.{Fault, Memory}
use Rattle.sexpr_text.specs.Forest.{Forest}
use Rattle.sexpr_text.specs.Spelling.{SpellsTrees}
use Rattle.sexpr_text.specs.Flaws.{Flaw, first_of, fault_of_passes}
use Rattle.sexpr_text.specs.Passes.{IfFault}
use Rattle.sexpr_text.proofs.OneAnswer.{spells_trees-unique, fault-no_spelling}
use Rattle.domain_read.specs.Meant.{plain_trees}
use Rattle.domain_read.specs.Plain.{plain_passes, IsPlainOf, HasPlainFault}
use Rattle.pddl_ast.specs.declared.trees.Domain.{Domain}
use Rattle.pddl_ast.specs.Trees.{DomainTree}
use Rattle.pddl_ast.specs.Values.{domain_value}
use Rattle.pddl_domain.specs.Domains.{domain_passes, domain_tree, SpellsPlainDomain, HasPlainDomainFault}
use Rattle.domain_read.proofs.PlainAnswered.{some_fault}
use Rattle.domain_read.specs.Domains.{whole_passes, ReadsAsDomain, IsFlawlessDomain, SpellsDomain, HasDomainFault}

-- after passes without flaws, the fault is that of the later passes
pub later_fault : (passes others : List (List Flaw)) → fault_of_passes passes ≡ None → fault_of_passes (passes ++ others) ≡ fault_of_passes others
unfolding fault_of_passes
later_fault [] others h = refl
later_fault ([] ∷ passes) others h = later_fault passes others h
later_fault ((f ∷ fs) ∷ passes) others h = absurd (some_fault f fs passes h)

-- the fault of earlier passes is that of all
pub earlier_fault : (passes others : List (List Flaw)) (fault : InputFault) → fault_of_passes passes ≡ Some fault
    → fault_of_passes (passes ++ others) ≡ Some fault
unfolding fault_of_passes
earlier_fault [] others fault h = cc
earlier_fault ([] ∷ passes) others fault h = earlier_fault passes others fault h
earlier_fault ((f ∷ fs) ∷ passes) others fault h = h

-- the fault of the forms that are meant is that of all passes
meant_fault : (b text : List ℕ) (p : IsPlainOf b text) (forms : Forest) → SpellsTrees text forms
    → fault_of_passes (whole_passes p.trees) ≡ fault_of_passes (domain_passes forms)
meant_fault b text p forms s =
    later_fault (plain_passes p.trees) (domain_passes (plain_trees p.trees)) p.sound
    ∙ ap (λ t. fault_of_passes (domain_passes t)) (spells_trees-unique text (plain_trees p.trees) forms p.means s)

spelled : (b text : List ℕ) (d : DomainTree) → IsPlainOf b text → SpellsPlainDomain text d → SpellsDomain b d
spelled b text d p h = record { reads = reads h.reads; flawless = flawless h.flawless }
  where
    reads : ((forms : Forest) × SpellsTrees text forms × (domain_tree forms ≡ d)) → ReadsAsDomain b d
    reads (forms, s, e) =
        (p.trees, p.spelled, ap domain_tree (spells_trees-unique text (plain_trees p.trees) forms p.means s) ∙ e)

    flawless : ((forms : Forest) × SpellsTrees text forms × (fault_of_passes (domain_passes forms) ≡ None)) → IsFlawlessDomain b
    flawless (forms, s, e) = (p.trees, p.spelled, meant_fault b text p forms s ∙ e)

faulty : (b text : List ℕ) (f : InputFault) → IsPlainOf b text → HasPlainDomainFault text f → HasDomainFault b f
faulty b text f p (inl h) = absurd (fault-no_spelling text f (plain_trees p.trees) h p.means)
faulty b text f p (inr (forms, s, e)) = inr (p.trees, p.spelled, meant_fault b text p forms s ∙ e)

not_plain : (b : List ℕ) (f : InputFault) → HasPlainFault b f → HasDomainFault b f
not_plain b f (inl h) = inl h
not_plain b f (inr (trees, s, e)) =
    inr (trees, s, earlier_fault (plain_passes trees) (domain_passes (plain_trees trees)) f e)

pub read_spelled : (b text : List ℕ) → IsPlainOf b text → (r : Result Domain ReadErr)
    → IfOk r (λ d. SpellsPlainDomain text (domain_value d)) → IfOk r (λ d. SpellsDomain b (domain_value d))
read_spelled b text p (Ok d) h = spelled b text (domain_value d) p h
read_spelled b text p (Err e) h = tt

fault_meant : (b text : List ℕ) → IsPlainOf b text → (e : ReadErr)
    → IfFault e (λ f. HasPlainDomainFault text f) → IfFault e (λ f. HasDomainFault b f)
fault_meant b text p (Fault f) h = faulty b text f p h
fault_meant b text p Memory h = tt

pub read_faulty : (b text : List ℕ) → IsPlainOf b text → (r : Result Domain ReadErr)
    → IfErr r (λ e. IfFault e (λ f. HasPlainDomainFault text f)) → IfErr r (λ e. IfFault e (λ f. HasDomainFault b f))
read_faulty b text p (Ok d) h = tt
read_faulty b text p (Err e) h = fault_meant b text p e h

fault_written : (b : List ℕ) (e : ReadErr) → IfFault e (λ f. HasPlainFault b f) → IfFault e (λ f. HasDomainFault b f)
fault_written b (Fault f) h = not_plain b f h
fault_written b Memory h = tt

pub plain_faulty : {X : Type 0} → (b : List ℕ) (r : Result X ReadErr)
    → IfErr r (λ e. IfFault e (λ f. HasPlainFault b f)) → IfErr r (λ e. IfFault e (λ f. HasDomainFault b f))
plain_faulty b (Ok text) h = tt
plain_faulty b (Err e) h = fault_written b e h

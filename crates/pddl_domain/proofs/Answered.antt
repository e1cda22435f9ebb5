-- Every text spells exactly one domain or has exactly one fault, and the reader gives it.
use Rattle.std.proofs.Common.{◌≡◌, ℕ, ◌⊎◌, inl, inr, List, [], refl, sym, ◌∙◌, ap, Some}
use Rattle.std.specs.Prelude.{Result, Ok, Err, IfOk, IfErr, OnOk}
use Rattle.sexpr_text.specs.declared.faults.InputFault.{InputFault}
use Rattle.sexpr_text.specs.declared.faults.ReadErr.{ReadErr}
use Rattle.sexpr_text.specs.declared.faults.ReadErr.TheVariants.{Fault, Memory}
use Rattle.sexpr_text.specs.Forest.{Forest}
use Rattle.sexpr_text.specs.Formed.{IsRising}
use Rattle.sexpr_text.specs.Spelling.{SpellsTrees}
use Rattle.sexpr_text.specs.Flaws.{fault_of_passes, first_listed}
use Rattle.sexpr_text.specs.Passes.{IfFault}
use Rattle.sexpr_text.proofs.OneAnswer.{spells_trees-unique}
use Rattle.sexpr_text.proofs.PassLaws.{answered, not_both, one_fault_by}
use Rattle.pddl_ast.specs.declared.trees.Domain.{Domain}
use Rattle.pddl_ast.specs.Trees.{DomainTree}
use Rattle.pddl_ast.specs.Values.{domain_value}
use Rattle.pddl_domain.specs.Domains.{domain_passes, domain_tree, ReadsAsPlainDomain, IsFlawlessPlainDomain, SpellsPlainDomain, HasPlainDomainFault}
use Rattle.pddl_domain.specs.Reading.{domain_flaws, tree_of}
use Rattle.pddl_domain.specs.Sections.{defined_name, sections_of}
use Rattle.pddl_domain.proofs.PassLemmas.{fault_in_turn, domain_in_turn, tree_is}
use Rattle.pddl_domain.proofs.Orders.{Laws, domain-ordered}

pub spelled_or_faulty : (b : List ℕ) → ((d : DomainTree) × SpellsPlainDomain b d) ⊎ ((f : InputFault) × HasPlainDomainFault b f)
spelled_or_faulty b = elim (answered domain_passes b) [
  | inl h ↦ inl (domain_tree h.0, record { reads = (h.0, h.1.spelled, refl); flawless = (h.0, h.1.spelled, h.1.sound) })
  | inr h ↦ inr h
]

pub one_domain : (b : List ℕ) (d e : DomainTree) → SpellsPlainDomain b d → SpellsPlainDomain b e → d ≡ e
one_domain b d e h k = same h.reads k.reads
  where
    same : ReadsAsPlainDomain b d → ReadsAsPlainDomain b e → d ≡ e
    same (trees, s, x) (others, t, y) = sym x ∙ (ap domain_tree (spells_trees-unique b trees others s t) ∙ y)

pub one_fault : (b : List ℕ) (f g : InputFault) → HasPlainDomainFault b f → HasPlainDomainFault b g → f ≡ g
one_fault b f g = one_fault_by domain_passes b f g

pub never_both : (b : List ℕ) (d : DomainTree) (f : InputFault) → SpellsPlainDomain b d → HasPlainDomainFault b f → ⊥
never_both b d f h g = by h.flawless
  where
    by : IsFlawlessPlainDomain b → ⊥
    by (trees, s, none) = not_both domain_passes b trees f (record { spelled = s; sound = none }) g

-- the fault of the passes is the first flaw that the reader meets
met : Laws → (forms : Forest) (size : ℕ) → IsRising 0 size forms → fault_of_passes (domain_passes forms) ≡ first_listed (domain_flaws forms)
met laws forms size rising =
    fault_in_turn (domain_passes forms) (domain-ordered laws forms (record { lo = 0; hi = size; rising = rising }))
    ∙ ap first_listed (sym (domain_in_turn forms))

pub read_spelled : Laws → (b : List ℕ) (forms : Forest) (size : ℕ) → SpellsTrees b forms → IsRising 0 size forms → (r : Result Domain ReadErr)
    → OnOk r (domain_flaws forms ≡ []) → IfOk r (λ d. domain_value d ≡ tree_of (defined_name forms) (sections_of forms))
    → IfOk r (λ d. SpellsPlainDomain b (domain_value d))
read_spelled laws b forms size spelled rising (Ok d) sound read =
    record {
      reads = (forms, spelled, sym (read ∙ tree_is forms));
      flawless = (forms, spelled, met laws forms size rising ∙ ap first_listed sound);
    }
read_spelled laws b forms size spelled rising (Err e) sound read = tt

faulty : Laws → (b : List ℕ) (forms : Forest) (size : ℕ) → SpellsTrees b forms → IsRising 0 size forms → (e : ReadErr)
    → IfFault e (λ f. first_listed (domain_flaws forms) ≡ Some f) → IfFault e (λ f. HasPlainDomainFault b f)
faulty laws b forms size spelled rising (Fault f) h = inr (forms, spelled, met laws forms size rising ∙ h)
faulty laws b forms size spelled rising Memory h = tt

pub read_faulty : Laws → (b : List ℕ) (forms : Forest) (size : ℕ) → SpellsTrees b forms → IsRising 0 size forms → (r : Result Domain ReadErr)
    → IfErr r (λ e. IfFault e (λ f. first_listed (domain_flaws forms) ≡ Some f)) → IfErr r (λ e. IfFault e (λ f. HasPlainDomainFault b f))
read_faulty laws b forms size spelled rising (Ok d) h = tt
read_faulty laws b forms size spelled rising (Err e) h = faulty laws b forms size spelled rising e h

-- Every text spells exactly one domain or has exactly one fault.
use Rattle.std.proofs.Common.{◌≡◌, ℕ, ◌⊎◌, inl, inr, List, refl, sym, ◌∙◌, ap}
use Rattle.sexpr_text.specs.declared.faults.InputFault.{InputFault}
use Rattle.sexpr_text.proofs.OneAnswer.{spells_trees-unique}
use Rattle.sexpr_text.proofs.PassLaws.{answered, not_both, one_fault_by}
use Rattle.pddl_ast.specs.Trees.{DomainTree}
use Rattle.domain_read.specs.Domains.{whole_passes, whole_tree, ReadsAsDomain, IsFlawlessDomain, SpellsDomain, HasDomainFault}

pub spelled_or_faulty : (b : List ℕ) → ((d : DomainTree) × SpellsDomain b d) ⊎ ((f : InputFault) × HasDomainFault b f)
spelled_or_faulty b = elim (answered whole_passes b) [
  | inl h ↦ inl (whole_tree h.0, record { reads = (h.0, h.1.spelled, refl); flawless = (h.0, h.1.spelled, h.1.sound) })
  | inr h ↦ inr h
]

pub one_domain : (b : List ℕ) (d e : DomainTree) → SpellsDomain b d → SpellsDomain b e → d ≡ e
one_domain b d e h k = same h.reads k.reads
  where
    same : ReadsAsDomain b d → ReadsAsDomain b e → d ≡ e
    same (trees, s, x) (others, t, y) = sym x ∙ (ap whole_tree (spells_trees-unique b trees others s t) ∙ y)

pub one_fault : (b : List ℕ) (f g : InputFault) → HasDomainFault b f → HasDomainFault b g → f ≡ g
one_fault b f g = one_fault_by whole_passes b f g

pub never_both : (b : List ℕ) (d : DomainTree) (f : InputFault) → SpellsDomain b d → HasDomainFault b f → ⊥
never_both b d f h g = by h.flawless
  where
    by : IsFlawlessDomain b → ⊥
    by (trees, s, none) = not_both whole_passes b trees f (record { spelled = s; sound = none }) g

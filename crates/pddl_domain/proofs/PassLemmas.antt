-- Passes in turn: the first flaw of the first pass that has one.
use Rattle.std.proofs.Common.{◌≡◌, ℕ, List, Some, [], ◌∷◌, ◌++◌, refl, sym, ◌∙◌, ap, append_assoc}
use Rattle.sexpr_text.specs.Forest.{Forest, nothing, word, group}
use Rattle.sexpr_text.specs.Flaws.{Flaw, fault_of_passes, first_listed, IsInOrder}
use Rattle.sexpr_text.specs.Passes.{IfFault}
use Rattle.sexpr_text.specs.declared.faults.ReadErr.{ReadErr}
use Rattle.sexpr_text.specs.declared.faults.ReadErr.TheVariants.{Fault, Memory}
use Rattle.sexpr_text.proofs.FlawLaws.{in_order-first_of, listed-earlier}
use Rattle.pddl_ast.specs.Known.{Known}
use Rattle.pddl_domain.specs.Actions.{action_in, actions_passes, schemas_of, section_passes, names_after, section_schemas}
use Rattle.pddl_domain.specs.ActionParts.{in_turn, section_flaws, section_names, section_actions, actions_flaws, all_actions}
use Rattle.pddl_domain.specs.Domains.{domain_passes, domain_tree, types_section, constants_section, predicates_section, invariant_section, types_in, known_of}
use Rattle.pddl_domain.specs.Reading.{typed_flaws, declared_flaws, vocabulary_flaws, stated_flaws, contents_flaws, all_section_flaws, domain_flaws, tree_of}
use Rattle.pddl_domain.specs.Sections.{definition_flaws, defined_name, sections_of, sections_flaws, none_came}
use Rattle.pddl_domain.specs.Types.{types_flaws, loop_flaws}
use Rattle.pddl_domain.specs.Constants.{constants_flaws, predicates_flaws}
use Rattle.pddl_domain.specs.Invariant.{invariant_flaws}

-- a pass whose flaws are listed in the order of the text
pub record IsOrdered (flaws : List Flaw) : Type 0 where
  pub lo : ℕ
  pub hi : ℕ
  pub order : IsInOrder lo hi flaws

abbrev pub AreOrdered : List (List Flaw) → Type 0
AreOrdered [] = Unit {0}
AreOrdered (pass ∷ passes) = IsOrdered pass × AreOrdered passes

pub ordered-append : (ps qs : List (List Flaw)) → AreOrdered ps → AreOrdered qs → AreOrdered (ps ++ qs)
ordered-append [] qs h g = g
ordered-append (p ∷ ps) qs h g = (h.0, ordered-append ps qs h.1 g)

pub in_turn-append : (ps qs : List (List Flaw)) → in_turn (ps ++ qs) ≡ in_turn ps ++ in_turn qs
in_turn-append [] qs = refl
in_turn-append (p ∷ ps) qs = ap (λ fs. p ++ fs) (in_turn-append ps qs) ∙ sym (append_assoc p (in_turn ps) (in_turn qs))

-- the fault of passes is the first flaw of all of them in turn
pub fault_in_turn : (ps : List (List Flaw)) → AreOrdered ps → fault_of_passes ps ≡ first_listed (in_turn ps)
unfolding fault_of_passes
fault_in_turn [] h = refl
fault_in_turn ([] ∷ ps) h = fault_in_turn ps h.1
fault_in_turn ((f ∷ fs) ∷ ps) h = in_order-first_of h.0.lo h.0.hi (f ∷ fs) h.0.order

-- the flaws of all actions
pub actions_in_turn : (known : Known) (forms : Forest) (before : List (List ℕ)) → actions_flaws known before forms ≡ in_turn (actions_passes known before forms)
unfolding section_flaws section_names
actions_in_turn known nothing before = refl
actions_in_turn known (word span w rest) before = actions_in_turn known rest before
actions_in_turn known (group span parts rest) before =
    ap (λ fs. in_turn (section_passes known before span (action_in parts)) ++ fs) (actions_in_turn known rest (names_after before (action_in parts)))
    ∙ sym (in_turn-append (section_passes known before span (action_in parts)) (actions_passes known (names_after before (action_in parts)) rest))

pub actions_read : (known : Known) (forms : Forest) → all_actions known forms ≡ schemas_of known forms
unfolding section_actions
actions_read known nothing = refl
actions_read known (word span w rest) = actions_read known rest
actions_read known (group span parts rest) = ap (λ ss. section_schemas known (action_in parts) ++ ss) (actions_read known rest)

regroup : (d s t l c p i a : List Flaw) → d ++ (s ++ (((t ++ l) ++ (c ++ p)) ++ (i ++ a))) ≡ d ++ (s ++ (t ++ (l ++ (c ++ (p ++ (i ++ a))))))
regroup d s t l c p i a = simp append_assoc

-- the flaws of a text, as the reader meets them
pub domain_in_turn : (forms : Forest) → domain_flaws forms ≡ in_turn (domain_passes forms)
unfolding domain_flaws all_section_flaws contents_flaws stated_flaws vocabulary_flaws declared_flaws typed_flaws
domain_in_turn forms =
    let sections = sections_of forms in
    regroup (definition_flaws forms) (sections_flaws none_came sections) (types_flaws (types_section sections)) (loop_flaws (types_section sections))
    (constants_flaws (types_in sections) (constants_section sections)) (predicates_flaws (types_in sections) [] (predicates_section sections))
    (invariant_flaws (known_of sections) (invariant_section sections)) (actions_flaws (known_of sections) [] sections)
    ∙ ap
    (λ fs. definition_flaws forms ++ (sections_flaws none_came sections ++ (types_flaws (types_section sections) ++ (loop_flaws (types_section sections)
    ++ (constants_flaws (types_in sections) (constants_section sections) ++ (predicates_flaws (types_in sections) [] (predicates_section sections)
    ++ (invariant_flaws (known_of sections) (invariant_section sections) ++ fs)))))))
    (actions_in_turn (known_of sections) sections [])

pub tree_is : (forms : Forest) → tree_of (defined_name forms) (sections_of forms) ≡ domain_tree forms
unfolding tree_of
tree_is forms = ap (λ actions. record (domain_tree forms) { actions = actions }) (actions_read (known_of (sections_of forms)) (sections_of forms))

-- a flaw that is listed first is the first of a longer list, too
pub fault-earlier : (fs gs : List Flaw) (e : ReadErr)
    → IfFault e (λ f. first_listed fs ≡ Some f) → IfFault e (λ f. first_listed (fs ++ gs) ≡ Some f)
fault-earlier fs gs Memory k = k
fault-earlier fs gs (Fault f) k = listed-earlier fs gs f k

-- How far a loop over the sets of a certificate, over a set's cubes, or over the actions is.
use Rattle.std.proofs.Common.{◌≡◌, true, false, ◌||◌, List, [], ◌∷◌, map, sym, ap, subst, ◌∙◌}
use Rattle.dd_nodes.specs.Subfunctions.{Function}
use Rattle.dd_ops.specs.Operations.{or_of}
use Rattle.dd_sets.specs.declared.slots.SetId.{SetId}
use Rattle.encode_task.specs.Slots.{Encoded}
use Rattle.task_core.specs.declared.classes.Class.{Class}
use Rattle.plan_certs.specs.Named.{set_of}
use Rattle.plan_certs.specs.declared.certificates.StateSet.{StateSet}
use Rattle.slot_board.specs.Board.{Start}
use Rattle.cert_check.specs.Sets.{IsKept, is_left, some_is_left, states_in}
use Rattle.cert_check.specs.Sizes.{HasUnion, LeaveFits, SetsFit, union_after}
use Rattle.cert_check.proofs.KeptLemmas.{next_kept}

-- the sets so far are joined to the union, and those that are left can be
pub record Joined (start : Start) (class : Class) (now : Encoded) (slots : List SetId) (f : Function) (rest sets : List StateSet) : Type 0 where
  pub here : Function
  pub union : HasUnion start now slots here
  pub fits : SetsFit start class here (map set_of rest)
  pub leads : union_after start.task here (map set_of rest) ≡ union_after start.task f (map set_of sets)

pub next_fits : (start : Start) (class : Class) (here : Function) (sets rest : List StateSet) (x : StateSet) → sets ≡ x ∷ rest → SetsFit start class here (map set_of sets) → LeaveFits start class here (set_of x)
next_fits start class here sets rest x more fits = (subst (λ (s : List StateSet). SetsFit start class here (map set_of s)) more fits).0

later_fit : (start : Start) (class : Class) (here : Function) (sets rest : List StateSet) (x : StateSet) → sets ≡ x ∷ rest → SetsFit start class here (map set_of sets) → SetsFit start class (or_of here (states_in start.task (set_of x))) (map set_of rest)
later_fit start class here sets rest x more fits = (subst (λ (s : List StateSet). SetsFit start class here (map set_of s)) more fits).1

pub joined_more : (start : Start) (class : Class) (enc now : Encoded) (old new : List SetId) (f : Function) (sets rest all : List StateSet) (x : StateSet) → sets ≡ x ∷ rest → (half : Joined start class enc old f sets all)
    → HasUnion start now new (or_of half.here (states_in start.task (set_of x))) → Joined start class now new f rest all
joined_more start class enc now old new f sets rest all x more half union = record {
  here = or_of half.here (states_in start.task (set_of x));
  union = union;
  fits = later_fit start class half.here sets rest x more half.fits;
  leads = sym (ap (λ (s : List StateSet). union_after start.task half.here (map set_of s)) more) ∙ half.leads;
}

pub joined_all : (start : Start) (class : Class) (now : Encoded) (slots : List SetId) (f : Function) (sets all : List StateSet) → sets ≡ [] → Joined start class now slots f sets all → HasUnion start now slots (union_after start.task f (map set_of all))
joined_all start class now slots f sets all none half =
    subst (HasUnion start now slots) (sym (ap (λ (s : List StateSet). union_after start.task half.here (map set_of s)) none) ∙ half.leads) half.union

-- the sets so far have no way out
pub record Looked (start : Start) (class : Class) (now : Encoded) (slots : List SetId) (f : Function) (rest sets : List StateSet) : Type 0 where
  pub here : Function
  pub union : HasUnion start now slots here
  pub fits : SetsFit start class here (map set_of rest)
  pub kept : IsKept class start.task here
  pub leads : some_is_left class start.task here (map set_of rest) ≡ some_is_left class start.task f (map set_of sets)

-- the next set has one
pub looked_found : (start : Start) (class : Class) (now : Encoded) (slots : List SetId) (f : Function) (sets rest all : List StateSet) (x : StateSet) → sets ≡ x ∷ rest → (half : Looked start class now slots f sets all)
    → true ≡ is_left class start.task half.here (set_of x) → true ≡ some_is_left class start.task f (map set_of all)
looked_found start class now slots f sets rest all x more half found =
    ap (λ b. b || some_is_left class start.task (or_of half.here (states_in start.task (set_of x))) (map set_of rest)) found
    ∙ sym (ap (λ (s : List StateSet). some_is_left class start.task half.here (map set_of s)) more) ∙ half.leads

-- it has none
pub looked_more : (start : Start) (class : Class) (enc now : Encoded) (old new : List SetId) (f : Function) (sets rest all : List StateSet) (x : StateSet) → sets ≡ x ∷ rest → (half : Looked start class enc old f sets all)
    → false ≡ is_left class start.task half.here (set_of x) → HasUnion start now new (or_of half.here (states_in start.task (set_of x))) → Looked start class now new f rest all
looked_more start class enc now old new f sets rest all x more half none union = record {
  here = or_of half.here (states_in start.task (set_of x));
  union = union;
  fits = later_fit start class half.here sets rest x more half.fits;
  kept = next_kept class start.task half.here (set_of x) half.kept none;
  leads = ap (λ b. b || some_is_left class start.task (or_of half.here (states_in start.task (set_of x))) (map set_of rest)) none
      ∙ sym (ap (λ (s : List StateSet). some_is_left class start.task half.here (map set_of s)) more) ∙ half.leads;
}

pub looked_all : (start : Start) (class : Class) (now : Encoded) (slots : List SetId) (f : Function) (sets all : List StateSet) → sets ≡ [] → Looked start class now slots f sets all → false ≡ some_is_left class start.task f (map set_of all)
looked_all start class now slots f sets all none half = sym (ap (λ (s : List StateSet). some_is_left class start.task half.here (map set_of s)) none) ∙ half.leads

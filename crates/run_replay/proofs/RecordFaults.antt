-- The fault of a text of which a record is read.
use Rattle.std.proofs.Common.{◌≡◌, ℕ, ◌+◌, List, [], ◌∷◌, Some, Result, Ok, Err, IfErr, inr}
use Rattle.sexpr_text.specs.declared.faults.InputFault.{InputFault}
use Rattle.sexpr_text.specs.declared.faults.ReadErr.{ReadErr}
use Rattle.sexpr_text.specs.declared.faults.ReadErr.TheVariants.{Fault, Memory}
use Rattle.sexpr_text.specs.Forest.{Forest}
use Rattle.sexpr_text.specs.Formed.{IsRising}
use Rattle.sexpr_text.specs.Flaws.{Flaw, IsInOrder, fault_of_passes, first_listed}
use Rattle.sexpr_text.specs.Spelling.{SpellsTrees}
use Rattle.sexpr_text.specs.Passes.{IfFault}
use Rattle.run_replay.specs.Records.{HasRecordFault, flaws_of_found, is_record}
use Rattle.run_replay.proofs.RecordOrder.{text_in_order}

map_fault : {X : Type 0} (P Q : InputFault → Type 0) (r : Result X ReadErr) → ((f : InputFault) → P f → Q f)
    → IfErr r (λ e. IfFault e P) → IfErr r (λ e. IfFault e Q)
map_fault P Q (Ok x) h p = tt
map_fault P Q (Err (Fault f)) h p = h f p
map_fault P Q (Err Memory) h p = tt

-- the fault of a pass whose flaws are in order, where no pass comes before it
abbrev pub FirstPass : Type 0
FirstPass = (lo hi : ℕ) (flaws : List Flaw) (passes : List (List Flaw)) (fault : InputFault)
    → IsInOrder lo hi flaws → first_listed flaws ≡ Some fault → fault_of_passes (flaws ∷ passes) ≡ Some fault

pub record_fault : {X : Type 0} (r : Result X ReadErr) (b : List ℕ) (hi : ℕ) (trees : Forest) → FirstPass
    → SpellsTrees b trees → IsRising 0 hi trees
    → IfErr r (λ e. IfFault e (λ f. first_listed (flaws_of_found (is_record trees)) ≡ Some f))
    → IfErr r (λ e. IfFault e (λ f. HasRecordFault b f))
record_fault r b hi trees first spelled rising listed =
    map_fault (λ f. first_listed (flaws_of_found (is_record trees)) ≡ Some f) (λ f. HasRecordFault b f) r
    (λ f is. inr (trees, spelled, first 0 (hi + 1) (flaws_of_found (is_record trees)) [] f (text_in_order hi trees rising) is)) listed

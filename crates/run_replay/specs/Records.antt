-- Records of runs: `(record NUMBER NUMBER ..)`, the number of the initial state, counted from 0,
-- and then the outcome numbers. The first list of a text that begins with the word `record` is the
-- record; everything else is passed over.
use Rattle.std.specs.Prelude.{ℕ, if◌then◌else◌, List, [], ◌∷◌, ◌++◌, Option, Some, None, codes}
use Rattle.std.specs.Option.{unwrap_or, option_map_or}
use Rattle.sexpr_text.specs.declared.forms.Span.{Span}
use Rattle.sexpr_text.specs.declared.forms.Place.{Place}
use Rattle.sexpr_text.specs.declared.faults.InputFault.{InputFault}
use Rattle.sexpr_text.specs.declared.faults.FaultKind.TheVariants.{NoDefine, BadForm, BadNumber}
use Rattle.sexpr_text.specs.Forest.{Forest, nothing, word, group}
use Rattle.sexpr_text.specs.Flaws.{Flaw, flaw_at}
use Rattle.sexpr_text.specs.Numerals.{is_numeral, numeral}
use Rattle.sexpr_text.specs.Parts.{after_first, begins_with, first_group_with}
use Rattle.sexpr_text.specs.Passes.{SpellsBy, HasFaultBy}
use Rattle.run_replay.specs.declared.records.Recorded.{Recorded}

-- everything that is wrong in a row of numerals: a list is BadForm at it, another word BadNumber
abbrev pub numbers_flaws : Forest → List Flaw
numbers_flaws nothing = []
numbers_flaws (word span text rest) =
    (if is_numeral text then [] else flaw_at span BadNumber ∷ []) ++ numbers_flaws rest
numbers_flaws (group span parts rest) = flaw_at span BadForm ∷ numbers_flaws rest

-- the numbers of a row of numerals
abbrev pub numbers_of : Forest → List ℕ
numbers_of nothing = []
numbers_of (word span text rest) = unwrap_or (numeral text) 0 ∷ numbers_of rest
numbers_of (group span parts rest) = numbers_of rest

-- what is wrong with the numbers of the record that the list with this span is
abbrev pub record_flaws : Span → Forest → List Flaw
record_flaws span nothing = flaw_at span BadForm ∷ []
record_flaws span (word s text rest) = numbers_flaws (word s text rest)
record_flaws span (group s parts rest) = numbers_flaws (group s parts rest)

-- the place where a text begins, and what is wrong there with one that has no record
abbrev pub start : Place
start = record { line = 1; column = 1 }

abbrev pub no_record : Flaw
no_record = record { offset = 0; fault = record { kind = NoDefine; place = start } }

-- the record of a text: the span of its list, and the row that follows the word `record`
abbrev pub is_record : Forest → Option (Span × Forest)
is_record = first_group_with (begins_with (codes "record"))

abbrev pub flaws_of_found : Option (Span × Forest) → List Flaw
flaws_of_found None = no_record ∷ []
flaws_of_found (Some found) = record_flaws found.0 (after_first found.1)

-- everything that is wrong in a text of which a record is read, in one pass
abbrev pub record_passes : Forest → List (List Flaw)
record_passes trees = flaws_of_found (is_record trees) ∷ []

-- what a record says: the number of the initial state with its place, and the outcome numbers
pub record RecordTree : Type 0 where
  pub first : ℕ
  pub first_place : Place
  pub words : List ℕ

abbrev pub recorded_row : Forest → RecordTree
recorded_row nothing = record { first = 0; first_place = start; words = [] }
recorded_row (word span text rest) = record {
  first = unwrap_or (numeral text) 0;
  first_place = span.place;
  words = numbers_of rest;
}
recorded_row (group span parts rest) = record {
  first = 0;
  first_place = span.place;
  words = numbers_of rest;
}

abbrev pub recorded_in : Forest → RecordTree
recorded_in trees = option_map_or (λ (found : Span × Forest). recorded_row (after_first found.1))
    (is_record trees) (recorded_row nothing)

-- the bytes spell this record
abbrev pub SpellsRecord : List ℕ → RecordTree → Type 0
SpellsRecord = SpellsBy record_passes recorded_in

-- the bytes spell no record, and this is their fault
abbrev pub HasRecordFault : List ℕ → InputFault → Type 0
HasRecordFault = HasFaultBy record_passes

-- what the type of the code stands for
abbrev pub record_value : Recorded → RecordTree
record_value r = record { first = r.first; first_place = r.first_place; words = r.words.items }

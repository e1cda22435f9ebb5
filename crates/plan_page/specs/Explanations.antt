-- What `pulgazer explain --json` prints: a verdict on a plan, and a run that shows it. Which bytes tell
-- one, and the data by which it is told.
--
-- Example: {"cycle_from":null,"initial":0,"outcomes":[1],"rules":[0],"sentence":"..","verdict":"no cycle"}
use Rattle.std.specs.Prelude.{◌≡◌, ℕ, Bool, IsUtf8, List, [], ◌∷◌, Option, None, Some, ⊤}
use Rattle.std.specs.Prelude.{codes, if◌then◌else◌, is_some, map}
use Rattle.std.specs.Option.{option_and_then, option_map}
use Rattle.serde_json.specs.Data.{Data, Items, item, member, no_items, no_members, null, object, string}
use Rattle.serde_json.specs.Find.{as_array, as_null, as_number, as_str, as_u64, get}
use Rattle.serde_json.specs.Read.{read as read_text}
use Rattle.sexpr_text.specs.declared.faults.FaultKind.TheVariants.{BadForm}
use Rattle.sexpr_text.specs.declared.faults.InputFault.{InputFault}
use Rattle.sexpr_text.specs.declared.faults.ReadErr.{ReadErr}
use Rattle.sexpr_text.specs.declared.faults.ReadErr.TheVariants.{Fault, Memory}
use Rattle.plan_document.specs.Data.{count_data, list_data}
use Rattle.plan_picture.specs.Runs.{PlainMove, PlainRun}

-- a run that is shown, and a sentence on what is the matter at its end
pub record PlainShownRun : Type 0 where
  pub run : PlainRun
  pub sentence : List ℕ

-- a verdict, and a run that shows it, where there is one
pub record PlainExplanation : Type 0 where
  pub verdict : List ℕ
  pub shown : Option PlainShownRun

-- ---- what the members of an object are

abbrev pub count_in : Data → Option ℕ
count_in json = option_and_then as_u64 (as_number json)

-- each item is a number
abbrev pub counts_in : Items → Option (List ℕ)
counts_in no_items = Some []
counts_in (item json items) =
    option_and_then (λ (count : ℕ). option_map (λ (counts : List ℕ). count ∷ counts) (counts_in items))
    (count_in json)

abbrev pub count_at : List ℕ → Data → Option ℕ
count_at key json = option_and_then count_in (get key json)

abbrev pub counts_at : List ℕ → Data → Option (List ℕ)
counts_at key json = option_and_then (λ (value : Data). option_and_then counts_in (as_array value)) (get key json)

abbrev pub text_at : List ℕ → Data → Option (List ℕ)
text_at key json = option_and_then as_str (get key json)

-- the member is there, and it is null
abbrev pub is_null_at : List ℕ → Data → Bool
is_null_at key json = is_some (option_and_then as_null (get key json))

-- the member is null, or a number
abbrev pub count_or_null_at : List ℕ → Data → Option (Option ℕ)
count_or_null_at key json =
    if is_null_at key json then Some None
    else option_map (λ (count : ℕ). Some count) (count_at key json)

-- ---- an explanation

-- a rule and an outcome a move: there are as many of both
abbrev pub moves_of : List ℕ → List ℕ → Option (List PlainMove)
moves_of [] [] = Some []
moves_of [] (outcome ∷ outcomes) = None
moves_of (rule ∷ rules) [] = None
moves_of (rule ∷ rules) (outcome ∷ outcomes) =
    option_map (λ (moves : List PlainMove). record { rule = rule; outcome = outcome } ∷ moves)
    (moves_of rules outcomes)

abbrev pub moves_at : Data → Option (List PlainMove)
moves_at json =
    option_and_then (λ (rules : List ℕ). option_and_then (moves_of rules) (counts_at (codes "outcomes") json))
    (counts_at (codes "rules") json)

abbrev pub run_in : Data → Option PlainRun
run_in json =
    option_and_then (λ (initial : ℕ). option_and_then (λ (moves : List PlainMove).
    option_map (λ (cycle_from : Option ℕ). record { initial = initial; moves = moves; cycle_from = cycle_from })
    (count_or_null_at (codes "cycle_from") json)) (moves_at json)) (count_at (codes "initial") json)

abbrev pub shown_run_in : Data → Option PlainShownRun
shown_run_in json =
    option_and_then (λ (run : PlainRun). option_map (λ (sentence : List ℕ).
    record { run = run; sentence = sentence }) (text_at (codes "sentence") json)) (run_in json)

-- the run that shows a verdict; there is none where no initial state is named
abbrev pub shown_in : Data → Option (Option PlainShownRun)
shown_in json =
    if is_null_at (codes "initial") json then Some None
    else option_map (λ (shown : PlainShownRun). Some shown) (shown_run_in json)

-- the explanation that JSON tells, if it tells one
abbrev pub explanation_in : Data → Option PlainExplanation
explanation_in json =
    option_and_then (λ (verdict : List ℕ). option_map (λ (shown : Option PlainShownRun).
    record { verdict = verdict; shown = shown }) (shown_in json)) (text_at (codes "verdict") json)

-- the bytes are JSON that tells an explanation
pub record TellsExplanation (bytes : List ℕ) (explanation : PlainExplanation) : Type 0 where
  pub is_text : IsUtf8 bytes
  pub json : Data
  pub reads : read_text bytes ≡ Some json
  pub tells : explanation_in json ≡ Some explanation

-- a fault of this kind, or want of memory
abbrev pub IsBadForm : ReadErr → Type 0
IsBadForm (Fault fault) = fault.kind ≡ BadForm
IsBadForm Memory = ⊤

-- the bytes tell no explanation, which is a fault of this kind
abbrev pub HasExplanationFault : List ℕ → InputFault → Type 0
HasExplanationFault bytes fault =
    (fault.kind ≡ BadForm) × ((explanation : PlainExplanation) → TellsExplanation bytes explanation → ⊥)

-- ---- the data by which an explanation is told

abbrev pub rule_counts : List PlainMove → Data
rule_counts moves = list_data count_data (map (λ (move : PlainMove). move.rule) moves)

abbrev pub outcome_counts : List PlainMove → Data
outcome_counts moves = list_data count_data (map (λ (move : PlainMove). move.outcome) moves)

abbrev pub count_or_null : Option ℕ → Data
count_or_null None = null
count_or_null (Some count) = count_data count

-- the object with these members
abbrev pub explanation_object : (cycle_from initial outcomes rules sentence verdict : Data) → Data
explanation_object cycle_from initial outcomes rules sentence verdict =
    object (member (codes "cycle_from") cycle_from (member (codes "initial") initial
    (member (codes "outcomes") outcomes (member (codes "rules") rules
    (member (codes "sentence") sentence (member (codes "verdict") verdict no_members))))))

abbrev pub told : List ℕ → Option PlainShownRun → Data
told verdict None =
    explanation_object null null (rule_counts []) (rule_counts []) null (string verdict)
told verdict (Some shown) =
    explanation_object (count_or_null shown.run.cycle_from) (count_data shown.run.initial)
    (outcome_counts shown.run.moves) (rule_counts shown.run.moves) (string shown.sentence)
    (string verdict)

abbrev pub explanation_data : PlainExplanation → Data
explanation_data explanation = told explanation.verdict explanation.shown

-- what the page is handed: an explanation, or null
abbrev pub handed_data : Option PlainExplanation → Data
handed_data None = null
handed_data (Some explanation) = explanation_data explanation

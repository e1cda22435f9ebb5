-- No document has a float.
use Rattle.std.proofs.Common.{◌≡◌, ℕ, List, [], ◌∷◌, map, false, true, Option, None, Some, refl}
use Rattle.serde_json.specs.Data.{null}
use Rattle.serde_json.specs.View.{items_of}
use Rattle.serde_json.specs.Written.{has_float, items_have_float}
use Rattle.std.specs.Option.{option_map_or}
use Rattle.task_core.specs.Names.{Name}
use Rattle.task_core.specs.Vectors.{Vector}
use Rattle.plan_document.proofs.NoFloatsInActions.{items_free}
use Rattle.plan_document.specs.Data.{count_data}
use Rattle.counterexamples.specs.Findings.{PlainFound, cycle_from, lines_in}
use Rattle.counterexamples.specs.ForVerdicts.{PlainFinding}
use Rattle.counterexamples.specs.Stays.{PlainStays}
use Rattle.counterexamples.specs.Texts.{Source}
use Rattle.plan_witness.specs.Runs.{PlainStep}
use Rattle.explain_command.specs.Documents.{besides_of, changed_below, document, fluent_data, line_data, longest_data, outcome_data, rule_data, stays_data, step_data, steps_data, told_object, told_of}

changed_free : (fluents : List Name) (numbers : List ℕ) → items_have_float (items_of (map (fluent_data fluents) numbers)) ≡ false
changed_free fluents = items_free (fluent_data fluents) (λ i. refl)

step_free : (source : Source) (before : Vector) (step : PlainStep) → has_float (step_data source before step) ≡ false
step_free source before step =
    rw (changed_free source.fluents (changed_below true before step.after.state _), changed_free source.fluents (changed_below false before step.after.state _)) refl

steps_free : (source : Source) (before : Vector) (steps : List PlainStep) → items_have_float (items_of (steps_data source before steps)) ≡ false
steps_free source before [] = refl
steps_free source before (step ∷ steps) = rw (step_free source before step, steps_free source step.after.state steps) refl

place_free : (place : Option ℕ) → has_float (option_map_or count_data place null) ≡ false
place_free None = refl
place_free (Some place) = refl

longest_free : (source : Source) (longest : Option PlainFound) → has_float (option_map_or (longest_data source) longest null) ≡ false
longest_free source None = refl
longest_free source (Some found) =
    rw (items_free outcome_data (λ step. refl) found.run.steps, items_free rule_data (λ step. refl) found.run.steps, steps_free source found.run.start.state found.run.steps) refl

stays_free : (stays : Option PlainStays) → has_float (option_map_or stays_data stays null) ≡ false
stays_free None = refl
stays_free (Some stays) = rw (items_free count_data (λ number. refl) stays.numbers) refl

pub document_free : (source : Source) (verdict : List ℕ) (finding : PlainFinding) → has_float (document source verdict finding) ≡ false
document_free source verdict finding = free finding.run
  where
    free : (run : Option PlainFound) → has_float (told_object verdict (told_of source run) (besides_of source finding)) ≡ false
    free None = rw (longest_free source finding.longest, stays_free finding.stays) refl
    free (Some found) =
        rw (place_free (cycle_from found), longest_free source finding.longest, items_free outcome_data (λ step. refl) found.run.steps, items_free (line_data source.fluents) (λ line. refl) (lines_in found.ending), items_free rule_data (λ step. refl) found.run.steps, stays_free finding.stays, steps_free source found.run.start.state found.run.steps) refl

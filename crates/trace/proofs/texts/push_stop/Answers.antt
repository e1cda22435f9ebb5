use Rattle.std.proofs.Common.{◌≡◌, ◌++◌, OnOk, map, string_bytes, subst, sym}
use Rattle.counterexamples.specs.Values.{source_value}
use Rattle.trace.specs.RecordedRuns.{not_executable}
use Rattle.trace.specs.Texts.{stop_text}
use Rattle.trace.specs.Values.{stop_value}
use Rattle.trace.specs.declared.stops.Stop.{Stop}
use Rattle.trace.proofs.texts.push_stop.Goals as goal

pub returns-in-PlanEnds : goal.returns-in-PlanEnds
returns-in-PlanEnds c =
    subst (λ (stop : Stop). OnOk c.push_plan_ends.result (string_bytes c.push_plan_ends.new.out ≡ string_bytes c.args.out.now ++ stop_text (source_value c.args.source.now) (stop_value stop))) (sym c.in-PlanEnds.is)
    c.push_plan_ends.ensures

pub returns-in-RecordEnds : goal.returns-in-RecordEnds
returns-in-RecordEnds c =
    subst (λ (stop : Stop). OnOk c.push_record_ends.result (string_bytes c.push_record_ends.new.out ≡ string_bytes c.args.out.now ++ stop_text (source_value c.args.source.now) (stop_value stop))) (sym c.in-RecordEnds.is)
    c.push_record_ends.ensures

pub returns-in-MostMade : goal.returns-in-MostMade
returns-in-MostMade c =
    subst (λ (stop : Stop). OnOk c.push_most_made.result (string_bytes c.push_most_made.new.out ≡ string_bytes c.args.out.now ++ stop_text (source_value c.args.source.now) (stop_value stop))) (sym c.in-MostMade.is)
    c.push_most_made.ensures

pub returns-in-NoOutcome : goal.returns-in-NoOutcome
returns-in-NoOutcome c =
    subst (λ (stop : Stop). OnOk c.push_no_outcome.result (string_bytes c.push_no_outcome.new.out ≡ string_bytes c.args.out.now ++ stop_text (source_value c.args.source.now) (stop_value stop))) (sym c.in-NoOutcome.is)
    c.push_no_outcome.ensures

pub returns-in-NotExecutable : goal.returns-in-NotExecutable
returns-in-NotExecutable c =
    let counting = c.in-NotExecutable.counting in
    subst (λ (stop : Stop). OnOk c.push_not_executable.result (string_bytes c.push_not_executable.new.out ≡ string_bytes c.args.out.now ++ stop_text (source_value c.args.source.now) (stop_value stop))) (sym c.in-NotExecutable.is)
    (subst (λ xs. OnOk c.push_not_executable.result (string_bytes c.push_not_executable.new.out ≡ string_bytes c.args.out.now
    ++ stop_text (source_value c.args.source.now) (not_executable counting.rule counting.action.0 (map (λ part. part.now) xs)))) c.deref.ensures.value c.push_not_executable.ensures)

-- Private: what the code's own types stand for.
use Rattle.serde_json.specs.View.{view}
use Rattle.explain_command.specs.Documents.{Besides, Told}
use Rattle.explain_command.specs.declared.besides.Besides.{Besides as CodeBesides}
use Rattle.explain_command.specs.declared.documents.Told.{Told as CodeTold}

abbrev pub told_value : CodeTold → Told
told_value told = record {
  cycle_from = view told.cycle_from;
  initial = view told.initial;
  outcomes = view told.outcomes;
  parts = view told.parts;
  rules = view told.rules;
  sentence = view told.sentence;
  steps = view told.steps;
}

abbrev pub besides_value : CodeBesides → Besides
besides_value besides = record { longest = view besides.longest; stays = view besides.stays }

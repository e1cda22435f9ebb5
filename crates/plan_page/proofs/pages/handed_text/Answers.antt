use Rattle.std.proofs.Common.{◌≡◌, false, rules}
use Rattle.std.specs.Option.{option_map}
use Rattle.serde_json.specs.View.{view}
use Rattle.serde_json.specs.Written.{has_float}
use Rattle.plan_page.specs.ExplanationValues.{explanation_value}
use Rattle.plan_page.proofs.NoFloats.{handed_free}
use Rattle.plan_page.proofs.pages.handed_text.Goals as goal

pub returns : goal.returns
returns c =
    let free : has_float (view c.in_ok-value.value) ≡ false = rw c.in_ok-value.ensures (handed_free (option_map (λ some. explanation_value some.now) c.args.explanation)) in
    search (rules, c.to_string.ensures.text, free, c.in_ok-value.ensures)

use Rattle.std.proofs.Common.{ap}
use Rattle.plan_rules.specs.Advices.{onward_value}
use Rattle.exec_graph.specs.Effects.{IsKnownAfter, StandsAt}
use Rattle.exec_graph.proofs.KnownSteps.{if_some, known_step}
use Rattle.exec_graph.proofs.moves.Moves.known_after.Goals as goal

pub returns-in-Always-Some : goal.returns-in-Always-Some
returns-in-Always-Some c =
    let places = c.args.self.now.places.keys in
    let s = c.args.state.now in
    let onward = onward_value c.args.onward.now in
    let effects = c.args.effects.now in
    let k = c.args.outcome in
    let found = c.in-Always-Some in
    let ws = c.words_from.result in
    if_some (StandsAt places ws found.context) (IsKnownAfter places s onward effects k) c.guessed.result
    (λ number h. known_step places s onward effects k number found.effect.now ws found.context (ap onward_value found.is-0) found.ensures c.words_from.ensures h)
    c.guessed.ensures

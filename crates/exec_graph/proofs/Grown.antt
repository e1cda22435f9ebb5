-- What was found in a visit grows step by step.
use Rattle.std.proofs.Common.{◌≡◌, ℕ, false, map, refl, sym, ap, ◌∙◌}
use Rattle.std.specs.List.{fold}
use Rattle.exec_graph.specs.Counting.{Moved, add_configuration, no_moves}
use Rattle.exec_graph.specs.Moves.{HasGrown, configuration_of, found_by, moves_value}
use Rattle.exec_graph.specs.declared.moves.Moves.{Moves}

pub grown_none : (n : ℕ) (moves : Moves) → HasGrown n moves moves
grown_none n moves = record { visit = refl; found = λ first e. e }

pub grown_on : (n : ℕ) (before now after : Moves) → HasGrown n before now → HasGrown n now after → HasGrown n before after
grown_on n before now after g h = record { visit = h.visit ∙ g.visit; found = λ first e. h.found first (g.found first e) }

-- what was found grows by the next ones
pub grown_first : (n : ℕ) (old begun now : Moves) → begun.places ≡ old.places → moves_value n begun ≡ no_moves false → HasGrown n begun now
    → found_by n now ≡ fold add_configuration (found_by n old) (moves_value n now).next
grown_first n old begun now places none h =
    h.found (found_by n old)
    (ap (λ ps. map (configuration_of n) ps.keys) places ∙ ap (fold add_configuration (found_by n old)) (sym (ap (λ (m : Moved). m.next) none)))

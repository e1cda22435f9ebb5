-- The lines of steps, one step more.
use Rattle.std.proofs.Common.{◌≡◌, ℕ, ◌+◌, ◌<◌, List, [], ◌∷◌, ◌++◌, length, get_or, take, ap, sym, ◌∙◌}
use Rattle.std.specs.List.{flat_map}
use Rattle.std.proofs.lemmas.List.{append-nil, take_more, map-append}
use Rattle.std.proofs.lemmas.List.Concat.{flat_map-append}
use Rattle.run_replay.specs.declared.worlds.Step.{Step}
use Rattle.run_replay.specs.Runs.{step_value, steps_value}
use Rattle.run_replay.specs.Traces.{TraceStep}

pub lines_more : (line : TraceStep → List ℕ) (n : ℕ) (steps : List Step) (i : ℕ) (step : Step) → i < length steps → step ≡ get_or steps i step
    → flat_map line (steps_value n (take (i + 1) steps)) ≡ flat_map line (steps_value n (take i steps)) ++ line (step_value n step)
lines_more line n steps i step lt is =
    ap (λ (some : List Step). flat_map line (steps_value n some)) (take_more steps i step lt ∙ ap (λ (s : Step). take i steps ++ s ∷ []) (sym is))
    ∙ ap (flat_map line) (map-append (step_value n) (take i steps) (step ∷ []))
    ∙ flat_map-append line (steps_value n (take i steps)) (step_value n step ∷ [])
    ∙ ap (λ (l : List ℕ). flat_map line (steps_value n (take i steps)) ++ l) (append-nil (line (step_value n step)))

-- Texts that are appended one after another.
use Rattle.std.proofs.Common.{◌≡◌, ℕ, ◌+◌, ◌<◌, Bor, List, [], ◌∷◌, ◌++◌, ap, codes, get_or, length, map, refl, sym, take, ◌∙◌}
use Rattle.std.specs.List.{flat_map}
use Rattle.std.proofs.lemmas.List.{append-nil, take_more, map-append}
use Rattle.std.proofs.lemmas.List.Concat.{flat_map-append}
use Rattle.state_text.specs.Texts.{conditions_text}
use Rattle.task_core.specs.Names.{Name}
use Rattle.task_core.specs.declared.conditions.Cond.{Cond}
use Rattle.trace.specs.RecordedRuns.{RuledStep}
use Rattle.trace.specs.Texts.{goal_text}
use Rattle.trace.specs.Values.{made_value, mades_value}
use Rattle.trace.specs.declared.runs.MadeStep.{MadeStep}

-- the lines of steps, one step more
pub lines_more : (line : RuledStep → List ℕ) (n : ℕ) (steps : List MadeStep) (i : ℕ) (made : MadeStep) → i < length steps → made ≡ get_or steps i made
    → flat_map line (mades_value n (take (i + 1) steps)) ≡ flat_map line (mades_value n (take i steps)) ++ line (made_value n made)
lines_more line n steps i made lt is =
    ap (λ (some : List MadeStep). flat_map line (mades_value n some)) (take_more steps i made lt ∙ ap (λ (s : MadeStep). take i steps ++ s ∷ []) (sym is))
    ∙ ap (flat_map line) (map-append (made_value n) (take i steps) (made ∷ []))
    ∙ flat_map-append line (mades_value n (take i steps)) (made_value n made ∷ [])
    ∙ ap (λ (l : List ℕ). flat_map line (mades_value n (take i steps)) ++ l) (append-nil (line (made_value n made)))

-- where some part of the goal is false
pub outside : (fluents : List Name) (parts : List (Bor Cond)) → (parts ≡ [] → ⊥)
    → codes "the plan ends here, outside the goal: false is" ++ conditions_text fluents (map (λ part. part.now) parts) ≡ goal_text fluents (map (λ part. part.now) parts)
outside fluents [] some = absurd (some refl)
outside fluents (part ∷ parts) some = refl

-- The fluents that change, one number more.
use Rattle.std.proofs.Common.{◌≡◌, ◌∙◌, ℕ, suc, ◌+◌, Bool, true, false, List, [], ◌∷◌, ◌++◌, arith, ap, map, refl, sym}
use Rattle.std.specs.Prelude.{if◌then◌else◌}
use Rattle.std.proofs.lemmas.List.{map-append}
use Rattle.serde_json.specs.Data.{Data}
use Rattle.task_core.specs.Names.{Name}
use Rattle.task_core.specs.Vectors.{Vector, value_of}
use Rattle.explain_command.specs.Documents.{changed_below, changed_to, fluent_data}

mapped_if : (f : ℕ → Data) (i : ℕ) (b : Bool) → (if b then f i ∷ [] else []) ≡ map f (if b then i ∷ [] else [])
mapped_if f i true = refl
mapped_if f i false = refl

pub changed_more : (fluents : List Name) (made : Bool) (before after : Vector) (i : ℕ) (old new : List Data) (word : Data) (b : Bool) → old ≡ map (fluent_data fluents) (changed_below made before after i)
    → new ≡ old ++ (if b then word ∷ [] else []) → word ≡ fluent_data fluents i → b ≡ changed_to made (value_of before i) (value_of after i)
    → new ≡ map (fluent_data fluents) (changed_below made before after (i + 1))
changed_more fluents made before after i old new word b was pushed is test =
    let f = fluent_data fluents in
    let next : suc i ≡ i + 1 = omega arith in
    pushed ∙ ap (λ xs. xs ++ (if b then word ∷ [] else [])) was
    ∙ ap (λ w. map f (changed_below made before after i) ++ (if b then w ∷ [] else [])) is
    ∙ ap (λ xs. map f (changed_below made before after i) ++ xs) (mapped_if f i b)
    ∙ sym (map-append f (changed_below made before after i) (if b then i ∷ [] else []))
    ∙ ap (λ t. map f (changed_below made before after i ++ (if t then i ∷ [] else []))) test
    ∙ ap (λ k. map f (changed_below made before after k)) next

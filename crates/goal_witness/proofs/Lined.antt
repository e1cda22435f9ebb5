-- How many steps the parts of a witness have, one after another.
use Rattle.std.proofs.Common.{◌≡◌, ℕ, ◌+◌, ◌<◌, ◌^◌, List, [], ◌∷◌, ◌++◌, length, get_or, drop, ap, ◌∙◌, arith, refl, sym}
use Rattle.std.proofs.lemmas.List.{drop_more, length-append, length-map}
use Rattle.ctl_syntax.specs.Goals.{CtlTree}
use Rattle.plan_rules.specs.Rules.{PlainPlan}
use Rattle.plan_witness.specs.Values.{step_value, steps_value}
use Rattle.task_core.specs.Systems.{System}
use Rattle.task_core.specs.declared.conditions.Cond.{Cond}
use Rattle.goal_witness.specs.Links.{back_in, back_steps, how_value, links_value, stem_in, stem_steps, step_count}
use Rattle.goal_witness.specs.Witnesses.{IsWitness, witness_value}
use Rattle.goal_witness.specs.declared.links.How.{How as CodeHow}
use Rattle.goal_witness.specs.declared.links.How.TheVariants.{False, Lasso, Way}
use Rattle.goal_witness.specs.declared.links.Link.{Link}
use Rattle.goal_witness.specs.declared.witnesses.Witness.{Witness}

-- how many the parts have that are left
abbrev pub left_steps : ℕ → List Link → ℕ
left_steps n links = length (stem_steps (links_value n links)) + length (back_steps (links_value n links))

left_more : (n : ℕ) (link : Link) (links : List Link) → left_steps n (link ∷ links) ≡ step_count (how_value n link.how) + left_steps n links
left_more n link links =
    let a = length-append (stem_in (how_value n link.how)) (stem_steps (links_value n links)) in
    let b = length-append (back_in (how_value n link.how)) (back_steps (links_value n links)) in
    omega (arith, a, b)

pub left_next : (n k : ℕ) (links : List Link) (link : Link) → k < length links → get_or links k link ≡ link → left_steps n (drop k links) ≡ step_count (how_value n link.how) + left_steps n (drop (k + 1) links)
left_next n k links link l is = ap (left_steps n) (drop_more links k link l ∙ ap (λ x. x ∷ drop (k + 1) links) is) ∙ left_more n link (drop (k + 1) links)

-- how many steps a part has is the same over any fluents
stem_alike : (n m : ℕ) (how : CodeHow) → length (stem_in (how_value n how)) ≡ length (stem_in (how_value m how))
stem_alike n m False = refl
stem_alike n m (Way steps) = length-map steps.items (step_value n) ∙ sym (length-map steps.items (step_value m))
stem_alike n m (Lasso stem back) = length-map stem.items (step_value n) ∙ sym (length-map stem.items (step_value m))

back_alike : (n m : ℕ) (how : CodeHow) → length (back_in (how_value n how)) ≡ length (back_in (how_value m how))
back_alike n m False = refl
back_alike n m (Way steps) = refl
back_alike n m (Lasso stem back) = length-map back.items (step_value n) ∙ sym (length-map back.items (step_value m))

left_alike : (n m : ℕ) (links : List Link) → left_steps n links ≡ left_steps m links
left_alike n m [] = refl
left_alike n m (link ∷ links) =
    let now = left_more n link links in
    let other = left_more m link links in
    let stem = stem_alike n m link.how in
    let back = back_alike n m link.how in
    let rest = left_alike n m links in
    omega (arith, now, other, stem, back, rest)

-- the steps of the run of a witness are few enough to be counted, and so are those of its parts
pub few_steps : (n : ℕ) (sys : System) (plan : PlainPlan) (goal : CtlTree Cond) (witness : Witness) → IsWitness sys plan goal (witness_value n witness) → (m : ℕ) → left_steps m witness.links.items < 2 ^ 64
few_steps n sys plan goal witness is m =
    let stem = stem_steps (links_value n witness.links.items) in
    let back = back_steps (links_value n witness.links.items) in
    let joined : length (steps_value n witness.run.steps.items) ≡ length (stem ++ back) = ap length is.steps in
    let both : length (stem ++ back) ≡ length stem + length back = length-append stem back in
    let mapped : length (steps_value n witness.run.steps.items) ≡ length witness.run.steps.items = length-map witness.run.steps.items (step_value n) in
    let alike : left_steps m witness.links.items ≡ length stem + length back = left_alike m n witness.links.items in
    omega (arith, joined, both, mapped, alike, witness.run.steps.ok.0)

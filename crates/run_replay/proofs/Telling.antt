-- Monitors that are told of steps, and then of more.
use Rattle.std.proofs.Common.{◌≡◌, ℕ, ◌+◌, ◌*◌, ◌<◌, ◌≤◌, ◌^◌, List, [], ◌∷◌, ◌++◌, map, sum, length, get_or, arith, refl, ap, subst, ◌∙◌}
use Rattle.std.specs.List.{All, AllZip, flat_map}
use Rattle.std.proofs.lemmas.List.{map-append}
use Rattle.std.proofs.lemmas.List.Elements.{All-append, All-nil, AllZip-get_or, length_all_zip, All-head, All-tail}
use Rattle.std.proofs.lemmas.List.Sums.{sum_by-append, sum_by-cons}
use Rattle.run_replay.specs.declared.worlds.Step.{Step}
use Rattle.run_replay.specs.TraceTexts.{tallies_of, tally_line, tally_lines}
use Rattle.run_replay.specs.Watching.{MonitorData, IsTold, AreTold}

map_same : {A B : Type 0} (f g : A → B) → ((x : A) → f x ≡ g x) → (xs : List A) → map f xs ≡ map g xs
map_same f g same [] = refl
map_same f g same (x ∷ xs) = rw (same x, map_same f g same xs) refl

sum_parts : (w : Step → ℕ) (a b : List Step) → sum (map w (a ++ b)) ≡ sum (map w a) + sum (map w b)
sum_parts w a b = rw (map-append w a b) (sum_by-append (λ n. n) (map w a) (map w b))

-- told of no step
told_none : (x : MonitorData) → IsTold [] x x
told_none x = record {
  counts = omega arith;
  light = All-nil (λ (step : Step). x.weight step < 2 ^ 64);
  titled = refl;
  weighs = λ step. refl;
}

lighter : (x y : MonitorData) (b : List Step) → ((step : Step) → y.weight step ≡ x.weight step) → All (λ (step : Step). y.weight step < 2 ^ 64) b
    → All (λ (step : Step). x.weight step < 2 ^ 64) b
lighter x y b same light k d lt = subst (λ n. n < 2 ^ 64) (same (get_or b k d)) (light k d lt)

-- told of some steps, and then of others
told_more : (a b : List Step) (x y z : MonitorData) → IsTold a x y → IsTold b y z → IsTold (a ++ b) x z
told_more a b x y z p q = record {
  counts =
      let one : sum (map x.weight (a ++ b)) ≡ sum (map x.weight a) + sum (map x.weight b) = sum_parts x.weight a b in
      let two : sum (map y.weight b) ≡ sum (map x.weight b) = ap sum (map_same y.weight x.weight p.weighs b) in
      omega (arith, one, two, p.counts, q.counts);
  light = All-append (λ (step : Step). x.weight step < 2 ^ 64) a b p.light (lighter x y b p.weighs q.light);
  titled = q.titled ∙ p.titled;
  weighs = λ step. q.weighs step ∙ p.weighs step;
}

pub are_told_none : (xs : List MonitorData) → AreTold [] xs xs
are_told_none [] = tt
are_told_none (x ∷ xs) = (told_none x, are_told_none xs)

pub are_told_more : (a b : List Step) (xs ys zs : List MonitorData) → AreTold a xs ys → AreTold b ys zs
    → AreTold (a ++ b) xs zs
are_told_more a b [] [] [] p q = tt
are_told_more a b [] [] (z ∷ zs) p q = absurd q
are_told_more a b [] (y ∷ ys) zs p q = absurd p
are_told_more a b (x ∷ xs) [] zs p q = absurd p
are_told_more a b (x ∷ xs) (y ∷ ys) [] p q = absurd q
are_told_more a b (x ∷ xs) (y ∷ ys) (z ∷ zs) p q =
    (told_more a b x y z p.0 q.0, are_told_more a b xs ys zs p.1 q.1)

light_sum : (w : Step → ℕ) (steps : List Step) → All (λ (step : Step). w step < 2 ^ 64) steps → sum (map w steps) ≤ length steps * 2 ^ 64
light_sum w [] light = omega arith
light_sum w (step ∷ steps) light =
    let here : w step < 2 ^ 64 = All-head (λ (s : Step). w s < 2 ^ 64) step steps light in
    let rest : sum (map w steps) ≤ length steps * 2 ^ 64 = light_sum w steps (All-tail (λ (s : Step). w s < 2 ^ 64) step steps light) in
    rw (sum_by-cons (λ n. n) (w step) (map w steps)) (omega (arith, here, rest))

small_after : (steps : List Step) (x y : MonitorData) → x.counted ≡ 0 → IsTold steps x y → length steps ≤ 1000000 → y.counted ≤ 2 ^ 127
small_after steps x y none told few = omega (arith, none, told.counts, light_sum x.weight steps told.light, few)

-- monitors that had counted nothing have small tallies after so many steps
pub small_tallies : (steps : List Step) (xs ys : List MonitorData) → All (λ (x : MonitorData). x.counted ≡ 0) xs
    → AreTold steps xs ys → length steps ≤ 1000000 → All (λ (y : MonitorData). y.counted ≤ 2 ^ 127) ys
small_tallies steps xs ys none told few k d lt =
    let long : length xs ≡ length ys = length_all_zip (IsTold steps) xs ys told in
    let in_xs : k < length xs = omega (arith, long, lt) in
    small_after steps (get_or xs k d) (get_or ys k d) (none k d in_xs)
    (AllZip-get_or (IsTold steps) xs ys k d d told in_xs) few

-- what is shown of monitors that had counted nothing, after they were told of these steps
pub tallies_told : (steps : List Step) (xs ys : List MonitorData) → All (λ (x : MonitorData). x.counted ≡ 0) xs
    → AreTold steps xs ys
    → tally_lines ys ≡ tallies_of xs steps
tallies_told steps [] [] none told = refl
tallies_told steps [] (y ∷ ys) none told = absurd told
tallies_told steps (x ∷ xs) [] none told = absurd told
tallies_told steps (x ∷ xs) (y ∷ ys) none told =
    let here : x.counted ≡ 0 = All-head (λ (z : MonitorData). z.counted ≡ 0) x xs none in
    let total : y.counted ≡ sum (map x.weight steps) = omega (arith, here, told.0.counts) in
    let rest = tallies_told steps xs ys (All-tail (λ (z : MonitorData). z.counted ≡ 0) x xs none) told.1 in
    rw (told.0.titled, total) (ap (λ (l : List ℕ). tally_line x.title (sum (map x.weight steps)) ++ l) rest)

-- each of these was told of the steps, as what it shows says
pub are_told_as : {X : Type 0} (shown : X → MonitorData) (steps : List Step) (xs ys : List X)
    → AllZip (λ x y. IsTold steps (shown x) (shown y)) xs ys → AreTold steps (map shown xs) (map shown ys)
are_told_as shown steps [] [] told = tt
are_told_as shown steps [] (y ∷ ys) told = absurd told
are_told_as shown steps (x ∷ xs) [] told = absurd told
are_told_as shown steps (x ∷ xs) (y ∷ ys) told = (told.0, are_told_as shown steps xs ys told.1)

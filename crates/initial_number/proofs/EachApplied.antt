-- The vectors that an entry gives of some, each by its place: the alternative is the lowest digit.
use Rattle.std.proofs.Common.{◌≡◌, ℕ, zero, suc, ◌+◌, ◌*◌, ◌/◌, ◌%◌, ◌<◌, List, [], ◌∷◌, map, length, get_or, sym, ◌∙◌, ap, arith}
use Rattle.std.proofs.Math.Nat.{mod-lt}
use Rattle.std.proofs.lemmas.Nat.{div-add-mod'}
use Rattle.std.proofs.lemmas.List.{get_or_append_left, get_or-append-add, get_or-map, length-append, length-map}
use Rattle.task_core.specs.Cubes.{Cube}
use Rattle.task_core.specs.Initial.{Entry, applied}
use Rattle.task_core.specs.Vectors.{Vector}
use Rattle.initial_number.specs.Choices.{each_applied}

pub length-each_applied : (n : ℕ) (entry : Entry) (vs : List Vector) → length (each_applied n vs entry) ≡ length vs * length entry
length-each_applied n entry [] = omega arith
length-each_applied n entry (v ∷ vs) =
    let joined = length-append (map (applied n v) entry) (each_applied n vs entry) in
    let here = length-map entry (applied n v) in
    let rest : length (each_applied n vs entry) ≡ length vs * length entry = length-each_applied n entry vs in
    omega (arith, joined, here, rest)

-- by the places of the vector and of the alternative
each_at : (n : ℕ) (entry : Entry) (vs : List Vector) (i j : ℕ) (v : Vector) (lits : Cube) (d : Vector) → i < length vs → j < length entry → get_or (each_applied n vs entry) (i * length entry + j) d ≡ applied n (get_or vs i v) (get_or entry j lits)
each_at n entry [] i j v lits d h l = absurd (omega arith)
each_at n entry (w ∷ vs) zero j v lits d h l =
    let here : j < length (map (applied n w) entry) = omega (arith, length-map entry (applied n w), l) in
    ap (λ k. get_or (each_applied n (w ∷ vs) entry) k d) (let e : 0 * length entry + j ≡ j = omega arith in e)
    ∙ get_or_append_left (map (applied n w) entry) (each_applied n vs entry) d j here
    ∙ get_or-map (applied n w) entry j lits d l
each_at n entry (w ∷ vs) (suc i) j v lits d h l =
    let place : suc i * length entry + j ≡ length (map (applied n w) entry) + (i * length entry + j) = omega (arith, length-map entry (applied n w)) in
    ap (λ k. get_or (each_applied n (w ∷ vs) entry) k d) place
    ∙ get_or-append-add (map (applied n w) entry) (each_applied n vs entry) (i * length entry + j) d
    ∙ each_at n entry vs i j v lits d (omega arith) l

-- by the place in the list
pub get_or-each_applied : (n : ℕ) (entry : Entry) (vs : List Vector) (q : ℕ) (v : Vector) (lits : Cube) (d : Vector) → 0 < length entry → q / length entry < length vs → get_or (each_applied n vs entry) q d ≡ applied n (get_or vs (q / length entry) v) (get_or entry (q % length entry) lits)
get_or-each_applied n entry vs q v lits d some h =
    sym (ap (λ k. get_or (each_applied n vs entry) k d) (div-add-mod' q (length entry)))
    ∙ each_at n entry vs (q / length entry) (q % length entry) v lits d h (mod-lt q some)

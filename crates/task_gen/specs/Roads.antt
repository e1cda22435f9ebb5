-- A road of places in a row: a car drives from the first to the last, each move may end with a flat
-- tyre, and from the second place on there is a depot, where it is changed.
use Rattle.std.specs.Prelude.{ℕ, ◌-◌, ◌+◌, [], ◌∷◌, ◌++◌, codes, map}
use Rattle.std.specs.List.{range_with_len}
use Rattle.task_gen.specs.Texts.{Bytes, lines, numbered, spaced}

abbrev pub tyres_domain : Bytes
tyres_domain = lines
    (codes "(define (domain tyres)"
    ∷ codes "  (:predicates (car ?l) (flat ?l) (road ?a ?b) (depot ?l))"
    ∷ codes "  (:action move :parameters (?a ?b)"
    ∷ codes "    :precondition (and (car ?a) (road ?a ?b))"
    ∷ codes "    :effect (and (not (car ?a)) (oneof (car ?b) (flat ?b))))"
    ∷ codes "  (:action change :parameters (?l)"
    ∷ codes "    :precondition (and (flat ?l) (depot ?l))"
    ∷ codes "    :effect (and (not (flat ?l)) (car ?l))))"
    ∷ [])

-- place i
abbrev pub place : ℕ → Bytes
place = numbered (codes "l")

-- that a road leads from place i to place i + 1
abbrev pub road : ℕ → Bytes
road i = codes "(road " ++ place i ++ codes " " ++ place (i + 1) ++ codes ")"

-- that there is a depot at place i
abbrev pub depot : ℕ → Bytes
depot i = codes "(depot " ++ place i ++ codes ")"

-- what is said of n places: a road from each but the last to the next one, and a depot at each but
-- the first
abbrev pub facts : ℕ → Bytes
facts n = spaced (map road (range_with_len 1 (n - 1))) ++ spaced (map depot (range_with_len 2 (n - 1)))

-- the places from 1 to n; the car at the first, and the roads and depots; the last one as the goal
abbrev pub places_line : ℕ → Bytes
places_line n = codes "  (:objects" ++ spaced (map place (range_with_len 1 n)) ++ codes ")"

abbrev pub start_line : ℕ → Bytes
start_line n = codes "  (:init (car l1)" ++ facts n ++ codes ")"

abbrev pub goal_line : ℕ → Bytes
goal_line n = codes "  (:goal (car " ++ place n ++ codes ")))"

abbrev pub tyres_problem : ℕ → Bytes
tyres_problem n = lines
    (codes "(define (problem tyres) (:domain tyres)"
    ∷ places_line n
    ∷ start_line n
    ∷ goal_line n
    ∷ [])

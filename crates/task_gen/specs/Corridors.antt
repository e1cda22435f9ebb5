-- A corridor of rooms in a row: a robot goes from the first to the last, and each move may leave it
-- where it is.
use Rattle.std.specs.Prelude.{ℕ, ◌-◌, ◌+◌, [], ◌∷◌, ◌++◌, codes, map}
use Rattle.std.specs.List.{range_with_len}
use Rattle.task_gen.specs.Texts.{Bytes, lines, numbered, spaced}

abbrev pub corridor_domain : Bytes
corridor_domain = lines
    (codes "(define (domain corridor)"
    ∷ codes "  (:predicates (at ?r) (next ?a ?b))"
    ∷ codes "  (:action go :parameters (?a ?b)"
    ∷ codes "    :precondition (and (at ?a) (next ?a ?b))"
    ∷ codes "    :effect (oneof (and (not (at ?a)) (at ?b)) (and))))"
    ∷ [])

-- room i
abbrev pub room : ℕ → Bytes
room = numbered (codes "r")

-- that room i + 1 comes after room i
abbrev pub next_room : ℕ → Bytes
next_room i = codes "(next " ++ room i ++ codes " " ++ room (i + 1) ++ codes ")"

-- the rooms from 1 to n; the robot in the first, and each room but the last with the next one; the
-- last one as the goal
abbrev pub rooms_line : ℕ → Bytes
rooms_line n = codes "  (:objects" ++ spaced (map room (range_with_len 1 n)) ++ codes ")"

abbrev pub start_line : ℕ → Bytes
start_line n =
    codes "  (:init (at r1)" ++ spaced (map next_room (range_with_len 1 (n - 1))) ++ codes ")"

abbrev pub goal_line : ℕ → Bytes
goal_line n = codes "  (:goal (at " ++ room n ++ codes ")))"

abbrev pub corridor_problem : ℕ → Bytes
corridor_problem n = lines
    (codes "(define (problem corridor) (:domain corridor)"
    ∷ rooms_line n
    ∷ start_line n
    ∷ goal_line n
    ∷ [])

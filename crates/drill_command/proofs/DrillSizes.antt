-- The texts of a drill are short enough to be read.
use Rattle.std.proofs.Common.{◌≡◌, ◌≤◌, ◌<◌, ◌+◌, ◌*◌, ◌-◌, ℕ, zero, suc, [], ◌∷◌, ◌++◌, codes, decimal, length, map, arith, ap}
use Rattle.std.specs.List.{range_with_len}
use Rattle.std.proofs.lemmas.Fmt.{length-decimal-le}
use Rattle.std.proofs.lemmas.List.Concat.{flat_map-cons}
use Rattle.task_gen.specs.Corridors.{corridor_problem, goal_line, next_room, room, rooms_line, start_line}
use Rattle.task_gen.specs.Roads.{depot, facts, place, places_line, road, tyres_problem, goal_line as tyres_goal, start_line as tyres_start}
use Rattle.task_gen.specs.Texts.{line_feed, lines, numbered, spaced}
use Rattle.drill_command.specs.DrillCommand.{drill_domain, drill_problem}
use Rattle.command_base.specs.Words.{Bytes, DrillKind, corridors, roads}

both_long : (a b : Bytes) → length (a ++ b) ≡ length a + length b
both_long [] b = omega arith
both_long (x ∷ a) b = omega (arith, both_long a b)

-- a name is a letter and at most three digits
numbered_long : (letter : Bytes) (i : ℕ) → i < 1000 → length (numbered letter i) ≤ length letter + 3
numbered_long letter i few = omega (arith, both_long letter (decimal i), length-decimal-le 3 i (omega arith) few (omega (arith, few)))

-- parts of at most 20 bytes, each behind a space
spaced_long : (f : ℕ → Bytes) (first n last : ℕ) → first + n ≤ last → ((i : ℕ) → i < last → length (f i) ≤ 20) → length (spaced (map f (range_with_len first n))) ≤ n * 21
spaced_long f first zero last within short = omega arith
spaced_long f first (suc n) last within short =
    let rest = spaced (map f (range_with_len (first + 1) n)) in
    let cut = ap (length {A = ℕ}) (flat_map-cons (λ (part : Bytes). codes " " ++ part) (f first) (map f (range_with_len (first + 1) n))) in
    let one = short first (omega (arith, within)) in
    let more = spaced_long f (first + 1) n last (omega (arith, within)) short in
    omega (arith, cut, both_long (codes " " ++ f first) rest, one, more)

-- a pair of names between words
pair_long : (a x b y c : Bytes) → length a ≤ 6 → length x ≤ 4 → length b ≤ 1 → length y ≤ 4 → length c ≤ 1 → length (a ++ x ++ b ++ y ++ c) ≤ 20
pair_long a x b y c la lx lb ly lc = omega (arith, both_long (a ++ x ++ b ++ y) c, both_long (a ++ x ++ b) y, both_long (a ++ x) b, both_long a x, la, lx, lb, ly, lc)

one_long : (a x c : Bytes) → length a ≤ 14 → length x ≤ 4 → length c ≤ 3 → length (a ++ x ++ c) ≤ 21
one_long a x c la lx lc = omega (arith, both_long (a ++ x) c, both_long a x, la, lx, lc)

depot_long : (a x c : Bytes) → length a ≤ 7 → length x ≤ 4 → length c ≤ 1 → length (a ++ x ++ c) ≤ 20
depot_long a x c la lx lc = omega (arith, both_long (a ++ x) c, both_long a x, la, lx, lc)

line_long : (a x c : Bytes) (k : ℕ) → length a ≤ 20 → length x ≤ k → length c ≤ 1 → length (a ++ x ++ c) ≤ k + 21
line_long a x c k la lx lc = omega (arith, both_long (a ++ x) c, both_long a x, la, lx, lc)

-- four lines
four_long : (a b c d : Bytes) (k : ℕ) → length a ≤ k → length b ≤ k → length c ≤ k → length d ≤ k → length (lines (a ∷ b ∷ c ∷ d ∷ [])) ≤ 4 * k + 4
four_long a b c d k la lb lc ld =
    let f : Bytes → Bytes = λ line. line ++ line_feed in
    let e1 = ap (length {A = ℕ}) (flat_map-cons f a (b ∷ c ∷ d ∷ [])) in
    let e2 = ap (length {A = ℕ}) (flat_map-cons f b (c ∷ d ∷ [])) in
    let e3 = ap (length {A = ℕ}) (flat_map-cons f c (d ∷ [])) in
    let e4 = ap (length {A = ℕ}) (flat_map-cons f d []) in
    omega (
      arith,
      e1,
      e2,
      e3,
      e4,
      both_long (f a) (lines (b ∷ c ∷ d ∷ [])),
      both_long (f b) (lines (c ∷ d ∷ [])),
      both_long (f c) (lines (d ∷ [])),
      both_long (f d) (lines []),
      both_long a line_feed,
      both_long b line_feed,
      both_long c line_feed,
      both_long d line_feed,
      la,
      lb,
      lc,
      ld,
    )

room_short : (i : ℕ) → i < 122 → length (room i) ≤ 4
room_short i few = omega (arith, numbered_long (codes "r") i (omega (arith, few)))

place_short : (i : ℕ) → i < 122 → length (place i) ≤ 4
place_short i few = omega (arith, numbered_long (codes "l") i (omega (arith, few)))

corridor_short : (n : ℕ) → n ≤ 120 → length (corridor_problem n) ≤ 1048576
corridor_short n few =
    let rooms = spaced_long room 1 n 122 (omega (arith, few)) (λ i l. omega (arith, room_short i l)) in
    let moves = spaced_long next_room 1 (n - 1) 121 (omega (arith, few)) (λ i l.
    pair_long (codes "(next ") (room i) (codes " ") (room (i + 1)) (codes ")") (omega arith) (room_short i (omega (arith, l))) (omega arith) (room_short (i + 1) (omega (arith, l))) (omega arith)) in
    let second : length (rooms_line n) ≤ 3000 = omega (arith, line_long (codes "  (:objects") (spaced (map room (range_with_len 1 n))) (codes ")") 2520 (omega arith) (omega (arith, rooms, few)) (omega arith)) in
    let third : length (start_line n) ≤ 3000 = omega (arith, line_long (codes "  (:init (at r1)") (spaced (map next_room (range_with_len 1 (n - 1)))) (codes ")") 2520 (omega arith) (omega (arith, moves, few)) (omega arith)) in
    let fourth : length (goal_line n) ≤ 3000 = omega (arith, one_long (codes "  (:goal (at ") (room n) (codes ")))") (omega arith) (room_short n (omega (arith, few))) (omega arith)) in
    omega (arith, four_long (codes "(define (problem corridor) (:domain corridor)") (rooms_line n) (start_line n) (goal_line n) 3000 (omega arith) second third fourth)

facts_short : (n : ℕ) → n ≤ 120 → length (facts n) ≤ 5040
facts_short n few =
    let roads = spaced_long road 1 (n - 1) 121 (omega (arith, few)) (λ i l.
    pair_long (codes "(road ") (place i) (codes " ") (place (i + 1)) (codes ")") (omega arith) (place_short i (omega (arith, l))) (omega arith) (place_short (i + 1) (omega (arith, l))) (omega arith)) in
    let depots = spaced_long depot 2 (n - 1) 122 (omega (arith, few)) (λ i l. depot_long (codes "(depot ") (place i) (codes ")") (omega arith) (place_short i l) (omega arith)) in
    omega (arith, both_long (spaced (map road (range_with_len 1 (n - 1)))) (spaced (map depot (range_with_len 2 (n - 1)))), roads, depots, few)

tyres_short : (n : ℕ) → n ≤ 120 → length (tyres_problem n) ≤ 1048576
tyres_short n few =
    let places = spaced_long place 1 n 122 (omega (arith, few)) (λ i l. omega (arith, place_short i l)) in
    let second : length (places_line n) ≤ 6000 = omega (arith, line_long (codes "  (:objects") (spaced (map place (range_with_len 1 n))) (codes ")") 2520 (omega arith) (omega (arith, places, few)) (omega arith)) in
    let third : length (tyres_start n) ≤ 6000 = omega (arith, line_long (codes "  (:init (car l1)") (facts n) (codes ")") 5040 (omega arith) (facts_short n few) (omega arith)) in
    let fourth : length (tyres_goal n) ≤ 6000 = omega (arith, one_long (codes "  (:goal (car ") (place n) (codes ")))") (omega arith) (place_short n (omega (arith, few))) (omega arith)) in
    omega (arith, four_long (codes "(define (problem tyres) (:domain tyres)") (places_line n) (tyres_start n) (tyres_goal n) 6000 (omega arith) second third fourth)

pub drill_domain_short : (kind : DrillKind) → length (drill_domain kind) ≤ 1048576
drill_domain_short corridors = omega arith
drill_domain_short roads = omega arith

pub drill_problem_short : (kind : DrillKind) (n : ℕ) → n ≤ 120 → length (drill_problem kind n) ≤ 1048576
drill_problem_short corridors n few = corridor_short n few
drill_problem_short roads n few = tyres_short n few

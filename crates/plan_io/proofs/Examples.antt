-- Worked examples of the definitions that the contracts cite.
use Rattle.std.proofs.Common.{◌≡◌, ℕ, ◌+◌, ◌-◌, ◌^◌, List, [], ◌∷◌, codes, refl, ap, ◌∙◌, lit<, lit≤, inl, inr, arith}
use Rattle.std.specs.Prelude.{⊤}
use Rattle.std.specs.Cmp.Lexicographic.{nat_list_cmp_total}
use Rattle.std.specs.FinMap as finite
use Rattle.plan_io.specs.Counts.{raised, Rose}
use Rattle.plan_io.specs.Fetches.{Fetches, FetchesNothing, MayFetch}
use Rattle.plan_io.specs.Held.{Holds, Missing, Gives, MayExceed, Exceeds}
use Rattle.plan_io.specs.MemShelf.{told, held_of}
use Rattle.plan_io.specs.MemSink.{MemSinkState, taken_of}

-- a count goes up by one, and stays at its last value
first_call : raised 0 ≡ 1
first_call = refl

last_call : raised (2 ^ 64 - 1) ≡ 2 ^ 64 - 1
last_call = refl

rose_by_one : Rose 4 5
rose_by_one = lit≤ tt

-- a count that stands at its last value is said to have risen
rose_at_the_end : Rose (2 ^ 64 - 1) (2 ^ 64 - 1)
rose_at_the_end = lit≤ tt

not_rose : ¬ Rose 4 4
not_rose h = omega arith

-- a file of three bytes exceeds two, and not three
exceeds_two : Exceeds 2 (Holds (codes "abc"))
exceeds_two = lit< tt

three_is_within : ¬ MayExceed 3 (Holds (codes "abc"))
three_is_within h = omega arith

-- no bytes are those of a missing file
nothing_of_missing : ¬ Gives Missing []
nothing_of_missing h = h

-- the file that was added last under a name is held, and nothing under another name
held_after_two : held_of (finite.insert (finite.insert finite.empty (codes "d") (codes "old")) (codes "d") (codes "new")) (codes "d") ≡ Holds (codes "new")
held_after_two = ap told (finite.get-insert nat_list_cmp_total _ (codes "d") (codes "new") (codes "d"))

missing_beside : held_of (finite.insert finite.empty (codes "d") (codes "new")) (codes "p") ≡ Missing
missing_beside = ap told (finite.get-insert nat_list_cmp_total _ (codes "d") (codes "new") (codes "p") ∙ finite.get-empty _ (codes "p"))

-- of five bytes, a put takes at most three, and no more than have room
sink_with : ℕ → List ℕ → MemSinkState
sink_with room bytes = record { bytes = bytes; most = 3; room = room; calls = 0; failing = []; faults = 0 }

takes_most : taken_of (sink_with 100 []) (codes "abcde") ≡ 3
unfolding sink_with
takes_most = refl

takes_what_has_room : taken_of (sink_with 4 (codes "xy")) (codes "abcde") ≡ 2
unfolding sink_with
takes_what_has_room = refl

takes_the_piece : taken_of (sink_with 4 (codes "xy")) (codes "a") ≡ 1
unfolding sink_with
takes_the_piece = refl

-- two fetches, each of which counts one more, lead from 0 to 2; the source failed in none of them
two_fetches : Fetches (λ before name after. after ≡ before + 1) (codes "d" ∷ codes "p" ∷ []) 0 2
two_fetches = (1, refl, (2, refl, refl))

-- the first is needed, and leads from 0 to 1; the second isn't fetched
only_the_first : MayFetch (λ before name after. after ≡ before + 1) ⊤ (codes "d") (MayFetch (λ before name after. after ≡ before + 1) ⊥ (codes "p") FetchesNothing) 0 1
only_the_first = inr (tt, 1, refl, inl refl)

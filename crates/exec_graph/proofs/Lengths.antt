-- How long lists of numbers are: a list of different ones, and lists behind one another together.
use Rattle.std.proofs.Common.{◌≡◌, ◌≢◌, ℕ, zero, suc, ◌+◌, ◌-◌, ◌<◌, ◌≤◌, List, length, get_or, slice_index_or, sym, ap, ◌∙◌, arith, ⊎_elim}
use Rattle.std.specs.List.{AllPairs, Contains}
use Rattle.std.proofs.lemmas.Bool.{cases_lt}
use Rattle.std.proofs.lemmas.List.Elements.{Contains-get_or}
use Rattle.indexmap.proofs.IndexTableLemmas.Probe.{pigeonhole}
use Rattle.exec_graph.specs.Rows.{IsRowed, row_at}
use Rattle.exec_graph.specs.Values.{lengths_below}
use Rattle.exec_graph.proofs.RowFacts.{row_length}

-- there are no more different numbers below n than n
pub different_few : (xs : List ℕ) (n : ℕ) → AllPairs (λ i j. i ≢ j) xs → ((j : ℕ) → Contains xs j → j < n) → length xs ≤ n
different_few xs n once below =
    pigeonhole (length xs) n (λ k. get_or xs k 0) (λ k l. below (get_or xs k 0) (Contains-get_or xs k 0 l))
    (λ i j li lj e.
    ⊎_elim
    (λ (l : i < j). absurd (once i j 0 l lj e))
    (λ (le : j ≤ i).
    ⊎_elim
    (λ (l : j < i). absurd (once j i 0 l li (sym e)))
    (λ (ge : i ≤ j). omega arith)
    (cases_lt j i))
    (cases_lt i j))

-- lists behind one another are together as long as where the next one begins
pub row_lengths : (starts numbers : List ℕ) → IsRowed starts numbers → (n : ℕ) → n < length starts
    → lengths_below (row_at starts numbers) n ≡ slice_index_or starts n 0
row_lengths starts numbers h zero l = sym h.first
row_lengths starts numbers h (suc n) l =
    let rest = row_lengths starts numbers h n (omega arith) in
    let row = row_length starts numbers h n (omega arith) in
    let up : n + 1 ≡ suc n = omega arith in
    let same = ap (λ k. slice_index_or starts k 0) up in
    omega arith

-- and all of them as long as the whole list
pub all_lengths : (starts numbers : List ℕ) (n : ℕ) → IsRowed starts numbers → length starts ≡ n + 1 → lengths_below (row_at starts numbers) n ≡ length numbers
all_lengths starts numbers n h count =
    let end : length starts - 1 ≡ n = omega arith in
    row_lengths starts numbers h n (omega arith) ∙ sym (ap (λ k. slice_index_or starts k 0) end) ∙ h.last

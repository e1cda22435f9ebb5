-- The numbers so far, and those of the items that are left.
use Rattle.std.proofs.Common.{◌≡◌, ℕ, ◌++◌, List, drop}
use Rattle.std.specs.Option.{option_map}
use Rattle.serde_json.specs.View.{items_view}
use Rattle.plan_page.specs.Explanations.{counts_in}
use Rattle.plan_page.proofs.explanations.counts_in.Given as goal

abbrev pub invariant-loop-value : goal.invariant-loop-value
invariant-loop-value l =
    option_map (λ (rest : List ℕ). l.counts.items ++ rest) (counts_in (items_view (drop l.value-index l.items))) ≡ counts_in (items_view l.items)

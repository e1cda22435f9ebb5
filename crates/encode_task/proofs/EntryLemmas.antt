-- One alternative, and one entry, more.
use Rattle.std.proofs.Common.{◌≡◌, ℕ, ◌+◌, ◌<◌, true, ◌||◌, List, take, length, get_or, sym, ap, ◌∙◌, arith}
use Rattle.std.specs.List.{list_all, list_any}
use Rattle.std.proofs.lemmas.List.Folds.{list_any_more}
use Rattle.dd_nodes.specs.Subfunctions.{Function}
use Rattle.dd_ops.specs.Operations.{or_of}
use Rattle.task_core.specs.Cubes.{Cube}
use Rattle.task_core.specs.Initial.{entry_of, lit_within}
use Rattle.task_core.specs.declared.actions.Alternative.{Alternative}
use Rattle.task_core.proofs.StateLists.{alternative_at, length-entry_of, lits_within}
use Rattle.encode_task.specs.Images.{image, entry_image}

pub entry_more : (set other : Function) (entry : List Alternative) (i : ℕ) (x : Alternative) (lits : Cube) → other ≡ set → lits ≡ x.lits.items → i < length entry → x ≡ get_or entry i x
    → or_of (entry_image set (take i (entry_of entry))) (image lits other) ≡ entry_image set (take (i + 1) (entry_of entry))
entry_more set other entry i x lits same_set same_lits within at =
    let inside : i < length (entry_of entry) = omega (arith, length-entry_of entry) in
    (λ j. or_of (entry_image set (take i (entry_of entry))) (image (same_lits j) (same_set j)))
    ∙ (λ j values. (ap (λ l. list_any (λ lits. image lits set values) (take i (entry_of entry)) || image l set values) (sym (alternative_at entry i x within at))
    ∙ sym (list_any_more (λ lits. image lits set values) (entry_of entry) i x.lits.items inside)) j)

pub alternative_within : (entry : List Alternative) (i : ℕ) (x : Alternative) (lits : Cube) (n m : ℕ) → list_all (list_all (lit_within n)) (entry_of entry) ≡ true → m ≡ n → lits ≡ x.lits.items → i < length entry
    → x ≡ get_or entry i x → list_all (lit_within m) lits ≡ true
alternative_within entry i x lits n m all same same_lits within at =
    let inside : i < length (entry_of entry) = omega (arith, length-entry_of entry) in
    (λ j. list_all (lit_within (same j)) (same_lits j)) ∙ lits_within n (entry_of entry) i x.lits.items all inside (alternative_at entry i x within at)

-- Of which functions a call makes nodes.
use Rattle.std.proofs.Common.{◌≡◌, ◌⊎◌, inl, inr, ℕ, ◌+◌, ◌<◌, ◌≤◌, List, [], length, Option, Some, None, Result, is_some, option_map, refl, sym, ap, subst, ◌∙◌, ⊎_elim, arith}
use Rattle.std.proofs.lemmas.Bool.{cases_lt}
use Rattle.dd_nodes.specs.declared.node.Node.{Node}
use Rattle.dd_nodes.specs.declared.node.Ref.{Ref}
use Rattle.dd_nodes.specs.declared.node.DdErr.{DdErr}
use Rattle.dd_nodes.specs.NodeList.{IsNumber, function}
use Rattle.dd_nodes.specs.Subfunctions.{Function}
use Rattle.dd_nodes.specs.Table.{NodeTable}
use Rattle.dd_ops.specs.Calls.{Answers}
use Rattle.dd_ops.specs.Growth.{Grows, IsPart, subst_pieces, pieces_of_subst}
use Rattle.dd_ops.specs.Operations.{listed, replaced}
use Rattle.task_core.specs.declared.literals.FluentId.{FluentId}
use Rattle.dd_sets.specs.Calls.{MakesOnly}
use Rattle.dd_sets.specs.LiveSets.{LiveSets, listed_set, values_by_sets}
use Rattle.dd_sets.specs.Orders.{at_place, read, AreInverse}
use Rattle.dd_sets.specs.Stores.{view_of, ref_at, refs_of, AreRefs}
use Rattle.dd_sets.specs.declared.slots.SetId.{SetId}
use Rattle.dd_sets.proofs.OrderLemmas.{at_none, read_none}
use Rattle.dd_sets.proofs.SetLemmas.{listed_ref, values_same}

-- the nodes stay as they are
pub makes_none : (before after : LiveSets) (pieces : List Function) → after.nodes ≡ before.nodes → MakesOnly pieces before after
makes_none before after pieces same = record {
  numbers = λ _ n number. inl (n, subst (λ (l : List Node). IsNumber l n) same number, ap (λ (l : List Node). function l n) same);
}

-- what follows leaves them so
pub makes_then : (before middle after : LiveSets) (pieces : List Function) → MakesOnly pieces before middle → after.nodes ≡ middle.nodes → MakesOnly pieces before after
makes_then before middle after pieces makes same = record {
  numbers = subst
      (λ (l : List Node). before.order ≡ [] → (n : ℕ) → IsNumber l n → ((m : ℕ) × IsNumber before.nodes m × (function l n ≡ function before.nodes m)) ⊎ IsPart before.vars pieces (function l n))
      (sym same) makes.numbers;
}

-- one call after another, of which one makes no nodes of its own
makes_none_of : (vars : ℕ) (f : Function) → IsPart vars [] f → ⊥
makes_none_of vars f some = let within : some.0 < 0 = some.2 in omega arith

pub makes_in_turn : (before middle after : LiveSets) (pieces : List Function) → middle.vars ≡ before.vars → middle.order ≡ before.order → MakesOnly pieces before middle → MakesOnly pieces middle after → MakesOnly pieces before after
makes_in_turn before middle after pieces vars order first second = record {
  numbers = λ none n number. ⊎_elim
      (λ (was : (m : ℕ) × IsNumber middle.nodes m × (function after.nodes n ≡ function middle.nodes m)). ⊎_elim
      (λ (known : (m : ℕ) × IsNumber before.nodes m × (function middle.nodes was.0 ≡ function before.nodes m)). inl (known.0, known.1, was.2 ∙ known.2))
      (λ (part : IsPart before.vars pieces (function middle.nodes was.0)). inr (subst (λ (f : Function). IsPart before.vars pieces f) (sym was.2) part))
      (first.numbers none was.0 was.1))
      (λ (part : IsPart middle.vars pieces (function after.nodes n)). inr (subst (λ v. IsPart v pieces (function after.nodes n)) vars part))
      (second.numbers (order ∙ none) n number);
}

-- what makes no nodes makes none but those of any pieces
pub makes_no_more : (before after : LiveSets) (pieces : List Function) → MakesOnly [] before after → MakesOnly pieces before after
makes_no_more before after pieces makes = record {
  numbers = λ none n number. ⊎_elim
      inl
      (λ (part : IsPart before.vars [] (function after.nodes n)). absurd (makes_none_of before.vars (function after.nodes n) part))
      (makes.numbers none n number);
}

-- an operation makes nodes of its pieces alone
pub makes_only : {o : List ℕ} {t0 t : NodeTable} {l0 l : List (Option Ref)} {made : Function} {made_pieces : List Function} {answer : Result Ref DdErr}
    → Answers made t0 t answer → Grows made_pieces t0 t answer → {before : LiveSets} → view_of o t0 l0 ≡ before → {pieces : List Function} → (o ≡ [] → made_pieces ≡ pieces)
    → MakesOnly pieces before (view_of o t l)
makes_only {o} {t0} {t} {l0} {l} {made} {made_pieces} {answer} answers grows {before} opens {pieces} same =
    subst (λ s. MakesOnly pieces s (view_of o t l)) opens
    (record {
      numbers = λ none n number. ⊎_elim
          (λ (known : n < length t0.nodes + 2). inl (n, known, answers.earlier n known))
          (λ (new : length t0.nodes + 2 ≤ n). inr (subst (λ ps. IsPart t0.vars ps (function t.nodes n)) (same none) (grows.adds.parts n new number)))
          (cases_lt n (length t0.nodes + 2));
    })

-- in the order of the fluents, the pieces of a substitution by numbers are those of one by their sets
module _ (sets : LiveSets) (variables : List ℕ) (inverse : AreInverse sets.vars sets.order variables) (none : sets.order ≡ []) (entries : List (FluentId × SetId)) where
  listed_is : (v : ℕ) → is_some (listed (refs_of variables sets entries) v) ≡ is_some (listed_set entries v)
  listed_is v = ap is_some (listed_ref sets variables inverse entries v) ∙ go (listed_set entries (at_place sets.order v)) ∙ ap (λ u. is_some (listed_set entries u)) (at_none sets.order v none)
    where
      go : (o : Option SetId) → is_some (option_map (λ (s : SetId). ref_at sets s.0) o) ≡ is_some o
      go None = refl
      go (Some s) = refl

  pieces_same : (set : Function)
      → subst_pieces sets.vars set (λ v. is_some (listed (refs_of variables sets entries) v)) (replaced sets.nodes (refs_of variables sets entries))
      ≡ subst_pieces sets.vars set (λ v. is_some (listed_set entries v)) (values_by_sets sets entries)
  pieces_same set = λ i. subst_pieces sets.vars set (λ v. listed_is v i) (values_same sets variables inverse entries none i)

pub pieces_made : {o : List ℕ} {table : NodeTable} {live : List (Option Ref)} {before : LiveSets} → view_of o table live ≡ before → (entries : List (FluentId × SetId)) (refs : List (ℕ × Ref)) → AreRefs before entries refs
    → (n : ℕ) (set : Function) → read o (function table.nodes n) ≡ set → o ≡ []
    → pieces_of_subst table.vars table.nodes refs n ≡ subst_pieces before.vars set (λ v. is_some (listed_set entries v)) (values_by_sets before entries)
pieces_made {o} {table} {live} {before} opens entries refs are n set same none =
    (λ i. subst_pieces (opens i).vars ((sym (read_none o (function table.nodes n) none) ∙ same) i) (λ v. is_some (listed (are.are i) v)) (replaced (opens i).nodes (are.are i)))
    ∙ pieces_same before are.variables are.inverse (sym (ap (λ (s : LiveSets). s.order) opens) ∙ none) entries set

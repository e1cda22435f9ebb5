-- What the searches within a part of a graph found, where the part is that of the numbers that lack a mark.
use Rattle.std.proofs.Common.{◌≡◌, ◌↔◌, ℕ, ◌<◌, Bool, true, false, not, ◌||◌, List, ◌∷◌, length, sym, ap, ◌∙◌, subst, ⊎_elim}
use Rattle.std.proofs.lemmas.Bool.{false≢true, or_left}
use Rattle.list_laws.proofs.Booleans.{not_true}
use Rattle.exec_graph.specs.Values.{followers_at}
use Rattle.plan_check.specs.Labels.{IsJoined, IsNegated, mark_at}
use Rattle.plan_check.specs.Walks.{IsMarked, last_number}
use Rattle.plan_check.specs.declared.labelling.Join.TheVariants.{Neither}
use Rattle.plan_check.proofs.LabelFacts.{decided}
use Rattle.plan_check.proofs.MarkFacts.{marked_below}
use Rattle.plan_witness.specs.Runs.{PlainStep}
use Rattle.plan_witness.specs.Ways.{IsShortestWay, NoneLeads}
use Rattle.goal_witness.specs.Scenes.{IsScene, size_in}
use Rattle.goal_witness.specs.Walks.{IsAlong, IsLassoFound, IsLeastRound, IsLeastWithout, IsRoundWithout, Lacks, NoneWithout}
use Rattle.goal_witness.specs.Zones.{HasNoRound, IsZone, IsZoneLasso, kept}
use Rattle.plan_witness.specs.declared.scenes.Scene.{Scene}
use Rattle.goal_witness.proofs.Kept.{lasso_back, lasso_end, lasso_stem, least_without, no_lasso, none_without}

-- a number that lacks the second mark has neither where it lacks the first
neither_lacks : (a b both : Bool) → both ≡ not (a || b) → b ≡ false → (both ≡ true) ↔ (a ≡ false)
neither_lacks a b both is lacks = (
  (λ t. ⊎_elim (λ (e : a ≡ true). absurd (false≢true (sym (not_true (a || b) (sym is ∙ t)) ∙ or_left a b e))) (λ f. f) (decided a)),
  (λ f. is ∙ ap not (ap (λ x. x || b) f ∙ lacks)),
)

module _ (scene : Scene) (s : IsScene scene) (right inside : List Bool) (right_count : length right ≡ size_in scene) (negated : IsNegated (length right) right inside) (i : ℕ) (l : i < size_in scene) (lacks : Lacks right i) where
  abbrev next : ℕ → List ℕ
  next = followers_at scene.graph.now

  abbrev size : ℕ
  size = size_in scene

  without : IsNegated size right inside
  without = subst (λ n. IsNegated n right inside) right_count negated

  pub zone : (read : List Bool) → read ≡ inside → IsZone scene.graph.now read
  zone read is = record { followers = s.graph.next_below; count = ap length is ∙ without.count }

  -- a shortest way
  module _ (left made starts ends : List Bool) (read : List Bool) (is : read ≡ inside) (left_count : length left ≡ size) (joined : IsJoined (length left) Neither left right made) (reads : ends ≡ made)
      (only_made : List Bool) (only_is : starts ≡ only_made) (only_count : length only_made ≡ size) (only : (k : ℕ) → k < size → IsMarked only_made k ↔ (k ≡ i)) where
    lost : IsJoined size Neither left right ends
    lost = subst (λ ms. IsJoined size Neither left right ms) (sym reads) (subst (λ n. IsJoined n Neither left right made) left_count joined)

    same : (k : ℕ) → k < size → Lacks right k → IsMarked ends k ↔ Lacks left k
    same k b m = neither_lacks (mark_at left k) (mark_at right k) (mark_at ends k) (lost.each k b) m

    starts_only : (k : ℕ) → k < size → IsMarked starts k ↔ (k ≡ i)
    starts_only = subst (λ ms. (k : ℕ) → k < size → IsMarked ms k ↔ (k ≡ i)) (sym only_is) only

    pub found_start : (start : ℕ) → IsMarked starts start → start ≡ i
    found_start start m = (starts_only start (subst (λ k. start < k) (ap length only_is ∙ only_count) (marked_below starts start m))).0 m

    pub found_way : (start : ℕ) (numbers : List ℕ) → IsShortestWay (kept next read) starts (IsMarked ends) start numbers → IsLeastWithout next right (Lacks left) i numbers
    found_way start numbers w =
        least_without size next s.graph.next_below right inside without i l lacks starts starts_only (ap length only_is ∙ only_count) (IsMarked ends) (Lacks left) same start numbers
        (subst (λ ms. IsShortestWay (kept next ms) starts (IsMarked ends) start numbers) is w)

    pub no_way : NoneLeads (kept next read) starts (IsMarked ends) → NoneWithout next right (Lacks left) i
    no_way none =
        none_without size next s.graph.next_below right inside without i l lacks starts starts_only (ap length only_is ∙ only_count) (IsMarked ends) (Lacks left) same
        (subst (λ ms. NoneLeads (kept next ms) starts (IsMarked ends)) is none)

  -- a lasso
  module _ (read : List Bool) (is : read ≡ inside) (stem : List ℕ) (j first : ℕ) (back : List ℕ) (lasso : IsZoneLasso (kept next read) i stem j first back) where
    within : IsZoneLasso (kept next inside) i stem j first back
    within = subst (λ ms. IsZoneLasso (kept next ms) i stem j first back) is lasso

    pub stem_least : IsLeastWithout next right (IsRoundWithout next right) i stem
    stem_least = lasso_stem size next s.graph.next_below right inside without i l lacks stem j first back within

    pub end_below : j < size
    end_below = lasso_end size next s.graph.next_below right inside without i l lacks stem j first back within

    pub back_least : IsLeastRound next right j first back
    back_least = lasso_back size next s.graph.next_below right inside without i l lacks stem j first back within

    pub found_lasso : (steps backs : List PlainStep) → IsAlong scene i stem steps → IsAlong scene j (first ∷ back) backs → IsLassoFound scene right i steps backs
    found_lasso steps backs along along_back =
        let e : j ≡ last_number i stem = sym lasso.ends in
        record {
          numbers = stem;
          least = stem_least;
          along = along;
          first = first;
          others = back;
          round = subst (λ k. IsLeastRound next right k first back) e back_least;
          along_back = subst (λ k. IsAlong scene k (first ∷ back) backs) e along_back;
        }

  pub no_lasso_found : (read : List Bool) → read ≡ inside → HasNoRound (kept next read) i → NoneWithout next right (IsRoundWithout next right) i
  no_lasso_found read is none = no_lasso size next s.graph.next_below right inside without i l lacks (subst (λ ms. HasNoRound (kept next ms) i) is none)

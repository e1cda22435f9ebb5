-- How a caller's own slots change by each call.
use Rattle.std.proofs.Common.{◌≡◌, ℕ, false, List, [], ◌∷◌, ◌++◌, refl, sym, ap, ◌∙◌, arith, All, get_or, zero, suc}
use Rattle.dd_sets.specs.declared.slots.SetId.{SetId}
use Rattle.std.proofs.lemmas.Bool.{both_ways, false_from_ne_true}
use Rattle.dd_sets.specs.Calls.{KeepsSets, Releases}
use Rattle.dd_sets.specs.LiveSets.{LiveSets, is_live, IsLive}

pub kept_same : (sets : LiveSets) → KeepsSets sets sets
kept_same sets = record { vars = refl; limit = refl; order = refl; live = λ slot live. live; sets = λ slot live. refl }

pub kept_chain : (a b c : LiveSets) → KeepsSets a b → KeepsSets b c → KeepsSets a c
kept_chain a b c first second = record {
  vars = second.vars ∙ first.vars;
  limit = second.limit ∙ first.limit;
  order = second.order ∙ first.order;
  live = λ slot live. second.live slot (first.live slot live);
  sets = λ slot live. second.sets slot (first.live slot live) ∙ first.sets slot live;
}

-- what is not live now was not live before
pub not_before : (a b : LiveSets) → KeepsSets a b → (slot : ℕ) → is_live b slot ≡ false → is_live a slot ≡ false
not_before a b kept slot free = false_from_ne_true (is_live a slot) (λ live. both_ways (is_live b slot) free (kept.live slot live))

-- the end of a slot that was not live before
pub kept_release : (a b c : LiveSets) (slot : ℕ) → KeepsSets a b → Releases b c slot → is_live a slot ≡ false → KeepsSets a c
kept_release a b c slot kept ends free =
    let differs = λ (other : ℕ) (live : IsLive a other) (same : other ≡ slot). both_ways (is_live a slot) free (ap (is_live a) (sym same) ∙ live) in
    record {
      vars = ends.vars ∙ kept.vars;
      limit = ends.limit ∙ kept.limit;
      order = ends.order ∙ kept.order;
      live = λ other live. ends.live other (differs other live) ∙ kept.live other live;
      sets = λ other live. ends.sets other (differs other live) ∙ kept.sets other live;
    }

-- live slots stay so, and a new one joins them
pub all_kept : (a b : LiveSets) → KeepsSets a b → (known : List (SetId × ℕ)) → All (λ (entry : SetId × ℕ). IsLive a entry.0.0) known → All (λ (entry : SetId × ℕ). IsLive b entry.0.0) known
all_kept a b kept known all k d within = kept.live (get_or known k d).0.0 (all k d within)

pub all_added : (a : LiveSets) (known : List (SetId × ℕ)) (slot : SetId) (table : ℕ) → All (λ (entry : SetId × ℕ). IsLive a entry.0.0) known → IsLive a slot.0
    → All (λ (entry : SetId × ℕ). IsLive a entry.0.0) (known ++ (slot, table) ∷ [])
all_added a [] slot table all live zero d within = live
all_added a [] slot table all live (suc k) d within = absurd (omega arith)
all_added a (entry ∷ known) slot table all live zero d within = all 0 d (omega arith)
all_added a (entry ∷ known) slot table all live (suc k) d within = all_added a known slot table (λ j e inside. all (suc j) e (omega arith)) live k d (omega arith)

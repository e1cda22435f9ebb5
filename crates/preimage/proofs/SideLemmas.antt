-- What an outcome leaves where it leads to a state from everywhere.
use Rattle.std.proofs.Common.{◌≡◌, ℕ, Bool, true, false, not, ◌&&◌, Option, Some, None, Result, refl, subst, sym}
use Rattle.dd_nodes.specs.Subfunctions.{Function}
use Rattle.dd_ops.specs.Operations.{and_of, minus_of}
use Rattle.dd_sets.specs.Frames.{piece_of}
use Rattle.dd_sets.specs.LiveSets.{LiveSets, everything}
use Rattle.dd_sets.specs.Rooms.{AreRough}
use Rattle.dd_sets.specs.declared.errors.SetErr.{SetErr}
use Rattle.dd_sets.specs.declared.slots.SetId.{SetId}
use Rattle.encode_task.specs.Made.{Holds, HoldsLands}
use Rattle.preimage.specs.Sides.{on_side}
use Rattle.preimage.specs.declared.slots.Side.TheVariants.{Inside, Outside}

pub inside_everything : (f g : Function) → and_of f g ≡ on_side Inside everything f g
inside_everything f g = λ i values. (step (f values) (g values)) i
  where
    step : (a b : Bool) → (a && b) ≡ (a && not (true && not b))
    step true true = refl
    step true false = refl
    step false b = refl

pub outside_everything : (f g : Function) → minus_of f g ≡ on_side Outside everything f g
outside_everything f g = λ i values. (step (f values) (g values)) i
  where
    step : (a b : Bool) → (a && not b) ≡ (a && not (b && true))
    step true true = refl
    step true false = refl
    step false b = refl

-- so the piece of the operation is the same
pub piece_inside : (vars width : ℕ) (sets : LiveSets) (a : SetId) (b : Result SetId SetErr) → AreRough vars width (piece_of (on_side Inside everything) sets a b) → AreRough vars width (piece_of and_of sets a b)
piece_inside vars width sets a b rough = subst (λ (operation : Function → Function → Function). AreRough vars width (piece_of operation sets a b)) (λ i f g. sym (inside_everything f g) i) rough

pub piece_outside : (vars width : ℕ) (sets : LiveSets) (a : SetId) (b : Result SetId SetErr) → AreRough vars width (piece_of (on_side Outside everything) sets a b) → AreRough vars width (piece_of minus_of sets a b)
piece_outside vars width sets a b rough = subst (λ (operation : Function → Function → Function). AreRough vars width (piece_of operation sets a b)) (λ i f g. sym (outside_everything f g) i) rough

-- the slot, where there is one, and where there is none
pub lands_some : (sets : LiveSets) (lands : Option SetId) (slot : SetId) (landing : Function) → lands ≡ Some slot → HoldsLands sets lands landing → Holds sets slot landing
lands_some sets lands slot landing is held = subst (λ l. HoldsLands sets l landing) is held

pub lands_none : (sets : LiveSets) (lands : Option SetId) (landing : Function) → lands ≡ None → HoldsLands sets lands landing → landing ≡ everything
lands_none sets lands landing is held = subst (λ l. HoldsLands sets l landing) is held

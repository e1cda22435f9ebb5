-- What an answer leaves of a board, and what follows for one that is made of it.
use Rattle.std.proofs.Common.{◌≡◌, List, Result, Ok, Err, IfErr, IfOk, IsErrOf, OnOk, sym, subst, ◌∙◌}
use Rattle.dd_sets.specs.declared.errors.SetErr.{SetErr}
use Rattle.dd_sets.specs.declared.errors.SetErr.TheVariants.{Full, Memory}
use Rattle.dd_sets.specs.declared.slots.SetId.{SetId}
use Rattle.encode_task.specs.Slots.{Encoded}
use Rattle.slot_board.specs.Board.{At, Ends, HasNoRoom, Left, Start}

module _ {T : Type 0} (start : Start) (now : Encoded) (slots : List SetId) where
  pub found_of : (P : T → Type 0) (result : Result T SetErr) (x : T) → result ≡ Ok x → Ends start now slots P result → P x
  found_of P result x is ends = subst (Ends start now slots P) is ends

  pub ends_with : (P Q : T → Type 0) (result : Result T SetErr) → ((x : T) → P x → Q x) → Ends start now slots P result → Ends start now slots Q result
  ends_with P Q (Ok x) f ends = f x ends
  ends_with P Q (Err e) f ends = ends

  -- whatever it is, the board is there
  pub ends_at : (P : T → Type 0) (result : Result T SetErr) → ((x : T) → P x → At start now slots) → Ends start now slots P result → At start now slots
  ends_at P (Ok x) f ends = f x ends
  ends_at P (Err e) f ends = ends.0

  pub ends_ok : (P Q : T → Type 0) (result : Result T SetErr) → ((x : T) → P x → Q x) → Ends start now slots P result → IfOk result Q
  ends_ok P Q (Ok x) f ends = f x ends
  ends_ok P Q (Err e) f ends = tt

  -- a refusal for want of room
  pub ends_full : (P : T → Type 0) (result : Result T SetErr) → Ends start now slots P result → IsErrOf result Full → HasNoRoom start now
  ends_full P (Ok x) ends full = absurd (let h : Ok x ≡ Err Full = full in cc)
  ends_full P (Err e) ends full = ends.1 (let h : Err e ≡ Err Full = full in cc)

  -- a note behind the last call
  pub noted_then : (P Q : Type 0) (result : Result T SetErr) → IfErr result (λ e. e ≡ Memory) → OnOk result P → At start now slots → (P → Q) → Left start now slots Q result
  noted_then P Q (Ok x) never done at then = then done
  noted_then P Q (Err e) never done at then = (at, λ full. absurd (let no : Memory ≡ Full = sym never ∙ full in cc))

  -- want of memory, where the board is as it was
  pub wants_memory : (Q : T → Type 0) (outer : Result T SetErr) (e : SetErr) → e ≡ Memory → (x : SetErr) × (outer ≡ Err x) × (x ≡ e) → At start now slots → Ends start now slots Q outer
  wants_memory Q outer e memory p at =
      subst (Ends start now slots Q) (sym p.1) (at, λ full. absurd (let same : Memory ≡ Full = sym memory ∙ sym p.2 ∙ full in cc))

-- a refusal that is passed on
module _ {S T : Type 0} (start : Start) (now : Encoded) (slots : List SetId) where
  pub passed_on : (P : S → Type 0) (Q : T → Type 0) (inner : Result S SetErr) (outer : Result T SetErr) (e : SetErr) → inner ≡ Err e → (x : SetErr) × (outer ≡ Err x) × (x ≡ e) → Ends start now slots P inner → Ends start now slots Q outer
  passed_on P Q inner outer e was p ends =
      subst (Ends start now slots Q) (sym p.1) (let kept = subst (Ends start now slots P) was ends in (kept.0, λ full. kept.1 (sym p.2 ∙ full)))

  pub memory_passed : (Q : T → Type 0) (inner : Result S SetErr) (outer : Result T SetErr) (e : SetErr) → inner ≡ Err e → (x : SetErr) × (outer ≡ Err x) × (x ≡ e) → IfErr inner (λ e. e ≡ Memory) → At start now slots
      → Ends start now slots Q outer
  memory_passed Q inner outer e was p never at = wants_memory start now slots Q outer e (subst (λ r. IfErr r (λ e. e ≡ Memory)) was never) p at

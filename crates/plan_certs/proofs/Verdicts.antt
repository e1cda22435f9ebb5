-- Every certificate is accepted or has a first flaw, and none is both.
use Rattle.std.proofs.Common.{◌≡◌, ◌≢◌, ℕ, ◌<◌, Bool, true, false, not, ◌&&◌, ◌⊎◌, inl, inr, List, [], ◌∷◌, length, refl, sym, ap, ◌∙◌}
use Rattle.std.specs.List.{Contains, list_any, range_with_len}
use Rattle.std.proofs.lemmas.Bool.{false≢true, true≢false, and_from, and_parts, not-true}
use Rattle.task_core.specs.Vectors.{Vector, all_vectors}
use Rattle.task_core.specs.Systems.{System, IsSystem, goal_states}
use Rattle.task_core.proofs.Vectors.{all_vectors_has, all_vectors_length}
use Rattle.plan_certs.specs.Certificates.{CanAct, CertificateFlaw, HasNoWayOut, HoldsInitial, HoldsNoGoal, IsAccepted, IsFirstFlaw, IsWayOut, PlainCertificate, holds_state, is_no_way_out, no_initial, set_at, some_goal, some_holds, way_out}
use Rattle.list_laws.proofs.Elements.{Contains-range_with_len, Contains-range_with_len-below, list_any-false, list_any-witness}

pub not_both : (sys : System) (c : PlainCertificate) (flaw : CertificateFlaw) → IsAccepted sys c → IsFirstFlaw sys c flaw → ⊥
not_both sys c no_initial accepted none = true≢false (sym accepted.initial.held ∙ none accepted.start accepted.initial.initial)
not_both sys c (some_goal s) accepted first = true≢false (sym first.1.held ∙ accepted.goal s first.1.goal)
not_both sys c (way_out i s a) accepted first = true≢false (sym (accepted.actions i s a first.2.acts) ∙ first.2.leads)

has_some : {X : Type 0} → List X → Bool
has_some [] = false
has_some (x ∷ xs) = true

has_some-from : {X : Type 0} (xs : List X) → xs ≢ [] → has_some xs ≡ true
unfolding has_some
has_some-from [] some = absurd (some refl)
has_some-from (x ∷ xs) some = refl

has_some-true : {X : Type 0} (xs : List X) → has_some xs ≡ true → xs ≢ []
unfolding has_some
has_some-true [] h e = false≢true h
has_some-true (x ∷ xs) h e = cc

module _ (sys : System) (ok : IsSystem sys) (c : PlainCertificate) where
  -- the test whether action a is a way out of set i from s
  leaves : ℕ → Vector → ℕ → Bool
  leaves i s a =
      (holds_state (set_at c.sets i) s && sys.in_space s) && (has_some (sys.next s a) && not (is_no_way_out c.class c.sets i (sys.next s a)))

  some_action : ℕ → Vector → Bool
  some_action i s = list_any (leaves i s) (range_with_len 0 sys.actions)

  some_state : ℕ → Bool
  some_state i = list_any (some_action i) (all_vectors sys.fluents)

  some_set : Bool
  some_set = list_any some_state (range_with_len 0 (length c.sets))

  way_out-from : (i : ℕ) (s : Vector) (a : ℕ) → i < length c.sets → Contains (all_vectors sys.fluents) s → leaves i s a ≡ true → IsWayOut sys c i s a
  unfolding leaves
  way_out-from i s a within listed h =
      let no_way = is_no_way_out c.class c.sets i (sys.next s a) in
      let both = and_parts (holds_state (set_at c.sets i) s && sys.in_space s) (has_some (sys.next s a) && not no_way) h in
      let here = and_parts (holds_state (set_at c.sets i) s) (sys.in_space s) both.0 in
      let there = and_parts (has_some (sys.next s a)) (not no_way) both.1 in
      record {
        acts = record {
          set = within;
          state = record { vector = all_vectors_length sys.fluents s listed; inside = here.1 };
          held = here.0;
          executable = has_some-true (sys.next s a) there.0;
        };
        leads = not-true no_way there.1;
      }

  found : some_set ≡ true → (i : ℕ) × (s : Vector) × (a : ℕ) × IsWayOut sys c i s a
  unfolding some_set some_state some_action
  found h =
      let i = list_any-witness some_state (range_with_len 0 (length c.sets)) h in
      let s = list_any-witness (some_action i.0) (all_vectors sys.fluents) i.2 in
      let a = list_any-witness (leaves i.0 s.0) (range_with_len 0 sys.actions) s.2 in
      (i.0, s.0, a.0, way_out-from i.0 s.0 a.0 (Contains-range_with_len-below (length c.sets) i.0 i.1) s.1 a.2)

  leaves-from : (i : ℕ) (s : Vector) (a : ℕ) → CanAct sys c i s a → is_no_way_out c.class c.sets i (sys.next s a) ≡ false → leaves i s a ≡ true
  unfolding leaves
  leaves-from i s a acts e =
      let no_way = is_no_way_out c.class c.sets i (sys.next s a) in
      and_from (holds_state (set_at c.sets i) s && sys.in_space s) (has_some (sys.next s a) && not no_way)
      (and_from (holds_state (set_at c.sets i) s) (sys.in_space s) acts.held acts.state.inside)
      (and_from (has_some (sys.next s a)) (not no_way) (has_some-from (sys.next s a) acts.executable) (ap not e))

  none_found : some_set ≡ false → HasNoWayOut sys c
  unfolding some_set some_state some_action
  none_found h i s a acts = by_test (is_no_way_out c.class c.sets i (sys.next s a)) refl
    where
      by_test : (b : Bool) → is_no_way_out c.class c.sets i (sys.next s a) ≡ b → is_no_way_out c.class c.sets i (sys.next s a) ≡ true
      by_test true e = e
      by_test false e =
          let by_set = list_any-false some_state (range_with_len 0 (length c.sets)) i h (Contains-range_with_len (length c.sets) i acts.set) in
          let by_state = list_any-false (some_action i) (all_vectors sys.fluents) s by_set (all_vectors_has sys.fluents s acts.state.vector) in
          let by_action = list_any-false (leaves i s) (range_with_len 0 sys.actions) a by_state (Contains-range_with_len sys.actions a (ok.actions s a acts.executable)) in
          absurd (true≢false (sym (leaves-from i s a acts e) ∙ by_action))

  by_actions : (start : Vector) → HoldsInitial sys c start → HoldsNoGoal sys c → (b : Bool) → some_set ≡ b → IsAccepted sys c ⊎ ((flaw : CertificateFlaw) × IsFirstFlaw sys c flaw)
  by_actions start held no_goal true e = let w = found e in inr (way_out w.0 w.1 w.2, ((start, held), no_goal, w.3))
  by_actions start held no_goal false e = inl (record { start = start; initial = held; goal = no_goal; actions = none_found e })

  by_goal : (start : Vector) → HoldsInitial sys c start → (b : Bool) → list_any (some_holds c.sets) (goal_states sys) ≡ b → IsAccepted sys c ⊎ ((flaw : CertificateFlaw) × IsFirstFlaw sys c flaw)
  by_goal start held true e = let w = list_any-witness (some_holds c.sets) (goal_states sys) e in inr (some_goal w.0, ((start, held), record { goal = w.1; held = w.2 }))
  by_goal start held false e = by_actions start held (λ s h. list_any-false (some_holds c.sets) (goal_states sys) s e h) some_set refl

  by_initial : (b : Bool) → list_any (some_holds c.sets) sys.initial ≡ b → IsAccepted sys c ⊎ ((flaw : CertificateFlaw) × IsFirstFlaw sys c flaw)
  by_initial true e = let w = list_any-witness (some_holds c.sets) sys.initial e in by_goal w.0 (record { initial = w.1; held = w.2 }) (list_any (some_holds c.sets) (goal_states sys)) refl
  by_initial false e = inr (no_initial, λ s h. list_any-false (some_holds c.sets) sys.initial s e h)

pub answered : (sys : System) (c : PlainCertificate) → IsSystem sys → IsAccepted sys c ⊎ ((flaw : CertificateFlaw) × IsFirstFlaw sys c flaw)
answered sys c ok = by_initial sys ok c (list_any (some_holds c.sets) sys.initial) refl

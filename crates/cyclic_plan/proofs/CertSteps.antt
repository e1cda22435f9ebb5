-- What the rounds lose, and what is said of it at the end.
use Rattle.std.proofs.Common.{◌≡◌, ◌≢◌, ℕ, zero, suc, ◌+◌, ◌<◌, ◌^◌, Bool, true, false, not, ◌&&◌, List, [], ◌∷◌, ◌++◌, map, inl, Option, Some, None, IfSome, IfNone, Vec, Result, Ok, Err, IfOk, IsErrOf, refl, sym, ap, subst, ◌∙◌, ⊎_elim, arith}
use Rattle.std.specs.List.{Contains, list_all, list_any, range_with_len}
use Rattle.std.specs.declared.alloc.Global.{Global}
use Rattle.std.proofs.lemmas.Bool.{and_from, and_parts, cases_eq, or_cases, true≢false}
use Rattle.std.proofs.lemmas.List.{map-append}
use Rattle.dd_nodes.specs.Subfunctions.{Function}
use Rattle.dd_ops.specs.Operations.{minus_of}
use Rattle.dd_sets.specs.LiveSets.{IsLive, nothing, set_of}
use Rattle.dd_sets.specs.declared.errors.SetErr.{SetErr}
use Rattle.dd_sets.specs.declared.errors.SetErr.TheVariants.{Full}
use Rattle.dd_sets.specs.declared.slots.SetId.{SetId}
use Rattle.encode_task.specs.Slots.{Encoded}
use Rattle.encode_task.proofs.StateVectors.{cubes_agree, same_functions}
use Rattle.task_core.specs.Cubes.{cubes_of}
use Rattle.task_core.specs.Solutions.{HasNoSolution}
use Rattle.task_core.specs.Systems.{IsVector, IsSystem, System, goal_states}
use Rattle.task_core.specs.Tasks.{fluent_count, in_space, initial_states, system_of}
use Rattle.task_core.specs.Vectors.{Vector, all_vectors, same_vector, value_of}
use Rattle.task_core.specs.declared.classes.Class.TheVariants.{Cyclic, Weak}
use Rattle.task_core.specs.declared.tasks.Task.{Task}
use Rattle.task_core.proofs.TaskSystem.{is_system}
use Rattle.task_core.proofs.Vectors.{list_any_contains}
use Rattle.plan_rules.specs.Denoted.{denoted}
use Rattle.plan_certs.specs.Certificates.{CubeSet}
use Rattle.plan_certs.specs.Named.{plain_certificate, set_of as cubes_in}
use Rattle.plan_certs.specs.declared.certificates.Certificate.{Certificate}
use Rattle.plan_certs.specs.Printed.{IsFirstWhole, IsPrinted, lost_set, lost_sets}
use Rattle.plan_certs.specs.declared.certificates.StateSet.{StateSet}
use Rattle.plan_theory.specs.CyclicPlans.{cyclic_rules}
use Rattle.plan_theory.specs.Layers.{action_numbers, layer, may_lead, must_lead}
use Rattle.plan_theory.specs.PairRounds.{IsLastRound, kept, round}
use Rattle.plan_theory.specs.Pairs.{Pairs, restricted}
use Rattle.plan_theory.proofs.Cubes.{all_vectors-holds, all_vectors-length}
use Rattle.plan_theory.proofs.CyclicPrinted.{cyclic_solves}
use Rattle.list_laws.proofs.Ranges.{range-more}
use Rattle.plan_theory.proofs.Restricted.{outcome_of_pair}
use Rattle.plan_theory.proofs.RoundSteps.{held}
use Rattle.plan_theory.proofs.Survives.{last_is_largest}
use Rattle.plan_theory.proofs.Weak.{HasOutcome-Exec, same_vector-true}
use Rattle.plan_rules.proofs.DenotedPairs.{denoted-table}
use Rattle.list_laws.proofs.Elements.{list_all-at, list_all-from, list_any-from, list_any-witness}
use Rattle.slot_board.specs.Board.{At, Fits, HasNoRoom, IsSmall, Left, Moved, Start, Stayed, set_at}
use Rattle.slot_board.proofs.BoardSlots.{depends, made_at}
use Rattle.cyclic_plan.specs.Certificates.{CertificateEnds, Certifies, HasAllSets, HasLost, HasLostSets, HasSolution, LosesNoState, LosesSome}
use Rattle.cyclic_plan.specs.Rounds.{LosesNone}
use Rattle.cyclic_plan.specs.Stages.{HasRounds, none_taken}
use Rattle.cyclic_plan.proofs.Answered.{all_covered, lost_is, near_covered_is}
use Rattle.cyclic_plan.proofs.Fitting.{new_fits, space_itself}
use Rattle.cyclic_plan.proofs.Narrowing.{kept_narrowed, none_lost}
use Rattle.cyclic_plan.proofs.Premises.{at_place}
use Rattle.cyclic_plan.proofs.RoundsMade.{round_less}
use Rattle.cyclic_plan.proofs.StageSteps.{here, near_still}

-- a state from which the goal is reached is one
near_state : (sys : System) (ok : IsSystem sys) (pairs : Pairs) (k : ℕ) (v : Vector) → layer Weak (restricted sys pairs) k v ≡ true → sys.in_space v ≡ true
near_state sys ok pairs zero v h =
    let w = list_any-witness (same_vector v) (goal_states sys) h in
    let e : v ≡ w.0 = same_vector-true v w.0 w.2 in
    ap sys.in_space e ∙ (ok.goal w.0 w.1).inside
near_state sys ok pairs (suc k) v h =
    ⊎_elim (λ e. near_state sys ok pairs k v e)
    (λ e.
    let a = list_any-witness (may_lead (restricted sys pairs) (layer Weak (restricted sys pairs) k) v) (action_numbers sys) e in
    let t = list_any-witness (layer Weak (restricted sys pairs) k) ((restricted sys pairs).next v a.0) a.2 in
    let o = outcome_of_pair sys pairs v a.0 t.0 t.1 in
    ok.inside v a.0 (HasOutcome-Exec sys v a.0 t.0 o.1))
    (or_cases (layer Weak (restricted sys pairs) k v) _ h)

-- the first round's loss, and a later one's
pub lost_first : (start : Start) (enc mid now : Encoded) (old half new : List SetId) (space : SetId) → space ≡ enc.space → HasRounds start enc old 0 → Moved start enc.sets old mid half 6 (set_of enc.sets space.0) → Moved start mid.sets half now new 6 (minus_of (set_at mid.sets half 6) (set_at mid.sets half 3)) → HasLost start now new 0
lost_first start enc mid now old half new space is_space h first second =
    let sys = system_of start.task in
    let places = h.round.places in
    let middle = near_still start enc mid old half 6 _ first places _ _ _ h (λ e. absurd (omega arith)) (λ e. absurd (omega arith)) (λ e. absurd (omega arith)) (omega arith) in
    record {
      rounds = near_still start mid now half new 6 _ second places _ _ _ middle (λ e. absurd (omega arith)) (λ e. absurd (omega arith)) (λ e. absurd (omega arith)) (omega arith);
      holds_lost = here start mid now half new 6 _ second places (lost_set sys 0)
          (λ v is.
          ap (λ (f : Function). f (value_of v) && not (set_at mid.sets half 3 (value_of v))) (first.here ∙ ap (λ (s : SetId). set_of enc.sets s.0) is_space ∙ (made_at start enc old h.round.at).space.holds)
          ∙ ap (λ b. in_space start.task v && not b) (middle.holds_near v is));
    }

under : (s b : Bool) → (b ≡ true → s ≡ true) → b ≡ (s && b)
under true b up = refl
under false true up = sym (up refl)
under false false up = refl

pub lost_later : (start : Start) (enc now : Encoded) (old new : List SetId) (r : ℕ) → HasRounds start enc old (suc r) → Moved start enc.sets old now new 6 (minus_of (set_at enc.sets old 1) (set_at enc.sets old 3)) → HasLost start now new (suc r)
lost_later start enc now old new r h m =
    let sys = system_of start.task in
    let places = h.round.places in
    record {
      rounds = near_still start enc now old new 6 _ m places _ _ _ h (λ e. absurd (omega arith)) (λ e. absurd (omega arith)) (λ e. absurd (omega arith)) (omega arith);
      holds_lost = here start enc now old new 6 _ m places (lost_set sys (suc r))
          (λ v is.
          ap (λ b. b && not (set_at enc.sets old 3 (value_of v))) (h.round.holds_left v is)
          ∙ ap (λ b. round sys (suc r) v && not b) (h.holds_near v is)
          ∙ under (sys.in_space v) (round sys (suc r) v && not (round sys (suc (suc r)) v))
          (λ e. near_state sys (is_system start.task) (kept sys (round sys r)) (2 ^ sys.fluents) v (and_parts (round sys (suc r) v) _ e).0));
    }

-- they fit at their place
pub space_small : (start : Start) (enc : Encoded) (old : List SetId) (space : SetId) → space ≡ enc.space → HasRounds start enc old 0 → IsSmall start (set_of enc.sets space.0)
space_small start enc old space is_space h =
    subst (IsSmall start) (sym (ap (λ (s : SetId). set_of enc.sets s.0) is_space ∙ (made_at start enc old h.round.at).space.holds)) (space_itself start h.round.fit)

pub space_fits : (start : Start) (enc : Encoded) (old : List SetId) (space : SetId) → space ≡ enc.space → HasRounds start enc old 0 → Fits start 6 (set_of enc.sets space.0)
space_fits start enc old space is_space h = inl (space_small start enc old space is_space h)

pub space_live : (start : Start) (enc : Encoded) (old : List SetId) (space : SetId) → space ≡ enc.space → HasRounds start enc old 0 → IsLive enc.sets space.0
space_live start enc old space is_space h = subst (λ (s : SetId). IsLive enc.sets s.0) (sym is_space) (made_at start enc old h.round.at).space.live

pub first_fits : (start : Start) (enc mid : Encoded) (old half : List SetId) (space : SetId) → space ≡ enc.space → HasRounds start enc old 0 → Moved start enc.sets old mid half 6 (set_of enc.sets space.0)
    → Fits start 6 (minus_of (set_at mid.sets half 6) (set_at mid.sets half 3))
first_fits start enc mid old half space is_space h first =
    let middle = near_still start enc mid old half 6 _ first h.round.places _ _ _ h (λ e. absurd (omega arith)) (λ e. absurd (omega arith)) (λ e. absurd (omega arith)) (omega arith) in
    new_fits start h.round.fit _ _ (subst (IsSmall start) (sym first.here) (space_small start enc old space is_space h)) (at_place start mid half _ _ middle.round 3 (omega arith) (λ e. absurd (omega arith)) (λ e. absurd (omega arith)))

pub later_fits : (start : Start) (enc : Encoded) (old : List SetId) (r : ℕ) → HasRounds start enc old r → Fits start 6 (minus_of (set_at enc.sets old 1) (set_at enc.sets old 3))
later_fits start enc old r h =
    new_fits start h.round.fit _ _ (at_place start enc old _ _ h.round 1 (omega arith) (λ e. absurd (omega arith)) (λ e. absurd (omega arith))) (at_place start enc old _ _ h.round 3 (omega arith) (λ e. absurd (omega arith)) (λ e. absurd (omega arith)))

-- the round after one that loses nothing is the last
module _ (sys : System) (ok : IsSystem sys) (n : ℕ) (none : LosesNoState sys n) where
  stays_left : (v : Vector) → IsVector sys v → sys.in_space v ≡ true → round sys n v ≡ true → round sys (suc n) v ≡ true
  stays_left v is inside left = go (round sys (suc n) v) refl
    where
      go : (b : Bool) → round sys (suc n) v ≡ b → round sys (suc n) v ≡ true
      go true e = e
      go false e = absurd (true≢false (sym (and_from (sys.in_space v) (round sys n v && not (round sys (suc n) v)) inside (and_from (round sys n v) (not (round sys (suc n) v)) left (ap not e))) ∙ none v is))

  leads_still : (v : Vector) (a : ℕ) → must_lead sys (round sys n) v a ≡ true → must_lead sys (round sys (suc n)) v a ≡ true
  leads_still v a h =
      let both = and_parts (may_lead sys (round sys n) v a) (list_all (round sys n) (sys.next v a)) h in
      let still : (t : Vector) → Contains (sys.next v a) t → round sys (suc n) t ≡ true = λ t c. let state = ok.next v a t c in stays_left t state.vector state.inside (list_all-at (round sys n) (sys.next v a) t both.1 c) in
      let w = list_any-witness (round sys n) (sys.next v a) both.0 in
      and_from (may_lead sys (round sys (suc n)) v a) (list_all (round sys (suc n)) (sys.next v a))
      (list_any-from (round sys (suc n)) (sys.next v a) w.0 w.1 (still w.0 w.1))
      (list_all-from (round sys (suc n)) (sys.next v a) still)

  lost_pairs : (a : ℕ) → a < sys.actions → LosesNone sys n a
  lost_pairs a below v is =
      kept_narrowed sys n v a
      ∙ sym (under (must_lead sys (round sys (suc n)) v a) (kept sys (round sys n) v a && round sys (suc n) v)
      (λ e.
      let pair = (and_parts (kept sys (round sys n) v a) (round sys (suc n) v) e).0 in
      let rest = (and_parts (round sys n v) _ pair).1 in
      leads_still v a (and_parts _ (must_lead sys (round sys n) v a) rest).1))

  pub last_after : IsLastRound sys (suc n)
  last_after = none_lost sys ok n lost_pairs

-- where the initial states are left at the end, there is a solution
pub solved : (task : Task) (n : ℕ) → LosesNoState (system_of task) n → list_all (round (system_of task) (suc n)) (system_of task).initial ≡ true → HasSolution (system_of task)
solved task n none all =
    let sys = system_of task in
    let ok = is_system task in
    let pairs = kept sys (round sys (suc n)) in
    let last = last_after sys ok n none in (
      denoted sys (cyclic_rules sys pairs),
      denoted-table sys ok (cyclic_rules sys pairs),
      cyclic_solves sys pairs ok (last_is_largest sys ok (suc n) last).proper (all_covered task (suc n) last all),
    )

-- the sets so far: none, one more, and all
pub sets_begun : (start : Start) (now : Encoded) (slots : List SetId) (sets : List StateSet) → HasLost start now slots 0 → sets ≡ [] → HasLostSets start now slots 0 sets
sets_begun start now slots sets h is = record { lost = h; some = λ r l. absurd (omega arith); are = ap (map cubes_in) is }

lost_more : (sys : System) (r : ℕ) → lost_sets sys r ++ cubes_of sys.fluents (lost_set sys r) ∷ [] ≡ lost_sets sys (suc r)
lost_more sys r =
    let f : ℕ → CubeSet = λ q. cubes_of sys.fluents (lost_set sys q) in
    let e : r + 1 ≡ suc r = omega arith in
    sym (map-append f (range_with_len 0 r) (r ∷ [])) ∙ ap (map f) (sym (range-more r)) ∙ ap (λ n. map f (range_with_len 0 n)) e

-- what is not empty has a state
pub loses_one : (start : Start) (now : Encoded) (slots : List SetId) (r : ℕ) → HasLost start now slots r → (set_at now.sets slots 6 ≡ nothing → ⊥) → (v : Vector) × IsVector (system_of start.task) v × (lost_set (system_of start.task) r v ≡ true)
loses_one start now slots r h some = go (list_any (lost_set (system_of start.task) r) (all_vectors (fluent_count start.task))) refl
  where
    go : (b : Bool) → list_any (lost_set (system_of start.task) r) (all_vectors (fluent_count start.task)) ≡ b → (v : Vector) × IsVector (system_of start.task) v × (lost_set (system_of start.task) r v ≡ true)
    go true e =
        let w = list_any-witness (lost_set (system_of start.task) r) (all_vectors (fluent_count start.task)) e in
        (w.0, all_vectors-length (fluent_count start.task) w.0 w.1, w.2)
    go false e =
        absurd (some (same_functions (fluent_count start.task) (set_at now.sets slots 6) nothing (depends start now slots h.rounds.round.at h.rounds.round.sound 6) (λ s t same. refl)
        (λ v is. h.holds_lost v is ∙ list_any_contains (lost_set (system_of start.task) r) (all_vectors (fluent_count start.task)) v e (all_vectors-holds (fluent_count start.task) v is))))

pub sets_more : (start : Start) (enc now : Encoded) (old new : List SetId) (r : ℕ) (before after : List StateSet) → HasLostSets start enc old r before → (set_at enc.sets old 6 ≡ nothing → ⊥)
    → map cubes_in after ≡ map cubes_in before ++ cubes_of (fluent_count start.task) (lost_set (system_of start.task) r) ∷ [] → HasLost start now new (suc r) → HasLostSets start now new (suc r) after
sets_more start enc now old new r before after h some made next = record {
  lost = next;
  some = λ q l.
      ⊎_elim
      (λ (same : q ≡ r). subst (λ k. (v : Vector) × IsVector (system_of start.task) v × (lost_set (system_of start.task) k v ≡ true)) (sym same) (loses_one start enc old r h.lost some))
      (λ (differs : q ≢ r). h.some q (let d = differs in omega arith))
      (cases_eq q r);
  are = made ∙ ap (λ x. x ++ cubes_of (fluent_count start.task) (lost_set (system_of start.task) r) ∷ []) h.are ∙ lost_more (system_of start.task) r;
}

pub sets_done : (start : Start) (now : Encoded) (slots : List SetId) (r : ℕ) (sets : List StateSet) → HasLostSets start now slots r sets → set_at now.sets slots 6 ≡ nothing → HasAllSets start now slots sets
sets_done start now slots r sets h empty = record {
  rounds = r;
  so_far = h;
  none = λ v is. sym (h.lost.holds_lost v is) ∙ ap (λ (f : Function). f (value_of v)) empty;
}

-- where a round loses a state, fewer are left
pub sets_less : (start : Start) (enc now : Encoded) (old new : List SetId) (r n : ℕ) → HasLost start enc old r → (set_at enc.sets old 6 ≡ nothing → ⊥) → n ≡ fluent_count start.task → HasLost start now new (suc r)
    → held (λ v. set_at now.sets new 1 (value_of v)) (all_vectors n) < held (λ v. set_at enc.sets old 1 (value_of v)) (all_vectors n)
sets_less start enc now old new r n h some is_n after =
    round_less start enc now old new r n h.rounds
    (λ same.
    let sys = system_of start.task in
    let v = loses_one start enc old r h some in
    let both = and_parts (round sys r v.0) (not (round sys (suc r) v.0)) (and_parts (sys.in_space v.0) _ v.2).1 in
    let e : round sys (suc r) v.0 ≡ round sys r v.0 = sym (h.rounds.holds_near v.0 v.1) ∙ ap (λ (f : Function). f (value_of v.0)) same ∙ h.rounds.round.holds_left v.0 v.1 in
    true≢false (sym both.1 ∙ ap not (e ∙ both.0)))
    is_n _ _ after.rounds

-- the cubes of what a round lost
pub set_added : (start : Start) (enc : Encoded) (slots : List SetId) (r : ℕ) (before after : List StateSet) (set : StateSet) → HasLost start enc slots r
    → cubes_in set ≡ cubes_of enc.sets.vars (λ state. set_at enc.sets slots 6 (value_of state)) → after ≡ before ++ set ∷ []
    → map cubes_in after ≡ map cubes_in before ++ cubes_of (fluent_count start.task) (lost_set (system_of start.task) r) ∷ []
set_added start enc slots r before after set h made pushed =
    let n = fluent_count start.task in
    let vars : enc.sets.vars ≡ n = h.rounds.round.at.working.kept.vars ∙ start.made.ready.vars ∙ start.made.fluents in
    let same : cubes_in set ≡ cubes_of n (lost_set (system_of start.task) r) =
    made ∙ ap (λ k. cubes_of k (λ state. set_at enc.sets slots 6 (value_of state))) vars
    ∙ cubes_agree n 0 (λ state. set_at enc.sets slots 6 (value_of state)) (lost_set (system_of start.task) r) h.holds_lost in
    ap (map cubes_in) pushed ∙ map-append cubes_in before (set ∷ []) ∙ ap (λ s. map cubes_in before ++ s ∷ []) same

-- the first round that loses no state
first_whole : (sys : System) (n : ℕ) → LosesSome sys n → LosesNoState sys n → IsFirstWhole sys n
first_whole sys n some none = record {
  whole = ap not (go (list_any (lost_set sys n) (all_vectors sys.fluents)) refl);
  first = λ k l. let v = some k l in ap not (list_any-from (lost_set sys k) (all_vectors sys.fluents) v.0 (all_vectors-holds sys.fluents v.0 v.1) v.2);
}
  where
    go : (b : Bool) → list_any (lost_set sys n) (all_vectors sys.fluents) ≡ b → list_any (lost_set sys n) (all_vectors sys.fluents) ≡ false
    go false e = e
    go true e = let w = list_any-witness (lost_set sys n) (all_vectors sys.fluents) e in absurd (true≢false (sym w.2 ∙ none w.0 (all_vectors-length sys.fluents w.0 w.1)))

-- what the search ends with
module _ (start : Start) (enc now : Encoded) (slots : List SetId) (sets : Vec StateSet Global) (h : HasAllSets start enc slots sets.items) where
  pub left_at_end : list_all (λ state. set_at enc.sets slots 3 (value_of state)) (initial_states start.task) ≡ list_all (round (system_of start.task) (suc h.rounds)) (system_of start.task).initial
  left_at_end = near_covered_is start enc slots (round (system_of start.task) h.rounds) none_taken (round (system_of start.task) (suc h.rounds)) h.so_far.lost.rounds

  module _ (stayed : Stayed start enc.sets now slots) (covered : Bool) (answer : covered ≡ list_all (λ state. set_at enc.sets slots 3 (value_of state)) (initial_states start.task)) where
    pub ends_with_plan : covered ≡ true → CertificateEnds start now slots (Ok None)
    ends_with_plan is = (stayed.at, solved start.task h.rounds h.none (sym left_at_end ∙ sym answer ∙ is))

    pub ends_with_sets : covered ≡ false → CertificateEnds start now slots (Ok (Some sets))
    ends_with_sets is = (
      stayed.at,
      lost_is start.task (suc h.rounds) (sym left_at_end ∙ sym answer ∙ is),
      h.rounds,
      first_whole (system_of start.task) h.rounds h.so_far.some h.none,
      h.so_far.are,
    )

-- a refusal of a step
pub cert_refused : {T : Type 0} (start : Start) (now : Encoded) (slots : List SetId) (P : Type 0) (inner : Result T SetErr) (outer : Result (Option (Vec StateSet Global)) SetErr) (e : SetErr) → inner ≡ Err e → (x : SetErr) × (outer ≡ Err x) × (x ≡ e) → Left start now slots P inner
    → CertificateEnds start now slots outer
cert_refused start now slots P inner outer e was p left =
    subst (CertificateEnds start now slots) (sym p.1) (let kept = subst (Left start now slots P) was left in (kept.0, λ full. kept.1 (sym p.2 ∙ full)))

-- at the end the slots are as at the start
pub cert_at : (start : Start) (now : Encoded) (slots : List SetId) (result : Result (Option (Vec StateSet Global)) SetErr) → CertificateEnds start now slots result → At start now slots
cert_at start now slots (Ok (Some sets)) ends = ends.0
cert_at start now slots (Ok None) ends = ends.0
cert_at start now slots (Err e) ends = ends.0

-- the certificate of these sets
pub with_these : (start : Start) (now : Encoded) (slots : List SetId) (answer : Result (Option (Vec StateSet Global)) SetErr) (sets : Vec StateSet Global) → answer ≡ Ok (Some sets) → CertificateEnds start now slots answer
    → Certifies start now slots (Ok (Some (record { class = Cyclic; sets = sets })))
with_these start now slots answer sets is ends = let h = subst (CertificateEnds start now slots) is ends in (h.1, (h.2, h.3, λ i. record { class = Cyclic; sets = h.4 i }))

pub with_none : (start : Start) (now : Encoded) (slots : List SetId) (answer : Result (Option (Vec StateSet Global)) SetErr) → answer ≡ Ok None → CertificateEnds start now slots answer → Certifies start now slots (Ok None)
with_none start now slots answer is ends = (subst (CertificateEnds start now slots) is ends).1

pub with_refusal : (start : Start) (now : Encoded) (slots : List SetId) (inner : Result (Option (Vec StateSet Global)) SetErr) (outer : Result (Option Certificate) SetErr) (e : SetErr) → inner ≡ Err e → (x : SetErr) × (outer ≡ Err x) × (x ≡ e) → CertificateEnds start now slots inner
    → Certifies start now slots outer
with_refusal start now slots inner outer e was p ends =
    subst (Certifies start now slots) (sym p.1) (let kept = subst (CertificateEnds start now slots) was ends in λ full. kept.1 (sym p.2 ∙ full))

-- what is said of it
pub says_printed : (start : Start) (now : Encoded) (slots : List SetId) (result : Result (Option Certificate) SetErr) → Certifies start now slots result → IfOk result (λ found. IfSome found (λ certificate. IsPrinted Cyclic (system_of start.task) (plain_certificate certificate)))
says_printed start now slots (Ok (Some certificate)) says = says.1
says_printed start now slots (Ok None) says = tt
says_printed start now slots (Err e) says = tt

pub says_none : (start : Start) (now : Encoded) (slots : List SetId) (result : Result (Option Certificate) SetErr) → Certifies start now slots result → IfOk result (λ found. IfSome found (λ certificate. HasNoSolution Cyclic (system_of start.task)))
says_none start now slots (Ok (Some certificate)) says = says.0
says_none start now slots (Ok None) says = tt
says_none start now slots (Err e) says = tt

pub says_plan : (start : Start) (now : Encoded) (slots : List SetId) (result : Result (Option Certificate) SetErr) → Certifies start now slots result → IfOk result (λ found. IfNone found (HasSolution (system_of start.task)))
says_plan start now slots (Ok (Some certificate)) says = tt
says_plan start now slots (Ok None) says = says
says_plan start now slots (Err e) says = tt

pub says_full : (start : Start) (now : Encoded) (slots : List SetId) (result : Result (Option Certificate) SetErr) → Certifies start now slots result → IsErrOf result Full → HasNoRoom start now
says_full start now slots (Ok found) says full = absurd (let f = full in cc)
says_full start now slots (Err e) says full = says (let f = full in cc)

-- An operation, its second try after a collection, and what they leave together.
use Rattle.std.proofs.Common.{◌≡◌, ℕ, suc, ◌+◌, ◌^◌, ◌<◌, ◌≤◌, Bool, true, false, List, [], ◌∷◌, ◌++◌, length, map, filter_map, flat_map, slice_index_or, Option, Some, None, Result, Ok, Err, IfOk, IsErrOf, is_some, ⊎_elim, refl, sym, ap, subst, ◌∙◌, arith}
use Rattle.std.specs.List.{list_any, list_all}
use Rattle.std.specs.Option.{option_map_or}
use Rattle.std.proofs.lemmas.Bool.{and_from, or_cases}
use Rattle.std.proofs.lemmas.List.Folds.{list_all-append, list_all-map}
use Rattle.dd_nodes.specs.declared.node.DdErr.{DdErr}
use Rattle.dd_nodes.specs.declared.node.Node.{Node}
use Rattle.dd_nodes.specs.declared.node.Ref.{Ref}
use Rattle.dd_nodes.specs.NodeList.{IsNumber, IsReduced, function}
use Rattle.dd_nodes.specs.Subfunctions.{Function, IsSubfunction, agree, constants, fixed, functions, lists_up_to, nodes, subfunctions}
use Rattle.dd_nodes.specs.Table.{NodeTable}
use Rattle.dd_nodes.proofs.Agreement.{agree_chain, agree_same}
use Rattle.dd_nodes.proofs.NodeCount.{lists_up_from}
use Rattle.dd_nodes.proofs.NodeLemmas.{function_false, function_true}
use Rattle.dd_nodes.proofs.Reaching.{reached_number, sub_reached}
use Rattle.dd_ops.specs.Calls.{Answers}
use Rattle.dd_ops.specs.Growth.{Grows, grow, subst_pieces}
use Rattle.dd_ops.specs.Operations.{not_of, and_of, or_of, minus_of, cofactor_of}
use Rattle.dd_ops.proofs.GrowthCount.{functions_some}
use Rattle.task_core.specs.declared.literals.FluentId.{FluentId}
use Rattle.dd_sets.specs.Calls.{AddsNone, MakesOnly}
use Rattle.dd_sets.specs.LiveSets.{LiveSets, IsSets, AllLive, is_live, live_sets, set_of, listed_set, values_by_sets}
use Rattle.dd_sets.specs.Rooms.{IsFull, Tight}
use Rattle.dd_sets.specs.Orders.{read}
use Rattle.dd_sets.specs.Stores.{Stored, view_of}
use Rattle.dd_sets.specs.Tries.{Collects, Computes, IsReady, Tries, pieces, wanted}
use Rattle.dd_sets.specs.declared.errors.SetErr.{SetErr}
use Rattle.dd_sets.specs.declared.operation.Operation.{Operation}
use Rattle.dd_sets.specs.declared.operation.Operation.TheVariants.{Variable, Not, And, Or, Minus, Cofactor, Subst}
use Rattle.dd_sets.specs.declared.slots.SetId.{SetId}
use Rattle.dd_sets.proofs.CountLemmas.{nodes_with_known}
use Rattle.dd_sets.proofs.FrameLemmas.{kept_chain}
use Rattle.dd_sets.proofs.MadeLemmas.{makes_in_turn, makes_no_more, makes_none, makes_only}
use Rattle.dd_sets.proofs.OrderLemmas.{read_none}
use Rattle.dd_sets.proofs.RoomLemmas.{numbers_fit}
use Rattle.dd_sets.proofs.SlotLemmas.{Operated, after_same, kept_by_answer, number_in_table, placed, same_adds_none, same_keeps, same_list, same_sets, same_sound}

-- an answer is read as its function is
value_read : (o : List ℕ) (list : List Node) (made : Function) (answer : Result Ref DdErr) → IfOk answer (λ (r : Ref). function list r.0 ≡ made) → IfOk answer (λ (r : Ref). read o (function list r.0) ≡ read o made)
value_read o list made (Ok r) same = ap (read o) same
value_read o list made (Err e) same = tt

-- one try of an operation, by the operation on numbers
pub computed : {o : List ℕ} {t0 t : NodeTable} {l : List (Option Ref)} {made : Function} {made_pieces : List Function} {answer : Result Ref DdErr} → Answers made t0 t answer → Grows made_pieces t0 t answer
    → {before : LiveSets} → view_of o t0 l ≡ before → (operation : Operation) → read o made ≡ wanted before operation → (o ≡ [] → made_pieces ≡ pieces before operation) → Computes before (view_of o t l) operation answer
computed {o} {t0} {t} {l} {made} {made_pieces} {answer} answers grows {before} opens operation =
    subst (λ (s : LiveSets). read o made ≡ wanted s operation → (o ≡ [] → made_pieces ≡ pieces s operation) → Computes s (view_of o t l) operation answer) opens
    (λ same same_pieces. record {
      slots = refl;
      keeps = kept_by_answer (view_of o t0 l) (view_of o t l) made answer refl answers;
      value = subst (λ f. IfOk answer (λ (r : Ref). read o (function t.nodes r.0) ≡ f)) same (value_read o t.nodes made answer answers.value);
      in_table = answers.in_table;
      made = makes_only answers grows refl same_pieces;
      at_limit = λ is. (grows.full is).at_limit;
      beyond = λ none is. subst (λ ps. t.limit < length t0.nodes + grow t0.vars t0.nodes ps) (same_pieces none) (grows.full is).beyond;
    })

-- the same of an operation with one piece
pub computed_one : {o : List ℕ} {t0 t : NodeTable} {l : List (Option Ref)} {made : Function} {answer : Result Ref DdErr} → Answers made t0 t answer → Grows (made ∷ []) t0 t answer → {before : LiveSets} → view_of o t0 l ≡ before
    → {operation : Operation} (one : Operation) → operation ≡ one → read o made ≡ wanted before one → pieces before one ≡ wanted before one ∷ [] → Computes before (view_of o t l) operation answer
computed_one {o} {t0} {t} {l} {made} {answer} answers grows {before} opens one is same single =
    subst (λ (p : Operation). Computes before (view_of o t l) p answer) (sym is)
    (computed answers grows opens one same (λ none. ap (λ f. f ∷ []) (sym (read_none o made none) ∙ same) ∙ sym single))

-- where an operation was not tried for want of memory
pub not_computed : (before : LiveSets) → IsSets before → (operation : Operation) → Computes before before operation (Err DdErr.Memory)
not_computed before sound operation = record {
  slots = refl;
  keeps = record { vars = refl; limit = refl; order = refl; table = sound.table; longer = omega arith; earlier = λ n number. refl };
  value = tt;
  in_table = tt;
  made = makes_none before before (pieces before operation) refl;
  at_limit = λ is. absurd (cc);
  beyond = λ none is. absurd (cc);
}

-- an operation speaks of the sets of slots alone
module _ (a b : LiveSets) (vars : a.vars ≡ b.vars) (sets : (slot : ℕ) → set_of a slot ≡ set_of b slot) where
  all_sets : set_of a ≡ set_of b
  all_sets = λ i slot. sets slot i

  same_values : (map : List (FluentId × SetId)) → values_by_sets a map ≡ values_by_sets b map
  same_values map = λ i values f. option_map_or (λ (s : SetId). all_sets i s.0 values) (listed_set map f) (values f)

  pub same_wanted : (operation : Operation) → wanted a operation ≡ wanted b operation
  same_wanted (Variable f) = refl
  same_wanted (Not s) = λ i. not_of (all_sets i s.0)
  same_wanted (And s t) = λ i. and_of (all_sets i s.0) (all_sets i t.0)
  same_wanted (Or s t) = λ i. or_of (all_sets i s.0) (all_sets i t.0)
  same_wanted (Minus s t) = λ i. minus_of (all_sets i s.0) (all_sets i t.0)
  same_wanted (Cofactor s f value) = λ i. cofactor_of (all_sets i s.0) f.0 value
  same_wanted (Subst s map) = λ i values. all_sets i s.0 (same_values map.now i values)

  pub same_pieces : (operation : Operation) → pieces a operation ≡ pieces b operation
  same_pieces (Variable f) = refl
  same_pieces (Not s) = λ i. not_of (all_sets i s.0) ∷ []
  same_pieces (And s t) = λ i. and_of (all_sets i s.0) (all_sets i t.0) ∷ []
  same_pieces (Or s t) = λ i. or_of (all_sets i s.0) (all_sets i t.0) ∷ []
  same_pieces (Minus s t) = λ i. minus_of (all_sets i s.0) (all_sets i t.0) ∷ []
  same_pieces (Cofactor s f value) = λ i. cofactor_of (all_sets i s.0) f.0 value ∷ []
  same_pieces (Subst s map) = λ i. subst_pieces (vars i) (all_sets i s.0) (λ v. is_some (listed_set map.now v)) (same_values map.now i)

module _ (a b : LiveSets) (vars : b.vars ≡ a.vars) (live : (slot : ℕ) → is_live b slot ≡ is_live a slot) where
  all_live : (map : List (FluentId × SetId)) → AllLive a map → AllLive b map
  all_live map all k d within = live (slice_index_or map k d).1.0 ∙ all k d within

  below : (v : ℕ) → v < a.vars → v < b.vars
  below v within = omega arith

  pub still_ready : (operation : Operation) → IsReady a operation → IsReady b operation
  still_ready (Variable f) ready = below f.0 ready
  still_ready (Not s) ready = live s.0 ∙ ready
  still_ready (And s t) ready = (live s.0 ∙ ready.0, live t.0 ∙ ready.1)
  still_ready (Or s t) ready = (live s.0 ∙ ready.0, live t.0 ∙ ready.1)
  still_ready (Minus s t) ready = (live s.0 ∙ ready.0, live t.0 ∙ ready.1)
  still_ready (Cofactor s f value) ready = (live s.0 ∙ ready.0, below f.0 ready.1)
  still_ready (Subst s map) ready = (live s.0 ∙ ready.0, all_live map.now ready.1)

-- so an operation that was tried may be tried again
pub ready_again : (operation : Operation) (before after : LiveSets) (answer : Result Ref DdErr) → IsSets before → Computes before after operation answer → IsReady before operation → IsReady after operation
ready_again operation before after answer sound computes = still_ready before after computes.keeps.vars (same_adds_none before after sound computes.keeps computes.slots).others operation

-- the subfunctions of live sets are functions of numbers of the table
module _ (vars : ℕ) (list : List Node) (reduced : IsReduced vars list) where
  is_known : Function → Bool
  is_known g = list_any (agree vars g) (functions list)

  constant_known : (g : Function) → list_any (agree vars g) constants ≡ true → list_any (agree vars g) (functions list) ≡ true
  constant_known g some = ⊎_elim
      (λ (here : agree vars g (λ _. false) ≡ true). functions_some list (agree vars g) (length list + 2) 0 (omega arith)
      (agree_chain vars g (λ _. false) (function list 0) here (agree_same vars (λ _. false) (function list 0) (λ values. sym (function_false list values)))))
      (λ (rest : list_any (agree vars g) ((λ _. true) ∷ []) ≡ true). ⊎_elim
      (λ (here : agree vars g (λ _. true) ≡ true). functions_some list (agree vars g) (length list + 2) 1 (omega arith)
      (agree_chain vars g (λ _. true) (function list 1) here (agree_same vars (λ _. true) (function list 1) (λ values. sym (function_true list values)))))
      (λ (none : false ≡ true). absurd (cc))
      (or_cases (agree vars g (λ _. true)) false rest))
      (or_cases (agree vars g (λ _. false)) (list_any (agree vars g) ((λ _. true) ∷ [])) some)

  number_known : (n : ℕ) → IsNumber list n → list_all is_known (subfunctions vars (function list n)) ≡ true
  unfolding is_known
  number_known n number =
      list_all-map is_known (λ first. fixed first (function list n)) (lists_up_to vars)
      ∙ lists_up_from (λ first. is_known (fixed first (function list n))) vars (λ first few.
      let sub : IsSubfunction vars (function list n) (fixed first (function list n)) = record { first = first; few = few; fixes = λ values. refl } in
      let there = sub_reached vars list reduced n (fixed first (function list n)) sub in
      functions_some list (agree vars (fixed first (function list n))) (length list + 2) there.0 (reached_number vars list reduced n there.0 there.1 number)
      (agree_same vars (fixed first (function list n)) (function list there.0) (λ values. ap (λ f. f values) (sym there.2))))

  held_known : (slots : List (Option Ref)) → ((slot : ℕ) (number : Ref) → slice_index_or slots slot None ≡ Some number → IsNumber list number.0)
      → list_all is_known (flat_map (subfunctions vars) (map (λ (r : Ref). function list r.0) (filter_map (λ o. o) slots))) ≡ true
  held_known [] each = refl
  held_known (None ∷ slots) each = held_known slots (λ slot number is. each (suc slot) number is)
  held_known (Some number ∷ slots) each =
      list_all-append is_known (subfunctions vars (function list number.0)) (flat_map (subfunctions vars) (map (λ (r : Ref). function list r.0) (filter_map (λ o. o) slots)))
      ∙ and_from (list_all is_known (subfunctions vars (function list number.0))) (list_all is_known (flat_map (subfunctions vars) (map (λ (r : Ref). function list r.0) (filter_map (λ o. o) slots))))
      (number_known number.0 (each 0 number refl)) (held_known slots (λ slot other is. each (suc slot) other is))

-- so what pieces add to a table with all live sets, these have with the live sets
live_read : (sets : LiveSets) → sets.order ≡ [] → live_sets sets ≡ map (λ (r : Ref). function sets.nodes r.0) (filter_map (λ o. o) sets.live)
unfolding live_sets
live_read sets none = λ i. map (λ (r : Ref). read (none i) (function sets.nodes r.0)) (filter_map (λ o. o) sets.live)

known_grow : (sets : LiveSets) → IsSets sets → sets.order ≡ [] → (made : List Function) → nodes sets.vars (live_sets sets) + grow sets.vars sets.nodes made ≤ nodes sets.vars (live_sets sets ++ made)
unfolding is_known
known_grow sets sound none made =
    subst (λ (live : List Function). nodes sets.vars live + grow sets.vars sets.nodes made ≤ nodes sets.vars (live ++ made)) (sym (live_read sets none))
    (nodes_with_known sets.vars (functions sets.nodes) (map (λ (r : Ref). function sets.nodes r.0) (filter_map (λ o. o) sets.live)) made (constant_known sets.vars sets.nodes sound.table.reduced)
    (held_known sets.vars sets.nodes sound.table.reduced sets.live (λ slot number is. sound.numbers slot number is)))

none_in_turn : (a b c : LiveSets) → AddsNone a b → AddsNone b c → AddsNone a c
none_in_turn a b c first second = record { others = λ other. second.others other ∙ first.others other; count = second.count ∙ first.count }

module _ (operation : Operation) where
  -- one try answers, or had no memory
  tried : (before after : LiveSets) {answer : Result Ref DdErr} → IsSets before → Computes before after operation answer → (result : Result Ref SetErr) → IfOk result (λ r. read after.order (function after.nodes r.0) ≡ wanted before operation)
      → IfOk result (λ r. IsNumber after.nodes r.0) → (IsErrOf result SetErr.Full → IsFull before after (pieces before operation)) → Tries before after operation result
  tried before after sound computes result value in_table full = record {
    sound = same_sound before after sound computes.keeps computes.slots;
    kept = same_keeps before after sound computes.keeps computes.slots;
    same = same_adds_none before after sound computes.keeps computes.slots;
    value = value;
    in_table = in_table;
    full = full;
    made = computes.made;
  }

  pub tried_ok : (before after : LiveSets) {answer : Result Ref DdErr} → IsSets before → Computes before after operation answer → (number : Ref) → answer ≡ Ok number → Tries before after operation (Ok number)
  tried_ok before after sound computes number is = tried before after sound computes (Ok number)
      (subst (λ a. IfOk a (λ (r : Ref). read after.order (function after.nodes r.0) ≡ wanted before operation)) is computes.value)
      (subst (λ a. IfOk a (λ (r : Ref). IsNumber after.nodes r.0)) is computes.in_table)
      (λ full. absurd (cc))

  pub tried_memory : (before after : LiveSets) {answer : Result Ref DdErr} → IsSets before → Computes before after operation answer → Tries before after operation (Err SetErr.Memory)
  tried_memory before after sound computes = tried before after sound computes (Err SetErr.Memory) tt tt (λ full. absurd (cc))

  -- the second try
  pub tried_again : (before middle : LiveSets) {answer : Result Ref DdErr} → IsSets before → Computes before middle operation answer → (after : LiveSets) (result : Result Ref SetErr) → Tries middle after operation result
      → Tries before after operation result
  tried_again before middle {answer} sound computes after result tries =
      let sets = same_sets before middle sound computes.keeps computes.slots in
      let pieces_are = same_pieces middle before computes.keeps.vars sets operation in
      record {
        sound = tries.sound;
        kept = kept_chain before middle after (same_keeps before middle sound computes.keeps computes.slots) tries.kept;
        same = none_in_turn before middle after (same_adds_none before middle sound computes.keeps computes.slots) tries.same;
        value = subst (λ f. IfOk result (λ (r : Ref). read after.order (function after.nodes r.0) ≡ f)) (same_wanted middle before computes.keeps.vars sets operation) tries.value;
        in_table = tries.in_table;
        full = λ is. same_full before middle after computes.keeps.order (same_list before middle sound computes.keeps computes.slots) pieces_are (tries.full is);
        made = makes_in_turn before middle after (pieces before operation) computes.keeps.vars computes.keeps.order computes.made (subst (λ ps. MakesOnly ps middle after) pieces_are tries.made);
      }
    where
      same_full : (before middle after : LiveSets) → middle.order ≡ before.order → live_sets middle ≡ live_sets before → pieces middle operation ≡ pieces before operation → IsFull middle after (pieces middle operation) → IsFull before after (pieces before operation)
      same_full before middle after order live are full = record {
        at_limit = full.at_limit;
        tight = λ none. subst (λ ps. Tight after.limit after.vars (nodes after.vars (live_sets before ++ ps))) are
            (subst (λ ls. Tight after.limit after.vars (nodes after.vars (ls ++ pieces middle operation))) live (full.tight (order ∙ none)));
      }

  -- where the second try was left out for want of memory
  pub not_again : (before after : LiveSets) → IsSets before → after ≡ before → Tries before after operation (Err SetErr.Memory)
  not_again before after sound same = subst (λ (s : LiveSets). Tries before s operation (Err SetErr.Memory)) (sym same) (tried_memory before before sound (not_computed before sound operation))

  -- a try after a collection
  module _ (before middle after : LiveSets) {answer : Result Ref DdErr} (collects : Collects before middle) (computes : Computes middle after operation answer) where
    collected_tried : (result : Result Ref SetErr) → IfOk result (λ r. read after.order (function after.nodes r.0) ≡ wanted middle operation) → IfOk result (λ r. IsNumber after.nodes r.0)
        → (IsErrOf result SetErr.Full → IsFull before after (pieces before operation)) → Tries before after operation result
    collected_tried result value in_table full = record {
      sound = same_sound middle after collects.sound computes.keeps computes.slots;
      kept = kept_chain before middle after (record { vars = collects.vars; limit = collects.limit; order = collects.order; live = λ slot live. collects.live slot ∙ live; sets = λ slot live. collects.sets slot })
          (same_keeps middle after collects.sound computes.keeps computes.slots);
      same = none_in_turn before middle after (record { others = collects.live; count = collects.count }) (same_adds_none middle after collects.sound computes.keeps computes.slots);
      value = subst (λ f. IfOk result (λ (r : Ref). read after.order (function after.nodes r.0) ≡ f)) (same_wanted middle before collects.vars collects.sets operation) value;
      in_table = in_table;
      full = full;
      made = makes_in_turn before middle after (pieces before operation) collects.vars collects.order (makes_no_more before middle (pieces before operation) collects.made)
          (subst (λ ps. MakesOnly ps middle after) (same_pieces middle before collects.vars collects.sets operation) computes.made);
    }

    pub collected_ok : (number : Ref) → answer ≡ Ok number → Tries before after operation (Ok number)
    collected_ok number is = collected_tried (Ok number)
        (subst (λ a. IfOk a (λ (r : Ref). read after.order (function after.nodes r.0) ≡ wanted middle operation)) is computes.value)
        (subst (λ a. IfOk a (λ (r : Ref). IsNumber after.nodes r.0)) is computes.in_table)
        (λ full. absurd (cc))

    pub collected_memory : Tries before after operation (Err SetErr.Memory)
    collected_memory = collected_tried (Err SetErr.Memory) tt tt (λ full. absurd (cc))

    -- the table holds the nodes of the live sets alone, so they and the pieces go beyond the limit
    pub collected_full : {e : DdErr} → answer ≡ Err e → e ≡ DdErr.Full → Tries before after operation (Err SetErr.Full)
    unfolding Tight
    collected_full {e} is_err is = collected_tried (Err SetErr.Full) tt tt (λ _. record { at_limit = at_limit; tight = λ none. (beyond (collects.order ∙ none), few) })
      where
        is_full : IsErrOf answer DdErr.Full
        is_full = is_err ∙ ap (λ (d : DdErr). Err d) is

        at_limit : length after.nodes ≡ after.limit
        at_limit = computes.at_limit is_full

        few : after.limit < 2 ^ (2 ^ after.vars)
        few = let fits = numbers_fit after.vars after.nodes computes.keeps.table.reduced in omega (arith, fits, at_limit)

        beyond : middle.order ≡ [] → after.limit < nodes after.vars (live_sets before ++ pieces before operation)
        beyond none =
            let more : after.limit < length middle.nodes + grow middle.vars middle.nodes (pieces middle operation) = computes.beyond none is_full in
            let left : length middle.nodes ≡ nodes middle.vars (live_sets middle) = collects.nodes_left (sym collects.order ∙ none) in
            let all : nodes middle.vars (live_sets middle) + grow middle.vars middle.nodes (pieces middle operation) ≤ nodes middle.vars (live_sets middle ++ pieces middle operation) =
            known_grow middle collects.sound none (pieces middle operation) in
            let same : nodes middle.vars (live_sets middle ++ pieces middle operation) ≡ nodes after.vars (live_sets before ++ pieces before operation) =
            (λ i. nodes (sym computes.keeps.vars i) (collects.all i ++ same_pieces middle before collects.vars collects.sets operation i)) in
            omega arith

  -- a new slot for the answer
  pub stored : {before middle : LiveSets} {o : List ℕ} {t : NodeTable} {l0 l : List (Option Ref)} {number : Ref} {result : Result SetId SetErr} → Tries before middle operation (Ok number) → view_of o t l0 ≡ middle → IsSets (view_of o t l0) → Stored l0 l number result
      → Operated before (view_of o t l) (wanted before operation) result
  stored {before} {middle} {o} {t} {l0} {l} {number} {result} tries opens sound stores = after_same before middle (view_of o t l) (wanted before operation) result tries.kept tries.same
      (placed stores opens sound (ap (λ (s : LiveSets). read s.order (function s.nodes number.0)) opens ∙ tries.value) (number_in_table opens tries.in_table))

-- The parts of a condition: what it means after some of them, and how deep each is.
use Rattle.std.proofs.Common.{◌≡◌, ℕ, zero, suc, ◌+◌, ◌<◌, ◌≤◌, Bool, true, ◌&&◌, ◌||◌, ◌⊎◌, List, [], ◌∷◌, map, length, get_or, take, drop, Result, Ok, Err, IfOk, OnErr, IsErrOf, Contains, inl, Vec, Box, sym, ap, subst, ◌∙◌, arith}
use Rattle.std.specs.declared.alloc.Global.{Global}
use Rattle.std.specs.List.{list_all, list_any}
use Rattle.std.proofs.lemmas.List.{take_all}
use Rattle.std.proofs.lemmas.List.Folds.{list_all_more, list_any_more, list_all-map}
use Rattle.std.proofs.lemmas.Bool.{and_parts}
use Rattle.dd_nodes.specs.Subfunctions.{Function}
use Rattle.dd_ops.specs.Operations.{not_of, and_of, or_of, variable}
use Rattle.dd_sets.specs.Calls.{KeepsSets, Adds, AddsNone, Releases}
use Rattle.dd_sets.specs.Frames.{AreTwo, Owns, OwnsAnswer, piece_of}
use Rattle.dd_sets.specs.LiveSets.{LiveSets, IsLive, set_of}
use Rattle.dd_sets.specs.Rooms.{AreRough, NoRoom, Rough, Small}
use Rattle.dd_sets.proofs.RoomSteps.{room_join, room_owned, room_wider}
use Rattle.dd_sets.proofs.SizeLemmas.{no_pieces_rough, small_rough}
use Rattle.dd_sets.specs.declared.errors.SetErr.{SetErr}
use Rattle.dd_sets.specs.declared.errors.SetErr.TheVariants.{Full}
use Rattle.dd_sets.specs.declared.slots.SetId.{SetId}
use Rattle.task_core.specs.Conditions.{holds, ids_below, depth, depth_step, greatest}
use Rattle.task_core.specs.declared.conditions.Cond.{Cond}
use Rattle.task_core.specs.declared.literals.FluentId.{FluentId}
use Rattle.task_core.specs.declared.conditions.Cond.TheFolds.{fold-roll-Cond}
use Rattle.task_core.specs.declared.conditions.Cond.TheOpen as Open
use Rattle.task_core.specs.declared.conditions.Cond.TheVariants.{Is, Not, All, Any, rolls-Not, rolls-All, rolls-Any}
use Rattle.task_core.proofs.Holds.{holds_Is, holds_Not, holds_All, holds_Any, ids_below_All, ids_below_Any}
use Rattle.dd_sets.proofs.OwnedLemmas.{answered, both, are_two, own_set}
use Rattle.encode_task.specs.WorkingSets.{AreSmall, IsPartOf}
use Rattle.encode_task.specs.WorkingSets.IsPartOf.{itself, in_not, in_all, in_any, first_of_all, first_of_any}

-- where all, or some, of the parts hold
abbrev pub all_hold : List Cond → Function
all_hold parts values = list_all (λ part. holds part values) parts

abbrev pub some_hold : List Cond → Function
some_hold parts values = list_any (λ part. holds part values) parts

-- one part more
pub all_more : (parts : List Cond) (i : ℕ) (part : Cond) → i < length parts → part ≡ get_or parts i part → and_of (all_hold (take i parts)) (holds part) ≡ all_hold (take (i + 1) parts)
all_more parts i part within is = λ j values. (ap (λ p. list_all (λ q. holds q values) (take i parts) && holds p values) is ∙ sym (list_all_more (λ q. holds q values) parts i part within)) j

pub some_more : (parts : List Cond) (i : ℕ) (part : Cond) → i < length parts → part ≡ get_or parts i part → or_of (some_hold (take i parts)) (holds part) ≡ some_hold (take (i + 1) parts)
some_more parts i part within is = λ j values. (ap (λ p. list_any (λ q. holds q values) (take i parts) || holds p values) is ∙ sym (list_any_more (λ q. holds q values) parts i part within)) j

-- all parts
pub all_parts : (cond : Cond) (parts : Vec Cond Global) (items : List Cond) (i : ℕ) → cond ≡ All parts → items ≡ parts.items → length items ≤ i → all_hold (take i items) ≡ holds cond
all_parts cond parts items i is same done =
    ap all_hold (take_all i items done ∙ same) ∙ (λ j values. sym (holds_All parts values) j) ∙ ap holds (sym is)

pub some_parts : (cond : Cond) (parts : Vec Cond Global) (items : List Cond) (i : ℕ) → cond ≡ Any parts → items ≡ parts.items → length items ≤ i → some_hold (take i items) ≡ holds cond
some_parts cond parts items i is same done =
    ap some_hold (take_all i items done ∙ same) ∙ (λ j values. sym (holds_Any parts values) j) ∙ ap holds (sym is)

-- the depth of a condition and of its parts
depth_All : (parts : Vec Cond Global) → depth (All parts) ≡ 1 + greatest (map depth parts.items)
depth_All parts = ap depth (sym (rolls-All parts)) ∙ fold-roll-Cond ℕ depth_step (Open.All parts)

depth_Any : (parts : Vec Cond Global) → depth (Any parts) ≡ 1 + greatest (map depth parts.items)
depth_Any parts = ap depth (sym (rolls-Any parts)) ∙ fold-roll-Cond ℕ depth_step (Open.Any parts)

depth_Not : (part : Box Cond Global) → depth (Not part) ≡ depth part.value
depth_Not part = ap depth (sym (rolls-Not part)) ∙ fold-roll-Cond ℕ depth_step (Open.Not part)

below_greatest : (parts : List Cond) (i : ℕ) (part : Cond) → i < length parts → depth (get_or parts i part) ≤ greatest (map depth parts)
below_greatest [] i part within = absurd (omega arith)
below_greatest (p ∷ parts) zero part within = omega arith
below_greatest (p ∷ parts) (suc i) part within = omega (arith, below_greatest parts i part (omega arith))

pub all_deeper : (cond : Cond) (parts : Vec Cond Global) (items : List Cond) (i : ℕ) (part : Cond) → cond ≡ All parts → items ≡ parts.items → i < length items → part ≡ get_or items i part → depth part + 1 ≤ depth cond
all_deeper cond parts items i part is same within at =
    let whole : depth cond ≡ 1 + greatest (map depth parts.items) = ap depth is ∙ depth_All parts in
    let few : depth (get_or items i part) ≤ greatest (map depth items) = below_greatest items i part within in
    let e : greatest (map depth items) ≡ greatest (map depth parts.items) = ap (λ l. greatest (map depth l)) same in
    let f : depth part ≡ depth (get_or items i part) = ap depth at in
    omega arith

pub some_deeper : (cond : Cond) (parts : Vec Cond Global) (items : List Cond) (i : ℕ) (part : Cond) → cond ≡ Any parts → items ≡ parts.items → i < length items → part ≡ get_or items i part → depth part + 1 ≤ depth cond
some_deeper cond parts items i part is same within at =
    let whole : depth cond ≡ 1 + greatest (map depth parts.items) = ap depth is ∙ depth_Any parts in
    let few : depth (get_or items i part) ≤ greatest (map depth items) = below_greatest items i part within in
    let e : greatest (map depth items) ≡ greatest (map depth parts.items) = ap (λ l. greatest (map depth l)) same in
    let f : depth part ≡ depth (get_or items i part) = ap depth at in
    omega arith

pub not_deeper : (cond : Cond) (part : Box Cond Global) → cond ≡ Not part → depth cond ≡ depth part.value
not_deeper cond part is = ap depth is ∙ depth_Not part

pub not_part : (cond : Cond) (part : Box Cond Global) → cond ≡ Not part → not_of (holds part.value) ≡ holds cond
not_part cond part is = (λ j values. sym (holds_Not part values) j) ∙ ap holds (sym is)

-- the fluents of the parts after one
pub rest_below : (parts : List Cond) (i : ℕ) (n m : ℕ) → m ≡ n → i < length parts → list_all (λ part. part) (map (ids_below n) (drop i parts)) ≡ true
    → list_all (λ part. part) (map (ids_below m) (drop (i + 1) parts)) ≡ true
rest_below parts i n m same within below =
    ap (λ k. list_all (λ part. part) (map (ids_below k) (drop (i + 1) parts))) same ∙ rest parts i within below
  where
    rest : (parts : List Cond) (i : ℕ) → i < length parts → list_all (λ part. part) (map (ids_below n) (drop i parts)) ≡ true → list_all (λ part. part) (map (ids_below n) (drop (i + 1) parts)) ≡ true
    rest [] i within below = absurd (omega arith)
    rest (p ∷ parts) zero within below = (and_parts (ids_below n p) (list_all (λ part. part) (map (ids_below n) parts)) below).1
    rest (p ∷ parts) (suc i) within below =
        let next : suc i + 1 ≡ suc (i + 1) = omega arith in
        ap (λ k. list_all (λ part. part) (map (ids_below n) (drop k (p ∷ parts)))) next ∙ rest parts i (omega arith) below

pub all_begin_below : (cond : Cond) (parts : Vec Cond Global) (items : List Cond) (n m : ℕ) → cond ≡ All parts → items ≡ parts.items → m ≡ n → ids_below n cond ≡ true → list_all (λ part. part) (map (ids_below m) (drop 0 items)) ≡ true
all_begin_below cond parts items n m is same vars below =
    ap (λ k. list_all (λ part. part) (map (ids_below k) items)) vars ∙ list_all-map (λ b. b) (ids_below n) items ∙ ap (list_all (ids_below n)) same
    ∙ sym (ids_below_All n parts) ∙ ap (ids_below n) (sym is) ∙ below

pub some_begin_below : (cond : Cond) (parts : Vec Cond Global) (items : List Cond) (n m : ℕ) → cond ≡ Any parts → items ≡ parts.items → m ≡ n → ids_below n cond ≡ true → list_all (λ part. part) (map (ids_below m) (drop 0 items)) ≡ true
some_begin_below cond parts items n m is same vars below =
    ap (λ k. list_all (λ part. part) (map (ids_below k) items)) vars ∙ list_all-map (λ b. b) (ids_below n) items ∙ ap (list_all (ids_below n)) same
    ∙ sym (ids_below_Any n parts) ∙ ap (ids_below n) (sym is) ∙ below

-- an answer joins the accumulator
pub answer_ready : (start now mid : LiveSets) (slot : SetId) (f g : Function) (answer : Result SetId SetErr) → Owns start now ((slot.0, f) ∷ []) → OwnsAnswer now mid g answer → AreTwo mid slot answer
answer_ready start now mid slot f g answer owns answered = are_two start mid slot f g answer (both start now mid slot f g answer owns answered)

-- an answer that is a slot, and one that is a refusal
pub answer_slot : (start after : LiveSets) (set : Function) (result : Result SetId SetErr) (slot : SetId) → result ≡ Ok slot → OwnsAnswer start after set result → Owns start after ((slot.0, set) ∷ [])
answer_slot start after set result slot is answered = subst (OwnsAnswer start after set) is answered

pub answer_refusal : (start after : LiveSets) (f g : Function) (result other : Result SetId SetErr) (e d : SetErr) → result ≡ Err e → other ≡ Err d → OwnsAnswer start after f result → OwnsAnswer start after g other
answer_refusal start after f g result other e d is was answered = subst (OwnsAnswer start after g) (sym was) (subst (OwnsAnswer start after f) is answered)

-- the same over another number that is equal
pub small_at : (w : ℕ) {P : Function → Type 0} (m n : ℕ) → m ≡ n → AreSmall n w P → AreSmall m w P
small_at w {P} m n same small = subst (λ v. AreSmall v w P) (sym same) small

-- the sets of the parts are those of the whole
all_part_small : (w n : ℕ) (cond : Cond) (parts : Vec Cond Global) (items : List Cond) (i : ℕ) (part : Cond) → cond ≡ All parts → items ≡ parts.items → i < length items → part ≡ get_or items i part
    → AreSmall n w (IsPartOf cond) → AreSmall n w (IsPartOf part)
all_part_small w n cond parts items i part is same within at small set of_part =
    small set (subst (λ k. IsPartOf k set) (sym is) (in_all parts part set (subst (λ l. Contains l part) same (i, within, sym at)) of_part))

some_part_small : (w n : ℕ) (cond : Cond) (parts : Vec Cond Global) (items : List Cond) (i : ℕ) (part : Cond) → cond ≡ Any parts → items ≡ parts.items → i < length items → part ≡ get_or items i part
    → AreSmall n w (IsPartOf cond) → AreSmall n w (IsPartOf part)
some_part_small w n cond parts items i part is same within at small set of_part =
    small set (subst (λ k. IsPartOf k set) (sym is) (in_any parts part set (subst (λ l. Contains l part) same (i, within, sym at)) of_part))

pub not_part_small : (w n : ℕ) (cond : Cond) (part : Box Cond Global) → cond ≡ Not part → AreSmall n w (IsPartOf cond) → AreSmall n w (IsPartOf part.value)
not_part_small w n cond part is small set of_part = small set (subst (λ k. IsPartOf k set) (sym is) (in_not part set of_part))

-- and so are those of its first parts
first_all_small : (w n : ℕ) (cond : Cond) (parts : Vec Cond Global) (items : List Cond) (j : ℕ) → cond ≡ All parts → items ≡ parts.items → AreSmall n w (IsPartOf cond) → Small n w (all_hold (take j items))
first_all_small w n cond parts items j is same small =
    subst (λ l. Small n w (all_hold (take j l))) (sym same) (small (all_hold (take j parts.items)) (subst (λ k. IsPartOf k (all_hold (take j parts.items))) (sym is) (first_of_all parts j)))

first_some_small : (w n : ℕ) (cond : Cond) (parts : Vec Cond Global) (items : List Cond) (j : ℕ) → cond ≡ Any parts → items ≡ parts.items → AreSmall n w (IsPartOf cond) → Small n w (some_hold (take j items))
first_some_small w n cond parts items j is same small =
    subst (λ l. Small n w (some_hold (take j l))) (sym same) (small (some_hold (take j parts.items)) (subst (λ k. IsPartOf k (some_hold (take j parts.items))) (sym is) (first_of_any parts j)))

-- where a part, or its join, found no room, so did the whole
room_part : {w : ℕ} (operation : Function → Function → Function) (start now mid : LiveSets) (slot : SetId) (f g : Function) (answer : Result SetId SetErr) (k m : ℕ) {after : LiveSets} → Owns start now ((slot.0, f) ∷ [])
    → OwnsAnswer now mid g answer → (IsErrOf answer Full → NoRoom w (k + 4) 0 now mid) → k + 1 ≤ m → Small start.vars w f → Small start.vars w g → Small start.vars w (operation f g)
    → (AreRough mid.vars w (piece_of operation mid slot answer) → (IsErrOf answer Full × Releases mid after slot.0) ⊎ NoRoom w 0 0 mid after) → NoRoom w (m + 4) 0 start after
room_part {w} operation start now mid slot f g answer k m owns answered full deeper small_f small_g small cause =
    room_join operation start now mid slot f g answer (k + 4) (m + 4) 0 0 0 0 owns answered full (inl (small_f, tt)) (inl (small_g, inl (small_f, tt))) (small_rough start.vars w (operation f g) small)
    (omega arith) (omega arith) (omega arith) (omega arith) cause

pub room_all : (w : ℕ) (cond : Cond) (parts : Vec Cond Global) (items : List Cond) (i : ℕ) (part : Cond) (start now mid : LiveSets) (slot : SetId) (answer : Result SetId SetErr) {after : LiveSets} → cond ≡ All parts → items ≡ parts.items
    → i < length items → part ≡ get_or items i part → AreSmall start.vars w (IsPartOf cond) → Owns start now ((slot.0, all_hold (take i items)) ∷ []) → OwnsAnswer now mid (holds part) answer
    → (IsErrOf answer Full → (w : ℕ) → AreSmall now.vars w (IsPartOf part) → NoRoom w (depth part + 4) 0 now mid)
    → ((w : ℕ) → AreRough mid.vars w (piece_of and_of mid slot answer) → (IsErrOf answer Full × Releases mid after slot.0) ⊎ NoRoom w 0 0 mid after) → NoRoom w (depth cond + 4) 0 start after
room_all w cond parts items i part start now mid slot answer is same within at small owns answered full cause =
    let of_part : AreSmall start.vars w (IsPartOf part) = all_part_small w start.vars cond parts items i part is same within at small in
    room_part and_of start now mid slot (all_hold (take i items)) (holds part) answer (depth part) (depth cond) owns answered (λ refused. full refused w (small_at w now.vars start.vars owns.kept.vars of_part))
    (all_deeper cond parts items i part is same within at) (first_all_small w start.vars cond parts items i is same small) (of_part (holds part) (itself part))
    (subst (Small start.vars w) (sym (all_more items i part within at)) (first_all_small w start.vars cond parts items (i + 1) is same small)) (cause w)

pub room_some : (w : ℕ) (cond : Cond) (parts : Vec Cond Global) (items : List Cond) (i : ℕ) (part : Cond) (start now mid : LiveSets) (slot : SetId) (answer : Result SetId SetErr) {after : LiveSets} → cond ≡ Any parts → items ≡ parts.items
    → i < length items → part ≡ get_or items i part → AreSmall start.vars w (IsPartOf cond) → Owns start now ((slot.0, some_hold (take i items)) ∷ []) → OwnsAnswer now mid (holds part) answer
    → (IsErrOf answer Full → (w : ℕ) → AreSmall now.vars w (IsPartOf part) → NoRoom w (depth part + 4) 0 now mid)
    → ((w : ℕ) → AreRough mid.vars w (piece_of or_of mid slot answer) → (IsErrOf answer Full × Releases mid after slot.0) ⊎ NoRoom w 0 0 mid after) → NoRoom w (depth cond + 4) 0 start after
room_some w cond parts items i part start now mid slot answer is same within at small owns answered full cause =
    let of_part : AreSmall start.vars w (IsPartOf part) = some_part_small w start.vars cond parts items i part is same within at small in
    room_part or_of start now mid slot (some_hold (take i items)) (holds part) answer (depth part) (depth cond) owns answered (λ refused. full refused w (small_at w now.vars start.vars owns.kept.vars of_part))
    (some_deeper cond parts items i part is same within at) (first_some_small w start.vars cond parts items i is same small) (of_part (holds part) (itself part))
    (subst (Small start.vars w) (sym (some_more items i part within at)) (first_some_small w start.vars cond parts items (i + 1) is same small)) (cause w)

-- the set of a slot of the caller's own, and what an operation on it makes
pub rough_own : (w : ℕ) (operation : Function → Function) (start now : LiveSets) (slot : SetId) (f : Function) → Owns start now ((slot.0, f) ∷ []) → Rough start.vars w (operation f) → Rough now.vars w (operation (set_of now slot.0))
rough_own w operation start now slot f owns rough =
    subst (λ v. Rough v w (operation (set_of now slot.0))) (sym owns.kept.vars)
    (subst (λ h. Rough start.vars w (operation h)) (sym (own_set start now slot.0 f [] [] owns)) rough)

pub small_own : (w : ℕ) (operation : Function → Function) (start now : LiveSets) (slot : SetId) (f : Function) → Owns start now ((slot.0, f) ∷ []) → Small start.vars w (operation f) → Small now.vars w (operation (set_of now slot.0))
small_own w operation start now slot f owns small =
    subst (λ v. Small v w (operation (set_of now slot.0))) (sym owns.kept.vars)
    (subst (λ h. Small start.vars w (operation h)) (sym (own_set start now slot.0 f [] [] owns)) small)

-- an operation on a slot that was live before and on one of the caller's own, or on an answer
pub rough_beside : (w : ℕ) (operation : Function → Function → Function) (before now : LiveSets) (a slot : SetId) (g : Function) → IsLive before a.0 → Owns before now ((slot.0, g) ∷ []) → Rough before.vars w (operation (set_of before a.0) g)
    → Rough now.vars w (operation (set_of now a.0) (set_of now slot.0))
rough_beside w operation before now a slot g live owns rough =
    subst (λ v. Rough v w (operation (set_of now a.0) (set_of now slot.0))) (sym owns.kept.vars)
    (subst (λ h. Rough before.vars w (operation h (set_of now slot.0))) (sym (owns.kept.sets a.0 live))
    (subst (λ h. Rough before.vars w (operation (set_of before a.0) h)) (sym (own_set before now slot.0 g [] [] owns)) rough))

pub piece_beside : (w : ℕ) (operation : Function → Function → Function) (now mid : LiveSets) (slot : SetId) (g : Function) (answer : Result SetId SetErr) → IsLive now slot.0 → OwnsAnswer now mid g answer
    → Rough now.vars w (operation (set_of now slot.0) g) → AreRough mid.vars w (piece_of operation mid slot answer)
piece_beside w operation now mid slot g (Ok other) live answered rough = rough_beside w operation now mid slot other g live answered rough
piece_beside w operation now mid slot g (Err e) live answered rough = no_pieces_rough mid.vars w

pub room_not : (w : ℕ) (cond : Cond) (part : Box Cond Global) (start now : LiveSets) (slot : SetId) {after : LiveSets} → cond ≡ Not part → AreSmall start.vars w (IsPartOf cond) → Owns start now ((slot.0, holds part.value) ∷ [])
    → ((w : ℕ) → Rough now.vars w (not_of (set_of now slot.0)) → NoRoom w 0 0 now after) → NoRoom w (depth cond + 4) 0 start after
room_not w cond part start now slot is small owns none =
    room_owned start now ((slot.0, holds part.value) ∷ []) owns 0 (depth cond + 4) 0 0 0 (inl (not_part_small w start.vars cond part is small (holds part.value) (itself part.value), tt)) (omega arith) (omega arith)
    (none w (rough_own w not_of start now slot (holds part.value) owns (subst (Rough start.vars w) (sym (not_part cond part is)) (small_rough start.vars w (holds cond) (small (holds cond) (itself cond))))))

pub room_not_part : (w : ℕ) (cond : Cond) (part : Box Cond Global) (start : LiveSets) {after : LiveSets} → cond ≡ Not part → AreSmall start.vars w (IsPartOf cond)
    → ((w : ℕ) → AreSmall start.vars w (IsPartOf part.value) → NoRoom w (depth part.value + 4) 0 start after) → NoRoom w (depth cond + 4) 0 start after
room_not_part w cond part start is small none =
    room_wider start (depth part.value + 4) (depth cond + 4) 0 0 (omega (arith, not_deeper cond part is)) (omega arith) (none w (not_part_small w start.vars cond part is small))

-- the slot that a call on the sets answered
pub call_slot : (before after : LiveSets) (set : Function) (result : Result SetId SetErr) (slot : SetId) → result ≡ Ok slot → IfOk result (λ slot. Adds before after slot.0 set) → KeepsSets before after
    → OnErr result (AddsNone before after) → Owns before after ((slot.0, set) ∷ [])
call_slot before after set result slot is adds kept none = answer_slot before after set result slot is (answered before after set result adds kept none)

-- a refusal that is passed on
pub same_refusal : (inner outer : Result SetId SetErr) (e : SetErr) → inner ≡ Err e → (x : SetErr) × (outer ≡ Err x) × (x ≡ e) → IsErrOf outer Full → IsErrOf inner Full
same_refusal inner outer e is p full = is ∙ ap Err (sym p.2) ∙ sym p.1 ∙ full

-- the same where the values differ in type
pub same_refusal_of : {S T : Type 0} (inner : Result S SetErr) (outer : Result T SetErr) (e : SetErr) → inner ≡ Err e → (x : SetErr) × (outer ≡ Err x) × (x ≡ e) → IsErrOf outer Full → IsErrOf inner Full
same_refusal_of inner outer e is p full =
    let same : p.0 ≡ Full = cc in
    is ∙ ap Err (sym p.2 ∙ same)

-- an element of a list whose elements all pass
pub item_passes : {X : Type 0} (p : ℕ → X → Bool) (n m : ℕ) (xs : List X) (i : ℕ) (x : X) → list_all (p n) xs ≡ true → m ≡ n → i < length xs → x ≡ get_or xs i x → p m x ≡ true
item_passes {X = X} p n m xs i x all same within at = ap (λ k. p k x) same ∙ ap (p n) at ∙ at_index xs i all within
  where
    at_index : (xs : List X) (i : ℕ) → list_all (p n) xs ≡ true → i < length xs → p n (get_or xs i x) ≡ true
    at_index [] i all within = absurd (omega arith)
    at_index (y ∷ xs) zero all within = (and_parts (p n y) (list_all (p n) xs) all).0
    at_index (y ∷ xs) (suc i) all within = at_index xs i (and_parts (p n y) (list_all (p n) xs) all).1 (omega arith)

-- a condition that asks for a fluent
pub fluent_part : (cond : Cond) (f : FluentId) → cond ≡ Is f → IsPartOf cond (variable f.0)
fluent_part cond f is = subst (IsPartOf cond) (ap holds is ∙ (λ j values. holds_Is f values j)) (itself cond)

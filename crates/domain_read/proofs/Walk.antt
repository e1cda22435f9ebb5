-- The plain text spells the forms that are meant: it is read piece by piece, as the forms of the
-- original stand.
use Rattle.std.proofs.Common.{◌≡◌, ℕ, zero, suc, ◌+◌, ◌-◌, ◌<◌, ◌≤◌, ◌⊎◌, inl, inr, max, Bool, true, false, not, ◌&&◌, ◌||◌, ◌==◌, if◌then◌else◌, nat_le, List, [], ◌∷◌, ◌++◌, length, get_or, drop, map, codes, refl, ap, sym, subst, ◌∙◌, arith, add-one, length-append}
use Rattle.std.specs.Prelude.{Option, Some, None}
use Rattle.std.specs.Str.{bytes_eq, str_to_ascii_lowercase}
use Rattle.std.specs.Char.{to_ascii_lowercase}
use Rattle.std.specs.List.{slice_range}
use Rattle.std.proofs.lemmas.List.{length-take-le, length-drop, length-map}
use Rattle.std.proofs.lemmas.Slice.Eq.{bytes_eq-Decides}
use Rattle.std.proofs.lemmas.Bool.Decides.{nat_tests}
use Rattle.std.proofs.Math.Nat.{le-max_left, le-max_right}
use Rattle.sexpr_text.specs.declared.faults.FaultKind.{FaultKind}
use Rattle.sexpr_text.specs.declared.faults.FaultKind.TheVariants.{TooDeep, BadForm}
use Rattle.sexpr_text.specs.declared.forms.Span.{Span}
use Rattle.sexpr_text.specs.Faults.{most_open}
use Rattle.sexpr_text.specs.Flaws.{Flaw}
use Rattle.sexpr_text.specs.Forest.{Forest, nothing, word, group, join}
use Rattle.sexpr_text.specs.Formed.{nesting_of}
use Rattle.sexpr_text.specs.Lexis.{is_space, opens_at, place_at}
use Rattle.sexpr_text.specs.Parts.{begins_with, is_definition}
use Rattle.sexpr_text.specs.Pending.{Pending}
use Rattle.sexpr_text.specs.Spelling.{IsWordAt, IsGroup, IsBetween, SpellsTrees}
use Rattle.sexpr_text.proofs.Between.{IsBetween-le}
use Rattle.sexpr_text.proofs.Ends.{found-spelling}
use Rattle.sexpr_text.proofs.Lines.{is_comment_open, is_comment_open-start}
use Rattle.sexpr_text.proofs.Reading.{IsReading}
use Rattle.sexpr_text.proofs.Steps.{read-start, read-open, read-close}
use Rattle.domain_read.specs.declared.roles.Role.{Role}
use Rattle.domain_read.specs.declared.roles.Role.TheVariants.{Text, Passed, Define, Action, Name}
use Rattle.domain_read.specs.declared.roles.Role.TheVariants.{Key, Value, Branches, Effects, Scope}
use Rattle.domain_read.specs.declared.roles.Role.TheVariants.{Bound, Body, Choice, Weight, Kept}
use Rattle.domain_read.specs.declared.roles.Role.TheVariants.{Dropped}
use Rattle.domain_read.specs.Weights.{mass, weighs_nothing}
use Rattle.domain_read.specs.Roles.{after_word, after_group, after_key, after_weight, effect_role, inner_role, is_left_out, is_missing, is_declared, text_role}
use Rattle.domain_read.specs.Edits.{Edit, blank, byte_within, written, choice_text, edit_to, new_text, word_edits, edits, group_edits, all_edited}
use Rattle.domain_read.specs.Faults.{is_even, mass_fault, choice_fault, list_fault, is_closed, flaw_of, word_flaws, multiple_after, group_flaws, choice_flaws}
use Rattle.domain_read.specs.Meant.{meant, meant_word, choice_head}
use Rattle.domain_read.proofs.Replaced.{all_written, all_written_append, written_inside, byte_after_text, all_edited_at, length-all_edited}
use Rattle.domain_read.proofs.Twins.{AreTwins, IsSame, IsClosed, same_places, word_sign, open_sign, close_sign, closed_before, closed_after, read_gap, read_spaces, read_word}
use Rattle.domain_read.proofs.Mild.{edit_to_outside, group_outside, edits_outside, twins}
use Rattle.domain_read.proofs.Choices.{join-nothing, blank_is_space, IsHeadAt, read_choice}
use Rattle.list_laws.proofs.Booleans.{true_and_false}
use Rattle.sexpr_text.proofs.Forests.{join-assoc}

abbrev pub is_choice : Role → Bool
is_choice Text = false
is_choice Passed = false
is_choice Define = false
is_choice Action = false
is_choice Name = false
is_choice Key = false
is_choice Value = false
is_choice Branches = false
is_choice Effects = false
is_choice Scope = false
is_choice Bound = false
is_choice Body = false
is_choice (Choice missing) = true
is_choice Weight = false
is_choice Kept = false
is_choice Dropped = false

key_plain : (text : List ℕ) → is_choice (after_key text) ≡ false
key_plain text = by_test (bytes_eq text (codes ":effect"))
  where
    by_test : (v : Bool) → is_choice (if v then Value else Key) ≡ false
    by_test true = refl
    by_test false = refl

weight_plain : (text : List ℕ) → is_choice (after_weight text) ≡ false
weight_plain text = by_test (weighs_nothing text)
  where
    by_test : (v : Bool) → is_choice (if v then Dropped else Kept) ≡ false
    by_test true = refl
    by_test false = refl

text_plain : (parts : Forest) → is_choice (after_group Text parts) ≡ false
text_plain parts = by_test (is_definition (codes "domain") parts)
  where
    by_test : (v : Bool) → is_choice (if v then Passed else Text) ≡ false
    by_test true = refl
    by_test false = refl

-- the head of a recognised list comes first in its list
after_word_plain : (role : Role) (text : List ℕ) → is_choice (after_word role text) ≡ false
after_word_plain Text text = refl
after_word_plain Passed text = refl
after_word_plain Define text = refl
after_word_plain Action text = refl
after_word_plain Name text = refl
after_word_plain Key text = key_plain text
after_word_plain Value text = key_plain text
after_word_plain Branches text = refl
after_word_plain Effects text = refl
after_word_plain Scope text = refl
after_word_plain Bound text = refl
after_word_plain Body text = refl
after_word_plain (Choice missing) text = refl
after_word_plain Weight text = weight_plain text
after_word_plain Kept text = refl
after_word_plain Dropped text = refl

after_group_plain : (role : Role) (parts : Forest) → is_choice (after_group role parts) ≡ false
after_group_plain Text parts = text_plain parts
after_group_plain Passed parts = refl
after_group_plain Define parts = refl
after_group_plain Action parts = refl
after_group_plain Name parts = refl
after_group_plain Key parts = refl
after_group_plain Value parts = refl
after_group_plain Branches parts = refl
after_group_plain Effects parts = refl
after_group_plain Scope parts = refl
after_group_plain Bound parts = refl
after_group_plain Body parts = refl
after_group_plain (Choice missing) parts = refl
after_group_plain Weight parts = refl
after_group_plain Kept parts = refl
after_group_plain Dropped parts = refl

effect_choice : (parts : Forest) → is_choice (effect_role parts) ≡ true → begins_with (codes "probabilistic") parts ≡ true
effect_choice nothing h = cc
effect_choice (group span parts rest) h = cc
effect_choice (word span text rest) h =
    by_test (bytes_eq text (codes "and") || bytes_eq text (codes "oneof")) (bytes_eq text (codes "when") || bytes_eq text (codes "forall")) (bytes_eq text (codes "probabilistic")) h
  where
    by_test : (x y z : Bool) → is_choice (if x then Branches else if y then Scope else if z then Choice (is_missing (mass rest)) else Passed) ≡ true → z ≡ true
    by_test true y z h = cc
    by_test false true z h = cc
    by_test false false true h = refl
    by_test false false false h = cc

text_choice : (parts : Forest) → is_choice (inner_role Text parts) ≡ true → begins_with (codes "probabilistic") parts ≡ true
text_choice parts h = by_test (is_definition (codes "domain") parts) h
  where
    by_test : (v : Bool) → is_choice (if v then Define else Passed) ≡ true → begins_with (codes "probabilistic") parts ≡ true
    by_test true h = cc
    by_test false h = cc

define_choice : (parts : Forest) → is_choice (inner_role Define parts) ≡ true → begins_with (codes "probabilistic") parts ≡ true
define_choice parts h = by_test (begins_with (codes ":action") parts) h
  where
    by_test : (v : Bool) → is_choice (if v then Action else Passed) ≡ true → begins_with (codes "probabilistic") parts ≡ true
    by_test true h = cc
    by_test false h = cc

inner_choice : (role : Role) (parts : Forest) → is_choice (inner_role role parts) ≡ true → begins_with (codes "probabilistic") parts ≡ true
inner_choice Text parts h = text_choice parts h
inner_choice Passed parts h = cc
inner_choice Define parts h = define_choice parts h
inner_choice Action parts h = cc
inner_choice Name parts h = cc
inner_choice Key parts h = cc
inner_choice Value parts h = effect_choice parts h
inner_choice Branches parts h = cc
inner_choice Effects parts h = effect_choice parts h
inner_choice Scope parts h = cc
inner_choice Bound parts h = cc
inner_choice Body parts h = effect_choice parts h
inner_choice (Choice missing) parts h = cc
inner_choice Weight parts h = cc
inner_choice Kept parts h = effect_choice parts h
inner_choice Dropped parts h = cc

choice_room : (room : ℕ) (row : Forest) → choice_fault room row ≡ None → 2 ≤ room
choice_room room row h = by_test (nat_le room 1) refl h
  where
    deep : nat_le room 1 ≡ false → 2 ≤ room
    deep e = grind (arith, nat_tests)

    by_test : (v : Bool) → nat_le room 1 ≡ v → (if v then Some TooDeep else if not (is_even row) then Some BadForm else mass_fault (mass row)) ≡ None → 2 ≤ room
    by_test true e h = absurd (some_none h)
      where
        some_none : Some TooDeep ≡ None → ⊥
        some_none h = cc
    by_test false e h = deep e

-- a recognised list without a fault has room for one level more
room_left : (role : Role) (room : ℕ) (parts : Forest) → list_fault room role parts ≡ None → is_choice role ≡ true → begins_with (codes "probabilistic") parts ≡ true → 2 ≤ room
room_left Text room parts h e f = cc
room_left Passed room parts h e f = cc
room_left Define room parts h e f = cc
room_left Action room parts h e f = cc
room_left Name room parts h e f = cc
room_left Key room parts h e f = cc
room_left Value room parts h e f = cc
room_left Branches room parts h e f = cc
room_left Effects room parts h e f = cc
room_left Scope room parts h e f = cc
room_left Bound room parts h e f = cc
room_left Body room parts h e f = cc
room_left (Choice missing) room nothing h e f = cc
room_left (Choice missing) room (group span parts rest) h e f = cc
room_left (Choice missing) room (word span text rest) h e f = choice_room room rest h
room_left Weight room parts h e f = cc
room_left Kept room parts h e f = cc
room_left Dropped room parts h e f = cc

append_nil : (xs ys : List Flaw) → xs ++ ys ≡ [] → (xs ≡ []) × (ys ≡ [])
append_nil [] ys h = (refl, h)
append_nil (x ∷ xs) ys h = cc

flaw_none : (span : Span) (o : Option FaultKind) → flaw_of span o ≡ [] → o ≡ None
flaw_none span None h = refl
flaw_none span (Some kind) h = cc

-- what a list without flaws is
record IsSoundList (room : ℕ) (role : Role) (parts : Forest) : Type 0 where
  fault : list_fault room role parts ≡ None
  inner : choice_flaws (room - 1) 1 role parts ≡ []

sound_list : (span : Span) (room : ℕ) (role : Role) (parts : Forest) → flaw_of span (list_fault room role parts) ++ (if is_closed (list_fault room role parts) then [] else choice_flaws (room - 1) 1 role parts) ≡ [] → IsSoundList room role parts
sound_list span room role parts h =
    let both = append_nil (flaw_of span (list_fault room role parts)) (if is_closed (list_fault room role parts) then [] else choice_flaws (room - 1) 1 role parts) h in
    let none : list_fault room role parts ≡ None = flaw_none span (list_fault room role parts) both.0 in
    record { fault = none; inner = by_fault (list_fault room role parts) none both.1 }
  where
    by_fault : (o : Option FaultKind) → o ≡ None → (if is_closed o then [] else choice_flaws (room - 1) 1 role parts) ≡ [] → choice_flaws (room - 1) 1 role parts ≡ []
    by_fault None e h = h
    by_fault (Some kind) e h = cc

group_sound : (span : Span) (room m : ℕ) (role : Role) (parts rest : Forest) → choice_flaws room m role (group span parts rest) ≡ [] → is_left_out role ≡ false → IsSoundList room (inner_role role parts) parts
group_sound span room m role parts rest h e = by_test (is_left_out role) e (append_nil _ _ h).0
  where
    by_test : (v : Bool) → v ≡ false → (if v then group_flaws role span else flaw_of span (list_fault room (inner_role role parts) parts) ++ (if is_closed (list_fault room (inner_role role parts) parts) then [] else choice_flaws (room - 1) 1 (inner_role role parts) parts)) ≡ [] → IsSoundList room (inner_role role parts) parts
    by_test true e h = cc
    by_test false e h = sound_list span room (inner_role role parts) parts h

-- the kinds of roles: a head, a form that is left out, and one that stays
abbrev RoleCase : Role → Type 0
RoleCase role =
    ((m : Bool) × (role ≡ Choice m))
    ⊎ ((new_text role ≡ Some []) × ((span : Span) (text : List ℕ) (rest : Forest) → meant_word role span text rest ≡ rest))
    ⊎ ((new_text role ≡ None) × ((span : Span) (text : List ℕ) (rest : Forest) → meant_word role span text rest ≡ word span text rest))

role_case : (role : Role) → RoleCase role
role_case Text = inr (inr (refl, λ span text rest. refl))
role_case Passed = inr (inr (refl, λ span text rest. refl))
role_case Define = inr (inr (refl, λ span text rest. refl))
role_case Action = inr (inr (refl, λ span text rest. refl))
role_case Name = inr (inr (refl, λ span text rest. refl))
role_case Key = inr (inr (refl, λ span text rest. refl))
role_case Value = inr (inr (refl, λ span text rest. refl))
role_case Branches = inr (inr (refl, λ span text rest. refl))
role_case Effects = inr (inr (refl, λ span text rest. refl))
role_case Scope = inr (inr (refl, λ span text rest. refl))
role_case Bound = inr (inr (refl, λ span text rest. refl))
role_case Body = inr (inr (refl, λ span text rest. refl))
role_case (Choice missing) = inl (missing, refl)
role_case Weight = inr (inl (refl, λ span text rest. refl))
role_case Kept = inr (inr (refl, λ span text rest. refl))
role_case Dropped = inr (inl (refl, λ span text rest. refl))

-- a row that stands where a list's head is wanted begins with it, and there is room for one level
abbrev IsHeaded : Role → ℕ → Forest → Type 0
IsHeaded role room trees = is_choice role ≡ true → (begins_with (codes "probabilistic") trees ≡ true) × (1 ≤ room)

-- the plain text as its edits make it, between two offsets
abbrev IsEdited : List ℕ → List ℕ → List Edit → ℕ → ℕ → Type 0
IsEdited b c es lo hi = (k : ℕ) → lo ≤ k → k < hi → get_or c k 0 ≡ all_written es k (get_or b k 0)

blanked_space : (b c : List ℕ) (span : Span) → IsEdited b c (edit_to span (Some [])) span.start span.end → (k : ℕ) → span.start ≤ k → k < span.end → is_space (get_or c k 0) ≡ true
blanked_space b c span h k l u =
    ap is_space (h k l u ∙ (written_inside (record { span = span; text = [] }) k (get_or b k 0) l u ∙ byte_after_text [] (k - span.start) (get_or b k 0) (omega arith)))
    ∙ blank_is_space (get_or b k 0)

length_lower : (xs ys : List ℕ) → xs ≡ str_to_ascii_lowercase ys → length xs ≡ length ys
length_lower xs ys h = ap length h ∙ length-map ys to_ascii_lowercase

head_long : (b : List ℕ) (span : Span) (text : List ℕ) → IsWordAt b span text → span.end ≤ length b → bytes_eq text (codes "probabilistic") ≡ true → span.start + 13 ≡ span.end
head_long b span text h le e =
    let some : span.start < span.end = h.nonempty in
    let is : text ≡ codes "probabilistic" = (bytes_eq-Decides text (codes "probabilistic")).0 e in
    let long : length text ≡ 13 = ap length is in
    let cut : length (slice_range b span.start span.end) ≡ span.end - span.start = length-take-le (span.end - span.start) (drop span.start b) (omega (arith, length-drop span.start b)) in
    let same : length text ≡ length (slice_range b span.start span.end) = length_lower text (slice_range b span.start span.end) h.spelled in
    omega arith

module _ (b c : List ℕ) (ps : List Pending) (s : Forest) (t : AreTwins b c) (hi : ℕ) where
  word_then : (role : Role) (span : Span) (text : List ℕ) (others : Forest) → IsWordAt b span text → span.end ≤ length b → IsEdited b c (word_edits role span) span.start span.end
      → (is_choice role ≡ true → (bytes_eq text (codes "probabilistic") ≡ true) × (length ps < most_open))
      → ((now : Forest) → IsReading c span.end ps now → IsReading c hi ps (join now others)) → IsReading c span.start ps s → IsReading c hi ps (join s (meant_word role span text others))
  word_then role span text others h le edited headed go_on r = by_case (role_case role)
    where
      some : span.start < span.end
      some = h.nonempty

      by_case : RoleCase role → IsReading c hi ps (join s (meant_word role span text others))
      by_case (inl (m, e)) =
          let head = headed (ap is_choice e) in
          let long : span.start + 13 ≡ span.end = head_long b span text h le head.0 in
          let at : IsHeadAt c m span.start span.end = record {
            long = long;
            inside = omega (arith, t.long);
            at = λ i u. (
              get_or b (span.start + i) 0,
              (let back : span.start + i - span.start ≡ i = omega arith in
                  edited (span.start + i) (omega arith) (omega arith)
                  ∙ (ap (λ r. all_written (word_edits r span) (span.start + i) (get_or b (span.start + i) 0)) e
                  ∙ (written_inside (record { span = span; text = choice_text m }) (span.start + i) (get_or b (span.start + i) 0) (omega arith) (omega arith)
                  ∙ ap (λ n. byte_within (choice_text m) n (get_or b (span.start + i) 0)) back))),
            );
          } in
          let after = go_on (join s (choice_head m span nothing)) (read_choice b c m span ps s t at h.placed head.1 r) in
          let joined : join (choice_head m span nothing) others ≡ choice_head m span others = head_join m in
          subst (IsReading c hi ps)
          (join-assoc s (choice_head m span nothing) others ∙ (ap (join s) joined ∙ ap (λ r. join s (meant_word r span text others)) (sym e))) after
        where
          head_join : (m : Bool) → join (choice_head m span nothing) others ≡ choice_head m span others
          head_join true = refl
          head_join false = refl
      by_case (inr (inl (e, is))) =
          let spaces = blanked_space b c span (λ k l u. edited k l u ∙ ap (λ o. all_written (edit_to span o) k (get_or b k 0)) e) in
          subst (λ f. IsReading c hi ps (join s f)) (sym (is span text others))
          (go_on s (read_spaces b c ps s t span.start span.end (omega arith) le spaces r))
      by_case (inr (inr (e, is))) =
          let same : IsSame b c span.start span.end = (λ k l u. edited k l u ∙ ap (λ o. all_written (edit_to span o) k (get_or b k 0)) e) in
          let after = go_on (join s (word span text nothing)) (read_word b c ps s t span text h same r) in
          subst (IsReading c hi ps) (join-assoc s (word span text nothing) others ∙ ap (join s) (sym (is span text others))) after

  group_then : (v : Bool) (span : Span) (inner : List Edit) (parts others : Forest) → IsGroup b span → span.end ≤ length b → IsEdited b c (if v then edit_to span (Some []) else inner) span.start span.end
      → length ps < most_open
      → (v ≡ false → get_or c span.start 0 ≡ get_or b span.start 0) → (v ≡ false → get_or c (span.end - 1) 0 ≡ get_or b (span.end - 1) 0)
      → (v ≡ false → (p : Pending) → IsReading c (span.start + 1) (ps ++ p ∷ []) nothing → IsReading c (span.end - 1) (ps ++ p ∷ []) parts)
      → ((now : Forest) → IsReading c span.end ps now → IsReading c hi ps (join now others)) → IsReading c span.start ps s
      → IsReading c hi ps (join s (if v then others else group span parts others))
  group_then true span inner parts others h le edited room first last within go_on r =
      let wide : span.start + 2 ≤ span.end = h.nonempty in
      go_on s (read_spaces b c ps s t span.start span.end (omega arith) le (blanked_space b c span edited) r)
  group_then false span inner parts others h le edited room first last within go_on r =
      let wide : span.start + 2 ≤ span.end = h.nonempty in
      let opened = open_sign b span.start h.opened in
      let closed = close_sign b (span.end - 1) h.closed in
      let p : Pending = record { start = span.start; place = span.place; before = s } in
      let place : span.place ≡ place_at c span.start = h.placed ∙ sym (same_places b c span.start t (omega arith)) in
      let r1 : IsReading c (span.start + 1) (ps ++ p ∷ []) nothing =
      subst (λ k. IsReading c k (ps ++ p ∷ []) nothing) (sym (add-one span.start))
      (read-open c span.start ps s p (omega (arith, t.long)) (ap (λ x. x == 40) (first refl) ∙ opened.1) room refl refl place r) in
      let r2 : IsReading c (span.end - 1) (ps ++ p ∷ []) parts = within refl p r1 in
      let step : suc (span.end - 1) ≡ span.end = omega arith in
      let closing : ℕ → Span = λ k. record { start = span.start; end = k; place = span.place } in
      let r3 : IsReading c span.end ps (join s (group span parts nothing)) =
      subst (λ k. IsReading c k ps (join s (group (closing k) parts nothing))) step
      (read-close c (span.end - 1) ps parts p (omega (arith, t.long)) (ap (λ x. x == 41) (last refl) ∙ closed.1) r2) in
      subst (IsReading c hi ps) (join-assoc s (group span parts nothing) others) (go_on (join s (group span parts nothing)) r3)

split_edits : (b c : List ℕ) (es fs : List Edit) (k : ℕ) → get_or c k 0 ≡ all_written (es ++ fs) k (get_or b k 0) → get_or c k 0 ≡ all_written fs k (all_written es k (get_or b k 0))
split_edits b c es fs k h = h ∙ all_written_append es fs k (get_or b k 0)

kept_edits : (role : Role) (span : Span) (parts : Forest) → is_left_out role ≡ false → group_edits role span parts ≡ edits (inner_role role parts) parts
kept_edits role span parts e = by_test (is_left_out role) e
  where
    by_test : (v : Bool) → v ≡ false → (if v then edit_to span (Some []) else edits (inner_role role parts) parts) ≡ edits (inner_role role parts) parts
    by_test true e = cc
    by_test false e = refl

-- the edited text is read as what the forms mean
pub walk : (trees : Forest) (b c : List ℕ) (lo hi : ℕ) (role : Role) (room m : ℕ) (ps : List Pending) (s : Forest) → AreTwins b c → IsBetween b lo hi trees → hi ≤ length b
    → IsEdited b c (edits role trees) lo hi → IsHeaded role room trees → room + length ps ≡ most_open → nesting_of trees + length ps ≤ most_open → choice_flaws room m role trees ≡ []
    → is_comment_open b lo ≡ false → IsClosed b hi → IsReading c lo ps s → IsReading c hi ps (join s (meant role trees))
walk nothing b c lo hi role room m ps s t g le edited headed level deep sound closed ends r =
    subst (IsReading c hi ps) (sym (join-nothing s)) (read_gap b c ps s t lo hi g le edited closed ends r)
walk (word span text rest) b c lo hi role room m ps s t g le edited headed level deep sound closed ends r =
    let low : lo ≤ span.start = g.0.ordered in
    let some : span.start < span.end = g.1.nonempty in
    let high : span.end ≤ hi = IsBetween-le b span.end hi rest g.2 in
    let we = word_edits role span in
    let re = edits (after_word role text) rest in
    let first = word_sign b span.start (g.1.within span.start (omega arith) some) in
    let last = word_sign b (span.end - 1) (g.1.within (span.end - 1) (omega arith) (omega arith)) in
    let step : suc (span.end - 1) ≡ span.end = omega arith in
    let after : is_comment_open b span.end ≡ false = subst (λ k. is_comment_open b k ≡ false) step (closed_after b (span.end - 1) last.0) in
    let gap : IsEdited b c [] lo span.start = λ k l u.
    split_edits b c we re k (edited k l (omega arith))
    ∙ (ap (all_written re k) (edit_to_outside span (new_text role) k (get_or b k 0) (inl u)) ∙ edits_outside rest (after_word role text) b span.end hi k (get_or b k 0) g.2 (inl (omega arith))) in
    let here : IsEdited b c we span.start span.end = λ k l u.
    split_edits b c we re k (edited k (omega arith) (omega arith)) ∙ edits_outside rest (after_word role text) b span.end hi k (all_written we k (get_or b k 0)) g.2 (inl u) in
    let later : IsEdited b c re span.end hi = λ k l u.
    split_edits b c we re k (edited k (omega arith) u) ∙ ap (all_written re k) (edit_to_outside span (new_text role) k (get_or b k 0) (inr l)) in
    let plain : IsHeaded (after_word role text) room rest = λ e. absurd (true_and_false (is_choice (after_word role text)) e (after_word_plain role text)) in
    let flawless : choice_flaws room (multiple_after m role text) (after_word role text) rest ≡ [] = (append_nil (word_flaws m role span text) (choice_flaws room (multiple_after m role text) (after_word role text) rest) sound).1 in
    word_then b c ps s t hi role span text (meant (after_word role text) rest) g.1 (omega arith) here
    (λ e. ((headed e).0, (let one : 1 ≤ room = (headed e).1 in omega arith)))
    (λ now r. walk rest b c span.end hi (after_word role text) room (multiple_after m role text) ps now t g.2 le later plain level deep flawless after ends r)
    (read_gap b c ps s t lo span.start g.0 (omega arith) gap closed (inr (closed_before b span.start first.0)) r)
walk (group span parts rest) b c lo hi role room m ps s t g le edited headed level deep sound closed ends r =
    let low : lo ≤ span.start = g.0.ordered in
    let wide : span.start + 2 ≤ span.end = g.1.nonempty in
    let high : span.end ≤ hi = IsBetween-le b span.end hi rest g.3 in
    let ge = group_edits role span parts in
    let re = edits (after_group role parts) rest in
    let inner = inner_role role parts in
    let opened = open_sign b span.start g.1.opened in
    let shut = close_sign b (span.end - 1) g.1.closed in
    let step : suc (span.end - 1) ≡ span.end = omega arith in
    let after : is_comment_open b span.end ≡ false = subst (λ k. is_comment_open b k ≡ false) step (closed_after b (span.end - 1) shut.0) in
    let begins : is_comment_open b (span.start + 1) ≡ false = subst (λ k. is_comment_open b k ≡ false) (sym (add-one span.start)) (closed_after b span.start opened.0) in
    let one : 1 + nesting_of parts ≤ max (1 + nesting_of parts) (nesting_of rest) = le-max_left (1 + nesting_of parts) (nesting_of rest) in
    let other : nesting_of rest ≤ max (1 + nesting_of parts) (nesting_of rest) = le-max_right (1 + nesting_of parts) (nesting_of rest) in
    let total : max (1 + nesting_of parts) (nesting_of rest) + length ps ≤ most_open = deep in
    let gap : IsEdited b c [] lo span.start = λ k l u.
    split_edits b c ge re k (edited k l (omega arith))
    ∙ (ap (all_written re k) (group_outside role span parts k (get_or b k 0) (inl u) (edits_outside parts inner b (span.start + 1) (span.end - 1) k (get_or b k 0) g.2 (inl (omega arith))))
    ∙ edits_outside rest (after_group role parts) b span.end hi k (get_or b k 0) g.3 (inl (omega arith))) in
    let here : IsEdited b c ge span.start span.end = λ k l u.
    split_edits b c ge re k (edited k (omega arith) (omega arith)) ∙ edits_outside rest (after_group role parts) b span.end hi k (all_written ge k (get_or b k 0)) g.3 (inl u) in
    let later : IsEdited b c re span.end hi = λ k l u.
    split_edits b c ge re k (edited k (omega arith) u)
    ∙ ap (all_written re k) (group_outside role span parts k (get_or b k 0) (inr l) (edits_outside parts inner b (span.start + 1) (span.end - 1) k (get_or b k 0) g.2 (inr (omega arith)))) in
    let inside : is_left_out role ≡ false → IsEdited b c (edits inner parts) span.start span.end = λ e k l u.
    here k l u ∙ ap (λ es. all_written es k (get_or b k 0)) (kept_edits role span parts e) in
    let plain : IsHeaded (after_group role parts) room rest = λ e. absurd (true_and_false (is_choice (after_group role parts)) e (after_group_plain role parts)) in
    let flawless : choice_flaws room m (after_group role parts) rest ≡ [] = (append_nil _ _ sound).1 in
    let kept : is_left_out role ≡ false → IsSoundList room inner parts = group_sound span room m role parts rest sound in
    group_then b c ps s t hi (is_left_out role) span (edits inner parts) (meant inner parts) (meant (after_group role parts) rest) g.1 (omega arith) here (omega arith)
    (λ e. inside e span.start (omega arith) (omega arith) ∙ edits_outside parts inner b (span.start + 1) (span.end - 1) span.start (get_or b span.start 0) g.2 (inl (omega arith)))
    (λ e. inside e (span.end - 1) (omega arith) (omega arith) ∙ edits_outside parts inner b (span.start + 1) (span.end - 1) (span.end - 1) (get_or b (span.end - 1) 0) g.2 (inr (omega arith)))
    (λ e p q. (let more : length (ps ++ p ∷ []) ≡ length ps + 1 = length-append ps (p ∷ []) in
    walk parts b c (span.start + 1) (span.end - 1) inner (room - 1) 1 (ps ++ p ∷ []) nothing t g.2 (omega arith) (λ k l u. inside e k (omega arith) (omega arith))
    (λ f. (inner_choice role parts f, (let two : 2 ≤ room = room_left inner room parts (kept e).fault f (inner_choice role parts f) in omega arith)))
    (omega arith) (omega arith) (kept e).inner begins (inr (closed_before b (span.end - 1) shut.0)) q))
    (λ now r. walk rest b c span.end hi (after_group role parts) room m ps now t g.3 le later plain level (omega arith) flawless after ends r)
    (read_gap b c ps s t lo span.start g.0 (omega arith) gap closed (inr (closed_before b span.start opened.0)) r)

text_role_plain : (trees : Forest) → is_choice (text_role trees) ≡ false
text_role_plain trees = by_test (is_declared trees)
  where
    by_test : (v : Bool) → is_choice (if v then Passed else Text) ≡ false
    by_test true = refl
    by_test false = refl

-- the plain text of a text without flaws spells what is meant
pub plain_spelled : (b c : List ℕ) (trees : Forest) → SpellsTrees b trees → nesting_of trees ≤ most_open → choice_flaws most_open 1 (text_role trees) trees ≡ [] → c ≡ all_edited (edits (text_role trees) trees) b
    → SpellsTrees c (meant (text_role trees) trees)
plain_spelled b c trees spelled deep sound is =
    let role = text_role trees in
    let long : length c ≡ length b = ap length is ∙ length-all_edited (edits role trees) b in
    let each : (k : ℕ) → k < length b → get_or c k 0 ≡ all_written (edits role trees) k (get_or b k 0) = λ k h.
    ap (λ x. get_or x k 0) is ∙ all_edited_at (edits role trees) b k h in
    let t : AreTwins b c = twins trees role b c 0 (length b) spelled.whole long each in
    found-spelling c (length b) [] (meant role trees) (omega arith) refl
    (walk trees b c 0 (length b) role most_open 1 [] nothing t spelled.whole (omega arith) (λ k l u. each k u)
    (λ e. absurd (true_and_false (is_choice role) e (text_role_plain trees))) refl (omega arith) sound (is_comment_open-start b) (inl refl) (read-start c))

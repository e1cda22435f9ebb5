-- What the reader answers: the fault that it meets, or what it has read at the end.
use Rattle.std.proofs.Common.{◌≡◌, ℕ, ◌+◌, ◌<◌, ◌≤◌, ◌⊎◌, inl, inr, Bool, true, false, ◌==◌, List, [], ◌∷◌, length, get_or, refl, sym, subst, ◌∙◌, arith}
use Rattle.std.proofs.lemmas.List.{get_or_past}
use Rattle.std.proofs.lemmas.Bool.{eqb-true}
use Rattle.sexpr_text.specs.declared.forms.Place.{Place}
use Rattle.sexpr_text.specs.declared.faults.FaultKind.{FaultKind}
use Rattle.sexpr_text.specs.declared.faults.FaultKind.TheVariants.{BadByte, StrayClose, OpenAtEnd, TooDeep}
use Rattle.sexpr_text.specs.Lexis.{is_semicolon, is_space, is_word_byte, place_at, is_in_comment, opens_at, closes_at, depth_at}
use Rattle.sexpr_text.specs.Forest.{Forest}
use Rattle.sexpr_text.specs.Spelling.{SpellsTrees}
use Rattle.sexpr_text.specs.Faults.{IsFaultAt, IsNeverClosed, HasNoFaultAt, HasFault, most_open}
use Rattle.sexpr_text.specs.Pending.{Pending}
use Rattle.sexpr_text.proofs.Depths.{IsQuiet-free, opens_at-free, closes_at-free, is_in_word-free, is_blank-free, opens_at-comment, closes_at-comment, HasOpen-depth}
use Rattle.sexpr_text.proofs.Reading.{IsPending, IsReading, IsNested-le}
use Rattle.sexpr_text.proofs.Steps.{opens_here, closes_here}
use Rattle.list_laws.proofs.Numbers.{le_or_lt}
use Rattle.list_laws.proofs.Booleans.{true_and_false}

-- the first fault is the one that stands at the byte that is read
first_fault : (b : List ℕ) (k : ℕ) (ps : List Pending) (t : Forest) (kind : FaultKind) (place : Place) → IsReading b k ps t → place ≡ place_at b k → IsFaultAt b k kind → HasFault b (record { kind = kind; place = place })
first_fault b k ps t kind place r placed fault = (
  k,
  placed,
  inl (record {
    present = fault;
    least = λ j other f. by_place j other f (le_or_lt k j);
  }),
)
  where
    by_place : (j : ℕ) (other : FaultKind) → IsFaultAt b j other → (k ≤ j) ⊎ (j < k) → k ≤ j
    by_place j other f (inl w) = w
    by_place j other f (inr w) = absurd (r.clean j other w f)

pub found-bad_byte : (b : List ℕ) (k : ℕ) (ps : List Pending) (t : Forest) (place : Place) → k < length b → is_space (get_or b k 0) ≡ false → is_semicolon (get_or b k 0) ≡ false → (get_or b k 0 == 40) ≡ false → (get_or b k 0 == 41) ≡ false → is_word_byte (get_or b k 0) ≡ false → place ≡ place_at b k → IsReading b k ps t → HasFault b (record { kind = BadByte; place = place })
found-bad_byte b k ps t place inside space semicolon opens closes other placed r =
    let free = IsQuiet-free b k inside r.quiet semicolon in
    first_fault b k ps t BadByte place r placed (record {
      inside = inside;
      no_blank = is_blank-free b k free ∙ space;
      no_open = opens_at-free b k free ∙ opens;
      no_close = closes_at-free b k free ∙ closes;
      no_word = is_in_word-free b k free ∙ other;
    })

pub found-stray_close : (b : List ℕ) (k : ℕ) (ps : List Pending) (t : Forest) (place : Place) → k < length b → (get_or b k 0 == 41) ≡ true → length ps ≡ 0 → place ≡ place_at b k → IsReading b k ps t → HasFault b (record { kind = StrayClose; place = place })
found-stray_close b k ps t place inside h none placed r =
    first_fault b k ps t StrayClose place r placed (record {
      closes = closes_here b k inside r.quiet h;
      none_open = HasOpen-depth b k (length ps) r.deep ∙ none;
    })

pub found-too_deep : (b : List ℕ) (k : ℕ) (ps : List Pending) (t : Forest) (place : Place) → k < length b → (get_or b k 0 == 40) ≡ true → most_open ≤ length ps → place ≡ place_at b k → IsReading b k ps t → HasFault b (record { kind = TooDeep; place = place })
found-too_deep b k ps t place inside h full placed r =
    first_fault b k ps t TooDeep place r placed (record {
      opens = opens_here b k inside r.quiet h;
      full = omega (arith, HasOpen-depth b k (length ps) r.deep);
    })

-- a parenthesis stands inside the text
parenthesis_inside : (b : List ℕ) (k n : ℕ) → 0 < n → (get_or b k 0 == n) ≡ true → k < length b
parenthesis_inside b k n some h = by_place (le_or_lt (length b) k)
  where
    by_place : (length b ≤ k) ⊎ (k < length b) → k < length b
    by_place (inl w) =
        let past : get_or b k 0 ≡ 0 = get_or_past b k 0 w in
        absurd (omega (arith, past, eqb-true (get_or b k 0) n h))
    by_place (inr w) = w

opens_inside : (b : List ℕ) (k : ℕ) → opens_at b k ≡ true → k < length b
opens_inside b k h = by_comment (is_in_comment b k) refl
  where
    by_comment : (v : Bool) → is_in_comment b k ≡ v → k < length b
    by_comment true w = absurd (true_and_false (opens_at b k) h (opens_at-comment b k w))
    by_comment false w = parenthesis_inside b k 40 (omega arith) (sym (opens_at-free b k w) ∙ h)

closes_inside : (b : List ℕ) (k : ℕ) → closes_at b k ≡ true → k < length b
closes_inside b k h = by_comment (is_in_comment b k) refl
  where
    by_comment : (v : Bool) → is_in_comment b k ≡ v → k < length b
    by_comment true w = absurd (true_and_false (closes_at b k) h (closes_at-comment b k w))
    by_comment false w = parenthesis_inside b k 41 (omega arith) (sym (closes_at-free b k w) ∙ h)

-- a fault stands at a byte of the text
fault_inside : (b : List ℕ) (k : ℕ) (kind : FaultKind) → IsFaultAt b k kind → k < length b
fault_inside b k BadByte f = f.inside
fault_inside b k StrayClose f = closes_inside b k f.closes
fault_inside b k TooDeep f = opens_inside b k f.opens
fault_inside b k _ f = absurd f

-- the reader at the end
at_end : (b : List ℕ) (k : ℕ) (ps : List Pending) (t : Forest) → length b ≤ k → IsReading b k ps t → IsReading b (length b) ps t
at_end b k ps t ended r =
    let same : k ≡ length b = omega (arith, r.inside) in
    subst (λ x. IsReading b x ps t) same r

clean_to_end : (b : List ℕ) (ps : List Pending) (t : Forest) → IsReading b (length b) ps t → HasNoFaultAt b
clean_to_end b ps t r k kind f = r.clean k kind (fault_inside b k kind f) f

pub found-spelling : (b : List ℕ) (k : ℕ) (ps : List Pending) (t : Forest) → length b ≤ k → ps ≡ [] → IsReading b k ps t → SpellsTrees b t
found-spelling b k ps t ended none r =
    let last : IsReading b (length b) [] t = at_end b k [] t ended (subst (λ x. IsReading b k x t) none r) in
    let level : depth_at b (length b) ≡ 0 = HasOpen-depth b (length b) 0 last.deep in
    record {
      sound = record {
        sound = clean_to_end b [] t last;
        closed = λ i f. omega (arith, level, f.stays (length b) (opens_inside b i f.opens) (omega arith));
      };
      whole = last.nested;
    }

pub found-open_at_end : (b : List ℕ) (k : ℕ) (p : Pending) (ps : List Pending) (t : Forest) (place : Place) → length b ≤ k → place ≡ p.place → IsReading b k (p ∷ ps) t → HasFault b (record { kind = OpenAtEnd; place = place })
found-open_at_end b k p ps t place ended placed r =
    let last : IsReading b (length b) (p ∷ ps) t = at_end b k (p ∷ ps) t ended r in
    let first : IsPending b (length b) 0 0 p = last.nested.0 in
    let within : p.start + 1 ≤ length b = IsNested-le b (length b) 1 (p.start + 1) ps t last.nested.1 in (
      p.start,
      placed ∙ first.placed,
      inr (
        clean_to_end b (p ∷ ps) t last,
        refl,
        record {
          present = record { opens = first.opens; stays = λ m l u. omega (arith, first.level, first.stays m l u) };
          least = λ j f. by_place first within j f (le_or_lt p.start j);
        },
      ),
    )
  where
    by_place : IsPending b (length b) 0 0 p → p.start + 1 ≤ length b → (j : ℕ) → IsNeverClosed b j → (p.start ≤ j) ⊎ (j < p.start) → p.start ≤ j
    by_place first within j f (inl w) = w
    by_place first within j f (inr w) = absurd (omega (arith, first.level, f.stays p.start w (omega arith)))

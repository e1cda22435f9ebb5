-- What the reader knows when it has read a text up to some offset.
use Rattle.std.proofs.Common.{◌≡◌, ℕ, suc, ◌+◌, ◌-◌, ◌<◌, ◌≤◌, ◌⊎◌, inl, inr, true, false, List, [], ◌∷◌, ◌++◌, length, ap, sym, subst, ◌∙◌, arith}
use Rattle.sexpr_text.specs.declared.forms.Span.{Span}
use Rattle.sexpr_text.specs.declared.faults.FaultKind.{FaultKind}
use Rattle.sexpr_text.specs.Lexis.{place_at, is_in_word, opens_at, closes_at, depth_at}
use Rattle.sexpr_text.specs.Forest.{Forest, nothing, group, join}
use Rattle.sexpr_text.specs.Spelling.{IsGap, IsGroup, IsBetween}
use Rattle.sexpr_text.specs.Faults.{IsFaultAt, most_open}
use Rattle.sexpr_text.specs.Pending.{Pending}
use Rattle.sexpr_text.proofs.Depths.{IsQuiet, HasOpen}
use Rattle.sexpr_text.proofs.Between.{IsGap-none, IsBetween-join, IsBetween-le}
use Rattle.list_laws.proofs.Numbers.{le_or_lt}

-- the n-th open parenthesis, in a list that begins at offset lo, when the text is read up to offset
-- k
pub record IsPending (b : List ℕ) (k n lo : ℕ) (p : Pending) : Type 0 where
  pub before : IsBetween b lo p.start p.before
  pub opens : opens_at b p.start ≡ true
  pub placed : p.place ≡ place_at b p.start
  pub level : depth_at b p.start ≡ n
  pub stays : (m : ℕ) → p.start < m → m ≤ k → n < depth_at b m

-- the open parentheses from the n-th on, and the trees since the innermost one
abbrev pub IsNested : List ℕ → ℕ → ℕ → ℕ → List Pending → Forest → Type 0
IsNested b k n lo [] trees = IsBetween b lo k trees
IsNested b k n lo (p ∷ ps) trees = IsPending b k n lo p × IsNested b k (suc n) (p.start + 1) ps trees

-- the text is read up to offset k without a fault
pub record IsReading (b : List ℕ) (k : ℕ) (pending : List Pending) (trees : Forest) : Type 0 where
  pub inside : k ≤ length b
  pub quiet : IsQuiet b k
  pub apart : is_in_word b k ≡ true → (i : ℕ) → suc i ≡ k → is_in_word b i ≡ false
  pub clean : (i : ℕ) (kind : FaultKind) → i < k → IsFaultAt b i kind → ⊥
  pub deep : HasOpen b k (length pending)
  pub bounded : length pending ≤ most_open
  pub nested : IsNested b k 0 0 pending trees

pub IsNested-le : (b : List ℕ) (k n lo : ℕ) (ps : List Pending) (t : Forest) → IsNested b k n lo ps t → lo ≤ k
IsNested-le b k n lo [] t h = IsBetween-le b lo k t h
IsNested-le b k n lo (p ∷ ps) t h =
    omega (arith, IsBetween-le b lo p.start p.before h.0.before, IsNested-le b k (suc n) (p.start + 1) ps t h.1)

-- a parenthesis that is open stays open while the depth does not fall to it
IsPending-grow : (b : List ℕ) (k e n lo : ℕ) (p : Pending) → ((m : ℕ) → k < m → m ≤ e → n < depth_at b m) → IsPending b k n lo p → IsPending b e n lo p
IsPending-grow b k e n lo p above h = record {
  before = h.before;
  opens = h.opens;
  placed = h.placed;
  level = h.level;
  stays = λ m l u. by_place m l u (le_or_lt m k);
}
  where
    by_place : (m : ℕ) → p.start < m → m ≤ e → (m ≤ k) ⊎ (k < m) → n < depth_at b m
    by_place m l u (inl w) = h.stays m l w
    by_place m l u (inr w) = above m w u

-- one more form, or a gap, in the innermost list
pub IsNested-grow : (b : List ℕ) (k e n lo : ℕ) (ps : List Pending) (s t : Forest) → ((m : ℕ) → k < m → m ≤ e → depth_at b k ≤ depth_at b m) → ((i : ℕ) → IsBetween b i k s → IsBetween b i e t) → IsNested b k n lo ps s → IsNested b e n lo ps t
IsNested-grow b k e n lo [] s t above longer h = longer lo h
IsNested-grow b k e n lo (p ∷ ps) s t above longer h =
    let below : n < depth_at b k = h.0.stays k (omega (arith, IsNested-le b k (suc n) (p.start + 1) ps s h.1)) (omega arith) in (
      IsPending-grow b k e n lo p (λ m l u. omega (arith, above m l u)) h.0,
      IsNested-grow b k e (suc n) (p.start + 1) ps s t above longer h.1,
    )

-- a group begins
pub IsNested-open : (b : List ℕ) (k n lo : ℕ) (ps : List Pending) (t : Forest) (p : Pending) → p.start ≡ k → p.before ≡ t → p.place ≡ place_at b k → opens_at b k ≡ true → depth_at b k ≡ n + length ps → depth_at b (k + 1) ≡ n + length ps + 1 → IsNested b k n lo ps t → IsNested b (k + 1) n lo (ps ++ p ∷ []) nothing
IsNested-open b k n lo [] t p start before placed opens level next h =
    let at : (x : ℕ) → x ≡ k → IsBetween b lo x t = λ x e. subst (λ y. IsBetween b lo y t) (sym e) h in
    let until : IsBetween b lo p.start p.before = subst (λ f. IsBetween b lo p.start f) (sym before) (at p.start start) in (
      record {
        before = until;
        opens = ap (opens_at b) start ∙ opens;
        placed = placed ∙ ap (place_at b) (sym start);
        level = ap (depth_at b) start ∙ (level ∙ omega arith);
        stays = λ m l u.
            let last : m ≡ k + 1 = omega arith in
            omega (arith, ap (depth_at b) last, next);
      },
      subst (λ x. IsGap b x (k + 1)) (ap (λ x. x + 1) (sym start)) (IsGap-none b (k + 1)),
    )
IsNested-open b k n lo (q ∷ ps) t p start before placed opens level next h = (
  IsPending-grow b k (k + 1) n lo q (λ m l u.
      let last : m ≡ k + 1 = omega arith in
      omega (arith, ap (depth_at b) last, next)) h.0,
  IsNested-open b k (suc n) (q.start + 1) ps t p start before placed opens (omega (arith, level)) (omega (arith, next)) h.1,
)

-- the innermost group ends
pub IsNested-close : (b : List ℕ) (k n lo : ℕ) (ps : List Pending) (t : Forest) (p : Pending) → closes_at b k ≡ true → depth_at b (k + 1) ≡ n + length ps → IsNested b k n lo (ps ++ p ∷ []) t → IsNested b (k + 1) n lo ps (join p.before (group (record { start = p.start; end = k + 1; place = p.place }) t nothing))
IsNested-close b k n lo [] t p closes next h =
    let span : Span = record { start = p.start; end = k + 1; place = p.place } in
    let past : p.start + 1 ≤ k = IsBetween-le b (p.start + 1) k t h.1 in
    let last : k + 1 - 1 ≡ k = omega arith in
    let whole : IsGroup b span = record {
      opened = h.0.opens;
      nonempty = omega arith;
      closed = ap (closes_at b) last ∙ closes;
      back = next ∙ (omega arith ∙ sym h.0.level);
      first = λ i l u. omega (arith, h.0.level, h.0.stays i l (omega arith));
      placed = h.0.placed;
    } in
    IsBetween-join b lo p.start (k + 1) p.before (group span t nothing) h.0.before
    (IsGap-none b p.start, whole, subst (λ x. IsBetween b (p.start + 1) x t) (sym last) h.1, IsGap-none b (k + 1))
IsNested-close b k n lo (q ∷ ps) t p closes next h = (
  IsPending-grow b k (k + 1) n lo q (λ m l u.
      let last : m ≡ k + 1 = omega arith in
      omega (arith, ap (depth_at b) last, next)) h.0,
  IsNested-close b k (suc n) (q.start + 1) ps t p closes (omega (arith, next)) h.1,
)

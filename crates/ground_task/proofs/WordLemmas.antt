-- Words as text, and names made of words that are listed.
use Rattle.std.proofs.Common.{◌≡◌, ℕ, zero, suc, ◌<◌, ◌≤◌, true, List, [], ◌∷◌, length, get_or, not, ◌&&◌, map, refl, ap, sym, ◌∙◌, arith, ◌==◌}
use Rattle.std.specs.Prelude.{nat_le, slice_get}
use Rattle.std.specs.Option.{option_map_or}
use Rattle.std.specs.Rc.{rc_str_bytes}
use Rattle.std.specs.Str.{IsUtf8}
use Rattle.std.specs.declared.alloc.Global.{Global}
use Rattle.std.specs.declared.rc.RcStr.{RcStr}
use Rattle.std.proofs.lemmas.Bool.{and_parts, leb-true}
use Rattle.std.proofs.lemmas.Option.{slice_get_past}
use Rattle.std.proofs.lemmas.Str.{IsUtf8-from_ascii}
use Rattle.std.proofs.lemmas.Str.Ascii.{IsAscii-from_all}
use Rattle.task_core.specs.Names.{IsWord, is_name_byte}
use Rattle.pddl_ast.specs.Trees.{AtomTree, DomainTree, ProblemTree, SchemaTree}
use Rattle.pddl_ast.specs.declared.trees.Named.{Named}
use Rattle.pddl_ast.specs.declared.trees.Predicate.{Predicate}
use Rattle.pddl_system.specs.Instances.{Instance as InstanceTree}
use Rattle.pddl_system.specs.Objects.{all_objects}
use Rattle.pddl_system.specs.Systems.{atom_name, instance_name, object_name}
use Rattle.ground_task.specs.NameWords.{AreWordsOf, listed}
use Rattle.ground_task.specs.declared.words.NameWords.{NameWords}

byte_low : (c : ℕ) → is_name_byte c ≡ true → c < 128
byte_low c h =
    let one = and_parts (nat_le 33 c && nat_le c 126 && not (c == 40) && not (c == 41) && not (c == 59)) (not (nat_le 65 c && nat_le c 90)) h in
    let two = and_parts (nat_le 33 c && nat_le c 126 && not (c == 40) && not (c == 41)) (not (c == 59)) one.0 in
    let three = and_parts (nat_le 33 c && nat_le c 126 && not (c == 40)) (not (c == 41)) two.0 in
    let four = and_parts (nat_le 33 c && nat_le c 126) (not (c == 40)) three.0 in
    let five = and_parts (nat_le 33 c) (nat_le c 126) four.0 in
    let low : c ≤ 126 = leb-true c 126 five.1 in
    omega arith

pub word_is_text : (w : List ℕ) → IsWord w → IsUtf8 w
word_is_text w h = IsUtf8-from_ascii w (IsAscii-from_all w (λ k d lt. byte_low (get_or w k d) (h.bytes k d lt)))

pub listed_at : {X : Type 0} (f : X → List ℕ) (xs : List X) (n : ℕ) (d : X) → n < length xs → option_map_or f (slice_get xs n) [] ≡ f (get_or xs n d)
listed_at f [] n d h = absurd (omega arith)
listed_at f (x ∷ xs) zero d h = refl
listed_at f (x ∷ xs) (suc n) d h = listed_at f xs n d (omega arith)

pub listed_past : {X : Type 0} (f : X → List ℕ) (xs : List X) (n : ℕ) → length xs ≤ n → option_map_or f (slice_get xs n) [] ≡ []
listed_past f xs n h = ap (λ o. option_map_or f o []) (slice_get_past xs n h)

-- what is listed of a number is the element at its place
at_place : {X : Type 0} (f : X → List ℕ) (xs : List X) (n : ℕ) → option_map_or f (slice_get xs n) [] ≡ get_or (map f xs) n []
at_place f [] n = listed_past f [] n (omega arith)
at_place f (x ∷ xs) zero = refl
at_place f (x ∷ xs) (suc n) = at_place f xs n

-- words that are the names of what is listed are so at each number
pub same_listed : {X : Type 0} (f : X → List ℕ) (words : List (RcStr Global)) (xs : List X) → map rc_str_bytes words ≡ map f xs → (n : ℕ) → listed words n ≡ option_map_or f (slice_get xs n) []
same_listed f words xs e n = at_place rc_str_bytes words n ∙ ap (λ l. get_or l n []) e ∙ sym (at_place f xs n)

same_map : (g h : ℕ → List ℕ) → ((n : ℕ) → g n ≡ h n) → (ns : List ℕ) → map g ns ≡ map h ns
same_map g h e [] = refl
same_map g h e (n ∷ ns) = ap (λ x. x ∷ map g ns) (e n) ∙ ap (λ l. h n ∷ l) (same_map g h e ns)

module _ (d : DomainTree) (p : ProblemTree) (words : NameWords) (are : AreWordsOf d p words) where
  pub object_words : (numbers : List ℕ) → map (listed words.objects.items) numbers ≡ map (object_name (all_objects d p)) numbers
  object_words = same_map (listed words.objects.items) (object_name (all_objects d p)) (same_listed (λ (n : Named). n.name) words.objects.items (all_objects d p) are.objects)

  -- the name of an atom from its words
  pub atom_words : (a : AtomTree) → listed words.predicates.items a.predicate ∷ map (listed words.objects.items) a.objects ≡ atom_name d p a
  atom_words a =
      ap (λ w. w ∷ map (listed words.objects.items) a.objects) (same_listed (λ (q : Predicate). q.name) words.predicates.items d.predicates are.predicates a.predicate)
      ∙ ap (λ l. option_map_or (λ (q : Predicate). q.name) (slice_get d.predicates a.predicate) [] ∷ l) (object_words a.objects)

  -- the name of an instance from its words
  pub instance_words : (i : InstanceTree) → i.schema.name ∷ map (listed words.objects.items) i.objects ≡ instance_name d p i
  instance_words i = ap (λ l. i.schema.name ∷ l) (object_words i.objects)

  -- the word of an action at its number
  pub action_word : (n : ℕ) (s : SchemaTree) → n < length d.actions → s ≡ get_or d.actions n s → listed words.actions.items n ≡ s.name
  action_word n s within is =
      same_listed (λ (t : SchemaTree). t.name) words.actions.items d.actions are.actions n
      ∙ listed_at (λ (t : SchemaTree). t.name) d.actions n s within
      ∙ ap (λ (t : SchemaTree). t.name) (sym is)

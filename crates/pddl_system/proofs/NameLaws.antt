-- The names of fluents and of actions are lists of words, and differ.
use Rattle.std.proofs.Common.{◌≡◌, ◌≢◌, ℕ, zero, suc, ◌+◌, ◌<◌, true, false, inl, inr, List, [], ◌∷◌, map, length, Option, Some, refl, sym, ◌∙◌, ap, subst, arith}
use Rattle.std.specs.Prelude.{codes, slice_get, replicate}
use Rattle.std.specs.List.{All, list_any, enumerate_from, range_with_len}
use Rattle.std.specs.Option.{option_map_or}
use Rattle.std.specs.Str.{bytes_eq}
use Rattle.std.proofs.lemmas.Bool.{or_parts, false≢true, true≢false}
use Rattle.std.proofs.lemmas.List.Elements.{All-cons}
use Rattle.std.proofs.lemmas.Option.{none-some, same_Some, slice_get_within, get_or_from_slice_get}
use Rattle.std.proofs.lemmas.Slice.Eq.{bytes_eq-Decides}
use Rattle.task_core.specs.Names.{AreActionNames, AreFluentNames, IsName, IsWord, Name, first_word}
use Rattle.pddl_ast.specs.declared.trees.Named.{Named}
use Rattle.pddl_ast.specs.declared.trees.Predicate.{Predicate}
use Rattle.pddl_ast.specs.Fits.{AreDistinct, FitsDomain, FitsProblem}
use Rattle.sexpr_text.specs.Parts.{is_name}
use Rattle.pddl_ast.specs.Trees.{AtomTree, SchemaTree, DomainTree, ProblemTree}
use Rattle.pddl_ast.specs.Words.{is_reserved, keyword_of}
use Rattle.pddl_system.specs.Fluents.{fluents, is_fluent}
use Rattle.pddl_system.specs.GroundAtoms.{all_atoms, atoms_of_predicate}
use Rattle.pddl_system.specs.Instances.{Instance, instances_of, is_kept, kept_instances, kept_of}
use Rattle.pddl_system.specs.Laws.{ActionNamesAreNames, FluentNamesAreNames}
use Rattle.pddl_system.specs.Names.{NamesAreWords}
use Rattle.pddl_system.specs.Objects.{all_objects, bindings, is_kind_of, objects_of_type, type_of}
use Rattle.pddl_system.specs.Settings.{setting}
use Rattle.pddl_system.specs.Systems.{action_names, atom_name, fluent_names, instance_name, object_name, predicate_name}
use Rattle.pddl_system.proofs.Members.{Among, Apart, AllPairs-from_Apart, All-from_Among, Among-filter_from, Among-flat_map_from, Among-map, Among-map_from, Among-range, Among-slice_get, Apart-filter, Apart-flat_map, Apart-map, Apart-range}
use Rattle.pddl_system.proofs.Numbers.{bindings_apart, chosen_from, fluents_apart}

-- elements at their places

all_at : {X : Type 0} (P : X → Type 0) (xs : List X) → All P xs → (k : ℕ) (x : X) → slice_get xs k ≡ Some x → P x
all_at P xs all k x h = subst P (get_or_from_slice_get xs k x x h) (all k x (slice_get_within xs k x h))

is_there : {X : Type 0} (xs : List X) (k : ℕ) → k < length xs → (x : X) × (slice_get xs k ≡ Some x)
is_there [] k h = absurd (omega arith)
is_there (x ∷ xs) zero h = (x, refl)
is_there (x ∷ xs) (suc k) h = is_there xs k (omega arith)

numbered : {X : Type 0} (e : ℕ × X) (b : ℕ) (xs : List X) → Among e (enumerate_from b xs) → (k : ℕ) × (e.0 ≡ b + k) × (slice_get xs k ≡ Some e.1)
numbered e b [] h = absurd h
numbered e b (x ∷ xs) (inl is) = (0, sym (ap (λ (z : ℕ × _). z.0) is) ∙ omega arith, ap (λ (z : ℕ × _). Some z.1) is)
numbered e b (x ∷ xs) (inr h) = let rest = numbered e (b + 1) xs h in (suc rest.0, rest.1 ∙ omega arith, rest.2)

-- names that differ

not_it : (name w : List ℕ) (names : List (List ℕ)) → list_any (bytes_eq name) names ≡ false → Among w names → name ≡ w → ⊥
not_it name w [] h k e = k
not_it name w (n ∷ names) h (inl is) e =
    false≢true (sym (or_parts (bytes_eq name n) (list_any (bytes_eq name) names) h).0 ∙ (bytes_eq-Decides name n).1 (e ∙ sym is))
not_it name w (n ∷ names) h (inr k) e = not_it name w names (or_parts (bytes_eq name n) (list_any (bytes_eq name) names) h).1 k e

module _ {X : Type 0} (name : X → List ℕ) where
  place_by_name : (xs : List X) → AreDistinct (map name xs) → (i j : ℕ) (x y : X) → slice_get xs i ≡ Some x → slice_get xs j ≡ Some y → name x ≡ name y → i ≡ j
  place_by_name [] apart i j x y hx hy e = absurd (none-some x hx)
  place_by_name (z ∷ xs) apart zero zero x y hx hy e = refl
  place_by_name (z ∷ xs) apart zero (suc j) x y hx hy e =
      absurd (not_it (name z) (name y) (map name xs) apart.0 (Among-map name y xs (Among-slice_get xs j y hy)) (ap name (same_Some z x hx) ∙ e))
  place_by_name (z ∷ xs) apart (suc i) zero x y hx hy e =
      absurd (not_it (name z) (name x) (map name xs) apart.0 (Among-map name x xs (Among-slice_get xs i x hx)) (ap name (same_Some z y hy) ∙ sym e))
  place_by_name (z ∷ xs) apart (suc i) (suc j) x y hx hy e = ap suc (place_by_name xs apart.1 i j x y hx hy e)

  same_by_name : (xs : List X) → AreDistinct (map name xs) → (x y : X) → Among x xs → Among y xs → name x ≡ name y → x ≡ y
  same_by_name [] apart x y hx hy e = absurd hx
  same_by_name (z ∷ xs) apart x y (inl hx) (inl hy) e = sym hx ∙ hy
  same_by_name (z ∷ xs) apart x y (inl hx) (inr hy) e =
      absurd (not_it (name z) (name y) (map name xs) apart.0 (Among-map name y xs hy) (ap name hx ∙ e))
  same_by_name (z ∷ xs) apart x y (inr hx) (inl hy) e =
      absurd (not_it (name z) (name x) (map name xs) apart.0 (Among-map name x xs hx) (ap name hy ∙ sym e))
  same_by_name (z ∷ xs) apart x y (inr hx) (inr hy) e = same_by_name xs apart.1 x y hx hy e

  names_apart : (xs : List X) → AreDistinct (map name xs) → Apart (map name xs)
  names_apart [] apart = tt
  names_apart (x ∷ xs) apart = ((λ h. not_it (name x) (name x) (map name xs) apart.0 h refl), names_apart xs apart.1)

-- lists with one image under a function that keeps their elements apart
same_lists : {X Y : Type 0} (f : X → Y) (xs ys : List X) → ((x y : X) → Among x xs → Among y ys → f x ≡ f y → x ≡ y) → map f xs ≡ map f ys → xs ≡ ys
same_lists f [] [] injective h = refl
same_lists f [] (y ∷ ys) injective h = absurd (cc)
same_lists f (x ∷ xs) [] injective h = absurd (cc)
same_lists f (x ∷ xs) (y ∷ ys) injective h =
    let head : f x ≡ f y = cc in
    let tail : map f xs ≡ map f ys = cc in
    ap (λ z. z ∷ xs) (injective x y (inl refl) (inl refl) head)
    ∙ ap (λ zs. y ∷ zs) (same_lists f xs ys (λ u w k l e. injective u w (inr k) (inr l) e) tail)

not_is_reserved : is_reserved (codes "not") ≡ true
unfolding keyword_of
not_is_reserved = refl

name_some : (w : List ℕ) (rest : Name) → w ∷ rest ≢ []
name_some w rest e = cc

-- the instances, whatever the names

module _ (d : DomainTree) (p : ProblemTree) where
  -- an object is below this number
  abbrev count : ℕ
  count = length (all_objects d p)

  -- an instance's action and objects
  abbrev with : SchemaTree → List ℕ → Instance
  with s objects = record { schema = s; objects = objects }

  pub of_schema : (s : SchemaTree) (i : Instance) → Among i (kept_of (setting d p) s) → (objects : List ℕ) × Among objects (bindings (setting d p).objects s.parameters) × (with s objects ≡ i)
  of_schema s i h =
      Among-map_from (with s) i (bindings (setting d p).objects s.parameters) (Among-filter_from (is_kept (setting d p)) i (instances_of (setting d p) s) h).0

  pub schema_listed : (i : Instance) → Among i (kept_instances d p) → Among i.schema d.actions
  schema_listed i h =
      let one = Among-flat_map_from (kept_of (setting d p)) i d.actions h in
      let two = of_schema one.0 i one.2 in
      subst (λ s. Among s d.actions) (ap (λ (j : Instance). j.schema) two.2) one.1

  pub arguments_below : (i : Instance) → Among i (kept_instances d p) → (o : ℕ) → Among o i.objects → o < count
  arguments_below i h o k =
      let one = Among-flat_map_from (kept_of (setting d p)) i d.actions h in
      let two = of_schema one.0 i one.2 in
      let from = chosen_from (setting d p).objects (one.0).parameters two.0 two.1 o (subst (λ os. Among o os) (sym (ap (λ (j : Instance). j.objects) two.2)) k) in
      let in_range = (Among-filter_from (λ u. is_kind_of d.parents (type_of (all_objects d p) u) from.0) o (range_with_len 0 count) from.1).0 in
      let below = (Among-range o 0 count in_range).1 in
      omega arith

  objects_apart : (t : ℕ) → Apart (objects_of_type d.parents (all_objects d p) t)
  objects_apart t = Apart-filter (λ o. is_kind_of d.parents (type_of (all_objects d p) o) t) (range_with_len 0 count) (Apart-range 0 count)

module _ (d : DomainTree) (p : ProblemTree) (fits_d : FitsDomain d) (fits_p : FitsProblem d p) (words : NamesAreWords d p) where
  object_word : (o : ℕ) → o < (count d p) → IsWord (object_name (all_objects d p) o)
  object_word o h =
      let there = is_there (all_objects d p) o h in
      subst (λ (r : Option Named). IsWord (option_map_or (λ (n : Named). n.name) r [])) (sym there.1)
      (all_at (λ (n : Named). IsWord n.name) (all_objects d p) words.objects o there.0 there.1)

  same_object : (o u : ℕ) → o < (count d p) → u < (count d p) → object_name (all_objects d p) o ≡ object_name (all_objects d p) u → o ≡ u
  same_object o u ho hu e =
      let x = is_there (all_objects d p) o ho in
      let y = is_there (all_objects d p) u hu in
      let named : object_name (all_objects d p) o ≡ (x.0).name = ap (λ (r : Option Named). option_map_or (λ (n : Named). n.name) r []) x.1 in
      let other : object_name (all_objects d p) u ≡ (y.0).name = ap (λ (r : Option Named). option_map_or (λ (n : Named). n.name) r []) y.1 in
      place_by_name (λ (n : Named). n.name) (all_objects d p) fits_p.objects_differ o u x.0 y.0 x.1 y.1 (sym named ∙ e ∙ other)

  same_objects : (os us : List ℕ) → ((o : ℕ) → Among o os → o < (count d p)) → ((u : ℕ) → Among u us → u < (count d p))
      → map (object_name (all_objects d p)) os ≡ map (object_name (all_objects d p)) us → os ≡ us
  same_objects os us ho hu e =
      same_lists (object_name (all_objects d p)) os us (λ o u k l same. same_object o u (ho o k) (hu u l) same) e

  objects_words : (os : List ℕ) → ((o : ℕ) → Among o os → o < (count d p)) → (w : List ℕ) → Among w (map (object_name (all_objects d p)) os) → IsWord w
  objects_words os ho w h =
      let from = Among-map_from (object_name (all_objects d p)) w os h in
      subst IsWord from.2 (object_word from.0 (ho from.0 from.1))

  name_of_words : (w : List ℕ) (os : List ℕ) → IsWord w → ((o : ℕ) → Among o os → o < (count d p)) → IsName (w ∷ map (object_name (all_objects d p)) os)
  name_of_words w os is ho = record {
    some = name_some w (map (object_name (all_objects d p)) os);
    each_word = All-cons IsWord w (map (object_name (all_objects d p)) os) is (All-from_Among IsWord (map (object_name (all_objects d p)) os) (objects_words os ho));
  }

  -- a fluent's predicate and objects
  predicate_at : (a : AtomTree) → Among a (fluents d p) → (q : Predicate) × (slice_get d.predicates a.predicate ≡ Some q)
  predicate_at a h =
      let listed = (Among-filter_from (is_fluent d p) a (all_atoms d.predicates (count d p)) h).0 in
      let one = Among-flat_map_from (λ (e : ℕ × Predicate). atoms_of_predicate (count d p) e.0 e.1.arity) a (enumerate_from 0 d.predicates) listed in
      let at = numbered one.0 0 d.predicates one.1 in
      let two = Among-map_from (λ objects. record { predicate = (one.0).0; objects = objects }) a (bindings (λ _. range_with_len 0 (count d p)) (replicate (one.0).1.arity 0)) one.2 in
      let number : (one.0).0 ≡ a.predicate = ap (λ (b : AtomTree). b.predicate) two.2 in
      let place : at.0 ≡ a.predicate = omega arith in
      ((one.0).1, subst (λ k. slice_get d.predicates k ≡ Some (one.0).1) place at.2)

  objects_below : (a : AtomTree) → Among a (fluents d p) → (o : ℕ) → Among o a.objects → o < (count d p)
  objects_below a h o k =
      let listed = (Among-filter_from (is_fluent d p) a (all_atoms d.predicates (count d p)) h).0 in
      let one = Among-flat_map_from (λ (e : ℕ × Predicate). atoms_of_predicate (count d p) e.0 e.1.arity) a (enumerate_from 0 d.predicates) listed in
      let two = Among-map_from (λ objects. record { predicate = (one.0).0; objects = objects }) a (bindings (λ _. range_with_len 0 (count d p)) (replicate (one.0).1.arity 0)) one.2 in
      let listed_too : Among o two.0 = subst (λ os. Among o os) (sym (ap (λ (b : AtomTree). b.objects) two.2)) k in
      let from = chosen_from (λ _. range_with_len 0 (count d p)) (replicate (one.0).1.arity 0) two.0 two.1 o listed_too in
      let below = (Among-range o 0 (count d p) from.1).1 in
      omega arith

  predicate_name_at : (a : AtomTree) (q : Predicate) → slice_get d.predicates a.predicate ≡ Some q → predicate_name d.predicates a.predicate ≡ q.name
  predicate_name_at a q h = ap (λ (r : Option Predicate). option_map_or (λ (n : Predicate). n.name) r []) h

  fluent_is_name : (a : AtomTree) → Among a (fluents d p) → IsName (atom_name d p a)
  fluent_is_name a h =
      let at = predicate_at a h in
      let word = all_at (λ (q : Predicate). IsWord q.name) d.predicates words.predicates a.predicate at.0 at.1 in
      name_of_words (predicate_name d.predicates a.predicate) a.objects (subst IsWord (sym (predicate_name_at a at.0 at.1)) word) (objects_below a h)

  fluent_is_not_not : (a : AtomTree) → Among a (fluents d p) → first_word (atom_name d p a) ≢ codes "not"
  fluent_is_not_not a h e =
      let at = predicate_at a h in
      let plain = (all_at (λ (q : Predicate). (is_name q.name ≡ true) × (is_reserved q.name ≡ false)) d.predicates fits_d.predicate_names a.predicate at.0 at.1).1 in
      let is : (at.0).name ≡ codes "not" = sym (predicate_name_at a at.0 at.1) ∙ e in
      true≢false (sym not_is_reserved ∙ ap is_reserved (sym is) ∙ plain)

  same_fluent : (a b : AtomTree) → Among a (fluents d p) → Among b (fluents d p) → atom_name d p a ≡ atom_name d p b → a ≡ b
  same_fluent a b ha hb e =
      let qa = predicate_at a ha in
      let qb = predicate_at b hb in
      let head : predicate_name d.predicates a.predicate ≡ predicate_name d.predicates b.predicate = cc in
      let tail : map (object_name (all_objects d p)) a.objects ≡ map (object_name (all_objects d p)) b.objects = cc in
      let predicates = place_by_name (λ (q : Predicate). q.name) d.predicates fits_d.predicates_differ a.predicate b.predicate qa.0 qb.0 qa.1 qb.1
      (sym (predicate_name_at a qa.0 qa.1) ∙ head ∙ predicate_name_at b qb.0 qb.1) in
      let objects = same_objects a.objects b.objects (objects_below a ha) (objects_below b hb) tail in
      λ i. record { predicate = predicates i; objects = objects i }

  fluent_names_are : AreFluentNames (fluent_names d p)
  fluent_names_are = record {
    each = All-from_Among IsName (fluent_names d p) (λ name h. let from = Among-map_from (atom_name d p) name (fluents d p) h in subst IsName from.2 (fluent_is_name from.0 from.1));
    no_not = All-from_Among (λ name. first_word name ≢ codes "not") (fluent_names d p) (λ name h. let from = Among-map_from (atom_name d p) name (fluents d p) h in subst (λ n. first_word n ≢ codes "not") from.2 (fluent_is_not_not from.0 from.1));
    distinct = AllPairs-from_Apart (fluent_names d p) (Apart-map (atom_name d p) (fluents d p) same_fluent (fluents_apart d p));
  }

  -- the names of actions
  action_is_name : (i : Instance) → Among i (kept_instances d p) → IsName (instance_name d p i)
  action_is_name i h =
      name_of_words i.schema.name i.objects (all_among d.actions words.actions i.schema (schema_listed d p i h)) (arguments_below d p i h)
    where
      all_among : (xs : List SchemaTree) → All (λ (s : SchemaTree). IsWord s.name) xs → (x : SchemaTree) → Among x xs → IsWord x.name
      all_among [] all x k = absurd k
      all_among (y ∷ xs) all x (inl is) = subst (λ (s : SchemaTree). IsWord s.name) is (all 0 x (omega arith))
      all_among (y ∷ xs) all x (inr k) = all_among xs (λ n z within. all (suc n) z (omega arith)) x k

  same_instance : (i j : Instance) → Among i (kept_instances d p) → Among j (kept_instances d p) → instance_name d p i ≡ instance_name d p j → i ≡ j
  same_instance i j hi hj e =
      let head : i.schema.name ≡ j.schema.name = cc in
      let tail : map (object_name (all_objects d p)) i.objects ≡ map (object_name (all_objects d p)) j.objects = cc in
      let schemas = same_by_name (λ (s : SchemaTree). s.name) d.actions fits_d.actions_differ i.schema j.schema (schema_listed d p i hi) (schema_listed d p j hj) head in
      let objects = same_objects i.objects j.objects (arguments_below d p i hi) (arguments_below d p j hj) tail in
      λ n. record { schema = schemas n; objects = objects n }

  instances_apart : Apart (kept_instances d p)
  instances_apart =
      Apart-flat_map (kept_of (setting d p)) (λ (s : SchemaTree). s.name) (λ (i : Instance). i.schema.name) d.actions
      (λ s i k l. ap (λ (j : Instance). j.schema.name) (sym (of_schema d p s i l).2))
      (λ s k. Apart-filter (is_kept (setting d p)) (instances_of (setting d p) s)
      (Apart-map ((with d p) s) (bindings (setting d p).objects s.parameters) (λ x y _ _ e. ap (λ (i : Instance). i.objects) e) (bindings_apart (setting d p).objects (objects_apart d p) s.parameters)))
      (names_apart (λ (s : SchemaTree). s.name) d.actions fits_d.actions_differ)

  action_names_are : AreActionNames (action_names d p)
  action_names_are = record {
    each = All-from_Among IsName (action_names d p) (λ name h. let from = Among-map_from (instance_name d p) name (kept_instances d p) h in subst IsName from.2 (action_is_name from.0 from.1));
    distinct = AllPairs-from_Apart (action_names d p) (Apart-map (instance_name d p) (kept_instances d p) same_instance instances_apart);
  }

pub fluent_names_are_names : FluentNamesAreNames
fluent_names_are_names d p fits_d fits_p words = fluent_names_are d p fits_d fits_p words

pub action_names_are_names : ActionNamesAreNames
action_names_are_names d p fits_d fits_p words = action_names_are d p fits_d fits_p words

-- What is found in the files of a shelf in memory, and what an insertion into its map does to them.
use Rattle.std.proofs.Common.{◌≡◌, ℕ, Bool, true, false, cond, List, [], ◌∷◌, map, Option, None, Some, Vec, refl, sym, ap, ◌∙◌}
use Rattle.std.specs.Prelude.{String, string_bytes, string_cmp}
use Rattle.std.specs.Option.{option_map, option_copied}
use Rattle.std.specs.Ordering.{nat_cmp, eq_by_cmp}
use Rattle.std.specs.Cmp.{eq_by_cmp_equiv}
use Rattle.std.specs.Cmp.Lexicographic.{slice_cmp, nat_list_cmp_total}
use Rattle.std.specs.FinMap.{find, get, insert, get-from_entries, get-insert, same_map, slice_cmp-IsAntisymmetric, nat_cmp-IsAntisymmetric}
use Rattle.std.specs.Map.{lookup}
use Rattle.std.specs.BTreeMap.{BTreeMap, is_at, get_by_text, Updates}
use Rattle.std.specs.Str.{bytes_eq}
use Rattle.std.proofs.lemmas.Map.Text.{btree_map_updates_text, is_eq-slice_cmp}
use Rattle.std.specs.declared.alloc.Global.{Global}
use denote.Ref.{Bor}
use Rattle.plan_io.specs.MemShelf.{files_of}

abbrev Stored : Type 0
Stored = BTreeMap (String Global) (Vec ℕ Global)

option_map-cond : {A B : Type 0} (f : A → B) (b : Bool) (x : A) (o : Option A) → option_map f (cond b (Some x) o) ≡ cond b (Some (f x)) (option_map f o)
option_map-cond f true x o = refl
option_map-cond f false x o = refl

find_stored : (name : List ℕ) (es : List (String Global × Vec ℕ Global))
    → find (slice_cmp nat_cmp) name (map (λ e. (string_bytes e.0, e.1.items)) es)
    ≡ option_map (λ v. v.items) (lookup (is_at (λ k. slice_cmp nat_cmp name (string_bytes k))) es)
find_stored name [] = refl
find_stored name (e ∷ es) =
    ap (cond (eq_by_cmp (slice_cmp nat_cmp) name (string_bytes e.0)) (Some e.1.items)) (find_stored name es)
    ∙ sym (option_map-cond (λ v. v.items) (eq_by_cmp (slice_cmp nat_cmp) name (string_bytes e.0)) e.1 _)

-- the file under a name is the vector that the map has at that text
pub get-files_of : (stored : Stored) (name : List ℕ) → get (files_of stored) name ≡ option_map (λ v. v.items) (get_by_text stored name)
get-files_of stored name = get-from_entries nat_list_cmp_total _ name ∙ find_stored name stored.entries

-- the vector that a reference lends
pub option_map-copied : (found : Option (Bor (Vec ℕ Global))) → option_map (λ v. v.items) (option_copied found) ≡ option_map (λ v. v.now.items) found
option_map-copied None = refl
option_map-copied (Some v) = refl

same_name : (name other : List ℕ) → bytes_eq name other ≡ eq_by_cmp (slice_cmp nat_cmp) other name
same_name name other = sym (is_eq-slice_cmp name other) ∙ (eq_by_cmp_equiv nat_list_cmp_total).symm name other

-- an insertion into the map is an insertion into the files
pub files_of-insert : (old new : Stored) (name : String Global) (file : Vec ℕ Global) → Updates string_cmp old new name (Some file)
    → files_of new ≡ insert (files_of old) (string_bytes name) file.items
files_of-insert old new name file updates =
    same_map nat_list_cmp_total (slice_cmp-IsAntisymmetric nat_cmp-IsAntisymmetric) _ _ (λ other.
    get-files_of new other
    ∙ ap (option_map (λ v. v.items)) (btree_map_updates_text (string_bytes name) old new (Some file) updates other)
    ∙ option_map-cond (λ v. v.items) (bytes_eq (string_bytes name) other) file (get_by_text old other)
    ∙ ap (λ b. cond b (Some file.items) (option_map (λ v. v.items) (get_by_text old other))) (same_name (string_bytes name) other)
    ∙ ap (cond (eq_by_cmp (slice_cmp nat_cmp) other (string_bytes name)) (Some file.items)) (sym (get-files_of old other))
    ∙ sym (get-insert nat_list_cmp_total (files_of old) (string_bytes name) file.items other))

-- The forms that are read from what is written of a certificate.
use Rattle.std.proofs.Common.{◌≡◌, ℕ, suc, List, [], ◌∷◌, ◌++◌, length, codes, refl, sym, subst, append_assoc}
use Rattle.std.specs.List.{All, flat_map}
use Rattle.sexpr_text.specs.Rows.{Row, nil, word, group}
use Rattle.task_core.specs.Names.{Name, IsName}
use Rattle.plan_rules.specs.Plans.{IsCubeOf}
use Rattle.plan_rules.specs.Texts.{class_word, cube_text, in_parentheses, line_feed}
use Rattle.plan_rules.proofs.Pieces.{Stops, Reads, reads_none, reads_space, reads_word, reads_then, reads_group}
use Rattle.plan_rules.proofs.Printed.{class_is_word, cube_row, fixed, groups, reads_cube, reads_each, reads_word_then}
use Rattle.plan_certs.specs.Certificates.{CubeSet, PlainCertificate}
use Rattle.plan_certs.specs.Named.{AreSetsOf, IsSetOf}
use Rattle.plan_certs.specs.Texts.{certificate_text, next_cube_text, set_text}

-- where no piece goes on with a word, nor do all of them
stops_each : {X : Type 0} (f : X → List ℕ) → ((x : X) (rest : List ℕ) → Stops (f x ++ rest)) → (xs : List X) (rest : List ℕ) → Stops rest → Stops (flat_map f xs ++ rest)
stops_each f apart [] rest stops = stops
stops_each f apart (x ∷ xs) rest stops = subst Stops (sym (append_assoc (f x) (flat_map f xs) rest)) (apart x (flat_map f xs ++ rest))

-- the forms of a set, and of a certificate
abbrev pub set_row : List Name → CubeSet → Row
set_row fluents set = word (codes "set") (groups (cube_row fluents) set)

abbrev pub certificate_row : List Name → PlainCertificate → Row
certificate_row fluents certificate =
    word (codes "certificate") (word (class_word certificate.class) (groups (set_row fluents) certificate.sets))

set_shape : (z : List ℕ) → codes "  (set" ++ z ++ codes ")" ++ line_feed ≡ 32 ∷ 32 ∷ (in_parentheses (codes "set" ++ z) ++ 10 ∷ [])
set_shape z = simp append_assoc

reads_set : (fluents : List Name) (d : ℕ) → All IsName fluents → (set : CubeSet) → IsSetOf (length fluents) set → Reads (set_text fluents set) (suc (suc (suc (suc d)))) (group (set_row fluents set) nil)
reads_set fluents d names set is =
    let e = suc (suc (suc d)) in
    let z = flat_map (next_cube_text fluents) set in
    let cubes : Reads z e (groups (cube_row fluents) set) =
    reads_each (IsCubeOf (length fluents)) (next_cube_text fluents) (cube_row fluents) e set
    (λ cube of. reads_space 32 (cube_text fluents cube) e (group (cube_row fluents cube) nil) refl (reads_cube fluents d cube names of)) (λ _ _. refl) is in
    let inside : Reads (codes "set" ++ z) e (set_row fluents set) =
    reads_then (codes "set") z e (word (codes "set") nil) (groups (cube_row fluents) set) (stops_each (next_cube_text fluents) (λ _ _. refl) set)
    (reads_word (codes "set") e (fixed 115 (codes "et") refl)) cubes in
    let whole : Reads (in_parentheses (codes "set" ++ z) ++ 10 ∷ []) (suc e) (group (set_row fluents set) nil) =
    reads_then (in_parentheses (codes "set" ++ z)) (10 ∷ []) (suc e) (group (set_row fluents set) nil) nil (λ _ _. refl)
    (reads_group (codes "set" ++ z) e (set_row fluents set) inside)
    (reads_space 10 [] (suc e) nil refl (reads_none (suc e))) in
    subst (λ t. Reads t (suc e) (group (set_row fluents set) nil)) (sym (set_shape z))
    (reads_space 32 (32 ∷ (in_parentheses (codes "set" ++ z) ++ 10 ∷ [])) (suc e) (group (set_row fluents set) nil) refl
    (reads_space 32 (in_parentheses (codes "set" ++ z) ++ 10 ∷ []) (suc e) (group (set_row fluents set) nil) refl whole))

certificate_shape : (w z : List ℕ) → codes "(certificate " ++ w ++ line_feed ++ z ++ codes ")" ++ line_feed ≡ in_parentheses (codes "certificate" ++ (32 ∷ (w ++ (10 ∷ z)))) ++ 10 ∷ []
certificate_shape w z = simp append_assoc

pub reads_certificate : (fluents : List Name) (certificate : PlainCertificate) → All IsName fluents → AreSetsOf (length fluents) certificate.sets → Reads (certificate_text fluents certificate) 5 (group (certificate_row fluents certificate) nil)
reads_certificate fluents certificate names all =
    let w = class_word certificate.class in
    let z = flat_map (set_text fluents) certificate.sets in
    let lines = groups (set_row fluents) certificate.sets in
    let row = certificate_row fluents certificate in
    let inner = codes "certificate" ++ (32 ∷ (w ++ (10 ∷ z))) in
    let after_class : Reads (w ++ (10 ∷ z)) 4 (word w lines) =
    reads_then w (10 ∷ z) 4 (word w nil) lines (λ _ _. refl) (reads_word w 4 (class_is_word certificate.class))
    (reads_space 10 z 4 lines refl
    (reads_each (IsSetOf (length fluents)) (set_text fluents) (set_row fluents) 4 certificate.sets
    (λ set is. reads_set fluents 0 names set is) (λ _ _. refl) all)) in
    let inside : Reads inner 4 row =
    reads_word_then (codes "certificate") (w ++ (10 ∷ z)) 4 (word w lines) (fixed 99 (codes "ertificate") refl) after_class in
    subst (λ t. Reads t 5 (group row nil)) (sym (certificate_shape w z))
    (reads_then (in_parentheses inner) (10 ∷ []) 5 (group row nil) nil (λ _ _. refl)
    (reads_group inner 4 row inside)
    (reads_space 10 [] 5 nil refl (reads_none 5)))

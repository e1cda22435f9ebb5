-- The text of a certificate: what is written, byte for byte.
use Rattle.std.specs.Prelude.{ℕ, List, ◌++◌, codes}
use Rattle.std.specs.List.{flat_map}
use Rattle.task_core.specs.Cubes.{Cube}
use Rattle.task_core.specs.Names.{Name}
use Rattle.plan_rules.specs.Texts.{class_word, cube_text, line_feed}
use Rattle.plan_certs.specs.Certificates.{CubeSet, PlainCertificate}

-- a cube after a space, as ((at a) (not (up)))
abbrev pub next_cube_text : List Name → Cube → List ℕ
next_cube_text fluents cube = codes " " ++ cube_text fluents cube

-- one line, as: two spaces, (set ((at a) (not (up))) ((at b)))
abbrev pub set_text : List Name → CubeSet → List ℕ
set_text fluents set =
    codes "  (set" ++ flat_map (next_cube_text fluents) set ++ codes ")" ++ line_feed

-- the whole text: a first line with the class, a line a set, and a closing line
abbrev pub certificate_text : List Name → PlainCertificate → List ℕ
certificate_text fluents certificate =
    codes "(certificate " ++ class_word certificate.class ++ line_feed
    ++ flat_map (set_text fluents) certificate.sets ++ codes ")" ++ line_feed

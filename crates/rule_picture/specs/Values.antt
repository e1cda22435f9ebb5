-- Private: what the code's own types stand for.
use Rattle.std.specs.Prelude.{List, Vec, map, ℕ}
use Rattle.std.specs.declared.alloc.Global.{Global}
use Rattle.rule_picture.specs.Rules.{SeenRule}
use Rattle.rule_picture.specs.declared.rules.Seen.{Seen}

abbrev pub seen_value : Seen → SeenRule
seen_value rule = record {
  context = rule.context;
  cube = rule.cube.now;
  action = rule.action.0;
}

abbrev pub seen_values : List Seen → List SeenRule
seen_values = map seen_value

-- the bytes of lines
abbrev pub bytes_of : List (Vec ℕ Global) → List (List ℕ)
bytes_of = map (λ (line : Vec ℕ Global). line.items)

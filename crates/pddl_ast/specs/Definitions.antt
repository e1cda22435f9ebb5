-- The list `define (domain NAME) ..` or `define (problem NAME) ..` that a text is read from.
use Rattle.std.specs.Prelude.{ℕ, List, Option, Some, None}
use Rattle.sexpr_text.specs.declared.faults.FaultKind.TheVariants.{NoDefine}
use Rattle.sexpr_text.specs.Forest.{Forest, nothing, word, group}
use Rattle.sexpr_text.specs.Flaws.{Flaw}

-- the name in `domain NAME` or `problem NAME`
abbrev pub title_of : Forest → Option (List ℕ)
title_of nothing = None
title_of (group span parts rest) = None
title_of (word span kind nothing) = None
title_of (word span kind (group s parts rest)) = None
title_of (word span kind (word s name rest)) = Some name

-- where a text has no such list, that is its fault, at its very beginning
abbrev pub no_define : Flaw
no_define =
    record {
      offset = 0;
      fault = record { kind = NoDefine; place = record { line = 1; column = 1 } };
    }

-- Numbers and lists as JSON.
use Rattle.std.specs.Prelude.{ℕ, List, map}
use Rattle.serde_json.specs.Data.{Data, array, number, unsigned}
use Rattle.serde_json.specs.View.{items_of}

abbrev pub count_data : ℕ → Data
count_data count = number (unsigned count)

-- an array of what each element is
abbrev pub list_data : {X : Type 0} → (X → Data) → List X → Data
list_data part xs = array (items_of (map part xs))

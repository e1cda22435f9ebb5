-- The command words: which commands there are, and which words say them.
use Rattle.std.specs.Prelude.{◌≡◌, ℕ, ◌≤◌, ◌⊎◌, ⊤, Bool, true, false, List, [], ◌∷◌, ◌++◌, codes}
use Rattle.std.specs.Prelude.{decimal}
use Rattle.plan_rules.specs.Texts.{class_word}
use Rattle.task_core.specs.declared.classes.Class.{Class}

-- a text, as its bytes
abbrev pub Bytes : Type 0
Bytes = List ℕ

-- the options of `plan`: how many nodes the table of diagrams may hold
pub record PlanOptions : Type 0 where
  pub nodes : ℕ

-- of what kind a plan is to be: a table of a class, for a goal by reachability; or one with
-- contexts, for a goal in computation tree logic
pub data PlanKind : Type 0 where
  of_class : Class → PlanKind
  with_contexts : PlanKind

abbrev pub kind_word : PlanKind → Bytes
kind_word (of_class class) = class_word class
kind_word with_contexts = codes "ctl"

-- what `plan` is asked: a plan of this kind, for the domain and the problem in the files of these
-- names, with these options; and whether, where there is none, the certificate of that is wanted, too
pub record PlanWords : Type 0 where
  pub kind : PlanKind
  pub domain : Bytes
  pub problem : Bytes
  pub options : PlanOptions
  pub certified : Bool

-- what `ground` is asked: a listing of the domain and the problem in the files of these names
pub record GroundWords : Type 0 where
  pub domain : Bytes
  pub problem : Bytes

-- what `check` is asked: whether the plan is one of this kind, for the domain and the problem, in
-- the files of these names
pub record CheckWords : Type 0 where
  pub kind : PlanKind
  pub domain : Bytes
  pub problem : Bytes
  pub plan : Bytes

-- what `refute` is asked: the verdict on the certificate that there is no plan, for the domain and the
-- problem, in the files of these names, with the options of `plan`
pub record RefuteWords : Type 0 where
  pub domain : Bytes
  pub problem : Bytes
  pub certificate : Bytes
  pub options : PlanOptions

-- what `replay` is asked: the run of the plan under the record, for the domain and the problem, in
-- the files of these names
pub record ReplayWords : Type 0 where
  pub domain : Bytes
  pub problem : Bytes
  pub plan : Bytes
  pub recorded : Bytes

-- the classes of problems that are made from a number: a corridor of rooms, and a road on which tyres
-- go flat
pub data DrillKind : Type 0 where
  corridors : DrillKind
  roads : DrillKind

abbrev pub drill_word : DrillKind → Bytes
drill_word corridors = codes "corridor"
drill_word roads = codes "tyres"

-- what `drill` is asked: to make the problem of this class of this size, and to plan for it
pub record DrillWords : Type 0 where
  pub kind : DrillKind
  pub size : ℕ

pub data Command : Type 0 where
  plan : PlanWords → Command
  ground : GroundWords → Command
  check : CheckWords → Command
  replay : ReplayWords → Command
  drill : DrillWords → Command
  refute : RefuteWords → Command

-- the most nodes that may be asked for, and how many there may be where nothing is said of them
abbrev pub most_nodes : ℕ
most_nodes = 16777216

abbrev pub default_nodes : ℕ
default_nodes = 1048576

-- so many nodes may be asked for
abbrev pub IsNodeLimit : ℕ → Type 0
IsNodeLimit nodes = (1 ≤ nodes) × (nodes ≤ most_nodes)

-- a problem of this size may be asked for
abbrev pub IsDrillSize : ℕ → Type 0
IsDrillSize size = (2 ≤ size) × (size ≤ 120)

-- nothing, or `--nodes N`, N in decimal digits without sign and without a leading zero
abbrev pub SaysOptions : List Bytes → PlanOptions → Type 0
SaysOptions words options =
    ((words ≡ []) × (options.nodes ≡ default_nodes))
    ⊎ (words ≡ codes "--nodes" ∷ decimal options.nodes ∷ [])

-- the word by which a certificate is asked for, or none
abbrev pub cert_words : Bool → List Bytes
cert_words true = codes "--cert" ∷ []
cert_words false = []

-- a certificate can be asked for where a plan of a class is; of plans with contexts there is none
abbrev pub MayBeCertified : PlanKind → Bool → Type 0
MayBeCertified (of_class class) certified = ⊤
MayBeCertified with_contexts certified = certified ≡ false

-- `plan CLASS DOMAIN PROBLEM`, with or without `--cert` after it, or `plan ctl DOMAIN PROBLEM`; and
-- then the options
pub record SaysPlan (words : List Bytes) (asked : PlanWords) : Type 0 where
  pub room : IsNodeLimit asked.options.nodes
  pub rest : List Bytes
  pub written : words ≡ codes "plan" ∷ kind_word asked.kind ∷ asked.domain ∷ asked.problem
      ∷ (cert_words asked.certified ++ rest)
  pub options : SaysOptions rest asked.options
  pub for_class : MayBeCertified asked.kind asked.certified

-- `ground DOMAIN PROBLEM`
abbrev pub SaysGround : List Bytes → GroundWords → Type 0
SaysGround words asked = words ≡ codes "ground" ∷ asked.domain ∷ asked.problem ∷ []

-- `check CLASS DOMAIN PROBLEM PLAN`, or `check ctl DOMAIN PROBLEM PLAN`
abbrev pub SaysCheck : List Bytes → CheckWords → Type 0
SaysCheck words asked =
    words ≡ codes "check" ∷ kind_word asked.kind ∷ asked.domain ∷ asked.problem ∷ asked.plan ∷ []

-- `replay DOMAIN PROBLEM PLAN RECORD`
abbrev pub SaysReplay : List Bytes → ReplayWords → Type 0
SaysReplay words asked =
    words ≡ codes "replay" ∷ asked.domain ∷ asked.problem ∷ asked.plan ∷ asked.recorded ∷ []

-- `drill corridor N` or `drill tyres N`, N in decimal digits without sign and without a leading zero
pub record SaysDrill (words : List Bytes) (asked : DrillWords) : Type 0 where
  pub room : IsDrillSize asked.size
  pub written : words ≡ codes "drill" ∷ drill_word asked.kind ∷ decimal asked.size ∷ []

-- `refute DOMAIN PROBLEM CERTIFICATE`, and then the options
pub record SaysRefute (words : List Bytes) (asked : RefuteWords) : Type 0 where
  pub room : IsNodeLimit asked.options.nodes
  pub rest : List Bytes
  pub written : words
      ≡ codes "refute" ∷ asked.domain ∷ asked.problem ∷ asked.certificate ∷ rest
  pub options : SaysOptions rest asked.options

-- the words say the command. Fixed words are compared exactly, with case, and names may be any
-- words
abbrev pub Says : List Bytes → Command → Type 0
Says words (plan asked) = SaysPlan words asked
Says words (ground asked) = SaysGround words asked
Says words (check asked) = SaysCheck words asked
Says words (replay asked) = SaysReplay words asked
Says words (drill asked) = SaysDrill words asked
Says words (refute asked) = SaysRefute words asked

-- the words say no command
abbrev pub SayNothing : List Bytes → Type 0
SayNothing words = (command : Command) → Says words command → ⊥

-- the files that a command names, in the order in which it reads them
abbrev pub files_of : Command → List Bytes
files_of (plan asked) = asked.domain ∷ asked.problem ∷ []
files_of (ground asked) = asked.domain ∷ asked.problem ∷ []
files_of (check asked) = asked.domain ∷ asked.problem ∷ asked.plan ∷ []
files_of (replay asked) = asked.domain ∷ asked.problem ∷ asked.plan ∷ asked.recorded ∷ []
files_of (drill asked) = []
files_of (refute asked) = asked.domain ∷ asked.problem ∷ asked.certificate ∷ []

-- Words say one command at most.
use Rattle.std.proofs.Common.{◌≡◌, ℕ, List, inl, inr, refl, subst, sym, ◌∙◌, ap, arith, get_or, drop, length, [], ◌∷◌, ◌++◌, codes, Bool, true, false, decimal}
use Rattle.std.specs.Prelude.{◌==◌}
use Rattle.std.proofs.lemmas.Fmt.{decimal_injective}
use Rattle.task_core.specs.declared.classes.Class.{Class}
use Rattle.task_core.specs.declared.classes.Class.TheVariants.{Weak, Strong, Cyclic}
use Rattle.command_base.specs.Words.{Bytes, Command, PlanKind, kind_word, of_class, with_contexts, plan, ground, check, replay, drill, PlanOptions, PlanWords, GroundWords, CheckWords, ReplayWords, DrillWords, DrillKind, corridors, roads, drill_word, IsNodeLimit, Says, SaysOptions, SaysPlan, SaysGround, SaysCheck, SaysReplay, SaysDrill, RefuteWords, refute, SaysRefute, cert_words}
use Rattle.plan_rules.specs.Texts.{class_word}

-- the words of the classes differ
same_class : (c d : Class) → class_word c ≡ class_word d → c ≡ d
same_class Weak Weak same = refl
same_class Weak Strong same = absurd (omega (arith, ap (λ (w : Bytes). get_or w 0 0) same))
same_class Weak Cyclic same = absurd (omega (arith, ap (λ (w : Bytes). get_or w 0 0) same))
same_class Strong Weak same = absurd (omega (arith, ap (λ (w : Bytes). get_or w 0 0) same))
same_class Strong Strong same = refl
same_class Strong Cyclic same = absurd (omega (arith, ap (λ (w : Bytes). get_or w 0 0) same))
same_class Cyclic Weak same = absurd (omega (arith, ap (λ (w : Bytes). get_or w 0 0) same))
same_class Cyclic Strong same = absurd (omega (arith, ap (λ (w : Bytes). get_or w 0 0) same))
same_class Cyclic Cyclic same = refl

-- and so do those of the kinds
pub same_kind : (k l : PlanKind) → kind_word k ≡ kind_word l → k ≡ l
same_kind (of_class c) (of_class d) same = ap of_class (same_class c d same)
same_kind (of_class Weak) with_contexts same = absurd (omega (arith, ap (λ (w : Bytes). get_or w 0 0) same))
same_kind (of_class Strong) with_contexts same = absurd (omega (arith, ap (λ (w : Bytes). get_or w 0 0) same))
same_kind (of_class Cyclic) with_contexts same = absurd (omega (arith, ap (λ (w : Bytes). get_or w 1 0) same))
same_kind with_contexts (of_class Weak) same = absurd (omega (arith, ap (λ (w : Bytes). get_or w 0 0) same))
same_kind with_contexts (of_class Strong) same = absurd (omega (arith, ap (λ (w : Bytes). get_or w 0 0) same))
same_kind with_contexts (of_class Cyclic) same = absurd (omega (arith, ap (λ (w : Bytes). get_or w 1 0) same))
same_kind with_contexts with_contexts same = refl

-- the words say one number of nodes at most
same_options : (words : List Bytes) (v w : PlanOptions) → IsNodeLimit v.nodes → IsNodeLimit w.nodes → SaysOptions words v → SaysOptions words w → v ≡ w
same_options words v w room room' (inl (none, is)) (inl (none', is')) = let nodes = is ∙ sym is' in λ i. record { nodes = nodes i }
same_options words v w room room' (inl (none, is)) (inr some) = absurd (omega (arith, ap (length {A = Bytes}) (sym none ∙ some)))
same_options words v w room room' (inr some) (inl (none, is)) = absurd (omega (arith, ap (length {A = Bytes}) (sym none ∙ some)))
same_options words v w room room' (inr some) (inr some') =
    let numerals : decimal v.nodes ≡ decimal w.nodes = ap (λ (ws : List Bytes). get_or ws 1 []) (sym some ∙ some') in
    let nodes = decimal_injective v.nodes w.nodes (omega (arith, room.1)) (omega (arith, room'.1)) numerals in
    λ i. record { nodes = nodes i }

-- what comes after the files: the word for a certificate, or none, and then the options
not_option : (rest other : List Bytes) (w : PlanOptions) → SaysOptions other w → codes "--cert" ∷ rest ≡ other → ⊥
not_option rest other w (inl (none, is)) same = omega (arith, ap (length {A = Bytes}) (same ∙ none))
not_option rest other w (inr some) same = omega (arith, ap (λ (ws : List Bytes). get_or (get_or ws 0 []) 2 0) (same ∙ some))

same_ends : (b c : Bool) (rest other : List Bytes) (v w : PlanOptions) → SaysOptions rest v → SaysOptions other w → cert_words b ++ rest ≡ cert_words c ++ other → (b ≡ c) × (rest ≡ other)
same_ends true true rest other v w says says' same = (refl, ap (λ (ws : List Bytes). drop 1 ws) same)
same_ends false false rest other v w says says' same = (refl, same)
same_ends true false rest other v w says says' same = absurd (not_option rest other w says' same)
same_ends false true rest other v w says says' same = absurd (not_option other rest v says (sym same))

same_plan : (words : List Bytes) (v w : PlanWords) → SaysPlan words v → SaysPlan words w → v ≡ w
same_plan words v w says says' =
    let both = sym says.written ∙ says'.written in
    let kinds = same_kind v.kind w.kind (ap (λ (ws : List Bytes). get_or ws 1 []) both) in
    let domains : v.domain ≡ w.domain = ap (λ (ws : List Bytes). get_or ws 2 []) both in
    let problems : v.problem ≡ w.problem = ap (λ (ws : List Bytes). get_or ws 3 []) both in
    let ends : cert_words v.certified ++ says.rest ≡ cert_words w.certified ++ says'.rest = ap (λ (ws : List Bytes). drop 4 ws) both in
    let parts = same_ends v.certified w.certified says.rest says'.rest v.options w.options says.options says'.options ends in
    let certified : v.certified ≡ w.certified = parts.0 in
    let options = same_options says'.rest v.options w.options says.room says'.room (subst (λ (ws : List Bytes). SaysOptions ws v.options) parts.1 says.options) says'.options in
    λ i. record { kind = kinds i; domain = domains i; problem = problems i; options = options i; certified = certified i }

same_ground : (words : List Bytes) (v w : GroundWords) → SaysGround words v → SaysGround words w → v ≡ w
same_ground words v w says says' =
    let both = sym says ∙ says' in
    let domains : v.domain ≡ w.domain = ap (λ (ws : List Bytes). get_or ws 1 []) both in
    let problems : v.problem ≡ w.problem = ap (λ (ws : List Bytes). get_or ws 2 []) both in
    λ i. record { domain = domains i; problem = problems i }

same_check : (words : List Bytes) (v w : CheckWords) → SaysCheck words v → SaysCheck words w → v ≡ w
same_check words v w says says' =
    let both = sym says ∙ says' in
    let kinds = same_kind v.kind w.kind (ap (λ (ws : List Bytes). get_or ws 1 []) both) in
    let domains : v.domain ≡ w.domain = ap (λ (ws : List Bytes). get_or ws 2 []) both in
    let problems : v.problem ≡ w.problem = ap (λ (ws : List Bytes). get_or ws 3 []) both in
    let plans : v.plan ≡ w.plan = ap (λ (ws : List Bytes). get_or ws 4 []) both in
    λ i. record { kind = kinds i; domain = domains i; problem = problems i; plan = plans i }

same_replay : (words : List Bytes) (v w : ReplayWords) → SaysReplay words v → SaysReplay words w → v ≡ w
same_replay words v w says says' =
    let both = sym says ∙ says' in
    let domains : v.domain ≡ w.domain = ap (λ (ws : List Bytes). get_or ws 1 []) both in
    let problems : v.problem ≡ w.problem = ap (λ (ws : List Bytes). get_or ws 2 []) both in
    let plans : v.plan ≡ w.plan = ap (λ (ws : List Bytes). get_or ws 3 []) both in
    let records : v.recorded ≡ w.recorded = ap (λ (ws : List Bytes). get_or ws 4 []) both in
    λ i. record { domain = domains i; problem = problems i; plan = plans i; recorded = records i }

same_problems : (k l : DrillKind) → drill_word k ≡ drill_word l → k ≡ l
same_problems corridors corridors same = refl
same_problems corridors roads same = absurd (omega (arith, ap (λ (w : Bytes). get_or w 0 0) same))
same_problems roads corridors same = absurd (omega (arith, ap (λ (w : Bytes). get_or w 0 0) same))
same_problems roads roads same = refl

same_drill : (words : List Bytes) (v w : DrillWords) → SaysDrill words v → SaysDrill words w → v ≡ w
same_drill words v w says says' =
    let both = sym says.written ∙ says'.written in
    let kinds = same_problems v.kind w.kind (ap (λ (ws : List Bytes). get_or ws 1 []) both) in
    let numerals : decimal v.size ≡ decimal w.size = ap (λ (ws : List Bytes). get_or ws 2 []) both in
    let sizes = decimal_injective v.size w.size (omega (arith, says.room.1)) (omega (arith, says'.room.1)) numerals in
    λ i. record { kind = kinds i; size = sizes i }

same_refute : (words : List Bytes) (v w : RefuteWords) → SaysRefute words v → SaysRefute words w → v ≡ w
same_refute words v w says says' =
    let both = sym says.written ∙ says'.written in
    let domains : v.domain ≡ w.domain = ap (λ (ws : List Bytes). get_or ws 1 []) both in
    let problems : v.problem ≡ w.problem = ap (λ (ws : List Bytes). get_or ws 2 []) both in
    let certificates : v.certificate ≡ w.certificate = ap (λ (ws : List Bytes). get_or ws 3 []) both in
    let rests : says.rest ≡ says'.rest = ap (λ (ws : List Bytes). drop 4 ws) both in
    let options = same_options says'.rest v.options w.options says.room says'.room (subst (λ (ws : List Bytes). SaysOptions ws v.options) rests says.options) says'.options in
    λ i. record { domain = domains i; problem = problems i; certificate = certificates i; options = options i }

-- the third letter of the first word
abbrev third_letter : List Bytes → ℕ
third_letter words = get_or (get_or words 0 []) 2 0

-- a form of the command: what it is asked, the third letter of its first word, and that words say it
-- of one thing that is asked at most
record Form : Type 1 where
  Asked : Type 0
  made : Asked → Command
  letter : ℕ
  begins : (words : List Bytes) (asked : Asked) → Says words (made asked) → third_letter words ≡ letter
  same : (words : List Bytes) (v w : Asked) → Says words (made v) → Says words (made w) → v ≡ w

abbrev planning : Form
planning = record { Asked = PlanWords; made = plan; letter = 97; begins = λ words asked says. ap third_letter says.written; same = same_plan }

abbrev grounding : Form
grounding = record { Asked = GroundWords; made = ground; letter = 111; begins = λ words asked says. ap third_letter says; same = same_ground }

abbrev checking : Form
checking = record { Asked = CheckWords; made = check; letter = 101; begins = λ words asked says. ap third_letter says; same = same_check }

abbrev replaying : Form
replaying = record { Asked = ReplayWords; made = replay; letter = 112; begins = λ words asked says. ap third_letter says; same = same_replay }

abbrev drilling : Form
drilling = record { Asked = DrillWords; made = drill; letter = 105; begins = λ words asked says. ap third_letter says.written; same = same_drill }

abbrev refuting : Form
refuting = record { Asked = RefuteWords; made = refute; letter = 102; begins = λ words asked says. ap third_letter says.written; same = same_refute }

-- the form that a letter stands for
abbrev choose : Bool → Form → Form → Form
choose true f g = f
choose false f g = g

abbrev form_at : ℕ → Form
form_at n =
    choose (n == 97) planning (choose (n == 111) grounding (choose (n == 101) checking (choose (n == 112) replaying (choose (n == 105) drilling refuting))))

-- a command of a form, for which its letter stands
record IsOf (form : Form) (command : Command) : Type 1 where
  asked : form.Asked
  is : form.made asked ≡ command
  stands : form_at form.letter ≡ form

of_a_form : (command : Command) → (form : Form) × IsOf form command
of_a_form (plan asked) = (planning, record { asked = asked; is = refl; stands = refl })
of_a_form (ground asked) = (grounding, record { asked = asked; is = refl; stands = refl })
of_a_form (check asked) = (checking, record { asked = asked; is = refl; stands = refl })
of_a_form (replay asked) = (replaying, record { asked = asked; is = refl; stands = refl })
of_a_form (drill asked) = (drilling, record { asked = asked; is = refl; stands = refl })
of_a_form (refute asked) = (refuting, record { asked = asked; is = refl; stands = refl })

-- words that say two commands of one form say one command
one_of_form : (words : List Bytes) (f g : Form) → f ≡ g → (v : f.Asked) (w : g.Asked) → Says words (f.made v) → Says words (g.made w) → f.made v ≡ g.made w
one_of_form words f g forms v w says says' =
    subst (λ (h : Form). (u : h.Asked) → Says words (h.made u) → f.made v ≡ h.made u) forms (λ u other. ap f.made (f.same words v u says other)) w says'

-- the words say one command at most: the first decides its form
pub one_command : (words : List Bytes) (c d : Command) → Says words c → Says words d → c ≡ d
one_command words c d says says' =
    let f = (of_a_form c).0 in
    let g = (of_a_form d).0 in
    let one = (of_a_form c).1 in
    let other = (of_a_form d).1 in
    let said = subst (Says words) (sym one.is) says in
    let said' = subst (Says words) (sym other.is) says' in
    let forms : f ≡ g = sym one.stands ∙ (ap form_at (sym (f.begins words one.asked said) ∙ g.begins words other.asked said') ∙ other.stands) in
    sym one.is ∙ (one_of_form words f g forms one.asked other.asked said said' ∙ other.is)

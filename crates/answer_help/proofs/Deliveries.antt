-- What is written with help below it.
use Rattle.std.proofs.Common.{◌≡◌, ◌≢◌, ◌+◌, ◌≤◌, ◌⊎◌, ℕ, Bool, false, true, List, [], ◌++◌, Option, None, Some, length, take, refl, subst, sym, ap, ◌∙◌, inl, inr, arith, append_assoc, append-nil, length-append}
use Rattle.std.proofs.lemmas.List.{take-append-le}
use Rattle.std.specs.Io.KnownBytes.{append_known}
use Rattle.std.proofs.Math.Seq.{take-append-add}
use Rattle.sexpr_text.specs.declared.faults.InputFault.{InputFault}
use Rattle.plan_io.specs.Counts.{Rose}
use Rattle.plan_io.specs.Held.{Gives, Held}
use Rattle.command_base.specs.Answers.{Answer, affirmed, denied, refused, Refusal, no_command, text_fault, over_limit, read_fault, no_memory, full, stray_outcome, unexecutable, is_shown, status_of, text_of}
use Rattle.command_base.specs.Delivery.{IsDelivered, Seen, Takes, TakesPart}
use Rattle.command_base.specs.Values.{refusal_of}
use Rattle.command_base.specs.Words.{Bytes}
use Rattle.command_base.specs.declared.answers.Refusal.{Refusal as CodeRefusal}
use Rattle.command_base.specs.declared.answers.Refusal.TheVariants.{NoCommand, TextFault, OverLimit, ReadFault, NoMemory, Full, StrayOutcome, Unexecutable}
use Rattle.answer_help.specs.Helped.{IsHelpFor, IsHelpedDelivery, IsRefusalHelp, IsPut}

append_known-append : (known : Option (List ℕ)) (first second : List ℕ) → append_known (append_known known first) second ≡ append_known known (first ++ second)
append_known-append None first second = refl
append_known-append (Some xs) first second = ap (λ (l : List ℕ). Some l) (append_assoc xs first second)

-- a text was written, and then a further one
pub takes_more : (first second : List ℕ) (s between after : Seen) → Takes first s between → Takes second between after → Takes (first ++ second) s after
takes_more first second s between after one two = record {
  written = two.written ∙ ap (λ known. append_known known second) one.written ∙ append_known-append s.written first second;
  quiet = two.quiet ∙ one.quiet;
}

-- a part of a text is a part of one that goes on
pub part_more : (text rest : List ℕ) (s after : Seen) → TakesPart text s after → TakesPart (text ++ rest) s after
part_more text rest s after part =
    let short = part.short in
    let within : part.taken ≤ length text = omega (arith, short) in record {
      fault = part.fault;
      taken = part.taken;
      short = omega (arith, short, length-append text rest);
      written = part.written ∙ ap (append_known s.written) (sym (take-append-le part.taken text rest within));
    }

-- a text was written, and then a part of a further one
pub part_after : (first second : List ℕ) (s between after : Seen) → Takes first s between → TakesPart second between after → TakesPart (first ++ second) s after
part_after first second s between after one part =
    let short = part.short in record {
      fault = subst (λ (n : ℕ). Rose n after.faults) one.quiet part.fault;
      taken = length first + part.taken;
      short = omega (arith, short, length-append first second);
      written =
          part.written ∙ ap (λ known. append_known known (take part.taken second)) one.written ∙ append_known-append s.written first (take part.taken second)
          ∙ ap (append_known s.written) (sym (take-append-add first second part.taken));
    }

-- what was put of a text, and then of a further one
pub put_stopped : (first second : List ℕ) (s after : Seen) (r : Bool) → r ≡ false → IsPut first s after r → IsPut (first ++ second) s after false
put_stopped first second s after r stopped put = part_more first second s after (subst (IsPut first s after) stopped put)

put_next : (first second : List ℕ) (s between after : Seen) (r : Bool) → Takes first s between → IsPut second between after r → IsPut (first ++ second) s after r
put_next first second s between after true one put = takes_more first second s between after one put
put_next first second s between after false one put = part_after first second s between after one put

pub put_went : (first second : List ℕ) (s between after : Seen) (r t : Bool) → r ≡ true → IsPut first s between r → IsPut second between after t → IsPut (first ++ second) s after t
put_went first second s between after r t went put next = put_next first second s between after t (subst (IsPut first s between) went put) next

-- a refusal was written with its help, or a part of that
pub refused_whole : (help : Bytes) (a : Answer) (text : Bytes) (out err err' : Seen) (status : ℕ) (r : Bool) → text ≡ text_of a ++ help → is_shown a ≡ false → status ≡ status_of a → r ≡ true
    → IsPut text err err' r → IsHelpedDelivery help a out out err err' status
refused_whole help a text out err err' status r is unshown code went put =
    let errors : Takes text err err' = subst (IsPut text err err') went put in
    inl (code, inr (record { unshown = unshown; output = refl; errors = subst (λ (t : Bytes). Takes t err err') is errors }))

pub refused_part : (help : Bytes) (a : Answer) (text : Bytes) (out err err' : Seen) (r : Bool) → text ≡ text_of a ++ help → is_shown a ≡ false → r ≡ false
    → IsPut text err err' r → IsHelpedDelivery help a out out err err' 7
refused_part help a text out err err' r is unshown stopped put =
    let errors : TakesPart text err err' = subst (IsPut text err err') stopped put in
    inr (refl, inr (record { unshown = unshown; output = refl; errors = subst (λ (t : Bytes). TakesPart t err err') is errors }))

-- the help for an answer that was given without any
pub helped_given : (held : Bytes → Held) (a given : Answer) → IsHelpFor held a [] → (given ≡ a) ⊎ ((given ≡ refused no_memory) × (a ≢ refused no_command))
    → IsHelpFor held given []
helped_given held a given none (inl is) = subst (λ (b : Answer). IsHelpFor held b []) (sym is) none
helped_given held a given none (inr (is, said)) = subst (λ (b : Answer). IsHelpFor held b []) (sym is) refl

pub not_command : (name : Bytes) (fault : InputFault) → refused (text_fault name fault) ≢ refused no_command
not_command name fault same = cc same

-- an answer without help is delivered as in every program
pub helped_plain : (a : Answer) (out out' err err' : Seen) (status : ℕ) → IsDelivered a out out' err err' status → IsHelpedDelivery [] a out out' err err' status
helped_plain a out out' err err' status (inl (code, inl shows)) = inl (code, inl shows)
helped_plain a out out' err err' status (inl (code, inr refuses)) =
    inl (code, inr (record { unshown = refuses.unshown; output = refuses.output; errors = subst (λ (t : Bytes). Takes t err err') (sym (append-nil (text_of a))) refuses.errors }))
helped_plain a out out' err err' status (inr (code, inl cut)) = inr (code, inl cut)
helped_plain a out out' err err' status (inr (code, inr cut)) =
    inr (code, inr (record { unshown = cut.unshown; output = cut.output; errors = subst (λ (t : Bytes). TakesPart t err err') (sym (append-nil (text_of a))) cut.errors }))

-- an answer that is shown is delivered as in every program
pub shown_plain : (help : Bytes) (a : Answer) (out out' err err' : Seen) (status : ℕ) → is_shown a ≡ true → IsHelpedDelivery help a out out' err err' status → IsDelivered a out out' err err' status
shown_plain help a out out' err err' status shown (inl (code, inl shows)) = inl (code, inl shows)
shown_plain help a out out' err err' status shown (inl (code, inr refuses)) = absurd (cc (sym shown ∙ refuses.unshown))
shown_plain help a out out' err err' status shown (inr (code, inl cut)) = inr (code, inl cut)
shown_plain help a out out' err err' status shown (inr (code, inr cut)) = absurd (cc (sym shown ∙ cut.unshown))

-- the status is that of the answer, but where something could not be written
pub helped_status : (help : Bytes) (a : Answer) (out out' err err' : Seen) (status : ℕ) → IsHelpedDelivery help a out out' err err' status → (status ≡ 7 → ⊥) → status ≡ status_of a
helped_status help a out out' err err' status (inl (code, way)) other = code
helped_status help a out out' err err' status (inr (code, way)) other = absurd (other code)

-- there is no help for a refusal of another kind
pub no_help : (held : Bytes → Held) (r : CodeRefusal) → ((file : _) (fault : _) → r ≡ TextFault file fault → ⊥)
    → IsRefusalHelp held (refusal_of r) []
no_help held NoCommand text = refl
no_help held (TextFault file fault) text = absurd (text file fault refl)
no_help held (OverLimit limit) text = refl
no_help held (ReadFault file) text = refl
no_help held NoMemory text = refl
no_help held (Full nodes) text = refl
no_help held (StrayOutcome step word outcomes) text = refl
no_help held (Unexecutable step) text = refl

-- what is held stays, so help stays help
help_as_refusal : (held held' : Bytes → Held) (r : Refusal) (help : Bytes) → ((file : Bytes) → held' file ≡ held file) → IsRefusalHelp held' r help → IsRefusalHelp held r help
help_as_refusal held held' no_command help same is = is
help_as_refusal held held' (text_fault name fault) help same is = (is.0, subst (λ (h : Held). Gives h is.0) (same name) is.1, is.2)
help_as_refusal held held' (over_limit name) help same is = is
help_as_refusal held held' (read_fault name) help same is = is
help_as_refusal held held' no_memory help same is = is
help_as_refusal held held' (full nodes) help same is = is
help_as_refusal held held' (stray_outcome step word outcomes) help same is = is
help_as_refusal held held' (unexecutable step) help same is = is

pub help_as : (held held' : Bytes → Held) (a : Answer) (help : Bytes) → ((file : Bytes) → held' file ≡ held file) → IsHelpFor held' a help → IsHelpFor held a help
help_as held held' (affirmed text) help same is = is
help_as held held' (denied text) help same is = is
help_as held held' (refused r) help same is = help_as_refusal held held' r help same is

-- an answer about a fault, or want of memory in its place
pub fault_same : (a given : Answer) (r : Refusal) (name : Bytes) (fault : InputFault) → a ≡ refused r → r ≡ text_fault name fault → (given ≡ refused r) ⊎ (given ≡ refused no_memory)
    → (given ≡ a) ⊎ ((given ≡ refused no_memory) × (a ≢ refused no_command))
fault_same a given r name fault a_is r_is (inl is) = inl (is ∙ sym a_is)
fault_same a given r name fault a_is r_is (inr is) = inr (is, λ same. not_command name fault (sym (ap refused r_is) ∙ sym a_is ∙ same))

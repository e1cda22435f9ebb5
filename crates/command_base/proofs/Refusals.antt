-- Refusals, as answers, and of files whose texts have a fault.
use Rattle.std.proofs.Common.{◌≡◌, ◌⊎◌, inl, inr}
use Rattle.std.specs.Prelude.{IfErr, Result, Ok, Err}
use Rattle.plan_io.specs.Held.{Held}
use Rattle.sexpr_text.specs.Passes.{IfFault}
use Rattle.sexpr_text.specs.declared.faults.InputFault.{InputFault}
use Rattle.sexpr_text.specs.declared.faults.ReadErr.{ReadErr}
use Rattle.sexpr_text.specs.declared.faults.ReadErr.TheVariants.{Fault, Memory}
use Rattle.command_base.specs.Answers.{refused, Refusal, no_memory, text_fault}
use Rattle.command_base.specs.Reading.{IsFile, IsRefusedFile}
use Rattle.command_base.specs.Values.{refusal_for}
use Rattle.command_base.specs.Words.{Bytes}

pub refused-same : (r s : Refusal) → refused r ≡ refused s → r ≡ s
refused-same r s same = cc

-- the file is refused for the fault of its text, or memory was wanted
pub misread_file : (held : Bytes → Held) (failed : Bytes → Type 0) (Has : Bytes → InputFault → Type 0) (name bytes : Bytes) (e : ReadErr) (r : Refusal)
    → IsFile held name bytes → IfFault e (Has bytes) → r ≡ refusal_for name e
    → (r ≡ no_memory) ⊎ IsRefusedFile held failed (λ n b refusal. (fault : InputFault) × Has b fault × (refusal ≡ text_fault n fault)) name r
misread_file held failed Has name bytes (Fault fault) r file has is = inr (inr (inr (record { bytes = bytes; file = file; wrong = (fault, has, is) })))
misread_file held failed Has name bytes Memory r file has is = inl is

-- another property of a refusal, if there is one
pub if_err_map : {A E : Type 0} (P Q : E → Type 0) (r : Result A E) → ((e : E) → P e → Q e) → IfErr r P → IfErr r Q
if_err_map P Q (Ok x) f h = tt
if_err_map P Q (Err e) f h = f e h

-- the file is refused for its text, or memory was wanted
pub misspelled_file : (held : Bytes → Held) (failed : Bytes → Type 0) (Wrong : Bytes → Bytes → Refusal → Type 0) (name bytes : Bytes) (r : Refusal)
    → IsFile held name bytes → (r ≡ no_memory) ⊎ Wrong name bytes r → (r ≡ no_memory) ⊎ IsRefusedFile held failed Wrong name r
misspelled_file held failed Wrong name bytes r file (inl is) = inl is
misspelled_file held failed Wrong name bytes r file (inr wrong) = inr (inr (inr (record { bytes = bytes; file = file; wrong = wrong })))

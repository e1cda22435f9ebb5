-- Each text is its definition.
use Rattle.std.proofs.Common.{ap, sym}
use Rattle.controller_code.specs.Frames.{functions_text}
use Rattle.controller_code.proofs.frames.functions.Goals as goal

pub returns-in-C : goal.returns-in-C
unfolding functions_text
returns-in-C c = ap functions_text (sym c.in-C.is)

pub returns-in-Rust : goal.returns-in-Rust
unfolding functions_text
returns-in-Rust c = ap functions_text (sym c.in-Rust.is)

pub returns-in-Python : goal.returns-in-Python
unfolding functions_text
returns-in-Python c = ap functions_text (sym c.in-Python.is)

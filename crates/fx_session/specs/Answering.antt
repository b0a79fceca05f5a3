-- An answer of the program, or a refusal, as the rules have it.
use Rattle.std.specs.Prelude.{Result, Ok, Err}
use Rattle.fx_spec.specs.declared.refusal.Refusal.{Refusal}
use Rattle.fx_spec.specs.Move.{Answered}

abbrev pub answered : {X A : Type 0} → (X → A) → Result X Refusal → Answered A
answered view (Ok x) = Ok (view x)
answered view (Err refusal) = Err refusal

-- What a value holds for a node, and what calls say that make one.
use Rattle.std.specs.Prelude.{◌≡◌, ℕ, cond, List, Result, Ok, Err}
use Rattle.fx_store.specs.Names.{is_name}
use Rattle.fx_spec.specs.declared.refusal.Refusal.{Refusal}
use Rattle.fx_spec.specs.Move.{Answered}
use Rattle.fx_view.specs.declared.reader.Stop.TheVariants as stop
use Rattle.fx_session.specs.declared.halt.Halt.{Halt}
use Rattle.fx_session.specs.declared.halt.Halt.TheVariants as halt

-- the name that a text is
abbrev pub name_read : List ℕ → Answered (List ℕ)
name_read text = cond (is_name text) (Ok text) (Err Refusal.BadName)

-- the call gives this answer, unless memory is refused
abbrev pub Tells : {A X : Type 0} → (X → A) → Answered A → Result X Halt → Type 0
Tells view answer (Ok x) = answer ≡ Ok (view x)
Tells view answer (Err (halt.Refused refusal)) = answer ≡ Err refusal
Tells view answer (Err (halt.Stopped why)) = why ≡ stop.NoMemory

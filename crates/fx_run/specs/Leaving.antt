-- What a command's answer comes to for its transaction.
use Rattle.std.specs.Prelude.{◌≡◌, ℕ, Option, Some, None, Result, Ok, Err}
use Rattle.fx_spec.specs.declared.refusal.Refusal.{Refusal}
use Rattle.fx_spec.specs.declared.refusal.End.{End}
use Rattle.fx_spec.specs.Move.{Answered}
use Rattle.fx_spec.specs.Refusals.{refusal_number}
use Rattle.fx_view.specs.declared.reader.Stop.{Stop}
use Rattle.fx_view.specs.declared.reader.Stop.TheVariants as stop
use Rattle.fx_session.specs.declared.halt.Halt.{Halt}
use Rattle.fx_session.specs.declared.halt.Halt.TheVariants as halt
use Rattle.fx_run.specs.declared.leave.Leave.{Leave}
use Rattle.fx_run.specs.declared.leave.Leave.TheVariants as leave

-- a refusal ends the transaction at the command's number
abbrev pub left_by : ℕ → Halt → Leave
left_by i (halt.Refused refusal) = leave.Over (End.Stopped i refusal)
left_by i (halt.Stopped why) = leave.Stopped why

abbrev pub or_left : {X : Type 0} → ℕ → Result X Halt → Result X Leave
or_left i (Ok x) = Ok x
or_left i (Err h) = Err (left_by i h)

-- the number that a `try` binds
abbrev pub tried_number : Result (Unit {0}) Halt → Result ℕ Stop
tried_number (Ok u) = Ok 0
tried_number (Err (halt.Refused refusal)) = Ok (refusal_number refusal)
tried_number (Err (halt.Stopped why)) = Err why

-- an end, apart from a stop; none, where the transaction goes on
abbrev pub ended : Result (Unit {0}) Leave → Result (Option End) Stop
ended (Ok u) = Ok None
ended (Err (leave.Over end)) = Ok (Some end)
ended (Err (leave.Stopped why)) = Err why

-- a part of an answer
abbrev pub answer_part : {A B : Type 0} → (A → B) → Answered A → Answered B
answer_part f (Ok a) = Ok (f a)
answer_part f (Err refusal) = Err refusal

-- a call that reads nothing answers, or its refusal ends the transaction at the command's number
abbrev pub OrStops : {A X : Type 0} → ℕ → (X → A) → Answered A → Result X Leave → Type 0
OrStops i view answer (Ok x) = answer ≡ Ok (view x)
OrStops i view answer (Err (leave.Over end)) = (refusal : Refusal) × (answer ≡ Err refusal) × (end ≡ End.Stopped i refusal)
OrStops i view answer (Err (leave.Stopped stop.NoMemory)) = Unit {0}
OrStops i view answer (Err (leave.Stopped (stop.Needs p))) = ⊥

-- What a call comes to that may be refused or stopped: an answer or a refusal, apart from a stop.
use Rattle.std.specs.Prelude.{Option, Some, None, Result, Ok, Err}
use Rattle.fx_spec.specs.declared.refusal.Refusal.{Refusal}
use Rattle.fx_view.specs.declared.reader.Stop.{Stop}
use Rattle.fx_session.specs.declared.halt.Halt.{Halt}
use Rattle.fx_session.specs.declared.halt.Halt.TheVariants as halt

abbrev pub split : {X : Type 0} → Result X Halt → Result (Result X Refusal) Stop
split (Ok x) = Ok (Ok x)
split (Err (halt.Refused refusal)) = Ok (Err refusal)
split (Err (halt.Stopped why)) = Err why

-- of a call that answers nothing: it is done, or refused
abbrev pub parted : Result (Unit {0}) Halt → Result (Option Refusal) Stop
parted (Ok u) = Ok None
parted (Err (halt.Refused refusal)) = Ok (Some refusal)
parted (Err (halt.Stopped why)) = Err why

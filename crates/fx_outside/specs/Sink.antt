-- What clauses see of a sink, what it has taken, and when it fails.
use Rattle.std.specs.Prelude.{◌≡◌, ◌≤◌, ◌<◌, ℕ, List, ◌++◌, length, take, Option, option_map, Result, Ok, Err, OnErr, IfOk}
use Rattle.fx_base.specs.Causes.{Rose}

-- the bytes written so far, if the sink tells them, and how often it has failed
pub record SinkView : Type 0 where
  pub written : Option (List ℕ)
  pub faults : ℕ

-- the bytes written after a call: those taken are added at the end, and a refusal adds none
abbrev pub written_after : {E : Type 0} → Option (List ℕ) → List ℕ → Result ℕ E → Option (List ℕ)
written_after written piece (Ok n) = option_map (λ bytes. bytes ++ take n piece) written
written_after written piece (Err e) = written

abbrev pub Writes : {E : Type 0} → List ℕ → SinkView → SinkView → Result ℕ E → Type 0
Writes piece old new result = new.written ≡ written_after old.written piece result

-- at least one byte of the piece is taken, and no more than it has
abbrev pub TakesSome : {E : Type 0} → List ℕ → Result ℕ E → Type 0
TakesSome piece result = IfOk result (λ n. (0 < n) × (n ≤ length piece))

-- the count of faults does not fall, and a refusal comes only where it rose
pub record HasFault {A E : Type 0} (old new : SinkView) (result : Result A E) : Type 0 where
  pub later : old.faults ≤ new.faults
  pub failed : OnErr result (Rose old.faults new.faults)

-- What a sink in memory holds.
use Rattle.std.specs.Prelude.{◌≡◌, ◌==◌, ◌||◌, ◌-◌, ℕ, true, false, List, length, min, Some, Result, Ok, Err}
use Rattle.fx_outside.specs.Calls.{Plan, is_next_failing}
use Rattle.fx_outside.specs.Sink.{SinkView}
use Rattle.fx_outside.specs.declared.memory_sink.MemorySink.{MemorySink}
use Rattle.fx_outside.specs.declared.sink.SinkFailed.{SinkFailed}

-- the bytes that were written
abbrev pub sink_bytes : MemorySink → List ℕ
sink_bytes sink = sink.bytes.items

-- how many bytes it takes in all
abbrev pub sink_room : MemorySink → ℕ
sink_room sink = sink.room

abbrev pub sink_calls : MemorySink → Plan
sink_calls sink = sink.calls

abbrev pub sink_view : MemorySink → SinkView
sink_view sink = record { written = Some (sink_bytes sink); faults = (sink_calls sink).faults }

-- how many bytes of a piece it takes
abbrev pub taken : MemorySink → List ℕ → ℕ
taken sink piece = min (length piece) (sink_room sink - length (sink_bytes sink))

-- it takes all that its room allows, and fails where its call is listed or nothing more can be taken
abbrev pub FillsRoom : MemorySink → List ℕ → Result ℕ SinkFailed → Type 0
FillsRoom sink piece (Ok n) = (n ≡ taken sink piece) × (is_next_failing (sink_calls sink) ≡ false)
FillsRoom sink piece (Err e) = (is_next_failing (sink_calls sink) || taken sink piece == 0) ≡ true

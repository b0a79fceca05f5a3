-- What a command leaves at the host and at the sink where the host's tree stays, or where nothing was asked at all.
use Rattle.std.specs.Prelude.{◌≡◌, List, ℕ, ◌++◌, Some, IfSome}
use Rattle.fx_outside.specs.Host.{HostView, ReadsOnly}
use Rattle.fx_outside.specs.Sink.{SinkView}

-- the host's tree stays, its count of faults does not fall, and nothing was asked of the sink
pub record IsSame (host host' : HostView) (sink sink' : SinkView) : Type 0 where
  pub reads : ReadsOnly host host'
  pub unprinted : sink' ≡ sink

-- nothing was asked of host and sink
pub record IsUnasked (host host' : HostView) (sink sink' : SinkView) : Type 0 where
  pub unasked : host' ≡ host
  pub unprinted : sink' ≡ sink

-- what was printed before stays in front
abbrev pub Grows : SinkView → SinkView → Type 0
Grows sink sink' = IfSome sink.written (λ w. (bytes : List ℕ) × (sink'.written ≡ Some (w ++ bytes)))

-- The rows of the table of a command that leaves nothing, from what its stages ensure.
use Rattle.std.proofs.Common.{◌≡◌, ◌⊎◌, inl, inr, List, ℕ, IfSome, refl}
use Rattle.fx_base.specs.Causes.{Rose}
use Rattle.fx_outside.specs.Host.{HostView, ReadsOnly}
use Rattle.fx_outside.specs.Sink.{SinkView}
use Rattle.fx_outside.proofs.Views.{reads_then}
use Rattle.fx_command.specs.declared.status.Status.{Status}
use Rattle.fx_command.specs.declared.status.Status.TheVariants as status
use Rattle.fx_command.specs.Query.{Query, QueryRow, QueryEndsAs}
use Rattle.fx_command.specs.Reading.{ReadEnds}
use Rattle.fx_command.specs.Saved.{Prints, PrintsPart}
use Rattle.fx_command.proofs.Readings.{IsSteady, CannotBeRefused}
use Rattle.fx_command.proofs.Told.{if_some_map, same, grows_front, grows_all, some_back, same_back}

module _ (q : Query) where
  -- not all is read
  pub not_read : (host host' : HostView) (st : Status) → ReadsOnly host host' → ReadEnds q.reads host host' st → QueryEndsAs q host host' st
  not_read host host' status.Done reads row sink = absurd row
  not_read host host' status.Usage reads row sink = (same host host' sink reads, row)
  not_read host host' (status.TextRefused word cause) reads row sink = (same host host' sink reads, row)
  not_read host host' (status.FolderRefused cause) reads row sink = (same host host' sink reads, row)
  not_read host host' status.ReadFault reads row sink = (same host host' sink reads, row)
  not_read host host' status.NotEmpty reads row sink = absurd row
  not_read host host' status.WriteFault reads row sink = absurd row
  not_read host host' status.NoMemory reads row sink = same host host' sink reads
  not_read host host' (status.BadJournal place) reads row sink = (same host host' sink reads, row)

  -- the output is printed, or a front of it
  pub done : (output : List ℕ) (host host' : HostView) (sink sink' : SinkView) → ReadsOnly host host' → IfSome host.told (λ t. q.prints t output) → Prints output sink sink' → QueryRow q host host' sink sink' status.Done
  done output host host' sink sink' reads prints whole = (
    reads,
    grows_all sink sink' output whole,
    if_some_map (λ t. q.prints t output) (λ t. (output : List ℕ) × q.prints t output × Prints output sink sink') host.told (λ t prints. (output, prints, whole)) prints,
  )

  pub not_printed : (output : List ℕ) (host host' : HostView) (sink sink' : SinkView) → ReadsOnly host host' → IfSome host.told (λ t. q.prints t output) → PrintsPart output sink sink' → Rose sink.faults sink'.faults → QueryRow q host host' sink sink' status.WriteFault
  not_printed output host host' sink sink' reads prints front rose = record {
    reads = reads;
    cause = rose;
    grows = grows_front sink sink' output front;
    left = if_some_map (λ t. q.prints t output) (λ t. (output : List ℕ) × q.prints t output × PrintsPart output sink sink') host.told (λ t prints. (output, prints, front)) prints;
  }

  -- a row from a later moment on is one from an earlier moment on, where only reads lie between
  module _ (steady : IsSteady q.reads) where
    pub row_back : (a b c : HostView) (sink sink' : SinkView) (st : Status) → ReadsOnly a b → QueryRow q b c sink sink' st → QueryRow q a c sink sink' st
    row_back a b c sink sink' status.Done reads row = (reads_then a b c reads row.0, row.1, some_back (λ t. (output : List ℕ) × q.prints t output × Prints output sink sink') a b reads row.2)
    row_back a b c sink sink' status.Usage reads row = (same_back a b c sink sink' reads row.0, steady a b c status.Usage reads row.1)
    row_back a b c sink sink' (status.TextRefused word cause) reads row = (same_back a b c sink sink' reads row.0, steady a b c (status.TextRefused word cause) reads row.1)
    row_back a b c sink sink' (status.FolderRefused cause) reads row = (same_back a b c sink sink' reads row.0, steady a b c (status.FolderRefused cause) reads row.1)
    row_back a b c sink sink' status.ReadFault reads row = (same_back a b c sink sink' reads row.0, steady a b c status.ReadFault reads row.1)
    row_back a b c sink sink' status.NotEmpty reads row = (same_back a b c sink sink' reads row.0, steady a b c status.NotEmpty reads row.1)
    row_back a b c sink sink' status.WriteFault reads row = record {
      reads = reads_then a b c reads row.reads;
      cause = row.cause;
      grows = row.grows;
      left = some_back (λ t. (output : List ℕ) × q.prints t output × PrintsPart output sink sink') a b reads row.left;
    }
    row_back a b c sink sink' status.NoMemory reads row = same_back a b c sink sink' reads row
    row_back a b c sink sink' (status.BadJournal place) reads row = (same_back a b c sink sink' reads row.0, steady a b c (status.BadJournal place) reads row.1)

    pub ends_back : (a b c : HostView) (st : Status) → ReadsOnly a b → QueryEndsAs q b c st → QueryEndsAs q a c st
    ends_back a b c st reads ends sink = row_back a b c sink sink st reads (ends sink)

  -- where nothing that is read is refused and nothing fails, all is done, or memory runs out
  pub completes : (host host' : HostView) (sink sink' : SinkView) (st : Status) → CannotBeRefused q.reads host host' → (Rose sink.faults sink'.faults → ⊥) → QueryRow q host host' sink sink' st → (st ≡ status.Done) ⊎ (st ≡ status.NoMemory)
  completes host host' sink sink' status.Done read quiet row = inl refl
  completes host host' sink sink' status.Usage read quiet row = absurd (read status.Usage row.1)
  completes host host' sink sink' (status.TextRefused word cause) read quiet row = absurd (read (status.TextRefused word cause) row.1)
  completes host host' sink sink' (status.FolderRefused cause) read quiet row = absurd (read (status.FolderRefused cause) row.1)
  completes host host' sink sink' status.ReadFault read quiet row = absurd (read status.ReadFault row.1)
  completes host host' sink sink' status.NotEmpty read quiet row = absurd (read status.NotEmpty row.1)
  completes host host' sink sink' status.WriteFault read quiet row = absurd (quiet row.cause)
  completes host host' sink sink' status.NoMemory read quiet row = inr refl
  completes host host' sink sink' (status.BadJournal place) read quiet row = absurd (read (status.BadJournal place) row.1)

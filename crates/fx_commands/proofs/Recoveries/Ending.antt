-- The part of `recover` of the table of statuses: it comes to an end only where its order is read, and its ends are what its stages ensure.
use Rattle.std.proofs.Common.{◌≡◌, inl, inr, ℕ, List, length, IfSome}
use Rattle.fx_store.specs.Whole.{Nodes}
use Rattle.fx_outside.specs.Host.{HostView, ReadsOnly}
use Rattle.fx_outside.specs.Sink.{SinkView}
use Rattle.fx_folder.specs.declared.readying.Out.{Out}
use Rattle.fx_folder.specs.Folder.{IsReady}
use Rattle.fx_spec.specs.Plans.{Turn}
use Rattle.fx_spec.specs.Order.{BaseTree, IsLegal, state}
use Rattle.fx_command.specs.declared.status.Status.{Status}
use Rattle.fx_command.specs.declared.status.Status.TheVariants as status
use Rattle.fx_command.specs.Out.{IsUnready}
use Rattle.fx_command.specs.Reading.{ReadEnds}
use Rattle.fx_command.specs.Saved.{SaveEnd}
use Rattle.fx_command.specs.Table.{CommandEndsAs, IsComing}
use Rattle.fx_command.proofs.Readings.{IsSteady, ends_within}
use Rattle.fx_command.proofs.Tables as tables
use Rattle.fx_command.proofs.Told.{if_some_map, if_some_both, some_back}
use Rattle.fx_inputs.specs.Inputs.{HasBase, IsOnlyBase, HasInputs}
use Rattle.fx_inputs.specs.Reads.{ReadRow}
use Rattle.fx_inputs.specs.Readings.{inputs_reading}
use Rattle.fx_inputs.proofs.ReadRows.{inputs_steady}
use Rattle.fx_inputs.proofs.Stages.{then_told, has_inputs_told}
use Rattle.fx_words.specs.Job.{RecoverJob}
use Rattle.fx_durable.specs.Disk.{DiskView}
use Rattle.fx_durable.specs.Journal.{Spells}
use Rattle.fx_commands.specs.Recoveries.Recovered.{recovered_line, HasImage, HasOrder, HasSomeOrder, IsBad}
use Rattle.fx_commands.specs.Recoveries.Rows.{RecoverEnd, journal_reading, recover_command}
use Rattle.fx_commands.specs.Recoveries.Unread.{OrderCause}

module _ (j : RecoverJob) (disk disk' : DiskView) where
  abbrev EndsAs : HostView → HostView → Status → Type 0
  EndsAs = CommandEndsAs (recover_command j disk disk')

  pub no_memory : (host host' : HostView) → ReadsOnly host host' → EndsAs host host' status.NoMemory
  no_memory = tables.no_memory (recover_command j disk disk')

  -- what ends it where the journal is not read, or is bad
  abbrev Unread : HostView → HostView → Status → Type 0
  Unread host host' st = journal_reading j disk disk' host st

  journal_steady : IsSteady Unread
  journal_steady a b c status.Done reads is = is
  journal_steady a b c status.Usage reads is = is
  journal_steady a b c (status.TextRefused word cause) reads is = is
  journal_steady a b c (status.FolderRefused cause) reads is = is
  journal_steady a b c status.ReadFault reads is = (is.0, some_back (λ t. HasInputs t j.inputs) a b reads is.1)
  journal_steady a b c status.NotEmpty reads is = is
  journal_steady a b c status.WriteFault reads is = is
  journal_steady a b c status.NoMemory reads is = is
  journal_steady a b c (status.BadJournal place) reads is = some_back (λ t. IsBad t j disk place) a b reads is

  steady : IsSteady (recover_command j disk disk').reads
  steady a b c st reads (inl why) = inl (inputs_steady j.inputs a b c st reads why)
  steady a b c st reads (inr why) = inr (journal_steady a b c st reads why)

  pub end_back : (a b c : HostView) (sink sink' : SinkView) (st : Status) → ReadsOnly a b → RecoverEnd j b c sink sink' disk disk' st → RecoverEnd j a c sink sink' disk disk' st
  end_back = tables.row_back (recover_command j disk disk') steady

  -- the inputs are not read
  pub not_read : (host host' : HostView) (st : Status) → ReadsOnly host host' → ReadRow j.inputs host host' st → EndsAs host host' st
  not_read host host' st reads row =
      tables.not_read (recover_command j disk disk') host host' st reads
      (ends_within (inputs_reading j.inputs) (recover_command j disk disk').reads host host' st (λ st why. inl why) row)

  -- the journal is not read, or spells no legal order
  order_ends : (host host' : HostView) (base : BaseTree) (st : Status) → IfSome host.told (λ t. HasBase t j.inputs base) → IfSome host.told (λ t. IsOnlyBase t j.inputs base) → OrderCause j.journal base disk disk' st → ReadEnds Unread host host' st
  order_ends host host' base status.Done begins only cause = absurd cause
  order_ends host host' base status.Usage begins only cause = absurd cause
  order_ends host host' base (status.TextRefused word why) begins only cause = absurd cause
  order_ends host host' base (status.FolderRefused why) begins only cause = absurd cause
  order_ends host host' base status.ReadFault begins only cause = (cause, has_inputs_told j.inputs base host.told begins)
  order_ends host host' base status.NotEmpty begins only cause = absurd cause
  order_ends host host' base status.WriteFault begins only cause = absurd cause
  order_ends host host' base status.NoMemory begins only cause = tt
  order_ends host host' base (status.BadJournal place) begins only cause =
      if_some_both (λ t. HasBase t j.inputs base) (λ t. IsOnlyBase t j.inputs base) (λ t. IsBad t j disk place) host.told (λ t is only. (base, is, only, cause)) begins only

  pub order_unread : (host host' : HostView) (base : BaseTree) (st : Status) → ReadsOnly host host' → IfSome host.told (λ t. HasBase t j.inputs base) → IfSome host.told (λ t. IsOnlyBase t j.inputs base) → OrderCause j.journal base disk disk' st → EndsAs host host' st
  order_unread host host' base st reads begins only cause =
      tables.not_read (recover_command j disk disk') host host' st reads
      (ends_within Unread (recover_command j disk disk').reads host host' st (λ st why. inr why) (order_ends host host' base st begins only cause))

  -- OUT cannot be written
  pub not_ready : (host host' : HostView) (base : BaseTree) (order : List Turn) (st : Status) → ReadsOnly host host' → IfSome host.told (λ t. HasOrder t j disk base order) → IsUnready j.out host host' st → EndsAs host host' st
  not_ready host host' base order st reads has why =
      tables.not_ready (recover_command j disk disk') host host' st reads (if_some_map (λ t. HasOrder t j disk base order) (λ t. HasSomeOrder t j disk) host.told (λ t has. (base, order, has)) has) why

  -- ---- the last stage

  pub left : (base : BaseTree) (order : List Turn) (nodes : Nodes) (output : List ℕ) (there : Out) (a b c : HostView) (sink sink' : SinkView) (st : Status)
      → ReadsOnly a b
      → IfSome a.told (λ t. HasOrder t j disk base order)
      → IfSome a.told (λ t. IsReady t j.out there)
      → nodes ≡ state base order (length order)
      → output ≡ recovered_line (length order)
      → SaveEnd j.out there nodes output b c sink sink' st
      → RecoverEnd j a c sink sink' disk disk' st
  left base order nodes output there a b c sink sink' st reads has free last printed end =
      end_back a b c sink sink' st reads
      (tables.save_row (recover_command j disk disk') (nodes, output) there nodes b c sink sink' (λ t is. (is.base, is.order, is.read)) (λ t t' saved. saved) (λ t t' part. part) coming st end)
    where
      coming : IfSome b.told (λ t. IsComing (recover_command j disk disk').makes t (nodes, output) there)
      coming =
          then_told (λ t. IsComing (recover_command j disk disk').makes t (nodes, output) there) a b reads
          (if_some_both (λ t. HasOrder t j disk base order) (λ t. IsReady t j.out there) (λ t. IsComing (recover_command j disk disk').makes t (nodes, output) there) a.told
          (λ t has free. record { comes = record { base = base; order = order; read = has; last = last; printed = printed }; free = free }) has free)

-- ---- from one stage to the next

pub has_order : (j : RecoverJob) (base : BaseTree) (order : List Turn) (host : HostView) (disk : DiskView) → IfSome host.told (λ t. HasBase t j.inputs base) → IfSome host.told (λ t. IsOnlyBase t j.inputs base) → HasImage j.journal disk (Spells order) → IsLegal base order → IfSome host.told (λ t. HasOrder t j disk base order)
has_order j base order host disk begins only spelled legal =
    if_some_both (λ t. HasBase t j.inputs base) (λ t. IsOnlyBase t j.inputs base) (λ t. HasOrder t j disk base order) host.told (λ t is alone. record { begins = is; only = alone; spelled = spelled; legal = legal }) begins only

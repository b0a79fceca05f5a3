-- The rows of the table of statuses, from what the stages of a command ensure.
use Rattle.std.proofs.Common.{◌≡◌, ◌⊎◌, inl, inr, ℕ, false, List, Option, None, Some, IfSome, IsSomeAnd, refl, sym, subst}
use Rattle.fx_base.specs.Causes.{Rose}
use Rattle.fx_store.specs.Whole.{Nodes}
use Rattle.fx_outside.specs.Host.{HostView, ReadsOnly, FaultIn, HasFailed}
use Rattle.fx_outside.specs.Path.{parts, is_fit}
use Rattle.fx_outside.proofs.Views.{fault_in_back}
use Rattle.fx_outside.specs.Sink.{SinkView}
use Rattle.fx_outside.specs.Tree.{Tree}
use Rattle.fx_folder.specs.declared.readying.Out.{Out}
use Rattle.fx_folder.specs.Folder.{IfTold, IsReady, IsTaken, IsSaved, IsPartlySaved, Saves, SavesPart, SaveCause, LacksFolder}
use Rattle.fx_folder.specs.declared.fault.SaveFault.{SaveFault}
use Rattle.fx_folder.specs.declared.fault.SaveFault.TheVariants as save
use Rattle.fx_command.specs.declared.status.Status.{Status}
use Rattle.fx_command.specs.declared.status.Status.TheVariants as status
use Rattle.fx_command.specs.Out.{IsProperOut, IsUnready}
use Rattle.fx_command.specs.Reading.{ReadEnds}
use Rattle.fx_command.specs.Saved.{Prints, PrintsPart, SaveEnd, done, unmade, unsaved, unprinted}
use Rattle.fx_command.specs.StatusOf.{save_status}
use Rattle.fx_command.specs.Table.{Command, IsMade, MayHoldPart, CannotSave, CommandRow, CommandEndsAs, IsComing}
use Rattle.fx_command.proofs.Outs.{not_taken, can_write}
use Rattle.fx_command.proofs.Readings.{IsSteady, CannotBeRefused}
use Rattle.fx_command.proofs.Told.{if_some_map, if_some_both, some_and, if_told_same, if_told_map, some_unit, same, grows_front, grows_all, cause_back, told_back, some_back, same_back}

-- a filestore that is not saved whole
pub not_saved_end : (out : List ℕ) (there : Out) (nodes : Nodes) (output : List ℕ) (host host' : HostView) (sink : SinkView) (fault : SaveFault) → SavesPart out nodes host host' → SaveCause out there host host' fault → SaveEnd out there nodes output host host' sink sink (save_status fault)
not_saved_end out there nodes output host host' sink save.WriteFault part cause = unsaved part cause refl
not_saved_end out there nodes output host host' sink save.NotEmpty part cause = absurd cause
not_saved_end out there nodes output host host' sink save.NoMemory part cause = unmade part refl

module _ {A : Type 0} (m : Command A) where
  -- ---- stages that only read

  pub no_memory : (host host' : HostView) → ReadsOnly host host' → CommandEndsAs m host host' status.NoMemory
  no_memory host host' reads sink =
      (refl, if_told_same (MayHoldPart m.makes) host.told host'.told reads.same (if_some_map (λ _. Unit {0}) (λ t. MayHoldPart m.makes t t) host.told (λ t _. inl refl) (some_unit host.told)))

  -- not all is read
  pub not_read : (host host' : HostView) (st : Status) → ReadsOnly host host' → ReadEnds m.reads host host' st → CommandEndsAs m host host' st
  not_read host host' status.Done reads row sink = absurd row
  not_read host host' status.Usage reads row sink = (same host host' sink reads, row)
  not_read host host' (status.TextRefused word cause) reads row sink = (same host host' sink reads, row)
  not_read host host' (status.FolderRefused cause) reads row sink = (same host host' sink reads, row)
  not_read host host' status.ReadFault reads row sink = (same host host' sink reads, row)
  not_read host host' status.NotEmpty reads row sink = absurd row
  not_read host host' status.WriteFault reads row sink = absurd row
  not_read host host' status.NoMemory reads row sink = no_memory host host' reads sink
  not_read host host' (status.BadJournal place) reads row sink = (same host host' sink reads, row)

  -- OUT cannot be written
  unready_cause : (host host' : HostView) → IfSome host.told m.all → HasFailed (FaultIn m.makes.out) (λ _. is_fit m.makes.out) host host' → FaultIn m.makes.out host host' ⊎ IsSomeAnd host.told (CannotSave m)
  unready_cause host host' all (inl fault) = inl fault
  unready_cause host host' all (inr unfit) = inr (some_and m.all (λ t. is_fit m.makes.out ≡ false) (CannotSave m) host.told (λ t all unfit. (all, inl unfit)) all unfit)

  untouched : (host host' : HostView) → ReadsOnly host host' → IfSome host.told m.all → IfTold host.told host'.told (λ t t'. m.all t × MayHoldPart m.makes t t')
  untouched host host' reads all =
      if_told_same (λ t t'. m.all t × MayHoldPart m.makes t t') host.told host'.told reads.same (if_some_map m.all (λ t. m.all t × MayHoldPart m.makes t t) host.told (λ t is. (is, inl refl)) all)

  pub not_ready : (host host' : HostView) (st : Status) → ReadsOnly host host' → IfSome host.told m.all → IsUnready m.makes.out host host' st → CommandEndsAs m host host' st
  not_ready host host' status.Done reads all why sink = absurd why
  not_ready host host' status.Usage reads all why sink = absurd why
  not_ready host host' (status.TextRefused word cause) reads all why sink = absurd why
  not_ready host host' (status.FolderRefused cause) reads all why sink = absurd why
  not_ready host host' status.ReadFault reads all why sink = absurd why
  not_ready host host' status.NotEmpty reads all taken sink =
      (same host host' sink reads, if_some_both m.all (λ t. IsTaken t m.makes.out) (λ t. m.all t × IsTaken t m.makes.out) host.told (λ t all taken. (all, taken)) all taken)
  not_ready host host' status.WriteFault reads all failed sink =
      inl (record { cause = unready_cause host host' all failed; unprinted = refl; left = untouched host host' reads all })
  not_ready host host' status.NoMemory reads all why sink = no_memory host host' reads sink
  not_ready host host' (status.BadJournal place) reads all why sink = absurd why

  -- ---- the last stage, for an end to which the command comes only where all is read

  pub coming : (end : A) (there : Out) (host : HostView) → IfSome host.told (m.makes.comes end) → IfSome host.told (λ t. IsReady t m.makes.out there) → IfSome host.told (λ t. IsComing m.makes t end there)
  coming end there host comes ready =
      if_some_both (m.makes.comes end) (λ t. IsReady t m.makes.out there) (λ t. IsComing m.makes t end there) host.told (λ t comes free. record { comes = comes; free = free }) comes ready

  abbrev Begins : A → HostView → HostView → Type 0
  Begins end host host' = IfTold host.told host'.told (λ t t'. (t' ≡ t) ⊎ m.makes.begun end t t')

  -- what was saved in part, as a part of an end
  pub begins : (P : Tree → Tree → Type 0) (end : A) (host host' : HostView) → ((t t' : Tree) → P t t' → (t' ≡ t) ⊎ m.makes.begun end t t') → IfTold host.told host'.told P → Begins end host host'
  begins P end host host' f part = if_told_map P (λ t t'. (t' ≡ t) ⊎ m.makes.begun end t t') (λ _. Unit {0}) host.told host'.told (λ t t' _ p. f t t' p) (some_unit host.told) part

  module _ (end : A) (there : Out) (host host' : HostView) (is : IfSome host.told (λ t. IsComing m.makes t end there)) where
    pub not_printed : (sink sink' : SinkView) → IfTold host.told host'.told (m.makes.stands end) → PrintsPart (m.makes.prints end) sink sink' → Rose sink.faults sink'.faults → CommandRow m host host' sink sink' status.WriteFault
    not_printed sink sink' stands front rose = inr (record {
      cause = rose;
      grows = grows_front sink sink' (m.makes.prints end) front;
      left = if_told_map (m.makes.stands end) (IsMade m.makes m.makes.stands (λ output. PrintsPart output sink sink')) (λ t. IsComing m.makes t end there) host.told host'.told
          (λ t t' is stands. record { end = end; there = there; comes = is.comes; free = is.free; left = stands; written = front }) is stands;
    })

    pub all_done : (sink sink' : SinkView) → IfTold host.told host'.told (m.makes.stands end) → Prints (m.makes.prints end) sink sink' → CommandRow m host host' sink sink' status.Done
    all_done sink sink' stands whole = (
      grows_all sink sink' (m.makes.prints end) whole,
      if_told_map (m.makes.stands end) (IsMade m.makes m.makes.stands (λ output. Prints output sink sink')) (λ t. IsComing m.makes t end there) host.told host'.told
          (λ t t' is stands. record { end = end; there = there; comes = is.comes; free = is.free; left = stands; written = whole }) is stands,
    )

    module _ (all : (t : Tree) → m.makes.comes end t → m.all t) where
      begun : Begins end host host' → IfTold host.told host'.told (λ t t'. m.all t × MayHoldPart m.makes t t')
      begun part =
          if_told_map (λ t t'. (t' ≡ t) ⊎ m.makes.begun end t t') (λ t t'. m.all t × MayHoldPart m.makes t t') (λ t. IsComing m.makes t end there) host.told host'.told (λ t t' is part. (all t is.comes, one t t' is part)) is part
        where
          one : (t t' : Tree) → IsComing m.makes t end there → (t' ≡ t) ⊎ m.makes.begun end t t' → MayHoldPart m.makes t t'
          one t t' is (inl same) = inl same
          one t t' is (inr part) = inr (record { end = end; there = there; comes = is.comes; free = is.free; left = part; written = tt })

      only_part : (told told' : Option Tree) → IfTold told told' (λ t t'. m.all t × MayHoldPart m.makes t t') → IfTold told told' (MayHoldPart m.makes)
      only_part None told' p = p
      only_part (Some t) None p = p
      only_part (Some t) (Some t') p = p.1

      unsaved_cause : FaultIn m.makes.out host host' ⊎ IsSomeAnd host.told (λ t. LacksFolder t m.makes.out there) → FaultIn m.makes.out host host' ⊎ IsSomeAnd host.told (CannotSave m)
      unsaved_cause (inl fault) = inl fault
      unsaved_cause (inr lacks) =
          inr (some_and (λ t. IsComing m.makes t end there) (λ t. LacksFolder t m.makes.out there) (CannotSave m) host.told
          (λ t is lacks. (all t is.comes, inr (subst (λ b. IsReady t m.makes.out b) lacks.0 is.free, lacks.1))) is lacks)

      pub not_saved : (fault : SaveFault) → Begins end host host' → SaveCause m.makes.out there host host' fault → CommandEndsAs m host host' (save_status fault)
      not_saved save.WriteFault part cause sink = inl (record { cause = unsaved_cause cause; unprinted = refl; left = begun part })
      not_saved save.NotEmpty part cause sink = absurd cause
      not_saved save.NoMemory part cause sink = (refl, only_part host.told host'.told (begun part))

  -- the stage that saves a filestore and then prints, for an end at which this filestore stands
  module _ (end : A) (there : Out) (nodes : Nodes) (host host' : HostView) (sink sink' : SinkView) (all : (t : Tree) → m.makes.comes end t → m.all t) (stand : (t t' : Tree) → IsSaved t t' (parts m.makes.out) nodes → m.makes.stands end t t') (begin : (t t' : Tree) → IsPartlySaved t t' (parts m.makes.out) nodes → m.makes.begun end t t') (is : IfSome host.told (λ t. IsComing m.makes t end there)) where
    standing : Saves m.makes.out nodes host host' → IfTold host.told host'.told (m.makes.stands end)
    standing saved = if_told_map (λ t t'. IsSaved t t' (parts m.makes.out) nodes) (m.makes.stands end) (λ _. Unit {0}) host.told host'.told (λ t t' _ saved. stand t t' saved) (some_unit host.told) saved

    in_part : SavesPart m.makes.out nodes host host' → Begins end host host'
    in_part part = begins (λ t t'. IsPartlySaved t t' (parts m.makes.out) nodes) end host host' (λ t t' part. inr (begin t t' part)) part

    pub save_row : (st : Status) → SaveEnd m.makes.out there nodes (m.makes.prints end) host host' sink sink' st → CommandRow m host host' sink sink' st
    save_row st (done saved printed) = all_done end there host host' is sink sink' (standing saved) printed
    save_row st (unmade part same) =
        subst (λ s. CommandRow m host host' sink s status.NoMemory) (sym same) (not_saved end there host host' is all save.NoMemory (in_part part) tt sink)
    save_row st (unsaved part cause same) =
        subst (λ s. CommandRow m host host' sink s status.WriteFault) (sym same) (not_saved end there host host' is all save.WriteFault (in_part part) cause sink)
    save_row st (unprinted saved front rose) = not_printed end there host host' is sink sink' (standing saved) front rose

  -- ---- a row from a later moment on is one from an earlier moment on, where only reads lie between

  module _ (steady : IsSteady m.reads) where
    pub row_back : (a b c : HostView) (sink sink' : SinkView) (st : Status) → ReadsOnly a b → CommandRow m b c sink sink' st → CommandRow m a c sink sink' st
    row_back a b c sink sink' status.Done reads row = (row.0, told_back (IsMade m.makes m.makes.stands (λ output. Prints output sink sink')) a b c reads row.1)
    row_back a b c sink sink' status.Usage reads row = (same_back a b c sink sink' reads row.0, steady a b c status.Usage reads row.1)
    row_back a b c sink sink' (status.TextRefused word cause) reads row = (same_back a b c sink sink' reads row.0, steady a b c (status.TextRefused word cause) reads row.1)
    row_back a b c sink sink' (status.FolderRefused cause) reads row = (same_back a b c sink sink' reads row.0, steady a b c (status.FolderRefused cause) reads row.1)
    row_back a b c sink sink' status.ReadFault reads row = (same_back a b c sink sink' reads row.0, steady a b c status.ReadFault reads row.1)
    row_back a b c sink sink' status.NotEmpty reads row = (same_back a b c sink sink' reads row.0, some_back (λ t. m.all t × IsTaken t m.makes.out) a b reads row.1)
    row_back a b c sink sink' status.WriteFault reads (inl row) = inl (record {
      cause = cause_back (FaultIn m.makes.out) (CannotSave m) a b c reads (fault_in_back m.makes.out a b c reads.later) row.cause;
      unprinted = row.unprinted;
      left = told_back (λ t t'. m.all t × MayHoldPart m.makes t t') a b c reads row.left;
    })
    row_back a b c sink sink' status.WriteFault reads (inr row) =
        inr (record { cause = row.cause; grows = row.grows; left = told_back (IsMade m.makes m.makes.stands (λ output. PrintsPart output sink sink')) a b c reads row.left })
    row_back a b c sink sink' status.NoMemory reads row = (row.0, told_back (MayHoldPart m.makes) a b c reads row.1)
    row_back a b c sink sink' (status.BadJournal place) reads row = (same_back a b c sink sink' reads row.0, steady a b c (status.BadJournal place) reads row.1)

    pub ends_back : (a b c : HostView) (st : Status) → ReadsOnly a b → CommandEndsAs m b c st → CommandEndsAs m a c st
    ends_back a b c st reads ends sink = row_back a b c sink sink st reads (ends sink)

  -- ---- where nothing that is read is refused, OUT can be written and nothing fails, all is done, or memory runs out

  pub completes : (t : Tree) (host host' : HostView) (sink sink' : SinkView) (st : Status) → host.told ≡ Some t → CannotBeRefused m.reads host host' → IsProperOut t m.makes.out → (Rose host.faults host'.faults → ⊥) → (Rose sink.faults sink'.faults → ⊥) → CommandRow m host host' sink sink' st → (st ≡ status.Done) ⊎ (st ≡ status.NoMemory)
  completes t host host' sink sink' status.Done is read proper none quiet row = inl refl
  completes t host host' sink sink' status.Usage is read proper none quiet row = absurd (read status.Usage row.1)
  completes t host host' sink sink' (status.TextRefused word cause) is read proper none quiet row = absurd (read (status.TextRefused word cause) row.1)
  completes t host host' sink sink' (status.FolderRefused cause) is read proper none quiet row = absurd (read (status.FolderRefused cause) row.1)
  completes t host host' sink sink' status.ReadFault is read proper none quiet row = absurd (read status.ReadFault row.1)
  completes t host host' sink sink' status.NotEmpty is read proper none quiet row =
      absurd (not_taken t m.makes.out proper (subst (λ o. IfSome o (λ t. m.all t × IsTaken t m.makes.out)) is row.1).1)
  completes t host host' sink sink' status.WriteFault is read proper none quiet (inl row) = absurd (not_unsaved row.cause)
    where
      not_unsaved : FaultIn m.makes.out host host' ⊎ IsSomeAnd host.told (CannotSave m) → ⊥
      not_unsaved (inl fault) = none fault.rose
      not_unsaved (inr cannot) = can_write t m.makes.out proper (subst (λ o. IsSomeAnd o (CannotSave m)) is cannot).1
  completes t host host' sink sink' status.WriteFault is read proper none quiet (inr row) = absurd (quiet row.cause)
  completes t host host' sink sink' status.NoMemory is read proper none quiet row = inr refl
  completes t host host' sink sink' (status.BadJournal place) is read proper none quiet row = absurd (read (status.BadJournal place) row.1)

-- Reading a file piece by piece: what is read is a front of it, until the end.
use Rattle.fx_folder.proofs.Prelude.{IsReadAt, path_below, at_then, fault_in, reads_none, reads_then, AsksAt, FaultIn, HasFailed, HostView, ReadsAt, ReadsOnly, Tree, bytes_at, is_file_at, HostFault, LoadFault, ReadFault, Bool, Err, IfSome, List, None, Ok, Option, Result, Some, [], ap, arith, drop, false, inl, inr, length, length-append, length-drop, length-take, refl, subst, sym, take, true, ℕ, ◌++◌, ◌+◌, ◌<◌, ◌∙◌, ◌≡◌, ◌≤◌, take-length, false≢true}
use Rattle.std.specs.Prelude.{IsErr, IsSomeAnd}
use Rattle.std.proofs.Math.Seq.{take-add}
use Rattle.fx_outside.specs.Host.{FaultAt, HasCause, IsFaultless, TellsBytes}
use Rattle.fx_outside.specs.declared.kind.HostFault.TheVariants.{Failed, NoMemory}
use Rattle.fx_table.specs.Faults.{load_fault}
use Rattle.fx_folder.proofs.Told.{if_some_both}

-- bytes from the front of the file at a path
pub record IsFrontAt (tree : Tree) (path text : List ℕ) : Type 0 where
  pub file : 0 < length text → is_file_at tree path ≡ true
  pub front : text ≡ take (length text) (bytes_at tree path)
  pub within : length text ≤ length (bytes_at tree path)

-- between two reads
pub record IsReading (old now : HostView) (path text : List ℕ) : Type 0 where
  pub reads : ReadsOnly old now
  pub fit : AsksAt path old now
  pub front : IfSome old.told (λ tree. IsFrontAt tree path text)

-- n bytes behind what was read, in a buffer
pub record IsNext (tree : Tree) (path text buffer : List ℕ) (n : ℕ) : Type 0 where
  pub file : is_file_at tree path ≡ true
  pub reads : ReadsAt (bytes_at tree path) (length text) n buffer

-- a call that answers suits the tree
suited : (b : Bool) → (b ≡ false → ⊥) → b ≡ true
suited true never = refl
suited false never = absurd (never refl)

next : (told : Option Tree) (host host' : HostView) (path text buffer : List ℕ) (from n : ℕ) → host.told ≡ told → from ≡ length text → TellsBytes host path from buffer n → HasCause path (λ tree. is_file_at tree path) host host' (Ok n) → IfSome told (λ tree. IsNext tree path text buffer n)
next None host host' path text buffer from n same start reads cause = tt
next (Some tree) host host' path text buffer from n same start reads cause = record {
  file = suited (is_file_at tree path) (λ no. false≢true (subst (λ o. IfSome o (λ t. is_file_at t path ≡ false → IsErr {E = HostFault} (Ok n) × (host'.told ≡ host.told) × IsFaultless host host')) same cause.unsuited no).0);
  reads = subst (λ k. ReadsAt (bytes_at tree path) k n buffer) start (subst (λ o. IfSome o (λ t. ReadsAt (bytes_at t path) from n buffer)) same reads);
}

front_more : (tree : Tree) (path text buffer : List ℕ) (n : ℕ) → IsFrontAt tree path text → IsNext tree path text buffer n → IsFrontAt tree path (text ++ take n buffer)
front_more tree path text buffer n front piece =
    let bytes = bytes_at tree path in
    let whole : text ++ take n buffer ≡ take (length text + n) bytes = ap (λ x. x ++ take n buffer) front.front ∙ ap (λ x. take (length text) bytes ++ x) piece.reads.bytes ∙ sym (take-add (length text) n bytes) in
    let size : length (text ++ take n buffer) ≡ length text + n = omega (arith, length-append text (take n buffer), ap length piece.reads.bytes, length-take n (drop (length text) bytes), length-drop (length text) bytes, piece.reads.within) in
    record {
      file = λ _. piece.file;
      front = whole ∙ ap (λ k. take k bytes) (sym size);
      within = omega (arith, size, piece.reads.within, front.within);
    }

front_end : (tree : Tree) (path : List ℕ) (limit : ℕ) (text buffer : List ℕ) (n : ℕ) → n ≡ 0 → IsFrontAt tree path text → IsNext tree path text buffer n → IsReadAt tree path limit text
front_end tree path limit text buffer n none front piece =
    let all : length text ≡ length (bytes_at tree path) = omega (arith, front.within, piece.reads.ends none) in
    record {
      file = piece.file;
      front = front.front;
      within = front.within;
      whole = λ _. front.front ∙ ap (λ k. take k (bytes_at tree path)) all ∙ take-length (bytes_at tree path);
    }

told_none : (told : Option Tree) (path : List ℕ) → IfSome told (λ tree. IsFrontAt tree path [])
told_none None path = tt
told_none (Some tree) path = record { file = λ some. absurd (omega (arith, some)); front = refl; within = omega arith }

pub begins : (host : HostView) (path text : List ℕ) → text ≡ [] → IsReading host host path text
begins host path text none = record { reads = reads_none host; fit = λ _. refl; front = subst (λ x. IfSome host.told (λ tree. IsFrontAt tree path x)) (sym none) (told_none host.told path) }

module _ (old host host' : HostView) (path text buffer : List ℕ) (from n : ℕ) (was : IsReading old host path text) (reads : TellsBytes host path from buffer n) (cause : HasCause path (λ tree. is_file_at tree path) host host' (Ok n)) (start : from ≡ length text) where
  more : IfSome old.told (λ tree. IsNext tree path text buffer n)
  more = next old.told host host' path text buffer from n was.reads.same start reads cause

  pub goes_on : (text' : List ℕ) → ReadsOnly host host' → AsksAt path host host' → text' ≡ text ++ take n buffer → IsReading old host' path text'
  goes_on text' then fit longer = record {
    reads = reads_then old host host' was.reads then;
    fit = at_then path old host host' was.fit fit;
    front = subst (λ x. IfSome old.told (λ tree. IsFrontAt tree path x)) (sym longer) (if_some_both (λ tree. IsFrontAt tree path text) (λ tree. IsNext tree path text buffer n) (λ tree. IsFrontAt tree path (text ++ take n buffer)) old.told (λ tree. front_more tree path text buffer n) was.front more);
  }

  pub ends : (limit : ℕ) → n ≡ 0 → IfSome old.told (λ tree. IsReadAt tree path limit text)
  ends limit none = if_some_both (λ tree. IsFrontAt tree path text) (λ tree. IsNext tree path text buffer n) (λ tree. IsReadAt tree path limit text) old.told (λ tree. front_end tree path limit text buffer n none) was.front more

-- a file that is told is read, unless the host fails in the folder
never_missing : (told : Option Tree) (path : List ℕ) → IfSome told (λ tree. is_file_at tree path ≡ true) → IsSomeAnd told (λ tree. is_file_at tree path ≡ false) → ⊥
never_missing None path file missing = missing
never_missing (Some tree) path file missing = false≢true (sym missing ∙ file)

pub file_fault : {A : Type 0} (folder below path : List ℕ) (a b : HostView) (fault : HostFault) → path ≡ path_below folder below → IfSome a.told (λ tree. is_file_at tree (path_below folder below) ≡ true) → (fault ≡ Failed → HasFailed (FaultAt path) (λ tree. is_file_at tree path) a b) → ◌≡◌ {A = Result A LoadFault} (Err (load_fault fault)) (Err ReadFault) → FaultIn folder a b
file_fault folder below path a b Failed is file failed e = by (failed refl)
  where
    by : HasFailed (FaultAt path) (λ tree. is_file_at tree path) a b → FaultIn folder a b
    by (inl fault) = fault_in folder path a b (inr (below, is)) fault
    by (inr missing) = absurd (never_missing a.told path (subst (λ p. IfSome a.told (λ tree. is_file_at tree p ≡ true)) (sym is) file) missing)
file_fault folder below path a b NoMemory is file failed e = cc

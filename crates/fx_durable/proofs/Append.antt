-- What a crash leaves at each moment of an append, and what it leaves in the end.
use Rattle.std.proofs.Common.{◌≡◌, inl, inr, ℕ, ◌+◌, ◌*◌, ◌≤◌, ◌<◌, List, [], ◌∷◌, ◌++◌, length, refl, sym, ◌∙◌, ap, subst, arith, Option, Some, None, length-append}
use Rattle.std.specs.Prelude.{IfSome, option_map}
use Rattle.std.proofs.lemmas.List.{append-nil}
use Rattle.std.proofs.lemmas.List.Elements.{All-push}
use Rattle.fx_base.specs.Limits.{txn_limit}
use Rattle.fx_durable.specs.Disk.{wrote, kept, File, DiskView, MayLeave, Torn, written, synced, LeavesOnly, IsAsTold, WritesBytes, MayTear, Syncs}
use Rattle.fx_durable.specs.Journal.{records, at_rest, FitsRecord, Spells, RestsAt, Rests, IsBeforeOrAfter, LeavesOrder, AddsTurn}
use Rattle.fx_spec.specs.Plans.{Turn}
use Rattle.fx_durable.specs.Placed.{torn_written}
use Rattle.fx_durable.proofs.Records.{length-records}
use Rattle.fx_durable.proofs.Told.{if_told, of_told, is_told, if_is_told, told_same, told_written, told_synced, told_torn}
use Rattle.fx_durable.proofs.Moments.{begun, goes_more, goes_torn}
use Rattle.fx_durable.proofs.Crash.{behind, with_gate, spells_gate, spells_at_rest, torn_behind, written_behind, torn_gate, written_gate, spells_after}

-- a file whose images are those of an order is read as that order
abbrev pub IsImage : DiskView → Type 0
IsImage disk = IfSome disk.told (λ file. MayLeave file.steps file.seen)

-- the file after each of the four calls
abbrev pub first : ℕ → Turn → File → File
first count turn file = written (9 * count + 1) (behind turn) file

abbrev pub second : ℕ → Turn → File → File
second count turn file = synced (first count turn file)

abbrev pub third : ℕ → Turn → File → File
third count turn file = written (9 * count) (1 ∷ []) (second count turn file)

abbrev pub fourth : ℕ → Turn → File → File
fourth count turn file = synced (third count turn file)

-- the four steps of an append on a told file
module _ (count : ℕ) (room : count < txn_limit) (turn : Turn) (good : FitsRecord turn) (file : File) (image : MayLeave file.steps file.seen) (order : List Turn) (rests : RestsAt count order file) where
  abbrev pub P : List ℕ → Type 0
  P = IsBeforeOrAfter order turn

  seen_first : file.seen ≡ at_rest order
  seen_first = rests.only file.seen image

  seen_second : (second count turn file).seen ≡ with_gate order 0 turn
  seen_second = written_behind order count rests.counts rests.fit room turn file.seen seen_first

  pub seen_fourth : (fourth count turn file).seen ≡ at_rest (order ++ turn ∷ [])
  seen_fourth = written_gate order count rests.counts rests.fit room turn (second count turn file).seen seen_second

  at_start : LeavesOnly file file P
  at_start = begun file P (λ c left. inl (subst (Spells order) (sym (rests.only c left)) (spells_at_rest order count rests.counts rests.fit room)))

  pub in_first : (c : List ℕ) → MayLeave (wrote (9 * count + 1) 9 ∷ file.steps) c → P c
  in_first c left = inl (torn_behind order count rests.counts rests.fit room 9 c (subst (λ d. Torn (9 * count + 1) 9 d c) (rests.only left.0 left.1) left.2))

  after_gate : (c : List ℕ) → Torn (9 * count) 1 (second count turn file).seen c → P c
  after_gate c torn = torn_gate order count rests.counts rests.fit room turn good c (subst (λ d. Torn (9 * count) 1 d c) seen_second torn)

  pub in_third : (c : List ℕ) → MayLeave (wrote (9 * count) 1 ∷ (second count turn file).steps) c → P c
  in_third c left = after_gate c (subst (λ d. Torn (9 * count) 1 d c) left.1 left.2)

  in_second : (c : List ℕ) → c ≡ (second count turn file).seen → P c
  in_second c is = subst P (sym (is ∙ seen_second ∙ sym (append-nil (with_gate order 0 turn)))) (spells_gate order count rests.counts rests.fit room 0 turn good [])

  pub in_fourth : (c : List ℕ) → c ≡ (fourth count turn file).seen → P c
  in_fourth c is = inr (subst (Spells (order ++ turn ∷ [])) (sym (is ∙ seen_fourth)) (spells_after order count rests.counts rests.fit room turn good))

  leaves_first : LeavesOnly file (first count turn file) P
  leaves_first = goes_more file file (first count turn file) (wrote (9 * count + 1) 9) P at_start refl refl in_first

  leaves_second : LeavesOnly file (second count turn file) P
  leaves_second = goes_more file (first count turn file) (second count turn file) (kept (first count turn file).seen) P leaves_first refl refl in_second

  leaves_third : LeavesOnly file (third count turn file) P
  leaves_third = goes_more file (second count turn file) (third count turn file) (wrote (9 * count) 1) P leaves_second refl refl in_third

  pub leaves_fourth : LeavesOnly file (fourth count turn file) P
  leaves_fourth = goes_more file (third count turn file) (fourth count turn file) (kept (third count turn file).seen) P leaves_third refl refl in_fourth

  rests_fourth : RestsAt (count + 1) (order ++ turn ∷ []) (fourth count turn file)
  rests_fourth = record { counts = omega (arith, rests.counts, length-append order (turn ∷ [])); fit = All-push FitsRecord order turn rests.fit good; only = λ c is. is ∙ seen_fourth }

-- an append on any disk
module _ (count : ℕ) (room : count < txn_limit) (turn : Turn) (good : FitsRecord turn) (old : DiskView) (image : IsImage old) where
  seen : (file : File) → old.told ≡ Some file → MayLeave file.steps file.seen
  seen file is = of_told old.told (λ file. MayLeave file.steps file.seen) file is image

  -- what a file is told, to each of the four calls
  pub stops_at_first : (v : DiskView) → MayTear (9 * count + 1) 9 old v → LeavesOrder count turn old v
  stops_at_first v tears = if_told old.told _ (λ file is order rests.
      let t = told_torn old v file is (9 * count + 1) 9 tears in
      is_told v.told _ t.0 t.1 (goes_torn file file t.0 (9 * count + 1) 9 _ (at_start count room turn good file (seen file is) order rests) t.2 (in_first count room turn good file (seen file is) order rests)))

  module _ (v : DiskView) (writes : WritesBytes (9 * count + 1) (behind turn) old v) where
    pub stops_at_second : (w : DiskView) → IsAsTold v w → LeavesOrder count turn old w
    stops_at_second w same = if_told old.told _ (λ file is order rests.
        is_told w.told _ _ (told_same v w _ (told_written old v file is (9 * count + 1) (behind turn) writes) same) (leaves_first count room turn good file (seen file is) order rests))

    module _ (w : DiskView) (syncs : Syncs v w) where
      told_second : (file : File) → old.told ≡ Some file → w.told ≡ Some (second count turn file)
      told_second file is = told_synced v w _ (told_written old v file is (9 * count + 1) (behind turn) writes) syncs

      pub stops_at_third : (x : DiskView) → MayTear (9 * count) 1 w x → LeavesOrder count turn old x
      stops_at_third x tears = if_told old.told _ (λ file is order rests.
          let t = told_torn w x _ (told_second file is) (9 * count) 1 tears in
          is_told x.told _ t.0 t.1 (goes_torn file (second count turn file) t.0 (9 * count) 1 _ (leaves_second count room turn good file (seen file is) order rests) t.2 (in_third count room turn good file (seen file is) order rests)))

      module _ (x : DiskView) (opens : WritesBytes (9 * count) (1 ∷ []) w x) where
        pub stops_at_fourth : (y : DiskView) → IsAsTold x y → LeavesOrder count turn old y
        stops_at_fourth y same = if_told old.told _ (λ file is order rests.
            is_told y.told _ _ (told_same x y _ (told_written w x _ (told_second file is) (9 * count) (1 ∷ []) opens) same) (leaves_third count room turn good file (seen file is) order rests))

        module _ (y : DiskView) (ends : Syncs x y) where
          told_fourth : (file : File) → old.told ≡ Some file → y.told ≡ Some (fourth count turn file)
          told_fourth file is = told_synced x y _ (told_written w x _ (told_second file is) (9 * count) (1 ∷ []) opens) ends

          pub ends_well : LeavesOrder count turn old y
          ends_well = if_told old.told _ (λ file is order rests. is_told y.told _ _ (told_fourth file is) (leaves_fourth count room turn good file (seen file is) order rests))

          pub ends_added : AddsTurn count turn old y
          ends_added = if_told old.told _ (λ file is order rests. if_is_told y.told _ _ (told_fourth file is) (rests_fourth count room turn good file (seen file is) order rests))

-- there is a byte at each place up to the gate
pub has_gate : (inner count : ℕ) → inner ≡ count → (old : DiskView) → IsImage old → Rests count old → IfSome old.told (λ file. 9 * inner + 1 ≤ length file.seen)
has_gate inner count same old image rests = if_told old.told _ (λ file is.
    let order = of_told old.told _ file is rests in
    let seen = order.1.only file.seen (of_told old.told _ file is image) in
    omega (arith, same, ap length seen, length-records order.0, length-append (records order.0) (0 ∷ []), order.1.counts))

gate_stays : (from : ℕ) (bytes : List ℕ) (told told' : Option File) → IfSome told (λ file. from + 1 ≤ length file.seen) → told' ≡ option_map synced (option_map (written (from + 1) bytes) told) → IfSome told' (λ file. from ≤ length file.seen)
gate_stays from bytes None told' place is = subst (λ o. IfSome o (λ file. from ≤ length file.seen)) (sym is) tt
gate_stays from bytes (Some file) told' place is = subst (λ o. IfSome o (λ file. from ≤ length file.seen)) (sym is) (omega (arith, place, (torn_written (from + 1) bytes file.seen place).no_shorter))

-- and there still is one once the record behind it is written and synced
pub has_gate_still : (from : ℕ) (bytes : List ℕ) (old v w : DiskView) → IfSome old.told (λ file. from + 1 ≤ length file.seen) → WritesBytes (from + 1) bytes old v → Syncs v w → IfSome w.told (λ file. from ≤ length file.seen)
has_gate_still from bytes old v w place writes syncs = gate_stays from bytes old.told w.told place (syncs ∙ ap (λ o. option_map synced o) writes)

-- the calls as the body makes them
module _ (inner count : ℕ) (same : inner ≡ count) (old new : DiskView) where
  pub as_written : (turn : Turn) (bytes : List ℕ) → bytes ≡ behind turn → WritesBytes (9 * inner + 1) bytes old new → WritesBytes (9 * count + 1) (behind turn) old new
  as_written turn bytes is writes = subst (λ n. WritesBytes (9 * n + 1) (behind turn) old new) same (subst (λ b. WritesBytes (9 * inner + 1) b old new) is writes)

  pub as_torn : (turn : Turn) (bytes : List ℕ) → bytes ≡ behind turn → MayTear (9 * inner + 1) (length bytes) old new → MayTear (9 * count + 1) 9 old new
  as_torn turn bytes is tears = subst (λ n. MayTear (9 * n + 1) 9 old new) same (subst (λ b. MayTear (9 * inner + 1) (length b) old new) is tears)

  pub as_opened : WritesBytes (9 * inner) (1 ∷ []) old new → WritesBytes (9 * count) (1 ∷ []) old new
  as_opened writes = subst (λ n. WritesBytes (9 * n) (1 ∷ []) old new) same writes

  pub as_gate_torn : MayTear (9 * inner) 1 old new → MayTear (9 * count) 1 old new
  as_gate_torn tears = subst (λ n. MayTear (9 * n) 1 old new) same tears

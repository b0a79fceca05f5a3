-- Reading records one by one.
use Rattle.std.proofs.Common.{◌≡◌, Option, Some, None, ◌==◌, inl, inr, ℕ, zero, suc, ◌+◌, ◌-◌, ◌*◌, ◌≤◌, ◌<◌, List, [], ◌∷◌, ◌++◌, length, take, drop, refl, sym, ◌∙◌, ap, subst, arith, true, false, Result, Ok, Err, append_assoc, length-append}
use Rattle.std.specs.Prelude.{nat_lt, if◌then◌else◌, IfSome, IfErr}
use Rattle.std.specs.Int.{w32, from_be_bytes}
use Rattle.std.proofs.lemmas.Bool.{cases_lt}
use Rattle.std.proofs.lemmas.Bool.{false≢true}
use Rattle.std.proofs.lemmas.List.{append-nil, take_all, drop-take, length-take, length-drop, map-append, drop-drop}
use Rattle.std.proofs.lemmas.Bool.Decides.{nat_tests}
use Rattle.fx_base.specs.Limits.{txn_limit}
use Rattle.fx_durable.specs.Journal.{turn_before, reading, is_open, turn_in, turn_of, turns_of, IsReadImage, ReadsOrder, HasJournalFault, IsCalm}
use Rattle.fx_durable.specs.Disk.{File, DiskView, IsAsTold, TellsLength}
use Rattle.fx_durable.specs.declared.journal_fault.JournalFault.{JournalFault}
use Rattle.fx_durable.specs.declared.journal_fault.JournalFault.TheVariants as fault
use Rattle.fx_spec.specs.Plans.{Turn}
use Rattle.fx_machine.specs.declared.entry.Pair.{Pair}

pub turns-push : (pairs : List Pair) (pair : Pair) → turns_of (pairs ++ pair ∷ []) ≡ turns_of pairs ++ turn_of pair ∷ []
turns-push pairs pair = map-append turn_of pairs (pair ∷ [])

-- what is read behind this order
abbrev pub behind_order : List Turn → Result (List Turn) ℕ → Result (List Turn) ℕ
behind_order order (Ok more) = Ok (order ++ more)
behind_order order (Err record_number) = Err (length order + record_number)

pub behind_more : (order : List Turn) (turn : Turn) (r : Result (List Turn) ℕ) → behind_order order (turn_before turn r) ≡ behind_order (order ++ turn ∷ []) r
behind_more order turn (Ok more) = ap (λ l. Ok l) (sym (append_assoc order (turn ∷ []) more))
behind_more order turn (Err n) = ap (λ m. Err m) (omega (arith, length-append order (turn ∷ [])))

pub behind_none : (r : Result (List Turn) ℕ) → r ≡ behind_order [] r
behind_none (Ok more) = refl
behind_none (Err n) = ap (λ m. Err m) (omega arith)

-- so far this order was read, and the next record begins at this place
pub record IsReadTo (bytes : List ℕ) (order : List Turn) (place : ℕ) : Type 0 where
  pub read : reading txn_limit bytes ≡ behind_order order (reading (txn_limit - length order) (drop place bytes))
  pub size : length order ≤ txn_limit
  pub inside : place ≤ length bytes

pub reading_end : (left : ℕ) (image : List ℕ) → is_open image ≡ false → reading left image ≡ Ok []
reading_end left [] shut = refl
reading_end zero (gate ∷ rest) shut = rw shut refl
reading_end (suc left) (gate ∷ rest) shut = rw shut refl

reading_full : (left : ℕ) (image : List ℕ) → is_open image ≡ true → left ≡ 0 → reading left image ≡ Err 0
reading_full left [] open' none = absurd (false≢true open')
reading_full zero (gate ∷ rest) open' none = rw open' refl
reading_full (suc left) (gate ∷ rest) open' none = absurd (omega (arith, none))

is_short : (rest : List ℕ) → length rest < 8 → nat_lt (length rest) 8 ≡ true
is_short rest short = grind (arith, nat_tests)

is_long : (rest : List ℕ) → 8 ≤ length rest → nat_lt (length rest) 8 ≡ false
is_long rest long = grind (arith, nat_tests)

reading_short : (left : ℕ) (image : List ℕ) → is_open image ≡ true → length (drop 1 image) < 8 → reading left image ≡ Err 0
reading_short left [] open' short = absurd (false≢true open')
reading_short zero (gate ∷ rest) open' short = rw open' refl
reading_short (suc left) (gate ∷ rest) open' short = rw (open', is_short rest short) refl

reading_one : (left : ℕ) (image : List ℕ) → is_open image ≡ true → 8 ≤ length (drop 1 image) → reading (suc left) image ≡ turn_before (turn_in (drop 1 image)) (reading left (drop 9 image))
reading_one left [] open' long = absurd (false≢true open')
reading_one left (gate ∷ rest) open' long = rw (open', is_long rest long) refl

module _ (bytes : List ℕ) (order : List Turn) (place : ℕ) (so_far : IsReadTo bytes order place) where
  pub ends : is_open (drop place bytes) ≡ false → reading txn_limit bytes ≡ Ok order
  ends shut = so_far.read ∙ ap (behind_order order) (reading_end (txn_limit - length order) (drop place bytes) shut) ∙ ap (λ l. Ok l) (append-nil order)

  breaks : reading (txn_limit - length order) (drop place bytes) ≡ Err 0 → reading txn_limit bytes ≡ Err (length order)
  breaks is = so_far.read ∙ ap (behind_order order) is ∙ ap (λ n. Err n) (omega arith)

  pub is_full : is_open (drop place bytes) ≡ true → txn_limit ≤ length order → reading txn_limit bytes ≡ Err (length order)
  is_full open' full = breaks (reading_full (txn_limit - length order) (drop place bytes) open' (omega (arith, full)))

  behind : drop 1 (drop place bytes) ≡ drop (place + 1) bytes
  behind = drop-drop 1 place bytes

  pub is_cut : is_open (drop place bytes) ≡ true → length (drop (place + 1) bytes) < 8 → reading txn_limit bytes ≡ Err (length order)
  is_cut open' short = breaks (reading_short (txn_limit - length order) (drop place bytes) open' (omega (arith, short, ap length behind)))

  pub goes_on : (turn : Turn) → is_open (drop place bytes) ≡ true → length order < txn_limit → 8 ≤ length (drop (place + 1) bytes) → turn ≡ turn_in (drop (place + 1) bytes) → IsReadTo bytes (order ++ turn ∷ []) (place + 9)
  goes_on turn open' room long is =
      let image = drop place bytes in
      let m = txn_limit - length (order ++ turn ∷ []) in
      let count : length (order ++ turn ∷ []) ≡ length order + 1 = length-append order (turn ∷ []) in
      let left : txn_limit - length order ≡ suc m = omega (arith, count, room) in
      let first : turn_in (drop 1 image) ≡ turn = ap turn_in behind ∙ sym is in
      record {
        read = so_far.read
            ∙ ap (λ n. behind_order order (reading n image)) left
            ∙ ap (behind_order order) (reading_one m image open' (omega (arith, long, ap length behind)))
            ∙ behind_more order (turn_in (drop 1 image)) (reading m (drop 9 image))
            ∙ (λ i. behind_order (order ++ first i ∷ []) (reading m (drop-drop 9 place bytes i)));
        size = omega (arith, count, room);
        inside = omega (arith, long, length-drop (place + 1) bytes);
      }

pub begins : (bytes : List ℕ) (order : List Turn) → order ≡ [] → IsReadTo bytes order 0
begins bytes order none = subst (λ p. IsReadTo bytes p 0) (sym none) (record { read = behind_none (reading txn_limit bytes); size = omega arith; inside = omega arith })

take_take : (m n : ℕ) (l : List ℕ) → m ≤ n → take m (take n l) ≡ take m l
take_take zero n l le = refl
take_take (suc m) zero l le = absurd (omega (arith, le))
take_take (suc m) (suc n) [] le = refl
take_take (suc m) (suc n) (x ∷ l) le = ap (λ (t : List ℕ). x ∷ t) (take_take m n l (omega (arith, le)))

drop_take : (k n : ℕ) (l : List ℕ) → k ≤ n → drop k (take n l) ≡ take (n - k) (drop k l)
drop_take k n l le = ap (λ m. drop k (take m l)) (split k n le) ∙ drop-take k (n - k) l
  where
    split : (k n : ℕ) → k ≤ n → n ≡ k + (n - k)
    split k n le = omega (arith, le)

first_same : (n : ℕ) (rest : List ℕ) → 8 ≤ n → turn_in (take n rest) ≡ turn_in rest
first_same n rest enough = λ i. (from_be_bytes w32 (take_take 4 n rest (omega (arith, enough)) i), from_be_bytes w32 (second n rest enough i))
  where
    second : (n : ℕ) (rest : List ℕ) → 8 ≤ n → take 4 (drop 4 (take n rest)) ≡ take 4 (drop 4 rest)
    second n rest enough = ap (λ l. take 4 l) (drop_take 4 n rest (omega (arith, enough))) ∙ take_take 4 (n - 4) (drop 4 rest) (omega (arith, enough))

-- a front that holds all that counts is read as the whole
pub reading_front : (left : ℕ) (image : List ℕ) (n : ℕ) → 9 * left + 1 ≤ n → reading left (take n image) ≡ reading left image
reading_front left [] zero enough = refl
reading_front left [] (suc n) enough = refl
reading_front left (gate ∷ rest) zero enough = absurd (omega (arith, enough))
reading_front zero (gate ∷ rest) (suc n) enough = refl
reading_front (suc left) (gate ∷ rest) (suc n) enough = elim (cases_lt (length rest) n) [
  | inl short ↦ ap (λ r. reading (suc left) (gate ∷ r)) (take_all n rest (omega (arith, short)))
  | inr long ↦
      let enough_here : 8 ≤ n = omega (arith, enough) in
      let size : length (take n rest) ≡ n = length-take n rest ∙ omega (arith, long) in
      let test : nat_lt (length (take n rest)) 8 ≡ nat_lt (length rest) 8 = is_long (take n rest) (omega (arith, size, enough_here)) ∙ sym (is_long rest (omega (arith, long, enough_here))) in
      let more : reading left (drop 8 (take n rest)) ≡ reading left (drop 8 rest) =
      ap (λ l. reading left l) (drop_take 8 n rest enough_here) ∙ reading_front left (drop 8 rest) (n - 8) (omega (arith, enough)) in
      λ i. if gate == 1 then (if test i then Err 0 else turn_before (first_same n rest enough_here i) (more i)) else Ok []
]

same_reading : (seen bytes : List ℕ) → IsReadImage seen bytes → reading txn_limit bytes ≡ reading txn_limit seen
same_reading seen bytes is = elim (cases_lt (length bytes) 900001) [
  | inl short ↦ ap (λ l. reading txn_limit l) (is.whole short)
  | inr long ↦ ap (λ l. reading txn_limit l) is.front ∙ reading_front txn_limit seen (length bytes) (omega (arith, long))
]

reads_same : (seen bytes : List ℕ) (r : Result (List Pair) JournalFault) → reading txn_limit bytes ≡ reading txn_limit seen → ReadsOrder bytes r → ReadsOrder seen r
reads_same seen bytes (Ok pairs) same reads = sym same ∙ reads
reads_same seen bytes (Err (fault.Broken n)) same reads = sym same ∙ reads
reads_same seen bytes (Err fault.Failed) same reads = tt
reads_same seen bytes (Err fault.NoMemory) same reads = tt

reads_at : (told : Option File) (bytes : List ℕ) (r : Result (List Pair) JournalFault) → IfSome told (λ file. IsReadImage file.seen bytes) → ReadsOrder bytes r → IfSome told (λ file. ReadsOrder file.seen r)
reads_at None bytes r is reads = tt
reads_at (Some file) bytes r is reads = reads_same file.seen bytes r (same_reading file.seen bytes is) reads

pub reads_told : (old mid : DiskView) (bytes : List ℕ) (r : Result (List Pair) JournalFault) → IsAsTold old mid → IfSome mid.told (λ file. IsReadImage file.seen bytes) → ReadsOrder bytes r → IfSome old.told (λ file. ReadsOrder file.seen r)
reads_told old mid bytes r same is reads = reads_at old.told bytes r (subst (λ t. IfSome t (λ file. IsReadImage file.seen bytes)) same is) reads

tells_at : (told : Option File) (path : List ℕ) (n : ℕ) → IfSome told (λ file. (file.path ≡ path) × (n ≡ length file.seen)) → IfSome told (λ file. file.path ≡ path)
tells_at None path n answer = tt
tells_at (Some file) path n answer = answer.0

-- whatever the bytes of a chosen file spell, what was read is at the path
pub reads_chosen : (path : List ℕ) (n : ℕ) (old new : DiskView) (r : Result (List Pair) JournalFault) → TellsLength old path n → IfErr r (λ e. e ≡ fault.Failed → ⊥) → HasJournalFault path old new r
reads_chosen path n old new (Ok pairs) answer failed = tells_at old.told path n answer
reads_chosen path n old new (Err (fault.Broken place)) answer failed = tells_at old.told path n answer
reads_chosen path n old new (Err fault.Failed) answer failed = absurd (failed refl)
reads_chosen path n old new (Err fault.NoMemory) answer failed = tt

-- whatever the bytes of a file spell, the disk did not fail where they were read
pub reads_calm : (old new : DiskView) (r : Result (List Pair) JournalFault) → new.faults ≡ old.faults → IsCalm old new r
reads_calm old new (Ok pairs) calm = calm
reads_calm old new (Err (fault.Broken place)) calm = calm
reads_calm old new (Err fault.Failed) calm = tt
reads_calm old new (Err fault.NoMemory) calm = tt

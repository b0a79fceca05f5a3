-- An attempt in its shell's diary: its looks, and that it settles or starts again.
use Rattle.std.proofs.Common.{◌≡◌, ◌≢◌, ⊎_elim, ℕ, zero, suc, ◌<◌, ◌≤◌, Bool, true, false, cond, nat_eq, List, [], ◌∷◌, ◌++◌, length, take, drop, slice_get, Option, Some, None, refl, sym, ap, subst, ◌∙◌, arith, append_assoc, take-append-drop, length-take-le}
use Rattle.std.specs.FinMap.{get}
use Rattle.std.specs.List.{cons_option}
use Rattle.std.specs.Ordering.{eq_by_cmp}
use Rattle.std.proofs.lemmas.Bool.{cases_lt, eqb-false}
use Rattle.std.proofs.lemmas.Bool.Decides.{nat_tests}
use Rattle.std.proofs.lemmas.List.{append-nil, map-append}
use Rattle.std.proofs.lemmas.Option.{none-some, same_Some}
use Rattle.fx_base.proofs.Lists.{some_at}
use Rattle.fx_store.specs.declared.node.Node.{Node}
use Rattle.fx_store.specs.Names.{IsPath, path_cmp}
use Rattle.fx_store.specs.Whole.{Nodes}
use Rattle.fx_spec.specs.CommandTree.{CommandTree}
use Rattle.fx_spec.specs.Plans.{Turn, txn_of}
use Rattle.fx_spec.specs.Order.{BaseTree, state, numbers_of}
use Rattle.fx_spec.proofs.Orders.{state-front}
use Rattle.fx_view.specs.ReadList.{ReadList}
use Rattle.fx_view.specs.Reads.{read_at, nodes_in}
use Rattle.fx_view.proofs.Lists.{read_more_cases}
use Rattle.fx_machine.specs.declared.event.Event.TheVariants as event
use Rattle.fx_machine.specs.declared.retry.Retry.{Retry}
use Rattle.fx_machine.specs.Machine.{Look, HasSeenAll, next_number}
use Rattle.fx_machine.specs.Passes.{AreTrueReads}
use Rattle.fx_machine.specs.Tried.{conflicts_of}
use Rattle.fx_machine.specs.Needs.{IsNext, Foretells, AllRead}
use Rattle.fx_board.specs.Board.{IsFreshReads, IsNamed}
use Rattle.fx_board.specs.Log.{Log}
use Rattle.fx_diaries.specs.Looks.{looks_in}
use Rattle.fx_diaries.proofs.Looks.{unlooked, comes_next, has_seen_all, fresh_at, named_at}
use Rattle.fx_diaries.specs.Diaries.{DoesInShell, Diary}
use Rattle.fx_board.specs.Positions.{InTurn}
use Rattle.fx_diaries.proofs.Growing.{by_event, by_other, by_own}
use Rattle.fx_board.proofs.Positions.{in_turn_ends, in_turn_by}

abbrev Path : Type 0
Path = List (List ℕ)

abbrev Read : Type 0
Read = Option Node × ℕ

-- ---- a shell's transactions in fronts of an order

-- a longer front has no fewer
pub next_rises : (o : List Turn) (shell a b : ℕ) → a ≤ b → next_number (take a o) shell ≤ next_number (take b o) shell
next_rises [] shell zero zero h = omega arith
next_rises [] shell zero (suc b) h = omega arith
next_rises [] shell (suc a) zero h = absurd (omega (arith, h))
next_rises [] shell (suc a) (suc b) h = omega arith
next_rises (turn ∷ o) shell zero b h = omega arith
next_rises (turn ∷ o) shell (suc a) zero h = absurd (omega (arith, h))
next_rises (turn ∷ o) shell (suc a) (suc b) h = by (nat_eq turn.0 shell) (next_rises o shell a b (omega (arith, h)))
  where
    by : (c : Bool) → next_number (take a o) shell ≤ next_number (take b o) shell → length (cons_option (cond c (Some turn.1) None) (numbers_of shell (take a o))) ≤ length (cons_option (cond c (Some turn.1) None) (numbers_of shell (take b o)))
    by true h = omega (arith, h)
    by false h = h

-- its own entry is one more
pub own_counts : (o : List Turn) (shell time : ℕ) (turn : Turn) → slice_get o time ≡ Some turn → turn.0 ≡ shell → next_number (take (suc time) o) shell ≡ suc (next_number (take time o) shell)
own_counts [] shell time turn at own = absurd (none-some turn at)
own_counts (x ∷ o) shell zero turn at own = by (nat_eq x.0 shell) refl
  where
    here : x.0 ≡ shell
    here = ap (λ (t : Turn). t.0) (same_Some x turn at) ∙ own

    by : (c : Bool) → nat_eq x.0 shell ≡ c → length (cons_option (cond c (Some x.1) None) []) ≡ 1
    by true e = refl
    by false e = absurd (eqb-false x.0 shell e here)
own_counts (x ∷ o) shell (suc time) turn at own = by (nat_eq x.0 shell) (own_counts o shell time turn at own)
  where
    by : (c : Bool) → next_number (take (suc time) o) shell ≡ suc (next_number (take time o) shell) → length (cons_option (cond c (Some x.1) None) (numbers_of shell (take (suc time) o))) ≡ suc (length (cons_option (cond c (Some x.1) None) (numbers_of shell (take time o))))
    by true e = ap suc e
    by false e = e

-- between two fronts with as many it has no entry
pub quiet_between : (o : List Turn) (shell number first last : ℕ) → next_number (take first o) shell ≡ number → next_number (take last o) shell ≡ number → (time : ℕ) → first ≤ time → time ≤ last → next_number (take time o) shell ≡ number
quiet_between o shell number first last old new time low high =
    let more = next_rises o shell first time low in
    let most = next_rises o shell time last high in
    omega (arith, old, new, more, most)

-- ---- reads

-- what a front of the reads has, all of them have
read_front : (front rest : ReadList) (path : Path) (read : Read) → read_at front path ≡ Some read → read_at (front ++ rest) path ≡ Some read
read_front [] rest path read e = absurd (none-some read e)
read_front (x ∷ front) rest path read e = by (eq_by_cmp path_cmp path x.0) e (read_front front rest path read)
  where
    by : (c : Bool) → cond c (Some x.1) (read_at front path) ≡ Some read → (read_at front path ≡ Some read → read_at (front ++ rest) path ≡ Some read) → cond c (Some x.1) (read_at (front ++ rest) path) ≡ Some read
    by true e rest = e
    by false e rest = rest e

-- all looks were made by a time
abbrev EndBy : ReadList → ℕ → Type 0
EndBy reads time = (path : Path) (node : Option Node) (position : ℕ) → read_at reads path ≡ Some (node, position) → position ≤ time

one_conflict : (shell n entry : ℕ) (path : Path) → conflicts_of shell n (event.Conflict shell entry path ∷ []) ≡ record { shell = shell; txn = n; entry = entry; path = path } ∷ []
one_conflict shell n entry path =
    let same : nat_eq shell shell ≡ true = grind (arith, nat_tests) in
    let retry : Retry = record { shell = shell; txn = n; entry = entry; path = path } in
    ap (λ b. cond b (retry ∷ []) []) same

-- ---- the attempt

-- between two times the shell has no entry
module _ (base : BaseTree) (o : List Turn) (shell number first last : ℕ) (within : last ≤ length o) (quiet : (time : ℕ) → first ≤ time → time ≤ last → next_number (take time o) shell ≡ number) where
  others : (time : ℕ) (turn : Turn) → first ≤ time → time < last → slice_get o time ≡ Some turn → turn.0 ≢ shell
  others time turn low high at own =
      let one = own_counts o shell time turn at own in
      let old = quiet time low (omega (arith, high)) in
      let new = quiet (suc time) (omega (arith, low)) (omega (arith, high)) in
      omega (arith, one, old, new)

  pub waits_to : (later time : ℕ) (looks : List Look) (retries : List Retry) → first ≤ time → time ≤ later → later ≤ last → Diary base o shell time looks retries → Diary base o shell later looks retries
  waits_to zero time looks retries low up high d = subst (λ t. Diary base o shell t looks retries) (let e : time ≡ 0 = omega (arith, up) in e) d
  waits_to (suc later) time looks retries low up high d = ⊎_elim
      (λ (early : time < suc later). (let before : time ≤ later = omega (arith, early) in let turn = some_at o later (omega (arith, high, within)) in
      by_other base o shell later looks retries turn.0 (waits_to later time looks retries low before (omega (arith, high)) d) turn.1 (others later turn.0 (omega (arith, low, before)) high turn.1)))
      (λ (late : suc later ≤ time). subst (λ t. Diary base o shell t looks retries) (let e : time ≡ suc later = omega (arith, up, late) in e) d) (cases_lt time (suc later))

  module _ (t : List CommandTree) (planned : txn_of base.plan (shell, number) ≡ Some t) (reads : ReadList) (foretold : Foretells base (shell, number) [] reads) (true_reads : AreTrueReads base o reads) where
    next_at : (time : ℕ) → first ≤ time → time ≤ last → txn_of base.plan (shell, next_number (take time o) shell) ≡ Some t
    next_at time low high = ap (λ n. txn_of base.plan (shell, n)) (quiet time low high) ∙ planned

    -- the first reads, which were made by a time, are true for the entries before it
    true_then : (front rest : ReadList) (time : ℕ) → front ++ rest ≡ reads → time ≤ last → EndBy front time → AreTrueReads base (take time o) front
    true_then front rest time whole high by path node position e =
        let early : position ≤ time = by path node position e in
        let told = true_reads path node position (subst (λ reads. read_at reads path ≡ Some (node, position)) whole (read_front front rest path (node, position) e)) in
        let size : length (take time o) ≡ time = length-take-le time o (omega (arith, high, within)) in
        let short : position ≤ length (take time o) = omega (arith, early, size) in
        let same : state base o position ≡ state base (take time o) position = ap (λ o. state base o position) (sym (take-append-drop time o)) ∙ state-front base (take time o) (drop time o) position short in
        (short, told.1 ∙ ap (λ (nodes : Nodes). get nodes path) same)

    -- one look more
    look : (front rest : ReadList) (r : Path × Read) (time : ℕ) (retries : List Retry) → front ++ r ∷ rest ≡ reads → first ≤ time → time ≤ r.1.1 → r.1.1 ≤ last → IsPath r.0 → EndBy front time → Diary base o shell time (looks_in front) retries → Diary base o shell r.1.1 (looks_in (front ++ r ∷ [])) retries
    look front rest r time retries whole low up high valid by d =
        let next : IsNext base (shell, number) front r.0 = foretold front r.0 r.1.0 (nodes_in rest) (omega arith) (ap nodes_in (sym whole) ∙ map-append (λ (r : Path × Read). (r.0, r.1.0)) front (r ∷ rest)) in
        let size : length (take r.1.1 o) ≡ r.1.1 = length-take-le r.1.1 o (omega (arith, high, within)) in
        let by_now : EndBy front r.1.1 = λ path node position e. (let h = by path node position e in omega (arith, h, up)) in
        let does : DoesInShell base (take r.1.1 o) shell (looks_in front) (event.Look shell r.0 r.1.1) (looks_in (front ++ r ∷ [])) = (
          refl,
          record {
            txn = t;
            next = next_at r.1.1 (omega (arith, low, up)) high;
            valid = valid;
            unseen = unlooked front r.0 next.unread;
            first = comes_next base (take r.1.1 o) (shell, number) front t r.0 (true_then front (r ∷ rest) r.1.1 whole high by_now) next.needed planned;
            now = sym size;
            after = map-append (λ (r : Path × Read). (r.0, r.1.1)) front (r ∷ []);
          },
        ) in
        subst (Diary base o shell r.1.1 (looks_in (front ++ r ∷ []))) (append-nil retries)
        (by_event base o shell r.1.1 (looks_in front) (looks_in (front ++ r ∷ [])) retries (event.Look shell r.0 r.1.1) (waits_to r.1.1 time (looks_in front) retries low up high d) does)

    looks_on : (rest front : ReadList) (time : ℕ) (retries : List Retry) → front ++ rest ≡ reads → first ≤ time → InTurn time last rest → EndBy front time → Diary base o shell time (looks_in front) retries → Diary base o shell last (looks_in reads) retries
    looks_on [] front time retries whole low turns by d =
        subst (λ rs. Diary base o shell last (looks_in rs) retries) (sym (append-nil front) ∙ whole) (waits_to last time (looks_in front) retries low turns (omega arith) d)
    looks_on (r ∷ rest) front time retries whole low turns by d =
        let up : time ≤ r.1.1 = turns.0 in
        let high : r.1.1 ≤ last = in_turn_ends r.1.1 last rest turns.2 in
        let by_now : EndBy (front ++ r ∷ []) r.1.1 = λ path node position e. ⊎_elim
        (λ (old : read_at front path ≡ Some (node, position)). (let h = by path node position old in omega (arith, h, up)))
        (λ (new : (path ≡ r.0) × (r.1 ≡ (node, position))). (let same = ap (λ (r : Read). r.1) new.1 in omega (arith, same))) (read_more_cases front r.0 r.1 path (node, position) e) in
        looks_on rest (front ++ r ∷ []) r.1.1 retries (append_assoc front (r ∷ []) rest ∙ whole) (omega (arith, low, up)) turns.2 by_now
        (look front rest r time retries whole low up high turns.1 by d)

    module _ (retries : List Retry) (turns : InTurn first last reads) (all : AllRead base (shell, number) reads) (d : Diary base o shell first [] retries) where
      looked : Diary base o shell last (looks_in reads) retries
      looked = looks_on reads [] first retries refl (omega arith) turns (λ path node position e. absurd (none-some (node, position) e)) d

      on : first ≤ last
      on = in_turn_ends first last reads turns

      ready : HasSeenAll base (take last o) (looks_in reads) t
      ready = has_seen_all base (take last o) (shell, number) reads t (true_then reads [] last (append-nil reads) (omega arith) (λ path node position e. (in_turn_by first last reads turns path node position e).1)) all planned

      -- none of its reads was changed, and it settles
      pub settles : (turn : Turn) → slice_get o last ≡ Some turn → turn.0 ≡ shell → turn.1 ≡ number → IsFreshReads base (take last o) reads → Diary base o shell (suc last) [] retries
      settles turn at own numbered fresh =
          by_own base o shell last (looks_in reads) retries turn looked at own (record { txn = t; next = next_at last on (omega arith); ready = ready; fresh = fresh_at base (take last o) reads fresh }) (numbered ∙ sym (quiet last on (omega arith)))

      -- an entry has changed one of them, and it starts again
      pub restarts : (entry : ℕ) (path : Path) → IsNamed (record { base = base; order = take last o }) reads entry path → Diary base o shell last [] (retries ++ record { shell = shell; txn = number; entry = entry; path = path } ∷ [])
      restarts entry path named =
          let log : Log = record { base = base; order = take last o } in
          let does : DoesInShell base (take last o) shell (looks_in reads) (event.Conflict shell entry path) [] = (refl, record { txn = t; next = next_at last on (omega arith); ready = ready; named = named_at log reads entry path named; after = refl }) in
          subst (λ n. Diary base o shell last [] (retries ++ record { shell = shell; txn = n; entry = entry; path = path } ∷ [])) (quiet last on (omega arith))
          (subst (λ more. Diary base o shell last [] (retries ++ more)) (one_conflict shell (next_number (take last o) shell) entry path) (by_event base o shell last (looks_in reads) [] retries (event.Conflict shell entry path) looked does))

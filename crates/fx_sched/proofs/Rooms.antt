-- How many retries a run has noted.
use Rattle.std.proofs.Common.{◌≡◌, ℕ, zero, suc, ◌+◌, ◌≤◌, List, [], ◌∷◌, ◌++◌, length, get_or, set, replicate, Option, Some, None, map, take, ◌<◌, sym, ap, subst, ◌∙◌, arith, length-append}
use Rattle.std.proofs.lemmas.List.{map-id}
use Rattle.fx_machine.specs.declared.event.Event.{Event}
use Rattle.fx_machine.specs.declared.event.Event.TheVariants as event
use Rattle.fx_machine.specs.declared.retry.Retry.{Retry}
use Rattle.fx_machine.specs.Machine.{next_number}
use Rattle.fx_board.specs.Log.{Log}
use Rattle.fx_sched.specs.declared.shell.Shell.{Shell}
use Rattle.fx_sched.specs.Moves.{retry_of}
use Rattle.fx_sched.specs.Recorded.{joined}
use Rattle.fx_sched.specs.Running.{Running}
use Rattle.fx_sched.specs.World.{conflicts_in, new_shell, noted, running_of, HasRoomFor, Stepped}
use Rattle.fx_sched.proofs.Worlds.{retries_in}

none_noted : (n : ℕ) → length (joined (retries_in (replicate n new_shell))) ≤ 0
none_noted zero = omega arith
none_noted (suc n) = none_noted n

one_more : (lists : List (List Retry)) (k : ℕ) (r : Retry) → length (joined (set lists k (get_or lists k [] ++ r ∷ []))) ≤ suc (length (joined lists))
one_more [] k r = omega arith
one_more (x ∷ xs) zero r = omega (arith, length-append (x ++ r ∷ []) (joined xs), length-append x (r ∷ []), length-append x (joined xs))
one_more (x ∷ xs) (suc k) r = omega (arith, one_more xs k r, length-append x (joined (set xs k (get_or xs k [] ++ r ∷ []))), length-append x (joined xs))

room_noted : (txn : ℕ) (lists : List (List Retry)) (e : Event) → length (joined (noted txn lists e)) ≤ length (joined lists) + conflicts_in (Some e)
room_noted txn lists (event.Look k path position) = omega arith
room_noted txn lists (event.Settled k entry) = omega arith
room_noted txn lists (event.Conflict k entry path) = omega (arith, one_more lists k (retry_of k txn entry path))

room_stepped : (old new : Running) (shell : ℕ) (event : Option Event) → Stepped old shell new event → length (joined new.retries) ≤ length (joined old.retries) + conflicts_in event
room_stepped old new shell None s = subst (λ (r : Running). length (joined r.retries) ≤ length (joined old.retries) + 0) (sym s.1) (omega arith)
room_stepped old new shell (Some e) s =
    subst (λ lists. length (joined lists) ≤ length (joined old.retries) + conflicts_in (Some e)) (sym s.retries) (room_noted (next_number new.machine.order shell) old.retries e)

-- room for a step's retry is enough behind the step
pub room_after : (old new : Log) (shells shells' : List Shell) (shell count count' : ℕ) (event : Option Event) → HasRoomFor count shells → count' ≡ count + conflicts_in event → Stepped (running_of old shells) shell (running_of new shells') event → HasRoomFor count' shells'
room_after old new shells shells' shell count count' event room more stepped =
    let noted = room_stepped (running_of old shells) (running_of new shells') shell event stepped in
    omega (arith, room, more, noted)

-- ---- joining the retries of all shells

front_fits : (all : List Shell) (n : ℕ) (s : Shell) → n < length all → s ≡ get_or all n s → length (joined (retries_in (take n all))) + length s.retries ≤ length (joined (retries_in all))
front_fits [] n s inside is = absurd (omega (arith, inside))
front_fits (x ∷ xs) zero s inside is =
    let same : length s.retries ≡ length x.retries = ap (λ (s : Shell). length s.retries) is in
    omega (arith, same, length-append x.retries (joined (retries_in xs)))
front_fits (x ∷ xs) (suc n) s inside is =
    omega (arith, front_fits xs n s (omega (arith, inside)) is, length-append x.retries (joined (retries_in (take n xs))), length-append x.retries (joined (retries_in xs)))

-- the retries of those before a shell are joined, and there is room for the shell's
pub room_left : (all yielded : List Shell) (s : Shell) (got : List Retry) (capacity : ℕ) → map (λ (s : Shell). s) yielded ≡ take (length yielded) all → (length yielded < length all) × (s ≡ get_or all (length yielded) s) → got ≡ joined (retries_in yielded) → length (joined (retries_in all)) ≤ capacity → length got + length s.retries ≤ capacity
room_left all yielded s got capacity front turn is room =
    let before : yielded ≡ take (length yielded) all = sym (map-id yielded) ∙ front in
    let got_before : length got ≡ length (joined (retries_in (take (length yielded) all))) = ap length is ∙ ap (λ ys. length (joined (retries_in ys))) before in
    omega (arith, got_before, room, front_fits all (length yielded) s turn.0 turn.1)

pub room_started : (shells : List Shell) (n count : ℕ) → shells ≡ replicate n new_shell → count ≡ 0 → HasRoomFor count shells
room_started shells n count is none = subst (λ l. length (joined (retries_in l)) ≤ count) (sym is) (omega (arith, none_noted n, none))

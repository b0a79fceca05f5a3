-- The arguments of a command, read at their places.
use Rattle.std.proofs.Common.{◌≡◌, ℕ, ◌+◌, ◌-◌, ◌<◌, ◌≤◌, Bool, true, false, cond, List, [], ◌∷◌, length, drop, Option, Some, None, refl, sym, ap, ap₂, ◌∙◌, arith, length-drop}
use Rattle.std.specs.Prelude.{is_some, slice_get}
use Rattle.std.specs.Option.{option_map, option_map_or, unwrap_or}
use Rattle.std.proofs.lemmas.Bool.Decides.{nat_tests}
use Rattle.fx_words.specs.declared.job.Inputs as code_inputs
use Rattle.fx_words.specs.Job.{Inputs, Mode, RunJob, AuditJob, JournalJob, RecoverJob, ViewsJob, Plain, Scheduled, audit_job, is_within, journal_job, recover_job, run_job, schedule_of, scheduled_job, show_job, views_job}
use Rattle.fx_words.specs.JobOf.{BeginAt, asked_inputs, has_schedule, scripts_in, shells_read}
use Rattle.fx_words.proofs.Lists.{drop_there}

abbrev Text : Type 0
Text = List ℕ

next : (ws : List Text) (i : ℕ) (x : Text) → slice_get ws i ≡ Some x → drop i ws ≡ x ∷ drop (i + 1) ws
next ws i x e = drop_there ws i x (sym e)

two : (ws : List Text) (a b : Text) → slice_get ws 1 ≡ Some a → slice_get ws 2 ≡ Some b → drop 1 ws ≡ a ∷ b ∷ drop 3 ws
two ws a b e f = next ws 1 a e ∙ ap (λ r. a ∷ r) (next ws 2 b f)

three : (ws : List Text) (a b c : Text) → slice_get ws 1 ≡ Some a → slice_get ws 2 ≡ Some b → slice_get ws 3 ≡ Some c → drop 1 ws ≡ a ∷ b ∷ c ∷ drop 4 ws
three ws a b c e f g = two ws a b e f ∙ ap (λ r. a ∷ b ∷ r) (next ws 3 c g)

four : (ws : List Text) (a b c d : Text) → slice_get ws 1 ≡ Some a → slice_get ws 2 ≡ Some b → slice_get ws 3 ≡ Some c → slice_get ws 4 ≡ Some d → drop 1 ws ≡ a ∷ b ∷ c ∷ d ∷ drop 5 ws
four ws a b c d e f g h = three ws a b c e f g ∙ ap (λ r. a ∷ b ∷ c ∷ r) (next ws 4 d h)

five : (ws : List Text) (a b c d s : Text) → slice_get ws 1 ≡ Some a → slice_get ws 2 ≡ Some b → slice_get ws 3 ≡ Some c → slice_get ws 4 ≡ Some d → slice_get ws 5 ≡ Some s → drop 1 ws ≡ a ∷ b ∷ c ∷ d ∷ s ∷ drop 6 ws
five ws a b c d s e f g h k = four ws a b c d e f g h ∙ ap (λ r. a ∷ b ∷ c ∷ d ∷ r) (next ws 5 s k)

-- the rest is of 1 to 64 scripts
fits : (k : ℕ) (ws : List Text) → k < length ws → length ws ≤ k + 64 → is_within 1 64 (length (drop k ws)) ≡ true
fits k ws some few =
    let rest : length (drop k ws) ≡ length ws - k = length-drop k ws in
    grind (arith, nat_tests)

-- or of 1 to 63 scripts
fits_beside : (k : ℕ) (ws : List Text) → k < length ws → length ws < k + 64 → is_within 1 63 (length (drop k ws)) ≡ true
fits_beside k ws some few =
    let rest : length (drop k ws) ≡ length ws - k = length-drop k ws in
    grind (arith, nat_tests)

abbrev inputs : Text → Text → List Text → ℕ → Inputs
inputs spec folder scripts first = record { spec = spec; folder = folder; scripts = scripts; first = first }

inputs_are : (ws : List Text) (first : ℕ) (i : code_inputs.Inputs) → BeginAt ws first i → inputs i.spec.now i.folder.now (drop first ws) first ≡ asked_inputs i
inputs_are ws first i begin = sym (ap₂ (λ (f : ℕ) (w : List Text). inputs i.spec.now i.folder.now (drop f w) f) begin.first_is begin.words_are)

scripts_are : (ws : List Text) (first : ℕ) (i : code_inputs.Inputs) → BeginAt ws first i → drop first ws ≡ scripts_in i
scripts_are ws first i begin = sym (ap₂ (λ (f : ℕ) (w : List Text). drop f w) begin.first_is begin.words_are)

-- ---- without a schedule

pub run_is : (ws : List Text) (i : code_inputs.Inputs) (out : Text) → BeginAt ws 4 i → slice_get ws 3 ≡ Some out → 4 < length ws → length ws ≤ 68 → run_job (drop 1 ws) ≡ Some (record { inputs = asked_inputs i; out = out; mode = Plain })
run_is ws i out begin e some few =
    let job : Inputs → RunJob = λ x. record { inputs = x; out = out; mode = Plain } in
    ap run_job (three ws i.spec.now i.folder.now out begin.spec begin.folder e)
    ∙ ap (λ b. cond b (Some (job (inputs i.spec.now i.folder.now (drop 4 ws) 4))) None) (fits 4 ws some few)
    ∙ ap (λ x. Some (job x)) (inputs_are ws 4 i begin)

pub audit_is : (ws : List Text) (i : code_inputs.Inputs) (report : Text) → BeginAt ws 4 i → slice_get ws 3 ≡ Some report → 4 < length ws → length ws ≤ 68 → audit_job (drop 1 ws) ≡ Some (record { inputs = asked_inputs i; report = report })
audit_is ws i report begin e some few =
    let job : Inputs → AuditJob = λ x. record { inputs = x; report = report } in
    ap audit_job (three ws i.spec.now i.folder.now report begin.spec begin.folder e)
    ∙ ap (λ b. cond b (Some (job (inputs i.spec.now i.folder.now (drop 4 ws) 4))) None) (fits 4 ws some few)
    ∙ ap (λ x. Some (job x)) (inputs_are ws 4 i begin)

pub recover_is : (ws : List Text) (i : code_inputs.Inputs) (journal out : Text) → BeginAt ws 5 i → slice_get ws 3 ≡ Some journal → slice_get ws 4 ≡ Some out → 5 < length ws → length ws ≤ 69 → recover_job (drop 1 ws) ≡ Some (record { inputs = asked_inputs i; journal = journal; out = out })
recover_is ws i journal out begin e f some few =
    let job : Inputs → RecoverJob = λ x. record { inputs = x; journal = journal; out = out } in
    ap recover_job (four ws i.spec.now i.folder.now journal out begin.spec begin.folder e f)
    ∙ ap (λ b. cond b (Some (job (inputs i.spec.now i.folder.now (drop 5 ws) 5))) None) (fits 5 ws some few)
    ∙ ap (λ x. Some (job x)) (inputs_are ws 5 i begin)

pub views_is : (ws : List Text) (i : code_inputs.Inputs) (out views : Text) → BeginAt ws 5 i → slice_get ws 3 ≡ Some out → slice_get ws 4 ≡ Some views → 5 < length ws → length ws < 69 → views_job (drop 1 ws) ≡ Some (record { inputs = asked_inputs i; out = out; views = views })
views_is ws i out views begin e f some few =
    let job : Inputs → ViewsJob = λ x. record { inputs = x; out = out; views = views } in
    ap views_job (four ws i.spec.now i.folder.now out views begin.spec begin.folder e f)
    ∙ ap (λ b. cond b (Some (job (inputs i.spec.now i.folder.now (drop 5 ws) 5))) None) (fits_beside 5 ws some few)
    ∙ ap (λ x. Some (job x)) (inputs_are ws 5 i begin)

-- so many scripts leave a place
pub beside : (ws : List Text) (i : code_inputs.Inputs) → BeginAt ws 5 i → 5 < length ws → length ws < 69 → length (scripts_in i) < 64
beside ws i begin some few =
    let rest : length (drop 5 ws) ≡ length ws - 5 = length-drop 5 ws in
    let same : length (drop 5 ws) ≡ length (scripts_in i) = ap length (scripts_are ws 5 i begin) in
    omega (arith, rest, same, some, few)

-- ---- with one

read_by : {X : Type 0} (job : List ℕ → X) (o : Option (List ℕ)) → is_some o ≡ true → option_map job o ≡ Some (job (unwrap_or o []))
read_by job None some = cc
read_by job (Some shells) some = refl

unread_by : {X : Type 0} (job : List ℕ → X) (b : Bool) (o : Option (List ℕ)) → is_some o ≡ false → cond b (option_map job o) None ≡ None
unread_by job true None none = refl
unread_by job false None none = refl
unread_by job b (Some shells) none = cc

schedule_read : (ws : List Text) (place : ℕ) (s : Text) → slice_get ws place ≡ Some s → has_schedule ws place ≡ true → is_some (schedule_of (length (drop (place + 1) ws)) s) ≡ true
schedule_read ws place s e is = sym (ap (λ o. option_map_or (λ schedule. is_some (schedule_of (length (drop (place + 1) ws)) schedule)) o false) e) ∙ is

-- it is one of as many shells as there are scripts
pub mode_is : (ws : List Text) (place first : ℕ) (i : code_inputs.Inputs) (s : Text) → place + 1 ≡ first → BeginAt ws first i → slice_get ws place ≡ Some s → has_schedule ws place ≡ true → is_some (schedule_of (length (scripts_in i)) s) ≡ true
mode_is ws place first i s behind begin e is =
    ap (λ scripts. is_some (schedule_of (length scripts) s)) (sym (scripts_are ws first i begin))
    ∙ ap (λ n. is_some (schedule_of (length (drop n ws)) s)) (sym behind)
    ∙ schedule_read ws place s e is

module _ (mode : List ℕ → Mode) where
  pub scheduled_is : (ws : List Text) (i : code_inputs.Inputs) (out s : Text) → BeginAt ws 5 i → slice_get ws 3 ≡ Some out → slice_get ws 4 ≡ Some s → has_schedule ws 4 ≡ true → 5 < length ws → length ws ≤ 69
      → Some (record { inputs = asked_inputs i; out = out; mode = mode (shells_read (length (scripts_in i)) s) }) ≡ scheduled_job mode (drop 1 ws)
  scheduled_is ws i out s begin e f is some few =
      let job : Inputs → List ℕ → RunJob = λ x shells. record { inputs = x; out = out; mode = mode shells } in
      let here : Inputs = inputs i.spec.now i.folder.now (drop 5 ws) 5 in
      sym (ap (scheduled_job mode) (four ws i.spec.now i.folder.now out s begin.spec begin.folder e f)
      ∙ ap (λ b. cond b (option_map (job here) (schedule_of (length (drop 5 ws)) s)) None) (fits 5 ws some few)
      ∙ read_by (job here) (schedule_of (length (drop 5 ws)) s) (schedule_read ws 4 s f is)
      ∙ ap₂ (λ (x : Inputs) (scripts : List Text). Some (job x (shells_read (length scripts) s))) (inputs_are ws 5 i begin) (scripts_are ws 5 i begin))

  pub scheduled_not : (ws : List Text) → 5 < length ws → has_schedule ws 4 ≡ false → None ≡ scheduled_job mode (drop 1 ws)
  scheduled_not [] some none = absurd (omega (arith, some))
  scheduled_not (w ∷ []) some none = absurd (omega (arith, some))
  scheduled_not (w ∷ a ∷ []) some none = absurd (omega (arith, some))
  scheduled_not (w ∷ a ∷ b ∷ []) some none = absurd (omega (arith, some))
  scheduled_not (w ∷ a ∷ b ∷ c ∷ []) some none = absurd (omega (arith, some))
  scheduled_not (w ∷ a ∷ b ∷ c ∷ s ∷ scripts) some none =
      sym (unread_by (λ shells. record { inputs = inputs a b scripts 5; out = c; mode = mode shells }) (is_within 1 64 (length scripts)) (schedule_of (length scripts) s) none)

pub journal_is : (ws : List Text) (i : code_inputs.Inputs) (out journal s : Text) → BeginAt ws 6 i → slice_get ws 3 ≡ Some out → slice_get ws 4 ≡ Some journal → slice_get ws 5 ≡ Some s → has_schedule ws 5 ≡ true → 6 < length ws → length ws ≤ 70
    → Some (record { run = record { inputs = asked_inputs i; out = out; mode = Scheduled (shells_read (length (scripts_in i)) s) }; journal = journal }) ≡ journal_job (drop 1 ws)
journal_is ws i out journal s begin e f g is some few =
    let job : Inputs → List ℕ → JournalJob = λ x shells. record { run = record { inputs = x; out = out; mode = Scheduled shells }; journal = journal } in
    let here : Inputs = inputs i.spec.now i.folder.now (drop 6 ws) 6 in
    sym (ap journal_job (five ws i.spec.now i.folder.now out journal s begin.spec begin.folder e f g)
    ∙ ap (λ b. cond b (option_map (job here) (schedule_of (length (drop 6 ws)) s)) None) (fits 6 ws some few)
    ∙ read_by (job here) (schedule_of (length (drop 6 ws)) s) (schedule_read ws 5 s g is)
    ∙ ap₂ (λ (x : Inputs) (scripts : List Text). Some (job x (shells_read (length scripts) s))) (inputs_are ws 6 i begin) (scripts_are ws 6 i begin))

pub journal_not : (ws : List Text) → 6 < length ws → has_schedule ws 5 ≡ false → None ≡ journal_job (drop 1 ws)
journal_not [] some none = absurd (omega (arith, some))
journal_not (w ∷ []) some none = absurd (omega (arith, some))
journal_not (w ∷ a ∷ []) some none = absurd (omega (arith, some))
journal_not (w ∷ a ∷ b ∷ []) some none = absurd (omega (arith, some))
journal_not (w ∷ a ∷ b ∷ c ∷ []) some none = absurd (omega (arith, some))
journal_not (w ∷ a ∷ b ∷ c ∷ d ∷ []) some none = absurd (omega (arith, some))
journal_not (w ∷ a ∷ b ∷ c ∷ d ∷ s ∷ scripts) some none =
    let job : List ℕ → JournalJob = λ shells. record { run = record { inputs = inputs a b scripts 6; out = c; mode = Scheduled shells }; journal = d } in
    sym (unread_by job (is_within 1 64 (length scripts)) (schedule_of (length scripts) s) none)

-- ---- two texts

pair : (ws : List Text) (a b : Text) → slice_get ws 1 ≡ Some a → slice_get ws 2 ≡ Some b → length ws ≡ 3 → drop 1 ws ≡ a ∷ b ∷ []
pair [] a b e f n = cc
pair (w ∷ []) a b e f n = cc
pair (w ∷ x ∷ []) a b e f n = cc
pair (w ∷ x ∷ y ∷ []) a b e f n =
    let first : x ≡ a = cc in
    let second : y ≡ b = cc in
    ap₂ (λ (v : Text) (u : Text). v ∷ u ∷ []) first second
pair (w ∷ x ∷ y ∷ z ∷ rest) a b e f n = absurd (omega (arith, n))

pub show_is : (ws : List Text) (spec folder : Text) → slice_get ws 1 ≡ Some spec → slice_get ws 2 ≡ Some folder → length ws ≡ 3 → show_job (drop 1 ws) ≡ Some (record { spec = spec; folder = folder; scripts = []; first = 3 })
show_is ws spec folder e f n = ap show_job (pair ws spec folder e f n)

-- Words that ask for a job are the job's.
use Rattle.std.proofs.Common.{◌≡◌, ℕ, ◌^◌, ◌<◌, Bool, true, false, cond, List, [], ◌∷◌, map, length, Option, Some, None, ◌⊎◌, inl, inr, refl, ap, sym, subst, ◌∙◌, arith}
use Rattle.std.specs.Prelude.{codes}
use Rattle.std.specs.Fmt.{decimal}
use Rattle.std.specs.List.{join_with_byte, slice_split}
use Rattle.std.specs.Option.{option_map, option_and_then}
use Rattle.std.specs.Str.{bytes_eq}
use Rattle.std.proofs.lemmas.List.Splits.{length-slice_split, join_with_byte-slice_split}
use Rattle.fx_base.proofs.Results.{chosen_some}
use Rattle.fx_base.proofs.Orders.{nat_list_exact}
use Rattle.fx_words.specs.Forms.{word_of, commands, named_in, command_named, command_job}
use Rattle.fx_words.specs.Job.{Plain, Scheduled, Watched, Inputs, RunJob, GenJob, AuditJob, JournalJob, RecoverJob, ViewsJob, Job, Run, Show, Gen, Large, Audit, Journal, Recover, Views, shells_named, is_comma, schedule_of, is_within, are_plain, run_job, scheduled_job, audit_job, journal_job, recover_job, views_job, show_job, decimal_number, gen_job, named_job}
use Rattle.fx_words.proofs.Names.{job_named}
use Rattle.fx_words.proofs.Numbers.{number_says}
use Rattle.fx_laws.specs.Worded.{schedule_word, job_words, JobsTellTheirWords}

abbrev Words : Type 0
Words = List (List ℕ)

-- ---- answers that are there

mapped : {A B : Type 0} (f : A → B) (x : Option A) (y : B) → option_map f x ≡ Some y → (a : A) × (x ≡ Some a) × (f a ≡ y)
mapped f None y e = cc
mapped f (Some a) y e = let same : f a ≡ y = cc in (a, refl, same)

gone_on : {A B : Type 0} (f : A → Option B) (x : Option A) (y : B) → option_and_then f x ≡ Some y → (a : A) × (x ≡ Some a) × (f a ≡ Some y)
gone_on f None y e = cc
gone_on f (Some a) y e = (a, refl, e)

-- ---- schedules

shells_texts : (count : ℕ) (texts : Words) (ks : List ℕ) → shells_named count texts ≡ Some ks → map decimal ks ≡ texts
shells_texts count [] ks e = let same : [] ≡ ks = cc in ap (map decimal) (sym same)
shells_texts count (text ∷ texts) ks e =
    let first = gone_on (λ k. option_map (λ ks. k ∷ ks) (shells_named count texts)) (decimal_number count text) ks e in
    let rest = mapped (λ ks. first.0 ∷ ks) (shells_named count texts) ks first.2 in
    ap (map decimal) (sym rest.2) ∙ (λ i. (number_says count text first.0 first.1).0 i ∷ shells_texts count texts rest.0 rest.1 i)

named_word : (texts : Words) (ks : List ℕ) → 0 < length texts → map decimal ks ≡ texts → schedule_word ks ≡ join_with_byte 44 texts
named_word texts [] some e = absurd (omega (arith, ap length e))
named_word texts (k ∷ ks) some e = ap (join_with_byte 44) e

schedule_is : (count : ℕ) (text : List ℕ) (shells : List ℕ) → schedule_of count text ≡ Some shells → text ≡ schedule_word shells
schedule_is count text shells e = by (bytes_eq text (codes "none")) refl e
  where
    by : (b : Bool) → bytes_eq text (codes "none") ≡ b → cond b (Some []) (shells_named count (slice_split is_comma text)) ≡ Some shells → text ≡ schedule_word shells
    by true is h = let none : [] ≡ shells = cc in nat_list_exact text (codes "none") is ∙ ap schedule_word none
    by false is h =
        let some : 0 < length (slice_split is_comma text) = omega (arith, length-slice_split is_comma text) in
        sym (named_word (slice_split is_comma text) shells some (shells_texts count (slice_split is_comma text) shells h) ∙ join_with_byte-slice_split 44 text)

-- ---- commands

run_is : (args : Words) (j : RunJob) → run_job args ≡ Some j → codes "run" ∷ args ≡ job_words (Run j)
run_is [] j e = cc
run_is (a ∷ []) j e = cc
run_is (a ∷ b ∷ []) j e = cc
run_is (spec ∷ folder ∷ out ∷ scripts) j e =
    let is = chosen_some (is_within 1 64 (length scripts)) (Some (record { inputs = record { spec = spec; folder = folder; scripts = scripts; first = 4 }; out = out; mode = Plain })) j e in
    let same : record { inputs = record { spec = spec; folder = folder; scripts = scripts; first = 4 }; out = out; mode = Plain } ≡ j = cc in
    ap (λ j. job_words (Run j)) same

trace_is : (args : Words) (j : RunJob) → scheduled_job Scheduled args ≡ Some j → codes "trace" ∷ args ≡ job_words (Run j)
trace_is [] j e = cc
trace_is (a ∷ []) j e = cc
trace_is (a ∷ b ∷ []) j e = cc
trace_is (a ∷ b ∷ c ∷ []) j e = cc
trace_is (spec ∷ folder ∷ out ∷ schedule ∷ scripts) j e =
    let job : List ℕ → RunJob = λ shells. record { inputs = record { spec = spec; folder = folder; scripts = scripts; first = 5 }; out = out; mode = Scheduled shells } in
    let is = mapped job (schedule_of (length scripts) schedule) j (chosen_some (is_within 1 64 (length scripts)) (option_map job (schedule_of (length scripts) schedule)) j e).1 in
    ap (λ t. codes "trace" ∷ spec ∷ folder ∷ out ∷ t ∷ scripts) (schedule_is (length scripts) schedule is.0 is.1) ∙ ap (λ j. job_words (Run j)) is.2

watch_is : (args : Words) (j : RunJob) → scheduled_job Watched args ≡ Some j → codes "watch" ∷ args ≡ job_words (Run j)
watch_is [] j e = cc
watch_is (a ∷ []) j e = cc
watch_is (a ∷ b ∷ []) j e = cc
watch_is (a ∷ b ∷ c ∷ []) j e = cc
watch_is (spec ∷ folder ∷ out ∷ schedule ∷ scripts) j e =
    let job : List ℕ → RunJob = λ shells. record { inputs = record { spec = spec; folder = folder; scripts = scripts; first = 5 }; out = out; mode = Watched shells } in
    let is = mapped job (schedule_of (length scripts) schedule) j (chosen_some (is_within 1 64 (length scripts)) (option_map job (schedule_of (length scripts) schedule)) j e).1 in
    ap (λ t. codes "watch" ∷ spec ∷ folder ∷ out ∷ t ∷ scripts) (schedule_is (length scripts) schedule is.0 is.1) ∙ ap (λ j. job_words (Run j)) is.2

show_is : (args : Words) (j : Inputs) → show_job args ≡ Some j → codes "show" ∷ args ≡ job_words (Show j)
show_is [] j e = cc
show_is (a ∷ []) j e = cc
show_is (spec ∷ folder ∷ []) j e = let same : record { spec = spec; folder = folder; scripts = []; first = 3 } ≡ j = cc in ap (λ j. job_words (Show j)) same
show_is (a ∷ b ∷ c ∷ args) j e = cc

gen_is : (args : Words) (j : GenJob) → gen_job args ≡ Some j → decimal j.number ∷ j.out ∷ [] ≡ args
gen_is [] j e = cc
gen_is (a ∷ []) j e = cc
gen_is (a ∷ b ∷ c ∷ args) j e = cc
gen_is (number ∷ out ∷ []) j e =
    let job : ℕ → GenJob = λ n. record { number = n; out = out } in
    let is = mapped job (decimal_number (2 ^ 32) number) j e in
    ap (λ (j : GenJob). decimal j.number ∷ j.out ∷ []) (sym is.2) ∙ ap (λ t. t ∷ out ∷ []) (number_says (2 ^ 32) number is.0 is.1).0

audit_is : (args : Words) (j : AuditJob) → audit_job args ≡ Some j → codes "audit" ∷ args ≡ job_words (Audit j)
audit_is [] j e = cc
audit_is (a ∷ []) j e = cc
audit_is (a ∷ b ∷ []) j e = cc
audit_is (spec ∷ folder ∷ report ∷ scripts) j e =
    let is = chosen_some (is_within 1 64 (length scripts)) (Some (record { inputs = record { spec = spec; folder = folder; scripts = scripts; first = 4 }; report = report })) j e in
    let same : record { inputs = record { spec = spec; folder = folder; scripts = scripts; first = 4 }; report = report } ≡ j = cc in
    ap (λ j. job_words (Audit j)) same

journal_is : (args : Words) (j : JournalJob) → journal_job args ≡ Some j → codes "journal" ∷ args ≡ job_words (Journal j)
journal_is [] j e = cc
journal_is (a ∷ []) j e = cc
journal_is (a ∷ b ∷ []) j e = cc
journal_is (a ∷ b ∷ c ∷ []) j e = cc
journal_is (a ∷ b ∷ c ∷ d ∷ []) j e = cc
journal_is (spec ∷ folder ∷ out ∷ journal ∷ schedule ∷ scripts) j e =
    let job : List ℕ → JournalJob = λ shells. record { run = record { inputs = record { spec = spec; folder = folder; scripts = scripts; first = 6 }; out = out; mode = Scheduled shells }; journal = journal } in
    let is = mapped job (schedule_of (length scripts) schedule) j (chosen_some (is_within 1 64 (length scripts)) (option_map job (schedule_of (length scripts) schedule)) j e).1 in
    ap (λ t. codes "journal" ∷ spec ∷ folder ∷ out ∷ journal ∷ t ∷ scripts) (schedule_is (length scripts) schedule is.0 is.1) ∙ ap (λ j. job_words (Journal j)) is.2

recover_is : (args : Words) (j : RecoverJob) → recover_job args ≡ Some j → codes "recover" ∷ args ≡ job_words (Recover j)
recover_is [] j e = cc
recover_is (a ∷ []) j e = cc
recover_is (a ∷ b ∷ []) j e = cc
recover_is (a ∷ b ∷ c ∷ []) j e = cc
recover_is (spec ∷ folder ∷ journal ∷ out ∷ scripts) j e =
    let is = chosen_some (is_within 1 64 (length scripts)) (Some (record { inputs = record { spec = spec; folder = folder; scripts = scripts; first = 5 }; journal = journal; out = out })) j e in
    let same : record { inputs = record { spec = spec; folder = folder; scripts = scripts; first = 5 }; journal = journal; out = out } ≡ j = cc in
    ap (λ j. job_words (Recover j)) same

views_is : (args : Words) (j : ViewsJob) → views_job args ≡ Some j → codes "views" ∷ args ≡ job_words (Views j)
views_is [] j e = cc
views_is (a ∷ []) j e = cc
views_is (a ∷ b ∷ []) j e = cc
views_is (a ∷ b ∷ c ∷ []) j e = cc
views_is (spec ∷ folder ∷ out ∷ views ∷ scripts) j e =
    let is = chosen_some (is_within 1 63 (length scripts)) (Some (record { inputs = record { spec = spec; folder = folder; scripts = scripts; first = 5 }; out = out; views = views })) j e in
    let same : record { inputs = record { spec = spec; folder = folder; scripts = scripts; first = 5 }; out = out; views = views } ≡ j = cc in
    ap (λ j. job_words (Views j)) same

-- the word that names a command is one of the ten
abbrev OneOf : List ℕ → Words → Type 0
OneOf word [] = ⊥
OneOf word (w ∷ ws) = (w ≡ word) ⊎ OneOf word ws

one_of : (names : _) (word : List ℕ) (name : _) → named_in names word ≡ Some name → OneOf word (map word_of names)
one_of [] word name e = cc
one_of (n ∷ ns) word name e = by (bytes_eq (word_of n) word) refl e (one_of ns word name)
  where
    by : (b : Bool) → bytes_eq (word_of n) word ≡ b → cond b (Some n) (named_in ns word) ≡ Some name → (named_in ns word ≡ Some name → OneOf word (map word_of ns)) → (word_of n ≡ word) ⊎ OneOf word (map word_of ns)
    by true is h rest = inl (nat_list_exact (word_of n) word is)
    by false is h rest = inr (rest h)

abbrev Asks : List ℕ → Words → Job → Type 0
Asks word args job = named_job word args ≡ Some job → word ∷ args ≡ job_words job

asks : (word : List ℕ) (args : Words) (job : Job) → OneOf word (map word_of commands) → Asks word args job
asks word args job (inl e) = subst (λ w. Asks w args job) e (λ h. let is = mapped Run (run_job args) job h in run_is args is.0 is.1 ∙ ap job_words is.2)
asks word args job (inr (inl e)) = subst (λ w. Asks w args job) e (λ h. let is = mapped Run (scheduled_job Scheduled args) job h in trace_is args is.0 is.1 ∙ ap job_words is.2)
asks word args job (inr (inr (inl e))) = subst (λ w. Asks w args job) e (λ h. let is = mapped Show (show_job args) job h in show_is args is.0 is.1 ∙ ap job_words is.2)
asks word args job (inr (inr (inr (inl e)))) = subst (λ w. Asks w args job) e (λ h. let is = mapped Gen (gen_job args) job h in ap (λ rest. codes "gen" ∷ rest) (sym (gen_is args is.0 is.1)) ∙ ap job_words is.2)
asks word args job (inr (inr (inr (inr (inl e))))) = subst (λ w. Asks w args job) e (λ h. let is = mapped Large (gen_job args) job h in ap (λ rest. codes "large" ∷ rest) (sym (gen_is args is.0 is.1)) ∙ ap job_words is.2)
asks word args job (inr (inr (inr (inr (inr (inl e)))))) = subst (λ w. Asks w args job) e (λ h. let is = mapped Audit (audit_job args) job h in audit_is args is.0 is.1 ∙ ap job_words is.2)
asks word args job (inr (inr (inr (inr (inr (inr (inl e))))))) = subst (λ w. Asks w args job) e (λ h. let is = mapped Run (scheduled_job Watched args) job h in watch_is args is.0 is.1 ∙ ap job_words is.2)
asks word args job (inr (inr (inr (inr (inr (inr (inr (inl e)))))))) = subst (λ w. Asks w args job) e (λ h. let is = mapped Journal (journal_job args) job h in journal_is args is.0 is.1 ∙ ap job_words is.2)
asks word args job (inr (inr (inr (inr (inr (inr (inr (inr (inl e))))))))) = subst (λ w. Asks w args job) e (λ h. let is = mapped Recover (recover_job args) job h in recover_is args is.0 is.1 ∙ ap job_words is.2)
asks word args job (inr (inr (inr (inr (inr (inr (inr (inr (inr (inl e)))))))))) = subst (λ w. Asks w args job) e (λ h. let is = mapped Views (views_job args) job h in views_is args is.0 is.1 ∙ ap job_words is.2)
asks word args job (inr (inr (inr (inr (inr (inr (inr (inr (inr (inr none)))))))))) = absurd none

pub jobs_tell_their_words : JobsTellTheirWords
jobs_tell_their_words [] job e = cc
jobs_tell_their_words (word ∷ args) job e =
    let h = (chosen_some (are_plain args) (named_job word args) job e).1 in
    let named = gone_on (λ name. command_job name args) (command_named word) job (sym (job_named word args) ∙ h) in
    asks word args job (one_of commands word named.0 named.1) h

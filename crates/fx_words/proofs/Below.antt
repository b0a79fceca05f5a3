-- The shells of a schedule are below the number of scripts.
use Rattle.std.proofs.Common.{◌≡◌, ℕ, ◌<◌, Bool, true, false, cond, List, [], ◌∷◌, length, Option, Some, None, refl, subst, sym}
use Rattle.std.specs.Prelude.{All, is_some, codes}
use Rattle.std.specs.List.{slice_split}
use Rattle.std.specs.Option.{option_map, option_and_then, unwrap_or}
use Rattle.std.specs.Str.{bytes_eq}
use Rattle.std.proofs.lemmas.List.Elements.{All-cons, All-nil}
use Rattle.fx_words.specs.declared.job.RunJob as code
use Rattle.fx_words.specs.declared.job.RunMode as code_mode
use Rattle.fx_words.specs.declared.job.RunMode.TheVariants as by
use Rattle.fx_words.specs.Job.{decimal_number, shells_named, schedule_of, is_comma, shells_of, scheduled_shells}
use Rattle.fx_words.specs.JobOf.{asked, IsJob, IsModeOf, scripts_in, mode_of}
use Rattle.fx_words.proofs.Numbers.{number_says}

abbrev Below : ℕ → List ℕ → Type 0
Below count ks = All (λ k. k < count) ks

shells_below : (count : ℕ) (texts : List (List ℕ)) (ks : List ℕ) → shells_named count texts ≡ Some ks → Below count ks
shells_below count [] ks e = let none : [] ≡ ks = cc in subst (Below count) none (All-nil (λ k. k < count))
shells_below count (text ∷ texts) ks e = at (decimal_number count text) refl (shells_named count texts) (λ rest f. shells_below count texts rest f) e
  where
    at : (o : Option ℕ) → decimal_number count text ≡ o → (r : Option (List ℕ)) → ((rest : List ℕ) → r ≡ Some rest → Below count rest) → option_and_then (λ k. option_map (λ ks. k ∷ ks) r) o ≡ Some ks → Below count ks
    at None named r rest e = cc
    at (Some j) named None rest e = cc
    at (Some j) named (Some js) rest e =
        let same : j ∷ js ≡ ks = cc in
        subst (Below count) same (All-cons (λ k. k < count) j js ((number_says count text j named).1) (rest js refl))

schedule_below : (count : ℕ) (text ks : List ℕ) → schedule_of count text ≡ Some ks → Below count ks
schedule_below count text ks e = at (bytes_eq text (codes "none")) (shells_below count (slice_split is_comma text) ks) e
  where
    at : (b : Bool) → (shells_named count (slice_split is_comma text) ≡ Some ks → Below count ks) → cond b (Some []) (shells_named count (slice_split is_comma text)) ≡ Some ks → Below count ks
    at true rest e = let none : [] ≡ ks = cc in subst (Below count) none (All-nil (λ k. k < count))
    at false rest e = rest e

-- what a schedule that can be read is
read_below : (count : ℕ) (text : List ℕ) (o : Option (List ℕ)) → schedule_of count text ≡ o → is_some o ≡ true → Below count (unwrap_or o [])
read_below count text None e some = cc
read_below count text (Some ks) e some = schedule_below count text ks e

mode_below : (count : ℕ) (mode : code_mode.RunMode) → IsModeOf count mode → Below count (scheduled_shells (mode_of count mode))
mode_below count by.Plain is = All-nil (λ k. k < count)
mode_below count (by.Scheduled text) is = read_below count text.now (schedule_of count text.now) refl is
mode_below count (by.Watched text) is = read_below count text.now (schedule_of count text.now) refl is

-- the shells that a job asks for are below its number of scripts
pub job_below : (j : code.RunJob) → IsJob j → All (λ k. k < length (scripts_in j.inputs)) (shells_of (asked j))
job_below j is = mode_below (length (scripts_in j.inputs)) j.mode is.mode

-- and of those that a schedule names
pub asked_below : (job : code.RunJob) (shells : List ℕ) (count : ℕ) → IsJob job → count ≡ length (asked job).inputs.scripts → shells_of (asked job) ≡ shells → All (λ k. k < count) shells
asked_below job shells count is each same = subst (λ n. All (λ k. k < n) shells) (sym each) (subst (λ ks. All (λ k. k < length (asked job).inputs.scripts) ks) same (job_below job is))

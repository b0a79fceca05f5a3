-- What the words ask for, by the form that they have.
use Rattle.std.proofs.Common.{◌≡◌, ℕ, ◌+◌, Bool, true, false, cond, List, [], ◌∷◌, length, Option, Some, None, refl, sym, ap, ◌∙◌, arith}
use Rattle.std.specs.Option.{option_map, option_map_or, option_and_then}
use Rattle.std.proofs.lemmas.Bool.Decides.{nat_tests}
use Rattle.fx_words.specs.declared.form.CommandName.{CommandName}
use Rattle.fx_words.specs.declared.form.CommandName.TheVariants as command
use Rattle.fx_words.specs.Forms.{command_job, command_named, has_form, takes}
use Rattle.fx_words.specs.Job.{Job, Mode, Run, Show, Gen, Large, Audit, Journal, Recover, Views, Scheduled, Watched, are_plain, audit_job, gen_job, is_within, job_of, journal_job, recover_job, run_job, scheduled_job, show_job, views_job}
use Rattle.fx_words.proofs.Names.{job_named}

-- ---- words without a form ask for nothing

-- so many scripts after some texts
counted : (texts n all : ℕ) → all ≡ texts + n → is_within (texts + 1) (texts + 64) all ≡ is_within 1 64 n
counted texts n all e = grind (arith, nat_tests)

run_none : (args : List (List ℕ)) → takes command.Run (length args) ≡ false → run_job args ≡ None
run_none [] e = refl
run_none (a ∷ []) e = refl
run_none (a ∷ b ∷ []) e = refl
run_none (a ∷ b ∷ c ∷ scripts) e = rw (sym (counted 3 (length scripts) (length (a ∷ b ∷ c ∷ scripts)) (omega arith)) ∙ e) refl

scheduled_none : (mode : List ℕ → Mode) (args : List (List ℕ)) → is_within 5 68 (length args) ≡ false → scheduled_job mode args ≡ None
scheduled_none mode [] e = refl
scheduled_none mode (a ∷ []) e = refl
scheduled_none mode (a ∷ b ∷ []) e = refl
scheduled_none mode (a ∷ b ∷ c ∷ []) e = refl
scheduled_none mode (a ∷ b ∷ c ∷ d ∷ scripts) e = rw (sym (counted 4 (length scripts) (length (a ∷ b ∷ c ∷ d ∷ scripts)) (omega arith)) ∙ e) refl

show_none : (args : List (List ℕ)) → takes command.Show (length args) ≡ false → show_job args ≡ None
show_none [] e = refl
show_none (a ∷ []) e = refl
show_none (a ∷ b ∷ []) e = cc
show_none (a ∷ b ∷ c ∷ rest) e = refl

gen_none : (args : List (List ℕ)) → is_within 2 2 (length args) ≡ false → gen_job args ≡ None
gen_none [] e = refl
gen_none (a ∷ []) e = refl
gen_none (a ∷ b ∷ []) e = cc
gen_none (a ∷ b ∷ c ∷ rest) e = refl

audit_none : (args : List (List ℕ)) → takes command.Audit (length args) ≡ false → audit_job args ≡ None
audit_none [] e = refl
audit_none (a ∷ []) e = refl
audit_none (a ∷ b ∷ []) e = refl
audit_none (a ∷ b ∷ c ∷ scripts) e = rw (sym (counted 3 (length scripts) (length (a ∷ b ∷ c ∷ scripts)) (omega arith)) ∙ e) refl

journal_none : (args : List (List ℕ)) → takes command.Journal (length args) ≡ false → journal_job args ≡ None
journal_none [] e = refl
journal_none (a ∷ []) e = refl
journal_none (a ∷ b ∷ []) e = refl
journal_none (a ∷ b ∷ c ∷ []) e = refl
journal_none (a ∷ b ∷ c ∷ d ∷ []) e = refl
journal_none (a ∷ b ∷ c ∷ d ∷ s ∷ scripts) e = rw (sym (counted 5 (length scripts) (length (a ∷ b ∷ c ∷ d ∷ s ∷ scripts)) (omega arith)) ∙ e) refl

recover_none : (args : List (List ℕ)) → takes command.Recover (length args) ≡ false → recover_job args ≡ None
recover_none [] e = refl
recover_none (a ∷ []) e = refl
recover_none (a ∷ b ∷ []) e = refl
recover_none (a ∷ b ∷ c ∷ []) e = refl
recover_none (a ∷ b ∷ c ∷ d ∷ scripts) e = rw (sym (counted 4 (length scripts) (length (a ∷ b ∷ c ∷ d ∷ scripts)) (omega arith)) ∙ e) refl

counted_beside : (n all : ℕ) → all ≡ 4 + n → is_within 5 67 all ≡ is_within 1 63 n
counted_beside n all e = grind (arith, nat_tests)

views_none : (args : List (List ℕ)) → takes command.Views (length args) ≡ false → views_job args ≡ None
views_none [] e = refl
views_none (a ∷ []) e = refl
views_none (a ∷ b ∷ []) e = refl
views_none (a ∷ b ∷ c ∷ []) e = refl
views_none (a ∷ b ∷ c ∷ d ∷ scripts) e = rw (sym (counted_beside (length scripts) (length (a ∷ b ∷ c ∷ d ∷ scripts)) (omega arith)) ∙ e) refl

command_none : (name : CommandName) (args : List (List ℕ)) → takes name (length args) ≡ false → command_job name args ≡ None
command_none command.Run args e = ap (option_map Run) (run_none args e)
command_none command.Trace args e = ap (option_map Run) (scheduled_none Scheduled args e)
command_none command.Show args e = ap (option_map Show) (show_none args e)
command_none command.Gen args e = ap (option_map Gen) (gen_none args e)
command_none command.Large args e = ap (option_map Large) (gen_none args e)
command_none command.Audit args e = ap (option_map Audit) (audit_none args e)
command_none command.Watch args e = ap (option_map Run) (scheduled_none Watched args e)
command_none command.Journal args e = ap (option_map Journal) (journal_none args e)
command_none command.Recover args e = ap (option_map Recover) (recover_none args e)
command_none command.Views args e = ap (option_map Views) (views_none args e)

by_none : (o : Option CommandName) (args : List (List ℕ)) → option_map_or (λ name. takes name (length args)) o false ≡ false → option_and_then (λ name. command_job name args) o ≡ None
by_none None args e = refl
by_none (Some name) args e = command_none name args e

either_none : (b : Bool) → ◌≡◌ {A = Option Job} (cond b None None) None
either_none true = refl
either_none false = refl

pub no_form : (words : List (List ℕ)) → has_form words ≡ false → job_of words ≡ None
no_form [] e = refl
no_form (w ∷ args) e = ap (λ j. cond (are_plain args) j None) (job_named w args ∙ by_none (command_named w) args e) ∙ either_none (are_plain args)

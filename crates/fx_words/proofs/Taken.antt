-- What a parse that succeeds, and one that does not, say of the words.
use Rattle.std.proofs.Common.{◌≡◌, ◌≢◌, true, false, inl, inr, List, [], ◌∷◌, Some, Result, Ok, Err, sym, ap, subst, ◌∙◌, arith}
use Rattle.std.specs.Prelude.{IsErrAnd}
use Rattle.std.specs.List.{list_all}
use Rattle.std.proofs.lemmas.Bool.Decides.{nat_tests}
use Rattle.clap.specs.Words.{App, FailsBy, HasMatchesOf, IsAmong, Kinds, Text, fault_of, is_simple, is_simple_and_free, kind_of, subcommand_of, subcommand_rows_of}
use Rattle.clap.specs.Walk.{is_empty}
use Rattle.clap.specs.declared.error.Error.{Error}
use Rattle.clap.specs.declared.error.kind.ErrorKind.{ErrorKind}
use Rattle.clap.specs.declared.error.kind.ErrorKind.TheVariants.{OutOfMemory}
use Rattle.clap.specs.declared.parser.matches.ArgMatches.{ArgMatches}
use Rattle.fx_words.specs.Forms.{has_form}
use Rattle.fx_words.specs.Job.{is_plain}
use Rattle.fx_words.specs.Matched.{words_in}
use Rattle.fx_words.specs.Parser.{program}
use Rattle.fx_words.specs.declared.fault.WordsFault.{WordsFault}
use Rattle.fx_words.specs.declared.fault.WordsFault.TheVariants as fault
use Rattle.fx_words.proofs.Whole.{program_reads, program_takes}

not_empty : (k : ErrorKind) (ks : Kinds) → is_empty (k ∷ ks) ≡ false
not_empty k ks = grind (arith, nat_tests)

-- where a kind may come, the words have no form
refused : (words : List Text) (k : ErrorKind) → list_all is_plain words ≡ true → IsAmong k (fault_of program words) → has_form words ≡ false
refused words k plain among = sym (program_takes words plain) ∙ at (fault_of program words) among
  where
    at : (kinds : Kinds) → IsAmong k kinds → is_empty kinds ≡ false
    at [] h = absurd h
    at (x ∷ xs) h = not_empty x xs

module _ (a : App) (words : List Text) (is : a ≡ program) (plain : list_all is_plain words ≡ true) where
  pub simple_and_free : is_simple_and_free a ≡ true
  simple_and_free = ap is_simple_and_free is

  pub taken : (m : ArgMatches) → FailsBy (fault_of a words) (Ok m) → has_form words ≡ true
  taken m none = sym (program_takes words plain) ∙ ap (λ x. is_empty (fault_of x words)) (sym is) ∙ ap is_empty none

  pub read : (m : ArgMatches) → FailsBy (fault_of a words) (Ok m) → HasMatchesOf a words m → words_in (subcommand_rows_of m) ≡ Some words
  read m none matches =
      ap words_in ((matches (ap is_simple is)).1 ∙ ap (λ x. subcommand_of x words) is)
      ∙ program_reads words plain (taken m none)

  pub untaken : (e : Error) → FailsBy {T = ArgMatches} (fault_of a words) (Err e) → kind_of e ≢ OutOfMemory → has_form words ≡ false
  untaken e (inl memory) other = absurd (other memory)
  untaken e (inr among) other = refused words (kind_of e) plain (subst (λ x. IsAmong (kind_of e) (fault_of x words)) is among)

-- an error that is told as a usage is none of memory
pub by_usage : {X : Type 0} (r : Result X WordsFault) (e : Error) → IsErrAnd r (λ why. why ≡ fault.Usage → kind_of e ≢ OutOfMemory) → r ≡ Err fault.Usage → kind_of e ≢ OutOfMemory
by_usage (Ok x) e h is = cc
by_usage (Err why) e h is = let same : why ≡ fault.Usage = cc in h same

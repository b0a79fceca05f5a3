-- What the getters of a command's matches give, as the words that the matches say.
use Rattle.std.proofs.Common.{◌≡◌, List, ◌∷◌, Option, Some, None, ap₂, ◌∙◌, codes}
use Rattle.std.specs.Option.{option_map, option_and_then}
use Rattle.clap.specs.Words.{Row, Text, all_of, found_of, matched_of, raw_values, rows_of}
use Rattle.clap.specs.declared.parser.matches.ArgMatches.{ArgMatches}
use Rattle.clap.proofs.WalkLemmas.{raw_values-rows}
use Rattle.fx_words.specs.declared.form.CommandName.{CommandName}
use Rattle.fx_words.specs.Forms.{command_named, word_of}
use Rattle.fx_words.specs.Matched.{command_in}

-- the rows of a command's matches
abbrev pub rows_in : ArgMatches → List Row
rows_in m = rows_of (found_of m)

pub texts_are : (m : ArgMatches) (id : Text) (o : Option (List Text)) → o ≡ option_map raw_values (matched_of (found_of m) id) → o ≡ all_of id (rows_in m)
texts_are m id o e = e ∙ raw_values-rows (found_of m) id

abbrev words_by : Option CommandName → Option (List Text) → Option (List Text)
words_by command texts = option_and_then (λ name. option_map (λ arguments. word_of name ∷ arguments) texts) command

pub form_is : (name : Text) (rows : List Row) (command : Option CommandName) (texts : Option (List Text)) → command ≡ command_named name → texts ≡ all_of (codes "argument") rows
    → words_by command texts ≡ command_in name rows
form_is name rows command texts e f = ap₂ words_by e f

-- the name and the rows of what was found are those of the subcommand
module _ {X : Type 0} (name_of : X → Text) (rows : X → List Row) where
  abbrev pub pair_of : X → Text × List Row
  pair_of x = (name_of x, rows x)

  pub both_found : (o : Option X) (n : Text) (rs : List Row) → Some n ≡ option_map name_of o → Some rs ≡ option_map (λ (p : Text × List Row). p.1) (option_map pair_of o) → option_map pair_of o ≡ Some (n, rs)
  both_found None n rs e f = cc
  both_found (Some x) n rs e f =
      let name : name_of x ≡ n = cc in
      let found : rows x ≡ rs = cc in
      ap₂ (λ (a : Text) (b : List Row). Some (a, b)) name found

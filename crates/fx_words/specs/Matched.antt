-- The words that the matches of a command say.
use Rattle.std.specs.Prelude.{ℕ, List, ◌∷◌, Option, codes}
use Rattle.std.specs.Option.{option_map, option_and_then}
use Rattle.clap.specs.Words.{Row, all_of}
use Rattle.fx_words.specs.Forms.{command_named, word_of}

abbrev pub command_in : List ℕ → List Row → Option (List (List ℕ))
command_in name rows =
    option_and_then (λ command. option_map (λ arguments. word_of command ∷ arguments) (all_of (codes "argument") rows)) (command_named name)

abbrev pub words_in : Option (List ℕ × List Row) → Option (List (List ℕ))
words_in = option_and_then (λ p. command_in p.0 p.1)

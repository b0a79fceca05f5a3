-- The forms of the commands: a name, and as many arguments as the command takes.
use Rattle.std.specs.Prelude.{ℕ, ◌+◌, Bool, false, List, [], ◌∷◌, length, Option, None, find, get_or}
use Rattle.std.specs.Option.{option_map_or}
use Rattle.std.specs.Str.{bytes_eq}
use Rattle.fx_base.specs.Limits.{shell_limit}
use Rattle.fx_words.specs.declared.form.CommandName.{CommandName}
use Rattle.fx_words.specs.declared.form.CommandName.TheVariants.{Run, Trace, Show, Gen, Large, Audit, Watch, Journal, Recover, Views}
use Rattle.fx_words.specs.Job.{Job, forms, is_within}

-- the form at a place among them all
abbrev pub form_at : ℕ → List ℕ × (List (List ℕ) → Option Job)
form_at i = get_or forms i ([], λ arguments. None)

-- the form of a command
abbrev pub form_of : CommandName → List ℕ × (List (List ℕ) → Option Job)
form_of Run = form_at 0
form_of Trace = form_at 1
form_of Show = form_at 2
form_of Gen = form_at 3
form_of Large = form_at 4
form_of Audit = form_at 5
form_of Watch = form_at 6
form_of Journal = form_at 7
form_of Recover = form_at 8
form_of Views = form_at 9

-- the word that names a command
abbrev pub word_of : CommandName → List ℕ
word_of name = (form_of name).0

-- what a command asks for with these arguments
abbrev pub command_job : CommandName → List (List ℕ) → Option Job
command_job name arguments = (form_of name).1 arguments

abbrev pub commands : List CommandName
commands = Run ∷ Trace ∷ Show ∷ Gen ∷ Large ∷ Audit ∷ Watch ∷ Journal ∷ Recover ∷ Views ∷ []

-- the one of these commands that a word names
abbrev pub named_in : List CommandName → List ℕ → Option CommandName
named_in names word = find (λ name. bytes_eq (word_of name) word) names

abbrev pub command_named : List ℕ → Option CommandName
command_named word = named_in commands word

-- the fewest arguments of a command: SPEC, FOLDER and so on, and a script; or two texts
abbrev pub least_of : CommandName → ℕ
least_of Run = 4
least_of Trace = 5
least_of Show = 2
least_of Gen = 2
least_of Large = 2
least_of Audit = 4
least_of Watch = 5
least_of Journal = 6
least_of Recover = 5
least_of Views = 5

-- and the most, with 64 scripts, or 63 beside the views
abbrev pub most_of : CommandName → ℕ
most_of Run = 3 + shell_limit
most_of Trace = 4 + shell_limit
most_of Show = 2
most_of Gen = 2
most_of Large = 2
most_of Audit = 3 + shell_limit
most_of Watch = 4 + shell_limit
most_of Journal = 5 + shell_limit
most_of Recover = 4 + shell_limit
most_of Views = 3 + shell_limit

-- a command takes so many arguments
abbrev pub takes : CommandName → ℕ → Bool
takes command n = is_within (least_of command) (most_of command) n

-- the words have the form of a command
abbrev pub has_form : List (List ℕ) → Bool
has_form [] = false
has_form (word ∷ arguments) = option_map_or (λ command. takes command (length arguments)) (command_named word) false

-- The command line as `clap` is told of it.
use Rattle.std.specs.Prelude.{◌≡◌, ℕ, true, false, List, [], ◌∷◌, Some, codes}
use Rattle.std.specs.List.{fold}
use Rattle.clap.specs.Words.{App, Rule, Shape, app_of, new_rule, with_subcommand}
use Rattle.clap.specs.declared.builder.command.Command.{Command}
use Rattle.clap.specs.declared.builder.command.Command.TheViews.{out-Command as fields_of}
use Rattle.clap.specs.Simple.{new_shape}
use Rattle.fx_words.specs.declared.form.CommandName.{CommandName}
use Rattle.fx_words.specs.Forms.{commands, least_of, most_of, word_of}

-- an argument of so many texts
abbrev pub text_arguments : ℕ → ℕ → Rule
text_arguments least most = record (new_rule (codes "argument")) {
  required = true;
  range = Some (record { start_inclusive = least; end_inclusive = most });
}

-- a command with its arguments
abbrev pub command : CommandName → Shape
command name = record (new_shape (word_of name)) { rules = text_arguments (least_of name) (most_of name) ∷ [] }

-- no help, no version; a command must be named
abbrev pub without_commands : App
without_commands = record {
  top = record (new_shape (codes "txforest")) {
    no_binary_name = true;
    disable_help_flag = true;
    disable_help_subcommand = true;
    subcommand_required = true;
  };
  subs = [];
}

abbrev pub with_command : App → CommandName → App
with_command app name = with_subcommand app (command name)

abbrev pub with_commands : List CommandName → App
with_commands names = fold with_command without_commands names

abbrev pub program : App
program = with_commands commands

-- a command is told so
pub record IsTold (s : Shape) (c : Command) : Type 0 where
  pub app : app_of c ≡ record { top = s; subs = [] }
  pub local : (fields_of c).has_globals ≡ false

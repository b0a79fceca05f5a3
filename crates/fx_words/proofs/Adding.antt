-- One more command of the program.
use Rattle.std.proofs.Common.{◌≡◌, ℕ, ◌+◌, ◌<◌, List, [], ◌∷◌, length, take, get_or, sym, ap, ◌∙◌}
use Rattle.std.proofs.lemmas.List.{take_more}
use Rattle.std.proofs.lemmas.List.Sums.{fold-append}
use Rattle.fx_words.specs.declared.form.CommandName.{CommandName}
use Rattle.fx_words.specs.Parser.{with_command, with_commands, without_commands}

pub one_more : (names : List CommandName) (i : ℕ) (d : CommandName) → i < length names → with_command (with_commands (take i names)) (get_or names i d) ≡ with_commands (take (i + 1) names)
one_more names i d h = sym (ap with_commands (take_more names i d h) ∙ fold-append with_command without_commands (take i names) (get_or names i d ∷ []))

-- The words that a form stands for.
use Rattle.std.specs.Prelude.{ℕ, List, ◌∷◌, map}
use Rattle.std.specs.Borrow.{Bor}
use Rattle.fx_words.specs.declared.form.Form.{Form}
use Rattle.fx_words.specs.Forms.{word_of}

-- the texts behind references
abbrev pub texts_of : List (Bor (List ℕ)) → List (List ℕ)
texts_of texts = map (λ text. text.now) texts

abbrev pub words_of : Form → List (List ℕ)
words_of form = word_of form.command ∷ texts_of form.arguments.items

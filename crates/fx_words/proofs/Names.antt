-- The commands by their names.
use Rattle.std.proofs.Common.{◌≡◌, Bool, true, false, cond, ◌||◌, List, [], ◌∷◌, Option, Some, None, refl, sym, ap, ◌∙◌}
use Rattle.std.specs.Prelude.{find, map, if◌then◌else◌}
use Rattle.std.specs.Option.{option_and_then}
use Rattle.std.specs.Str.{bytes_eq}
use Rattle.std.proofs.lemmas.Slice.Eq.{bytes_eq-Decides}
use Rattle.clap.specs.Walk.{Names, Text, answers_to}
use Rattle.fx_words.specs.declared.form.CommandName.{CommandName}
use Rattle.fx_words.specs.declared.form.CommandName.TheVariants.{Run, Trace, Show, Gen, Large, Audit, Watch, Journal, Recover, Views}
use Rattle.fx_words.specs.Forms.{command_job, command_named, commands, form_of, named_in, word_of}
use Rattle.fx_words.specs.Job.{named_job}

-- a word that names a command is its name
named_is : (names : List CommandName) (word : Text) (name : CommandName) → named_in names word ≡ Some name → word_of name ≡ word
named_is [] word name e = cc
named_is (n ∷ ns) word name e = at (bytes_eq (word_of n) word) refl e (λ f. named_is ns word name f)
  where
    at : (b : Bool) → bytes_eq (word_of n) word ≡ b → (if b then Some n else named_in ns word) ≡ Some name → (named_in ns word ≡ Some name → word_of name ≡ word) → word_of name ≡ word
    at true is e on = let same : n ≡ name = cc in ap word_of (sym same) ∙ (bytes_eq-Decides (word_of n) word).0 is
    at false is e on = on e

pub command_is : (word : Text) (name : CommandName) → command_named word ≡ Some name → word_of name ≡ word
command_is word name e = named_is commands word name e

pub named_so : (name : CommandName) → command_named (word_of name) ≡ Some name
named_so Run = refl
named_so Trace = refl
named_so Show = refl
named_so Gen = refl
named_so Large = refl
named_so Audit = refl
named_so Watch = refl
named_so Journal = refl
named_so Recover = refl
named_so Views = refl

-- what is found among images is the image of what is found
find_map : {X Y Z : Type 0} (f : X → Y) (p : Y → Bool) (g : Y → Option Z) (xs : List X) → option_and_then g (find p (map f xs)) ≡ option_and_then (λ x. g (f x)) (find (λ x. p (f x)) xs)
find_map f p g [] = refl
find_map f p g (x ∷ xs) = at (p (f x)) (find_map f p g xs)
  where
    at : (b : Bool) → option_and_then g (find p (map f xs)) ≡ option_and_then (λ x. g (f x)) (find (λ x. p (f x)) xs)
        → option_and_then g (cond b (Some (f x)) (find p (map f xs))) ≡ option_and_then (λ x. g (f x)) (cond b (Some x) (find (λ x. p (f x)) xs))
    at true rest = refl
    at false rest = rest

-- a word asks for what the command asks for that it names
pub job_named : (word : Text) (arguments : List Text) → named_job word arguments ≡ option_and_then (λ name. command_job name arguments) (command_named word)
job_named word arguments = find_map form_of (λ form. bytes_eq form.0 word) (λ form. form.1 arguments) commands

abbrev pub labels : List CommandName → Names
labels names = map (λ name. (word_of name, [])) names

-- nor does `clap` find a command by a word that names none
pub unfound : (names : List CommandName) (word : Text) → named_in names word ≡ None → find (answers_to word) (labels names) ≡ None
unfound [] word e = refl
unfound (n ∷ ns) word e = at (bytes_eq (word_of n) word) e (λ f. unfound ns word f)
  where
    at : (b : Bool) → (if b then Some n else named_in ns word) ≡ None → (named_in ns word ≡ None → find (answers_to word) (labels ns) ≡ None) → (if b || false then Some (word_of n, []) else find (answers_to word) (labels ns)) ≡ None
    at true e on = cc
    at false e on = on e

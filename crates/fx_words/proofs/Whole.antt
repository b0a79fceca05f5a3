-- The whole command line: the program's parser takes the plain words that have a command's form, and its matches say them.
use Rattle.std.proofs.Common.{◌≡◌, Bool, true, false, List, [], ◌∷◌, length, Option, Some, None, refl, sym, ap, ap₂, subst, ◌∙◌}
use Rattle.std.specs.Prelude.{find, is_some}
use Rattle.std.specs.List.{fold, list_all}
use Rattle.std.specs.Option.{option_map, option_map_or, option_and_then}
use Rattle.std.proofs.lemmas.Bool.{and_parts}
use Rattle.clap.specs.Kinds.{Kinds, or_else}
use Rattle.clap.specs.Walk.{Names, Text, Walk, answers_to, finished, idle, is_empty, nothing_held, rows_after, settled, subcommand_met, walked}
use Rattle.clap.specs.Simple.{Shape, built, entered, label_of, names_of, rows_at, subcommand_of}
use Rattle.clap.specs.Faults.{check_fault, defaults_fault, entered_fault, fault_of, level_fault, settle_fault, turn_fault, walk_fault}
use Rattle.clap.proofs.WalkLemmas.{walk_stopped}
use Rattle.clap.proofs.FaultLemmas.{stopped_fault}
use Rattle.fx_words.specs.declared.form.CommandName.{CommandName}
use Rattle.fx_words.specs.declared.form.CommandName.TheVariants.{Run, Trace, Show, Gen, Large, Audit, Watch, Journal, Recover, Views}
use Rattle.fx_words.specs.Forms.{command_named, commands, has_form, takes, word_of}
use Rattle.fx_words.specs.Job.{is_plain}
use Rattle.fx_words.specs.Matched.{command_in, words_in}
use Rattle.fx_words.specs.Parser.{program}
use Rattle.fx_words.proofs.Walks.{level_is, rows_are, start, turn_is}
use Rattle.fx_words.proofs.Leaves.{command_says, command_takes, ready}
use Rattle.fx_words.proofs.Names.{command_is, named_so, unfound}

abbrev names : Names
names = names_of (built program)

abbrev top : Shape
top = (built program).top

-- ---- the word of a command

first_stops : (name : CommandName) → walked top.rules names start (word_of name) ≡ record start { stopped = Some (word_of name, []) }
unfolding walked
first_stops Run = refl
first_stops Trace = refl
first_stops Show = refl
first_stops Gen = refl
first_stops Large = refl
first_stops Audit = refl
first_stops Watch = refl
first_stops Journal = refl
first_stops Recover = refl
first_stops Views = refl

first_passes : (name : CommandName) → turn_fault top names start (word_of name) ≡ []
first_passes Run = refl
first_passes Trace = refl
first_passes Show = refl
first_passes Gen = refl
first_passes Large = refl
first_passes Audit = refl
first_passes Watch = refl
first_passes Journal = refl
first_passes Recover = refl
first_passes Views = refl

found : (name : CommandName) → find (λ s. answers_to (word_of name) (label_of s)) (built program).subs ≡ Some (ready name)
found Run = refl
found Trace = refl
found Show = refl
found Gen = refl
found Large = refl
found Audit = refl
found Watch = refl
found Journal = refl
found Recover = refl
found Views = refl

-- after a command's name the words are left to it
left_to : (name : CommandName) (words : List Text) → fold (walked top.rules names) start (word_of name ∷ words) ≡ record start { stopped = Some (word_of name, words) }
left_to name words =
    ap (λ w. fold (walked top.rules names) w words) (first_stops name) ∙ sym (walk_stopped top.rules names start (word_of name) [] words)

below_is : (name : CommandName) (words : List Text) → entered_fault (built program) (Some (word_of name, words)) ≡ level_fault (ready name) [] nothing_held words false []
below_is name words = ap (λ o. option_map_or (λ s. level_fault s [] nothing_held words false []) o []) (found name)

enters : (name : CommandName) (words : List Text) → entered (built program) (Some (word_of name, words)) ≡ Some (word_of name, rows_after (ready name).rules [] words)
enters name words = ap (option_map (λ s. rows_at s words)) (found name)

no_more : (k : Kinds) → or_else [] (or_else k []) ≡ k
no_more [] = refl
no_more (x ∷ xs) = refl

-- how the upper level ends, by where its walk does
abbrev ends : Kinds → Kinds → Bool → Walk → Kinds
ends walked_kinds below has w =
    or_else walked_kinds
    (or_else below
    (or_else (settle_fault top.rules top.args_override_self w.held)
    (or_else (defaults_fault (settled top.rules w.held).rows top.rules) (check_fault top (finished top.rules w.held) has))))

-- the words fail as the command's own level does
fails_as : (name : CommandName) (words : List Text) → fault_of program (word_of name ∷ words) ≡ level_fault (ready name) [] nothing_held words false []
unfolding walk_fault defaults_fault
fails_as name words =
    let word = word_of name in
    let stopped : Walk = record start { stopped = Some (word, words) } in
    let walk_passes : walk_fault top names start (word ∷ words) ≡ [] =
    ap₂ or_else (first_passes name) (ap (λ w. walk_fault top names w words) (first_stops name) ∙ stopped_fault top names start (word, []) words) in
    let below = below_is name words in
    let there : is_some (entered (built program) (Some (word, words))) ≡ true = ap is_some (enters name words) in
    ap (λ (w : Walk). ends (walk_fault top names start (word ∷ words)) (entered_fault (built program) w.stopped) (is_some (entered (built program) w.stopped)) w) (left_to name words)
    ∙ (λ i. ends (walk_passes i) (below i) (there i) stopped)
    ∙ no_more (level_fault (ready name) [] nothing_held words false [])

-- and its matches are the command's own
says_as : (name : CommandName) (words : List Text) → subcommand_of program (word_of name ∷ words) ≡ Some (word_of name, rows_after (ready name).rules [] words)
says_as name words = ap (λ (w : Walk). entered (built program) w.stopped) (left_to name words) ∙ enters name words

-- ---- a word that names no command is refused

some_kind : (a b c : Kinds) → is_empty a ≡ false → is_empty (or_else (or_else a b) c) ≡ false
some_kind [] b c e = cc
some_kind (k ∷ ks) b c e = e

unmet : (w : Text) → command_named w ≡ None → subcommand_met names idle w ≡ None
unmet w none = ap (option_map (λ (p : Text × List Text). p.0)) (unfound commands w none)

unnamed_fails : (w : Text) (words : List Text) → is_plain w ≡ true → command_named w ≡ None → is_empty (fault_of program (w ∷ words)) ≡ false
unfolding walk_fault
unnamed_fails w words plain none =
    some_kind (turn_fault top names start w) _ _ (ap is_empty (turn_is top names start w plain (refl, refl) (unmet w none)))

-- ---- the program's parser takes exactly the words that have a command's form

abbrev form_by : List Text → Option CommandName → Bool
form_by words o = option_map_or (λ name. takes name (length words)) o false

named_takes : (name : CommandName) (words : List Text) → list_all is_plain words ≡ true → is_empty (fault_of program (word_of name ∷ words)) ≡ takes name (length words)
named_takes name words plain = ap is_empty (fails_as name words ∙ level_is (ready name) words plain) ∙ command_takes name words

pub program_takes : (words : List Text) → list_all is_plain words ≡ true → is_empty (fault_of program words) ≡ has_form words
unfolding walk_fault walked defaults_fault
program_takes [] plain = refl
program_takes (w ∷ words) plain = at (command_named w) refl
  where
    at : (o : Option CommandName) → command_named w ≡ o → is_empty (fault_of program (w ∷ words)) ≡ form_by words (command_named w)
    at None none = unnamed_fails w words (and_parts (is_plain w) (list_all is_plain words) plain).0 none ∙ ap (form_by words) (sym none)
    at (Some name) is =
        let rest = (and_parts (is_plain w) (list_all is_plain words) plain).1 in
        ap (λ v. is_empty (fault_of program (v ∷ words))) (sym (command_is w name is)) ∙ named_takes name words rest ∙ ap (form_by words) (sym is)

-- ---- and its matches say these words

named_says : (name : CommandName) (words : List Text) → list_all is_plain words ≡ true → takes name (length words) ≡ true → words_in (subcommand_of program (word_of name ∷ words)) ≡ Some (word_of name ∷ words)
named_says name words plain form =
    ap words_in (says_as name words)
    ∙ ap (command_in (word_of name)) (rows_are (ready name).rules words plain)
    ∙ ap₂ (λ (o : Option CommandName) (texts : Option (List Text)). option_and_then (λ n. option_map (λ arguments. word_of n ∷ arguments) texts) o) (named_so name) (command_says name words form)

pub program_reads : (words : List Text) → list_all is_plain words ≡ true → has_form words ≡ true → words_in (subcommand_of program words) ≡ Some words
program_reads [] plain form = cc
program_reads (w ∷ words) plain form = at (command_named w) refl form
  where
    at : (o : Option CommandName) → command_named w ≡ o → form_by words o ≡ true → words_in (subcommand_of program (w ∷ words)) ≡ Some (w ∷ words)
    at None none e = cc
    at (Some name) is e =
        let rest = (and_parts (is_plain w) (list_all is_plain words) plain).1 in
        subst (λ v. words_in (subcommand_of program (v ∷ words)) ≡ Some (v ∷ words)) (command_is w name is) (named_says name words rest e)

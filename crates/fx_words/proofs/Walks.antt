-- Plain words at a command without subcommands: each goes to the positional whose turn it is.
use Rattle.std.proofs.Common.{◌≡◌, ℕ, Bool, true, false, cond, ◌&&◌, ◌==◌, List, [], ◌∷◌, Option, Some, None, refl, ap, ap₂, ◌∙◌}
use Rattle.std.specs.List.{fold, list_all}
use Rattle.std.specs.Option.{option_and_then, option_map_or}
use Rattle.std.specs.Str.{bytes_eq}
use Rattle.std.proofs.lemmas.Bool.{and_parts, not-true}
use Rattle.clap.specs.Lexer.{long_of, long_of_rest, short_of, short_of_rest, strip_byte}
use Rattle.clap.specs.Kinds.{Kinds, or_else}
use Rattle.clap.specs.Walk.{Held, Names, Row, Rule, Step, Text, Waiting, Walk, idle, option, positional, value, after_step, arg_by_index, finished, is_multiple, long_or_other, plain_word, short_or_plain, subcommand_or_other, trailing, nothing_held, rows_after, settled, subcommand_met, to_positional, walk_from, walked, walked_from, word_met}
use Rattle.clap.specs.Simple.{Shape}
use Rattle.clap.specs.Faults.{check_fault, defaults_fault, bundle_fault, flag_word_fault, level_fault, other_fault, settle_fault, step_fault, turn_fault, walk_fault, word_fault}
use Rattle.fx_words.specs.Job.{is_plain}

-- nothing waits for the value of an option
abbrev pub is_free : Waiting → Bool
is_free (option id) = false
is_free _ = true

pub none_met : (waiting : Waiting) (word : Text) → subcommand_met [] waiting word ≡ None
none_met idle word = refl
none_met positional word = refl
none_met (option id) word = refl

no_dashes : (b : ℕ) (rest : Text) → (b == 45) ≡ false → bytes_eq (b ∷ rest) (45 ∷ 45 ∷ []) ≡ false
no_dashes b rest isnt = ap (λ t. t && bytes_eq rest (45 ∷ [])) isnt

no_long : (b : ℕ) (rest : Text) → (b == 45) ≡ false → long_of (b ∷ rest) ≡ None
no_long b rest isnt = ap (λ t. option_and_then long_of_rest (option_and_then (strip_byte 45) (cond t (Some rest) None))) isnt

no_short : (b : ℕ) (rest : Text) → (b == 45) ≡ false → short_of (b ∷ rest) ≡ None
no_short b rest isnt = ap (λ t. option_and_then short_of_rest (cond t (Some rest) None)) isnt

value_of : (c : List Rule) (waiting : Waiting) (word : Text) (h : Held) → is_free waiting ≡ true → plain_word c waiting word h ≡ (h, value)
value_of c idle word h free = refl
value_of c positional word h free = refl
value_of c (option id) word h free = cc

-- a plain word that names no subcommand is a value
pub plain_met : (c : List Rule) (names : Names) (is_trailing : Bool) (waiting : Waiting) (position : ℕ) (word : Text) (h : Held) → is_plain word ≡ true → is_free waiting ≡ true
    → subcommand_met names waiting word ≡ None → word_met c names is_trailing waiting position word h ≡ (h, value)
plain_met c names true waiting position word h plain free none = refl
plain_met c names false waiting position [] h plain free none = cc
plain_met c names false waiting position (b ∷ rest) h plain free none =
    let isnt : (b == 45) ≡ false = not-true (b == 45) plain in
    ap (λ o. subcommand_or_other c o waiting position (b ∷ rest) h) none
    ∙ ap (λ t. cond t (h, trailing position) (long_or_other c waiting (b ∷ rest) (long_of (b ∷ rest)) h)) (no_dashes b rest isnt)
    ∙ ap (λ l. long_or_other c waiting (b ∷ rest) l h) (no_long b rest isnt)
    ∙ ap (λ l. short_or_plain c waiting (b ∷ rest) l h) (no_short b rest isnt)
    ∙ value_of c waiting (b ∷ rest) h free

-- and no fault
pub plain_fault : (s : Shape) (names : Names) (is_trailing : Bool) (waiting : Waiting) (word : Text) (h : Held) → is_plain word ≡ true
    → subcommand_met names waiting word ≡ None → word_fault s names is_trailing waiting word h ≡ []
plain_fault s names true waiting word h plain none = refl
plain_fault s names false waiting [] h plain none = cc
plain_fault s names false waiting (b ∷ rest) h plain none =
    let isnt : (b == 45) ≡ false = not-true (b == 45) plain in
    ap (λ o. other_fault s o (b ∷ rest) h) none
    ∙ ap (λ t. cond t [] (flag_word_fault s.rules s.args_override_self (long_of (b ∷ rest)) (b ∷ rest) h)) (no_dashes b rest isnt)
    ∙ ap (λ l. flag_word_fault s.rules s.args_override_self l (b ∷ rest) h) (no_long b rest isnt)
    ∙ ap (λ l. option_map_or (λ flags. bundle_fault s.rules s.args_override_self flags h) l []) (no_short b rest isnt)

-- one word on
abbrev pub step : List Rule → Walk → Text → Walk
step c w word = to_positional c (arg_by_index c w.position) word w w.held

abbrev pub Ready : Walk → Type 0
Ready w = (is_free w.waiting ≡ true) × (w.stopped ≡ None)

pub step_is : (c : List Rule) (names : Names) (w : Walk) (word : Text) → is_plain word ≡ true → Ready w → subcommand_met names w.waiting word ≡ None → walked c names w word ≡ step c w word
unfolding walked
step_is c names w word plain ready none =
    ap (λ s. walked_from c names s w word) ready.1
    ∙ ap (λ (p : Held × Step). after_step c word w p.0 p.1) (plain_met c names w.is_trailing w.waiting w.position word w.held plain ready.0 none)

pub turn_is : (s : Shape) (names : Names) (w : Walk) (word : Text) → is_plain word ≡ true → Ready w → subcommand_met names w.waiting word ≡ None
    → turn_fault s names w word ≡ step_fault s w.position w.held value
turn_is s names w word plain ready none =
    rw (ready.1, plain_fault s names w.is_trailing w.waiting word w.held plain none)
    (ap (λ (p : Held × Step). step_fault s w.position p.0 p.1) (plain_met s.rules names w.is_trailing w.waiting w.position word w.held plain ready.0 none))

free_if : (b : Bool) → is_free (cond b positional idle) ≡ true
free_if true = refl
free_if false = refl

ready_to : (c : List Rule) (o : Option Rule) (word : Text) (w : Walk) → Ready w → Ready (to_positional c o word w w.held)
ready_to c None word w ready = ready
ready_to c (Some a) word w ready = (free_if (is_multiple a), refl)

ready_on : (c : List Rule) (w : Walk) (word : Text) → Ready w → Ready (step c w word)
ready_on c w word ready = ready_to c (arg_by_index c w.position) word w ready

-- all the words
pub steps_are : (c : List Rule) (w : Walk) (words : List Text) → list_all is_plain words ≡ true → Ready w → fold (walked c []) w words ≡ fold (step c) w words
steps_are c w [] plain ready = refl
steps_are c w (x ∷ xs) plain ready =
    let parts = and_parts (is_plain x) (list_all is_plain xs) plain in
    ap (λ v. fold (walked c []) v xs) (step_is c [] w x parts.0 ready (none_met w.waiting x))
    ∙ steps_are c (step c w x) xs parts.1 (ready_on c w x ready)

abbrev pub steps_fault : Shape → Walk → List Text → Kinds
steps_fault s w [] = []
steps_fault s w (x ∷ xs) = or_else (step_fault s w.position w.held value) (steps_fault s (step s.rules w x) xs)

pub faults_are : (s : Shape) (w : Walk) (words : List Text) → list_all is_plain words ≡ true → Ready w → walk_fault s [] w words ≡ steps_fault s w words
unfolding walk_fault
faults_are s w [] plain ready = refl
faults_are s w (x ∷ xs) plain ready =
    let parts = and_parts (is_plain x) (list_all is_plain xs) plain in
    ap₂ or_else (turn_is s [] w x parts.0 ready (none_met w.waiting x))
    (ap (λ v. walk_fault s [] v xs) (step_is s.rules [] w x parts.0 ready (none_met w.waiting x))
    ∙ faults_are s (step s.rules w x) xs parts.1 (ready_on s.rules w x ready))

abbrev pub start : Walk
start = walk_from nothing_held

-- how a level ends, by what is held at the end of the words
abbrev pub end_fault : Shape → Held → Kinds
end_fault s end =
    or_else (settle_fault s.rules s.args_override_self end)
    (or_else (defaults_fault (settled s.rules end).rows s.rules) (check_fault s (finished s.rules end) false))

abbrev pub leaf_fault : Shape → List Text → Kinds
leaf_fault s words = or_else (steps_fault s start words) (end_fault s (fold (step s.rules) start words).held)

pub level_is : (s : Shape) (words : List Text) → list_all is_plain words ≡ true → level_fault s [] nothing_held words false [] ≡ leaf_fault s words
level_is s words plain =
    ap₂ (λ (k : Kinds) (w : Walk). or_else k (end_fault s w.held)) (faults_are s start words plain (refl, refl)) (steps_are s.rules start words plain (refl, refl))

abbrev pub leaf_rows : List Rule → List Text → List Row
leaf_rows c words = finished c (fold (step c) start words).held

pub rows_are : (c : List Rule) (words : List Text) → list_all is_plain words ≡ true → rows_after c [] words ≡ leaf_rows c words
rows_are c words plain = ap (λ (w : Walk). finished c w.held) (steps_are c start words plain (refl, refl))

-- A command's own level: it takes as many arguments as are its, and its matches say them.
use Rattle.std.proofs.Common.{◌≡◌, ℕ, ◌<◌, ◌≤◌, Bool, true, false, cond, ◌&&◌, ◌==◌, inl, inr, List, [], ◌∷◌, ◌++◌, length, Some, None, refl, sym, ap, ap₂, ◌∙◌, arith, codes, append-nil, append_assoc}
use Rattle.std.specs.Prelude.{nat_lt}
use Rattle.std.specs.List.{fold}
use Rattle.std.proofs.lemmas.Bool.{cases_lt}
use Rattle.std.proofs.lemmas.Bool.Decides.{nat_tests}
use Rattle.clap.specs.Kinds.{Kinds, or_else, range_kinds, values_kinds}
use Rattle.clap.specs.Walk.{Text, Walk, all_of, finished, is_empty, nothing_held, positional, value}
use Rattle.clap.specs.Simple.{Shape, built_leaf, inherited}
use Rattle.clap.specs.Faults.{defaults_fault, step_fault}
use Rattle.clap.specs.declared.builder.value_parser.ValueParser.TheVariants as parser
use Rattle.clap.specs.declared.error.kind.ErrorKind.TheVariants as kind
use Rattle.fx_words.specs.declared.form.CommandName.{CommandName}
use Rattle.fx_words.specs.declared.form.CommandName.TheVariants.{Run, Trace, Show, Gen, Large, Audit, Watch, Journal, Recover, Views}
use Rattle.fx_words.specs.Forms.{least_of, most_of, takes}
use Rattle.fx_words.specs.Job.{is_within}
use Rattle.fx_words.specs.Parser.{command, program}
use Rattle.fx_words.proofs.Walks.{end_fault, leaf_fault, leaf_rows, start, step, steps_fault}

-- a command as the program's parser is built
abbrev pub ready : CommandName → Shape
ready name = built_leaf (inherited program.top (command name))

-- ---- a use of as many values as are wanted

abbrev kinds_by : Bool → Bool → Bool → Bool → Bool → Kinds
kinds_by none same exact few many =
    cond none (kind.InvalidValue ∷ [])
    (cond same (cond exact [] (kind.WrongNumberOfValues ∷ [])) (cond few (kind.TooFewValues ∷ []) (cond many (kind.TooManyValues ∷ []) [])))

too_few : (same many : Bool) → is_empty (kinds_by false same false true many) ≡ false
too_few true many = refl
too_few false many = refl

too_many : (same few : Bool) → is_empty (kinds_by false same false few true) ≡ false
too_many true few = refl
too_many false true = refl
too_many false false = refl

enough : (same exact : Bool) → (same ≡ true → exact ≡ true) → is_empty (kinds_by false same exact false false) ≡ true
enough true exact e = ap (λ b. is_empty (kinds_by false true b false false)) (e refl)
enough false exact e = refl

counted : (least most n : ℕ) → 0 < n → least ≤ most → is_empty (range_kinds least most n) ≡ is_within least most n
counted least most n some order =
    let none : (nat_lt 0 least && (n == 0)) ≡ false = grind (arith, nat_tests) in
    elim (cases_lt n least) [
      | inl less ↦
          let exact : (least == n) ≡ false = grind (arith, nat_tests) in
          let few : nat_lt n least ≡ true = grind (arith, nat_tests) in
          let within : is_within least most n ≡ false = grind (arith, nat_tests) in
          (λ i. is_empty (kinds_by (none i) (least == most) (exact i) (few i) (nat_lt most n))) ∙ too_few (least == most) (nat_lt most n) ∙ sym within
      | inr reached ↦ elim (cases_lt most n) [
        | inl more ↦
            let exact : (least == n) ≡ false = grind (arith, nat_tests) in
            let many : nat_lt most n ≡ true = grind (arith, nat_tests) in
            let within : is_within least most n ≡ false = grind (arith, nat_tests) in
            (λ i. is_empty (kinds_by (none i) (least == most) (exact i) (nat_lt n least) (many i))) ∙ too_many (least == most) (nat_lt n least) ∙ sym within
        | inr fits ↦
            let few : nat_lt n least ≡ false = grind (arith, nat_tests) in
            let many : nat_lt most n ≡ false = grind (arith, nat_tests) in
            let within : is_within least most n ≡ true = grind (arith, nat_tests) in
            let exact : (least == most) ≡ true → (least == n) ≡ true = λ e. grind (arith, nat_tests) in
            (λ i. is_empty (kinds_by (none i) (least == most) (least == n) (few i) (many i))) ∙ enough (least == most) (least == n) exact ∙ sym within
      ]
    ]

strings_pass : (vs : List Text) → values_kinds false parser.String vs ≡ []
strings_pass [] = refl
strings_pass (v ∷ vs) = strings_pass vs

kinds_only : (a b : Kinds) → b ≡ [] → is_empty (or_else (or_else a b) []) ≡ is_empty a
kinds_only [] b none = ap (λ k. is_empty (or_else k [])) none
kinds_only (k ∷ ks) b none = refl

-- ---- the walk over the arguments

-- the texts so far
abbrev taking : List Text → Walk
taking vs = record {
  held = record { rows = []; pending = Some (codes "argument", vs); skip = 0 };
  waiting = positional;
  position = 1;
  is_trailing = false;
  stopped = None;
}

-- what a shape of one argument of so many texts does
record Takes (s : Shape) (least most : ℕ) : Type 0 where
  pub some : 0 < least
  pub order : least ≤ most
  pub first : (x : Text) → step s.rules start x ≡ taking (x ∷ [])
  pub turn : (vs : List Text) (x : Text) → step s.rules (taking vs) x ≡ taking (vs ++ x ∷ [])
  pub begins : step_fault s 1 nothing_held value ≡ []
  pub fine : (vs : List Text) → step_fault s 1 (taking vs).held value ≡ []
  pub none : is_empty (leaf_fault s []) ≡ false
  pub end : (x : Text) (xs : List Text) → end_fault s (taking (x ∷ xs)).held ≡ or_else (or_else (range_kinds least most (length (x ∷ xs))) (values_kinds false parser.String (x ∷ xs))) []
  pub found : (x : Text) (xs : List Text) → all_of (codes "argument") (finished s.rules (taking (x ∷ xs)).held) ≡ Some (x ∷ xs)

module _ (s : Shape) (least most : ℕ) (t : Takes s least most) where
  taken : (vs xs : List Text) → fold (step s.rules) (taking vs) xs ≡ taking (vs ++ xs)
  taken vs [] = ap taking (sym (append-nil vs))
  taken vs (x ∷ xs) =
      ap (λ w. fold (step s.rules) w xs) (t.turn vs x)
      ∙ taken (vs ++ x ∷ []) xs
      ∙ ap taking (append_assoc vs (x ∷ []) xs)

  all_taken : (x : Text) (xs : List Text) → fold (step s.rules) start (x ∷ xs) ≡ taking (x ∷ xs)
  all_taken x xs = ap (λ w. fold (step s.rules) w xs) (t.first x) ∙ taken (x ∷ []) xs

  taken_fault : (vs xs : List Text) → steps_fault s (taking vs) xs ≡ []
  taken_fault vs [] = refl
  taken_fault vs (x ∷ xs) =
      ap₂ or_else (t.fine vs) (ap (λ w. steps_fault s w xs) (t.turn vs x) ∙ taken_fault (vs ++ x ∷ []) xs)

  all_fault : (x : Text) (xs : List Text) → steps_fault s start (x ∷ xs) ≡ []
  all_fault x xs = ap₂ or_else t.begins (ap (λ w. steps_fault s w xs) (t.first x) ∙ taken_fault (x ∷ []) xs)

  shape_takes : (words : List Text) → is_empty (leaf_fault s words) ≡ is_within least most (length words)
  shape_takes [] =
      let few : is_within least most 0 ≡ false = let some = t.some in grind (arith, nat_tests) in
      t.none ∙ sym few
  shape_takes (x ∷ xs) =
      ap₂ (λ (k : Kinds) (w : Walk). is_empty (or_else k (end_fault s w.held))) (all_fault x xs) (all_taken x xs)
      ∙ ap is_empty (t.end x xs)
      ∙ kinds_only (range_kinds least most (length (x ∷ xs))) (values_kinds false parser.String (x ∷ xs)) (strings_pass (x ∷ xs))
      ∙ counted least most (length (x ∷ xs)) (omega arith) t.order

  shape_says : (words : List Text) → is_within least most (length words) ≡ true → all_of (codes "argument") (leaf_rows s.rules words) ≡ Some words
  shape_says [] e =
      let few : is_within least most 0 ≡ false = let some = t.some in grind (arith, nat_tests) in
      let bad : true ≡ false = sym e ∙ few in
      cc
  shape_says (x ∷ xs) e = ap (λ (w : Walk). all_of (codes "argument") (finished s.rules w.held)) (all_taken x xs) ∙ t.found x xs

-- ---- each command

command_shape : (name : CommandName) → Takes (ready name) (least_of name) (most_of name)
unfolding defaults_fault
command_shape Run = record { some = omega arith; order = omega arith; first = λ x. refl; turn = λ vs x. refl; begins = refl; fine = λ vs. refl; none = refl; end = λ x xs. refl; found = λ x xs. refl }
command_shape Trace = record { some = omega arith; order = omega arith; first = λ x. refl; turn = λ vs x. refl; begins = refl; fine = λ vs. refl; none = refl; end = λ x xs. refl; found = λ x xs. refl }
command_shape Show = record { some = omega arith; order = omega arith; first = λ x. refl; turn = λ vs x. refl; begins = refl; fine = λ vs. refl; none = refl; end = λ x xs. refl; found = λ x xs. refl }
command_shape Gen = record { some = omega arith; order = omega arith; first = λ x. refl; turn = λ vs x. refl; begins = refl; fine = λ vs. refl; none = refl; end = λ x xs. refl; found = λ x xs. refl }
command_shape Large = record { some = omega arith; order = omega arith; first = λ x. refl; turn = λ vs x. refl; begins = refl; fine = λ vs. refl; none = refl; end = λ x xs. refl; found = λ x xs. refl }
command_shape Audit = record { some = omega arith; order = omega arith; first = λ x. refl; turn = λ vs x. refl; begins = refl; fine = λ vs. refl; none = refl; end = λ x xs. refl; found = λ x xs. refl }
command_shape Watch = record { some = omega arith; order = omega arith; first = λ x. refl; turn = λ vs x. refl; begins = refl; fine = λ vs. refl; none = refl; end = λ x xs. refl; found = λ x xs. refl }
command_shape Journal = record { some = omega arith; order = omega arith; first = λ x. refl; turn = λ vs x. refl; begins = refl; fine = λ vs. refl; none = refl; end = λ x xs. refl; found = λ x xs. refl }
command_shape Recover = record { some = omega arith; order = omega arith; first = λ x. refl; turn = λ vs x. refl; begins = refl; fine = λ vs. refl; none = refl; end = λ x xs. refl; found = λ x xs. refl }
command_shape Views = record { some = omega arith; order = omega arith; first = λ x. refl; turn = λ vs x. refl; begins = refl; fine = λ vs. refl; none = refl; end = λ x xs. refl; found = λ x xs. refl }

pub command_takes : (name : CommandName) (words : List Text) → is_empty (leaf_fault (ready name) words) ≡ takes name (length words)
command_takes name words = shape_takes (ready name) (least_of name) (most_of name) (command_shape name) words

pub command_says : (name : CommandName) (words : List Text) → takes name (length words) ≡ true → all_of (codes "argument") (leaf_rows (ready name).rules words) ≡ Some words
command_says name words e = shape_says (ready name) (least_of name) (most_of name) (command_shape name) words e

-- From transactions to scripts: where the tokens of transactions one after another go wrong.
use Rattle.std.proofs.Common.{◌≡◌, ℕ, ◌+◌, ◌<◌, ◌≤◌, true, leb, List, [], ◌∷◌, ◌++◌, length, get_or, refl, sym, ap, ◌∙◌, subst, arith, append_assoc, length-append}
use Rattle.std.proofs.Math.ListN.{get_or-append}
use Rattle.std.proofs.lemmas.List.{append-nil, get_or-append-add}
use Rattle.std.proofs.lemmas.List.Folds.{list_all-append}
use Rattle.std.proofs.lemmas.Bool.{and_parts, and_from}
use Rattle.fx_base.proofs.Lists.{not_empty}
use Rattle.fx_lex.specs.declared.token.Token.{Token}
use Rattle.fx_parse.specs.Readable.{Stands, Begins, IsShallow, IsUnexpected, IsTooNested}
use Rattle.fx_parse.proofs.Machine.{Runs, run_length, levels_at, shallow_at}
use Rattle.fx_parse.proofs.ReaderPlaces.{one_reading}
use Rattle.fx_parse.proofs.OnePlace.{Cut, Before, Same, Behind, cut}
use Rattle.fx_spec.specs.CommandTree.{CommandTree}
use Rattle.fx_grammar.specs.Tokens.{txn_tokens, txn_names, script_tokens, script_names}
use Rattle.fx_grammar.specs.TokenLevels.{txn_token_levels, script_token_levels}
use Rattle.fx_grammar.specs.Grammars.{transactions, scripts}
use Rattle.fx_grammar.specs.Refused.{IsMisplaced}
use Rattle.fx_source_parse.specs.Scripts.Reader.{read_txn}
use Rattle.fx_source_parse.proofs.Scripts.Machine.{Txn, table, txn_runs}
use Rattle.fx_source_parse.proofs.Scripts.Again.{txn_reader}

abbrev Commands : Type 0
Commands = List CommandTree

one : (t u : Commands) (x y : List Token) → txn_names t ≡ true → txn_names u ≡ true → txn_tokens t ++ x ≡ txn_tokens u ++ y → (t ≡ u) × (x ≡ y)
one t u x y h k e = one_reading table transactions Txn read_txn txn_reader t u x y h k e

runs : (t : Commands) → txn_names t ≡ true → Runs table (Txn 1 ∷ []) (txn_tokens t) (txn_token_levels 1 t) []
runs t h = (txn_runs 1 t [] h).runs

sizes : (t : Commands) → txn_names t ≡ true → length (txn_token_levels 1 t) ≡ length (txn_tokens t)
sizes t h = run_length table (txn_tokens t) (Txn 1 ∷ []) [] (txn_token_levels 1 t) (runs t h)

same_head : (x y : Token) (a b : List Token) → x ∷ a ≡ y ∷ b → x ≡ y
same_head x y a b e = cc

pub nothing_there : (f : List Token) (x : Token) (r : List Token) → [] ≡ f ++ x ∷ r → ⊥
nothing_there [] x r e = cc
nothing_there (y ∷ f) x r e = cc

-- no transaction's tokens are others' and more
no_longer : (t u : Commands) (f : List Token) (x : Token) (r : List Token) → txn_names t ≡ true → txn_names u ≡ true → txn_tokens u ≡ txn_tokens t ++ (f ++ x ∷ r) → ⊥
no_longer t u f x r h k e = nothing_there f x r (one u t [] (f ++ x ∷ r) k h (append-nil (txn_tokens u) ∙ e)).1

-- a token of the first transaction of a script
record InFirst (f : List Token) (x : Token) (t : Commands) : Type 0 where
  rest : List Token
  spelled : txn_tokens t ≡ f ++ x ∷ rest

in_first_cut : (u t : Commands) (more f : List Token) (x : Token) (r s : List Token) → txn_names u ≡ true → txn_names t ≡ true → txn_tokens u ≡ f ++ x ∷ r → Cut (txn_tokens t) more f (x ∷ s) → InFirst f x t
in_first_cut u t more f x r s h k e (Before y m p q) =
    absurd (no_longer t u (y ∷ m) x r k h (e ∙ ap (λ l. l ++ x ∷ r) q ∙ append_assoc (txn_tokens t) (y ∷ m) (x ∷ r)))
in_first_cut u t more f x r s h k e (Same p q) = absurd (no_longer t u [] x r k h (e ∙ ap (λ l. l ++ x ∷ r) (sym p)))
in_first_cut u t more f x r s h k e (Behind y m p q) =
    record { rest = m; spelled = q ∙ ap (λ z. f ++ z ∷ m) (sym (same_head x y s (m ++ more) p)) }

-- where a transaction has the token there
in_first : (u t : Commands) (ts : List Commands) (f : List Token) (x : Token) (r s : List Token) → txn_names u ≡ true → txn_names t ≡ true → txn_tokens u ≡ f ++ x ∷ r → txn_tokens t ++ script_tokens ts ≡ f ++ x ∷ s → InFirst f x t
in_first u t ts f x r s h k e g = in_first_cut u t (script_tokens ts) f x r s h k e (cut (txn_tokens t) (script_tokens ts) f (x ∷ s) g)

front_size : (f : List Token) (x : Token) (r : List Token) → length f < length (f ++ x ∷ r)
front_size f x r = omega (arith, length-append f (x ∷ r))

-- the level of a token of the first transaction
level_in_first : (t : Commands) (ts : List Commands) (f : List Token) (x : Token) (r : List Token) → txn_names t ≡ true → txn_tokens t ≡ f ++ x ∷ r → get_or (txn_token_levels 1 t ++ script_token_levels 1 ts) (length f) 0 ≡ get_or (txn_token_levels 1 t) (length f) 0
level_in_first t ts f x r h e =
    let size = sizes t h ∙ ap length e in
    get_or-append (txn_token_levels 1 t) (script_token_levels 1 ts) 0 (length f) (omega (arith, size, front_size f x r))

-- the level of a token behind the first transaction
level_behind : (t : Commands) (ts : List Commands) (f : List Token) → txn_names t ≡ true → get_or (txn_token_levels 1 t ++ script_token_levels 1 ts) (length (txn_tokens t ++ f)) 0 ≡ get_or (script_token_levels 1 ts) (length f) 0
level_behind t ts f h =
    ap (λ n. get_or (txn_token_levels 1 t ++ script_token_levels 1 ts) n 0) (length-append (txn_tokens t) f ∙ ap (λ n. n + length f) (sym (sizes t h))) ∙ get_or-append-add (txn_token_levels 1 t) (script_token_levels 1 ts) (length f) 0

-- what begins a transaction begins a script
begins_here : (front : List Token) → Begins transactions front → Begins scripts front
begins_here front b = record {
  tree = b.tree ∷ [];
  rest = b.rest;
  right = and_from _ _ b.right refl;
  spelled = append-nil (txn_tokens b.tree) ∙ b.spelled;
}

-- the tokens of a script that begin as a transaction does have no deeper form there
shallow_tree : (front : List Token) → Begins transactions front → IsShallow transactions 1 front → (f more : List Token) (x : Token) → front ≡ f ++ x ∷ more → (ts : List Commands) (r : List Token) → script_names ts ≡ true → script_tokens ts ≡ f ++ x ∷ r → 64 < get_or (script_token_levels 1 ts) (length f) 0 → ⊥
shallow_tree front b low f more x e [] r h g deep = nothing_there f x r g
shallow_tree front b low f more x e (t ∷ ts) r h g deep =
    let hs = and_parts (txn_names t) (script_names ts) h in
    let has = in_first b.tree t ts f x (more ++ b.rest) r b.right hs.0 (b.spelled ∙ ap (λ l. l ++ b.rest) e ∙ append_assoc f (x ∷ more) b.rest) g in
    low f more x e (record { tree = t; rest = has.rest; right = hs.0; spelled = has.spelled; deep = omega (arith, deep, level_in_first t ts f x has.rest hs.0 has.spelled) })

shallow_here : (front : List Token) → Begins transactions front → IsShallow transactions 1 front → IsShallow scripts 1 front
shallow_here front b low = λ f more x e d. shallow_tree front b low f more x e d.tree d.rest d.right d.spelled d.deep

-- the first token that fits no transaction fits no script, where no transaction stands in front
ends_cut : (ts : List Token) (k : ℕ) (u : IsUnexpected transactions 1 ts k) (t : Commands) (others : List Token) (x : Token) (r : List Token) → txn_names t ≡ true → (more : List Token) → u.rest ≡ x ∷ more → Cut (txn_tokens t) others u.front (x ∷ r) → ⊥
ends_cut ts k u t others x r h more e (Before y m p q) =
    u.none t ((y ∷ m) ++ u.rest) h (u.parts ∙ ap (λ l. l ++ u.rest) q ∙ append_assoc (txn_tokens t) (y ∷ m) u.rest)
ends_cut ts k u t others x r h more e (Same p q) = u.none t u.rest h (u.parts ∙ ap (λ l. l ++ u.rest) (sym p))
ends_cut ts k u t others x r h more e (Behind y m p q) =
    u.ends x more e (record { tree = t; rest = m; right = h; spelled = q ∙ ap (λ z. u.front ++ z ∷ m) (sym (same_head x y r (m ++ others) p)) ∙ sym (append_assoc u.front (x ∷ []) m) })

ends_tree : (ts : List Token) (k : ℕ) (u : IsUnexpected transactions 1 ts k) (x : Token) (more : List Token) → u.rest ≡ x ∷ more → (us : List Commands) (r : List Token) → script_names us ≡ true → script_tokens us ≡ (u.front ++ x ∷ []) ++ r → ⊥
ends_tree ts k u x more e [] r h g = nothing_there u.front x r (g ∙ append_assoc u.front (x ∷ []) r)
ends_tree ts k u x more e (t ∷ us) r h g =
    let hs = and_parts (txn_names t) (script_names us) h in
    ends_cut ts k u t (script_tokens us) x r hs.0 more e (cut (txn_tokens t) (script_tokens us) u.front (x ∷ r) (g ∙ append_assoc u.front (x ∷ []) r))

none_here : (y : Token) (ts : List Token) (k : ℕ) (u : IsUnexpected transactions 1 (y ∷ ts) k) (us : List Commands) → script_names us ≡ true → y ∷ ts ≡ script_tokens us → ⊥
none_here y ts k u [] h e = not_empty y ts e
none_here y ts k u (t ∷ us) h e = u.none t (script_tokens us) (and_parts (txn_names t) (script_names us) h).0 e

pub misplaced_here : (y : Token) (ts : List Token) (k : ℕ) → IsUnexpected transactions 1 (y ∷ ts) k → IsMisplaced scripts (y ∷ ts) k
misplaced_here y ts k u = record {
  front = u.front;
  rest = u.rest;
  parts = u.parts;
  place = u.place;
  begins = begins_here u.front u.begins;
  ends = λ x more e b. ends_tree (y ∷ ts) k u x more e b.tree b.rest b.right b.spelled;
  none = none_here y ts k u;
  shallow = shallow_here u.front u.begins u.shallow;
}

pub nested_here : (ts : List Token) (k : ℕ) → IsTooNested transactions 1 ts k → IsTooNested scripts 1 ts k
nested_here ts k q =
    let b : Begins transactions q.front = record { tree = q.begins.tree; rest = q.x ∷ q.begins.rest; right = q.begins.right; spelled = q.begins.spelled } in
    record {
      front = q.front;
      x = q.x;
      more = q.more;
      parts = q.parts;
      place = q.place;
      begins = record {
        tree = q.begins.tree ∷ [];
        rest = q.begins.rest;
        right = and_from _ _ q.begins.right refl;
        spelled = append-nil (txn_tokens q.begins.tree) ∙ q.begins.spelled;
        deep = omega (arith, q.begins.deep, level_in_first q.begins.tree [] q.front q.x q.begins.rest q.begins.right q.begins.spelled);
      };
      shallow = shallow_here q.front b q.shallow;
    }

-- behind a transaction
module _ (t : Commands) (fits : txn_names t ≡ true) where
  -- the others of a script that begins with the transaction
  record Others (us : List Commands) (r : List Token) : Type 0 where
    others : List Commands
    parts : us ≡ t ∷ others
    right : script_names others ≡ true
    spelled : script_tokens others ≡ r

  others_of : (us : List Commands) (r : List Token) → script_names us ≡ true → script_tokens us ≡ txn_tokens t ++ r → Others us r
  others_of [] r h e = absurd (empty_txn e)
    where
      empty_txn : [] ≡ txn_tokens t ++ r → ⊥
      empty_txn e = cc
  others_of (u ∷ us) r h e =
      let hs = and_parts (txn_names u) (script_names us) h in
      let both = one u t (script_tokens us) r hs.0 fits e in
      record { others = us; parts = ap (λ z. z ∷ us) both.0; right = hs.1; spelled = both.1 }

  begins_behind : (front : List Token) → Begins scripts front → Begins scripts (txn_tokens t ++ front)
  begins_behind front b = record {
    tree = t ∷ b.tree;
    rest = b.rest;
    right = and_from _ _ fits b.right;
    spelled = ap (λ l. txn_tokens t ++ l) b.spelled ∙ sym (append_assoc (txn_tokens t) front b.rest);
  }

  -- a deep form of a script behind the transaction is one of the others
  deep_behind : (front : List Token) → IsShallow scripts 1 front → (f more : List Token) (x : Token) → front ≡ f ++ x ∷ more → (us : List Commands) (r : List Token) → script_names us ≡ true → script_tokens us ≡ (txn_tokens t ++ f) ++ x ∷ r → 64 < get_or (script_token_levels 1 us) (length (txn_tokens t ++ f)) 0 → ⊥
  deep_behind front low f more x e us r h g deep =
      let o = others_of us (f ++ x ∷ r) h (g ∙ append_assoc (txn_tokens t) f (x ∷ r)) in
      let level : get_or (script_token_levels 1 us) (length (txn_tokens t ++ f)) 0 ≡ get_or (script_token_levels 1 o.others) (length f) 0 = ap (λ z. get_or (script_token_levels 1 z) (length (txn_tokens t ++ f)) 0) o.parts ∙ level_behind t o.others f fits in
      low f more x e (record { tree = o.others; rest = r; right = o.right; spelled = o.spelled; deep = omega (arith, deep, level) })

  -- no token of the transaction begins a deep form of a script
  deep_within : (nested : (i : ℕ) → get_or (txn_token_levels 1 t) i 0 ≤ 64) (f : List Token) (x : Token) (m : List Token) → txn_tokens t ≡ f ++ x ∷ m → (us : List Commands) (r : List Token) → script_names us ≡ true → script_tokens us ≡ f ++ x ∷ r → 64 < get_or (script_token_levels 1 us) (length f) 0 → ⊥
  deep_within nested f x m e [] r h g deep = nothing_there f x r g
  deep_within nested f x m e (u ∷ us) r h g deep =
      let hs = and_parts (txn_names u) (script_names us) h in
      let has = in_first t u us f x m r fits hs.0 e g in
      let P : List Token → Type 0 = λ l. Runs table (Txn 1 ∷ []) l (txn_token_levels 1 t) [] in
      let Q : List Token → Type 0 = λ l. Runs table (Txn 1 ∷ []) l (txn_token_levels 1 u) [] in
      let same = levels_at table f m has.rest x (Txn 1 ∷ []) [] [] (txn_token_levels 1 t) (txn_token_levels 1 u) (subst P e (runs t fits)) (subst Q has.spelled (runs u hs.0)) in
      omega (arith, same, deep, level_in_first u us f x has.rest hs.0 has.spelled, nested (length f))

  shallow_cut : (nested : (i : ℕ) → get_or (txn_token_levels 1 t) i 0 ≤ 64) (front : List Token) → IsShallow scripts 1 front → (f more : List Token) (x : Token) → Cut (txn_tokens t) front f (x ∷ more) → (us : List Commands) (r : List Token) → script_names us ≡ true → script_tokens us ≡ f ++ x ∷ r → 64 < get_or (script_token_levels 1 us) (length f) 0 → ⊥
  shallow_cut nested front low f more x (Before y m p q) us r h g deep =
      deep_behind front low (y ∷ m) more x p us r h (g ∙ ap (λ l. l ++ x ∷ r) q) (subst (λ l. 64 < get_or (script_token_levels 1 us) (length l) 0) q deep)
  shallow_cut nested front low f more x (Same p q) us r h g deep =
      let here : f ≡ txn_tokens t ++ [] = sym p ∙ sym (append-nil (txn_tokens t)) in
      deep_behind front low [] more x q us r h (g ∙ ap (λ l. l ++ x ∷ r) here) (subst (λ l. 64 < get_or (script_token_levels 1 us) (length l) 0) here deep)
  shallow_cut nested front low f more x (Behind y m p q) us r h g deep =
      deep_within nested f x m (q ∙ ap (λ z. f ++ z ∷ m) (sym (same_head x y more (m ++ front) p))) us r h g deep

  pub shallow_behind : (nested : (i : ℕ) → get_or (txn_token_levels 1 t) i 0 ≤ 64) (front : List Token) → IsShallow scripts 1 front → IsShallow scripts 1 (txn_tokens t ++ front)
  shallow_behind nested front low = λ f more x e d. shallow_cut nested front low f more x (cut (txn_tokens t) front f (x ∷ more) e) d.tree d.rest d.right d.spelled d.deep

pub stands_behind : (ts rest : List Token) (t : Commands) (us : List Commands) → Stands transactions 1 ts t rest → Stands scripts 1 rest us [] → Stands scripts 1 ts (t ∷ us) []
stands_behind ts rest t us s o = record {
  right = and_from _ _ s.right o.right;
  nested = list_all-append (λ level. leb level 64) (txn_token_levels 1 t) (script_token_levels 1 us) ∙ and_from _ _ s.nested o.nested;
  spelled = s.spelled ∙ ap (λ l. txn_tokens t ++ l) o.spelled ∙ sym (append_assoc (txn_tokens t) (script_tokens us) []);
}

module _ (ts rest : List Token) (t : Commands) (s : Stands transactions 1 ts t rest) where
  nested_low : (i : ℕ) → get_or (txn_token_levels 1 t) i 0 ≤ 64
  nested_low i = shallow_at (txn_token_levels 1 t) i s.nested

  pub misplaced_behind : (k : ℕ) → IsMisplaced scripts rest k → IsMisplaced scripts ts k
  misplaced_behind k q = record {
    front = txn_tokens t ++ q.front;
    rest = q.rest;
    parts = s.spelled ∙ ap (λ l. txn_tokens t ++ l) q.parts ∙ sym (append_assoc (txn_tokens t) q.front q.rest);
    place = q.place;
    begins = begins_behind t s.right q.front q.begins;
    ends = λ x more e b.
        let o = others_of t s.right b.tree ((q.front ++ x ∷ []) ++ b.rest) b.right (b.spelled ∙ ap (λ l. l ++ b.rest) (append_assoc (txn_tokens t) q.front (x ∷ [])) ∙ append_assoc (txn_tokens t) (q.front ++ x ∷ []) b.rest) in
        q.ends x more e (record { tree = o.others; rest = b.rest; right = o.right; spelled = o.spelled });
    none = λ us h e. let o = none_of us h e in q.none o.others o.right (sym o.spelled);
    shallow = shallow_behind t s.right nested_low q.front q.shallow;
  }
    where
      none_of : (us : List Commands) → script_names us ≡ true → ts ≡ script_tokens us → Others t s.right us rest
      none_of us h e = others_of t s.right us rest h (sym e ∙ s.spelled)

  pub nested_behind : (k : ℕ) → IsTooNested scripts 1 rest k → IsTooNested scripts 1 ts k
  nested_behind k q = record {
    front = txn_tokens t ++ q.front;
    x = q.x;
    more = q.more;
    parts = s.spelled ∙ ap (λ l. txn_tokens t ++ l) q.parts ∙ sym (append_assoc (txn_tokens t) q.front (q.x ∷ q.more));
    place = q.place;
    begins = record {
      tree = t ∷ q.begins.tree;
      rest = q.begins.rest;
      right = and_from _ _ s.right q.begins.right;
      spelled = ap (λ l. txn_tokens t ++ l) q.begins.spelled ∙ sym (append_assoc (txn_tokens t) q.front (q.x ∷ q.begins.rest));
      deep = omega (arith, q.begins.deep, level_behind t q.begins.tree q.front s.right);
    };
    shallow = shallow_behind t s.right nested_low q.front q.shallow;
  }

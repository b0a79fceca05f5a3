-- Each list of tokens has one fault at one place, or none where a tree stands.
use Rattle.std.proofs.Common.{◌≡◌, ◌⊎◌, inl, inr, ℕ, true, Result, Ok, Err, List, [], ◌∷◌, ◌++◌, length, refl, sym, ap, ◌∙◌, subst, arith, append_assoc}
use Rattle.std.proofs.lemmas.List.{append-nil}
use Rattle.fx_lex.specs.declared.token.Token.{Token}
use Rattle.fx_parse.specs.Stuck.{Stuck, Unexpected, TooNested}
use Rattle.fx_parse.specs.Readable.{Grammar, Stands, Begins, IsUnexpected, IsTooNested}
use Rattle.fx_parse.specs.Laws.{OneReading, OnePlace}
use Rattle.fx_parse.proofs.Machine.{Table, Runs, Outcome, scan, scan_says, levels_at, shallow_at}
use Rattle.fx_parse.proofs.Places.{Fits, unexpected_is, too_nested_is, stands_is}

-- where one list is cut in two, after a and after b
pub data Cut (a x b y : List Token) : Type 0 where
  Before : (t : Token) (m : List Token) → x ≡ t ∷ (m ++ y) → b ≡ a ++ t ∷ m → Cut a x b y
  Same : a ≡ b → x ≡ y → Cut a x b y
  Behind : (t : Token) (m : List Token) → y ≡ t ∷ (m ++ x) → a ≡ b ++ t ∷ m → Cut a x b y

one_more : (s t : Token) (a x b y : List Token) → s ≡ t → Cut a x b y → Cut (s ∷ a) x (t ∷ b) y
one_more s t a x b y same (Before u m p q) = Before u m p (ap (λ l. t ∷ l) q ∙ ap (λ z. z ∷ (a ++ u ∷ m)) (sym same))
one_more s t a x b y same (Same p q) = Same (ap (λ z. z ∷ a) same ∙ ap (λ l. t ∷ l) p) q
one_more s t a x b y same (Behind u m p q) = Behind u m p (ap (λ l. s ∷ l) q ∙ ap (λ z. z ∷ (b ++ u ∷ m)) same)

pub cut : (a x b y : List Token) → a ++ x ≡ b ++ y → Cut a x b y
cut [] x [] y e = Same refl e
cut [] x (t ∷ b) y e = Before t b e refl
cut (s ∷ a) x [] y e = Behind s a (sym e) refl
cut (s ∷ a) x (t ∷ b) y e =
    let head : s ≡ t = cc in
    let tail : a ++ x ≡ b ++ y = cc in
    one_more s t a x b y head (cut a x b y tail)

-- one token more, and what follows it
regroup : (a m r : List Token) (t : Token) → (a ++ t ∷ m) ++ r ≡ (a ++ t ∷ []) ++ (m ++ r)
regroup a m r t = append_assoc a (t ∷ m) r ∙ sym (append_assoc a (t ∷ []) (m ++ r))

module _ {Tree : Type 0} (g : Grammar Tree) (d : ℕ) (ts : List Token) where
  -- a tree that begins with more begins with the next token
  pub begins_next : (a m : List Token) (t : Token) (tree : Tree) (rest : List Token) → g.IsRight tree ≡ true → g.tokens tree ≡ (a ++ t ∷ m) ++ rest → Begins g (a ++ t ∷ [])
  begins_next a m t tree rest right e = record { tree = tree; rest = m ++ rest; right = right; spelled = e ∙ regroup a m rest t }

  unexpected_cut : (j k : ℕ) (p : IsUnexpected g d ts j) (q : IsUnexpected g d ts k) → Cut p.front p.rest q.front q.rest → j ≡ k
  unexpected_cut j k p q (Before t m x b) =
      absurd (p.ends t (m ++ q.rest) x (begins_next p.front m t q.begins.tree q.begins.rest q.begins.right (q.begins.spelled ∙ ap (λ l. l ++ q.begins.rest) b)))
  unexpected_cut j k p q (Same a x) = p.place ∙ ap length x ∙ sym q.place
  unexpected_cut j k p q (Behind t m y a) =
      absurd (q.ends t (m ++ p.rest) y (begins_next q.front m t p.begins.tree p.begins.rest p.begins.right (p.begins.spelled ∙ ap (λ l. l ++ p.begins.rest) a)))

  -- a token that begins a deep form is in no shallow front
  deep_cut : (j k : ℕ) (p : IsTooNested g d ts j) (q : IsTooNested g d ts k) (t : Token) (m : List Token) → p.x ∷ p.more ≡ t ∷ (m ++ q.x ∷ q.more) → q.front ≡ p.front ++ t ∷ m → ⊥
  deep_cut j k p q t m x b =
      let same : t ≡ p.x = cc in
      q.shallow p.front m p.x (b ∙ ap (λ z. p.front ++ z ∷ m) same) p.begins

  pub too_nested_cut : (j k : ℕ) (p : IsTooNested g d ts j) (q : IsTooNested g d ts k) → Cut p.front (p.x ∷ p.more) q.front (q.x ∷ q.more) → j ≡ k
  too_nested_cut j k p q (Before t m x b) = absurd (deep_cut j k p q t m x b)
  too_nested_cut j k p q (Same a x) = p.place ∙ ap length x ∙ sym q.place
  too_nested_cut j k p q (Behind t m y a) = absurd (deep_cut k j q p t m y a)

  kinds_cut : (j k : ℕ) (p : IsUnexpected g d ts j) (q : IsTooNested g d ts k) → Cut p.front p.rest q.front (q.x ∷ q.more) → ⊥
  kinds_cut j k p q (Before t m x b) =
      p.ends t (m ++ q.x ∷ q.more) x (begins_next p.front m t q.begins.tree (q.x ∷ q.begins.rest) q.begins.right (q.begins.spelled ∙ ap (λ l. l ++ q.x ∷ q.begins.rest) b))
  kinds_cut j k p q (Same a x) =
      p.ends q.x q.more x (begins_next p.front [] q.x q.begins.tree q.begins.rest q.begins.right (q.begins.spelled ∙ ap (λ l. l ++ q.x ∷ q.begins.rest) (sym a) ∙ sym (append_assoc p.front (q.x ∷ []) q.begins.rest)))
  kinds_cut j k p q (Behind t m y a) =
      let same : t ≡ q.x = cc in
      p.shallow q.front m q.x (a ∙ ap (λ z. q.front ++ z ∷ m) same) q.begins

module _ {Sym : Type 0} {Tree : Type 0} (m : Table Sym) (g : Grammar Tree) (start : ℕ → Sym) (fits : Fits m g start) (one : OneReading g) (d : ℕ) (ts : List Token) where
  -- no tree goes on behind one that stands
  ends_there : (t u : Tree) (x : Token) (rest : List Token) → g.IsRight t ≡ true → g.IsRight u ≡ true → g.tokens u ≡ g.tokens t ++ x ∷ rest → ⊥
  ends_there t u x rest right other e =
      let nothing = (one t u (x ∷ rest) [] right other (sym e ∙ sym (append-nil (g.tokens u)))).1 in
      absurd cc

  nested_cut : (t : Tree) (rest : List Token) (k : ℕ) (p : Stands g d ts t rest) (q : IsTooNested g d ts k) → Cut (g.tokens t) rest q.front (q.x ∷ q.more) → ⊥
  nested_cut t rest k p q (Before y n x b) =
      ends_there t q.begins.tree y (n ++ q.x ∷ q.begins.rest) p.right q.begins.right (q.begins.spelled ∙ ap (λ l. l ++ q.x ∷ q.begins.rest) b ∙ append_assoc (g.tokens t) (y ∷ n) (q.x ∷ q.begins.rest))
  nested_cut t rest k p q (Same a x) =
      ends_there t q.begins.tree q.x q.begins.rest p.right q.begins.right (q.begins.spelled ∙ ap (λ l. l ++ q.x ∷ q.begins.rest) (sym a))
  nested_cut t rest k p q (Behind y n x a) =
      let same : y ≡ q.x = cc in
      let mine : Runs m (start d ∷ []) (q.front ++ q.x ∷ n) (g.levels d t) [] = subst (λ l. Runs m (start d ∷ []) l (g.levels d t) []) (a ∙ ap (λ z. q.front ++ z ∷ n) same) (fits.runs d t p.right) in
      let deep : Runs m (start d ∷ []) (q.front ++ q.x ∷ q.begins.rest) (g.levels d q.begins.tree) [] = subst (λ l. Runs m (start d ∷ []) l (g.levels d q.begins.tree) []) q.begins.spelled (fits.runs d q.begins.tree q.begins.right) in
      let level = levels_at m q.front n q.begins.rest q.x (start d ∷ []) [] [] (g.levels d t) (g.levels d q.begins.tree) mine deep in
      omega (arith, level, q.begins.deep, shallow_at (g.levels d t) (length q.front) p.nested)

  abbrev Some : Type 0
  Some = ((t : Tree) × (rest : List Token) × Stands g d ts t rest) ⊎ (((k : ℕ) × IsUnexpected g d ts k) ⊎ ((k : ℕ) × IsTooNested g d ts k))

  some_of : (r : Result (List Token) Stuck) → Outcome m (start d ∷ []) ts r → Some
  some_of (Ok rest) o = let s = stands_is m g start fits d ts rest o in inl (s.0, rest, s.1)
  some_of (Err (Unexpected k)) o = inr (inl (k, unexpected_is m g start fits d ts k o))
  some_of (Err (TooNested k)) o = inr (inr (k, too_nested_is m g start fits d ts k o))

  pub one_place : OnePlace g d ts
  one_place = record {
    some = some_of (scan m (start d ∷ []) ts) (scan_says m ts (start d ∷ []));
    unexpected = λ j k p q. unexpected_cut g d ts j k p q (cut p.front p.rest q.front q.rest (sym p.parts ∙ q.parts));
    too_nested = λ j k p q. too_nested_cut g d ts j k p q (cut p.front (p.x ∷ p.more) q.front (q.x ∷ q.more) (sym p.parts ∙ q.parts));
    one_kind = λ j k p q. kinds_cut g d ts j k p q (cut p.front p.rest q.front (q.x ∷ q.more) (sym p.parts ∙ q.parts));
    not_unexpected = λ t rest k s p. p.none t rest s.right s.spelled;
    not_too_nested = λ t rest k s q. nested_cut t rest k s q (cut (g.tokens t) rest q.front (q.x ∷ q.more) (sym s.spelled ∙ q.parts));
  }

-- A machine that reads tokens from the left over a stack of what is still to come.
use Rattle.std.proofs.Common.{◌≡◌, ℕ, zero, suc, ◌<◌, ◌≤◌, Bool, true, false, ltb, leb, Option, Some, None, Result, Ok, Err, List, [], ◌∷◌, ◌++◌, length, get_or, refl, sym, ap, ◌∙◌, subst, arith, append_assoc}
use Rattle.std.specs.List.{list_all}
use Rattle.std.proofs.lemmas.Bool.{ltb-true, ltb-false, leb-true, le-leb, and_from, and_parts}
use Rattle.fx_lex.specs.declared.token.Token.{Token}
use Rattle.fx_parse.specs.Stuck.{Stuck, Unexpected, TooNested}

-- What a symbol of the stack becomes when it takes a token, and the level of the form that the token begins.
pub record Table (Sym : Type 0) : Type 0 where
  pub expand : Sym → Token → Option (List Sym)
  pub level : Sym → Token → ℕ

-- each level is at most a bound
abbrev pub at_most : ℕ → List ℕ → Bool
at_most bound levels = list_all (λ level. leb level bound) levels

-- each level is at most 64
abbrev pub shallow : List ℕ → Bool
shallow levels = at_most 64 levels

pub shallow_at : (levels : List ℕ) (i : ℕ) → shallow levels ≡ true → get_or levels i 0 ≤ 64
shallow_at [] i h = omega arith
shallow_at (l ∷ levels) zero h = leb-true l 64 (and_parts _ _ h).0
shallow_at (l ∷ levels) (suc i) h = shallow_at levels i (and_parts _ _ h).1

module _ {Sym : Type 0} (m : Table Sym) where
  -- over these tokens, which have these levels, the stack becomes the other
  abbrev pub Runs : List Sym → List Token → List ℕ → List Sym → Type 0
  Runs stack [] levels end = (levels ≡ []) × (end ≡ stack)
  Runs [] (x ∷ ts) levels end = ⊥
  Runs (s ∷ stack) (x ∷ ts) levels end = (more : List Sym) × (rest : List ℕ) × (m.expand s x ≡ Some more) × (levels ≡ m.level s x ∷ rest) × Runs (more ++ stack) ts rest end

  -- one run after another
  pub run_on : (a : List Token) (stack middle end : List Sym) (b : List Token) (k l : List ℕ) → Runs stack a k middle → Runs middle b l end → Runs stack (a ++ b) (k ++ l) end
  run_on [] stack middle end b k l p q =
      subst (λ n. Runs stack b (n ++ l) end) (sym p.0) (subst (λ s. Runs s b l end) p.1 q)
  run_on (x ∷ a) [] middle end b k l p q = absurd p
  run_on (x ∷ a) (s ∷ stack) middle end b k l p q =
      (p.0, p.1 ++ l, p.2, ap (λ n. n ++ l) p.3, run_on a (p.0 ++ stack) middle end b p.1 l p.4 q)

  -- what lies below the stack stays
  pub run_under : (ts : List Token) (stack end below : List Sym) (l : List ℕ) → Runs stack ts l end → Runs (stack ++ below) ts l (end ++ below)
  run_under [] stack end below l p = (p.0, ap (λ z. z ++ below) p.1)
  run_under (x ∷ ts) [] end below l p = absurd p
  run_under (x ∷ ts) (s ∷ stack) end below l p =
      (p.0, p.1, p.2, p.3, subst (λ z. Runs z ts p.1 (end ++ below)) (append_assoc p.0 stack below) (run_under ts (p.0 ++ stack) end below p.1 p.4))

  pub run_length : (ts : List Token) (stack end : List Sym) (l : List ℕ) → Runs stack ts l end → length l ≡ length ts
  run_length [] stack end l p = ap length p.0
  run_length (x ∷ ts) [] end l p = absurd p
  run_length (x ∷ ts) (s ∷ stack) end l p = ap length p.3 ∙ ap (λ n. suc n) (run_length ts (p.0 ++ stack) end p.1 p.4)

  -- a token has one level
  pub levels_at : (front a b : List Token) (x : Token) (stack E F : List Sym) (k l : List ℕ) → Runs stack (front ++ x ∷ a) k E → Runs stack (front ++ x ∷ b) l F → get_or k (length front) 0 ≡ get_or l (length front) 0
  levels_at front a b x [] E F k l p q = empty front p
    where
      empty : (front : List Token) → Runs [] (front ++ x ∷ a) k E → get_or k (length front) 0 ≡ get_or l (length front) 0
      empty [] p = absurd p
      empty (y ∷ front) p = absurd p
  levels_at [] a b x (s ∷ stack) E F k l p q = ap (λ n. get_or n 0 0) p.3 ∙ sym (ap (λ n. get_or n 0 0) q.3)
  levels_at (y ∷ front) a b x (s ∷ stack) E F k l p q =
      let both : Some p.0 ≡ Some q.0 = sym p.2 ∙ q.2 in
      let same : p.0 ≡ q.0 = cc in
      let rest = levels_at front a b x (p.0 ++ stack) E F p.1 q.1 p.4 (subst (λ z. Runs (z ++ stack) (front ++ x ∷ b) q.1 F) (sym same) q.4) in
      ap (λ n. get_or n (suc (length front)) 0) p.3 ∙ rest ∙ sym (ap (λ n. get_or n (suc (length front)) 0) q.3)

  pub same_levels : (ts : List Token) (stack E F : List Sym) (k l : List ℕ) → Runs stack ts k E → Runs stack ts l F → k ≡ l
  same_levels [] stack E F k l p q = p.0 ∙ sym q.0
  same_levels (x ∷ ts) [] E F k l p q = absurd p
  same_levels (x ∷ ts) (s ∷ stack) E F k l p q =
      let both : Some p.0 ≡ Some q.0 = sym p.2 ∙ q.2 in
      let same : p.0 ≡ q.0 = cc in
      let rest = same_levels ts (p.0 ++ stack) E F p.1 q.1 p.4 (subst (λ z. Runs (z ++ stack) ts q.1 F) (sym same) q.4) in
      p.3 ∙ ap (λ n. m.level s x ∷ n) rest ∙ sym q.3

  -- where one list of tokens empties the stack and a front of it does not, the next token fits the symbol on top
  pub record GoesOn (s : Sym) (x : List Token) : Type 0 where
    pub token : Token
    pub rest : List Token
    pub more : List Sym
    pub parts : x ≡ token ∷ rest
    pub fits : m.expand s token ≡ Some more

  pub goes_on : (b a x y : List Token) (stack E : List Sym) (s : Sym) (k l : List ℕ) → b ++ x ≡ a ++ y → Runs stack b k (s ∷ E) → Runs stack a l [] → GoesOn s x
  goes_on [] [] x y stack E s k l e p q = let both : s ∷ E ≡ [] = p.1 ∙ sym q.1 in absurd cc
  goes_on [] (z ∷ a) x y stack E s k l e p q =
      let here : Runs (s ∷ E) (z ∷ a) l [] = subst (λ n. Runs n (z ∷ a) l []) (sym p.1) q in
      record { token = z; rest = a ++ y; more = here.0; parts = e; fits = here.2 }
  goes_on (w ∷ b) a x y [] E s k l e p q = absurd p
  goes_on (w ∷ b) [] x y (t ∷ stack) E s k l e p q = let both : [] ≡ t ∷ stack = q.1 in absurd cc
  goes_on (w ∷ b) (z ∷ a) x y (t ∷ stack) E s k l e p q =
      let head : w ≡ z = cc in
      let tail : b ++ x ≡ a ++ y = cc in
      let both : Some p.0 ≡ Some q.0 = sym p.2 ∙ ap (m.expand t) head ∙ q.2 in
      let same : p.0 ≡ q.0 = cc in
      goes_on b a x y (p.0 ++ stack) E s p.1 q.1 tail p.4 (subst (λ n. Runs (n ++ stack) a q.1 []) (sym same) q.4)

  -- Reading by the machine up to where the stack is empty, or the first place that does not fit or is too deep.
  abbrev pub scan_from : Option (List Sym) → Bool → ℕ → (List Sym → Result (List Token) Stuck) → Result (List Token) Stuck
  scan_from None deep n go = Err (Unexpected n)
  scan_from (Some more) true n go = Err (TooNested n)
  scan_from (Some more) false n go = go more

  abbrev pub scan : List Sym → List Token → Result (List Token) Stuck
  scan [] ts = Ok ts
  scan (s ∷ stack) [] = Err (Unexpected 0)
  scan (s ∷ stack) (x ∷ ts) = scan_from (m.expand s x) (ltb 64 (m.level s x)) (suc (length ts)) (λ more. scan (more ++ stack) ts)

  pub record Empties (stack : List Sym) (ts rest : List Token) : Type 0 where
    pub front : List Token
    pub levels : List ℕ
    pub parts : ts ≡ front ++ rest
    pub runs : Runs stack front levels []
    pub low : shallow levels ≡ true

  pub record Blocks (stack : List Sym) (ts : List Token) (k : ℕ) : Type 0 where
    pub front : List Token
    pub levels : List ℕ
    pub top : Sym
    pub after : List Sym
    pub rest : List Token
    pub parts : ts ≡ front ++ rest
    pub place : k ≡ length rest
    pub runs : Runs stack front levels (top ∷ after)
    pub low : shallow levels ≡ true
    pub ends : (x : Token) (more : List Token) → rest ≡ x ∷ more → m.expand top x ≡ None

  pub record Deepens (stack : List Sym) (ts : List Token) (k : ℕ) : Type 0 where
    pub front : List Token
    pub levels : List ℕ
    pub top : Sym
    pub after : List Sym
    pub x : Token
    pub more : List Token
    pub next : List Sym
    pub parts : ts ≡ front ++ x ∷ more
    pub place : k ≡ length (x ∷ more)
    pub runs : Runs stack front levels (top ∷ after)
    pub low : shallow levels ≡ true
    pub fits : m.expand top x ≡ Some next
    pub deep : 64 < m.level top x

  abbrev pub Outcome : List Sym → List Token → Result (List Token) Stuck → Type 0
  Outcome stack ts (Ok rest) = Empties stack ts rest
  Outcome stack ts (Err (Unexpected k)) = Blocks stack ts k
  Outcome stack ts (Err (TooNested k)) = Deepens stack ts k

  grows : (s : Sym) (x : Token) (stack more : List Sym) (ts : List Token) (r : Result (List Token) Stuck) → m.expand s x ≡ Some more → m.level s x ≤ 64 → Outcome (more ++ stack) ts r → Outcome (s ∷ stack) (x ∷ ts) r
  grows s x stack more ts (Ok rest) e low o = record {
    front = x ∷ o.front;
    levels = m.level s x ∷ o.levels;
    parts = ap (λ l. x ∷ l) o.parts;
    runs = (more, o.levels, e, refl, o.runs);
    low = and_from _ _ (le-leb (m.level s x) 64 low) o.low;
  }
  grows s x stack more ts (Err (Unexpected k)) e low o = record {
    front = x ∷ o.front;
    levels = m.level s x ∷ o.levels;
    top = o.top;
    after = o.after;
    rest = o.rest;
    parts = ap (λ l. x ∷ l) o.parts;
    place = o.place;
    runs = (more, o.levels, e, refl, o.runs);
    low = and_from _ _ (le-leb (m.level s x) 64 low) o.low;
    ends = o.ends;
  }
  grows s x stack more ts (Err (TooNested k)) e low o = record {
    front = x ∷ o.front;
    levels = m.level s x ∷ o.levels;
    top = o.top;
    after = o.after;
    x = o.x;
    more = o.more;
    next = o.next;
    parts = ap (λ l. x ∷ l) o.parts;
    place = o.place;
    runs = (more, o.levels, e, refl, o.runs);
    low = and_from _ _ (le-leb (m.level s x) 64 low) o.low;
    fits = o.fits;
    deep = o.deep;
  }

  says_from : (s : Sym) (x : Token) (stack : List Sym) (ts : List Token) → ((stack : List Sym) → Outcome stack ts (scan stack ts)) → (o : Option (List Sym)) (b : Bool) → m.expand s x ≡ o → ltb 64 (m.level s x) ≡ b → Outcome (s ∷ stack) (x ∷ ts) (scan_from o b (suc (length ts)) (λ more. scan (more ++ stack) ts))
  says_from s x stack ts ih None b e l = record {
    front = [];
    levels = [];
    top = s;
    after = stack;
    rest = x ∷ ts;
    parts = refl;
    place = refl;
    runs = (refl, refl);
    low = refl;
    ends = λ y more same. let head : x ≡ y = cc in ap (m.expand s) (sym head) ∙ e;
  }
  says_from s x stack ts ih (Some more) true e l = record {
    front = [];
    levels = [];
    top = s;
    after = stack;
    x = x;
    more = ts;
    next = more;
    parts = refl;
    place = refl;
    runs = (refl, refl);
    low = refl;
    fits = e;
    deep = ltb-true 64 (m.level s x) l;
  }
  says_from s x stack ts ih (Some more) false e l =
      grows s x stack more ts (scan (more ++ stack) ts) e (ltb-false 64 (m.level s x) l) (ih (more ++ stack))

  pub scan_says : (ts : List Token) (stack : List Sym) → Outcome stack ts (scan stack ts)
  scan_says ts [] = record { front = []; levels = []; parts = refl; runs = (refl, refl); low = refl }
  scan_says [] (s ∷ stack) = record {
    front = [];
    levels = [];
    top = s;
    after = stack;
    rest = [];
    parts = refl;
    place = refl;
    runs = (refl, refl);
    low = refl;
    ends = λ y more same. absurd cc;
  }
  scan_says (x ∷ ts) (s ∷ stack) = says_from s x stack ts (scan_says ts) (m.expand s x) (ltb 64 (m.level s x)) refl refl

  -- What a stack stands for, where it is said what each symbol stands for and each step keeps it.
  module _ (Means : Sym → List Token → Type 0) where
    abbrev pub MeansAll : List Sym → List Token → Type 0
    MeansAll [] ts = ts ≡ []
    MeansAll (s ∷ stack) ts = (a : List Token) × (b : List Token) × (ts ≡ a ++ b) × Means s a × MeansAll stack b

    pub means_split : (more stack : List Sym) (ts : List Token) → MeansAll (more ++ stack) ts → (a : List Token) × (b : List Token) × (ts ≡ a ++ b) × MeansAll more a × MeansAll stack b
    means_split [] stack ts p = ([], ts, refl, refl, p)
    means_split (s ∷ more) stack ts p =
        let q = means_split more stack p.1 p.4 in
        (p.0 ++ q.0, q.1, p.2 ∙ ap (λ l. p.0 ++ l) q.2 ∙ sym (append_assoc p.0 q.0 q.1), (p.0, q.0, refl, p.3, q.3), q.4)

    pub built : ((s : Sym) (x : Token) (more : List Sym) (ts : List Token) → m.expand s x ≡ Some more → MeansAll more ts → Means s (x ∷ ts)) → (ts : List Token) (stack : List Sym) (l : List ℕ) → Runs stack ts l [] → MeansAll stack ts
    built step [] stack l p = subst (λ n. MeansAll n []) p.1 refl
    built step (x ∷ ts) [] l p = absurd p
    built step (x ∷ ts) (s ∷ stack) l p =
        let q = means_split p.0 stack ts (built step ts (p.0 ++ stack) p.1 p.4) in
        (x ∷ q.0, q.1, ap (λ n. x ∷ n) q.2, step s x p.0 q.0 p.2 q.3, q.4)

-- The machine of a grammar finds the first place where reading goes wrong.
use Rattle.std.proofs.Common.{◌≡◌, ℕ, true, Some, None, List, [], ◌∷◌, ◌++◌, length, refl, sym, ap, ◌∙◌, subst, arith, append_assoc}
use Rattle.std.proofs.lemmas.List.{append-nil, get_or_at}
use Rattle.fx_lex.specs.declared.token.Token.{Token}
use Rattle.fx_parse.specs.Readable.{Grammar, Stands, Begins, IsShallow, IsUnexpected, IsTooNested}
use Rattle.fx_parse.proofs.Machine.{Table, shallow, shallow_at, Runs, run_on, run_under, run_length, levels_at, same_levels, goes_on, Empties, Blocks, Deepens}

-- a machine for a grammar, from a start at each level
pub record Fits {Sym : Type 0} {Tree : Type 0} (m : Table Sym) (g : Grammar Tree) (start : ℕ → Sym) : Type 0 where
  pub runs : (d : ℕ) (t : Tree) → g.IsRight t ≡ true → Runs m (start d ∷ []) (g.tokens t) (g.levels d t) []
  pub means : (d : ℕ) (ts : List Token) (l : List ℕ) → Runs m (start d ∷ []) ts l [] → (t : Tree) × (g.IsRight t ≡ true) × (ts ≡ g.tokens t)
  pub whole : (s : Sym) → (ts : List Token) × (l : List ℕ) × Runs m (s ∷ []) ts l []

module _ {Sym : Type 0} {Tree : Type 0} (m : Table Sym) (g : Grammar Tree) (start : ℕ → Sym) (fits : Fits m g start) where
  -- each stack can be emptied
  finish : (stack : List Sym) → (ts : List Token) × (l : List ℕ) × Runs m stack ts l []
  finish [] = ([], [], (refl, refl))
  finish (s ∷ stack) =
      let one = fits.whole s in
      let rest = finish stack in
      (one.0 ++ rest.0, one.1 ++ rest.1, run_on m one.0 (s ∷ stack) stack [] rest.0 one.1 rest.1 (run_under m one.0 (s ∷ []) [] stack one.1 one.2) rest.2)

  -- what runs begins some tree
  begins : (d : ℕ) (front : List Token) (levels : List ℕ) (end : List Sym) → Runs m (start d ∷ []) front levels end → Begins g front
  begins d front levels end p =
      let rest = finish end in
      let tree = fits.means d (front ++ rest.0) (levels ++ rest.1) (run_on m front (start d ∷ []) end [] rest.0 levels rest.1 p rest.2) in
      record { tree = tree.0; rest = rest.0; right = tree.1; spelled = sym tree.2 }

  pub is_shallow : (d : ℕ) (front : List Token) (levels : List ℕ) (end : List Sym) → Runs m (start d ∷ []) front levels end → shallow levels ≡ true → IsShallow g d front
  is_shallow d front levels end p low = λ f more x e deep.
      let mine : Runs m (start d ∷ []) (f ++ x ∷ more) levels end = subst (λ l. Runs m (start d ∷ []) l levels end) e p in
      let tree : Runs m (start d ∷ []) (f ++ x ∷ deep.rest) (g.levels d deep.tree) [] = subst (λ l. Runs m (start d ∷ []) l (g.levels d deep.tree) []) deep.spelled (fits.runs d deep.tree deep.right) in
      let same = levels_at m f more deep.rest x (start d ∷ []) end [] levels (g.levels d deep.tree) mine tree in
      omega (arith, same, deep.deep, shallow_at levels (length f) low)

  pub unexpected_is : (d : ℕ) (ts : List Token) (k : ℕ) → Blocks m (start d ∷ []) ts k → IsUnexpected g d ts k
  unexpected_is d ts k b = record {
    front = b.front;
    rest = b.rest;
    parts = b.parts;
    place = b.place;
    begins = begins d b.front b.levels (b.top ∷ b.after) b.runs;
    ends = λ x more e begun.
        let on = goes_on m b.front (g.tokens begun.tree) (x ∷ begun.rest) [] (start d ∷ []) b.after b.top b.levels (g.levels d begun.tree) (sym (append_assoc b.front (x ∷ []) begun.rest) ∙ sym begun.spelled ∙ sym (append-nil (g.tokens begun.tree))) b.runs (fits.runs d begun.tree begun.right) in
        let head : x ≡ on.token = let parts = on.parts in cc in
        some_none on.more (sym on.fits ∙ ap (m.expand b.top) (sym head) ∙ b.ends x more e);
    none = λ t more right e.
        let on = goes_on m b.front (g.tokens t) b.rest more (start d ∷ []) b.after b.top b.levels (g.levels d t) (sym b.parts ∙ e) b.runs (fits.runs d t right) in
        some_none on.more (sym on.fits ∙ b.ends on.token on.rest on.parts);
    shallow = is_shallow d b.front b.levels (b.top ∷ b.after) b.runs b.low;
  }
    where
      some_none : (more : List Sym) → Some more ≡ None → ⊥
      some_none more e = cc

  pub too_nested_is : (d : ℕ) (ts : List Token) (k : ℕ) → Deepens m (start d ∷ []) ts k → IsTooNested g d ts k
  too_nested_is d ts k b =
      let rest = finish (b.next ++ b.after) in
      let here : Runs m (b.top ∷ b.after) (b.x ∷ rest.0) (m.level b.top b.x ∷ rest.1) [] = (b.next, rest.1, b.fits, refl, rest.2) in
      let all = run_on m b.front (start d ∷ []) (b.top ∷ b.after) [] (b.x ∷ rest.0) b.levels (m.level b.top b.x ∷ rest.1) b.runs here in
      let tree = fits.means d (b.front ++ b.x ∷ rest.0) (b.levels ++ m.level b.top b.x ∷ rest.1) all in
      let own : Runs m (start d ∷ []) (b.front ++ b.x ∷ rest.0) (g.levels d tree.0) [] = subst (λ l. Runs m (start d ∷ []) l (g.levels d tree.0) []) (sym tree.2) (fits.runs d tree.0 tree.1) in
      let same = levels_at m b.front rest.0 rest.0 b.x (start d ∷ []) [] [] (g.levels d tree.0) (b.levels ++ m.level b.top b.x ∷ rest.1) own all in
      let at = get_or_at b.levels (m.level b.top b.x) rest.1 0 (length b.front) (run_length m b.front (start d ∷ []) (b.top ∷ b.after) b.levels b.runs) in
      record {
        front = b.front;
        x = b.x;
        more = b.more;
        parts = b.parts;
        place = b.place;
        begins = record { tree = tree.0; rest = rest.0; right = tree.1; spelled = sym tree.2; deep = omega (arith, same, at, b.deep) };
        shallow = is_shallow d b.front b.levels (b.top ∷ b.after) b.runs b.low;
      }

  pub stands_is : (d : ℕ) (ts rest : List Token) → Empties m (start d ∷ []) ts rest → (t : Tree) × Stands g d ts t rest
  stands_is d ts rest b =
      let tree = fits.means d b.front b.levels b.runs in
      let own : Runs m (start d ∷ []) b.front (g.levels d tree.0) [] = subst (λ l. Runs m (start d ∷ []) l (g.levels d tree.0) []) (sym tree.2) (fits.runs d tree.0 tree.1) in
      let same = same_levels m b.front (start d ∷ []) [] [] b.levels (g.levels d tree.0) b.runs own in
      (tree.0, record { right = tree.1; nested = ap shallow (sym same) ∙ b.low; spelled = b.parts ∙ ap (λ l. l ++ rest) tree.2 })

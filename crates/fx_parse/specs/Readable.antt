-- What tokens stand for, said of trees alone: which lists of tokens begin a tree, and where reading goes wrong.
use Rattle.std.specs.Prelude.{◌≡◌, ◌<◌, ℕ, Bool, true, List, [], ◌∷◌, ◌++◌, length, get_or, nat_le}
use Rattle.std.specs.List.{list_all}
use Rattle.fx_lex.specs.declared.token.Token.{Token}

-- Trees, the tokens of each, the level of the form that each token begins where the whole begins at a level (0 where it
-- begins none), and which trees a text can stand for.
pub record Grammar (Tree : Type 0) : Type 0 where
  pub tokens : Tree → List Token
  pub levels : ℕ → Tree → List ℕ
  pub IsRight : Tree → Bool

module _ {Tree : Type 0} (g : Grammar Tree) where
  -- the tokens begin with those of the tree, no form of which has a level above 64; the rest follows
  pub record Stands (depth : ℕ) (ts : List Token) (t : Tree) (rest : List Token) : Type 0 where
    pub right : g.IsRight t ≡ true
    pub nested : list_all (λ level. nat_le level 64) (g.levels depth t) ≡ true
    pub spelled : ts ≡ g.tokens t ++ rest

  -- the tokens begin some tree of any nesting
  pub record Begins (ts : List Token) : Type 0 where
    pub tree : Tree
    pub rest : List Token
    pub right : g.IsRight tree ≡ true
    pub spelled : g.tokens tree ≡ ts ++ rest

  -- behind the front, the token begins a form of a level above 64 of some tree: the first such has the level 65
  pub record BeginsDeepForm (depth : ℕ) (front : List Token) (x : Token) : Type 0 where
    pub tree : Tree
    pub rest : List Token
    pub right : g.IsRight tree ≡ true
    pub spelled : g.tokens tree ≡ front ++ x ∷ rest
    pub deep : 64 < get_or (g.levels depth tree) (length front) 0

  -- no token begins a form of a level above 64
  abbrev pub IsShallow : ℕ → List Token → Type 0
  IsShallow depth ts = (front more : List Token) (x : Token) → ts ≡ front ++ x ∷ more → BeginsDeepForm depth front x → ⊥

  -- with k tokens left, the first of them is the first with which the tokens so far begin no tree, or the tokens end too early
  pub record IsUnexpected (depth : ℕ) (ts : List Token) (k : ℕ) : Type 0 where
    pub front : List Token
    pub rest : List Token
    pub parts : ts ≡ front ++ rest
    pub place : k ≡ length rest
    pub begins : Begins front
    pub ends : (x : Token) (more : List Token) → rest ≡ x ∷ more → Begins (front ++ x ∷ []) → ⊥
    pub none : (t : Tree) (more : List Token) → g.IsRight t ≡ true → ts ≡ g.tokens t ++ more → ⊥
    pub shallow : IsShallow depth front

  -- with k tokens left, the first of them is the first that begins a form of a level above 64
  pub record IsTooNested (depth : ℕ) (ts : List Token) (k : ℕ) : Type 0 where
    pub front : List Token
    pub x : Token
    pub more : List Token
    pub parts : ts ≡ front ++ x ∷ more
    pub place : k ≡ length (x ∷ more)
    pub begins : BeginsDeepForm depth front x
    pub shallow : IsShallow depth front

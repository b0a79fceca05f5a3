-- How the logic stores descriptions and commands: each is written as a term, and is read back from it.
use Rattle.std.proofs.Common.{◌≡◌, ◌⊎◌, inl, inr, ℕ, List, [], ◌∷◌, get_or, refl}
use Rattle.std.specs.Coded.{Coded, code_by, coded×, coded⊎, coded_list}
use Rattle.fx_base.proofs.Terms.{Term, leaf, node, coded_term, text, text_of, form, form1, form2}
use Rattle.fx_expr.specs.Codes.{coded_bytes, coded_expr, coded_shape}
use Rattle.fx_expr.specs.ExprTree.{ExprTree}
use Rattle.fx_expr.specs.ShapeTree.{ShapeTree}
use Rattle.fx_spec.specs.SpecTree.{SpecTree}
use Rattle.fx_spec.specs.Written.{WrittenTree, DefTree}
use Rattle.fx_spec.specs.CommandTree.{ActTree, CommandTree, Block}

abbrev pub coded_exprs : Coded (List ExprTree)
coded_exprs = coded_list coded_expr

abbrev pub coded_params : Coded (List (List ℕ × ShapeTree))
coded_params = coded_list (coded× coded_bytes coded_shape)

-- ---- leaves: texts, expressions, arguments, parameters, shapes

abbrev pub Leaf : Type 0
Leaf = List ℕ ⊎ (ExprTree ⊎ (List ExprTree ⊎ (List (List ℕ × ShapeTree) ⊎ ShapeTree)))

abbrev pub coded_leaf : Coded Leaf
coded_leaf = coded⊎ coded_bytes (coded⊎ coded_expr (coded⊎ coded_exprs (coded⊎ coded_params coded_shape)))

abbrev pub expr : ExprTree → Term Leaf
expr e = leaf (inr (inl e))

abbrev pub expr_of : Term Leaf → ExprTree
expr_of (leaf (inr (inl e))) = e
expr_of _ = ExprTree.empty

abbrev pub exprs : List ExprTree → Term Leaf
exprs es = leaf (inr (inr (inl es)))

abbrev pub exprs_of : Term Leaf → List ExprTree
exprs_of (leaf (inr (inr (inl es)))) = es
exprs_of _ = []

abbrev pub params : List (List ℕ × ShapeTree) → Term Leaf
params ps = leaf (inr (inr (inr (inl ps))))

abbrev pub params_of : Term Leaf → List (List ℕ × ShapeTree)
params_of (leaf (inr (inr (inr (inl ps))))) = ps
params_of _ = []

abbrev pub shape : ShapeTree → Term Leaf
shape s = leaf (inr (inr (inr (inr s))))

abbrev pub shape_of : Term Leaf → ShapeTree
shape_of (leaf (inr (inr (inr (inr s))))) = s
shape_of _ = ShapeTree.str

-- ---- descriptions

abbrev pub spec_term : SpecTree → Term Leaf
spec_term SpecTree.file = form 0
spec_term SpecTree.dir = form 1
spec_term SpecTree.link = form 2
spec_term (SpecTree.focus e s) = form2 3 (expr e) (spec_term s)
spec_term (SpecTree.pair x s t) = node 4 (text x) (spec_term s) (spec_term t)
spec_term (SpecTree.comp s x e) = node 5 (spec_term s) (text x) (expr e)
spec_term (SpecTree.opt s) = form1 6 (spec_term s)
spec_term (SpecTree.pred e) = form1 7 (expr e)
spec_term (SpecTree.call es ps s) = node 8 (exprs es) (params ps) (spec_term s)
spec_term (SpecTree.last es ps) = form2 9 (exprs es) (params ps)

abbrev pub term_spec : Term Leaf → SpecTree
term_spec (leaf _) = SpecTree.file
term_spec (node n a b c) = get_or
    (SpecTree.file ∷ SpecTree.dir ∷ SpecTree.link ∷ SpecTree.focus (expr_of a) (term_spec b) ∷
    SpecTree.pair (text_of a) (term_spec b) (term_spec c) ∷ SpecTree.comp (term_spec a) (text_of b) (expr_of c) ∷
    SpecTree.opt (term_spec a) ∷ SpecTree.pred (expr_of a) ∷
    SpecTree.call (exprs_of a) (params_of b) (term_spec c) ∷ SpecTree.last (exprs_of a) (params_of b) ∷ [])
    n SpecTree.file

pub spec_back : (s : SpecTree) → term_spec (spec_term s) ≡ s
spec_back (SpecTree.focus e s) = λ i. SpecTree.focus e (spec_back s i)
spec_back (SpecTree.pair x s t) = λ i. SpecTree.pair x (spec_back s i) (spec_back t i)
spec_back (SpecTree.comp s x e) = λ i. SpecTree.comp (spec_back s i) x e
spec_back (SpecTree.opt s) = λ i. SpecTree.opt (spec_back s i)
spec_back (SpecTree.call es ps s) = λ i. SpecTree.call es ps (spec_back s i)
spec_back _ = refl

abbrev pub coded_spec : Coded SpecTree
coded_spec = code_by (Term Leaf) (coded_term coded_leaf) spec_term term_spec spec_back

-- ---- descriptions as they are written

abbrev pub written_term : WrittenTree → Term Leaf
written_term WrittenTree.file = form 0
written_term WrittenTree.dir = form 1
written_term WrittenTree.link = form 2
written_term (WrittenTree.focus e s) = form2 3 (expr e) (written_term s)
written_term (WrittenTree.pair x s t) = node 4 (text x) (written_term s) (written_term t)
written_term (WrittenTree.comp s x e) = node 5 (written_term s) (text x) (expr e)
written_term (WrittenTree.opt s) = form1 6 (written_term s)
written_term (WrittenTree.pred e) = form1 7 (expr e)
written_term (WrittenTree.call f es) = form2 8 (text f) (exprs es)

abbrev pub term_written : Term Leaf → WrittenTree
term_written (leaf _) = WrittenTree.file
term_written (node n a b c) = get_or
    (WrittenTree.file ∷ WrittenTree.dir ∷ WrittenTree.link ∷ WrittenTree.focus (expr_of a) (term_written b) ∷
    WrittenTree.pair (text_of a) (term_written b) (term_written c) ∷
    WrittenTree.comp (term_written a) (text_of b) (expr_of c) ∷ WrittenTree.opt (term_written a) ∷
    WrittenTree.pred (expr_of a) ∷ WrittenTree.call (text_of a) (exprs_of b) ∷ [])
    n WrittenTree.file

pub written_back : (s : WrittenTree) → term_written (written_term s) ≡ s
written_back (WrittenTree.focus e s) = λ i. WrittenTree.focus e (written_back s i)
written_back (WrittenTree.pair x s t) = λ i. WrittenTree.pair x (written_back s i) (written_back t i)
written_back (WrittenTree.comp s x e) = λ i. WrittenTree.comp (written_back s i) x e
written_back (WrittenTree.opt s) = λ i. WrittenTree.opt (written_back s i)
written_back _ = refl

abbrev pub coded_written : Coded WrittenTree
coded_written = code_by (Term Leaf) (coded_term coded_leaf) written_term term_written written_back

abbrev pub coded_def : Coded DefTree
coded_def =
    code_by (List ℕ × (List (List ℕ × ShapeTree) × WrittenTree)) (coded× coded_bytes (coded× coded_params coded_written))
    (λ d. (d.name, (d.params, d.body))) (λ p. record { name = p.0; params = p.1.0; body = p.1.1 }) (λ _. refl)

abbrev pub coded_defs : Coded (List DefTree)
coded_defs = coded_list coded_def

-- ---- commands

abbrev pub act_term : ActTree → Term Leaf
act_term ActTree.into = form 0
act_term (ActTree.to e) = form1 1 (expr e)
act_term ActTree.next = form 2
act_term ActTree.prev = form 3
act_term ActTree.out = form 4
act_term ActTree.down = form 5
act_term ActTree.up = form 6
act_term ActTree.top = form 7
act_term (ActTree.store e) = form1 8 (expr e)
act_term ActTree.create = form 9
act_term ActTree.remove = form 10

abbrev pub term_act : Term Leaf → ActTree
term_act (leaf _) = ActTree.into
term_act (node n a b c) = get_or
    (ActTree.into ∷ ActTree.to (expr_of a) ∷ ActTree.next ∷ ActTree.prev ∷ ActTree.out ∷ ActTree.down ∷ ActTree.up ∷
    ActTree.top ∷ ActTree.store (expr_of a) ∷ ActTree.create ∷ ActTree.remove ∷ [])
    n ActTree.into

pub act_back : (a : ActTree) → term_act (act_term a) ≡ a
act_back ActTree.into = refl
act_back _ = refl

abbrev mutual
  pub command_term : CommandTree → Term Leaf
  command_term (CommandTree.act a) = form1 0 (act_term a)
  command_term (CommandTree.attempt x a) = form2 1 (text x) (act_term a)
  command_term (CommandTree.bind x e) = form2 2 (text x) (expr e)
  command_term (CommandTree.assign x e) = form2 3 (text x) (expr e)
  command_term (CommandTree.fetch x s) = form2 4 (text x) (shape s)
  command_term (CommandTree.whole x s) = form2 5 (text x) (shape s)
  command_term (CommandTree.validate x) = form1 6 (text x)
  command_term (CommandTree.print e) = form1 7 (expr e)
  command_term (CommandTree.branch e s t) = node 8 (expr e) (block_term s) (block_term t)
  command_term (CommandTree.each x e s) = node 9 (text x) (expr e) (block_term s)
  command_term CommandTree.abort = form 10

  pub block_term : Block → Term Leaf
  block_term Block.none = text []
  block_term (Block.then c s) = form2 0 (command_term c) (block_term s)

abbrev mutual
  pub term_command : Term Leaf → CommandTree
  term_command (leaf _) = CommandTree.abort
  term_command (node n a b c) = get_or
      (CommandTree.act (term_act a) ∷ CommandTree.attempt (text_of a) (term_act b) ∷
      CommandTree.bind (text_of a) (expr_of b) ∷ CommandTree.assign (text_of a) (expr_of b) ∷
      CommandTree.fetch (text_of a) (shape_of b) ∷ CommandTree.whole (text_of a) (shape_of b) ∷
      CommandTree.validate (text_of a) ∷ CommandTree.print (expr_of a) ∷
      CommandTree.branch (expr_of a) (term_block b) (term_block c) ∷
      CommandTree.each (text_of a) (expr_of b) (term_block c) ∷ [])
      n CommandTree.abort

  pub term_block : Term Leaf → Block
  term_block (leaf _) = Block.none
  term_block (node _ a b c) = Block.then (term_command a) (term_block b)

mutual
  pub command_back : (c : CommandTree) → term_command (command_term c) ≡ c
  command_back (CommandTree.act a) = λ i. CommandTree.act (act_back a i)
  command_back (CommandTree.attempt x a) = λ i. CommandTree.attempt x (act_back a i)
  command_back (CommandTree.branch e s t) = λ i. CommandTree.branch e (block_back s i) (block_back t i)
  command_back (CommandTree.each x e s) = λ i. CommandTree.each x e (block_back s i)
  command_back _ = refl

  pub block_back : (s : Block) → term_block (block_term s) ≡ s
  block_back Block.none = refl
  block_back (Block.then c s) = λ i. Block.then (command_back c i) (block_back s i)

abbrev pub coded_command : Coded CommandTree
coded_command = code_by (Term Leaf) (coded_term coded_leaf) command_term term_command command_back

abbrev pub coded_commands : Coded (List CommandTree)
coded_commands = coded_list coded_command

-- The level of the form that each token of a description or a script begins, 0 where it begins none.
use Rattle.std.specs.Prelude.{ℕ, suc, List, [], ◌∷◌, ◌++◌}
use Rattle.std.specs.List.{flat_map}
use Rattle.fx_expr.specs.ShapeTree.{ShapeTree}
use Rattle.fx_parse.specs.Grammars.{expr_levels, shape_levels}
use Rattle.fx_spec.specs.Written.{WrittenTree, DefTree, TextTree}
use Rattle.fx_spec.specs.CommandTree.{ActTree, CommandTree, Block, block}

-- a comma begins no form
abbrev pub listed_levels : {Part : Type 0} → (Part → List ℕ) → List Part → List ℕ
listed_levels levels [] = []
listed_levels levels (p ∷ ps) = levels p ++ flat_map (λ q. 0 ∷ levels q) ps

-- each part of a form is a form of the next level
abbrev pub spec_token_levels : ℕ → WrittenTree → List ℕ
spec_token_levels d (WrittenTree.focus e s) = d ∷ (expr_levels (suc d) e ++ (0 ∷ (spec_token_levels (suc d) s ++ 0 ∷ [])))
spec_token_levels d (WrittenTree.pair x a b) = d ∷ 0 ∷ 0 ∷ (spec_token_levels (suc d) a ++ (0 ∷ (spec_token_levels (suc d) b ++ 0 ∷ [])))
spec_token_levels d (WrittenTree.comp s x e) = d ∷ (spec_token_levels (suc d) s ++ (0 ∷ 0 ∷ 0 ∷ (expr_levels (suc d) e ++ 0 ∷ [])))
spec_token_levels d (WrittenTree.opt s) = d ∷ 0 ∷ (spec_token_levels (suc d) s ++ 0 ∷ [])
spec_token_levels d (WrittenTree.pred e) = d ∷ 0 ∷ (expr_levels (suc d) e ++ 0 ∷ [])
spec_token_levels d (WrittenTree.call f args) = d ∷ 0 ∷ (listed_levels (expr_levels (suc d)) args ++ 0 ∷ [])
spec_token_levels d _ = d ∷ []

abbrev pub param_token_levels : ℕ → List ℕ × ShapeTree → List ℕ
param_token_levels d p = 0 ∷ 0 ∷ shape_levels d p.1

abbrev pub def_token_levels : ℕ → DefTree → List ℕ
def_token_levels d f = d ∷ 0 ∷ 0 ∷ (listed_levels (param_token_levels (suc d)) f.params ++ (0 ∷ 0 ∷ spec_token_levels (suc d) f.body))

-- a text itself is no form
abbrev pub text_token_levels : ℕ → TextTree → List ℕ
text_token_levels d t = flat_map (def_token_levels d) t.defs ++ spec_token_levels d t.root

-- behind its first token an act has the parts of a form of level d
abbrev pub act_rest_levels : ℕ → ActTree → List ℕ
act_rest_levels d (ActTree.to e) = 0 ∷ (expr_levels (suc d) e ++ 0 ∷ [])
act_rest_levels d (ActTree.store e) = 0 ∷ (expr_levels (suc d) e ++ 0 ∷ [])
act_rest_levels d _ = []

-- an act is one form with its command, so that the act of a `try` begins none
abbrev mutual
  pub command_token_levels : ℕ → CommandTree → List ℕ
  command_token_levels d (CommandTree.act a) = d ∷ act_rest_levels d a
  command_token_levels d (CommandTree.attempt x a) = d ∷ 0 ∷ 0 ∷ act_rest_levels d a
  command_token_levels d (CommandTree.bind x e) = d ∷ 0 ∷ 0 ∷ expr_levels (suc d) e
  command_token_levels d (CommandTree.assign x e) = d ∷ 0 ∷ 0 ∷ expr_levels (suc d) e
  command_token_levels d (CommandTree.fetch x s) = d ∷ 0 ∷ 0 ∷ shape_levels (suc d) s
  command_token_levels d (CommandTree.whole x s) = d ∷ 0 ∷ 0 ∷ shape_levels (suc d) s
  command_token_levels d (CommandTree.validate x) = d ∷ 0 ∷ []
  command_token_levels d (CommandTree.print e) = d ∷ 0 ∷ (expr_levels (suc d) e ++ 0 ∷ [])
  command_token_levels d (CommandTree.branch e a b) =
      d ∷ 0 ∷ (expr_levels (suc d) e ++ (0 ∷ 0 ∷ (block_token_levels (suc d) a ++ (0 ∷ 0 ∷ 0 ∷ (block_token_levels (suc d) b ++ 0 ∷ [])))))
  command_token_levels d (CommandTree.each x e a) = d ∷ 0 ∷ 0 ∷ 0 ∷ (expr_levels (suc d) e ++ (0 ∷ 0 ∷ (block_token_levels (suc d) a ++ 0 ∷ [])))
  command_token_levels d CommandTree.abort = d ∷ []

  -- commands of level d, one after another
  pub block_token_levels : ℕ → Block → List ℕ
  block_token_levels d Block.none = []
  block_token_levels d (Block.then c cs) = command_token_levels d c ++ block_token_levels d cs

abbrev pub txn_token_levels : ℕ → List CommandTree → List ℕ
txn_token_levels d commands = d ∷ 0 ∷ (block_token_levels (suc d) (block commands) ++ 0 ∷ [])

-- a script itself is no form
abbrev pub script_token_levels : ℕ → List (List CommandTree) → List ℕ
script_token_levels d txns = flat_map (txn_token_levels d) txns

-- An expression without names has one value, whatever is bound around it.
use Rattle.std.proofs.Common.{◌≡◌, ℕ, true, cond, ◌&&◌, List, [], Some, Ok, refl, ap, ◌∙◌}
use Rattle.fx_expr.specs.Closed.{is_closed, IsKept}
use Rattle.std.specs.List.{filter}
use Rattle.std.proofs.lemmas.Bool.{and_parts}
use Rattle.fx_expr.specs.Globs.{glob_matches}
use Rattle.fx_expr.specs.Eval.{eval_of, then_on, unless, two, one, decided, truth_in, names_in}
use Rattle.fx_expr.specs.Tree.{Tree}
use Rattle.fx_expr.specs.ExprTree.{ExprTree}

pub one_value : (e : ExprTree) → is_closed e ≡ true → (env other : List (List ℕ × Tree)) → eval_of env e ≡ eval_of other e
one_value (ExprTree.str x) h env other = refl
one_value (ExprTree.int x) h env other = refl
one_value (ExprTree.bool x) h env other = refl
one_value ExprTree.empty h env other = refl
one_value (ExprTree.var x) h env other = absurd (cc)
one_value (ExprTree.bin op a b) h env other =
    let p = and_parts (is_closed a) (is_closed b) h in
    λ i. then_on (one_value a p.0 env other i) (λ v. unless (decided op v) (then_on (one_value b p.1 env other i) (λ w. two op v w)))
one_value (ExprTree.un op a) h env other = ap (λ o. then_on o (λ v. one op v)) (one_value a h env other)
one_value (ExprTree.choose c a b) h env other =
    let p = and_parts (is_closed c) (is_closed a && is_closed b) h in
    let q = and_parts (is_closed a) (is_closed b) p.1 in
    λ i. then_on (one_value c p.0 env other i) (λ v. cond (truth_in v) (one_value a q.0 env other i) (one_value b q.1 env other i))
one_value (ExprTree.only a glob) h env other =
    ap (λ o. then_on o (λ v. Ok (Tree.names (filter (λ x. glob_matches glob x) (names_in v))))) (one_value a h env other)

-- a value in no environment is the value in each
pub kept : (e : ExprTree) (v : Tree) → is_closed e ≡ true → eval_of [] e ≡ Ok v → IsKept e (Some v)
kept e v h f env = one_value e h env [] ∙ f

-- A value has its expression's shape.
use Rattle.std.proofs.Common.{◌≡◌, ℕ, Bool, true, false, cond, List, [], ◌∷◌, Option, Some, None, Ok, Err, IfOk, nat_eq, refl, ap, sym, subst, ◌∙◌}
use Rattle.std.specs.Option.{unwrap_or, option_or}
use Rattle.std.specs.Cmp.Lexicographic.{pointwise}
use Rattle.fx_expr.specs.declared.expr.BinOp.{BinOp}
use Rattle.fx_expr.specs.declared.expr.UnOp.{UnOp}
use Rattle.fx_expr.specs.declared.fault.ExprFault.{ExprFault}
use Rattle.fx_expr.specs.Bindings.{bound}
use Rattle.fx_expr.specs.Eval.{Outcome, eval_of, then_on, unless, two, one, decided, first_in, second_in, truth_in}
use Rattle.fx_expr.specs.Shapes.{HasShape, ValueHas, BinShape, UnShape, BindingsHave}
use Rattle.fx_expr.specs.Tree.{Tree}
use Rattle.fx_expr.specs.ShapeTree.{ShapeTree}
use Rattle.fx_expr.specs.ExprTree.{ExprTree}

-- ---- bound words

bound_nowhere : (env : List (List ℕ × Tree)) (g : List (List ℕ × ShapeTree)) (x : List ℕ) → BindingsHave env g → bound g x ≡ None → bound env x ≡ None
bound_nowhere [] [] x h e = refl
bound_nowhere [] (s ∷ g) x h e = absurd h
bound_nowhere (b ∷ env) [] x h e = absurd h
bound_nowhere (b ∷ env) (s ∷ g) x h e = by (bound g x) refl (bound_nowhere env g x h.2)
  where
    here : (t : Bool) → pointwise nat_eq s.0 x ≡ t → bound g x ≡ None → bound env x ≡ None → bound (b ∷ env) x ≡ None
    here true f none rest = absurd (let p : Some s.1 ≡ None = sym (ap (λ t. cond t (Some s.1) None) f) ∙ sym (ap (λ o. option_or o (cond (pointwise nat_eq s.0 x) (Some s.1) None)) none) ∙ e in cc)
    here false f none rest = ap (λ o. option_or o (cond (pointwise nat_eq b.0 x) (Some b.1) None)) rest ∙ ap (λ t. cond t (Some b.1) None) (ap (λ w. pointwise nat_eq w x) h.0 ∙ f)

    by : (o : Option ShapeTree) → bound g x ≡ o → (bound g x ≡ None → bound env x ≡ None) → bound (b ∷ env) x ≡ None
    by None f rest = here (pointwise nat_eq s.0 x) refl f (rest f)
    by (Some t) f rest = absurd (let p : Some t ≡ None = sym (ap (λ o. option_or o (cond (pointwise nat_eq s.0 x) (Some s.1) None)) f) ∙ e in cc)

-- the value that a word is bound to
pub record Bound (env : List (List ℕ × Tree)) (x : List ℕ) (s : ShapeTree) : Type 0 where
  pub value : Tree
  pub is : bound env x ≡ Some value
  pub has : ValueHas value s

pub bound_has : (env : List (List ℕ × Tree)) (g : List (List ℕ × ShapeTree)) (x : List ℕ) (s : ShapeTree) → BindingsHave env g → bound g x ≡ Some s → Bound env x s
bound_has [] [] x s h e = absurd (cc)
bound_has [] (t ∷ g) x s h e = absurd h
bound_has (b ∷ env) [] x s h e = absurd h
bound_has (b ∷ env) (t ∷ g) x s h e = by (bound g x) refl (λ r. bound_has env g x r h.2)
  where
    here : (c : Bool) → pointwise nat_eq t.0 x ≡ c → bound g x ≡ None → Bound (b ∷ env) x s
    here true f none =
        let p : Some t.1 ≡ Some s = sym (ap (λ c. cond c (Some t.1) None) f) ∙ sym (ap (λ o. option_or o (cond (pointwise nat_eq t.0 x) (Some t.1) None)) none) ∙ e in
        let same : t.1 ≡ s = cc in
        record {
          value = b.1;
          is = ap (λ o. option_or o (cond (pointwise nat_eq b.0 x) (Some b.1) None)) (bound_nowhere env g x h.2 none) ∙ ap (λ c. cond c (Some b.1) None) (ap (λ w. pointwise nat_eq w x) h.0 ∙ f);
          has = subst (λ (r : ShapeTree). ValueHas b.1 r) same h.1;
        }
    here false f none = absurd (let p : None ≡ Some s = sym (ap (λ c. cond c (Some t.1) None) f) ∙ sym (ap (λ o. option_or o (cond (pointwise nat_eq t.0 x) (Some t.1) None)) none) ∙ e in cc)

    by : (o : Option ShapeTree) → bound g x ≡ o → ((r : ShapeTree) → bound g x ≡ Some r → Bound env x r) → Bound (b ∷ env) x s
    by None f rest = here (pointwise nat_eq t.0 x) refl f
    by (Some r) f rest =
        let p : Some r ≡ Some s = sym (ap (λ o. option_or o (cond (pointwise nat_eq t.0 x) (Some t.1) None)) f) ∙ e in
        let same : r ≡ s = cc in
        let found : Bound env x r = rest r f in
        record {
          value = found.value;
          is = ap (λ o. option_or o (cond (pointwise nat_eq b.0 x) (Some b.1) None)) found.is;
          has = subst (λ (q : ShapeTree). ValueHas found.value q) same found.has;
        }

-- ---- outcomes

cond_has : (b : Bool) (v : Tree) (f : ExprFault) (s : ShapeTree) → ValueHas v s → IfOk {T = Tree} {E = ExprFault} (cond b (Ok v) (Err f)) (λ v. ValueHas v s)
cond_has true v f s h = h
cond_has false v f s h = tt

then_has : (o : Outcome) (next : Tree → Outcome) (u s : ShapeTree) → IfOk o (λ v. ValueHas v u) → ((v : Tree) → ValueHas v u → IfOk (next v) (λ w. ValueHas w s)) → IfOk (then_on o next) (λ w. ValueHas w s)
then_has (Ok v) next u s h step = step v h
then_has (Err f) next u s h step = tt

unless_has : (d : Option Tree) (o : Outcome) (s : ShapeTree) → ((v : Tree) → d ≡ Some v → ValueHas v s) → IfOk o (λ w. ValueHas w s) → IfOk (unless d o) (λ w. ValueHas w s)
unless_has None o s h g = g
unless_has (Some v) o s h g = h v refl

choice_has : (b : Bool) (o q : Outcome) (s : ShapeTree) → IfOk o (λ w. ValueHas w s) → IfOk q (λ w. ValueHas w s) → IfOk (cond b o q) (λ w. ValueHas w s)
choice_has true o q s h g = h
choice_has false o q s h g = g

first_has : (v : Tree) (s t : ShapeTree) → ValueHas v (ShapeTree.pair s t) → ValueHas (first_in v) s
first_has (Tree.pair a b) s t (u, w, e, ha, hb) = let same : u ≡ s = cc in subst (λ (q : ShapeTree). ValueHas a q) same ha
first_has (Tree.str x) s t h = absurd (cc)
first_has (Tree.int x) s t h = absurd (cc)
first_has (Tree.bool x) s t h = absurd (cc)
first_has (Tree.names x) s t h = absurd (cc)
first_has Tree.nothing s t (u, e) = absurd (cc)
first_has (Tree.some a) s t (u, e, h) = absurd (cc)
first_has (Tree.table r) s t (u, e, h) = absurd (cc)

second_has : (v : Tree) (s t : ShapeTree) → ValueHas v (ShapeTree.pair t s) → ValueHas (second_in v) s
second_has (Tree.pair a b) s t (u, w, e, ha, hb) = let same : w ≡ s = cc in subst (λ (q : ShapeTree). ValueHas b q) same hb
second_has (Tree.str x) s t h = absurd (cc)
second_has (Tree.int x) s t h = absurd (cc)
second_has (Tree.bool x) s t h = absurd (cc)
second_has (Tree.names x) s t h = absurd (cc)
second_has Tree.nothing s t (u, e) = absurd (cc)
second_has (Tree.some a) s t (u, e, h) = absurd (cc)
second_has (Tree.table r) s t (u, e, h) = absurd (cc)

two_has : (op : BinOp) (v w : Tree) (u t s : ShapeTree) → BinShape op u t s → IfOk (two op v w) (λ r. ValueHas r s)
two_has BinOp.Join v w u t s h = cond_has _ _ _ s h.2
two_has BinOp.Plus v w u t s h = cond_has _ _ _ s h.2
two_has BinOp.Minus v w u t s h = cond_has _ _ _ s h.2
two_has BinOp.Equal v w u t s h = h.2
two_has BinOp.Less v w u t s h = h.2
two_has BinOp.And v w u t s h = h.2
two_has BinOp.Or v w u t s h = h.2
two_has BinOp.Member v w u t s h = h.2
two_has BinOp.Union v w u t s h = cond_has _ _ _ s h.2
two_has BinOp.Without v w u t s h = h.2

decided_has : (op : BinOp) (v : Tree) (u t s : ShapeTree) → BinShape op u t s → (d : Tree) → decided op v ≡ Some d → ValueHas d s
decided_has BinOp.And v u t s h d e = by (truth_in v) e
  where
    by : (b : Bool) → cond b None (Some (Tree.bool false)) ≡ Some d → ValueHas d s
    by true f = absurd (cc)
    by false f = let same : Tree.bool false ≡ d = cc in subst (λ (x : Tree). ValueHas x s) same h.2
decided_has BinOp.Or v u t s h d e = by (truth_in v) e
  where
    by : (b : Bool) → cond b (Some (Tree.bool true)) None ≡ Some d → ValueHas d s
    by false f = absurd (cc)
    by true f = let same : Tree.bool true ≡ d = cc in subst (λ (x : Tree). ValueHas x s) same h.2
decided_has BinOp.Join v u t s h d e = absurd (cc)
decided_has BinOp.Plus v u t s h d e = absurd (cc)
decided_has BinOp.Minus v u t s h d e = absurd (cc)
decided_has BinOp.Equal v u t s h d e = absurd (cc)
decided_has BinOp.Less v u t s h d e = absurd (cc)
decided_has BinOp.Member v u t s h d e = absurd (cc)
decided_has BinOp.Union v u t s h d e = absurd (cc)
decided_has BinOp.Without v u t s h d e = absurd (cc)

one_has : (op : UnOp) (v : Tree) (u s : ShapeTree) → UnShape op u s → ValueHas v u → IfOk (one op v) (λ r. ValueHas r s)
one_has UnOp.Not v u s h g = h.1
one_has UnOp.One v u s h g = h.1
one_has UnOp.Lines v u s h g = h.1
one_has UnOp.Size v u s h g = h.1
one_has UnOp.Int v u s h g = cond_has _ _ _ s h.1
one_has UnOp.Text v u s h g = h.1
one_has UnOp.First v u s h g = first_has v s h.0 (subst (λ (q : ShapeTree). ValueHas v q) h.1 g)
one_has UnOp.Second v u s h g = second_has v s h.0 (subst (λ (q : ShapeTree). ValueHas v q) h.1 g)
one_has UnOp.Keys v u s h g = h.2
one_has UnOp.Present v u s h g = h.2

-- ---- a value has its expression's shape

bound_ok : (o : Option Tree) (s : ShapeTree) (v : Tree) → o ≡ Some v → ValueHas v s → ValueHas (unwrap_or o (Tree.bool false)) s
bound_ok (Some w) s v e h = let same : v ≡ w = cc in subst (λ (x : Tree). ValueHas x s) same h
bound_ok None s v e h = absurd (cc)

pub eval_has : (g : List (List ℕ × ShapeTree)) (env : List (List ℕ × Tree)) (e : ExprTree) (s : ShapeTree) → BindingsHave env g → HasShape g e s → IfOk (eval_of env e) (λ v. ValueHas v s)
eval_has g env (ExprTree.str x) s b h = h
eval_has g env (ExprTree.int x) s b h = h
eval_has g env (ExprTree.bool x) s b h = h
eval_has g env ExprTree.empty s b h = h
eval_has g env (ExprTree.var x) s b h = let f : Bound env x s = bound_has env g x s b h in bound_ok (bound env x) s f.value f.is f.has
eval_has g env (ExprTree.bin op a c) s b (u, t, sh, ha, hc) =
    then_has (eval_of env a) _ u s (eval_has g env a u b ha)
    (λ v hv. unless_has (decided op v) _ s (decided_has op v u t s sh) (then_has (eval_of env c) _ t s (eval_has g env c t b hc) (λ w hw. two_has op v w u t s sh)))
eval_has g env (ExprTree.un op a) s b (u, sh, ha) = then_has (eval_of env a) _ u s (eval_has g env a u b ha) (λ v hv. one_has op v u s sh hv)
eval_has g env (ExprTree.choose c a d) s b (hc, ha, hd) =
    then_has (eval_of env c) _ ShapeTree.bool s (eval_has g env c ShapeTree.bool b hc) (λ v hv. choice_has (truth_in v) (eval_of env a) (eval_of env d) s (eval_has g env a s b ha) (eval_has g env d s b hd))
eval_has g env (ExprTree.only a glob) s b (hs, ha) = then_has (eval_of env a) _ ShapeTree.names s (eval_has g env a ShapeTree.names b ha) (λ v hv. hs)

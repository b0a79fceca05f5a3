-- Values that are bound, and bound again, where the names in scope have shapes.
use Rattle.std.proofs.Common.{◌≡◌, ℕ, Bool, true, false, cond, List, [], ◌∷◌, ◌++◌, length, take, Some, None, nat_eq, refl, ap, ◌∙◌, sym, subst}
use Rattle.std.specs.Cmp.Lexicographic.{pointwise}
use Rattle.std.specs.Option.{option_or, option_map, unwrap_or}
use Rattle.fx_base.proofs.Orders.{nat_list_exact}
use Rattle.fx_expr.specs.Bindings.{bind, bound, assigned}
use Rattle.fx_expr.specs.ShapeTree.{ShapeTree}
use Rattle.fx_expr.specs.Shapes.{ValueHas, BindingsHave}
use Rattle.fx_expr.specs.Tree.{Tree}
use Rattle.fx_spec.specs.Describe.{Bindings}
use Rattle.fx_spec.specs.WellShaped.{Scope}

pub bind_has : (env : Bindings) (g : Scope) (x : List ℕ) (v : Tree) (s : ShapeTree) → BindingsHave env g → ValueHas v s → BindingsHave (bind env x v) (bind g x s)
bind_has [] [] x v s b h = (refl, h, tt)
bind_has [] (t ∷ g) x v s b h = absurd b
bind_has (e ∷ env) [] x v s b h = absurd b
bind_has (e ∷ env) (t ∷ g) x v s b h = (b.0, b.1, bind_has env g x v s b.2 h)

-- the word is bound nowhere, or to a shape, and then a value of that shape can be put there
data IsPut (env : Bindings) (g : Scope) (x : List ℕ) (v : Tree) : Type 0 where
  nowhere : bound g x ≡ None → assigned x v env ≡ None → IsPut env g x v
  there : (s : ShapeTree) (new : Bindings) → bound g x ≡ Some s → assigned x v env ≡ Some new → (ValueHas v s → BindingsHave new g) → IsPut env g x v

put_has : (env : Bindings) (g : Scope) (x : List ℕ) (v : Tree) → BindingsHave env g → IsPut env g x v
put_has [] [] x v b = nowhere refl refl
put_has [] (t ∷ g) x v b = absurd b
put_has (e ∷ env) [] x v b = absurd b
put_has (e ∷ env) (t ∷ g) x v b = by (put_has env g x v b.2)
  where
    here : (c d : Bool) → pointwise nat_eq t.0 x ≡ c → pointwise nat_eq e.0 x ≡ d → c ≡ d → bound g x ≡ None → assigned x v env ≡ None → IsPut (e ∷ env) (t ∷ g) x v
    here true true c d same none left =
        there t.1 ((x, v) ∷ env)
        (ap (λ o. option_or o (cond (pointwise nat_eq t.0 x) (Some t.1) None)) none ∙ ap (λ b. cond b (Some t.1) None) c)
        (ap (λ o. option_or (option_map (λ others. e ∷ others) o) (cond (pointwise nat_eq e.0 x) (Some ((x, v) ∷ env)) None)) left ∙ ap (λ b. cond b (Some ((x, v) ∷ env)) None) d)
        (λ h. (sym (nat_list_exact t.0 x c), h, b.2))
    here false false c d same none left =
        nowhere
        (ap (λ o. option_or o (cond (pointwise nat_eq t.0 x) (Some t.1) None)) none ∙ ap (λ b. cond b (Some t.1) None) c)
        (ap (λ o. option_or (option_map (λ others. e ∷ others) o) (cond (pointwise nat_eq e.0 x) (Some ((x, v) ∷ env)) None)) left ∙ ap (λ b. cond b (Some ((x, v) ∷ env)) None) d)
    here true false c d same none left = cc
    here false true c d same none left = cc

    by : IsPut env g x v → IsPut (e ∷ env) (t ∷ g) x v
    by (nowhere none left) = here (pointwise nat_eq t.0 x) (pointwise nat_eq e.0 x) refl refl (ap (λ y. pointwise nat_eq y x) (sym b.0)) none left
    by (there s new is made has) =
        there s (e ∷ new)
        (ap (λ o. option_or o (cond (pointwise nat_eq t.0 x) (Some t.1) None)) is)
        (ap (λ o. option_or (option_map (λ others. e ∷ others) o) (cond (pointwise nat_eq e.0 x) (Some ((x, v) ∷ env)) None)) made)
        (λ h. (b.0, b.1, has h))

pub set_has : (env : Bindings) (g : Scope) (x : List ℕ) (v : Tree) (s : ShapeTree) → BindingsHave env g → bound g x ≡ Some s → ValueHas v s → BindingsHave (unwrap_or (assigned x v env) env) g
set_has env g x v s b is h = by (put_has env g x v b)
  where
    by : IsPut env g x v → BindingsHave (unwrap_or (assigned x v env) env) g
    by (nowhere none left) = let wrong : None ≡ Some s = sym none ∙ is in cc
    by (there t new at made has) =
        let same : s ≡ t = cc in
        subst (λ o. BindingsHave (unwrap_or o env) g) (sym made) (has (subst (ValueHas v) same h))

-- the oldest variables, as many as there were
pub cut_has : (old env : Bindings) (g more : Scope) → BindingsHave old g → BindingsHave env (g ++ more) → BindingsHave (take (length old) env) g
cut_has [] env [] more b c = tt
cut_has [] env (t ∷ g) more b c = absurd b
cut_has (e ∷ old) env [] more b c = absurd b
cut_has (e ∷ old) [] (t ∷ g) more b c = absurd c
cut_has (e ∷ old) (f ∷ env) (t ∷ g) more b c = (c.0, c.1, cut_has old env g more b.2 c.2)

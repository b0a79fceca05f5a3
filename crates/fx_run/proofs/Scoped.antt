-- Variables of the shapes that a scope gives them, through commands and blocks.
use Rattle.std.proofs.Common.{◌≡◌, ℕ, List, [], ◌∷◌, length, take, Result, Ok, Err, refl, ap, ◌∙◌, sym, subst, append-nil, append_assoc}
use Rattle.std.specs.Prelude.{IfOk, pos}
use Rattle.std.specs.Option.{unwrap_or}
use Rattle.fx_expr.specs.Bindings.{bind, bound, assigned}
use Rattle.fx_expr.specs.Eval.{Outcome, eval_of}
use Rattle.fx_expr.specs.ExprTree.{ExprTree}
use Rattle.fx_expr.specs.ShapeTree.{ShapeTree}
use Rattle.fx_expr.specs.Shapes.{HasShape, ValueHas, BindingsHave, IsWellShaped}
use Rattle.fx_expr.specs.Tree.{Tree}
use Rattle.fx_expr.specs.Views.{shape_tree}
use Rattle.fx_expr.proofs.Shaping.{eval_has}
use Rattle.fx_spec.specs.CommandTree.{ActTree, CommandTree, Block}
use Rattle.fx_spec.specs.Describe.{Bindings}
use Rattle.fx_spec.specs.Move.{evaluated}
use Rattle.fx_spec.specs.WellShaped.{Scope, IsBlock}
use Rattle.fx_spec.proofs.Scoped.{bind_has, set_has, cut_has}
use Rattle.fx_zip.specs.declared.question.Question.{Question}
use Rattle.fx_zip.specs.declared.question.Question.TheVariants as question
use Rattle.fx_zip.specs.Asking.{asked_shape}
use Rattle.fx_run.specs.Asking.{ask_command}
use Rattle.fx_run.specs.declared.leave.Leave.{Leave}
use Rattle.fx_run.specs.Scopes.{HasBlock, HasCommand, HasTurn, OpensScope, Scopes, ScopesBlock, KeepsVariables, KeepsTurn}

-- ---- what a command's own parts need

module _ (vars : Bindings) where
  expr_shaped : (scope : Scope) (s : ShapeTree) (e : ExprTree) → BindingsHave vars scope → HasShape scope e s → IsWellShaped vars e
  expr_shaped scope s e b h = record { shapes = scope; shape = s; bindings = b; expression = h }

  pub branch_shaped : (e : ExprTree) (a b : Block) → HasCommand vars (CommandTree.branch e a b) → IsWellShaped vars e
  branch_shaped e a b h = expr_shaped h.next.scope ShapeTree.bool e h.next.bindings h.next.shaped.0

  pub yes_shaped : (e : ExprTree) (a b : Block) → HasCommand vars (CommandTree.branch e a b) → HasBlock vars a
  yes_shaped e a b h = record { scope = h.next.scope; bindings = h.next.bindings; shaped = h.next.shaped.1 }

  pub no_shaped : (e : ExprTree) (a b : Block) → HasCommand vars (CommandTree.branch e a b) → HasBlock vars b
  no_shaped e a b h = record { scope = h.next.scope; bindings = h.next.bindings; shaped = h.next.shaped.2 }

  pub each_shaped : (x : List ℕ) (e : ExprTree) (a : Block) → HasCommand vars (CommandTree.each x e a) → IsWellShaped vars e
  each_shaped x e a h = expr_shaped h.next.scope ShapeTree.names e h.next.bindings h.next.shaped.0

  pub turn_shaped : (x : List ℕ) (e : ExprTree) (a : Block) → HasCommand vars (CommandTree.each x e a) → HasTurn vars x a
  turn_shaped x e a h = record { scope = h.next.scope; bindings = h.next.bindings; shaped = h.next.shaped.2 }

  -- a text is bound for the turn
  pub turn_bound : (x : List ℕ) (b : Block) (t : List ℕ) (new : Bindings) → new ≡ bind vars x (Tree.str t) → HasTurn vars x b → HasBlock new b
  turn_bound x b t new is h = record { scope = bind h.scope x ShapeTree.str; bindings = subst (λ e. BindingsHave e (bind h.scope x ShapeTree.str)) (sym is) (bind_has vars h.scope x (Tree.str t) ShapeTree.str h.bindings refl); shaped = h.shaped }

-- ---- what a command leaves

pub opens_same : (scope : Scope) (new : Bindings) (rest : Block) → BindingsHave new scope → IsBlock scope rest → OpensScope scope new rest
opens_same scope new rest b h = record {
  more = [];
  bindings = subst (BindingsHave new) (sym (append-nil scope)) b;
  shaped = subst (λ g. IsBlock g rest) (sym (append-nil scope)) h;
}

opens_bound : (scope : Scope) (old new : Bindings) (rest : Block) (x : List ℕ) (v : Tree) (s : ShapeTree) → BindingsHave old scope → ValueHas v s → new ≡ bind old x v → IsBlock (bind scope x s) rest → OpensScope scope new rest
opens_bound scope old new rest x v s b has is h = record {
  more = (x, s) ∷ [];
  bindings = subst (λ e. BindingsHave e (bind scope x s)) (sym is) (bind_has old scope x v s b has);
  shaped = h;
}

module _ (old new : Bindings) where
  outcome_has : (o : Outcome) (v : Tree) (s : ShapeTree) → evaluated o ≡ Ok v → IfOk o (λ v. ValueHas v s) → ValueHas v s
  outcome_has (Ok w) v s is has = let same : w ≡ v = cc in subst (λ v. ValueHas v s) same has
  outcome_has (Err f) v s is has = cc

  pub scopes_bind : (x : List ℕ) (e : ExprTree) (v : Tree) → evaluated (eval_of old e) ≡ Ok v → new ≡ bind old x v → Scopes (CommandTree.bind x e) old new (Ok tt)
  scopes_bind x e v is bound scope rest b h = opens_bound scope old new rest x v h.0 b (outcome_has (eval_of old e) v h.0 is (eval_has scope old e h.0 b h.1)) bound h.3

  pub scopes_assign : (x : List ℕ) (e : ExprTree) (v : Tree) → evaluated (eval_of old e) ≡ Ok v → new ≡ unwrap_or (assigned x v old) old → Scopes (CommandTree.assign x e) old new (Ok tt)
  scopes_assign x e v is put scope rest b h =
      opens_same scope new rest (subst (λ n. BindingsHave n scope) (sym put) (set_has old scope x v h.0 b h.2 (outcome_has (eval_of old e) v h.0 is (eval_has scope old e h.0 b h.1)))) h.3

  pub scopes_attempt : (x : List ℕ) (a : ActTree) (n : ℕ) → new ≡ bind old x (Tree.int (pos n)) → Scopes (CommandTree.attempt x a) old new (Ok tt)
  scopes_attempt x a n bound scope rest b h = opens_bound scope old new rest x (Tree.int (pos n)) ShapeTree.int b refl bound h.2

  pub scopes_asked : (x : List ℕ) (q : Question) (v : Tree) → ValueHas v (asked_shape q) → new ≡ bind old x v → Scopes (ask_command x q) old new (Ok tt)
  scopes_asked x (question.Fetch shape) v has bound scope rest b h = opens_bound scope old new rest x v (shape_tree shape.now) b has bound h.1
  scopes_asked x (question.Whole shape) v has bound scope rest b h = opens_bound scope old new rest x v (shape_tree shape.now) b has bound h.1
  scopes_asked x question.Validate v has bound scope rest b h = opens_bound scope old new rest x v ShapeTree.bool b has bound h.1

  module _ (r : Result (Unit {0}) Leave) where
    on : (P Q : Type 0) (r : Result (Unit {0}) Leave) → (P → Q) → IfOk r (λ _. P) → IfOk r (λ _. Q)
    on P Q (Ok u) f h = f h
    on P Q (Err l) f h = tt

    pub scopes_each : (x : List ℕ) (e : ExprTree) (a : Block) → KeepsTurn x a old new r → Scopes (CommandTree.each x e a) old new r
    scopes_each x e a keeps scope rest b h = on (BindingsHave new scope) (OpensScope scope new rest) r (λ c. opens_same scope new rest c h.3) (keeps scope b h.2)

-- a block that is left, and a turn
pub cut_by : (n : ℕ) (old mid new : Bindings) → new ≡ take n mid → n ≡ length old → new ≡ take (length old) mid
cut_by n old mid new cut is = cut ∙ ap (λ n. take n mid) is

pub keeps_cut : (old mid new : Bindings) (b : Block) → ScopesBlock b old mid (Ok tt) → new ≡ take (length old) mid → KeepsVariables b old new (Ok tt)
keeps_cut old mid new b scopes cut scope has h =
    let o = scopes scope has h in
    subst (λ n. BindingsHave n scope) (sym cut) (cut_has old mid scope o.more has o.bindings)

pub keeps_turn : (old bound mid new : Bindings) (x : List ℕ) (t : List ℕ) (b : Block) → bound ≡ bind old x (Tree.str t) → ScopesBlock b bound mid (Ok tt) → new ≡ take (length old) mid → KeepsTurn x b old new (Ok tt)
keeps_turn old bound mid new x t b is scopes cut scope has h =
    let o = scopes (bind scope x ShapeTree.str) (subst (λ e. BindingsHave e (bind scope x ShapeTree.str)) (sym is) (bind_has old scope x (Tree.str t) ShapeTree.str has refl)) h in
    subst (λ n. BindingsHave n scope) (sym cut) (cut_has old mid scope ((x, ShapeTree.str) ∷ o.more) has (subst (BindingsHave mid) (append_assoc scope ((x, ShapeTree.str) ∷ []) o.more) o.bindings))

-- The levels of tokens are those of the forms.
use Rattle.std.proofs.Common.{◌≡◌, ℕ, suc, ◌+◌, ◌-◌, ◌≤◌, true, List, [], ◌∷◌, ◌++◌, refl, ◌∙◌, arith}
use Rattle.std.specs.Prelude.{max}
use Rattle.std.specs.List.{flat_map}
use Rattle.std.proofs.Math.Nat.{max-le, le-max_left, le-max_right}
use Rattle.std.proofs.lemmas.Bool.{and_parts, and_from, leb-true, le-leb}
use Rattle.std.proofs.lemmas.List.Folds.{list_all-append}
use Rattle.fx_expr.specs.ExprTree.{ExprTree}
use Rattle.fx_expr.specs.ShapeTree.{ShapeTree}
use Rattle.fx_spec.specs.Written.{WrittenTree, DefTree, TextTree}
use Rattle.fx_spec.specs.CommandTree.{ActTree, CommandTree, Block, block}
use Rattle.fx_spec.specs.Levels.{expr_levels as expr_depth, shape_levels as shape_depth, exprs_levels as exprs_depth, spec_levels as spec_depth, params_levels as params_depth, def_levels as def_depth, defs_levels as defs_depth, text_levels as text_depth, act_levels as act_depth, command_levels as command_depth, block_levels as block_depth, txn_levels as txn_depth}
use Rattle.fx_parse.specs.Grammars.{expr_levels, shape_levels}
use Rattle.fx_parse.proofs.Machine.{at_most}
use Rattle.fx_parse.proofs.ExprLink.{front_low, rest_low, tail_low}
use Rattle.fx_grammar.specs.Agree.{script_levels as script_depth}
use Rattle.fx_grammar.specs.TokenLevels.{listed_levels, spec_token_levels, param_token_levels, def_token_levels, text_token_levels, act_rest_levels, command_token_levels, block_token_levels, txn_token_levels, script_token_levels}

-- no level is above a bound
pub record Low (b : ℕ) (l : List ℕ) : Type 0 where
  pub low : at_most b l ≡ true

none : {b : ℕ} → Low b []
none = record { low = refl }

leaf_deep : {b d : ℕ} {l : List ℕ} → Low b (d ∷ l) → d + 1 ≤ suc b
leaf_deep {b} {d} h = let most = leb-true d b (and_parts _ _ h.low).0 in omega (arith, most)

pub tail : {b d : ℕ} {l : List ℕ} → Low b (d ∷ l) → Low b l
tail {b} {d} {l} h = record { low = tail_low b d l h.low }

pub front : {b : ℕ} (k l : List ℕ) → Low b (k ++ l) → Low b k
front {b} k l h = record { low = front_low b k l h.low }

pub rest : {b : ℕ} (k l : List ℕ) → Low b (k ++ l) → Low b l
rest {b} k l h = record { low = rest_low b k l h.low }

cons : {b d : ℕ} {l : List ℕ} → d ≤ b → Low b l → Low b (d ∷ l)
cons {b} {d} h i = record { low = and_from _ _ (le-leb d b h) i.low }

zero : {b : ℕ} {l : List ℕ} → Low b l → Low b (0 ∷ l)
zero h = cons (omega arith) h

join : {b : ℕ} {k l : List ℕ} → Low b k → Low b l → Low b (k ++ l)
join {b} {k} {l} h i = record { low = list_all-append _ k l ∙ and_from _ _ h.low i.low }

-- two parts, and one
two : (b d m n : ℕ) → suc d + m ≤ suc b → suc d + n ≤ suc b → d + (1 + max m n) ≤ suc b
two b d m n h i = let most = max-le {a = m} {b = n} {k = b - d} (omega arith) (omega arith) in omega (arith, most)

one : (b d m : ℕ) → suc d + m ≤ suc b → d + (1 + m) ≤ suc b
one b d m h = omega arith

first : (b d m n : ℕ) → d + (1 + max m n) ≤ suc b → suc d + m ≤ suc b
first b d m n h = omega (arith, le-max_left m n)

second : (b d m n : ℕ) → d + (1 + max m n) ≤ suc b → suc d + n ≤ suc b
second b d m n h = omega (arith, le-max_right m n)

here : (b d m : ℕ) → d + (1 + m) ≤ suc b → d ≤ b
here b d m h = omega arith

inside : (b d m : ℕ) → d + (1 + m) ≤ suc b → suc d + m ≤ suc b
inside b d m h = omega arith

head : {b d : ℕ} {l : List ℕ} → Low b (d ∷ l) → d ≤ b
head {b} {d} h = leb-true d b (and_parts _ _ h.low).0

next : (b d : ℕ) → d ≤ b → suc d ≤ suc b
next b d h = omega arith

both : (b d m n : ℕ) → d + m ≤ b → d + n ≤ b → d + max m n ≤ b
both b d m n h i = let most = max-le {a = m} {b = n} {k = b - d} (omega arith) (omega arith) in omega (arith, most, h)

left : (b d m n : ℕ) → d + max m n ≤ b → d + m ≤ b
left b d m n h = omega (arith, le-max_left m n)

right : (b d m n : ℕ) → d + max m n ≤ b → d + n ≤ b
right b d m n h = omega (arith, le-max_right m n)

pub expr_deep : (b d : ℕ) (e : ExprTree) → Low b (expr_levels d e) → d + expr_depth e ≤ suc b
expr_deep b d (ExprTree.bin op x y) h =
    let inner = tail h in
    let behind = tail (rest (expr_levels (suc d) x) _ inner) in
    two b d (expr_depth x) (expr_depth y) (expr_deep b (suc d) x (front (expr_levels (suc d) x) _ inner)) (expr_deep b (suc d) y (front (expr_levels (suc d) y) _ behind))
expr_deep b d (ExprTree.un op x) h = one b d (expr_depth x) (expr_deep b (suc d) x (front (expr_levels (suc d) x) _ (tail (tail h))))
expr_deep b d (ExprTree.choose c x y) h =
    let inner = tail (tail h) in
    let middle = tail (rest (expr_levels (suc d) c) _ inner) in
    let behind = tail (rest (expr_levels (suc d) x) _ middle) in
    let both = two b d (expr_depth x) (expr_depth y) (expr_deep b (suc d) x (front (expr_levels (suc d) x) _ middle)) (expr_deep b (suc d) y (front (expr_levels (suc d) y) _ behind)) in
    two b d (expr_depth c) (max (expr_depth x) (expr_depth y)) (expr_deep b (suc d) c (front (expr_levels (suc d) c) _ inner)) (inside b d (max (expr_depth x) (expr_depth y)) both)
expr_deep b d (ExprTree.only x glob) h = one b d (expr_depth x) (expr_deep b (suc d) x (front (expr_levels (suc d) x) _ (tail h)))
expr_deep b d (ExprTree.str v) h = leaf_deep h
expr_deep b d (ExprTree.int n) h = leaf_deep h
expr_deep b d (ExprTree.bool t) h = leaf_deep h
expr_deep b d ExprTree.empty h = leaf_deep h
expr_deep b d (ExprTree.var w) h = leaf_deep h

leaf_low : (b d : ℕ) → d + 1 ≤ suc b → Low b (d ∷ [])
leaf_low b d h = cons (omega arith) none

pub expr_low : (b d : ℕ) (e : ExprTree) → d + expr_depth e ≤ suc b → Low b (expr_levels d e)
expr_low b d (ExprTree.bin op x y) h =
    let left = expr_low b (suc d) x (first b d (expr_depth x) (expr_depth y) h) in
    let right = expr_low b (suc d) y (second b d (expr_depth x) (expr_depth y) h) in
    cons (here b d (max (expr_depth x) (expr_depth y)) h) (join left (zero (join right (zero none))))
expr_low b d (ExprTree.un op x) h = cons (here b d (expr_depth x) h) (zero (join (expr_low b (suc d) x (inside b d (expr_depth x) h)) (zero none)))
expr_low b d (ExprTree.choose c x y) h =
    let both = second b d (expr_depth c) (max (expr_depth x) (expr_depth y)) h in
    let test = expr_low b (suc d) c (first b d (expr_depth c) (max (expr_depth x) (expr_depth y)) h) in
    let left = expr_low b (suc d) x (first b d (expr_depth x) (expr_depth y) (one b d (max (expr_depth x) (expr_depth y)) both)) in
    let right = expr_low b (suc d) y (second b d (expr_depth x) (expr_depth y) (one b d (max (expr_depth x) (expr_depth y)) both)) in
    cons (here b d (max (expr_depth c) (max (expr_depth x) (expr_depth y))) h) (zero (join test (zero (join left (zero (join right (zero none)))))))
expr_low b d (ExprTree.only x glob) h = cons (here b d (expr_depth x) h) (join (expr_low b (suc d) x (inside b d (expr_depth x) h)) (zero (zero (zero none))))
expr_low b d (ExprTree.str v) h = leaf_low b d h
expr_low b d (ExprTree.int n) h = leaf_low b d h
expr_low b d (ExprTree.bool t) h = leaf_low b d h
expr_low b d ExprTree.empty h = leaf_low b d h
expr_low b d (ExprTree.var w) h = leaf_low b d h

pub shape_deep : (b d : ℕ) (s : ShapeTree) → Low b (shape_levels d s) → d + shape_depth s ≤ suc b
shape_deep b d (ShapeTree.pair x y) h =
    let inner = tail (tail h) in
    let behind = tail (rest (shape_levels (suc d) x) _ inner) in
    two b d (shape_depth x) (shape_depth y) (shape_deep b (suc d) x (front (shape_levels (suc d) x) _ inner)) (shape_deep b (suc d) y (front (shape_levels (suc d) y) _ behind))
shape_deep b d (ShapeTree.opt x) h = one b d (shape_depth x) (shape_deep b (suc d) x (front (shape_levels (suc d) x) _ (tail (tail h))))
shape_deep b d (ShapeTree.table x) h = one b d (shape_depth x) (shape_deep b (suc d) x (front (shape_levels (suc d) x) _ (tail (tail h))))
shape_deep b d ShapeTree.str h = leaf_deep h
shape_deep b d ShapeTree.int h = leaf_deep h
shape_deep b d ShapeTree.bool h = leaf_deep h
shape_deep b d ShapeTree.names h = leaf_deep h

pub shape_low : (b d : ℕ) (s : ShapeTree) → d + shape_depth s ≤ suc b → Low b (shape_levels d s)
shape_low b d (ShapeTree.pair x y) h =
    let left = shape_low b (suc d) x (first b d (shape_depth x) (shape_depth y) h) in
    let right = shape_low b (suc d) y (second b d (shape_depth x) (shape_depth y) h) in
    cons (here b d (max (shape_depth x) (shape_depth y)) h) (zero (join left (zero (join right (zero none)))))
shape_low b d (ShapeTree.opt x) h = cons (here b d (shape_depth x) h) (zero (join (shape_low b (suc d) x (inside b d (shape_depth x) h)) (zero none)))
shape_low b d (ShapeTree.table x) h = cons (here b d (shape_depth x) h) (zero (join (shape_low b (suc d) x (inside b d (shape_depth x) h)) (zero none)))
shape_low b d ShapeTree.str h = leaf_low b d h
shape_low b d ShapeTree.int h = leaf_low b d h
shape_low b d ShapeTree.bool h = leaf_low b d h
shape_low b d ShapeTree.names h = leaf_low b d h

-- parts of level d with commas between them, the deepest of which is so deep
module _ {Part : Type 0} (levels : Part → List ℕ) (depth : Part → ℕ) (all : List Part → ℕ) (nothing : all [] ≡ 0) (more : (p : Part) (ps : List Part) → all (p ∷ ps) ≡ max (depth p) (all ps)) (b d : ℕ) where
  first_of : (p : Part) (ps : List Part) → d + all (p ∷ ps) ≤ suc b → d + depth p ≤ suc b
  first_of p ps h = left (suc b) d (depth p) (all ps) (omega (arith, h, more p ps))

  others_of : (p : Part) (ps : List Part) → d + all (p ∷ ps) ≤ suc b → d + all ps ≤ suc b
  others_of p ps h = right (suc b) d (depth p) (all ps) (omega (arith, h, more p ps))

  all_of : (p : Part) (ps : List Part) → d + depth p ≤ suc b → d + all ps ≤ suc b → d + all (p ∷ ps) ≤ suc b
  all_of p ps h i = let most = both (suc b) d (depth p) (all ps) h i in omega (arith, most, more p ps)

  module _ (deep : (p : Part) → Low b (levels p) → d + depth p ≤ suc b) (fits : d ≤ suc b) where
    behind_deep : (ps : List Part) → Low b (flat_map (λ q. 0 ∷ levels q) ps) → d + all ps ≤ suc b
    behind_deep [] h = omega (arith, nothing, fits)
    behind_deep (p ∷ ps) h =
        let inner = tail h in
        all_of p ps (deep p (front (levels p) _ inner)) (behind_deep ps (rest (levels p) _ inner))

    pub listed_deep : (ps : List Part) → Low b (listed_levels levels ps) → d + all ps ≤ suc b
    listed_deep [] h = omega (arith, nothing, fits)
    listed_deep (p ∷ ps) h = all_of p ps (deep p (front (levels p) _ h)) (behind_deep ps (rest (levels p) _ h))

  module _ (low : (p : Part) → d + depth p ≤ suc b → Low b (levels p)) where
    behind_low : (ps : List Part) → d + all ps ≤ suc b → Low b (flat_map (λ q. 0 ∷ levels q) ps)
    behind_low [] h = none
    behind_low (p ∷ ps) h = zero (join (low p (first_of p ps h)) (behind_low ps (others_of p ps h)))

    pub listed_low : (ps : List Part) → d + all ps ≤ suc b → Low b (listed_levels levels ps)
    listed_low [] h = none
    listed_low (p ∷ ps) h = join (low p (first_of p ps h)) (behind_low ps (others_of p ps h))

args_deep : (b d : ℕ) (es : List ExprTree) → d ≤ suc b → Low b (listed_levels (expr_levels d) es) → d + exprs_depth es ≤ suc b
args_deep b d es fits h = listed_deep (expr_levels d) expr_depth exprs_depth refl (λ e es. refl) b d (λ e low. expr_deep b d e low) fits es h

args_low : (b d : ℕ) (es : List ExprTree) → d + exprs_depth es ≤ suc b → Low b (listed_levels (expr_levels d) es)
args_low b d es h = listed_low (expr_levels d) expr_depth exprs_depth refl (λ e es. refl) b d (λ e deep. expr_low b d e deep) es h

params_deep : (b d : ℕ) (ps : List (List ℕ × ShapeTree)) → d ≤ suc b → Low b (listed_levels (param_token_levels d) ps) → d + params_depth ps ≤ suc b
params_deep b d ps fits h =
    listed_deep (param_token_levels d) (λ p. shape_depth p.1) params_depth refl (λ p ps. refl) b d (λ p low. shape_deep b d p.1 (tail (tail low))) fits ps h

params_low : (b d : ℕ) (ps : List (List ℕ × ShapeTree)) → d + params_depth ps ≤ suc b → Low b (listed_levels (param_token_levels d) ps)
params_low b d ps h =
    listed_low (param_token_levels d) (λ p. shape_depth p.1) params_depth refl (λ p ps. refl) b d (λ p deep. zero (zero (shape_low b d p.1 deep))) ps h

pub spec_deep : (b d : ℕ) (s : WrittenTree) → Low b (spec_token_levels d s) → d + spec_depth s ≤ suc b
spec_deep b d (WrittenTree.focus e s) h =
    let inner = tail h in
    let behind = tail (rest (expr_levels (suc d) e) _ inner) in
    two b d (expr_depth e) (spec_depth s) (expr_deep b (suc d) e (front (expr_levels (suc d) e) _ inner)) (spec_deep b (suc d) s (front (spec_token_levels (suc d) s) _ behind))
spec_deep b d (WrittenTree.pair x s t) h =
    let inner = tail (tail (tail h)) in
    let behind = tail (rest (spec_token_levels (suc d) s) _ inner) in
    two b d (spec_depth s) (spec_depth t) (spec_deep b (suc d) s (front (spec_token_levels (suc d) s) _ inner)) (spec_deep b (suc d) t (front (spec_token_levels (suc d) t) _ behind))
spec_deep b d (WrittenTree.comp s x e) h =
    let inner = tail h in
    let behind = tail (tail (tail (rest (spec_token_levels (suc d) s) _ inner))) in
    two b d (spec_depth s) (expr_depth e) (spec_deep b (suc d) s (front (spec_token_levels (suc d) s) _ inner)) (expr_deep b (suc d) e (front (expr_levels (suc d) e) _ behind))
spec_deep b d (WrittenTree.opt s) h = one b d (spec_depth s) (spec_deep b (suc d) s (front (spec_token_levels (suc d) s) _ (tail (tail h))))
spec_deep b d (WrittenTree.pred e) h = one b d (expr_depth e) (expr_deep b (suc d) e (front (expr_levels (suc d) e) _ (tail (tail h))))
spec_deep b d (WrittenTree.call f es) h = one b d (exprs_depth es) (args_deep b (suc d) es (next b d (head h)) (front (listed_levels (expr_levels (suc d)) es) _ (tail (tail h))))
spec_deep b d WrittenTree.file h = leaf_deep h
spec_deep b d WrittenTree.dir h = leaf_deep h
spec_deep b d WrittenTree.link h = leaf_deep h

pub spec_low : (b d : ℕ) (s : WrittenTree) → d + spec_depth s ≤ suc b → Low b (spec_token_levels d s)
spec_low b d (WrittenTree.focus e s) h =
    let left = expr_low b (suc d) e (first b d (expr_depth e) (spec_depth s) h) in
    let right = spec_low b (suc d) s (second b d (expr_depth e) (spec_depth s) h) in
    cons (here b d (max (expr_depth e) (spec_depth s)) h) (join left (zero (join right (zero none))))
spec_low b d (WrittenTree.pair x s t) h =
    let left = spec_low b (suc d) s (first b d (spec_depth s) (spec_depth t) h) in
    let right = spec_low b (suc d) t (second b d (spec_depth s) (spec_depth t) h) in
    cons (here b d (max (spec_depth s) (spec_depth t)) h) (zero (zero (join left (zero (join right (zero none))))))
spec_low b d (WrittenTree.comp s x e) h =
    let left = spec_low b (suc d) s (first b d (spec_depth s) (expr_depth e) h) in
    let right = expr_low b (suc d) e (second b d (spec_depth s) (expr_depth e) h) in
    cons (here b d (max (spec_depth s) (expr_depth e)) h) (join left (zero (zero (zero (join right (zero none))))))
spec_low b d (WrittenTree.opt s) h = cons (here b d (spec_depth s) h) (zero (join (spec_low b (suc d) s (inside b d (spec_depth s) h)) (zero none)))
spec_low b d (WrittenTree.pred e) h = cons (here b d (expr_depth e) h) (zero (join (expr_low b (suc d) e (inside b d (expr_depth e) h)) (zero none)))
spec_low b d (WrittenTree.call f es) h = cons (here b d (exprs_depth es) h) (zero (join (args_low b (suc d) es (inside b d (exprs_depth es) h)) (zero none)))
spec_low b d WrittenTree.file h = leaf_low b d h
spec_low b d WrittenTree.dir h = leaf_low b d h
spec_low b d WrittenTree.link h = leaf_low b d h

def_deep : (b d : ℕ) (f : DefTree) → Low b (def_token_levels d f) → d + def_depth f ≤ suc b
def_deep b d f h =
    let inner = tail (tail (tail h)) in
    let params = listed_levels (param_token_levels (suc d)) f.params in
    two b d (params_depth f.params) (spec_depth f.body) (params_deep b (suc d) f.params (next b d (head h)) (front params _ inner)) (spec_deep b (suc d) f.body (tail (tail (rest params _ inner))))

def_low : (b d : ℕ) (f : DefTree) → d + def_depth f ≤ suc b → Low b (def_token_levels d f)
def_low b d f h =
    let params = params_low b (suc d) f.params (first b d (params_depth f.params) (spec_depth f.body) h) in
    let body = spec_low b (suc d) f.body (second b d (params_depth f.params) (spec_depth f.body) h) in
    cons (here b d (max (params_depth f.params) (spec_depth f.body)) h) (zero (zero (join params (zero (zero body)))))

defs_deep : (b d : ℕ) (fs : List DefTree) → d ≤ suc b → Low b (flat_map (def_token_levels d) fs) → d + defs_depth fs ≤ suc b
defs_deep b d [] fits h = omega (arith, fits)
defs_deep b d (f ∷ fs) fits h =
    both (suc b) d (def_depth f) (defs_depth fs) (def_deep b d f (front (def_token_levels d f) _ h)) (defs_deep b d fs fits (rest (def_token_levels d f) _ h))

defs_low : (b d : ℕ) (fs : List DefTree) → d + defs_depth fs ≤ suc b → Low b (flat_map (def_token_levels d) fs)
defs_low b d [] h = none
defs_low b d (f ∷ fs) h = join (def_low b d f (left (suc b) d (def_depth f) (defs_depth fs) h)) (defs_low b d fs (right (suc b) d (def_depth f) (defs_depth fs) h))

pub text_deep : (b d : ℕ) (t : TextTree) → Low b (text_token_levels d t) → d + text_depth t ≤ suc b
text_deep b d t h =
    let root = spec_deep b d t.root (rest (flat_map (def_token_levels d) t.defs) _ h) in
    both (suc b) d (defs_depth t.defs) (spec_depth t.root) (defs_deep b d t.defs (omega (arith, root)) (front (flat_map (def_token_levels d) t.defs) _ h)) root

pub text_low : (b d : ℕ) (t : TextTree) → d + text_depth t ≤ suc b → Low b (text_token_levels d t)
text_low b d t h =
    join (defs_low b d t.defs (left (suc b) d (defs_depth t.defs) (spec_depth t.root) h)) (spec_low b d t.root (right (suc b) d (defs_depth t.defs) (spec_depth t.root) h))

-- an act at the end of a command of level d
pub act_deep : (b d : ℕ) (a : ActTree) → d ≤ b → Low b (act_rest_levels d a) → d + act_depth a ≤ suc b
act_deep b d (ActTree.to e) here h = one b d (expr_depth e) (expr_deep b (suc d) e (front (expr_levels (suc d) e) _ (tail h)))
act_deep b d (ActTree.store e) here h = one b d (expr_depth e) (expr_deep b (suc d) e (front (expr_levels (suc d) e) _ (tail h)))
act_deep b d ActTree.into here h = omega (arith, here)
act_deep b d ActTree.next here h = omega (arith, here)
act_deep b d ActTree.prev here h = omega (arith, here)
act_deep b d ActTree.out here h = omega (arith, here)
act_deep b d ActTree.down here h = omega (arith, here)
act_deep b d ActTree.up here h = omega (arith, here)
act_deep b d ActTree.top here h = omega (arith, here)
act_deep b d ActTree.create here h = omega (arith, here)
act_deep b d ActTree.remove here h = omega (arith, here)

pub act_low : (b d : ℕ) (a : ActTree) → d + act_depth a ≤ suc b → Low b (act_rest_levels d a)
act_low b d (ActTree.to e) h = zero (join (expr_low b (suc d) e (inside b d (expr_depth e) h)) (zero none))
act_low b d (ActTree.store e) h = zero (join (expr_low b (suc d) e (inside b d (expr_depth e) h)) (zero none))
act_low b d ActTree.into h = none
act_low b d ActTree.next h = none
act_low b d ActTree.prev h = none
act_low b d ActTree.out h = none
act_low b d ActTree.down h = none
act_low b d ActTree.up h = none
act_low b d ActTree.top h = none
act_low b d ActTree.create h = none
act_low b d ActTree.remove h = none

leaf_here : (b d : ℕ) → d + 1 ≤ suc b → d ≤ b
leaf_here b d h = omega arith

act_here : (b d : ℕ) (a : ActTree) → d + act_depth a ≤ suc b → d ≤ b
act_here b d (ActTree.to e) h = here b d (expr_depth e) h
act_here b d (ActTree.store e) h = here b d (expr_depth e) h
act_here b d ActTree.into h = leaf_here b d h
act_here b d ActTree.next h = leaf_here b d h
act_here b d ActTree.prev h = leaf_here b d h
act_here b d ActTree.out h = leaf_here b d h
act_here b d ActTree.down h = leaf_here b d h
act_here b d ActTree.up h = leaf_here b d h
act_here b d ActTree.top h = leaf_here b d h
act_here b d ActTree.create h = leaf_here b d h
act_here b d ActTree.remove h = leaf_here b d h

mutual
  pub command_deep : (b d : ℕ) (c : CommandTree) → Low b (command_token_levels d c) → d + command_depth c ≤ suc b
  command_deep b d (CommandTree.act a) h = act_deep b d a (head h) (tail h)
  command_deep b d (CommandTree.attempt x a) h = act_deep b d a (head h) (tail (tail (tail h)))
  command_deep b d (CommandTree.bind x e) h = one b d (expr_depth e) (expr_deep b (suc d) e (tail (tail (tail h))))
  command_deep b d (CommandTree.assign x e) h = one b d (expr_depth e) (expr_deep b (suc d) e (tail (tail (tail h))))
  command_deep b d (CommandTree.fetch x s) h = one b d (shape_depth s) (shape_deep b (suc d) s (tail (tail (tail h))))
  command_deep b d (CommandTree.whole x s) h = one b d (shape_depth s) (shape_deep b (suc d) s (tail (tail (tail h))))
  command_deep b d (CommandTree.validate x) h = leaf_deep h
  command_deep b d (CommandTree.print e) h = one b d (expr_depth e) (expr_deep b (suc d) e (front (expr_levels (suc d) e) _ (tail (tail h))))
  command_deep b d (CommandTree.branch e x y) h =
      let inner = tail (tail h) in
      let middle = tail (tail (rest (expr_levels (suc d) e) _ inner)) in
      let behind = tail (tail (tail (rest (block_token_levels (suc d) x) _ middle))) in
      let fits = next b d (head h) in
      let blocks = both (suc b) (suc d) (block_depth x) (block_depth y) (block_deep b (suc d) x fits (front (block_token_levels (suc d) x) _ middle)) (block_deep b (suc d) y fits (front (block_token_levels (suc d) y) _ behind)) in
      two b d (expr_depth e) (max (block_depth x) (block_depth y)) (expr_deep b (suc d) e (front (expr_levels (suc d) e) _ inner)) blocks
  command_deep b d (CommandTree.each x e y) h =
      let inner = tail (tail (tail (tail h))) in
      let behind = tail (tail (rest (expr_levels (suc d) e) _ inner)) in
      two b d (expr_depth e) (block_depth y) (expr_deep b (suc d) e (front (expr_levels (suc d) e) _ inner)) (block_deep b (suc d) y (next b d (head h)) (front (block_token_levels (suc d) y) _ behind))
  command_deep b d CommandTree.abort h = leaf_deep h

  pub block_deep : (b d : ℕ) (cs : Block) → d ≤ suc b → Low b (block_token_levels d cs) → d + block_depth cs ≤ suc b
  block_deep b d Block.none fits h = omega (arith, fits)
  block_deep b d (Block.then c cs) fits h =
      both (suc b) d (command_depth c) (block_depth cs) (command_deep b d c (front (command_token_levels d c) _ h)) (block_deep b d cs fits (rest (command_token_levels d c) _ h))

mutual
  pub command_low : (b d : ℕ) (c : CommandTree) → d + command_depth c ≤ suc b → Low b (command_token_levels d c)
  command_low b d (CommandTree.act a) h = cons (act_here b d a h) (act_low b d a h)
  command_low b d (CommandTree.attempt x a) h = cons (act_here b d a h) (zero (zero (act_low b d a h)))
  command_low b d (CommandTree.bind x e) h = cons (here b d (expr_depth e) h) (zero (zero (expr_low b (suc d) e (inside b d (expr_depth e) h))))
  command_low b d (CommandTree.assign x e) h = cons (here b d (expr_depth e) h) (zero (zero (expr_low b (suc d) e (inside b d (expr_depth e) h))))
  command_low b d (CommandTree.fetch x s) h = cons (here b d (shape_depth s) h) (zero (zero (shape_low b (suc d) s (inside b d (shape_depth s) h))))
  command_low b d (CommandTree.whole x s) h = cons (here b d (shape_depth s) h) (zero (zero (shape_low b (suc d) s (inside b d (shape_depth s) h))))
  command_low b d (CommandTree.validate x) h = cons (leaf_here b d h) (zero none)
  command_low b d (CommandTree.print e) h = cons (here b d (expr_depth e) h) (zero (join (expr_low b (suc d) e (inside b d (expr_depth e) h)) (zero none)))
  command_low b d (CommandTree.branch e x y) h =
      let blocks = second b d (expr_depth e) (max (block_depth x) (block_depth y)) h in
      let test = expr_low b (suc d) e (first b d (expr_depth e) (max (block_depth x) (block_depth y)) h) in
      let yes = block_low b (suc d) x (left (suc b) (suc d) (block_depth x) (block_depth y) blocks) in
      let no = block_low b (suc d) y (right (suc b) (suc d) (block_depth x) (block_depth y) blocks) in
      cons (here b d (max (expr_depth e) (max (block_depth x) (block_depth y))) h) (zero (join test (zero (zero (join yes (zero (zero (zero (join no (zero none))))))))))
  command_low b d (CommandTree.each x e y) h =
      let set = expr_low b (suc d) e (first b d (expr_depth e) (block_depth y) h) in
      let body = block_low b (suc d) y (second b d (expr_depth e) (block_depth y) h) in
      cons (here b d (max (expr_depth e) (block_depth y)) h) (zero (zero (zero (join set (zero (zero (join body (zero none))))))))
  command_low b d CommandTree.abort h = cons (leaf_here b d h) none

  pub block_low : (b d : ℕ) (cs : Block) → d + block_depth cs ≤ suc b → Low b (block_token_levels d cs)
  block_low b d Block.none h = none
  block_low b d (Block.then c cs) h =
      join (command_low b d c (left (suc b) d (command_depth c) (block_depth cs) h)) (block_low b d cs (right (suc b) d (command_depth c) (block_depth cs) h))

pub txn_deep : (b d : ℕ) (t : List CommandTree) → Low b (txn_token_levels d t) → d + txn_depth t ≤ suc b
txn_deep b d t h =
    one b d (block_depth (block t)) (block_deep b (suc d) (block t) (next b d (head h)) (front (block_token_levels (suc d) (block t)) _ (tail (tail h))))

pub txn_low : (b d : ℕ) (t : List CommandTree) → d + txn_depth t ≤ suc b → Low b (txn_token_levels d t)
txn_low b d t h =
    cons (here b d (block_depth (block t)) h) (zero (join (block_low b (suc d) (block t) (inside b d (block_depth (block t)) h)) (zero none)))

pub script_deep : (b d : ℕ) (ts : List (List CommandTree)) → d ≤ suc b → Low b (script_token_levels d ts) → d + script_depth ts ≤ suc b
script_deep b d [] fits h = omega (arith, fits)
script_deep b d (t ∷ ts) fits h =
    both (suc b) d (txn_depth t) (script_depth ts) (txn_deep b d t (front (txn_token_levels d t) _ h)) (script_deep b d ts fits (rest (txn_token_levels d t) _ h))

pub script_low : (b d : ℕ) (ts : List (List CommandTree)) → d + script_depth ts ≤ suc b → Low b (script_token_levels d ts)
script_low b d [] h = none
script_low b d (t ∷ ts) h =
    join (txn_low b d t (left (suc b) d (txn_depth t) (script_depth ts) h)) (script_low b d ts (right (suc b) d (txn_depth t) (script_depth ts) h))

-- The checks against what is well shaped.
use Rattle.std.proofs.Common.{◌≡◌, ℕ, suc, take, length, arith, append_assoc, Bool, true, false, cond, nat_eq, All, List, [], ◌∷◌, ◌++◌, Option, Some, None, Result, Ok, Err, IsErrAnd, refl, sym, ap, subst, ◌∙◌}
use Rattle.std.proofs.lemmas.Bool.Decides.{nat_tests}
use Rattle.std.proofs.lemmas.List.{append-nil}
use Rattle.std.proofs.Math.Seq.{take-append_seam}
use Rattle.std.proofs.lemmas.List.Elements.{All-nil, All-cons, All-head, All-tail}
use Rattle.fx_expr.specs.declared.expr.BinOp.{BinOp}
use Rattle.fx_expr.specs.declared.expr.UnOp.{UnOp}
use Rattle.fx_expr.specs.Bindings.{bind, bound}
use Rattle.fx_expr.specs.Closed.{IsShaped}
use Rattle.fx_expr.specs.ExprTree.{ExprTree}
use Rattle.fx_expr.specs.ShapeTree.{ShapeTree}
use Rattle.fx_expr.specs.Shapes.{HasShape, BinShape, UnShape, IsComparable, IsOrdered, IsSized}
use Rattle.fx_spec.proofs.Shaped.{same_shapes, shape_itself}
use Rattle.fx_spec.specs.Written.{WrittenTree, DefTree, definition}
use Rattle.fx_spec.specs.Move.{same_shape}
use Rattle.fx_spec.specs.CommandTree.{ActTree, CommandTree, Block, block, count}
use Rattle.fx_spec.specs.WellShaped.{Scope, AreArguments, IsWritten, IsAct, IsCommand, IsBlock, written_shape}
use Rattle.fx_check.specs.declared.fault.CheckFault.{CheckFault}
use Rattle.fx_check.specs.declared.fault.CheckFault.TheVariants as check
use Rattle.fx_check.specs.Gives.{Gives, IsFault}
use Rattle.fx_check.specs.Faults.{Fault, OrFault, ◌>>=◌}
use Rattle.fx_check.specs.Shaped.{needed, allowed, is_comparable, is_ordered, is_sized, first_part, second_needed, result_shape, two_shape, one_shape, followed_by, first_of, second_of, keys_of, present_of, named, shaped}
use Rattle.fx_check.specs.Checked.{unless_bound, with_name, shaped_as, asked_of, checked_arguments, checked, checked_act, assigned, checked_command, checked_block, checked_inner, checked_txns}

-- ---- one check after another

-- what the first gives, and then the second
pub record Both {X Y : Type 0} (o : OrFault X) (f : X → OrFault Y) (y : Y) : Type 0 where
  pub first : X
  pub is : o ≡ Ok first
  pub then : f first ≡ Ok y

pub both : {X Y : Type 0} (o : OrFault X) (f : X → OrFault Y) (y : Y) → (o >>= f) ≡ Ok y → Both o f y
both (Ok x) f y e = record { first = x; is = refl; then = e }
both (Err fault) f y e = absurd (cc)

pub given : {X Y : Type 0} (o : OrFault X) (f : X → OrFault Y) (x : X) → o ≡ Ok x → (o >>= f) ≡ f x
given o f x e = ap (λ o. o >>= f) e

-- ---- parts

-- what is found is what was given, and it is the shape that is expected
pub record Fits (expected found given : ShapeTree) : Type 0 where
  pub same : given ≡ found
  pub fits : found ≡ expected

choose_fits : (b : Bool) (expected found given : ShapeTree) (fault : Fault) → (b ≡ true → expected ≡ found) → cond {A = OrFault ShapeTree} b (Ok found) (Err fault) ≡ Ok given → Fits expected found given
choose_fits true expected found given fault same e = record { same = cc; fits = sym (same refl) }
choose_fits false expected found given fault same e = absurd (cc)

pub needed_fits : (expected found given : ShapeTree) → needed expected found ≡ Ok given → Fits expected found given
needed_fits expected found given e = choose_fits (same_shape expected found) expected found given (Fault.differs expected found) (same_shapes expected found) e

pub needed_self : (s : ShapeTree) → needed s s ≡ Ok s
needed_self s = ap (λ b. cond {A = OrFault ShapeTree} b (Ok s) (Err (Fault.differs s s))) (shape_itself s)

allowed_fits : (b : Bool) (found given : ShapeTree) → allowed b found ≡ Ok given → (b ≡ true) × (given ≡ found)
allowed_fits true found given e = (refl, cc)
allowed_fits false found given e = absurd (cc)

pub needed_same : (expected found : ShapeTree) → found ≡ expected → needed expected found ≡ Ok found
needed_same expected found e = subst (λ (x : ShapeTree). needed x found ≡ Ok found) e (needed_self found)

pub needed_other : (expected found : ShapeTree) → (found ≡ expected → ⊥) → needed expected found ≡ Err (Fault.differs expected found)
needed_other expected found other = by (same_shape expected found) (λ e. other (sym (same_shapes expected found e)))
  where
    by : (b : Bool) → (b ≡ true → ⊥) → cond {A = OrFault ShapeTree} b (Ok found) (Err (Fault.differs expected found)) ≡ Err (Fault.differs expected found)
    by true differ = absurd (differ refl)
    by false differ = refl

-- ---- operators

comparable : (s : ShapeTree) → is_comparable s ≡ true → IsComparable s
comparable ShapeTree.str e = tt
comparable ShapeTree.int e = tt
comparable ShapeTree.bool e = tt
comparable ShapeTree.names e = tt
comparable (ShapeTree.pair s t) e = absurd (cc)
comparable (ShapeTree.opt s) e = absurd (cc)
comparable (ShapeTree.table s) e = absurd (cc)

is_so : (s : ShapeTree) → IsComparable s → is_comparable s ≡ true
is_so ShapeTree.str h = refl
is_so ShapeTree.int h = refl
is_so ShapeTree.bool h = refl
is_so ShapeTree.names h = refl
is_so (ShapeTree.pair s t) h = absurd h
is_so (ShapeTree.opt s) h = absurd h
is_so (ShapeTree.table s) h = absurd h

ordered : (s : ShapeTree) → is_ordered s ≡ true → IsOrdered s
ordered ShapeTree.str e = tt
ordered ShapeTree.int e = tt
ordered ShapeTree.bool e = absurd (cc)
ordered ShapeTree.names e = absurd (cc)
ordered (ShapeTree.pair s t) e = absurd (cc)
ordered (ShapeTree.opt s) e = absurd (cc)
ordered (ShapeTree.table s) e = absurd (cc)

is_ordered_so : (s : ShapeTree) → IsOrdered s → is_ordered s ≡ true
is_ordered_so ShapeTree.str h = refl
is_ordered_so ShapeTree.int h = refl
is_ordered_so ShapeTree.bool h = absurd h
is_ordered_so ShapeTree.names h = absurd h
is_ordered_so (ShapeTree.pair s t) h = absurd h
is_ordered_so (ShapeTree.opt s) h = absurd h
is_ordered_so (ShapeTree.table s) h = absurd h

sized : (s : ShapeTree) → is_sized s ≡ true → IsSized s
sized ShapeTree.str e = tt
sized ShapeTree.names e = tt
sized ShapeTree.int e = absurd (cc)
sized ShapeTree.bool e = absurd (cc)
sized (ShapeTree.pair s t) e = absurd (cc)
sized (ShapeTree.opt s) e = absurd (cc)
sized (ShapeTree.table s) e = absurd (cc)

is_sized_so : (s : ShapeTree) → IsSized s → is_sized s ≡ true
is_sized_so ShapeTree.str h = refl
is_sized_so ShapeTree.names h = refl
is_sized_so ShapeTree.int h = absurd h
is_sized_so ShapeTree.bool h = absurd h
is_sized_so (ShapeTree.pair s t) h = absurd h
is_sized_so (ShapeTree.opt s) h = absurd h
is_sized_so (ShapeTree.table s) h = absurd h

allowed_true : (b : Bool) (found : ShapeTree) → b ≡ true → allowed b found ≡ Ok found
allowed_true b found e = ap (λ b. allowed b found) e

-- an operator takes parts of these shapes exactly where the checks of both find no fault
pub record Takes (op : BinOp) (u v : ShapeTree) : Type 0 where
  pub first : first_part op u ≡ Ok u
  pub second : needed (second_needed op u) v ≡ Ok v

fits_two : (op : BinOp) (x y u v : ShapeTree) → u ≡ x → v ≡ y → first_part op x ≡ Ok x → needed (second_needed op x) y ≡ Ok y → Takes op u v
fits_two op x y u v eu ev first second = record {
  first = subst (λ (z : ShapeTree). first_part op z ≡ Ok z) (sym eu) first;
  second = subst (λ (z : ShapeTree). needed (second_needed op z) v ≡ Ok v) (sym eu) (subst (λ (z : ShapeTree). needed (second_needed op x) z ≡ Ok z) (sym ev) second);
}

takes : (op : BinOp) (u v s : ShapeTree) → BinShape op u v s → Takes op u v × (s ≡ result_shape op)
takes BinOp.Join u v s (eu, ev, es) = (fits_two BinOp.Join ShapeTree.str ShapeTree.str u v eu ev refl refl, es)
takes BinOp.Plus u v s (eu, ev, es) = (fits_two BinOp.Plus ShapeTree.int ShapeTree.int u v eu ev refl refl, es)
takes BinOp.Minus u v s (eu, ev, es) = (fits_two BinOp.Minus ShapeTree.int ShapeTree.int u v eu ev refl refl, es)
takes BinOp.Equal u v s (c, ev, es) =
    (fits_two BinOp.Equal u u u v refl ev (allowed_true (is_comparable u) u (is_so u c)) (needed_self u), es)
takes BinOp.Less u v s (c, ev, es) =
    (fits_two BinOp.Less u u u v refl ev (allowed_true (is_ordered u) u (is_ordered_so u c)) (needed_self u), es)
takes BinOp.And u v s (eu, ev, es) = (fits_two BinOp.And ShapeTree.bool ShapeTree.bool u v eu ev refl refl, es)
takes BinOp.Or u v s (eu, ev, es) = (fits_two BinOp.Or ShapeTree.bool ShapeTree.bool u v eu ev refl refl, es)
takes BinOp.Member u v s (eu, ev, es) = (fits_two BinOp.Member ShapeTree.str ShapeTree.names u v eu ev refl refl, es)
takes BinOp.Union u v s (eu, ev, es) = (fits_two BinOp.Union ShapeTree.names ShapeTree.names u v eu ev refl refl, es)
takes BinOp.Without u v s (eu, ev, es) = (fits_two BinOp.Without ShapeTree.names ShapeTree.names u v eu ev refl refl, es)

-- what the check of a first part gives is the part's shape
record First (op : BinOp) (u first v : ShapeTree) : Type 0 where
  same : first ≡ u
  shape : v ≡ second_needed op u → BinShape op u v (result_shape op)

first_needed : (op : BinOp) (expected u first v : ShapeTree) → needed expected u ≡ Ok first
    → (u ≡ expected → v ≡ second_needed op u → BinShape op u v (result_shape op)) → First op u first v
first_needed op expected u first v e shape =
    let fits : Fits expected u first = needed_fits expected u first e in
    record { same = fits.same; shape = shape fits.fits }

first_allowed : (op : BinOp) (fits : Bool) (u first v : ShapeTree) → allowed fits u ≡ Ok first
    → (fits ≡ true → v ≡ second_needed op u → BinShape op u v (result_shape op)) → First op u first v
first_allowed op fits u first v e shape =
    let parts : (fits ≡ true) × (first ≡ u) = allowed_fits fits u first e in
    record { same = parts.1; shape = shape parts.0 }

first_takes : (op : BinOp) (u first v : ShapeTree) → first_part op u ≡ Ok first → First op u first v
first_takes BinOp.Join u first v e = first_needed BinOp.Join ShapeTree.str u first v e (λ eu ev. (eu, ev, refl))
first_takes BinOp.Plus u first v e = first_needed BinOp.Plus ShapeTree.int u first v e (λ eu ev. (eu, ev, refl))
first_takes BinOp.Minus u first v e = first_needed BinOp.Minus ShapeTree.int u first v e (λ eu ev. (eu, ev, refl))
first_takes BinOp.Equal u first v e = first_allowed BinOp.Equal (is_comparable u) u first v e (λ c ev. (comparable u c, ev, refl))
first_takes BinOp.Less u first v e = first_allowed BinOp.Less (is_ordered u) u first v e (λ c ev. (ordered u c, ev, refl))
first_takes BinOp.And u first v e = first_needed BinOp.And ShapeTree.bool u first v e (λ eu ev. (eu, ev, refl))
first_takes BinOp.Or u first v e = first_needed BinOp.Or ShapeTree.bool u first v e (λ eu ev. (eu, ev, refl))
first_takes BinOp.Member u first v e = first_needed BinOp.Member ShapeTree.str u first v e (λ eu ev. (eu, ev, refl))
first_takes BinOp.Union u first v e = first_needed BinOp.Union ShapeTree.names u first v e (λ eu ev. (eu, ev, refl))
first_takes BinOp.Without u first v e = first_needed BinOp.Without ShapeTree.names u first v e (λ eu ev. (eu, ev, refl))

two_takes : (op : BinOp) (u first v s : ShapeTree) → first_part op u ≡ Ok first → two_shape op first v ≡ Ok s → BinShape op u v s
two_takes op u first v s e f =
    let a : First op u first v = first_takes op u first v e in
    let b : Both (needed (second_needed op first) v) (λ _. Ok (result_shape op)) s = both (needed (second_needed op first) v) (λ _. Ok (result_shape op)) s f in
    let fits : Fits (second_needed op first) v b.first = needed_fits (second_needed op first) v b.first b.is in
    let same : result_shape op ≡ s = let then = b.then in cc in
    subst (λ (z : ShapeTree). BinShape op u v z) same (a.shape (fits.fits ∙ ap (λ z. second_needed op z) a.same))

-- the operators before one part
one_needed : (expected found shape s : ShapeTree) → followed_by shape (needed expected found) ≡ Ok s → (found ≡ expected) × (s ≡ shape)
one_needed expected found shape s e =
    let b : Both (needed expected found) (λ _. Ok shape) s = both (needed expected found) (λ _. Ok shape) s e in
    let fits : Fits expected found b.first = needed_fits expected found b.first b.is in
    (fits.fits, let then = b.then in cc)

one_allowed : (fits : Bool) (found shape s : ShapeTree) → followed_by shape (allowed fits found) ≡ Ok s → (fits ≡ true) × (s ≡ shape)
one_allowed true found shape s e = (refl, cc)
one_allowed false found shape s e = absurd (cc)

one_takes : (op : UnOp) (u s : ShapeTree) → one_shape op u ≡ Ok s → UnShape op u s
one_takes UnOp.Not u s e = one_needed ShapeTree.bool u ShapeTree.bool s e
one_takes UnOp.One u s e = one_needed ShapeTree.str u ShapeTree.names s e
one_takes UnOp.Lines u s e = one_needed ShapeTree.str u ShapeTree.names s e
one_takes UnOp.Size u s e = let parts : (is_sized u ≡ true) × (s ≡ ShapeTree.int) = one_allowed (is_sized u) u ShapeTree.int s e in (sized u parts.0, parts.1)
one_takes UnOp.Int u s e = one_needed ShapeTree.str u ShapeTree.int s e
one_takes UnOp.Text u s e = one_needed ShapeTree.int u ShapeTree.str s e
one_takes UnOp.First u s e = by u e
  where
    by : (u : ShapeTree) → first_of u ≡ Ok s → UnShape UnOp.First u s
    by (ShapeTree.pair a b) e = (b, let same : a ≡ s = cc in ap (λ x. ShapeTree.pair x b) same)
    by _ e = absurd (cc)
one_takes UnOp.Second u s e = by u e
  where
    by : (u : ShapeTree) → second_of u ≡ Ok s → UnShape UnOp.Second u s
    by (ShapeTree.pair a b) e = (a, let same : b ≡ s = cc in ap (λ x. ShapeTree.pair a x) same)
    by _ e = absurd (cc)
one_takes UnOp.Keys u s e = by u e
  where
    by : (u : ShapeTree) → keys_of u ≡ Ok s → UnShape UnOp.Keys u s
    by (ShapeTree.table a) e = (a, refl, cc)
    by _ e = absurd (cc)
one_takes UnOp.Present u s e = by u e
  where
    by : (u : ShapeTree) → present_of u ≡ Ok s → UnShape UnOp.Present u s
    by (ShapeTree.opt a) e = (a, refl, cc)
    by _ e = absurd (cc)

of_needed : (expected u shape s : ShapeTree) → u ≡ expected → s ≡ shape → followed_by shape (needed expected u) ≡ Ok s
of_needed expected u shape s eu es = ap (λ o. followed_by shape o) (needed_same expected u eu) ∙ ap (λ x. Ok x) (sym es)

one_is : (op : UnOp) (u s : ShapeTree) → UnShape op u s → one_shape op u ≡ Ok s
one_is UnOp.Not u s (eu, es) = of_needed ShapeTree.bool u ShapeTree.bool s eu es
one_is UnOp.One u s (eu, es) = of_needed ShapeTree.str u ShapeTree.names s eu es
one_is UnOp.Lines u s (eu, es) = of_needed ShapeTree.str u ShapeTree.names s eu es
one_is UnOp.Size u s (c, es) = ap (λ o. followed_by ShapeTree.int o) (allowed_true (is_sized u) u (is_sized_so u c)) ∙ ap (λ x. Ok x) (sym es)
one_is UnOp.Int u s (eu, es) = of_needed ShapeTree.str u ShapeTree.int s eu es
one_is UnOp.Text u s (eu, es) = of_needed ShapeTree.int u ShapeTree.str s eu es
one_is UnOp.First u s (t, eu) = ap (λ x. first_of x) eu
one_is UnOp.Second u s (t, eu) = ap (λ x. second_of x) eu
one_is UnOp.Keys u s (t, eu, es) = ap (λ x. keys_of x) eu ∙ ap (λ x. Ok x) (sym es)
one_is UnOp.Present u s (t, eu, es) = ap (λ x. present_of x) eu ∙ ap (λ x. Ok x) (sym es)

-- ---- expressions

pub has_shape : (g : Scope) (e : ExprTree) (s : ShapeTree) → shaped g e ≡ Ok s → HasShape g e s
has_shape g (ExprTree.str text) s e = cc
has_shape g (ExprTree.int n) s e = cc
has_shape g (ExprTree.bool b) s e = cc
has_shape g ExprTree.empty s e = cc
has_shape g (ExprTree.var word) s e = by (bound g word) e
  where
    by : (o : Option ShapeTree) → named word o ≡ Ok s → o ≡ Some s
    by None e = absurd (cc)
    by (Some t) e = cc
has_shape g (ExprTree.bin op a b) s e =
    let x = both (shaped g a) (λ u. first_part op u >>= λ first. shaped g b >>= λ second. two_shape op first second) s e in
    let y = both (first_part op x.first) (λ first. shaped g b >>= λ second. two_shape op first second) s x.then in
    let z = both (shaped g b) (λ second. two_shape op y.first second) s y.then in
    (x.first, z.first, two_takes op x.first y.first z.first s y.is z.then, has_shape g a x.first x.is, has_shape g b z.first z.is)
has_shape g (ExprTree.un op a) s e =
    let x = both (shaped g a) (λ found. one_shape op found) s e in
    (x.first, one_takes op x.first s x.then, has_shape g a x.first x.is)
has_shape g (ExprTree.choose c a b) s e =
    let x = both (shaped g c) (λ test. needed ShapeTree.bool test >>= λ _. shaped g a >>= λ first. shaped g b >>= λ second. needed first second) s e in
    let y = both (needed ShapeTree.bool x.first) (λ _. shaped g a >>= λ first. shaped g b >>= λ second. needed first second) s x.then in
    let z = both (shaped g a) (λ first. shaped g b >>= λ second. needed first second) s y.then in
    let w = both (shaped g b) (λ second. needed z.first second) s z.then in
    let test : Fits ShapeTree.bool x.first y.first = needed_fits ShapeTree.bool x.first y.first y.is in
    let parts : Fits z.first w.first s = needed_fits z.first w.first s w.then in (
      subst (λ (t : ShapeTree). HasShape g c t) test.fits (has_shape g c x.first x.is),
      subst (λ (t : ShapeTree). HasShape g a t) (sym parts.fits ∙ sym parts.same) (has_shape g a z.first z.is),
      subst (λ (t : ShapeTree). HasShape g b t) (sym parts.same) (has_shape g b w.first w.is),
    )
has_shape g (ExprTree.only a glob) s e =
    let x = both (shaped g a) (λ found. needed ShapeTree.names found) s e in
    let part : Fits ShapeTree.names x.first s = needed_fits ShapeTree.names x.first s x.then in
    (part.same ∙ part.fits, subst (λ (t : ShapeTree). HasShape g a t) part.fits (has_shape g a x.first x.is))

pub is_shaped : (g : Scope) (e : ExprTree) (s : ShapeTree) → HasShape g e s → shaped g e ≡ Ok s
is_shaped g (ExprTree.str text) s h = ap (λ x. Ok x) (sym h)
is_shaped g (ExprTree.int n) s h = ap (λ x. Ok x) (sym h)
is_shaped g (ExprTree.bool b) s h = ap (λ x. Ok x) (sym h)
is_shaped g ExprTree.empty s h = ap (λ x. Ok x) (sym h)
is_shaped g (ExprTree.var word) s h = ap (λ o. named word o) h
is_shaped g (ExprTree.bin op a b) s (u, v, h, ha, hb) =
    let t : Takes op u v × (s ≡ result_shape op) = takes op u v s h in
    given (shaped g a) (λ u. first_part op u >>= λ first. shaped g b >>= λ second. two_shape op first second) u (is_shaped g a u ha)
    ∙ given (first_part op u) (λ first. shaped g b >>= λ second. two_shape op first second) u t.0.first
    ∙ given (shaped g b) (λ second. two_shape op u second) v (is_shaped g b v hb)
    ∙ given (needed (second_needed op u) v) (λ _. Ok (result_shape op)) v t.0.second
    ∙ ap (λ x. Ok x) (sym t.1)
is_shaped g (ExprTree.un op a) s (u, h, ha) = given (shaped g a) (λ found. one_shape op found) u (is_shaped g a u ha) ∙ one_is op u s h
is_shaped g (ExprTree.choose c a b) s (hc, ha, hb) =
    given (shaped g c) (λ test. needed ShapeTree.bool test >>= λ _. shaped g a >>= λ first. shaped g b >>= λ second. needed first second) ShapeTree.bool (is_shaped g c ShapeTree.bool hc)
    ∙ given (shaped g a) (λ first. shaped g b >>= λ second. needed first second) s (is_shaped g a s ha)
    ∙ given (shaped g b) (λ second. needed s second) s (is_shaped g b s hb)
    ∙ needed_self s
is_shaped g (ExprTree.only a glob) s (es, ha) =
    given (shaped g a) (λ found. needed ShapeTree.names found) ShapeTree.names (is_shaped g a ShapeTree.names ha) ∙ ap (λ x. Ok x) (sym es)

-- ---- names and expected shapes

shaped_as_is : (g : Scope) (e : ExprTree) (expected s : ShapeTree) → shaped_as g expected e ≡ Ok s → HasShape g e expected × (s ≡ expected)
shaped_as_is g e expected s h =
    let x = both (shaped g e) (λ found. needed expected found) s h in
    let part : Fits expected x.first s = needed_fits expected x.first s x.then in
    (subst (λ (t : ShapeTree). HasShape g e t) part.fits (has_shape g e x.first x.is), part.same ∙ part.fits)

is_shaped_as : (g : Scope) (e : ExprTree) (expected : ShapeTree) → HasShape g e expected → shaped_as g expected e ≡ Ok expected
is_shaped_as g e expected h = given (shaped g e) (λ found. needed expected found) expected (is_shaped g e expected h) ∙ needed_self expected

-- a name that is not bound
pub record Named (g : Scope) (word : List ℕ) (shape : ShapeTree) (inner : Scope) : Type 0 where
  pub free : bound g word ≡ None
  pub is : inner ≡ bind g word shape

pub name_is_free : (g : Scope) (word : List ℕ) (shape : ShapeTree) (inner : Scope) → with_name g word shape ≡ Ok inner → Named g word shape inner
name_is_free g word shape inner e = by (bound g word) refl e
  where
    by : (o : Option ShapeTree) → bound g word ≡ o → unless_bound word o (bind g word shape) ≡ Ok inner → Named g word shape inner
    by None f e = record { free = f; is = cc }
    by (Some t) f e = absurd (cc)

pub free_is_named : (g : Scope) (word : List ℕ) (shape : ShapeTree) → bound g word ≡ None → with_name g word shape ≡ Ok (bind g word shape)
free_is_named g word shape e = ap (λ o. unless_bound word o (bind g word shape)) e

-- ---- calls

-- the definition whose parameters a call's arguments are for
pub record Asked (n : ℕ) (o : Option DefTree) (given : List (List ℕ × ShapeTree)) : Type 0 where
  pub def : DefTree
  pub is : o ≡ Some def
  pub params : given ≡ def.params
  pub count : n ≡ length def.params

pub asked_is : (f : List ℕ) (n : ℕ) (o : Option DefTree) (params : List (List ℕ × ShapeTree)) → asked_of f n o ≡ Ok params → Asked n o params
asked_is f n None params h = absurd (cc)
asked_is f n (Some d) params h = by (nat_eq n (length d.params)) refl h
  where
    by : (b : Bool) → nat_eq n (length d.params) ≡ b → cond {A = OrFault (List (List ℕ × ShapeTree))} b (Ok d.params) (Err (Fault.unknown f)) ≡ Ok params
        → Asked n (Some d) params
    by true e h = record { def = d; is = refl; params = cc; count = grind (arith, nat_tests) }
    by false e h = absurd (cc)

pub is_asked : (f : List ℕ) (n : ℕ) (o : Option DefTree) (d : DefTree) → o ≡ Some d → n ≡ length d.params → asked_of f n o ≡ Ok d.params
is_asked f n o d found count =
    let same : nat_eq n (length d.params) ≡ true = grind (arith, nat_tests) in
    ap (λ o. asked_of f n o) found ∙ ap (λ b. cond {A = OrFault (List (List ℕ × ShapeTree))} b (Ok d.params) (Err (Fault.unknown f))) same

pub arguments_shaped : (g : Scope) (es : List ExprTree) (ps : List (List ℕ × ShapeTree)) → AreArguments g es ps → All IsShaped es
arguments_shaped g [] [] h = All-nil IsShaped
arguments_shaped g [] (p ∷ ps) h = absurd h
arguments_shaped g (e ∷ es) [] h = absurd h
arguments_shaped g (e ∷ es) (p ∷ ps) h = All-cons IsShaped e es (record { names = g; shape = p.1; has = h.0 }) (arguments_shaped g es ps h.1)

same_count : (g : Scope) (es : List ExprTree) (ps : List (List ℕ × ShapeTree)) → AreArguments g es ps → length es ≡ length ps
same_count g [] [] h = refl
same_count g [] (p ∷ ps) h = absurd h
same_count g (e ∷ es) [] h = absurd h
same_count g (e ∷ es) (p ∷ ps) h = ap (λ n. suc n) (same_count g es ps h.1)

arguments_are : (g : Scope) (es : List ExprTree) (ps : List (List ℕ × ShapeTree)) (s : ShapeTree) → length es ≡ length ps → checked_arguments g es ps ≡ Ok s
    → AreArguments g es ps × (s ≡ ShapeTree.bool)
arguments_are g [] [] s n h = (tt, cc)
arguments_are g [] (p ∷ ps) s n h = absurd (let e : 0 ≡ suc (length ps) = n in omega arith)
arguments_are g (e ∷ es) [] s n h = absurd (let e : suc (length es) ≡ 0 = n in omega arith)
arguments_are g (e ∷ es) (p ∷ ps) s n h =
    let x = both (shaped_as g p.1 e) (λ _. checked_arguments g es ps) s h in
    let count : length es ≡ length ps = let e : suc (length es) ≡ suc (length ps) = n in omega arith in
    let rest : AreArguments g es ps × (s ≡ ShapeTree.bool) = arguments_are g es ps s count x.then in
    (((shaped_as_is g e p.1 x.first x.is).0, rest.0), rest.1)

are_arguments : (g : Scope) (es : List ExprTree) (ps : List (List ℕ × ShapeTree)) → AreArguments g es ps → checked_arguments g es ps ≡ Ok ShapeTree.bool
are_arguments g [] [] h = refl
are_arguments g [] (p ∷ ps) h = absurd h
are_arguments g (e ∷ es) [] h = absurd h
are_arguments g (e ∷ es) (p ∷ ps) h =
    given (shaped_as g p.1 e) (λ _. checked_arguments g es ps) p.1 (is_shaped_as g e p.1 h.0) ∙ are_arguments g es ps h.1

-- ---- descriptions

module _ (defs : List DefTree) where
  pub is_description : (g : Scope) (d : WrittenTree) (s : ShapeTree) → checked defs g d ≡ Ok s → IsWritten defs g d × (s ≡ written_shape d)
  is_description g WrittenTree.file s e = (tt, cc)
  is_description g WrittenTree.dir s e = (tt, cc)
  is_description g WrittenTree.link s e = (tt, cc)
  is_description g (WrittenTree.focus e d) s h =
      let x = both (shaped_as g ShapeTree.str e) (λ _. checked defs g d) s h in
      let text : HasShape g e ShapeTree.str × (x.first ≡ ShapeTree.str) = shaped_as_is g e ShapeTree.str x.first x.is in
      let part : IsWritten defs g d × (s ≡ written_shape d) = is_description g d s x.then in
      ((text.0, part.0), part.1)
  is_description g (WrittenTree.pair x a b) s h =
      let p = both (checked defs g a) (λ first. with_name g x first >>= λ inner. checked defs inner b >>= λ second. Ok (ShapeTree.pair first second)) s h in
      let q = both (with_name g x p.first) (λ inner. checked defs inner b >>= λ second. Ok (ShapeTree.pair p.first second)) s p.then in
      let r = both (checked defs q.first b) (λ second. Ok (ShapeTree.pair p.first second)) s q.then in
      let first : IsWritten defs g a × (p.first ≡ written_shape a) = is_description g a p.first p.is in
      let name : Named g x p.first q.first = name_is_free g x p.first q.first q.is in
      let second : IsWritten defs q.first b × (r.first ≡ written_shape b) = is_description q.first b r.first r.is in
      let inner : q.first ≡ bind g x (written_shape a) = name.is ∙ ap (λ t. bind g x t) first.1 in
      let shape : ShapeTree.pair p.first r.first ≡ s = let then = r.then in cc in
      ((first.0, name.free, subst (λ (t : Scope). IsWritten defs t b) inner second.0), sym shape ∙ (λ i. ShapeTree.pair (first.1 i) (second.1 i)))
  is_description g (WrittenTree.comp d x e) s h =
      let p = both (shaped_as g ShapeTree.names e) (λ _. with_name g x ShapeTree.str >>= λ inner. checked defs inner d >>= λ part. Ok (ShapeTree.table part)) s h in
      let q = both (with_name g x ShapeTree.str) (λ inner. checked defs inner d >>= λ part. Ok (ShapeTree.table part)) s p.then in
      let r = both (checked defs q.first d) (λ part. Ok (ShapeTree.table part)) s q.then in
      let set : HasShape g e ShapeTree.names × (p.first ≡ ShapeTree.names) = shaped_as_is g e ShapeTree.names p.first p.is in
      let name : Named g x ShapeTree.str q.first = name_is_free g x ShapeTree.str q.first q.is in
      let part : IsWritten defs q.first d × (r.first ≡ written_shape d) = is_description q.first d r.first r.is in
      let shape : ShapeTree.table r.first ≡ s = let then = r.then in cc in
      ((set.0, name.free, subst (λ (t : Scope). IsWritten defs t d) name.is part.0), sym shape ∙ ap ShapeTree.table part.1)
  is_description g (WrittenTree.opt d) s h =
      let p = both (checked defs g d) (λ part. Ok (ShapeTree.opt part)) s h in
      let part : IsWritten defs g d × (p.first ≡ written_shape d) = is_description g d p.first p.is in
      let shape : ShapeTree.opt p.first ≡ s = let then = p.then in cc in
      (part.0, sym shape ∙ ap ShapeTree.opt part.1)
  is_description g (WrittenTree.pred e) s h = shaped_as_is g e ShapeTree.bool s h
  is_description g (WrittenTree.call f args) s h =
      let x = both (asked_of f (length args) (definition f defs)) (λ params. checked_arguments g args params) s h in
      let asked : Asked (length args) (definition f defs) x.first = asked_is f (length args) (definition f defs) x.first x.is in
      let count : length args ≡ length x.first = asked.count ∙ ap length (sym asked.params) in
      let parts : AreArguments g args x.first × (s ≡ ShapeTree.bool) = arguments_are g args x.first s count x.then in
      (record { named = asked.def; found = asked.is; arguments = subst (λ (ps : List (List ℕ × ShapeTree)). AreArguments g args ps) asked.params parts.0 }, parts.1)

  pub is_checked : (g : Scope) (d : WrittenTree) → IsWritten defs g d → checked defs g d ≡ Ok (written_shape d)
  is_checked g WrittenTree.file h = refl
  is_checked g WrittenTree.dir h = refl
  is_checked g WrittenTree.link h = refl
  is_checked g (WrittenTree.focus e d) (he, hd) =
      given (shaped_as g ShapeTree.str e) (λ _. checked defs g d) ShapeTree.str (is_shaped_as g e ShapeTree.str he) ∙ is_checked g d hd
  is_checked g (WrittenTree.pair x a b) (ha, free, hb) =
      given (checked defs g a) (λ first. with_name g x first >>= λ inner. checked defs inner b >>= λ second. Ok (ShapeTree.pair first second)) (written_shape a) (is_checked g a ha)
      ∙ given (with_name g x (written_shape a)) (λ inner. checked defs inner b >>= λ second. Ok (ShapeTree.pair (written_shape a) second)) (bind g x (written_shape a))
      (free_is_named g x (written_shape a) free)
      ∙ given (checked defs (bind g x (written_shape a)) b) (λ second. Ok (ShapeTree.pair (written_shape a) second)) (written_shape b) (is_checked (bind g x (written_shape a)) b hb)
  is_checked g (WrittenTree.comp d x e) (he, free, hd) =
      given (shaped_as g ShapeTree.names e) (λ _. with_name g x ShapeTree.str >>= λ inner. checked defs inner d >>= λ part. Ok (ShapeTree.table part)) ShapeTree.names
      (is_shaped_as g e ShapeTree.names he)
      ∙ given (with_name g x ShapeTree.str) (λ inner. checked defs inner d >>= λ part. Ok (ShapeTree.table part)) (bind g x ShapeTree.str) (free_is_named g x ShapeTree.str free)
      ∙ given (checked defs (bind g x ShapeTree.str) d) (λ part. Ok (ShapeTree.table part)) (written_shape d) (is_checked (bind g x ShapeTree.str) d hd)
  is_checked g (WrittenTree.opt d) h = given (checked defs g d) (λ part. Ok (ShapeTree.opt part)) (written_shape d) (is_checked g d h)
  is_checked g (WrittenTree.pred e) h = is_shaped_as g e ShapeTree.bool h
  is_checked g (WrittenTree.call f args) h =
      given (asked_of f (length args) (definition f defs)) (λ params. checked_arguments g args params) h.named.params
      (is_asked f (length args) (definition f defs) h.named h.found (same_count g args h.named.params h.arguments))
      ∙ are_arguments g args h.named.params h.arguments

-- ---- commands

-- the scope that is left, in which the rest is well shaped
record Left (o : OrFault Scope) (rest : Block) : Type 0 where
  scope : Scope
  is : o ≡ Ok scope
  has : IsBlock scope rest

act_is : (g : Scope) (a : ActTree) (s : Scope) → checked_act g a ≡ Ok s → IsAct g a × (s ≡ g)
act_is g (ActTree.to e) s h =
    let x = both (shaped_as g ShapeTree.str e) (λ _. Ok g) s h in
    ((shaped_as_is g e ShapeTree.str x.first x.is).0, let then = x.then in cc)
act_is g (ActTree.store e) s h =
    let x = both (shaped g e) (λ _. Ok g) s h in
    ((x.first, has_shape g e x.first x.is), let then = x.then in cc)
act_is g ActTree.into s h = (tt, cc)
act_is g ActTree.next s h = (tt, cc)
act_is g ActTree.prev s h = (tt, cc)
act_is g ActTree.out s h = (tt, cc)
act_is g ActTree.down s h = (tt, cc)
act_is g ActTree.up s h = (tt, cc)
act_is g ActTree.top s h = (tt, cc)
act_is g ActTree.create s h = (tt, cc)
act_is g ActTree.remove s h = (tt, cc)

is_act : (g : Scope) (a : ActTree) → IsAct g a → checked_act g a ≡ Ok g
is_act g (ActTree.to e) h = given (shaped_as g ShapeTree.str e) (λ _. Ok g) ShapeTree.str (is_shaped_as g e ShapeTree.str h)
is_act g (ActTree.store e) (s, h) = given (shaped g e) (λ _. Ok g) s (is_shaped g e s h)
is_act g ActTree.into h = refl
is_act g ActTree.next h = refl
is_act g ActTree.prev h = refl
is_act g ActTree.out h = refl
is_act g ActTree.down h = refl
is_act g ActTree.up h = refl
is_act g ActTree.top h = refl
is_act g ActTree.create h = refl
is_act g ActTree.remove h = refl

on_scope : (P : Scope → Type 0) (a b : Scope) → a ≡ b → P a → P b
on_scope P a b e h = subst (λ (t : Scope). P t) e h

named_is : (word : List ℕ) (o : Option ShapeTree) (t : ShapeTree) → named word o ≡ Ok t → o ≡ Some t
named_is word None t e = absurd (cc)
named_is word (Some s) t e = cc

mutual
  command_is : (g : Scope) (c : CommandTree) (s : Scope) (rest : Block) → checked_command g c ≡ Ok s → IsBlock s rest → IsCommand g c (λ t. IsBlock t rest)
  command_is g (CommandTree.act a) s rest h p = let x : IsAct g a × (s ≡ g) = act_is g a s h in (x.0, on_scope (λ t. IsBlock t rest) s g x.1 p)
  command_is g (CommandTree.attempt x a) s rest h p =
      let y = both (checked_act g a) (λ _. with_name g x ShapeTree.int) s h in
      let name : Named g x ShapeTree.int s = name_is_free g x ShapeTree.int s y.then in
      ((act_is g a y.first y.is).0, name.free, on_scope (λ t. IsBlock t rest) s (bind g x ShapeTree.int) name.is p)
  command_is g (CommandTree.bind x e) s rest h p =
      let y = both (shaped g e) (λ found. with_name g x found) s h in
      let name : Named g x y.first s = name_is_free g x y.first s y.then in
      (y.first, has_shape g e y.first y.is, name.free, on_scope (λ t. IsBlock t rest) s (bind g x y.first) name.is p)
  command_is g (CommandTree.assign x e) s rest h p =
      let y = both (shaped g e) (λ found. assigned g x found) s h in
      let z = both (named x (bound g x)) (λ expected. needed expected y.first >>= λ _. Ok g) s y.then in
      let w = both (needed z.first y.first) (λ _. Ok g) s z.then in
      let fits : Fits z.first y.first w.first = needed_fits z.first y.first w.first w.is in
      let same : s ≡ g = let then = w.then in cc in (
        y.first,
        has_shape g e y.first y.is,
        named_is x (bound g x) z.first z.is ∙ ap (λ t. Some t) (sym fits.fits),
        on_scope (λ t. IsBlock t rest) s g same p,
      )
  command_is g (CommandTree.fetch x shape) s rest h p =
      let name : Named g x shape s = name_is_free g x shape s h in (name.free, on_scope (λ t. IsBlock t rest) s (bind g x shape) name.is p)
  command_is g (CommandTree.whole x shape) s rest h p =
      let name : Named g x shape s = name_is_free g x shape s h in (name.free, on_scope (λ t. IsBlock t rest) s (bind g x shape) name.is p)
  command_is g (CommandTree.validate x) s rest h p =
      let name : Named g x ShapeTree.bool s = name_is_free g x ShapeTree.bool s h in (name.free, on_scope (λ t. IsBlock t rest) s (bind g x ShapeTree.bool) name.is p)
  command_is g (CommandTree.print e) s rest h p =
      let y = both (shaped g e) (λ _. Ok g) s h in
      let same : s ≡ g = let then = y.then in cc in
      ((y.first, has_shape g e y.first y.is), on_scope (λ t. IsBlock t rest) s g same p)
  command_is g (CommandTree.branch e a b) s rest h p =
      let x = both (shaped_as g ShapeTree.bool e) (λ _. checked_block g a >>= λ _. checked_block g b >>= λ _. Ok g) s h in
      let y = both (checked_block g a) (λ _. checked_block g b >>= λ _. Ok g) s x.then in
      let z = both (checked_block g b) (λ _. Ok g) s y.then in
      let same : s ≡ g = let then = z.then in cc in
      ((shaped_as_is g e ShapeTree.bool x.first x.is).0, block_is g a y.first y.is, block_is g b z.first z.is, on_scope (λ t. IsBlock t rest) s g same p)
  command_is g (CommandTree.each x e a) s rest h p =
      let y = both (shaped_as g ShapeTree.names e) (λ _. with_name g x ShapeTree.str >>= λ inner. checked_block inner a >>= λ _. Ok g) s h in
      let z = both (with_name g x ShapeTree.str) (λ inner. checked_block inner a >>= λ _. Ok g) s y.then in
      let w = both (checked_block z.first a) (λ _. Ok g) s z.then in
      let name : Named g x ShapeTree.str z.first = name_is_free g x ShapeTree.str z.first z.is in
      let same : s ≡ g = let then = w.then in cc in (
        (shaped_as_is g e ShapeTree.names y.first y.is).0,
        name.free,
        on_scope (λ t. IsBlock t a) z.first (bind g x ShapeTree.str) name.is (block_is z.first a w.first w.is),
        on_scope (λ t. IsBlock t rest) s g same p,
      )
  command_is g CommandTree.abort s rest h p = let same : s ≡ g = cc in on_scope (λ t. IsBlock t rest) s g same p

  pub block_is : (g : Scope) (b : Block) (s : Scope) → checked_block g b ≡ Ok s → IsBlock g b
  block_is g Block.none s h = tt
  block_is g (Block.then c cs) s h =
      let x = both (checked_command g c) (λ inner. checked_block inner cs) s h in
      command_is g c x.first cs x.is (block_is x.first cs s x.then)

of_name : (g : Scope) (x : List ℕ) (shape : ShapeTree) (rest : Block) → bound g x ≡ None → IsBlock (bind g x shape) rest → Left (with_name g x shape) rest
of_name g x shape rest free p = record { scope = bind g x shape; is = free_is_named g x shape free; has = p }

mutual
  is_command : (g : Scope) (c : CommandTree) (rest : Block) → IsCommand g c (λ t. IsBlock t rest) → Left (checked_command g c) rest
  is_command g (CommandTree.act a) rest (ha, p) = record { scope = g; is = is_act g a ha; has = p }
  is_command g (CommandTree.attempt x a) rest (ha, free, p) = record {
    scope = bind g x ShapeTree.int;
    is = given (checked_act g a) (λ _. with_name g x ShapeTree.int) g (is_act g a ha) ∙ free_is_named g x ShapeTree.int free;
    has = p;
  }
  is_command g (CommandTree.bind x e) rest (s, he, free, p) = record {
    scope = bind g x s;
    is = given (shaped g e) (λ found. with_name g x found) s (is_shaped g e s he) ∙ free_is_named g x s free;
    has = p;
  }
  is_command g (CommandTree.assign x e) rest (s, he, is, p) = record {
    scope = g;
    is = given (shaped g e) (λ found. assigned g x found) s (is_shaped g e s he)
        ∙ given (named x (bound g x)) (λ expected. needed expected s >>= λ _. Ok g) s (ap (λ o. named x o) is)
        ∙ given (needed s s) (λ _. Ok g) s (needed_self s);
    has = p;
  }
  is_command g (CommandTree.fetch x shape) rest (free, p) = of_name g x shape rest free p
  is_command g (CommandTree.whole x shape) rest (free, p) = of_name g x shape rest free p
  is_command g (CommandTree.validate x) rest (free, p) = of_name g x ShapeTree.bool rest free p
  is_command g (CommandTree.print e) rest ((s, he), p) = record { scope = g; is = given (shaped g e) (λ _. Ok g) s (is_shaped g e s he); has = p }
  is_command g (CommandTree.branch e a b) rest (he, ha, hb, p) =
      let x : (inner : Scope) × (checked_block g a ≡ Ok inner) = is_block g a ha in
      let y : (inner : Scope) × (checked_block g b ≡ Ok inner) = is_block g b hb in
      record {
        scope = g;
        is = given (shaped_as g ShapeTree.bool e) (λ _. checked_block g a >>= λ _. checked_block g b >>= λ _. Ok g) ShapeTree.bool (is_shaped_as g e ShapeTree.bool he)
            ∙ given (checked_block g a) (λ _. checked_block g b >>= λ _. Ok g) x.0 x.1
            ∙ given (checked_block g b) (λ _. Ok g) y.0 y.1;
        has = p;
      }
  is_command g (CommandTree.each x e a) rest (he, free, ha, p) =
      let y : (inner : Scope) × (checked_block (bind g x ShapeTree.str) a ≡ Ok inner) = is_block (bind g x ShapeTree.str) a ha in
      record {
        scope = g;
        is = given (shaped_as g ShapeTree.names e) (λ _. with_name g x ShapeTree.str >>= λ inner. checked_block inner a >>= λ _. Ok g) ShapeTree.names (is_shaped_as g e ShapeTree.names he)
            ∙ given (with_name g x ShapeTree.str) (λ inner. checked_block inner a >>= λ _. Ok g) (bind g x ShapeTree.str) (free_is_named g x ShapeTree.str free)
            ∙ given (checked_block (bind g x ShapeTree.str) a) (λ _. Ok g) y.0 y.1;
        has = p;
      }
  is_command g CommandTree.abort rest p = record { scope = g; is = refl; has = p }

  pub is_block : (g : Scope) (b : Block) → IsBlock g b → (inner : Scope) × (checked_block g b ≡ Ok inner)
  is_block g Block.none h = (g, refl)
  is_block g (Block.then c cs) h =
      let x : Left (checked_command g c) cs = is_command g c cs h in
      let y : (inner : Scope) × (checked_block x.scope cs ≡ Ok inner) = is_block x.scope cs x.has in
      (y.0, given (checked_command g c) (λ inner. checked_block inner cs) x.scope x.is ∙ y.1)

-- ---- transactions

pub txns_are : (txns found : List (List CommandTree)) → checked_txns txns ≡ Ok found → (found ≡ txns) × All (λ t. IsBlock [] (block t)) txns
txns_are [] found h = (cc, All-nil (λ t. IsBlock [] (block t)))
txns_are (t ∷ ts) found h =
    let x = both (checked_block [] (block t)) (λ _. checked_txns ts >>= λ rest. Ok (t ∷ rest)) found h in
    let y = both (checked_txns ts) (λ rest. Ok (t ∷ rest)) found x.then in
    let rest : (y.first ≡ ts) × All (λ t. IsBlock [] (block t)) ts = txns_are ts y.first y.is in
    let same : t ∷ y.first ≡ found = let then = y.then in cc in
    (sym same ∙ ap (λ r. t ∷ r) rest.0, All-cons (λ t. IsBlock [] (block t)) t ts (block_is [] (block t) x.first x.is) rest.1)

pub are_txns : (txns : List (List CommandTree)) → All (λ t. IsBlock [] (block t)) txns → checked_txns txns ≡ Ok txns
are_txns [] h = refl
are_txns (t ∷ ts) h =
    let there : All (λ t. IsBlock [] (block t)) ts = All-tail (λ t. IsBlock [] (block t)) t ts h in
    let x : (inner : Scope) × (checked_block [] (block t) ≡ Ok inner) = is_block [] (block t) (All-head (λ t. IsBlock [] (block t)) t ts h) in
    given (checked_block [] (block t)) (λ _. checked_txns ts >>= λ rest. Ok (t ∷ rest)) x.0 x.1 ∙ given (checked_txns ts) (λ rest. Ok (t ∷ rest)) ts (are_txns ts there)

-- ---- what calls give

pub fault_then : {X Y : Type 0} (fault : CheckFault) (o : OrFault X) (f : X → OrFault Y) → IsFault fault o → IsFault fault (o >>= f)
fault_then (check.Unknown word) o f e = ap (λ o. o >>= f) e
fault_then (check.TypeDiffers expected found) o f e = ap (λ o. o >>= f) e
fault_then (check.Repeated word) o f e = ap (λ o. o >>= f) e
fault_then check.TooMany o f e = ap (λ o. o >>= f) e
fault_then check.NoMemory o f e = tt

pub pair_checked : (defs : List DefTree) (g inner : Scope) (x : List ℕ) (a b : WrittenTree) (s t : ShapeTree) → checked defs g a ≡ Ok s → with_name g x s ≡ Ok inner
    → checked defs inner b ≡ Ok t → checked defs g (WrittenTree.pair x a b) ≡ Ok (ShapeTree.pair s t)
pair_checked defs g inner x a b s t first name second =
    given (checked defs g a) (λ first. with_name g x first >>= λ inner. checked defs inner b >>= λ second. Ok (ShapeTree.pair first second)) s first
    ∙ given (with_name g x s) (λ inner. checked defs inner b >>= λ second. Ok (ShapeTree.pair s second)) inner name
    ∙ given (checked defs inner b) (λ second. Ok (ShapeTree.pair s second)) t second

-- ---- commands one after another

mutual
  command_grows : (g : Scope) (c : CommandTree) (s : Scope) → checked_command g c ≡ Ok s → (more : Scope) × (s ≡ g ++ more)
  command_grows g (CommandTree.act a) s h = ([], (act_is g a s h).1 ∙ sym (append-nil g))
  command_grows g (CommandTree.attempt x a) s h =
      let y = both (checked_act g a) (λ _. with_name g x ShapeTree.int) s h in
      ((x, ShapeTree.int) ∷ [], (name_is_free g x ShapeTree.int s y.then).is)
  command_grows g (CommandTree.bind x e) s h =
      let y = both (shaped g e) (λ found. with_name g x found) s h in
      ((x, y.first) ∷ [], (name_is_free g x y.first s y.then).is)
  command_grows g (CommandTree.assign x e) s h =
      let y = both (shaped g e) (λ found. assigned g x found) s h in
      let z = both (named x (bound g x)) (λ expected. needed expected y.first >>= λ _. Ok g) s y.then in
      let w = both (needed z.first y.first) (λ _. Ok g) s z.then in
      let same : s ≡ g = let then = w.then in cc in
      ([], same ∙ sym (append-nil g))
  command_grows g (CommandTree.fetch x shape) s h = ((x, shape) ∷ [], (name_is_free g x shape s h).is)
  command_grows g (CommandTree.whole x shape) s h = ((x, shape) ∷ [], (name_is_free g x shape s h).is)
  command_grows g (CommandTree.validate x) s h = ((x, ShapeTree.bool) ∷ [], (name_is_free g x ShapeTree.bool s h).is)
  command_grows g (CommandTree.print e) s h =
      let y = both (shaped g e) (λ _. Ok g) s h in
      let same : s ≡ g = let then = y.then in cc in
      ([], same ∙ sym (append-nil g))
  command_grows g (CommandTree.branch e a b) s h =
      let x = both (shaped_as g ShapeTree.bool e) (λ _. checked_block g a >>= λ _. checked_block g b >>= λ _. Ok g) s h in
      let y = both (checked_block g a) (λ _. checked_block g b >>= λ _. Ok g) s x.then in
      let z = both (checked_block g b) (λ _. Ok g) s y.then in
      let same : s ≡ g = let then = z.then in cc in
      ([], same ∙ sym (append-nil g))
  command_grows g (CommandTree.each x e a) s h =
      let y = both (shaped_as g ShapeTree.names e) (λ _. with_name g x ShapeTree.str >>= λ inner. checked_block inner a >>= λ _. Ok g) s h in
      let z = both (with_name g x ShapeTree.str) (λ inner. checked_block inner a >>= λ _. Ok g) s y.then in
      let w = both (checked_block z.first a) (λ _. Ok g) s z.then in
      let same : s ≡ g = let then = w.then in cc in
      ([], same ∙ sym (append-nil g))
  command_grows g CommandTree.abort s h = let same : s ≡ g = cc in ([], same ∙ sym (append-nil g))

  pub block_grows : (g : Scope) (b : Block) (s : Scope) → checked_block g b ≡ Ok s → (more : Scope) × (s ≡ g ++ more)
  block_grows g Block.none s h = let same : s ≡ g = cc in ([], same ∙ sym (append-nil g))
  block_grows g (Block.then c cs) s h =
      let x = both (checked_command g c) (λ inner. checked_block inner cs) s h in
      let y : (more : Scope) × (x.first ≡ g ++ more) = command_grows g c x.first x.is in
      let z : (more : Scope) × (s ≡ x.first ++ more) = block_grows x.first cs s x.then in
      (y.0 ++ z.0, z.1 ∙ ap (λ l. l ++ z.0) y.1 ∙ append_assoc g y.0 z.0)

-- the names of a block are cut off
pub cut_back : (g : Scope) (b : Block) (s : Scope) → checked_block g b ≡ Ok s → checked_inner g b ≡ Ok (take (length g) s)
cut_back g b s h =
    let more : (more : Scope) × (s ≡ g ++ more) = block_grows g b s h in
    given (checked_block g b) (λ _. Ok g) s h ∙ ap (λ l. Ok l) (sym (ap (λ l. take (length g) l) more.1 ∙ take-append_seam g more.0))

-- the fault of a call is handed on
pub handed : {X Y : Type 0} (view : X → Y) (result : Result X CheckFault) (fault : CheckFault) (o : OrFault Y) → IsErrAnd result (λ found. found ≡ fault) → IsFault fault o → Gives view result o
handed view (Ok x) fault o is h = absurd is
handed view (Err found) fault o is h = subst (λ (f : CheckFault). IsFault f o) (sym is) h

-- a transaction that is well shaped before others
module _ (t : List CommandTree) (ts : List (List CommandTree)) (left : Scope) (is : checked_block [] (block t) ≡ Ok left) where
  abbrev then_next : OrFault (List (List CommandTree))
  then_next = checked_txns ts >>= λ rest. Ok (t ∷ rest)

  pub fine_before : checked_txns ts ≡ Ok ts → checked_txns (t ∷ ts) ≡ Ok (t ∷ ts)
  fine_before h = given (checked_block [] (block t)) (λ _. then_next) left is ∙ given (checked_txns ts) (λ rest. Ok (t ∷ rest)) ts h

  pub fault_behind : (fault : CheckFault) → IsFault fault (checked_txns ts) → IsFault fault (checked_txns (t ∷ ts))
  fault_behind fault h =
      subst (λ (o : OrFault (List (List CommandTree))). IsFault fault o) (sym (given (checked_block [] (block t)) (λ _. then_next) left is))
      (fault_then fault (checked_txns ts) (λ rest. Ok (t ∷ rest)) h)

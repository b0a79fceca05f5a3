-- Results and options. Std's pages Result and Option have more: `same_Some`, `none-some`, `cond_some`, `IfOk-weaker`, `IfErr-weaker`.
use Rattle.std.proofs.Common.{◌≡◌, Bool, true, false, cond, Option, Some, None, Result, Ok, Err, OnErr, IsSome, is_some, refl, sym, ap, ◌∙◌}
use Rattle.std.specs.Prelude.{IsSomeAnd, is_ok, is_none}
use Rattle.std.specs.Option.{option_or}
use Rattle.std.proofs.lemmas.Bool.{false≢true, true≢false}
use Rattle.std.proofs.lemmas.Option.{none-some}

-- ---- results

pub same_Ok : {A E : Type 0} (x y : A) → ◌≡◌ {A = Result A E} (Ok x) (Ok y) → x ≡ y
same_Ok x y e = cc

-- what holds anyway holds of a failure
pub OnErr-from : {A E : Type 0} (r : Result A E) (P : Type 0) → P → OnErr r P
OnErr-from (Ok a) P p = tt
OnErr-from (Err e) P p = p

-- a result that is `Ok` was chosen
pub chosen_ok : {A E : Type 0} (b : Bool) (x : Result A E) (f : E) (a : A) → cond b x (Err f) ≡ Ok a → (b ≡ true) × (x ≡ Ok a)
chosen_ok true x f a e = (refl, e)
chosen_ok false x f a e = absurd (false≢true (ap is_ok e))

-- ---- options

pub not_some : {A : Type 0} (o : Option A) (x : A) → o ≡ None → o ≡ Some x → ⊥
not_some o x none some = none-some x (sym none ∙ some)

pub none_of : {A : Type 0} (o : Option A) → is_some o ≡ false → o ≡ None
none_of None e = refl
none_of (Some x) e = absurd (true≢false e)

pub none_is : {A : Type 0} (o : Option A) → is_none o ≡ true → o ≡ None
none_is None e = refl
none_is (Some x) e = absurd (false≢true e)

pub none_if_never : {A : Type 0} (o : Option A) → ((x : A) → o ≡ Some x → ⊥) → o ≡ None
none_if_never None never = refl
none_if_never (Some x) never = absurd (never x refl)

pub some_of : {A : Type 0} (o : Option A) → is_some o ≡ true → (x : A) × (o ≡ Some x)
some_of None e = absurd (false≢true e)
some_of (Some x) e = (x, refl)

pub still_some : {A B : Type 0} (o : Option A) (p : Option B) → ((x : A) → o ≡ Some x → is_some p ≡ true) → IsSome o → IsSome p
still_some None p keeps some = absurd (false≢true some)
still_some (Some x) p keeps some = keeps x refl

pub IsSomeAnd-weaker : {A : Type 0} (o : Option A) (P Q : A → Type 0) → ((x : A) → P x → Q x) → IsSomeAnd o P → IsSomeAnd o Q
IsSomeAnd-weaker None P Q weaker holds = holds
IsSomeAnd-weaker (Some x) P Q weaker holds = weaker x holds

-- a value that was chosen
pub chosen_some : {A : Type 0} (b : Bool) (o : Option A) (x : A) → cond b o None ≡ Some x → (b ≡ true) × (o ≡ Some x)
chosen_some true o x e = (refl, e)
chosen_some false o x e = absurd (none-some x e)

-- neither of two
pub neither_some : {A : Type 0} (a b : Option A) → option_or a b ≡ None → (a ≡ None) × (b ≡ None)
neither_some None b e = (refl, e)
neither_some (Some x) b e = cc

-- What the rows of the tables of statuses are made of: told trees, and reads before a row.
use Rattle.std.proofs.Common.{◌≡◌, ◌⊎◌, inl, inr, ℕ, List, ◌++◌, take, Option, Some, None, IfSome, IsSomeAnd, refl, sym, subst}
use Rattle.fx_outside.specs.Host.{HostView, ReadsOnly}
use Rattle.fx_outside.specs.Sink.{SinkView}
use Rattle.fx_outside.specs.Tree.{Tree}
use Rattle.fx_outside.proofs.Views.{reads_then}
use Rattle.fx_folder.specs.Folder.{IfTold}
pub use Rattle.fx_folder.proofs.Told.{if_some_both}
use Rattle.fx_command.specs.Left.{IsSame, Grows}

-- words on a told tree
pub if_some_map : {A : Type 0} (P Q : A → Type 0) (o : Option A) → ((x : A) → P x → Q x) → IfSome o P → IfSome o Q
if_some_map P Q None f p = tt
if_some_map P Q (Some x) f p = f x p

pub some_and : {A : Type 0} (P Q R : A → Type 0) (o : Option A) → ((x : A) → P x → Q x → R x) → IfSome o P → IsSomeAnd o Q → IsSomeAnd o R
some_and P Q R None f p q = q
some_and P Q R (Some x) f p q = f x p q

pub if_told_same : (P : Tree → Tree → Type 0) (told told' : Option Tree) → told' ≡ told → IfSome told (λ t. P t t) → IfTold told told' P
if_told_same P None told' same p = same
if_told_same P (Some t) told' same p = subst (λ o. IfTold (Some t) o P) (sym same) p

pub if_told_map : (P Q : Tree → Tree → Type 0) (R : Tree → Type 0) (told told' : Option Tree) → ((t t' : Tree) → R t → P t t' → Q t t') → IfSome told R → IfTold told told' P → IfTold told told' Q
if_told_map P Q R None told' f j p = p
if_told_map P Q R (Some t) None f j p = p
if_told_map P Q R (Some t) (Some t') f j p = f t t' j p

pub some_unit : {A : Type 0} (o : Option A) → IfSome o (λ _. Unit {0})
some_unit None = tt
some_unit (Some x) = tt

-- stages that only read
pub same : (host host' : HostView) (sink : SinkView) → ReadsOnly host host' → IsSame host host' sink sink
same host host' sink reads = record { reads = reads; unprinted = refl }

-- what was printed
pub grows_front : (sink sink' : SinkView) (output : List ℕ) → IfSome sink.written (λ w. (n : ℕ) × (sink'.written ≡ Some (w ++ take n output))) → Grows sink sink'
grows_front sink sink' output front = if_some_map _ _ sink.written (λ w front. (take front.0 output, front.1)) front

pub grows_all : (sink sink' : SinkView) (output : List ℕ) → IfSome sink.written (λ w. sink'.written ≡ Some (w ++ output)) → Grows sink sink'
grows_all sink sink' output all = if_some_map _ _ sink.written (λ w all. (output, all)) all

-- a row from a later moment on is one from an earlier moment on, where only reads lie between
pub cause_back : (Fault : HostView → HostView → Type 0) (P : Tree → Type 0) (a b c : HostView) → ReadsOnly a b → (Fault b c → Fault a c) → Fault b c ⊎ IsSomeAnd b.told P → Fault a c ⊎ IsSomeAnd a.told P
cause_back Fault P a b c reads back (inl fault) = inl (back fault)
cause_back Fault P a b c reads back (inr is) = inr (subst (λ o. IsSomeAnd o P) reads.same is)

pub told_back : (P : Tree → Tree → Type 0) (a b c : HostView) → ReadsOnly a b → IfTold b.told c.told P → IfTold a.told c.told P
told_back P a b c reads is = subst (λ o. IfTold o c.told P) reads.same is

pub some_back : (P : Tree → Type 0) (a b : HostView) → ReadsOnly a b → IfSome b.told P → IfSome a.told P
some_back P a b reads is = subst (λ o. IfSome o P) reads.same is

pub same_back : (a b c : HostView) (sink sink' : SinkView) → ReadsOnly a b → IsSame b c sink sink' → IsSame a c sink sink'
same_back a b c sink sink' reads is = record { reads = reads_then a b c reads is.reads; unprinted = is.unprinted }

-- An OUT that is an empty folder, or can be made, is neither taken, unfit nor without a folder above.
use Rattle.std.proofs.Common.{◌≡◌, inl, inr, Bool, true, false, ◌++◌, ◌∷◌, [], List, ℕ, Option, Some, None, refl, sym, ◌∙◌, ap}
use Rattle.std.specs.FinMap.{get}
use Rattle.std.specs.Option.{option_map_or}
use Rattle.fx_base.proofs.Booleans.{never_both}
use Rattle.fx_base.proofs.Results.{not_some}
use Rattle.fx_outside.specs.declared.kind.HostKind.{HostKind}
use Rattle.fx_outside.specs.declared.kind.HostKind.TheVariants as kind
use Rattle.fx_outside.specs.Path.{parts, is_fit, above}
use Rattle.fx_outside.specs.Tree.{Tree, Entry, entry_at, has_folder, is_folder_kind}
use Rattle.fx_folder.specs.declared.readying.Out.{Out}
use Rattle.fx_folder.specs.declared.readying.Out.TheVariants.{Absent, Empty}
use Rattle.fx_folder.specs.Folder.{IsReady, IsTaken}
use Rattle.fx_folder.proofs.Filled.{fit_of}
use Rattle.fx_command.specs.Out.{CannotWrite, IsProperOut}

folder_kind : (k : HostKind) → is_folder_kind k ≡ true → k ≡ kind.Folder
folder_kind kind.File is = cc
folder_kind kind.Folder is = refl
folder_kind kind.Other is = cc

abbrev is_folder_of : Option Entry → Bool
is_folder_of o = option_map_or (λ e. is_folder_kind e.kind) o false

kind_there : (o : Option Entry) (e : Entry) → o ≡ Some e → is_folder_of o ≡ true → e.kind ≡ kind.Folder
kind_there o e there is = folder_kind e.kind (sym (ap is_folder_of there) ∙ is)

none_there : (o : Option Entry) → o ≡ None → is_folder_of o ≡ true → ⊥
none_there o none is = never_both (is_folder_of o) is (ap is_folder_of none)

taken : (t : Tree) (path : List ℕ) (there : Out) → IsReady t path there → IsTaken t path → ⊥
taken t path Empty ready (e, at, inl other) = other (kind_there (entry_at t path) e at ready.0)
taken t path Empty ready (e, at, inr (name, inside, is)) = not_some (get t (parts path ++ name ∷ [])) inside (ready.1 name) is
taken t path Absent ready (e, at, why) = not_some (entry_at t path) e ready.1 at

pub not_taken : (t : Tree) (path : List ℕ) → IsProperOut t path → IsTaken t path → ⊥
not_taken t path (inl ready) is = taken t path Empty ready is
not_taken t path (inr made) is = taken t path Absent made.0 is

pub not_unfit : (t : Tree) (path : List ℕ) → IsProperOut t path → is_fit path ≡ false → ⊥
not_unfit t path (inl ready) unfit = never_both (is_fit path) (fit_of t path Empty ready) unfit
not_unfit t path (inr made) unfit = never_both (is_fit path) (fit_of t path Absent made.0) unfit

not_lacking : (t : Tree) (path : List ℕ) → IsProperOut t path → IsReady t path Absent → has_folder t (above (parts path)) ≡ false → ⊥
not_lacking t path (inl ready) absent lacks = none_there (entry_at t path) absent.1 ready.0
not_lacking t path (inr made) absent lacks = never_both (has_folder t (above (parts path))) made.1 lacks

pub can_write : (t : Tree) (path : List ℕ) → IsProperOut t path → CannotWrite t path → ⊥
can_write t path proper (inl unfit) = not_unfit t path proper unfit
can_write t path proper (inr lacks) = not_lacking t path proper lacks.0 lacks.1

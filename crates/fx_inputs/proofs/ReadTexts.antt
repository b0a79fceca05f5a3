-- The texts of the scripts, read one after another.
use Rattle.std.proofs.Common.{◌≡◌, ℕ, zero, suc, ◌+◌, Bool, true, List, [], ◌∷◌, ◌++◌, length, Option, Some, None, IfSome, refl, sym, ap, ◌∙◌, subst, arith, length-append}
use Rattle.std.specs.Prelude.{slice_get}
use Rattle.std.specs.List.{list_all}
use Rattle.std.proofs.lemmas.Option.{slice_get_within}
use Rattle.fx_base.specs.Limits.{source_limit}
use Rattle.fx_base.proofs.Booleans.{second_true, first_true}
use Rattle.fx_command.specs.Texts.{IsReadAt}
use Rattle.fx_outside.specs.declared.kind.HostFault.{HostFault}
use Rattle.fx_outside.specs.declared.kind.HostFault.TheVariants as fails
use Rattle.fx_outside.specs.Host.{HostView, ReadsOnly, AsksAt, FaultAt, HasFailed}
use Rattle.fx_outside.specs.Tree.{Tree, is_file_at}
use Rattle.fx_outside.proofs.Views.{reads_none, reads_then, failed_at_back}
use Rattle.fx_inputs.specs.ReadTexts.{AreScriptTexts, StopsFor}

abbrev Texts : Type 0
Texts = List (List ℕ)

-- each of the paths that a fence lets through
let_at : (may : List ℕ → Bool) (paths : Texts) (i : ℕ) (path : List ℕ) → slice_get paths i ≡ Some path → list_all may paths ≡ true → may path ≡ true
let_at may [] i path at all = cc
let_at may (p ∷ paths) zero path at all = let same : p ≡ path = cc in subst (λ x. may x ≡ true) same (first_true (may p) (list_all may paths) all)
let_at may (p ∷ paths) (suc i) path at all = let_at may paths i path at (second_true (may p) (list_all may paths) all)

lets_on : (old now : HostView) (paths : Texts) (i : ℕ) (path : List ℕ) → slice_get paths i ≡ Some path → now.guard ≡ old.guard → list_all old.guard.may_read paths ≡ true → now.guard.may_read path ≡ true
lets_on old now paths i path at same all = subst (λ g. g.may_read path ≡ true) (sym same) (let_at old.guard.may_read paths i path at all)

-- between two texts
pub record HasRead (old now : HostView) (paths texts : Texts) (i : ℕ) : Type 0 where
  pub reads : ReadsOnly old now
  pub fit : list_all old.guard.may_read paths ≡ true → now.guard ≡ old.guard
  pub told : IfSome old.told (λ t. AreScriptTexts t paths texts)
  pub count : length texts ≡ i

none_read : (told : Option Tree) (paths : Texts) → IfSome told (λ t. AreScriptTexts t paths [])
none_read None paths = tt
none_read (Some t) paths = λ k path text at there. cc

pub none_yet : (host : HostView) (paths texts : Texts) → texts ≡ [] → HasRead host host paths texts 0
none_yet host paths texts none = subst (λ texts. HasRead host host paths texts 0) (sym none) (record {
  reads = reads_none host;
  fit = λ _. refl;
  told = none_read host.told paths;
  count = refl;
})

-- where reading stops, nothing else was asked either
pub fit_stop : (old now then : HostView) (paths texts : Texts) (i : ℕ) (path : List ℕ) → HasRead old now paths texts i → slice_get paths i ≡ Some path → AsksAt path now then → list_all old.guard.may_read paths ≡ true → then.guard ≡ old.guard
fit_stop old now then paths texts i path was at fit all = fit (lets_on old now paths i path at (was.fit all) all) ∙ was.fit all

-- a text of more: one of those before, or the last
more_at : (t : Tree) (paths texts : Texts) (path text : List ℕ) → AreScriptTexts t paths texts → slice_get paths (length texts) ≡ Some path → IsReadAt t path source_limit text → AreScriptTexts t paths (texts ++ text ∷ [])
more_at t [] texts path text were at read k path' text' at' there = cc
more_at t (p ∷ paths) [] path text were at read zero path' text' at' there =
    let one : path ≡ path' = cc in let two : text ≡ text' = cc in
    subst (λ x. IsReadAt t x source_limit text') one (subst (λ x. IsReadAt t path source_limit x) two read)
more_at t (p ∷ paths) [] path text were at read (suc k) path' text' at' there = cc
more_at t (p ∷ paths) (x ∷ texts) path text were at read zero path' text' at' there = were zero path' text' at' there
more_at t (p ∷ paths) (x ∷ texts) path text were at read (suc k) path' text' at' there =
    more_at t paths texts path text (λ k. were (suc k)) at read k path' text' at' there

more_told : (told told' : Option Tree) (paths texts : Texts) (path text : List ℕ) → told' ≡ told → IfSome told (λ t. AreScriptTexts t paths texts) → slice_get paths (length texts) ≡ Some path → IfSome told' (λ t. IsReadAt t path source_limit text) → IfSome told (λ t. AreScriptTexts t paths (texts ++ text ∷ []))
more_told None told' paths texts path text same were at read = tt
more_told (Some t) told' paths texts path text same were at read = more_at t paths texts path text were at (subst (λ o. IfSome o (λ t. IsReadAt t path source_limit text)) same read)

pub one_more : (old now then : HostView) (paths texts texts' : Texts) (i : ℕ) (path text : List ℕ) → HasRead old now paths texts i → slice_get paths i ≡ Some path → texts' ≡ texts ++ text ∷ [] → ReadsOnly now then → AsksAt path now then → IfSome now.told (λ t. IsReadAt t path source_limit text) → HasRead old then paths texts' (i + 1)
one_more old now then paths texts texts' i path text was at pushed reads fit read = subst (λ x. HasRead old then paths x (i + 1)) (sym pushed) (record {
  reads = reads_then old now then was.reads reads;
  fit = fit_stop old now then paths texts i path was at fit;
  told = more_told old.told now.told paths texts path text was.reads.same was.told (subst (λ n. slice_get paths n ≡ Some path) (sym was.count) at) read;
  count = length-append texts (text ∷ []) ∙ ap (λ n. n + 1) was.count;
})

-- a text that is not read
pub stops_here : (old now then : HostView) (paths texts : Texts) (i : ℕ) (path : List ℕ) (fault : HostFault) → HasRead old now paths texts i → slice_get paths i ≡ Some path → (fault ≡ fails.Failed → HasFailed (FaultAt path) (λ t. is_file_at t path) now then) → StopsFor paths old then (length texts) (Some fault)
stops_here old now then paths texts i path fails.Failed was at failed =
    let within = slice_get_within paths i path at in
    let count = was.count in (
      omega (arith, within, count),
      record {
        path = path;
        is = subst (λ n. slice_get paths n ≡ Some path) (sym was.count) at;
        failed = failed_at_back path (λ t. is_file_at t path) old now then was.reads (failed refl);
      },
    )
stops_here old now then paths texts i path fails.NoMemory was at failed =
    let within = slice_get_within paths i path at in let count = was.count in omega (arith, within, count)

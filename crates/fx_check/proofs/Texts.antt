-- The checks of parameters, definitions and whole texts against what is well shaped.
use Rattle.std.proofs.Common.{◌≡◌, ℕ, append_assoc, All, List, [], ◌∷◌, ◌++◌, Option, Some, None, Ok, refl, sym, ap, subst, ◌∙◌}
use Rattle.std.proofs.lemmas.List.{append-nil}
use Rattle.std.proofs.lemmas.List.Elements.{All-nil, All-cons}
use Rattle.fx_expr.specs.Bindings.{bind}
use Rattle.fx_expr.specs.ShapeTree.{ShapeTree}
use Rattle.fx_spec.specs.Written.{DefTree, TextTree, definition}
use Rattle.fx_spec.specs.WellShaped.{Scope, AreFree, IsWritten, IsDef, AreDefs, written_shape}
use Rattle.fx_check.specs.Faults.{◌>>=◌}
use Rattle.fx_check.specs.Fitting.{IsFitting}
use Rattle.fx_check.specs.Checked.{with_name, checked, with_params, unless_bound, checked_def, checked_defs, checked_text}
use Rattle.fx_check.proofs.Checking.{both, given, Named, name_is_free, free_is_named, is_description, is_checked}

abbrev pub Params : Type 0
Params = List (List ℕ × ShapeTree)

-- ---- parameters

pub params_are_free : (g : Scope) (ps : Params) (s : Scope) → with_params g ps ≡ Ok s → AreFree g ps × (s ≡ g ++ ps)
params_are_free g [] s h = (tt, let same : g ≡ s = cc in sym same ∙ sym (append-nil g))
params_are_free g (p ∷ ps) s h =
    let x = both (with_name g p.0 p.1) (λ inner. with_params inner ps) s h in
    let name : Named g p.0 p.1 x.first = name_is_free g p.0 p.1 x.first x.is in
    let rest : AreFree x.first ps × (s ≡ x.first ++ ps) = params_are_free x.first ps s x.then in
    ((name.free, subst (λ (t : Scope). AreFree t ps) name.is rest.0), rest.1 ∙ ap (λ t. t ++ ps) name.is ∙ append_assoc g ((p.0, p.1) ∷ []) ps)

pub free_params : (g : Scope) (ps : Params) → AreFree g ps → with_params g ps ≡ Ok (g ++ ps)
free_params g [] h = ap (λ t. Ok t) (sym (append-nil g))
free_params g (p ∷ ps) h =
    given (with_name g p.0 p.1) (λ inner. with_params inner ps) (bind g p.0 p.1) (free_is_named g p.0 p.1 h.0)
    ∙ free_params (bind g p.0 p.1) ps h.1
    ∙ ap (λ t. Ok t) (append_assoc g ((p.0, p.1) ∷ []) ps)

-- ---- definitions

pub not_defined : (f : List ℕ) (o : Option DefTree) (d given : DefTree) → unless_bound f o d ≡ Ok given → o ≡ None
not_defined f None d given h = refl
not_defined f (Some found) d given h = absurd (cc)

pub def_is : (defs before : List DefTree) (d : DefTree) (s : ShapeTree) → checked_def defs before d ≡ Ok s → IsDef before defs d × (s ≡ written_shape d.body)
def_is defs before d s h =
    let x = both (unless_bound d.name (definition d.name before) d) (λ _. with_params [] d.params >>= λ scope. checked defs scope d.body) s h in
    let y = both (with_params [] d.params) (λ scope. checked defs scope d.body) s x.then in
    let params : AreFree [] d.params × (y.first ≡ d.params) = params_are_free [] d.params y.first y.is in
    let body : IsWritten defs y.first d.body × (s ≡ written_shape d.body) = is_description defs y.first d.body s y.then in (
      record {
        new = not_defined d.name (definition d.name before) d x.first x.is;
        params = params.0;
        body = subst (λ (g : Scope). IsWritten defs g d.body) params.1 body.0;
      },
      body.1,
    )

pub is_def : (defs before : List DefTree) (d : DefTree) → IsDef before defs d → checked_def defs before d ≡ Ok (written_shape d.body)
is_def defs before d h =
    given (unless_bound d.name (definition d.name before) d) (λ _. with_params [] d.params >>= λ scope. checked defs scope d.body) d
    (ap (λ o. unless_bound d.name o d) h.new)
    ∙ given (with_params [] d.params) (λ scope. checked defs scope d.body) d.params (free_params [] d.params h.params)
    ∙ is_checked defs d.params d.body h.body

pub defs_are : (defs before rest found : List DefTree) → checked_defs defs before rest ≡ Ok found → AreDefs defs before rest
defs_are defs before [] found h = tt
defs_are defs before (d ∷ rest) found h =
    let x = both (checked_def defs before d) (λ _. checked_defs defs (before ++ d ∷ []) rest) found h in
    ((def_is defs before d x.first x.is).0, defs_are defs (before ++ d ∷ []) rest found x.then)

pub are_defs : (defs before rest : List DefTree) → AreDefs defs before rest → checked_defs defs before rest ≡ Ok (before ++ rest)
are_defs defs before [] h = ap (λ l. Ok l) (sym (append-nil before))
are_defs defs before (d ∷ rest) h =
    given (checked_def defs before d) (λ _. checked_defs defs (before ++ d ∷ []) rest) (written_shape d.body) (is_def defs before d h.0)
    ∙ are_defs defs (before ++ d ∷ []) rest h.1
    ∙ ap (λ l. Ok l) (append_assoc before (d ∷ []) rest)

pub defs_fit : (defs before rest : List DefTree) → AreDefs defs before rest → All IsFitting rest
defs_fit defs before [] h = All-nil IsFitting
defs_fit defs before (d ∷ rest) h =
    All-cons IsFitting d rest (record { defs = defs; scope = d.params; body = h.0.body }) (defs_fit defs (before ++ d ∷ []) rest h.1)

-- ---- texts

pub text_is : (t : TextTree) (s : ShapeTree) → checked_text t ≡ Ok s → AreDefs t.defs [] t.defs × IsWritten t.defs [] t.root × (s ≡ written_shape t.root)
text_is t s h =
    let x = both (checked_defs t.defs [] t.defs) (λ _. checked t.defs [] t.root) s h in
    let root : IsWritten t.defs [] t.root × (s ≡ written_shape t.root) = is_description t.defs [] t.root s x.then in
    (defs_are t.defs [] t.defs x.first x.is, root.0, root.1)

pub is_text : (t : TextTree) → AreDefs t.defs [] t.defs → IsWritten t.defs [] t.root → checked_text t ≡ Ok (written_shape t.root)
is_text t defs root =
    given (checked_defs t.defs [] t.defs) (λ _. checked t.defs [] t.root) t.defs (are_defs t.defs [] t.defs defs) ∙ is_checked t.defs [] t.root root

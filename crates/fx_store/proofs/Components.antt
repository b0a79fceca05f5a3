-- Components of a path or of a link text, of which each that is an entry has a name.
use Rattle.std.proofs.Common.{◌≡◌, Bool, true, false, cond, ◌&&◌, ◌||◌, refl, sym, ◌∙◌, ℕ, List, [], ◌∷◌, ◌++◌, map, length, nat_lt, nat_le, bytes_eq, codes}
use Rattle.std.specs.List.{All, list_all}
use Rattle.std.proofs.lemmas.Bool.{true≢false}
use Rattle.std.proofs.lemmas.List.Elements.{All-head, All-tail}
use Rattle.fx_base.proofs.Booleans.{third_true}
use Rattle.fx_store.specs.Names.{is_name, IsName, IsLinkText, is_component, components}
use Rattle.fx_store.specs.Resolve.{Component, CurDir, ParentDir, Normal, component_of, components_of}

-- each component that is an entry has a name
abbrev pub AreNamed : List Component → Type 0
AreNamed [] = Unit {0}
AreNamed (CurDir ∷ rest) = AreNamed rest
AreNamed (ParentDir ∷ rest) = AreNamed rest
AreNamed (Normal n ∷ rest) = IsName n × AreNamed rest

pub named_append : (a b : List Component) → AreNamed a → AreNamed b → AreNamed (a ++ b)
named_append [] b x y = y
named_append (CurDir ∷ a) b x y = named_append a b x y
named_append (ParentDir ∷ a) b x y = named_append a b x y
named_append (Normal n ∷ a) b x y = (x.0, named_append a b x.1 y)

-- the components of a link text are names, or lead nowhere else
component_named : (c : List ℕ) (rest : List Component) → is_component c ≡ true → AreNamed rest → AreNamed (component_of c ∷ rest)
component_named c rest e are = at (bytes_eq c (codes ".")) (bytes_eq c (codes "..")) refl refl
  where
    at : (a b : Bool) → bytes_eq c (codes ".") ≡ a → bytes_eq c (codes "..") ≡ b → AreNamed (cond a CurDir (cond b ParentDir (Normal c)) ∷ rest)
    at true b f g = are
    at false true f g = are
    at false false f g = (plain (is_name c) refl, are)
      where
        plain : (b : Bool) → is_name c ≡ b → is_name c ≡ true
        plain true h = h
        plain false h = absurd (true≢false (sym e ∙ (λ i. h i || f i || g i)))

components_named : (parts : List (List ℕ)) → list_all is_component parts ≡ true → AreNamed (map component_of parts)
components_named [] e = tt
components_named (c ∷ parts) e = at (is_component c) refl e (components_named parts)
  where
    at : (b : Bool) → is_component c ≡ b → (b && list_all is_component parts) ≡ true → (list_all is_component parts ≡ true → AreNamed (map component_of parts)) → AreNamed (component_of c ∷ map component_of parts)
    at true f h rest = component_named c (map component_of parts) f (rest h)
    at false f h rest = absurd (true≢false (sym h))

pub link_named : (text : List ℕ) → IsLinkText text → AreNamed (components_of text)
link_named text is = components_named (components text) (third_true (nat_lt 0 (length text)) (nat_le (length text) 4096) (list_all is_component (components text)) is.form)

pub path_named : (p : List (List ℕ)) → All IsName p → AreNamed (map Normal p)
path_named [] all = tt
path_named (n ∷ p) all = (All-head IsName n p all, path_named p (All-tail IsName n p all))

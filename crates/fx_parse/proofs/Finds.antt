-- What is found passes the test, and a name is a word that is not found among the kept words.
use Rattle.std.proofs.Common.{◌≡◌, ℕ, Bool, true, false, not, cond, ◌||◌, inl, inr, Option, Some, is_none, List, [], ◌∷◌, map, refl, sym, ap, ◌∙◌}
use Rattle.std.specs.Prelude.{find, bytes_eq}
use Rattle.std.specs.List.{list_any}
use Rattle.std.proofs.lemmas.Bool.{cases_Bool, cond-true, cond-false}
use Rattle.fx_parse.specs.declared.keyword.Keyword.{Keyword}
use Rattle.fx_parse.specs.Grammars.{is_name}
use Rattle.fx_parse.specs.Keywords.{keyword_bytes, keyword_of, keywords, found_in}

pub found_passes : (p : Keyword → Bool) (ks : List Keyword) (k : Keyword) → find p ks ≡ Some k → p k ≡ true
found_passes p [] k e = absurd cc
found_passes p (x ∷ ks) k e = elim (cases_Bool (p x)) [
  | inl here ↦
      let both : Some x ≡ Some k = sym (cond-true (p x) (Some x) (find p ks) here) ∙ e in
      let same : x ≡ k = cc in
      ap p (sym same) ∙ here
  | inr there ↦ found_passes p ks k (sym (cond-false (p x) (Some x) (find p ks) there) ∙ e)
]

one_or : (b a : Bool) (k : Keyword) (o : Option Keyword) → not a ≡ is_none o → not (b || a) ≡ is_none (cond b (Some k) o)
one_or true a k o h = refl
one_or false a k o h = h

none_of : (ks : List Keyword) (w : List ℕ) → not (list_any (λ kept. bytes_eq kept w) (map keyword_bytes ks)) ≡ is_none (found_in ks w)
none_of [] w = refl
none_of (k ∷ ks) w = one_or (bytes_eq (keyword_bytes k) w) (list_any (λ kept. bytes_eq kept w) (map keyword_bytes ks)) k (found_in ks w) (none_of ks w)

pub is_no_keyword : (w : List ℕ) → is_name w ≡ is_none (keyword_of w)
is_no_keyword w = none_of keywords w

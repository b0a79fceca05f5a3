-- Only kept words that begin as the bytes do can be the bytes.
use Rattle.std.proofs.Common.{◌≡◌, ℕ, ◌<◌, Option, Some, None, List, [], ◌∷◌, length, get_or, refl, sym, ap, ◌∙◌, arith}
use Rattle.std.specs.Prelude.{nat_eq}
use Rattle.std.specs.Cmp.Lexicographic.{pointwise}
use Rattle.fx_base.proofs.Orders.{nat_list_exact}
use Rattle.fx_parse.specs.declared.keyword.Keyword.{Keyword}
use Rattle.fx_parse.specs.declared.keyword.Keyword.TheVariants.{File, Dir, Link, Opt, Pred, In, Only, If, Else, And, Or, Not, Union, Minus, One, Lines, Size, Int, Text, First, Second, Keys, Present, True, False, Empty, Txn, Into, To, Next, Prev, Out, Down, Up, Top, Let, Set, Fetch, Value, Validate, Print, Store, Create, Remove, Try, Each, Abort, Str, Bool, Names, Pair, Table}
use Rattle.fx_parse.specs.Beginnings.{beginning_with}
use Rattle.fx_parse.specs.Keywords.{keywords, keyword_bytes, keyword_of, found_in}
use Rattle.fx_parse.proofs.Finds.{found_passes}
use Rattle.fx_parse.proofs.KeywordLaws.{keyword_again}

abbrev by_first : List ℕ → Option Keyword
by_first [] = None
by_first (b ∷ rest) = found_in (beginning_with b) (b ∷ rest)

first_again : (k : Keyword) → by_first (keyword_bytes k) ≡ Some k
first_again File = refl
first_again Dir = refl
first_again Link = refl
first_again Opt = refl
first_again Pred = refl
first_again In = refl
first_again Only = refl
first_again If = refl
first_again Else = refl
first_again And = refl
first_again Or = refl
first_again Not = refl
first_again Union = refl
first_again Minus = refl
first_again One = refl
first_again Lines = refl
first_again Size = refl
first_again Int = refl
first_again Text = refl
first_again First = refl
first_again Second = refl
first_again Keys = refl
first_again Present = refl
first_again True = refl
first_again False = refl
first_again Empty = refl
first_again Txn = refl
first_again Into = refl
first_again To = refl
first_again Next = refl
first_again Prev = refl
first_again Out = refl
first_again Down = refl
first_again Up = refl
first_again Top = refl
first_again Let = refl
first_again Set = refl
first_again Fetch = refl
first_again Value = refl
first_again Validate = refl
first_again Print = refl
first_again Store = refl
first_again Create = refl
first_again Remove = refl
first_again Try = refl
first_again Each = refl
first_again Abort = refl
first_again Str = refl
first_again Bool = refl
first_again Names = refl
first_again Pair = refl
first_again Table = refl

spelled : (word : List ℕ) (ks : List Keyword) (k : Keyword) → found_in ks word ≡ Some k → keyword_bytes k ≡ word
spelled word ks k e = nat_list_exact (keyword_bytes k) word (found_passes (λ k. pointwise nat_eq (keyword_bytes k) word) ks k e)

pub first_is : (word : List ℕ) → 0 < length word → found_in (beginning_with (get_or word 0 0)) word ≡ keyword_of word
first_is [] some = absurd (omega (arith, some))
first_is (b ∷ rest) some = of (by_first (b ∷ rest)) (keyword_of (b ∷ rest)) refl refl
  where
    of : (r s : Option Keyword) → by_first (b ∷ rest) ≡ r → keyword_of (b ∷ rest) ≡ s → r ≡ s
    of (Some k) s e f = sym (keyword_again k) ∙ ap keyword_of (spelled (b ∷ rest) (beginning_with b) k e) ∙ f
    of None (Some k) e f = sym e ∙ ap by_first (sym (spelled (b ∷ rest) keywords k f)) ∙ first_again k
    of None None e f = refl

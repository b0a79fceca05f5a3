-- A kept word is found by its bytes, and no other bytes are one.
use Rattle.std.proofs.Common.{◌≡◌, Some, refl}
use Rattle.fx_parse.specs.declared.keyword.Keyword.{Keyword}
use Rattle.fx_parse.specs.declared.keyword.Keyword.TheVariants.{File, Dir, Link, Opt, Pred, In, Only, If, Else, And, Or, Not, Union, Minus, One, Lines, Size, Int, Text, First, Second, Keys, Present, True, False, Empty, Txn, Into, To, Next, Prev, Out, Down, Up, Top, Let, Set, Fetch, Value, Validate, Print, Store, Create, Remove, Try, Each, Abort, Str, Bool, Names, Pair, Table}
use Rattle.fx_parse.specs.Keywords.{keyword_bytes, keyword_of}

pub keyword_again : (k : Keyword) → keyword_of (keyword_bytes k) ≡ Some k
keyword_again File = refl
keyword_again Dir = refl
keyword_again Link = refl
keyword_again Opt = refl
keyword_again Pred = refl
keyword_again In = refl
keyword_again Only = refl
keyword_again If = refl
keyword_again Else = refl
keyword_again And = refl
keyword_again Or = refl
keyword_again Not = refl
keyword_again Union = refl
keyword_again Minus = refl
keyword_again One = refl
keyword_again Lines = refl
keyword_again Size = refl
keyword_again Int = refl
keyword_again Text = refl
keyword_again First = refl
keyword_again Second = refl
keyword_again Keys = refl
keyword_again Present = refl
keyword_again True = refl
keyword_again False = refl
keyword_again Empty = refl
keyword_again Txn = refl
keyword_again Into = refl
keyword_again To = refl
keyword_again Next = refl
keyword_again Prev = refl
keyword_again Out = refl
keyword_again Down = refl
keyword_again Up = refl
keyword_again Top = refl
keyword_again Let = refl
keyword_again Set = refl
keyword_again Fetch = refl
keyword_again Value = refl
keyword_again Validate = refl
keyword_again Print = refl
keyword_again Store = refl
keyword_again Create = refl
keyword_again Remove = refl
keyword_again Try = refl
keyword_again Each = refl
keyword_again Abort = refl
keyword_again Str = refl
keyword_again Bool = refl
keyword_again Names = refl
keyword_again Pair = refl
keyword_again Table = refl

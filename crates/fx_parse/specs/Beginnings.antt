-- The kept words by their first byte.
use Rattle.std.specs.Prelude.{ℕ, List, [], ◌∷◌, ◌==◌, if◌then◌else◌}
use Rattle.fx_parse.specs.declared.keyword.Keyword.{Keyword}
use Rattle.fx_parse.specs.declared.keyword.Keyword.TheVariants.{File, Dir, Link, Opt, Pred, In, Only, If, Else, And, Or, Not, Union, Minus, One, Lines, Size, Int, Text, First, Second, Keys, Present, True, False, Empty, Txn, Into, To, Next, Prev, Out, Down, Up, Top, Let, Set, Fetch, Value, Validate, Print, Store, Create, Remove, Try, Each, Abort, Str, Bool, Names, Pair, Table}

-- the kept words that begin with this byte
abbrev pub beginning_with : ℕ → List Keyword
beginning_with b =
    if b == 97 then And ∷ Abort ∷ []
    else (if b == 98 then Bool ∷ []
    else (if b == 99 then Create ∷ []
    else (if b == 100 then Dir ∷ Down ∷ []
    else (if b == 101 then Each ∷ Else ∷ Empty ∷ []
    else (if b == 102 then File ∷ Fetch ∷ First ∷ False ∷ []
    else (if b == 105 then In ∷ Int ∷ If ∷ Into ∷ []
    else (if b == 107 then Keys ∷ []
    else (if b == 108 then Let ∷ Link ∷ Lines ∷ []
    else (if b == 109 then Minus ∷ []
    else (if b == 110 then Next ∷ Not ∷ Names ∷ []
    else (if b == 111 then Or ∷ Out ∷ Opt ∷ One ∷ Only ∷ []
    else (if b == 112 then Pair ∷ Prev ∷ Pred ∷ Print ∷ Present ∷ []
    else (if b == 114 then Remove ∷ []
    else (if b == 115 then Str ∷ Store ∷ Set ∷ Size ∷ Second ∷ []
    else (if b == 116 then To ∷ Txn ∷ Text ∷ Top ∷ Try ∷ True ∷ Table ∷ []
    else (if b == 117 then Union ∷ Up ∷ []
    else (if b == 118 then Value ∷ Validate ∷ []
    else [])))))))))))))))))

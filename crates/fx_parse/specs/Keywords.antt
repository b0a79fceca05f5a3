-- The words that the language keeps for itself.
use Rattle.std.specs.Prelude.{ℕ, Option, List, [], ◌∷◌, ◌++◌, ◌==◌, codes, find, nat_eq}
use Rattle.std.specs.Cmp.Lexicographic.{pointwise}
use Rattle.std.specs.List.{slice_split}
use Rattle.fx_lex.specs.declared.token.Token.{Token}
use Rattle.fx_lex.specs.declared.token.Token.TheVariants as token
use Rattle.fx_parse.specs.declared.keyword.Keyword.{Keyword}
use Rattle.fx_parse.specs.declared.keyword.Keyword.TheVariants.{File, Dir, Link, Opt, Pred, In, Only, If, Else, And, Or, Not, Union, Minus, One, Lines, Size, Int, Text, First, Second, Keys, Present, True, False, Empty, Txn, Into, To, Next, Prev, Out, Down, Up, Top, Let, Set, Fetch, Value, Validate, Print, Store, Create, Remove, Try, Each, Abort, Str, Bool, Names, Pair, Table}

-- each of them, with a space between each two
abbrev pub kept_words : List (List ℕ)
kept_words =
    slice_split (λ b. b == 32)
    (codes "file dir link opt pred in only if else and or not union minus one lines size int text first second keys "
    ++ codes "present true false empty txn into to next prev out down up top let set fetch value validate print store "
    ++ codes "create remove try each abort str bool names pair table")

-- a kept word in bytes
abbrev pub keyword_bytes : Keyword → List ℕ
keyword_bytes File = codes "file"
keyword_bytes Dir = codes "dir"
keyword_bytes Link = codes "link"
keyword_bytes Opt = codes "opt"
keyword_bytes Pred = codes "pred"
keyword_bytes In = codes "in"
keyword_bytes Only = codes "only"
keyword_bytes If = codes "if"
keyword_bytes Else = codes "else"
keyword_bytes And = codes "and"
keyword_bytes Or = codes "or"
keyword_bytes Not = codes "not"
keyword_bytes Union = codes "union"
keyword_bytes Minus = codes "minus"
keyword_bytes One = codes "one"
keyword_bytes Lines = codes "lines"
keyword_bytes Size = codes "size"
keyword_bytes Int = codes "int"
keyword_bytes Text = codes "text"
keyword_bytes First = codes "first"
keyword_bytes Second = codes "second"
keyword_bytes Keys = codes "keys"
keyword_bytes Present = codes "present"
keyword_bytes True = codes "true"
keyword_bytes False = codes "false"
keyword_bytes Empty = codes "empty"
keyword_bytes Txn = codes "txn"
keyword_bytes Into = codes "into"
keyword_bytes To = codes "to"
keyword_bytes Next = codes "next"
keyword_bytes Prev = codes "prev"
keyword_bytes Out = codes "out"
keyword_bytes Down = codes "down"
keyword_bytes Up = codes "up"
keyword_bytes Top = codes "top"
keyword_bytes Let = codes "let"
keyword_bytes Set = codes "set"
keyword_bytes Fetch = codes "fetch"
keyword_bytes Value = codes "value"
keyword_bytes Validate = codes "validate"
keyword_bytes Print = codes "print"
keyword_bytes Store = codes "store"
keyword_bytes Create = codes "create"
keyword_bytes Remove = codes "remove"
keyword_bytes Try = codes "try"
keyword_bytes Each = codes "each"
keyword_bytes Abort = codes "abort"
keyword_bytes Str = codes "str"
keyword_bytes Bool = codes "bool"
keyword_bytes Names = codes "names"
keyword_bytes Pair = codes "pair"
keyword_bytes Table = codes "table"

-- every kept word
abbrev pub keywords : List Keyword
keywords =
    File ∷ Dir ∷ Link ∷ Opt ∷ Pred ∷ In ∷ Only ∷ If ∷ Else ∷ And ∷ Or ∷ Not ∷ Union ∷
    Minus ∷ One ∷ Lines ∷ Size ∷ Int ∷ Text ∷ First ∷ Second ∷ Keys ∷ Present ∷ True ∷ False ∷ Empty ∷
    Txn ∷ Into ∷ To ∷ Next ∷ Prev ∷ Out ∷ Down ∷ Up ∷ Top ∷ Let ∷ Set ∷ Fetch ∷ Value ∷
    Validate ∷ Print ∷ Store ∷ Create ∷ Remove ∷ Try ∷ Each ∷ Abort ∷ Str ∷ Bool ∷ Names ∷ Pair ∷ Table ∷ []

-- the one of these words that bytes are
abbrev pub found_in : List Keyword → List ℕ → Option Keyword
found_in words word = find (λ keyword. pointwise nat_eq (keyword_bytes keyword) word) words

-- the kept word that bytes are
abbrev pub keyword_of : List ℕ → Option Keyword
keyword_of word = found_in keywords word

-- the token of a kept word
abbrev pub word : Keyword → Token
word k = token.Word (keyword_bytes k)

-- What an expression gives in an environment: a value, or the fault of the first part that has one. The parts of an
-- operator are taken from left to right. Where a value has not the shape that its operator takes, which no well-shaped
-- expression meets, a default stands in for it.
use Rattle.std.specs.Prelude.{ℕ, ◌+◌, ◌-◌, ◌^◌, ℤ, pos, negsuc, ◌+ℤ◌, ◌-ℤ◌, neg_ℤ, int_lt, Bool, true, false, cond, not, ◌&&◌, List, [], ◌∷◌, ◌++◌, map, take, drop, length, slice_index, nat_eq, nat_lt, nat_le, Option, Some, None, Result, Ok, Err}
use Rattle.std.specs.List.{filter, slice_split}
use Rattle.std.specs.Option.{unwrap_or}
use Rattle.std.specs.Cmp.Lexicographic.{pointwise, slice_cmp}
use Rattle.std.specs.Ordering.{is_lt, int_eq, nat_cmp}
use Rattle.std.specs.Str.{all_ascii_digits}
use Rattle.std.specs.Str.Parse.{digits_value, starts_with_minus}
use Rattle.std.specs.Fmt.{signed_decimal}
use Rattle.fx_expr.specs.declared.expr.BinOp.{BinOp}
use Rattle.fx_expr.specs.declared.expr.UnOp.{UnOp}
use Rattle.fx_expr.specs.declared.fault.ExprFault.{ExprFault}
use Rattle.fx_expr.specs.declared.fault.ExprFault.TheVariants.{TooLong, Overflow, NotNumber}
use Rattle.fx_text.specs.declared.set.TheConstants.{UNION_LIMIT}
use Rattle.fx_text.specs.declared.text.TheConstants.{TEXT_LIMIT}
use Rattle.fx_expr.specs.Bindings.{bound}
use Rattle.fx_expr.specs.Globs.{glob_matches}
use Rattle.fx_text.specs.Sets.{has_text, set_of, weight, without}
use Rattle.fx_expr.specs.Tree.{Tree, entries}
use Rattle.fx_expr.specs.ExprTree.{ExprTree}

abbrev pub Outcome : Type 0
Outcome = Result Tree ExprFault

-- the parts of a value, with a default for a value of another shape
abbrev pub text_in : Tree → List ℕ
text_in (Tree.str text) = text
text_in _ = []

abbrev pub integer_in : Tree → ℤ
integer_in (Tree.int n) = n
integer_in _ = pos 0

abbrev pub truth_in : Tree → Bool
truth_in (Tree.bool b) = b
truth_in _ = false

abbrev pub names_in : Tree → List (List ℕ)
names_in (Tree.names names) = names
names_in _ = []

abbrev pub first_in : Tree → Tree
first_in (Tree.pair a b) = a
first_in v = v

abbrev pub second_in : Tree → Tree
second_in (Tree.pair a b) = b
second_in v = v

abbrev pub entries_in : Tree → List (List ℕ × Tree)
entries_in (Tree.table rows) = entries rows
entries_in _ = []

abbrev pub is_some_in : Tree → Bool
is_some_in (Tree.some v) = true
is_some_in _ = false

abbrev pub size_in : Tree → ℕ
size_in (Tree.str text) = length text
size_in (Tree.names names) = length names
size_in _ = 0

-- one text after another; TooLong above the limit of a text
abbrev pub joined : List ℕ → List ℕ → Outcome
joined a b = cond (nat_le (length a + length b) TEXT_LIMIT) (Ok (Tree.str (a ++ b))) (Err TooLong)

-- whether the integer is one of 64 bits, from -2^63 to 2^63 - 1
abbrev pub fits_64 : ℤ → Bool
fits_64 (pos n) = nat_lt n (2 ^ 63)
fits_64 (negsuc n) = nat_lt n (2 ^ 63)

-- the integer; Overflow where it does not fit
abbrev pub in_range : ℤ → Outcome
in_range n = cond (fits_64 n) (Ok (Tree.int n)) (Err Overflow)

-- equality of two texts, integers, truth values or sets
abbrev pub same_value : Tree → Tree → Bool
same_value (Tree.str a) v = pointwise nat_eq a (text_in v)
same_value (Tree.int a) v = int_eq a (integer_in v)
same_value (Tree.bool a) v = cond a (truth_in v) (not (truth_in v))
same_value (Tree.names a) v = pointwise (pointwise nat_eq) a (names_in v)
same_value _ v = false

-- the order of two texts, by bytes, or of two integers
abbrev pub is_less : Tree → Tree → Bool
is_less (Tree.str a) v = is_lt (slice_cmp nat_cmp a (text_in v))
is_less (Tree.int a) v = int_lt a (integer_in v)
is_less _ v = false

-- the union of two sets; TooLong above the limit of its weight
abbrev pub united : List (List ℕ) → List (List ℕ) → Outcome
united a b = let both = set_of (a ++ b) in cond (nat_le (weight both) UNION_LIMIT) (Ok (Tree.names both)) (Err TooLong)

-- the pieces between line feeds, without the empty ones
abbrev pub pieces : List ℕ → List (List ℕ)
pieces text = filter (λ piece. nat_lt 0 (length piece)) (slice_split (λ b. nat_eq b 10) text)

-- the text without one line feed at its end
abbrev pub without_line_feed : List ℕ → List ℕ
without_line_feed text = cond (nat_eq (slice_index text (length text - 1)) 10) (take (length text - 1) text) text

-- an optional `-` and one or more digits
abbrev pub digits_in : List ℕ → List ℕ
digits_in numeral = cond (starts_with_minus numeral) (drop 1 numeral) numeral

abbrev pub is_numeral : List ℕ → Bool
is_numeral numeral = nat_lt 0 (length (digits_in numeral)) && all_ascii_digits (digits_in numeral)

abbrev pub numeral_value : List ℕ → ℤ
numeral_value numeral = let value = pos (digits_value 10 (digits_in numeral)) in cond (starts_with_minus numeral) (neg_ℤ value) value

-- a numeral of an integer of 64 bits
abbrev pub spells_64 : List ℕ → Bool
spells_64 numeral = is_numeral numeral && fits_64 (numeral_value numeral)

-- the integer that the text spells; NotNumber where it spells none that fits
abbrev pub read_integer : List ℕ → Outcome
read_integer text = let numeral = without_line_feed text in cond (spells_64 numeral) (Ok (Tree.int (numeral_value numeral))) (Err NotNumber)

-- the value that an operator's first part decides alone
abbrev pub decided : BinOp → Tree → Option Tree
decided BinOp.And v = cond (truth_in v) None (Some (Tree.bool false))
decided BinOp.Or v = cond (truth_in v) (Some (Tree.bool true)) None
decided _ v = None

-- what an operator gives of two values
abbrev pub two : BinOp → Tree → Tree → Outcome
two BinOp.Join v w = joined (text_in v) (text_in w)
two BinOp.Plus v w = in_range (integer_in v +ℤ integer_in w)
two BinOp.Minus v w = in_range (integer_in v -ℤ integer_in w)
two BinOp.Equal v w = Ok (Tree.bool (same_value v w))
two BinOp.Less v w = Ok (Tree.bool (is_less v w))
two BinOp.And v w = Ok (Tree.bool (truth_in w))
two BinOp.Or v w = Ok (Tree.bool (truth_in w))
two BinOp.Member v w = Ok (Tree.bool (has_text (text_in v) (names_in w)))
two BinOp.Union v w = united (names_in v) (names_in w)
two BinOp.Without v w = Ok (Tree.names (without (names_in v) (names_in w)))

-- what an operator gives of one value
abbrev pub one : UnOp → Tree → Outcome
one UnOp.Not v = Ok (Tree.bool (not (truth_in v)))
one UnOp.One v = Ok (Tree.names (text_in v ∷ []))
one UnOp.Lines v = Ok (Tree.names (set_of (pieces (text_in v))))
one UnOp.Size v = Ok (Tree.int (pos (size_in v)))
one UnOp.Int v = read_integer (text_in v)
one UnOp.Text v = Ok (Tree.str (signed_decimal (integer_in v)))
one UnOp.First v = Ok (first_in v)
one UnOp.Second v = Ok (second_in v)
one UnOp.Keys v = Ok (Tree.names (map (λ e. e.0) (entries_in v)))
one UnOp.Present v = Ok (Tree.bool (is_some_in v))

abbrev pub then_on : Outcome → (Tree → Outcome) → Outcome
then_on (Ok v) next = next v
then_on (Err f) next = Err f

abbrev pub unless : Option Tree → Outcome → Outcome
unless None other = other
unless (Some v) other = Ok v

abbrev pub eval_of : List (List ℕ × Tree) → ExprTree → Outcome
eval_of env (ExprTree.str text) = Ok (Tree.str text)
eval_of env (ExprTree.int n) = Ok (Tree.int n)
eval_of env (ExprTree.bool b) = Ok (Tree.bool b)
eval_of env ExprTree.empty = Ok (Tree.names [])
eval_of env (ExprTree.var word) = Ok (unwrap_or (bound env word) (Tree.bool false))
eval_of env (ExprTree.bin op a b) = then_on (eval_of env a) λ v. unless (decided op v) (then_on (eval_of env b) λ w. two op v w)
eval_of env (ExprTree.un op a) = then_on (eval_of env a) λ v. one op v
eval_of env (ExprTree.choose c a b) = then_on (eval_of env c) λ v. cond (truth_in v) (eval_of env a) (eval_of env b)
eval_of env (ExprTree.only a glob) = then_on (eval_of env a) λ v. Ok (Tree.names (filter (λ x. glob_matches glob x) (names_in v)))

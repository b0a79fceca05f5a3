-- The texts of a number: the description, and eight scripts of 200 transactions each.
use Rattle.std.specs.Prelude.{ℕ, zero, suc, ◌+◌, ◌*◌, ◌==◌, if◌then◌else◌, List, ◌++◌, map, codes}
use Rattle.std.specs.Fmt.{decimal}
use Rattle.std.specs.List.{flat_map, range_with_len}
use Rattle.fx_gen.specs.Draws.{draw}
use Rattle.fx_gen.specs.Notes.{two_digits}

-- each project that the list names has a count, a log and notes; besides there is the link to one
abbrev pub description : List ℕ
description =
    codes "<c : (\"config\" :: file), <t : {(p :: <n : (\"count\" :: file), <l : (\"log\" :: dir), (\"notes\" :: dir)>>) | p in lines(c)}, (\"current\" :: link)>>\n"

-- a transaction goes to a project
abbrev pub front : ℕ → List ℕ
front p = codes "txn { into next into to(\"p" ++ two_digits p ++ codes "\") down "

-- there it counts
unfoldable pub count_line : ℕ → List ℕ
count_line p = front p ++ codes "into down fetch n : str store(text((int(n) + 1))) }\n"

-- or logs a name, which tells its script and its own place
abbrev pub tag : ℕ → ℕ → List ℕ
tag k j = codes "s" ++ decimal k ++ codes "t" ++ decimal j

unfoldable pub log_line : ℕ → ℕ → ℕ → List ℕ
log_line p k j = front p ++ codes "into next into down fetch l : names store((l union one(\"" ++ tag k j ++ codes "\"))) }\n"

-- the transactions are numbered through all scripts: number t has the two draws from place 257 + 2 * t on, the first of
-- which is its project, and the second its kind, of 0 to 3
unfoldable pub project_of : ℕ → ℕ → ℕ
project_of number t = draw number (257 + 2 * t) 16

unfoldable pub kind_of : ℕ → ℕ → ℕ
kind_of number t = draw number (258 + 2 * t) 4

-- kind 3 logs, the others count
abbrev pub script_line : ℕ → ℕ → ℕ → ℕ → List ℕ
script_line kind p k j = if kind == 3 then log_line p k j else count_line p

abbrev pub txn_line : ℕ → ℕ → ℕ → List ℕ
txn_line number k j = script_line (kind_of number (200 * k + j)) (project_of number (200 * k + j)) k j

-- the lines of the first n transactions of a script, one after another
unfoldable pub first_lines : ℕ → ℕ → ℕ → List ℕ
first_lines number k n = flat_map (txn_line number k) (range_with_len 0 n)

abbrev pub generated_script : ℕ → ℕ → List ℕ
generated_script number k = first_lines number k 200

-- the first n scripts
unfoldable pub scripts_to : ℕ → ℕ → List (List ℕ)
scripts_to number n = map (generated_script number) (range_with_len 0 n)

abbrev pub generated_scripts : ℕ → List (List ℕ)
generated_scripts number = scripts_to number 8

-- how many of the first transactions log
unfoldable pub logging_of : ℕ → ℕ → ℕ
logging_of number zero = 0
logging_of number (suc t) = logging_of number t + (if kind_of number t == 3 then 1 else 0)

-- how many of them count
unfoldable pub counting_of : ℕ → ℕ → ℕ
counting_of number zero = 0
counting_of number (suc t) = counting_of number t + (if kind_of number t == 3 then 0 else 1)

use Rattle.std.proofs.Common.{◌≡◌, List, ℕ, [], ◌++◌, codes, arith, append_assoc, append-nil}
use Rattle.std.specs.Fmt.{decimal}
use Rattle.std.specs.List.{flat_map}
use Rattle.fx_store.specs.Names.{path_text}
use Rattle.std.proofs.lemmas.List.{drop_all}
use Rattle.fx_report.specs.Events.{conflict_line}
use Rattle.fx_report.specs.Print.{quote, spelled}
use Rattle.fx_report.specs.Report.{field}
use Rattle.fx_report.proofs.lines.write_conflict.Goals as goal

pieces : (l s b n q p f : List ℕ) → (l ++ s) ++ ((b ++ n) ++ ((b ++ q) ++ (p ++ ((q ++ f) ++ [])))) ≡ ((l ++ s) ++ (b ++ n) ++ b ++ (q ++ p ++ q)) ++ f
pieces l s b n q p f = simp (append_assoc, append-nil)

pub returns : goal.returns
unfolding conflict_line field quote
returns c =
    let none = drop_all 160 c.args.piece.now (omega (arith, c.told-piece)) in
    let back = c.write_bytes-back.ensures in
    let names = c.in_ok-names.ensures in
    let mark = c.write_bytes-quote.ensures in
    let number = c.write_field-number.ensures in
    let front = c.write_field.ensures in
    (omega (arith, back.start, names.1, mark.start, number.within, front.within), rw (front.written, number.written, mark.written, names.2, back.written, none, c.from.ensures) (pieces (codes "conflict ") (decimal c.args.shell) (codes " ") (decimal c.args.entry) (codes "\"") (flat_map spelled (path_text c.args.path.now)) (codes "\n")))

use Rattle.std.proofs.Common.{◌≡◌, List, ℕ, [], ◌++◌, codes, arith, append_assoc, append-nil}
use Rattle.std.specs.Fmt.{decimal}
use Rattle.std.specs.List.{flat_map}
use Rattle.fx_store.specs.Names.{path_text}
use Rattle.std.proofs.lemmas.List.{drop_all}
use Rattle.fx_report.specs.Events.{look_line}
use Rattle.fx_report.specs.Print.{quote, spelled}
use Rattle.fx_report.specs.Report.{field}
use Rattle.fx_report.proofs.lines.write_look.Goals as goal

pieces : (l s b q p n f : List ℕ) → (l ++ s) ++ ((b ++ q) ++ (p ++ (((q ++ b) ++ n) ++ (f ++ [])))) ≡ ((l ++ s) ++ b ++ (q ++ p ++ q) ++ (b ++ n)) ++ f
pieces l s b q p n f = simp (append_assoc, append-nil)

pub returns : goal.returns
unfolding look_line field quote
returns c =
    let none = drop_all 160 c.args.piece.now (omega (arith, c.told-piece)) in
    let line_feed = c.write_bytes-line_feed.ensures in
    let back = c.write_field-back.ensures in
    let names = c.in_ok-names.ensures in
    let mark = c.write_bytes-quote.ensures in
    let front = c.write_field.ensures in
    (omega (arith, line_feed.start, back.within, names.1, mark.start, front.within), rw (front.written, mark.written, names.2, back.written, line_feed.written, none, c.from.ensures) (pieces (codes "look ") (decimal c.args.shell) (codes " ") (codes "\"") (flat_map spelled (path_text c.args.path.now)) (decimal c.args.position) (codes "\n")))

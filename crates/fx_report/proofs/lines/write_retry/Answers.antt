use Rattle.std.proofs.Common.{◌≡◌, List, ℕ, [], ◌++◌, codes, arith, append_assoc, append-nil}
use Rattle.std.specs.Fmt.{decimal}
use Rattle.std.specs.List.{flat_map}
use Rattle.fx_store.specs.Names.{path_text}
use Rattle.std.proofs.lemmas.List.{drop_all}
use Rattle.fx_report.specs.Print.{quote, spelled}
use Rattle.fx_report.specs.Report.{field}
use Rattle.fx_report.proofs.lines.write_retry.Goals as goal

pieces : (a x b y c z d q p : List ℕ) → (a ++ x) ++ ((b ++ y) ++ ((c ++ z) ++ ((d ++ q) ++ (p ++ (q ++ []))))) ≡ (a ++ x) ++ (b ++ y) ++ (c ++ z) ++ d ++ (q ++ p ++ q)
pieces a x b y c z d q p = simp (append_assoc, append-nil)

pub returns : goal.returns
unfolding field quote
returns c =
    let r = c.args.retry.now in
    let none = drop_all 160 c.args.piece.now (omega (arith, c.told-piece)) in
    let back = c.write_bytes-back.ensures in
    let names = c.in_ok-names.ensures in
    let mark = c.write_bytes-quote.ensures in
    let entry = c.write_field-entry.ensures in
    let txn = c.write_field-txn.ensures in
    let front = c.write_field.ensures in
    (omega (arith, back.start, names.1, mark.start, entry.within, txn.within, front.within), rw (front.written, txn.written, entry.written, mark.written, names.2, back.written, none, c.from-2.ensures, c.from.ensures) (pieces (codes "retry shell ") (decimal r.shell) (codes " txn ") (decimal r.txn) (codes " entry ") (decimal r.entry) (codes " path ") (codes "\"") (flat_map spelled (path_text r.path))))

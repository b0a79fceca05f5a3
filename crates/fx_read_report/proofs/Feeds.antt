-- The lines of a report hold no line feed.
use Rattle.std.proofs.Common.{◌≡◌, ℕ, true, not, eqb, List, [], ◌∷◌, codes, refl}
use Rattle.std.proofs.lemmas.Bool.{and_parts}
use Rattle.std.proofs.lemmas.Bool.Decides.{nat_tests}
use Rattle.std.proofs.Common.{arith}
use Rattle.fx_store.specs.Names.{path_text}
use Rattle.fx_report.specs.Print.{quote}
use Rattle.fx_report.specs.Report.{end_text, field}
use Rattle.fx_report.proofs.OneLine as fed
use Rattle.fx_read_report.specs.Feeds.{LacksFeed}
use Rattle.fx_read_report.specs.Lines.{Line, head, entries, entry, print, retries, retry, final, line_text}

other : (b : ℕ) → not (eqb b 10) ≡ true → b ≡ 10 → ⊥
other b h e = grind (arith, nat_tests)

pub lacks : (x : List ℕ) → fed.IsLine x → LacksFeed x
lacks [] p = tt
lacks (b ∷ x) p = let both = and_parts (not (eqb b 10)) (fed.one_line x) p in (other b both.0, lacks x both.1)

is_line : (l : Line) → fed.IsLine (line_text l)
is_line head = refl
is_line (entries n) = fed.field_line (codes "entries ") n refl
is_line (entry i k j e) =
    fed.pieces_line (field (codes "entry ") i) (field (codes " shell ") k ∷ field (codes " txn ") j ∷ codes " " ∷ end_text e ∷ [])
    (fed.field_line (codes "entry ") i refl) (fed.field_line (codes " shell ") k refl, (fed.field_line (codes " txn ") j refl, (refl, (fed.end_line e, tt))))
is_line (print v) = fed.value_line v
is_line (retries n) = fed.field_line (codes "retries ") n refl
is_line (retry r) =
    fed.pieces_line (field (codes "retry shell ") r.shell) (field (codes " txn ") r.txn ∷ field (codes " entry ") r.entry ∷ codes " path " ∷ quote (path_text r.path) ∷ [])
    (fed.field_line (codes "retry shell ") r.shell refl) (fed.field_line (codes " txn ") r.txn refl, (fed.field_line (codes " entry ") r.entry refl, (refl, (fed.quote_line (path_text r.path), tt))))
is_line final = refl

pub line_lacks : (l : Line) → LacksFeed (line_text l)
line_lacks l = lacks (line_text l) (is_line l)

-- The table is refused for the first cause of its lines.
use Rattle.fx_folder.proofs.Prelude.{Held, unless_refused, all_bytes, lacking, limited, lines_or_cause, table_file_lines, table_lines, HasBadLine, HasTooManyLinks, IsFileCause, IsLineCause, exceed_limits, Entry, HostKind, Store, body_said, before_bad, before_end, lines_before_are, stops_read, SpellsLines, bad_line_is_first, texts_are_lines, lacks_in, stops_in, place_of, table_name, Setting, TableLink, body_of, first_number, lacks_flags, lines_before, lines_text, link_in_line, links_among, read_body, setting_of, IsFirstBadOf, FolderCause, BadTable, TooLarge, TableLine, Bool, Err, List, None, Ok, Option, Result, Some, [], ap, append-nil, arith, cond, false, inl, inr, length, length-append, refl, sym, true, ℕ, ◌++◌, ◌+◌, ◌-◌, ◌||◌, ◌∙◌, ◌∷◌, ◌≡◌, ◌≤◌, nat_tests, filter_map-append, sum_by-append, nat_lt, MAX_BYTES, MAX_NODES, MAX_TABLE, link_bytes}
use Rattle.fx_outside.specs.declared.kind.HostKind.TheVariants as kind
use Rattle.fx_folder.specs.Deep as deep
use Rattle.fx_folder.proofs.Counted.{at_most, not_above, below, is_below}

abbrev too_large : FolderCause
too_large = TooLarge (place_of (table_name ∷ []))

-- more links are too many too
more_too_many : (n b m k a c x y : ℕ) → a ≤ x → c ≤ y → (nat_lt m (n + a) || nat_lt k (b + c)) ≡ true → (nat_lt m (n + x) || nat_lt k (b + y)) ≡ true
more_too_many n b m k a c x y p q e = grind (arith, nat_tests)

pub over : (most b n : ℕ) → b ≤ most → nat_lt (most - b) n ≡ nat_lt most (b + n)
over most b n le = grind (arith, nat_tests)

module _ (all : List Held) where
  longer_too_many : (links more : List TableLink) → exceed_limits all links ≡ true → exceed_limits all (links ++ more) ≡ true
  longer_too_many links more many =
      more_too_many (length all + 1) (all_bytes all) MAX_NODES MAX_BYTES (length links) (link_bytes links) (length (links ++ more)) (link_bytes (links ++ more))
      (omega (arith, length-append links more)) (omega (arith, sum_by-append (λ (l : TableLink). length l.text) links more)) many

  abbrev nodes : ℕ
  nodes = length all + 1

  abbrev left : ℕ
  left = MAX_BYTES - all_bytes all

  pub same_many : all_bytes all ≤ MAX_BYTES → (links : List TableLink) → deep.are_too_many nodes left links ≡ exceed_limits all links
  same_many fits links = ap (λ b. nat_lt MAX_NODES (nodes + length links) || b) (over MAX_BYTES (all_bytes all) (link_bytes links) fits)

  -- lines with more behind them have too many links too
  longer_lines : (lines more : List TableLine) → exceed_limits all (links_among lines) ≡ true → exceed_limits all (links_among (lines ++ more)) ≡ true
  longer_lines lines more many =
      ap (exceed_limits all) (filter_map-append (λ (l : TableLine). link_in_line l.path l.mark) lines more) ∙ longer_too_many (links_among lines) (links_among more) many

  module _ (fits : all_bytes all ≤ MAX_BYTES) (S : Store) (text : List ℕ) where
    -- ---- the lines

    abbrev over_text : Setting
    over_text = setting_of S text

    abbrev from : ℕ
    from = first_number text

    abbrev body : List ℕ
    body = body_of text

    limit_is : (lines : List TableLine) (bad : Option FolderCause) → limited nodes left lines bad ≡ cond (exceed_limits all (links_among lines)) (Err too_large) (unless_refused bad (Ok lines))
    limit_is lines bad = ap (λ b. cond b (Err too_large) (unless_refused bad (Ok lines))) (same_many fits (links_among lines))

    before_is : (number : ℕ) (bad : IsFirstBadOf over_text from body number) → limited nodes left (lines_before S text number) (Some (BadTable number)) ≡ cond (exceed_limits all (links_among bad.lines)) (Err too_large) (Err (BadTable number))
    before_is number bad = ap (λ ls. limited nodes left ls (Some (BadTable number))) (lines_before_are over_text from body number bad) ∙ limit_is bad.lines (Some (BadTable number))

    read_is : (r : Result (List TableLine) ℕ) → read_body S text ≡ r → (cause : FolderCause) → lines_or_cause nodes left S text r ≡ Err cause → IsLineCause S all text cause
    read_is (Ok lines) is cause e =
        let spells = texts_are_lines over_text from body lines is in
        by spells (exceed_limits all (links_among lines)) refl (lacks_flags text lines) refl (sym (limit_is lines (lacking text lines)) ∙ e)
      where
        by : SpellsLines over_text body lines → (b : Bool) → exceed_limits all (links_among lines) ≡ b → (l : Bool) → lacks_flags text lines ≡ l → cond b (Err too_large) (unless_refused (cond l (Some (BadTable 1)) None) (Ok lines)) ≡ Err cause → IsLineCause S all text cause
        by spells true many l lacks e = inl (cc, record { lines = lines; front = record { rest = []; parts = spells.spelled ∙ sym (append-nil (lines_text lines)); table = spells.table }; many = many })
        by spells false few true lacks e = inr (1, cc, record { first = lacks_in S text lines spells.table spells.spelled lacks; few = few })
        by spells false few false lacks e = cc
    read_is (Err number) is cause e =
        let bad = bad_line_is_first over_text from body number is in
        by bad (exceed_limits all (links_among bad.lines)) refl (sym (before_is number bad) ∙ e)
      where
        by : (bad : IsFirstBadOf over_text from body number) (b : Bool) → exceed_limits all (links_among bad.lines) ≡ b → ◌≡◌ {A = Result (List TableLine) FolderCause} (cond b (Err too_large) (Err (BadTable number))) (Err cause) → IsLineCause S all text cause
        by bad true many e = inl (cc, record { lines = bad.lines; front = record { rest = bad.rest; parts = bad.parts; table = bad.table }; many = many })
        by bad false few e = inr (number, cc, record { first = stops_in S text number bad; few = few })

    many_read : HasTooManyLinks S all text → (r : Result (List TableLine) ℕ) → read_body S text ≡ r → lines_or_cause nodes left S text r ≡ Err too_large
    many_read has (Ok lines) is =
        let spells = texts_are_lines over_text from body lines is in
        let longer = before_end has.lines lines has.front.rest has.front.table.valid spells.table.valid (sym has.front.parts ∙ spells.spelled) in
        limit_is lines (lacking text lines) ∙ ap (λ b. cond b (Err too_large) (unless_refused (lacking text lines) (Ok lines))) (ap (λ ls. exceed_limits all (links_among ls)) longer.links ∙ longer_lines has.lines longer.more has.many)
    many_read has (Err number) is =
        let bad = bad_line_is_first over_text from body number is in
        let longer = before_bad over_text from body number bad has.lines has.front.rest has.front.table has.front.parts in
        before_is number bad
        ∙ ap (λ b. cond b (Err too_large) (Err (BadTable number))) (ap (λ ls. exceed_limits all (links_among ls)) longer.links ∙ longer_lines has.lines longer.more has.many)

    bad_read : (number : ℕ) → HasBadLine S all text number → lines_or_cause nodes left S text (read_body S text) ≡ Err (BadTable number)
    bad_read number has = elim has.first.bad [
      | inl stops ↦
          let bad : IsFirstBadOf over_text from body number = record { lines = has.first.lines; rest = has.first.rest; parts = has.first.parts; table = has.first.table; bad = stops } in
          ap (lines_or_cause nodes left S text) (stops_read over_text from body number bad) ∙ (before_is number bad ∙ ap (λ b. cond b (Err too_large) (Err (BadTable number))) has.few)
      | inr lacks ↦
          let lines = has.first.lines in
          let whole : body ≡ lines_text lines = has.first.parts ∙ (ap (λ r. lines_text lines ++ r) lacks.whole ∙ append-nil (lines_text lines)) in
          ap (lines_or_cause nodes left S text) (body_said S text lines whole has.first.table)
          ∙ (limit_is lines (lacking text lines)
          ∙ (ap (λ b. cond b (Err too_large) (unless_refused (lacking text lines) (Ok lines))) has.few
          ∙ (ap (λ l. unless_refused (cond l (Some (BadTable 1)) None) (Ok lines)) lacks.lacks ∙ ap (λ n. Err (BadTable n)) (sym lacks.place))))
    ]

    pub lines_refused : (cause : FolderCause) → IsLineCause S all text cause → lines_or_cause nodes left S text (read_body S text) ≡ Err cause
    lines_refused cause (inl (same, many)) = many_read many (read_body S text) refl ∙ ap (λ c. Err c) (sym same)
    lines_refused cause (inr (number, same, bad)) = bad_read number bad ∙ ap (λ c. Err c) (sym same)

  -- ---- the table

  module _ (fits : all_bytes all ≤ MAX_BYTES) (S : Store) where
    file_is : (k : HostKind) (text : List ℕ) (cause : FolderCause) → table_file_lines nodes left S k text ≡ Err cause → IsFileCause S all k text cause
    file_is kind.Folder text cause e = cc
    file_is kind.Other text cause e = cc
    file_is kind.File text cause e = by (nat_lt MAX_TABLE (length text)) refl e
      where
        by : (b : Bool) → nat_lt MAX_TABLE (length text) ≡ b → cond b (Err too_large) (lines_or_cause nodes left S text (read_body S text)) ≡ Err cause → IsFileCause S all kind.File text cause
        by true is e = inl (below MAX_TABLE (length text) is, cc)
        by false is e = inr (at_most (length text) MAX_TABLE is, read_is fits S text (read_body S text) refl cause e)

    file_refused : (k : HostKind) (text : List ℕ) (cause : FolderCause) → IsFileCause S all k text cause → table_file_lines nodes left S k text ≡ Err cause
    file_refused kind.Folder text cause same = ap (λ c. Err c) (sym same)
    file_refused kind.Other text cause same = ap (λ c. Err c) (sym same)
    file_refused kind.File text cause (inl (large, same)) = ap (λ b. cond b (Err too_large) (lines_or_cause nodes left S text (read_body S text))) (is_below MAX_TABLE (length text) large) ∙ ap (λ c. Err c) (sym same)
    file_refused kind.File text cause (inr (small, why)) = ap (λ b. cond b (Err too_large) (lines_or_cause nodes left S text (read_body S text))) (not_above (length text) MAX_TABLE small) ∙ lines_refused fits S text cause why

    -- the table that stands, if any, is refused for the cause
    abbrev pub IsCauseOf : Option Entry → FolderCause → Type 0
    IsCauseOf None cause = ⊥
    IsCauseOf (Some e) cause = IsFileCause S all e.kind e.bytes cause

    pub table_is : (table : Option Entry) (cause : FolderCause) → table_lines nodes left S table ≡ Err cause → IsCauseOf table cause
    table_is None cause e = cc
    table_is (Some x) cause e = file_is x.kind x.bytes cause e

    pub table_refused : (table : Option Entry) (cause : FolderCause) → IsCauseOf table cause → table_lines nodes left S table ≡ Err cause
    table_refused None cause why = absurd why
    table_refused (Some x) cause why = file_refused x.kind x.bytes cause why

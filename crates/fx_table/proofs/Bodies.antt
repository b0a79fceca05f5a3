-- What is read of the lines of a text is what is read of the text.
use Rattle.fx_table.proofs.Prelude.{◌≡◌, inl, inr, ℕ, Bool, true, false, cond, not, ◌&&◌, List, ◌++◌, Ok, Err, sym, ◌∙◌, ap, subst, append-nil, Change, Store, lines_in, ReadsBody, BodyCause, ReadsAll, LinesCause, TableLine, has_flags, lines_text, read_table, read_body, unless_lacking, lacks_flags, is_second, body_of, first_number, setting_of, read_from, AreLinesOver, IsFirstBadOf, IsFirstBadLine, BadName, Strange, TooLarge, BadTable, LoadFault, Refused, ReadFault, NoMemory, Room, over}
use Rattle.fx_table.proofs.TableFronts.{stops_read}
use Rattle.fx_table.proofs.TableLines.{lines_are_read}
use Rattle.fx_table.proofs.Versions.{spells, stops_in, lacks_in}

module _ (S : Store) (room : Room) (text body : List ℕ) (flags : Bool) (number : ℕ) (second : flags ≡ is_second text) (behind : body ≡ body_of text) (first : number ≡ cond flags 2 1) where
  number_is : number ≡ first_number text
  number_is = first ∙ ap (λ b. cond b 2 1) second

  body_reads : (lines : List Change) → ReadsBody (over S flags) room body lines → ReadsBody (setting_of S text) room (body_of text) lines
  body_reads lines reads = subst (λ b. ReadsBody (setting_of S text) room b lines) behind (subst (λ b. ReadsBody (over S b) room body lines) second reads)

  lacks_is : (lines : List TableLine) (lacks : Bool) → lacks ≡ (flags && not (has_flags lines)) → lacks ≡ lacks_flags text lines
  lacks_is lines lacks is = is ∙ ap (λ b. b && not (has_flags lines)) second

  pub reads_all : (lines : List Change) (lacks : Bool) → ReadsBody (over S flags) room body lines → lacks ≡ (flags && not (has_flags (lines_in lines))) → lacks ≡ false → ReadsAll S room text lines
  reads_all lines lacks reads is fails =
      let all = body_reads lines reads in
      let table = spells S text (lines_in lines) all.are.table all.whole (sym (lacks_is (lines_in lines) lacks is) ∙ fails) in
      record { are = record { made = all.are.made; table = table.table }; whole = table.spelled; few = all.few }

  pub lacks_all : (lines : List Change) (lacks : Bool) → ReadsBody (over S flags) room body lines → lacks ≡ (flags && not (has_flags (lines_in lines))) → lacks ≡ true → LinesCause S room text (Refused (BadTable 1))
  lacks_all lines lacks reads is holds =
      let all = body_reads lines reads in
      record { first = lacks_in S text (lines_in lines) all.are.table all.whole (sym (lacks_is (lines_in lines) lacks is) ∙ holds); few = all.few }

  cause_in : (fault : LoadFault) → BodyCause (setting_of S text) room (first_number text) (body_of text) fault → LinesCause S room text fault
  cause_in (Refused (BadName place)) why = why
  cause_in (Refused (Strange place)) why = why
  cause_in (Refused (TooLarge place)) why = (
    why.0,
    record { lines = why.1.lines; front = record { rest = why.1.rest; parts = why.1.parts; table = why.1.table }; many = why.1.many },
  )
  cause_in (Refused (BadTable n)) why = record { first = stops_in S text n why.bad; few = why.few }
  cause_in ReadFault why = why
  cause_in NoMemory why = tt

  pub stops_all : (fault : LoadFault) → BodyCause (over S flags) room number body fault → LinesCause S room text fault
  stops_all fault why =
      cause_in fault (subst (λ n. BodyCause (setting_of S text) room n (body_of text) fault) number_is (subst (λ b. BodyCause (setting_of S text) room number b fault) behind (subst (λ b. BodyCause (over S b) room number body fault) second why)))

-- ---- a text is refused at its first bad line

pub body_said : (S : Store) (text : List ℕ) (lines : List TableLine) → body_of text ≡ lines_text lines → AreLinesOver (setting_of S text) lines → read_body S text ≡ Ok lines
body_said S text lines body table = ap (read_from (setting_of S text) (first_number text)) body ∙ lines_are_read (setting_of S text) (first_number text) lines table

pub bad_read : (S : Store) (text : List ℕ) (number : ℕ) → IsFirstBadLine S text number → read_table S text ≡ Err number
bad_read S text number bad = elim bad.bad [
  | inl stops ↦
      let of : IsFirstBadOf (setting_of S text) (first_number text) (body_of text) number = record { lines = bad.lines; rest = bad.rest; parts = bad.parts; table = bad.table; bad = stops } in
      ap (unless_lacking text) (stops_read (setting_of S text) (first_number text) (body_of text) number of)
  | inr lacks ↦
      let body : body_of text ≡ lines_text bad.lines = bad.parts ∙ (ap (λ r. lines_text bad.lines ++ r) lacks.whole ∙ append-nil (lines_text bad.lines)) in
      let read : read_body S text ≡ Ok bad.lines = body_said S text bad.lines body bad.table in
      ap (unless_lacking text) read ∙ (ap (λ b. cond b (Err 1) (Ok bad.lines)) lacks.lacks ∙ ap (λ n. Err n) (sym lacks.place))
]

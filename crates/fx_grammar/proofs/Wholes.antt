-- What a reader says of whole texts.
use Rattle.std.proofs.Common.{◌≡◌, ◌⊎◌, inl, inr, ℕ, Result, Ok, Err, List, [], ◌∷◌, ◌++◌, length, refl, sym, ap, ◌∙◌, append_assoc}
use Rattle.std.proofs.lemmas.List.{append-nil}
use Rattle.fx_base.proofs.Lists.{not_empty}
use Rattle.fx_lex.specs.declared.token.Token.{Token}
use Rattle.fx_parse.specs.Stuck.{Stuck, Unexpected, TooNested}
use Rattle.fx_parse.specs.Readable.{Grammar, Stands, IsUnexpected, IsTooNested}
use Rattle.fx_parse.proofs.Machine.{Table}
use Rattle.fx_parse.proofs.Places.{is_shallow}
use Rattle.fx_parse.proofs.ReaderPlaces.{Follows, one_reading, read_stands, read_unexpected, read_too_nested}
use Rattle.fx_parse.proofs.OnePlace.{Cut, Before, Same, Behind, cut, begins_next, one_place}
use Rattle.fx_grammar.specs.Refused.{IsMisplaced, HasOnePlace}

module _ {Tree : Type 0} (g : Grammar Tree) (ts : List Token) where
  pub misplaced_cut : (j k : ℕ) (p : IsMisplaced g ts j) (q : IsMisplaced g ts k) → Cut p.front p.rest q.front q.rest → j ≡ k
  misplaced_cut j k p q (Before t m x b) =
      absurd (p.ends t (m ++ q.rest) x (begins_next g 1 ts p.front m t q.begins.tree q.begins.rest q.begins.right (q.begins.spelled ∙ ap (λ l. l ++ q.begins.rest) b)))
  misplaced_cut j k p q (Same a x) = p.place ∙ ap length x ∙ sym q.place
  misplaced_cut j k p q (Behind t m y a) =
      absurd (q.ends t (m ++ p.rest) y (begins_next g 1 ts q.front m t p.begins.tree p.begins.rest p.begins.right (p.begins.spelled ∙ ap (λ l. l ++ p.begins.rest) a)))

  pub kinds_cut : (j k : ℕ) (p : IsMisplaced g ts j) (q : IsTooNested g 1 ts k) → Cut p.front p.rest q.front (q.x ∷ q.more) → ⊥
  kinds_cut j k p q (Before t m x b) =
      p.ends t (m ++ q.x ∷ q.more) x (begins_next g 1 ts p.front m t q.begins.tree (q.x ∷ q.begins.rest) q.begins.right (q.begins.spelled ∙ ap (λ l. l ++ q.x ∷ q.begins.rest) b))
  kinds_cut j k p q (Same a x) =
      p.ends q.x q.more x (begins_next g 1 ts p.front [] q.x q.begins.tree q.begins.rest q.begins.right (q.begins.spelled ∙ ap (λ l. l ++ q.x ∷ q.begins.rest) (sym a) ∙ sym (append_assoc p.front (q.x ∷ []) q.begins.rest)))
  kinds_cut j k p q (Behind t m y a) =
      let same : t ≡ q.x = cc in
      p.shallow q.front m q.x (a ∙ ap (λ z. q.front ++ z ∷ m) same) q.begins

module _ {Sym : Type 0} {Tree : Type 0} (m : Table Sym) (g : Grammar Tree) (start : ℕ → Sym) (read : ℕ → List Token → Result (Tree × List Token) Stuck) (reader : Follows m g start read) where
  -- where no tree stands in front
  pub wrong_in_front : (ts : List Token) (k : ℕ) → IsUnexpected g 1 ts k → IsMisplaced g ts k
  wrong_in_front ts k u = record {
    front = u.front;
    rest = u.rest;
    parts = u.parts;
    place = u.place;
    begins = u.begins;
    ends = u.ends;
    none = λ t right e. u.none t [] right (e ∙ sym (append-nil (g.tokens t)));
    shallow = u.shallow;
  }

  -- where something stands behind the tree
  pub wrong_behind : (ts : List Token) (t : Tree) (x : Token) (more : List Token) → Stands g 1 ts t (x ∷ more) → IsMisplaced g ts (length (x ∷ more))
  wrong_behind ts t x more s = record {
    front = g.tokens t;
    rest = x ∷ more;
    parts = s.spelled;
    place = refl;
    begins = record { tree = t; rest = []; right = s.right; spelled = sym (append-nil (g.tokens t)) };
    ends = λ y after e begun.
        let both = one_reading m g start read reader t begun.tree (y ∷ begun.rest) [] s.right begun.right (sym (append_assoc (g.tokens t) (y ∷ []) begun.rest) ∙ sym begun.spelled ∙ sym (append-nil (g.tokens begun.tree))) in
        not_empty y begun.rest both.1;
    none = λ u right e.
        let both = one_reading m g start read reader t u (x ∷ more) [] s.right right (sym s.spelled ∙ e ∙ sym (append-nil (g.tokens u))) in
        not_empty x more both.1;
    shallow = is_shallow m g start reader.fits 1 (g.tokens t) (g.levels 1 t) [] (reader.fits.runs 1 t s.right) s.nested;
  }

  abbrev Some : List Token → Type 0
  Some ts = ((t : Tree) × Stands g 1 ts t []) ⊎ (((k : ℕ) × IsMisplaced g ts k) ⊎ ((k : ℕ) × IsTooNested g 1 ts k))

  some_of : (ts : List Token) (r : Result (Tree × List Token) Stuck) → read 64 ts ≡ r → Some ts
  some_of ts (Ok (t, [])) e = inl (t, read_stands m g start read reader 1 64 refl ts t [] e)
  some_of ts (Ok (t, x ∷ more)) e =
      inr (inl (length (x ∷ more), wrong_behind ts t x more (read_stands m g start read reader 1 64 refl ts t (x ∷ more) e)))
  some_of ts (Err (Unexpected k)) e = inr (inl (k, wrong_in_front ts k (read_unexpected m g start read reader 1 64 refl ts k e)))
  some_of ts (Err (TooNested k)) e = inr (inr (k, read_too_nested m g start read reader 1 64 refl ts k e))

  pub has_one_place : (ts : List Token) → HasOnePlace g ts
  has_one_place ts =
      let front = one_place m g start reader.fits (one_reading m g start read reader) 1 ts in
      record {
        some = some_of ts (read 64 ts) refl;
        misplaced = λ j k p q. misplaced_cut g ts j k p q (cut p.front p.rest q.front q.rest (sym p.parts ∙ q.parts));
        too_nested = front.too_nested;
        one_kind = λ j k p q. kinds_cut g ts j k p q (cut p.front p.rest q.front (q.x ∷ q.more) (sym p.parts ∙ q.parts));
        not_misplaced = λ t k s p. p.none t s.right (s.spelled ∙ append-nil (g.tokens t));
        not_too_nested = λ t k s q. front.not_too_nested t [] k s q;
      }

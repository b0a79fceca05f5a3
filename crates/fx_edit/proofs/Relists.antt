-- Two sets of names, gone through side by side.
use Rattle.std.proofs.Common.{◌≡◌, ℕ, ◌≤◌, Bool, true, false, cond, ◌||◌, List, [], ◌∷◌, ◌++◌, length, drop, nat_eq, Result, Ok, Err, refl, sym, subst, ap, ◌∙◌, arith}
use Rattle.std.specs.Prelude.{IsErrAnd}
use Rattle.std.specs.declared.cmp.Ordering.TheVariants.{Less, Equal, Greater}
use Rattle.std.specs.Ordering.{nat_cmp}
use Rattle.std.specs.Cmp.Lexicographic.{pointwise, slice_cmp}
use Rattle.std.specs.List.{AllByRecursion}
use Rattle.std.specs.List.Sorted.{IsStrictlySortedBy}
use Rattle.std.proofs.lemmas.Bool.{false≢true}
use Rattle.std.proofs.lemmas.Map.Lookups.{exact_bytes}
use Rattle.fx_base.proofs.Placing.{flipped, flipped_less, all_below}
use Rattle.fx_store.specs.declared.changes.Change.{Change}
use Rattle.fx_store.specs.Names.{has}
use Rattle.fx_store.specs.Resolve.{◌/ₚ◌}
use Rattle.fx_store.specs.Rule.{Ask, Answer, ◌>>=◌}
use Rattle.fx_store.proofs.PathLists.{has-text, has_first as has_head}
use Rattle.fx_expr.specs.Sets.{IsAscending, has_text, set_of}
use Rattle.fx_text.proofs.Canon.{ascending_set}
use Rattle.fx_text.proofs.Merging.{least_of_first, least_of_second, least_less, least_equal, least_greater}
use Rattle.fx_text.proofs.Order.{other_greater, other_less}
use Rattle.fx_spec.specs.Edit.{clear, entry, entries}
use Rattle.fx_text.specs.Merges.{IsLeastOf}
use Rattle.fx_edit.specs.Rules.{adding, added_file, changed_entries, changed_name, AreAlike, AreLeft, IsNextChange}
use Rattle.fx_view.specs.declared.reader.Stop.{Stop}
use Rattle.fx_view.specs.Meaning.{Meaning}
use Rattle.fx_session.specs.declared.session.Session.{Session}
use Rattle.fx_session.specs.Implements.{Implements}
use Rattle.fx_session.proofs.Courses.{Goes, goes_on, goes_stop, goes_end}
use Rattle.fx_edit.proofs.Addings.{adding-entries, adding-none}

-- ---- which set has the least name

-- the names of a set without its first, where that is the one that is gone through
abbrev names_left : Bool → List (List ℕ) → List (List ℕ)
names_left true names = drop 1 names
names_left false names = names

-- whether the set has the name is known: it is the set's first, or none of it
abbrev IsFirst : Bool → List (List ℕ) → List ℕ → Type 0
IsFirst true names n = names ≡ n ∷ drop 1 names
IsFirst false names n = has names n ≡ false

-- the name is the least of two sets, and each has it or not
record IsLeastName (a b : List (List ℕ)) (n : List ℕ) (x y : Bool) : Type 0 where
  least : IsLeastOf a b n (names_left x a) (names_left y b)
  first : IsFirst x a n
  second : IsFirst y b n

-- what is done at a name, by whether the old names have it and whether the new ones do
abbrev change_at_name : List (List ℕ) → List ℕ → Bool → Bool → Ask (List Change)
change_at_name q n old new =
    let added = added_file (q /ₚ n) in
    let dropped = clear (q /ₚ n) in
    cond new (cond old (Answer []) added) dropped

other : (n m : List ℕ) → slice_cmp nat_cmp n m ≡ Less → pointwise nat_eq m n ≡ false
other n m e = other_greater m n (flipped_less n m e)

lacks : (n : List ℕ) (ns : List (List ℕ)) → AllByRecursion (λ m. slice_cmp nat_cmp n m ≡ Less) ns → has ns n ≡ false
lacks n [] a = refl
lacks n (m ∷ ns) a = has-text (m ∷ ns) n ∙ (λ i. other n m a.0 i || has_text n ns) ∙ sym (has-text ns n) ∙ lacks n ns a.1

module _ (s t : List ℕ) (c d : List (List ℕ)) (up : IsAscending (s ∷ c)) (vp : IsAscending (t ∷ d)) where
  at_less : slice_cmp nat_cmp s t ≡ Less → IsLeastName (s ∷ c) (t ∷ d) s true false
  unfolding IsStrictlySortedBy
  at_less e = record { least = least_less s t c d up vp e; first = refl; second = lacks s (t ∷ d) (e, all_below s t d e vp.0) }

  at_greater : slice_cmp nat_cmp s t ≡ Greater → IsLeastName (s ∷ c) (t ∷ d) t false true
  unfolding IsStrictlySortedBy
  at_greater e = let f = flipped s t e in record { least = least_greater s t c d up vp e; first = lacks t (s ∷ c) (f, all_below t s c f up.0); second = refl }

  at_equal : slice_cmp nat_cmp s t ≡ Equal → IsLeastName (s ∷ c) (t ∷ d) s true true
  at_equal e = record { least = least_equal s t c d up vp e; first = refl; second = ap (λ n. n ∷ d) (sym (exact_bytes s t e)) }

module _ (a b : List (List ℕ)) (n : List ℕ) (c : List (List ℕ)) where
  next_first : IsAscending a → a ≡ n ∷ c → b ≡ [] → IsLeastName a b n true false
  next_first up e f =
      subst (λ x. IsLeastName x b n true false) (sym e) (subst (λ y. IsLeastName (n ∷ c) y n true false) (sym f)
      (record { least = least_of_first n c (subst (λ x. IsAscending x) e up); first = refl; second = refl }))

  next_second : IsAscending b → a ≡ [] → b ≡ n ∷ c → IsLeastName a b n false true
  next_second up e f =
      subst (λ x. IsLeastName x b n false true) (sym e) (subst (λ y. IsLeastName [] y n false true) (sym f)
      (record { least = least_of_second n c (subst (λ x. IsAscending x) f up); first = refl; second = refl }))

module _ (a b : List (List ℕ)) (s t : List ℕ) (c d : List (List ℕ)) (up : IsAscending a) (vp : IsAscending b) (e : a ≡ s ∷ c) (f : b ≡ t ∷ d) where
  ups : IsAscending (s ∷ c)
  ups = subst (λ x. IsAscending x) e up

  vps : IsAscending (t ∷ d)
  vps = subst (λ x. IsAscending x) f vp

  both : (n : List ℕ) (x y : Bool) → IsLeastName (s ∷ c) (t ∷ d) n x y → IsLeastName a b n x y
  both n x y h = subst (λ l. IsLeastName l b n x y) (sym e) (subst (λ l. IsLeastName (s ∷ c) l n x y) (sym f) h)

  next_less : slice_cmp nat_cmp s t ≡ Less → IsLeastName a b s true false
  next_less o = both s true false (at_less s t c d ups vps o)

  next_equal : slice_cmp nat_cmp s t ≡ Equal → IsLeastName a b s true true
  next_equal o = both s true true (at_equal s t c d ups vps o)

  next_greater : slice_cmp nat_cmp s t ≡ Greater → IsLeastName a b t false true
  next_greater o = both t false true (at_greater s t c d ups vps o)

-- ---- the changes of the names that are left

same_entries : (f g : List ℕ → Ask (List Change)) (ns : List (List ℕ)) → AllByRecursion (λ n. f n ≡ g n) ns → entries f ns ≡ entries g ns
same_entries f g [] h = refl
same_entries f g (n ∷ ns) h = λ i. h.0 i >>= λ first. same_entries f g ns h.1 i >>= λ rest. Answer (first ++ rest)

-- a set and what is left of it have the same later names
later : (x : Bool) (a : List (List ℕ)) (n m : List ℕ) → IsFirst x a n → slice_cmp nat_cmp n m ≡ Less → has a m ≡ has (names_left x a) m
later false a n m w e = refl
later true a n m w e =
    ap (λ l. has l m) w ∙ has-text (n ∷ drop 1 a) m ∙ ap (λ b. b || has_text m (drop 1 a)) (other_less n m e) ∙ sym (has-text (drop 1 a) m)

has_first : (x : Bool) (a : List (List ℕ)) (n : List ℕ) → IsFirst x a n → has a n ≡ x
has_first true a n w = ap (λ l. has l n) w ∙ has_head n (drop 1 a)
has_first false a n w = w

module _ (q a b : List (List ℕ)) (n : List ℕ) (x y : Bool) (next : IsLeastName a b n x y) where
  abbrev c : List (List ℕ)
  c = names_left x a

  abbrev d : List (List ℕ)
  d = names_left y b

  alike : (ns : List (List ℕ)) → AllByRecursion (λ m. slice_cmp nat_cmp n m ≡ Less) ns → AllByRecursion (λ m. entry q a b m ≡ entry q c d m) ns
  alike [] above = tt
  alike (m ∷ ns) above = ((λ i. change_at_name q m (later x a n m next.first above.0 i) (later y b n m next.second above.0 i)), alike ns above.1)

  above : AllByRecursion (λ m. slice_cmp nat_cmp n m ≡ Less) (set_of (c ++ d))
  unfolding IsStrictlySortedBy
  above = (subst (λ l. IsAscending l) next.least.whole (ascending_set (a ++ b))).0

  left_next : (so_far : List Change) → adding so_far (changed_entries q a b) ≡ (adding so_far (change_at_name q n x y) >>= λ cs. adding cs (changed_entries q c d))
  left_next so_far =
      ap (λ ns. adding so_far (entries (entry q a b) ns)) next.least.whole
      ∙ adding-entries (entry q a b) so_far n (set_of (c ++ d))
      ∙ (λ i. adding so_far (change_at_name q n (has_first x a n next.first i) (has_first y b n next.second i)) >>= λ cs. adding cs (same_entries (entry q a b) (entry q c d) (set_of (c ++ d)) (alike (set_of (c ++ d)) above) i))

-- ---- the names that both sets have are passed

-- from the first two sets to the others no entry changes
pub record ArePassed (a b c d : List (List ℕ)) : Type 0 where
  pub left : AreLeft b c d
  pub olds : length c ≤ length a
  pub alike : (q : List (List ℕ)) (before : List Change) → adding before (changed_entries q a b) ≡ adding before (changed_entries q c d)

module _ (a b c d : List (List ℕ)) (passed : ArePassed a b c d) where
  by_least : (n : List ℕ) (x y : Bool) (e f : List (List ℕ)) → IsLeastName c d n x y → names_left x c ≡ e → names_left y d ≡ f → (q : List (List ℕ)) (before : List Change)
      → adding before (changed_entries q a b) ≡ (adding before (change_at_name q n x y) >>= λ now. adding now (changed_entries q e f))
  by_least n x y e f next olds news q before =
      passed.alike q before ∙ left_next q c d n x y next before ∙ (λ i. adding before (change_at_name q n x y) >>= λ now. adding now (changed_entries q (olds i) (news i)))

  pub passed_both : (s t : List ℕ) (e f : List (List ℕ)) → c ≡ s ∷ e → d ≡ t ∷ f → slice_cmp nat_cmp s t ≡ Equal → ArePassed a b e f
  passed_both s t e f olds news o =
      let up = passed.left.olds in
      let vp = passed.left.news in
      let next = next_equal c d s t e f up vp olds news o in
      let first = ap length olds in
      let second = ap length news in
      let few = passed.left.few in
      let fewer = passed.olds in
      record {
        left = record { olds = subst (λ l. IsAscending l) (ap (drop 1) olds) next.least.first; news = subst (λ l. IsAscending l) (ap (drop 1) news) next.least.second; few = omega arith };
        olds = omega arith;
        alike = λ q before. by_least s true true e f next (ap (drop 1) olds) (ap (drop 1) news) q before ∙ ap (λ (r : Ask (List Change)). r >>= λ now. adding now (changed_entries q e f)) (adding-none before);
      }

  left_as : (x y : Bool) (n : List ℕ) (e f : List (List ℕ)) → IsLeastName c d n x y → names_left x c ≡ e → names_left y d ≡ f → length f ≤ length d → AreLeft b e f
  left_as x y n e f next olds news short =
      let few = passed.left.few in
      record { olds = subst (λ l. IsAscending l) olds next.least.first; news = subst (λ l. IsAscending l) news next.least.second; few = omega arith }

  old_by : (n : List ℕ) (e : List (List ℕ)) → IsLeastName c d n true false → c ≡ n ∷ e → AreLeft b e d × IsNextChange a b n false e d
  old_by n e next olds =
      let first = ap length olds in
      let few = passed.left.few in
      let fewer = passed.olds in (
        left_as true false n e d next (ap (drop 1) olds) refl (omega arith),
        record { changes = by_least n true false e d next (ap (drop 1) olds) refl; some = λ no. absurd (false≢true no); smaller = omega arith },
      )

  new_by : (n : List ℕ) (f : List (List ℕ)) → IsLeastName c d n false true → d ≡ n ∷ f → AreLeft b c f × IsNextChange a b n true c f
  new_by n f next news =
      let second = ap length news in
      let few = passed.left.few in
      let fewer = passed.olds in (
        left_as false true n c f next refl (ap (drop 1) news) (omega arith),
        record { changes = by_least n false true c f next refl (ap (drop 1) news); some = λ _. omega arith; smaller = omega arith },
      )

  pub old_alone : (n : List ℕ) (e : List (List ℕ)) → c ≡ n ∷ e → d ≡ [] → AreLeft b e d × IsNextChange a b n false e d
  old_alone n e olds none = old_by n e (next_first c d n e passed.left.olds olds none) olds

  pub new_alone : (n : List ℕ) (f : List (List ℕ)) → c ≡ [] → d ≡ n ∷ f → AreLeft b c f × IsNextChange a b n true c f
  new_alone n f none news = new_by n f (next_second c d n f passed.left.news none news) news

  module _ (s t : List ℕ) (e f : List (List ℕ)) (olds : c ≡ s ∷ e) (news : d ≡ t ∷ f) where
    pub old_less : slice_cmp nat_cmp s t ≡ Less → AreLeft b e d × IsNextChange a b s false e d
    old_less o = old_by s e (next_less c d s t e f passed.left.olds passed.left.news olds news o) olds

    pub new_less : slice_cmp nat_cmp s t ≡ Greater → AreLeft b c f × IsNextChange a b t true c f
    new_less o = new_by t f (next_greater c d s t e f passed.left.olds passed.left.news olds news o) news

-- ---- the loop

abbrev rest : List (List ℕ) → List (List ℕ) → List (List ℕ) → List Change → Ask (List Change)
rest q a b cs = adding cs (changed_entries q a b)

-- these names are left: what adds their changes now adds those of all at the start
pub record IsRelisting {R L : Type 0} (m : Meaning R) (q old new : List (List ℕ)) (start now : Session R L) (begun so_far : List Change) (a b : List (List ℕ)) : Type 0 where
  pub goes : (final : List Change) → Goes m (λ (u : Unit {0}). final) start now (adding begun (changed_entries q old new)) (adding so_far (changed_entries q a b))
  pub left : AreLeft new a b

module _ {R L : Type 0} {m : Meaning R} {q old new : List (List ℕ)} {start : Session R L} {begun : List Change} where
  module _ {now : Session R L} {so_far : List Change} {a b : List (List ℕ)} (is : IsRelisting m q old new start now begun so_far a b) where
    module _ {n : List ℕ} {x : Bool} {c d : List (List ℕ)} (next : IsNextChange a b n x c d) where
      pub relisting_next : {later : Session R L} {more : List Change} → AreLeft b c d → Implements {X = Unit {0}} m (λ (u : Unit {0}). more) now later (adding so_far (changed_name q n x)) (Ok tt) → IsRelisting m q old new start later begun more c d
      relisting_next left h =
          let few = left.few in
          let before = is.left.few in
          record {
            goes = λ final. goes_on (rest q a b so_far) (is.goes final) (adding so_far (changed_name q n x)) (rest q c d) (next.changes q so_far) h;
            left = record { olds = left.olds; news = left.news; few = omega arith };
          }

      pub relisting_stops : {later : Session R L} {more final : List Change} {why : Stop} (r : Result (Unit {0}) Stop) → IsErrAnd r (λ d. d ≡ why) → Implements {X = Unit {0}} m (λ (u : Unit {0}). more) now later (adding so_far (changed_name q n x)) (Err why)
          → Implements m (λ (u : Unit {0}). final) start later (adding begun (changed_entries q old new)) r
      relisting_stops {final = final} r e h = goes_stop (rest q a b so_far) (is.goes final) (adding so_far (changed_name q n x)) (rest q c d) (next.changes q so_far) r e h

    pub relisting_ends : AreAlike a b → Implements {X = Unit {0}} m (λ (u : Unit {0}). so_far) start now (adding begun (changed_entries q old new)) (Ok tt)
    relisting_ends alike = goes_end (rest q a b so_far) (is.goes so_far) tt (alike q so_far)

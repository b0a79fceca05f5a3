-- Transactions apart may be run in either order.
use Rattle.std.proofs.Common.{◌≡◌, Bool, true, false, cond, ◌||◌, refl, ap, subst, sym, ◌∙◌, List, [], ◌∷◌, Contains}
use Rattle.std.proofs.lemmas.Bool.{true≢false}
use Rattle.std.specs.Ordering.{eq_by_cmp}
use Rattle.fx_store.specs.declared.changes.Change.{Change}
use Rattle.fx_store.specs.Names.{path_cmp}
use Rattle.fx_store.specs.Orders.{path_eq_same}
use Rattle.fx_store.specs.Whole.{Store, over}
use Rattle.fx_spec.specs.SpecTree.{SpecTree}
use Rattle.fx_spec.specs.CommandTree.{CommandTree}
use Rattle.fx_spec.specs.Task.{after, consulted, written}
use Rattle.fx_spec.specs.Transaction.{end, way, left, kept, transaction, is_done}
use Rattle.fx_spec.specs.Laws.{SameCourse}
use Rattle.fx_spec.proofs.Tasks.{after-written, depends_on_way}
use Rattle.fx_laws.specs.Apart.{OthersStay, SparesConsulted, AnswersAlike, ApartCommute}
use Rattle.fx_laws.proofs.Among.{Path, Each, Among, among_once, contains, same_on_all, is_set, over_unset, over_set}
use Rattle.fx_laws.proofs.Touched.{written_consulted}

-- what a transaction leaves is the filestore with what it keeps on top
left_over : (root : SpecTree) (t : List CommandTree) (S : Store) → left root t S ≡ over S (kept root t S)
left_over root t S = at (is_done (end root t S))
  where
    at : (b : Bool) → cond b (after S (transaction root t)) S ≡ over S (cond b (written S (transaction root t)) [])
    at true = after-written (transaction root t) S
    at false = refl

-- a path with a change is among those of the changes
set_among : (ps : List Path) (cs : List Change) (p : Path) → Each (λ (c : Change). Among ps c.path) cs → is_set cs p ≡ true → Among ps p
set_among ps [] p each h = absurd (true≢false (sym h))
set_among ps (c ∷ cs) p each h = at (eq_by_cmp path_cmp p c.path) refl h (λ k. set_among ps cs p each.1 k)
  where
    at : (b : Bool) → eq_by_cmp path_cmp p c.path ≡ b → (b || is_set cs p) ≡ true → (is_set cs p ≡ true → Among ps p) → Among ps p
    at true e h rest = subst (Among ps) (sym (path_eq_same p c.path e)) each.0
    at false e h rest = rest h

-- what is kept is set at consulted paths
kept_consulted : (root : SpecTree) (t : List CommandTree) (S : Store) (p : Path) → is_set (kept root t S) p ≡ true → Contains (way root t S) p
kept_consulted root t S p h = contains (way root t S) p (among_once (consulted S (transaction root t)) p (at (is_done (end root t S)) h))
  where
    at : (b : Bool) → is_set (cond b (written S (transaction root t)) []) p ≡ true → Among (consulted S (transaction root t)) p
    at true h = set_among (consulted S (transaction root t)) (written S (transaction root t)) p (written_consulted root t S) h
    at false h = absurd (true≢false (sym h))

pub others_stay : OthersStay
others_stay root t S p none = ap (λ (T : Store). T p) (left_over root t S) ∙ over_unset S (kept root t S) p (at (is_set (kept root t S) p) refl)
  where
    at : (b : Bool) → is_set (kept root t S) p ≡ b → is_set (kept root t S) p ≡ false
    at true e = absurd (none (kept_consulted root t S p e))
    at false e = e

-- the course after a transaction that spares it
same_course : (root : SpecTree) (u t : List CommandTree) (S : Store) → SparesConsulted root u t S → SameCourse root t S (left root u S)
same_course root u t S spares = depends_on_way root t S (left root u S) (same_on_all S (left root u S) (way root t S) (λ p c. sym (spares p c)))

alike : (root : SpecTree) (u t : List CommandTree) (S : Store) → SparesConsulted root u t S → AnswersAlike root u t S
alike root u t S spares = let same = same_course root u t S spares in record { outputs = same.outputs; end = same.end }

-- the second transaction after the first leaves what it keeps without it, on top of what the first leaves
after_other : (root : SpecTree) (u t : List CommandTree) (S : Store) → SparesConsulted root u t S → left root t (left root u S) ≡ over (over S (kept root u S)) (kept root t S)
after_other root u t S spares =
    left_over root t (left root u S) ∙ (ap (λ cs. over (left root u S) cs) (same_course root u t S spares).kept ∙ ap (λ T. over T (kept root t S)) (left_over root u S))

-- two lists of changes, at each path: where one has a change at the path, the other leaves what stands there
over_both : (S : Store) (cs ds : List Change) (p : Path) → (is_set cs p ≡ true → over S ds p ≡ S p) → (is_set ds p ≡ true → over S cs p ≡ S p) → over (over S cs) ds p ≡ over (over S ds) cs p
over_both S cs ds p first second = at (is_set cs p) refl (is_set ds p) refl
  where
    at : (b : Bool) → is_set cs p ≡ b → (c : Bool) → is_set ds p ≡ c → over (over S cs) ds p ≡ over (over S ds) cs p
    at true e true f = over_set (over S cs) S ds p f ∙ (first e ∙ (sym (second f) ∙ over_set S (over S ds) cs p e))
    at true e false f = over_unset (over S cs) ds p f ∙ over_set S (over S ds) cs p e
    at false e true f = over_set (over S cs) S ds p f ∙ sym (over_unset (over S ds) cs p e)
    at false e false f = over_unset (over S cs) ds p f ∙ (over_unset S cs p e ∙ (sym (over_unset S ds p f) ∙ sym (over_unset (over S ds) cs p e)))

pub apart_commute : ApartCommute
apart_commute root t u S apart = record {
  first = alike root u t S apart.first;
  second = alike root t u S apart.second;
  left = λ p.
      ap (λ (T : Store). T p) (after_other root t u S apart.second)
      ∙ (over_both S (kept root t S) (kept root u S) p
      (λ e. sym (ap (λ (T : Store). T p) (left_over root u S)) ∙ apart.first p (kept_consulted root t S p e))
      (λ e. sym (ap (λ (T : Store). T p) (left_over root t S)) ∙ apart.second p (kept_consulted root u S p e))
      ∙ sym (ap (λ (T : Store). T p) (after_other root u t S apart.first)));
}

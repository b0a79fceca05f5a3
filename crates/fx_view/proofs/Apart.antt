-- The first reads that an edit leaves as they were: those before the first at a changed path.
use Rattle.std.proofs.Common.{◌≡◌, ℕ, suc, Bool, true, false, cond, List, [], ◌∷◌, ◌++◌, min, take, Option, Some, None, is_some, IsSome, refl, sym, ap, subst, ◌∙◌, arith}
use Rattle.std.specs.Prelude.{slice_get}
use Rattle.std.specs.Ordering.{eq_by_cmp}
use Rattle.std.proofs.lemmas.Bool.{false≢true}
use Rattle.fx_base.proofs.Names.{path_itself}
use Rattle.fx_store.specs.declared.changes.Change.{Change}
use Rattle.fx_store.specs.declared.node.Node.{Node}
use Rattle.fx_store.specs.Changes.{changed_paths}
use Rattle.fx_store.specs.Names.{path_cmp}
use Rattle.fx_store.specs.Orders.{path_eq_same}
use Rattle.fx_view.specs.OwnList.{OwnList}
use Rattle.fx_view.specs.ReadList.{ReadList}
use Rattle.fx_view.specs.Reads.{read_at, is_among, count_before}
use Rattle.fx_view.specs.Own.{own_at, put_own, put_all, SameOver}
use Rattle.fx_view.proofs.Growing.{unknown_by_read}
use Rattle.fx_view.proofs.Owning.{own_at-put}

abbrev Path : Type 0
Path = List (List ℕ)

-- ---- before the first at one of some paths

-- a path among them is at none of these reads
none_before : (paths : List Path) (reads : ReadList) (p : Path) → is_among paths p ≡ true → read_at (take (count_before paths reads) reads) p ≡ None
none_before paths [] p among = refl
none_before paths (e ∷ es) p among = at (is_among paths e.0) refl (none_before paths es p among)
  where
    apart : (b : Bool) → eq_by_cmp path_cmp p e.0 ≡ b → is_among paths e.0 ≡ false → read_at (take (count_before paths es) es) p ≡ None → cond b (Some e.1) (read_at (take (count_before paths es) es) p) ≡ None
    apart true same not rest = absurd (false≢true (sym not ∙ (ap (is_among paths) (sym (path_eq_same p e.0 same)) ∙ among)))
    apart false same not rest = rest

    at : (b : Bool) → is_among paths e.0 ≡ b → read_at (take (count_before paths es) es) p ≡ None → read_at (take (cond b 0 (suc (count_before paths es))) (e ∷ es)) p ≡ None
    at true is rest = refl
    at false is rest = apart (eq_by_cmp path_cmp p e.0) refl is rest

-- the read after them, where there is one, is at one of the paths
pub next_among : (paths : List Path) (reads : ReadList) (r : Path × (Option Node × ℕ)) → slice_get reads (count_before paths reads) ≡ Some r → is_among paths r.0 ≡ true
next_among paths [] r here = absurd (cc)
next_among paths (e ∷ es) r here = at (is_among paths e.0) refl here (next_among paths es r)
  where
    at : (b : Bool) → is_among paths e.0 ≡ b → slice_get (e ∷ es) (cond b 0 (suc (count_before paths es))) ≡ Some r → (slice_get es (count_before paths es) ≡ Some r → is_among paths r.0 ≡ true) → is_among paths r.0 ≡ true
    at true is here rest = let same : e ≡ r = cc in subst (λ (r : Path × (Option Node × ℕ)). is_among paths r.0 ≡ true) same is
    at false is here rest = rest here

-- ---- one path more

among_append : (ps qs : List Path) (p : Path) → is_among (ps ++ qs) p ≡ cond (is_among ps p) true (is_among qs p)
among_append [] qs p = refl
among_append (q ∷ ps) qs p = at (eq_by_cmp path_cmp q p) (among_append ps qs p)
  where
    at : (b : Bool) → is_among (ps ++ qs) p ≡ cond (is_among ps p) true (is_among qs p) → cond b true (is_among (ps ++ qs) p) ≡ cond (cond b true (is_among ps p)) true (is_among qs p)
    at true rest = refl
    at false rest = rest

pub count_append : (ps qs : List Path) (reads : ReadList) → count_before (ps ++ qs) reads ≡ min (count_before ps reads) (count_before qs reads)
count_append ps qs [] = refl
count_append ps qs (e ∷ es) = ap (λ b. cond b 0 (suc (count_before (ps ++ qs) es))) (among_append ps qs e.0) ∙ at (is_among ps e.0) (is_among qs e.0) (count_append ps qs es)
  where
    at : (b c : Bool) → count_before (ps ++ qs) es ≡ min (count_before ps es) (count_before qs es)
        → cond (cond b true c) 0 (suc (count_before (ps ++ qs) es)) ≡ min (cond b 0 (suc (count_before ps es))) (cond c 0 (suc (count_before qs es)))
    at true true rest = omega arith
    at true false rest = omega arith
    at false true rest = omega arith
    at false false rest = omega (arith, rest)

-- ---- changes

own_apart : (own : OwnList) (cs : List Change) (p : Path) → is_among (changed_paths cs) p ≡ false → own_at own p ≡ own_at (put_all own cs) p
own_apart own [] p apart = refl
own_apart own (c ∷ cs) p apart = at (eq_by_cmp path_cmp c.path p) refl apart (own_apart (put_own own c.path c.node) cs p)
  where
    not_it : (b : Bool) → eq_by_cmp path_cmp p c.path ≡ b → eq_by_cmp path_cmp c.path p ≡ false → own_at own p ≡ cond b (Some c.node) (own_at own p)
    not_it true same not = absurd (false≢true (sym not ∙ (ap (λ q. eq_by_cmp path_cmp q p) (sym (path_eq_same p c.path same)) ∙ path_itself p)))
    not_it false same not = refl

    at : (b : Bool) → eq_by_cmp path_cmp c.path p ≡ b → cond b true (is_among (changed_paths cs) p) ≡ false
        → (is_among (changed_paths cs) p ≡ false → own_at (put_own own c.path c.node) p ≡ own_at (put_all (put_own own c.path c.node) cs) p)
        → own_at own p ≡ own_at (put_all (put_own own c.path c.node) cs) p
    at true is apart rest = absurd (cc)
    at false is apart rest = not_it (eq_by_cmp path_cmp p c.path) refl is ∙ sym (own_at-put own c.path c.node p) ∙ rest apart

-- own changes stay the same over the reads before the first at a changed path
pub same_before : (own : OwnList) (cs : List Change) (reads : ReadList) → SameOver (take (count_before (changed_paths cs) reads) reads) (own_at own) (own_at (put_all own cs))
same_before own cs reads p some = at (is_among (changed_paths cs) p) refl
  where
    at : (b : Bool) → is_among (changed_paths cs) p ≡ b → own_at own p ≡ own_at (put_all own cs) p
    at true among =
        let few = take (count_before (changed_paths cs) reads) reads in
        absurd (false≢true (sym (ap is_some (unknown_by_read few p (none_before (changed_paths cs) reads p among))) ∙ some))
    at false apart = own_apart own cs p apart

-- a changed path has an own change from then on
put_stays : (own : OwnList) (cs : List Change) (p : Path) → IsSome (own_at own p) → IsSome (own_at (put_all own cs) p)
put_stays own [] p some = some
put_stays own (c ∷ cs) p some = put_stays (put_own own c.path c.node) cs p (subst IsSome (sym (own_at-put own c.path c.node p)) (at (eq_by_cmp path_cmp p c.path)))
  where
    at : (b : Bool) → IsSome (cond b (Some c.node) (own_at own p))
    at true = refl
    at false = some

pub put_among : (own : OwnList) (cs : List Change) (p : Path) → is_among (changed_paths cs) p ≡ true → IsSome (own_at (put_all own cs) p)
put_among own [] p among = absurd (cc)
put_among own (c ∷ cs) p among = at (eq_by_cmp path_cmp c.path p) refl among (put_among (put_own own c.path c.node) cs p)
  where
    it_is : eq_by_cmp path_cmp c.path p ≡ true → IsSome (own_at (put_own own c.path c.node) p)
    it_is same = subst IsSome (sym (own_at-put own c.path c.node p)) (ap (λ b. is_some (cond b (Some c.node) (own_at own p))) (ap (eq_by_cmp path_cmp p) (path_eq_same c.path p same) ∙ path_itself p))

    at : (b : Bool) → eq_by_cmp path_cmp c.path p ≡ b → cond b true (is_among (changed_paths cs) p) ≡ true
        → (is_among (changed_paths cs) p ≡ true → IsSome (own_at (put_all (put_own own c.path c.node) cs) p))
        → IsSome (own_at (put_all (put_own own c.path c.node) cs) p)
    at true same among rest = put_stays (put_own own c.path c.node) cs p (it_is same)
    at false same among rest = rest among

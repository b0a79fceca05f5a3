-- Own changes, one more at a time, and the reads that they need.
use Rattle.std.proofs.Common.{◌≡◌, ℕ, Bool, true, false, cond, List, [], ◌∷◌, ◌++◌, Option, Some, None, is_some, IsSome, refl, sym, ap, subst, ◌∙◌}
use Rattle.std.specs.Ordering.{eq_by_cmp}
use Rattle.std.proofs.lemmas.Bool.{true≢false, false≢true}
use mathlib.Core.Path.{fun_ext}
use Rattle.fx_base.proofs.Names.{path_itself}
use Rattle.fx_store.specs.declared.node.Node.{Node}
use Rattle.fx_store.specs.declared.changes.Change.{Change}
use Rattle.fx_store.specs.Changes.{changed_paths}
use Rattle.fx_store.specs.Names.{path_cmp}
use Rattle.fx_store.specs.Rule.{AllKnown, changed, seen}
use Rattle.fx_store.specs.Orders.{path_eq_same}
use Rattle.fx_store.specs.Whole.{Store, update, over}
use Rattle.fx_view.specs.OwnList.{OwnList}
use Rattle.fx_view.specs.ReadList.{ReadList}
use Rattle.fx_view.specs.Reads.{read_at, known_of, IsRead}
use Rattle.fx_view.specs.Own.{own_at, put_own, put_all, AreRead}
use Rattle.fx_view.proofs.Growing.{read_at-more, read_known}

abbrev Path : Type 0
Path = List (List ℕ)

-- what is set at a path stands there, and each other path keeps its own change
pub own_at-put : (own : OwnList) (path : Path) (now : Option Node) (q : Path) → own_at (put_own own path now) q ≡ cond (eq_by_cmp path_cmp q path) (Some now) (own_at own q)
own_at-put [] path now q = refl
own_at-put (e ∷ es) path now q = at (eq_by_cmp path_cmp path e.0) refl (own_at-put es path now q)
  where
    both : (c : Bool) → eq_by_cmp path_cmp q e.0 ≡ c → path ≡ e.0 → cond c (Some now) (own_at es q) ≡ cond (eq_by_cmp path_cmp q path) (Some now) (cond c (Some e.1) (own_at es q))
    both true t same = sym (ap (λ b. cond b (Some now) (Some e.1)) (ap (eq_by_cmp path_cmp q) same ∙ t))
    both false t same = sym (ap (λ b. cond b (Some now) (own_at es q)) (ap (eq_by_cmp path_cmp q) same ∙ t))

    apart : (c d : Bool) → eq_by_cmp path_cmp q e.0 ≡ c → eq_by_cmp path_cmp q path ≡ d → eq_by_cmp path_cmp path e.0 ≡ false → cond c (Some e.1) (cond d (Some now) (own_at es q)) ≡ cond d (Some now) (cond c (Some e.1) (own_at es q))
    apart true true s t differ =
        let same : path ≡ e.0 = sym (path_eq_same q path t) ∙ path_eq_same q e.0 s in
        absurd (true≢false (sym (path_itself path) ∙ (ap (eq_by_cmp path_cmp path) same ∙ differ)))
    apart true false s t differ = refl
    apart false true s t differ = refl
    apart false false s t differ = refl

    at : (b : Bool) → eq_by_cmp path_cmp path e.0 ≡ b → own_at (put_own es path now) q ≡ cond (eq_by_cmp path_cmp q path) (Some now) (own_at es q)
        → own_at (cond b ((e.0, now) ∷ es) (e ∷ put_own es path now)) q ≡ cond (eq_by_cmp path_cmp q path) (Some now) (cond (eq_by_cmp path_cmp q e.0) (Some e.1) (own_at es q))
    at true t rest = both (eq_by_cmp path_cmp q e.0) refl (path_eq_same path e.0 t)
    at false t rest = ap (cond (eq_by_cmp path_cmp q e.0) (Some e.1)) rest ∙ apart (eq_by_cmp path_cmp q e.0) (eq_by_cmp path_cmp q path) refl refl t

-- ---- each changed path was read

pub AreRead-none : (reads : ReadList) → AreRead [] reads
AreRead-none reads path some = absurd (false≢true some)

pub AreRead-put : (own : OwnList) (reads : ReadList) (path : Path) (now : Option Node) → AreRead own reads → IsRead reads path → AreRead (put_own own path now) reads
AreRead-put own reads path now before here q some = at (eq_by_cmp path_cmp q path) refl (subst IsSome (own_at-put own path now q) some)
  where
    at : (b : Bool) → eq_by_cmp path_cmp q path ≡ b → IsSome (cond b (Some now) (own_at own q)) → IsRead reads q
    at true t some = subst (IsRead reads) (sym (path_eq_same q path t)) here
    at false t some = before q some

pub IsRead-more : (reads more : ReadList) (path : Path) → IsRead reads path → IsRead (reads ++ more) path
IsRead-more reads more path some = at (read_at reads path) refl some
  where
    at : (r : Option (Option Node × ℕ)) → read_at reads path ≡ r → IsSome r → IsRead (reads ++ more) path
    at None e some = absurd (false≢true some)
    at (Some x) e some = ap is_some (read_at-more reads more path x e)

pub AreRead-more : (own : OwnList) (reads more : ReadList) → AreRead own reads → AreRead own (reads ++ more)
AreRead-more own reads more before q some = IsRead-more reads more q (before q some)

-- over later reads
pub read_more : (own : OwnList) (old new more : ReadList) → new ≡ old ++ more → AreRead own old → AreRead own new
read_more own old new more kept read = subst (AreRead own) (sym kept) (AreRead-more own old more read)

-- and with changes at known paths
pub read_put : (own : OwnList) (reads : ReadList) (cs : List Change) → AllKnown (known_of reads) (changed_paths cs) → AreRead own reads → AreRead (put_all own cs) reads
read_put own reads [] known read = read
read_put own reads (c ∷ cs) known read = read_put (put_own own c.path c.node) reads cs known.1 (AreRead-put own reads c.path c.node read (read_known reads c.path known.0))

-- ---- own changes over a filestore

pub changed-put : (S : Store) (own : OwnList) (c : Change) → changed (own_at (put_own own c.path c.node)) S ≡ update (changed (own_at own) S) c
changed-put S own c = fun_ext (λ p. ap (λ o. seen o (S p)) (own_at-put own c.path c.node p) ∙ at (eq_by_cmp path_cmp p c.path) (own_at own p) (S p))
  where
    at : (b : Bool) (o : Option (Option Node)) (s : Option Node) → seen (cond b (Some c.node) o) s ≡ cond b c.node (seen o s)
    at true o s = refl
    at false o s = refl

pub changed-put_all : (S : Store) (own : OwnList) (cs : List Change) → changed (own_at (put_all own cs)) S ≡ over (changed (own_at own) S) cs
changed-put_all S own [] = refl
changed-put_all S own (c ∷ cs) = changed-put_all S (put_own own c.path c.node) cs ∙ ap (λ T. over T cs) (changed-put S own c)

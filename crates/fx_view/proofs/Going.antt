-- A reader that has gone on: by nothing, on from there, and over more paths.
use Rattle.std.proofs.Common.{◌≡◌, ℕ, List, [], ◌∷◌, ◌++◌, Contains, All, refl, ap, ◌∙◌, sym, subst, append_assoc}
use Rattle.std.specs.Map.{keys_of}
use Rattle.std.proofs.lemmas.List.{append-nil}
use Rattle.std.proofs.lemmas.List.Elements.{All-nil, All-append, All-weaker, Contains-append_left, Contains-append_right}
use Rattle.fx_view.specs.Meaning.{Meaning}
use Rattle.fx_view.specs.Reads.{known_of}
use Rattle.fx_store.specs.Rule.{AllKnown}
use Rattle.fx_view.specs.Follows.{Went, InOrder}
use Rattle.fx_view.proofs.Growing.{Grows, Grows-reads}
use Rattle.fx_view.proofs.Ordering.{InOrder-front, InOrder-then}

abbrev Path : Type 0
Path = List (List ℕ)

pub keys_of-append : {K X : Type 0} (xs ys : List (K × X)) → keys_of (xs ++ ys) ≡ keys_of xs ++ keys_of ys
keys_of-append [] ys = refl
keys_of-append (x ∷ xs) ys = ap (λ ks. x.0 ∷ ks) (keys_of-append xs ys)

module _ {R : Type 0} (m : Meaning R) where
  -- the reader keeps what it has
  pub Went-kept : (old new : R) (paths : List Path) → m.reads new ≡ m.reads old → m.complete new ≡ m.complete old → ((start : R) → m.vouches start old (m.reads old) → m.vouches start new (m.reads new)) → Went m old new paths
  Went-kept old new paths kept same vouched =
      record { more = []; kept = kept ∙ sym (append-nil (m.reads old)); only = All-nil (Contains paths); order = tt; same = same; vouched = vouched }

  pub Went-none : (old : R) (paths : List Path) → Went m old old paths
  Went-none old paths = Went-kept old old paths refl refl (λ start v. v)

  -- over a front of the paths
  pub Went-front : (old new : R) (ps rest qs : List Path) → qs ≡ ps ++ rest → Went m old new ps → Went m old new qs
  Went-front old new ps rest qs e went = subst (Went m old new) (sym e) (record {
    more = went.more;
    kept = went.kept;
    only = All-weaker (Contains ps) (Contains (ps ++ rest)) (λ p h. Contains-append_left ps rest p h) (keys_of went.more) went.only;
    order = InOrder-front (m.reads old) went.more ps rest went.order;
    same = went.same;
    vouched = went.vouched;
  })

  -- on from there, where all of the first paths are read
  pub Went-then : (old mid new : R) (ps qs : List Path) → AllKnown (known_of (m.reads mid)) ps → Went m old mid ps → Went m mid new qs → Went m old new (ps ++ qs)
  Went-then old mid new ps qs known first next = record {
    more = first.more ++ next.more;
    kept = next.kept ∙ (ap (λ rs. rs ++ next.more) first.kept ∙ append_assoc (m.reads old) first.more next.more);
    only =
        subst (All (Contains (ps ++ qs))) (sym (keys_of-append first.more next.more))
        (All-append (Contains (ps ++ qs)) (keys_of first.more) (keys_of next.more)
        (All-weaker (Contains ps) (Contains (ps ++ qs)) (λ p h. Contains-append_left ps qs p h) (keys_of first.more) first.only)
        (All-weaker (Contains qs) (Contains (ps ++ qs)) (λ p h. Contains-append_right ps qs p h) (keys_of next.more) next.only));
    order =
        InOrder-then (m.reads old) first.more next.more ps qs (subst (λ rs. AllKnown (known_of rs) ps) first.kept known) first.order
        (subst (λ rs. InOrder rs next.more qs) first.kept next.order);
    same = next.same ∙ first.same;
    vouched = λ start v. next.vouched start (first.vouched start v);
  }

  -- what was known stays known
  pub Went-grows : (old new : R) (paths : List Path) → Went m old new paths → Grows (known_of (m.reads old)) (known_of (m.reads new))
  Went-grows old new paths went = subst (λ rs. Grows (known_of (m.reads old)) (known_of rs)) (sym went.kept) (Grows-reads (m.reads old) went.more)

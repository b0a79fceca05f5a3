-- Links are set among files and directories, one path after another.
use Rattle.fx_table.proofs.Prelude.{◌≡◌, Bool, true, false, cond, List, [], ◌∷◌, ◌++◌, map, reverse, length, Some, None, refl, sym, ◌∙◌, ap, subst, append_assoc, append-nil, arith, Less, Equal, Greater, is_eq, is_lt, eq_by_cmp, ordering_reverse, AllByRecursion, IsStrictlySortedBy, find, put, by_order, false≢true, map-append, reverse-append, all_front, all_end, all_both, greater_from_less, Link, Change, path_cmp, path_total, Mapped, with_links, link_change, link_in, links_in, mapped_of, node_or_dir, change_of, changes_of, TableLink, Ordering, is_less, pending, MakesLink, MakeLinks, CanMerge, MovesLinks, StopsAt, MovesAll, Parts}

abbrev AllAbove : Parts → List TableLink → Type 0
AllAbove p ls = AllByRecursion (λ (l : TableLink). path_cmp p l.path ≡ Less) ls

abbrev entry : TableLink → Mapped
entry l = (l.path, Link l.text)

-- ---- links that are set

put_behind : (l : TableLink) (x : Mapped) (es : List Mapped) → path_cmp x.0 l.path ≡ Less → put path_cmp l.path (Link l.text) (x ∷ es) ≡ x ∷ put path_cmp l.path (Link l.text) es
put_behind l x es less = ap (λ o. by_order o (entry l ∷ x ∷ es) ((x.0, Link l.text) ∷ es) (x ∷ put path_cmp l.path (Link l.text) es)) (greater_from_less path_total x.0 l.path less)

put_before : (l : TableLink) (x : Mapped) (es : List Mapped) → path_cmp l.path x.0 ≡ Less → put path_cmp l.path (Link l.text) (x ∷ es) ≡ entry l ∷ x ∷ es
put_before l x es less = ap (λ o. by_order o (entry l ∷ x ∷ es) ((x.0, Link l.text) ∷ es) (x ∷ put path_cmp l.path (Link l.text) es)) less

-- what comes before all links stays in front
links_behind : (x : Mapped) (es : List Mapped) (ls : List TableLink) → AllAbove x.0 ls → with_links (x ∷ es) ls ≡ x ∷ with_links es ls
links_behind x es [] above = refl
links_behind x es (l ∷ ls) above = ap (λ fs. with_links fs ls) (put_behind l x es above.0) ∙ links_behind x (put path_cmp l.path (Link l.text) es) ls above.1

all_above : (l : TableLink) (ls : List TableLink) → AllByRecursion (λ q. path_cmp l.path q ≡ Less) (map (λ (k : TableLink). k.path) ls) → AllAbove l.path ls
all_above l [] all = tt
all_above l (k ∷ ls) all = (all.0, all_above l ls all.1)

links_before : (x : Mapped) (es : List Mapped) (taken ls : List TableLink) → IsStrictlySortedBy path_cmp (map (λ (l : TableLink). l.path) (taken ++ ls)) → AllByRecursion (λ (l : TableLink). path_cmp l.path x.0 ≡ Less) taken → with_links (x ∷ es) (taken ++ ls) ≡ map entry taken ++ with_links (x ∷ es) ls
unfolding IsStrictlySortedBy
links_before x es [] ls up before = refl
links_before x es (l ∷ taken) ls up before =
    ap (λ fs. with_links fs (taken ++ ls)) (put_before l x es before.0)
    ∙ (links_behind (entry l) (x ∷ es) (taken ++ ls) (all_above l (taken ++ ls) up.0)
    ∙ ap (λ fs. entry l ∷ fs) (links_before x es taken ls up.1 before.1))

links_alone : (ls : List TableLink) → IsStrictlySortedBy path_cmp (map (λ (l : TableLink). l.path) ls) → with_links [] ls ≡ map entry ls
unfolding IsStrictlySortedBy
links_alone [] up = refl
links_alone (l ∷ ls) up = links_behind (entry l) [] ls (all_above l ls up.0) ∙ ap (λ fs. entry l ∷ fs) (links_alone ls up.1)

changes_entries : (ls : List TableLink) → changes_of (map entry ls) ≡ map link_change ls
changes_entries [] = refl
changes_entries (l ∷ ls) = ap (λ cs. link_change l ∷ cs) (changes_entries ls)

-- ---- links that are pending

pending_push : (cs : List Change) (c : Change) → pending (cs ++ c ∷ []) ≡ link_in c ∷ pending cs
pending_push [] c = refl
pending_push (d ∷ cs) c = ap (λ ls. ls ++ link_in d ∷ []) (pending_push cs c)

pending_reversed : (cs : List Change) → pending (reverse cs) ≡ links_in cs
pending_reversed [] = refl
pending_reversed (c ∷ cs) = ap pending (reverse-append (c ∷ []) cs) ∙ (pending_push (reverse cs) c ∙ ap (λ ls. link_in c ∷ ls) (pending_reversed cs))

pub made_reversed : (cs new : List Change) → new ≡ reverse cs → MakeLinks cs → MakeLinks new
made_reversed cs new is made = subst MakeLinks (sym is) (go cs made)
  where
    go : (cs : List Change) → MakeLinks cs → MakeLinks (reverse cs)
    go [] made = tt
    go (c ∷ cs) made = subst MakeLinks (sym (reverse-append (c ∷ []) cs)) (all_both MakesLink (reverse cs) (c ∷ []) (go cs made.1) (made.0, tt))

pub moves_none : (rest : List Change) (path : Parts) (all : List Change) → MakeLinks rest → MovesLinks rest rest path all all
moves_none rest path all made = record { taken = []; pend = refl; moved = sym (append-nil all); before = tt; made = made }

-- one link more is moved
pub moves_more : (old now new : List Change) (path : Parts) (all mid end : List Change) (c : Change) → MovesLinks old now path all mid → now ≡ new ++ c ∷ [] → path_cmp c.path path ≡ Less → end ≡ mid ++ c ∷ [] → MovesLinks old new path all end
moves_more old now new path all mid end c moves last less more =
    let made = subst MakeLinks last moves.made in
    record {
      taken = moves.taken ++ link_in c ∷ [];
      pend = moves.pend ∙ (ap (λ l. moves.taken ++ pending l) last ∙ (ap (λ l. moves.taken ++ l) (pending_push new c) ∙ sym (append_assoc moves.taken (link_in c ∷ []) (pending new))));
      moved = more ∙ (ap (λ l. l ++ c ∷ []) moves.moved ∙ (append_assoc all (map link_change moves.taken) (c ∷ []) ∙ (ap (λ d. all ++ (map link_change moves.taken ++ d ∷ [])) (all_end MakesLink new (c ∷ []) made).0 ∙ ap (λ l. all ++ l) (sym (map-append link_change moves.taken (link_in c ∷ []))))));
      before = all_both (λ (l : TableLink). path_cmp l.path path ≡ Less) moves.taken (link_in c ∷ []) moves.before (less, tt);
      made = all_front MakesLink new (c ∷ []) made;
    }

not_less : (o : Ordering) (b : Bool) → b ≡ is_lt o → b ≡ false → o ≡ Less → ⊥
not_less o b is fails less = false≢true (sym fails ∙ (is ∙ ap is_lt less))

pub less_is : (o : Ordering) (b : Bool) → b ≡ is_lt o → b ≡ true → o ≡ Less
less_is o b is holds = is_less o (sym is ∙ holds)

-- the next one is not before the path
pub moves_stop : (old now new kept : List Change) (path : Parts) (all mid : List Change) (c : Change) (o : Ordering) (b : Bool) → MovesLinks old now path all mid → now ≡ new ++ c ∷ [] → kept ≡ new ++ c ∷ [] → o ≡ path_cmp c.path path → b ≡ is_lt o → b ≡ false → MovesAll old kept path all mid
moves_stop old now new kept path all mid c o b moves last back is tests fails =
    let same : now ≡ kept = last ∙ sym back in
    record {
      moves = subst (λ l. MovesLinks old l path all mid) same moves;
      stops = subst (λ l. StopsAt path l) (sym (ap pending back ∙ pending_push new c)) (λ less. not_less o b tests fails (is ∙ less));
    }

pub moves_end : (old now left : List Change) (path : Parts) (all mid : List Change) → MovesLinks old now path all mid → now ≡ left ++ [] → length left ≡ 0 → MovesAll old left path all mid
moves_end old now [] path all mid moves is none = record { moves = subst (λ l. MovesLinks old l path all mid) is moves; stops = tt }
moves_end old now (c ∷ left) path all mid moves is none = absurd (omega (arith, none))

-- ---- one path after another

abbrev IsApart : List Mapped → List TableLink → Type 0
IsApart es ls = AllByRecursion (λ (l : TableLink). find path_cmp l.path es ≡ None) ls

-- what is left to merge gives the rest of the whole
pub record Merges (es : List Mapped) (links : List TableLink) (left rest all : List Change) : Type 0 where
  pub whole : changes_of (with_links es links) ≡ all ++ changes_of (with_links (mapped_of left) (pending rest))
  pub apart : IsApart (mapped_of left) (pending rest)
  pub ascending : IsStrictlySortedBy path_cmp (map (λ (l : TableLink). l.path) (pending rest))
  pub made : MakeLinks rest
  pub set : left ≡ changes_of (mapped_of left)

abbrev pub IsMerging : List Change → List TableLink → List Change → List Change → List Change → Type 0
IsMerging found links yielded rest all = (left : List Change) → found ≡ yielded ++ left → Merges (mapped_of found) links left rest all

pub merging_none : (found links rest all : List Change) → found ≡ changes_of (mapped_of found) → MakeLinks links → CanMerge (mapped_of found) (links_in links) → rest ≡ reverse links → all ≡ [] → IsMerging found (links_in links) [] rest all
merging_none found links rest all set made can is none left same =
    let pend : pending rest ≡ links_in links = ap pending is ∙ pending_reversed links in
    subst (λ l. Merges (mapped_of found) (links_in links) l rest all) same (record {
      whole = ap (λ l. changes_of (with_links (mapped_of found) l)) (sym pend) ∙ ap (λ l. l ++ changes_of (with_links (mapped_of found) (pending rest))) (sym none);
      apart = subst (IsApart (mapped_of found)) (sym pend) can.apart;
      ascending = subst (λ l. IsStrictlySortedBy path_cmp (map (λ (k : TableLink). k.path) l)) (sym pend) can.ascending;
      made = made_reversed links rest is made;
      set = set;
    })

apart_tail : (e : Mapped) (es : List Mapped) (ls : List TableLink) → IsApart (e ∷ es) ls → IsApart es ls
apart_tail e es [] apart = tt
apart_tail e es (l ∷ ls) apart = (by (eq_by_cmp path_cmp l.path e.0) apart.0, apart_tail e es ls apart.1)
  where
    by : (b : Bool) → cond b (Some e.1) (find path_cmp l.path es) ≡ None → find path_cmp l.path es ≡ None
    by true is = cc
    by false is = is

apart_head : (l : TableLink) (e : Mapped) (es : List Mapped) → find path_cmp l.path (e ∷ es) ≡ None → path_cmp l.path e.0 ≡ Equal → ⊥
apart_head l e es none tied = let wrong : Some e.1 ≡ None = ap (λ o. cond (is_eq o) (Some e.1) (find path_cmp l.path es)) (sym tied) ∙ none in cc

greater_is : (p q : Parts) → path_cmp p q ≡ Greater → path_cmp q p ≡ Less
greater_is p q e = path_total.antisymm q p ∙ ap ordering_reverse e

above_all : (p : Parts) (l : TableLink) (ls : List TableLink) → path_cmp p l.path ≡ Less → AllAbove l.path ls → AllAbove p ls
above_all p l [] less all = tt
above_all p l (k ∷ ls) less all = (path_total.trans p l.path k.path less all.0, above_all p l ls less all.1)

all_behind : (e : Mapped) (es : List Mapped) (ls : List TableLink) → IsStrictlySortedBy path_cmp (map (λ (l : TableLink). l.path) ls) → IsApart (e ∷ es) ls → StopsAt e.0 ls → AllAbove e.0 ls
unfolding IsStrictlySortedBy
all_behind e es [] up apart stops = tt
all_behind e es (l ∷ ls) up apart stops = by (path_cmp l.path e.0) refl
  where
    by : (o : Ordering) → path_cmp l.path e.0 ≡ o → AllAbove e.0 (l ∷ ls)
    by Less is = absurd (stops is)
    by Equal is = absurd (apart_head l e es apart.0 is)
    by Greater is = let less = greater_is l.path e.0 is in (less, above_all e.0 l ls less (all_above l ls up.0))

sorted_end : (xs ys : List TableLink) → IsStrictlySortedBy path_cmp (map (λ (l : TableLink). l.path) (xs ++ ys)) → IsStrictlySortedBy path_cmp (map (λ (l : TableLink). l.path) ys)
unfolding IsStrictlySortedBy
sorted_end [] ys up = up
sorted_end (x ∷ xs) ys up = sorted_end xs ys up.1

same_heads : {A : Type 0} (x y : A) (xs ys : List A) → x ∷ xs ≡ y ∷ ys → (x ≡ y) × (xs ≡ ys)
same_heads x y xs ys e = (cc, cc)

pub merging_more : (found : List Change) (links : List TableLink) (yielded rest rest' all mid end : List Change) (c : Change) → IsMerging found links yielded rest all → MovesAll rest rest' c.path all mid → end ≡ mid ++ c ∷ [] → IsMerging found links (yielded ++ c ∷ []) rest' end
merging_more found links yielded rest rest' all mid end c merging moves is left same =
    let was = merging (c ∷ left) (same ∙ append_assoc yielded (c ∷ []) left) in
    let m = moves.moves in
    let e : Mapped = (c.path, node_or_dir c.node) in
    let F = mapped_of left in
    let up = subst (λ l. IsStrictlySortedBy path_cmp (map (λ (k : TableLink). k.path) l)) m.pend was.ascending in
    let apart = subst (IsApart (e ∷ F)) m.pend was.apart in
    let behind = all_end (λ (l : TableLink). find path_cmp l.path (e ∷ F) ≡ None) m.taken (pending rest') apart in
    let above = all_behind e F (pending rest') (sorted_end m.taken (pending rest') up) behind moves.stops in
    let sets = same_heads c (change_of e) left (changes_of F) was.set in
    let split : with_links (e ∷ F) (pending rest) ≡ map entry m.taken ++ (e ∷ with_links F (pending rest')) =
    ap (with_links (e ∷ F)) m.pend ∙ (links_before e F m.taken (pending rest') up m.before ∙ ap (λ l. map entry m.taken ++ l) (links_behind e F (pending rest') above)) in
    record {
      whole =
          was.whole
          ∙ (ap (λ l. all ++ changes_of l) split
          ∙ (ap (λ l. all ++ l) (map-append change_of (map entry m.taken) (e ∷ with_links F (pending rest')))
          ∙ (ap (λ l. all ++ (l ++ change_of e ∷ changes_of (with_links F (pending rest')))) (changes_entries m.taken)
          ∙ (sym (append_assoc all (map link_change m.taken) (change_of e ∷ changes_of (with_links F (pending rest'))))
          ∙ (ap (λ l. l ++ change_of e ∷ changes_of (with_links F (pending rest'))) (sym m.moved)
          ∙ (ap (λ d. mid ++ d ∷ changes_of (with_links F (pending rest'))) (sym sets.0)
          ∙ (sym (append_assoc mid (c ∷ []) (changes_of (with_links F (pending rest')))) ∙ ap (λ l. l ++ changes_of (with_links F (pending rest'))) (sym is))))))));
      apart = apart_tail e F (pending rest') behind;
      ascending = sorted_end m.taken (pending rest') up;
      made = m.made;
      set = sets.1;
    }

pub merging_end : (found : List Change) (links : List TableLink) (yielded rest all end : List Change) → IsMerging found links yielded rest all → found ≡ yielded → end ≡ all ++ map link_change (pending rest) → end ≡ changes_of (with_links (mapped_of found) links)
merging_end found links yielded rest all end merging is more =
    let was = merging [] (is ∙ sym (append-nil yielded)) in
    more ∙ (ap (λ l. all ++ l) (sym (ap changes_of (links_alone (pending rest) was.ascending) ∙ changes_entries (pending rest))) ∙ sym was.whole)

-- ---- all that is left

pub rest_moved : (old now new : List Change) (all mid end : List Change) (c : Change) → MakeLinks now → all ++ map link_change (pending old) ≡ mid ++ map link_change (pending now) → now ≡ new ++ c ∷ [] → end ≡ mid ++ c ∷ [] → all ++ map link_change (pending old) ≡ end ++ map link_change (pending new)
rest_moved old now new all mid end c made so last more =
    so ∙ (ap (λ l. mid ++ map link_change l) (ap pending last ∙ pending_push new c)
    ∙ (ap (λ d. mid ++ d ∷ map link_change (pending new)) (sym (all_end MakesLink new (c ∷ []) (subst MakeLinks last made)).0)
    ∙ (sym (append_assoc mid (c ∷ []) (map link_change (pending new))) ∙ ap (λ l. l ++ map link_change (pending new)) (sym more))))

pub rest_made : (now new : List Change) (c : Change) → MakeLinks now → now ≡ new ++ c ∷ [] → MakeLinks new
rest_made now new c made last = all_front MakesLink new (c ∷ []) (subst MakeLinks last made)

-- ---- changes that make links

pub made_links : (cs : List Change) → cs ≡ map link_change (links_in cs) → MakeLinks cs
made_links [] is = tt
made_links (c ∷ cs) is = let here = same_heads c (link_change (link_in c)) cs (map link_change (links_in cs)) is in (here.0, made_links cs here.1)

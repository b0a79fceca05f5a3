-- What the chunks of a list have to do with it.
use Rattle.std.proofs.Common.{◌≡◌, ℕ, zero, suc, ◌+◌, ◌-◌, ◌^◌, ◌<◌, ◌≤◌, ◌≢◌, List, [], ◌∷◌, ◌++◌, ◌⊎◌, length, take, drop, get_or, set, Some, None, slice_get, refl, ap, sym, subst, ◌∙◌, inl, inr, arith}
use Rattle.std.specs.List.{insert, remove}
use Rattle.std.proofs.Math.Seq.{split_at}
use Rattle.std.proofs.lemmas.Bool.{cases_lt}
use Rattle.std.proofs.lemmas.List.{append-nil, length-append, take_more, take_all, take-append-le, take-set, take-set-le, length-set, get_or_append_left, get_or_at, get_or-set_same, get_or-set_other, drop_all, take_more_set, append_assoc, take-append-drop}
use Rattle.std.proofs.lemmas.List.Concat.{flat_map-append}
use Rattle.std.proofs.lemmas.List.Edits.{insert-append_left, insert-append_right, remove-append_left, remove-append_right}
use Rattle.std.proofs.lemmas.Option.{slice_get_within, get_or_from_slice_get, slice_get-get_or, none-some}
use Rattle.fx_base.specs.Chunks.{Piece, AreChunks, AreCounted, IsChunkOf, joined, from_last}

module _ {X : Type 0} where
  get_right : (xs ys : List X) (i n : ℕ) → length xs ≡ n → n ≤ i → slice_get (xs ++ ys) i ≡ slice_get ys (i - n)
  get_right [] ys i n long le = ap (slice_get ys) (omega arith)
  get_right (x ∷ xs) ys zero n long le = absurd (omega arith)
  get_right (x ∷ xs) ys (suc i) n long le = get_right xs ys i (n - 1) (omega arith) (omega arith) ∙ ap (slice_get ys) (omega arith)

  get_left : (xs ys : List X) (i : ℕ) → i < length xs → slice_get (xs ++ ys) i ≡ slice_get xs i
  get_left [] ys i lt = absurd (omega arith)
  get_left (x ∷ xs) ys zero lt = refl
  get_left (x ∷ xs) ys (suc i) lt = get_left xs ys i (omega arith)

  joined-append : (cs ds : List (Piece X)) → joined (cs ++ ds) ≡ joined cs ++ joined ds
  joined-append cs ds = flat_map-append (λ (c : Piece X). c.items) cs ds

  joined_one : (c : Piece X) → joined (c ∷ []) ≡ c.items
  joined_one c = append-nil c.items

  pub joined-push : (cs : List (Piece X)) (c : Piece X) → joined (cs ++ c ∷ []) ≡ joined cs ++ c.items
  joined-push cs c = joined-append cs (c ∷ []) ∙ ap (λ ys. joined cs ++ ys) (joined_one c)

  pub joined_more : (cs : List (Piece X)) (k : ℕ) (d : Piece X) → k < length cs → joined (take (k + 1) cs) ≡ joined (take k cs) ++ (get_or cs k d).items
  joined_more cs k d lt = ap joined (take_more cs k d lt) ∙ joined-push (take k cs) (get_or cs k d)

  pub split : (cs : List (Piece X)) (k : ℕ) (d : Piece X) → k < length cs → joined cs ≡ joined (take k cs) ++ ((get_or cs k d).items ++ joined (drop (k + 1) cs))
  split cs k d lt =
      let next : suc k ≡ k + 1 = omega arith in
      ap joined (split_at cs k d lt) ∙ joined-append (take k cs) (get_or cs k d ∷ drop (suc k) cs) ∙ ap (λ n. joined (take k cs) ++ ((get_or cs k d).items ++ joined (drop n cs))) next

  -- one chunk more, behind all of them
  module _ (cs : List (Piece X)) (all : AreChunks cs) where
    pub more : (c : Piece X) → c.before ≡ length (joined cs) → length (joined cs) + length c.items < 2 ^ 63 → AreChunks (cs ++ c ∷ [])
    more c at few = record {
      before = λ k d lt. before k d lt (cases_lt k (length cs));
      few = subst (λ n. n < 2 ^ 63) (sym (ap length (joined-push cs c) ∙ length-append (joined cs) c.items)) few;
    }
      where
        before : (k : ℕ) (d : Piece X) → k < length (cs ++ c ∷ []) → (k < length cs) ⊎ (length cs ≤ k) → (get_or (cs ++ c ∷ []) k d).before ≡ length (joined (take k (cs ++ c ∷ [])))
        before k d lt (inl old) =
            ap (λ (c : Piece X). c.before) (get_or_append_left cs (c ∷ []) d k old) ∙ all.before k d old ∙ ap (λ ds. length (joined ds)) (sym (take-append-le k cs (c ∷ []) (omega arith)))
        before k d lt (inr new) =
            let long = length-append cs (c ∷ []) in
            let is : length cs ≡ k = omega arith in
            ap (λ (c : Piece X). c.before) (get_or_at cs c [] d k is) ∙ at ∙ ap (λ ds. length (joined ds)) (sym (take_all k cs (omega arith)) ∙ sym (take-append-le k cs (c ∷ []) (omega arith)))

  -- the last chunk with other items, at the same place
  module _ (cs : List (Piece X)) (all : AreChunks cs) (k : ℕ) (last : k + 1 ≡ length cs) (c d : Piece X) (here : c ≡ get_or cs k c) (same : d.before ≡ c.before) where
    whole : joined cs ≡ joined (take k cs) ++ c.items
    whole = sym (ap joined (take_all (k + 1) cs (omega arith))) ∙ joined_more cs k c (omega arith) ∙ ap (λ (e : Piece X). joined (take k cs) ++ e.items) (sym here)

    other : joined (set cs k d) ≡ joined (take k cs) ++ d.items
    other =
        let long = length-set cs k d in
        sym (ap joined (take_all (k + 1) (set cs k d) (omega arith))) ∙ ap joined (take_more_set cs k d (omega arith)) ∙ joined-push (take k cs) d

    pub with_same : d.items ≡ c.items → joined (set cs k d) ≡ joined cs
    with_same e = other ∙ ap (λ ys. joined (take k cs) ++ ys) e ∙ sym whole

    pub with_more : (x : X) → d.items ≡ c.items ++ x ∷ [] → joined (set cs k d) ≡ joined cs ++ x ∷ []
    with_more x e = other ∙ ap (λ ys. joined (take k cs) ++ ys) e ∙ sym (append_assoc (joined (take k cs)) c.items (x ∷ [])) ∙ ap (λ ys. ys ++ x ∷ []) (sym whole)

    pub with_last : length d.items ≤ length c.items + 1 → length (joined cs) + 1 < 2 ^ 63 → AreChunks (set cs k d)
    with_last short few = record {
      before = λ j e lt. before j e lt (cases_lt j k);
      few =
          let a = ap length whole ∙ length-append (joined (take k cs)) c.items in
          let b = ap length other ∙ length-append (joined (take k cs)) d.items in
          omega arith;
    }
      where
        before : (j : ℕ) (e : Piece X) → j < length (set cs k d) → (j < k) ⊎ (k ≤ j) → (get_or (set cs k d) j e).before ≡ length (joined (take j (set cs k d)))
        before j e lt (inl earlier) =
            let other : j ≢ k = omega arith in
            ap (λ (c : Piece X). c.before) (get_or-set_other cs k j d e other) ∙ all.before j e (omega arith) ∙ ap (λ ds. length (joined ds)) (sym (take-set-le j cs k d (omega arith)))
        before j e lt (inr from) =
            let long = length-set cs k d in
            let is : j ≡ k = omega arith in
            ap (λ i. (get_or (set cs k d) i e).before) is ∙ ap (λ (c : Piece X). c.before) (get_or-set_same cs k d e (omega arith)) ∙ same ∙ ap (λ (c : Piece X). c.before) here ∙ all.before k c (omega arith)
            ∙ ap (λ ds. length (joined ds)) (sym (take-set cs k d)) ∙ ap (λ i. length (joined (take i (set cs k d)))) (sym is)

  -- where the item at i stands
  module _ (cs : List (Piece X)) (all : AreChunks cs) (i k : ℕ) (at : IsChunkOf cs i k) (c : Piece X) (here : slice_get cs k ≡ Some c) where
    within : k < length cs
    within = slice_get_within cs k c here

    is : get_or cs k c ≡ c
    is = get_or_from_slice_get cs k c c here

    pub starts : length (joined (take k cs)) ≡ c.before
    starts = sym (ap (λ (c : Piece X). c.before) (sym is) ∙ all.before k c within)

    pub parts : joined cs ≡ joined (take k cs) ++ (c.items ++ joined (drop (k + 1) cs))
    parts = split cs k c within ∙ ap (λ (e : Piece X). joined (take k cs) ++ (e.items ++ joined (drop (k + 1) cs))) is

    up_to : joined (take (k + 1) cs) ≡ joined (take k cs) ++ c.items
    up_to = joined_more cs k c within ∙ ap (λ (e : Piece X). joined (take k cs) ++ e.items) is

    -- the item stands in this chunk, or the chunk is the last
    inside : (i - c.before < length c.items) ⊎ (joined (drop (k + 1) cs) ≡ [])
    inside = by (cases_lt (k + 1) (length cs))
      where
        by : (k + 1 < length cs) ⊎ (length cs ≤ k + 1) → (i - c.before < length c.items) ⊎ (joined (drop (k + 1) cs) ≡ [])
        by (inl more) =
            let after = at.after more in
            let long = ap length up_to ∙ length-append (joined (take k cs)) c.items in
            let from = starts in
            let start = at.before in
            inl (omega arith)
        by (inr last) = inr (ap joined (drop_all (k + 1) cs (omega arith)))

    pub from_start : c.before ≤ i
    from_start = let from = starts in let start = at.before in omega arith

    pub item_there : slice_get c.items (i - c.before) ≡ slice_get (joined cs) i
    item_there = item inside ∙ sym (get_right (joined (take k cs)) (c.items ++ joined (drop (k + 1) cs)) i c.before starts from_start) ∙ ap (λ ys. slice_get ys i) (sym parts)
      where
        item : (i - c.before < length c.items) ⊎ (joined (drop (k + 1) cs) ≡ []) → slice_get c.items (i - c.before) ≡ slice_get (c.items ++ joined (drop (k + 1) cs)) (i - c.before)
        item (inl lt) = sym (get_left c.items (joined (drop (k + 1) cs)) (i - c.before) lt)
        item (inr none) = ap (λ ys. slice_get ys (i - c.before)) (sym (append-nil c.items)) ∙ ap (λ ys. slice_get (c.items ++ ys) (i - c.before)) (sym none)

    rest_long : length (joined cs) ≡ c.before + (length c.items + length (joined (drop (k + 1) cs)))
    rest_long =
        let a = length-append (joined (take k cs)) (c.items ++ joined (drop (k + 1) cs)) in
        let b = length-append c.items (joined (drop (k + 1) cs)) in
        let e = ap length parts in
        let from = starts in
        omega arith

    pub room_there : i ≤ length (joined cs) → i - c.before ≤ length c.items
    room_there le = by inside
      where
        by : (i - c.before < length c.items) ⊎ (joined (drop (k + 1) cs) ≡ []) → i - c.before ≤ length c.items
        by (inl lt) = omega arith
        by (inr none) = let long = rest_long in let no : length (joined (drop (k + 1) cs)) ≡ 0 = ap length none in let from = from_start in omega arith

    pub item_within : i < length (joined cs) → i - c.before < length c.items
    item_within lt = by inside
      where
        by : (i - c.before < length c.items) ⊎ (joined (drop (k + 1) cs) ≡ []) → i - c.before < length c.items
        by (inl lt) = lt
        by (inr none) = let long = rest_long in let no : length (joined (drop (k + 1) cs)) ≡ 0 = ap length none in let from = from_start in omega arith

    pub inserted : (x : X) → i ≤ length (joined cs) → joined (take k cs) ++ (insert c.items (i - c.before) x ++ joined (drop (k + 1) cs)) ≡ insert (joined cs) i x
    inserted x le =
        ap (λ ys. joined (take k cs) ++ ys) (sym (insert-append_left c.items (joined (drop (k + 1) cs)) (i - c.before) x (room_there le)))
        ∙ sym (insert-append_right (joined (take k cs)) (c.items ++ joined (drop (k + 1) cs)) c.before i x starts from_start)
        ∙ ap (λ ys. insert ys i x) (sym parts)

    pub removed : i < length (joined cs) → joined (take k cs) ++ (remove c.items (i - c.before) ++ joined (drop (k + 1) cs)) ≡ remove (joined cs) i
    removed lt =
        ap (λ ys. joined (take k cs) ++ ys) (sym (remove-append_left c.items (joined (drop (k + 1) cs)) (i - c.before) (item_within lt)))
        ∙ sym (remove-append_right (joined (take k cs)) (c.items ++ joined (drop (k + 1) cs)) c.before i starts from_start)
        ∙ ap (λ ys. remove ys i) (sym parts)

  -- where no chunk is there, there is none
  pub none_there : (cs : List (Piece X)) (i k : ℕ) → IsChunkOf cs i k → slice_get cs k ≡ None → joined cs ≡ []
  none_there [] i k at none = refl
  none_there (c ∷ cs) i k at none = absurd (none-some _ (sym none ∙ slice_get-get_or (c ∷ cs) k c (at.there (omega arith))))

  pub first_item : (xs : List X) (i : ℕ) (x : X) → xs ≡ [] → i ≤ length xs → insert xs i x ≡ x ∷ []
  first_item [] zero x none le = refl
  first_item [] (suc i) x none le = absurd (omega arith)
  first_item (y ∷ ys) i x none le = absurd (let long : suc (length ys) ≡ 0 = ap length none in omega arith)

  pub cut : (old xs ys zs : List X) (n : ℕ) → ys ≡ take n xs → zs ≡ drop n xs → (old ++ ys) ++ zs ≡ old ++ xs
  cut old xs ys zs n front back = append_assoc old ys zs ∙ ap (λ ws. old ++ ws) ((λ i. front i ++ back i) ∙ take-append-drop n xs)

  -- one part more, which comes first
  pub from_last-push : {V : Type 0} (items : V → List X) (parts : List V) (part : V) → from_last items (parts ++ part ∷ []) ≡ items part ++ from_last items parts
  from_last-push items [] part = sym (append-nil (items part))
  from_last-push items (first ∷ parts) part = ap (λ xs. xs ++ items first) (from_last-push items parts part) ∙ append_assoc (items part) (from_last items parts) (items first)

  module _ {V : Type 0} (items : V → List X) (all : List X) where
    -- the back of what is left becomes a part
    pub cut_off : (left front : List X) (parts longer : List V) (part : V) (n : ℕ) → front ≡ take n left → items part ≡ drop n left → longer ≡ parts ++ part ∷ [] → left ++ from_last items parts ≡ all → front ++ from_last items longer ≡ all
    cut_off left front parts longer part n kept back more is =
        (λ i. kept i ++ from_last items (more i))
        ∙ ap (λ xs. take n left ++ xs) (from_last-push items parts part ∙ ap (λ ys. ys ++ from_last items parts) back)
        ∙ sym (append_assoc (take n left) (drop n left) (from_last items parts))
        ∙ ap (λ xs. xs ++ from_last items parts) (take-append-drop n left)
        ∙ is

    -- the part that comes first is added
    pub joined_on : (before after : List X) (old fewer : List V) (part : V) → after ≡ before ++ items part → old ≡ fewer ++ part ∷ [] → before ++ from_last items old ≡ all → after ++ from_last items fewer ≡ all
    joined_on before after old fewer part more popped is =
        ap (λ xs. xs ++ from_last items fewer) more
        ∙ append_assoc before (items part) (from_last items fewer)
        ∙ ap (λ xs. before ++ xs) (sym (from_last-push items fewer part) ∙ ap (from_last items) (sym popped))
        ∙ is

  -- ---- a chunk with other items, and the counts behind it

  joined_behind : (cs : List (Piece X)) (k : ℕ) (d : Piece X) → k < length cs → joined (set cs k d) ≡ joined (take k cs) ++ (d.items ++ joined (drop (suc k) cs))
  joined_behind [] k d lt = absurd (omega arith)
  joined_behind (c ∷ cs) zero d lt = refl
  joined_behind (c ∷ cs) (suc k) d lt = ap (λ ys. c.items ++ ys) (joined_behind cs k d (omega arith)) ∙ sym (append_assoc c.items (joined (take k cs)) (d.items ++ joined (drop (suc k) cs)))

  -- another chunk in place of the one at k
  pub joined-set : (cs : List (Piece X)) (k : ℕ) (d : Piece X) → k < length cs → joined (set cs k d) ≡ joined (take k cs) ++ (d.items ++ joined (drop (k + 1) cs))
  joined-set cs k d lt = let next : suc k ≡ k + 1 = omega arith in joined_behind cs k d lt ∙ ap (λ n. joined (take k cs) ++ (d.items ++ joined (drop n cs))) next

  -- from old chunks on: as many, with the same items, of which the first say how many stand before them
  pub record Counting (old now : List (Piece X)) (i total : ℕ) : Type 0 where
    pub counted : AreCounted now i
    pub before : total ≡ length (joined (take i now))
    pub few : total < 2 ^ 63
    pub items : joined now ≡ joined old
    pub long : length now ≡ length old

  module _ (old now : List (Piece X)) (i total : ℕ) (is : Counting old now i total) (within : i < length now) (c d : Piece X) (stands : c.before ≡ total) (same : c.items ≡ (get_or now i d).items) where
    counted_on : AreCounted (set now i c) (i + 1)
    counted_on k e lt long = by (cases_lt k i)
      where
        by : (k < i) ⊎ (i ≤ k) → (get_or (set now i c) k e).before ≡ length (joined (take k (set now i c)))
        by (inl earlier) =
            let apart : k ≢ i = omega arith in
            let few : k < length now = omega (arith, length-set now i c, long) in
            ap (λ (f : Piece X). f.before) (get_or-set_other now i k c e apart) ∙ is.counted k e earlier few ∙ ap (λ es. length (joined es)) (sym (take-set-le k now i c (omega arith)))
        by (inr from) =
            let here : k ≡ i = omega arith in
            ap (λ j. (get_or (set now i c) j e).before) here ∙ ap (λ (f : Piece X). f.before) (get_or-set_same now i c e within) ∙ stands ∙ is.before
            ∙ ap (λ es. length (joined es)) (sym (take-set now i c)) ∙ ap (λ j. length (joined (take j (set now i c)))) (sym here)

    pub counting_next : total + length c.items < 2 ^ 63 → Counting old (set now i c) (i + 1) (total + length c.items)
    counting_next few = record {
      counted = counted_on;
      before =
          let longer = ap length (joined-push (take i now) c) ∙ length-append (joined (take i now)) c.items in
          let at = ap (λ es. length (joined es)) (take_more_set now i c within) in
          let before = is.before in
          omega arith;
      few = few;
      items = joined-set now i c within ∙ (ap (λ ys. joined (take i now) ++ (ys ++ joined (drop (i + 1) now))) same ∙ sym (split now i d within)) ∙ is.items;
      long = length-set now i c ∙ is.long;
    }

  -- before a chunk stand fewer than 2 ^ 63 items
  pub few_before : (cs : List (Piece X)) (k : ℕ) (d : Piece X) → AreChunks cs → k < length cs → (get_or cs k d).before < 2 ^ 63
  few_before cs k d all lt =
      let at = all.before k d lt in
      let whole = ap length (split cs k d lt) ∙ length-append (joined (take k cs)) ((get_or cs k d).items ++ joined (drop (k + 1) cs)) in
      let few = all.few in
      omega arith

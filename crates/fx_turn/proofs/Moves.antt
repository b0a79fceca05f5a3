-- Each step keeps the rule.
use Rattle.std.proofs.Common.{◌≡◌, ◌≢◌, ◌⊎◌, ℕ, zero, suc, ◌+◌, ◌-◌, ◌<◌, ◌≤◌, eqb, List, [], ◌∷◌, ◌++◌, length, get_or, set, Bool, true, false, Some, None, true≢false, refl, sym, ap, ◌∙◌, subst, ⊎_elim, inl, inr, arith, eq-eqb, ne_eqb}
use Rattle.std.specs.Prelude.{Option, cond}
use Rattle.std.specs.List.{All, sum_by}
use Rattle.std.proofs.lemmas.List.Sums.{sum_by-cons, sum_by_push}
use Rattle.std.proofs.lemmas.List.Elements.{All-nil, All-cons, All-head, All-tail, All-weaker}
use mathlib.Core.Logic.{dite}
use mathlib.Core.Option.{Option as Maybe, none, some, some-injective, some-ne-none}
use native.Mathlib.Decide.{ℕ_discrete}
use lib.ListN.{get_elem?}
use lib.Seq.{set-get_or}
use prog.Atomic.{either}
use Rattle.atomic_table.specs.Table.{State, Me, Step, step, Act, keeps, takes, gives, Valid, carried_after, stepped, Allows, Splits, Joins, opening, put_back}
use Rattle.atomic_table.proofs.Lists.{at_set, set_else, set_again, at_longer}
use Rattle.fx_turn.specs.declared.view.View.{View}
use Rattle.fx_turn.specs.Histories.{Begins, count, own}
use Rattle.fx_turn.specs.Views.{maker_of, joins, parted, newcomer, taking, posting, releasing, number_of, noting, learning, spent, IsNumbered}
use Rattle.fx_turn.specs.Rule.{weight_of, weight, IsHolder, Knows, Ordered}
use Rattle.fx_turn.specs.Plays.{carried, Fits, tried, posted, released, known, learned}
use Rattle.fx_turn.specs.Places.{IsIdle, IsGiven}
use Rattle.fx_turn.proofs.Growth.{begins_same, begins_nil, begins_longer, count_begins, Grows, stays, adds, grown_begins, grown_other, grown_own, grown_own_other}

off : false ≡ true → ⊥
off e = true≢false (sym e)

module _ {A : Type 0} where
  set_there : (l : List A) (i : ℕ) (a b : A) → get_elem? l i ≡ some a → get_elem? (set l i b) i ≡ some b
  set_there [] i a b e = absurd (some-ne-none a (sym e))
  set_there (x ∷ xs) zero a b e = refl
  set_there (x ∷ xs) (suc i) a b e = set_there xs i a b e

  -- an element of a list with one more at its end
  at_end : (l : List A) (a b : A) (j : ℕ) → get_elem? (l ++ a ∷ []) j ≡ some b → (get_elem? l j ≡ some b) ⊎ ((j ≡ length l) × (a ≡ b))
  at_end [] a b zero e = inr (refl, some-injective a b e)
  at_end [] a b (suc j) e = absurd (some-ne-none b (sym e))
  at_end (x ∷ xs) a b zero e = inl e
  at_end (x ∷ xs) a b (suc j) e = ⊎_elim inl (λ (t : (j ≡ length xs) × (a ≡ b)). inr (ap suc t.0, t.1)) (at_end xs a b j e)

  total_set : (f : A → ℕ) (l : List A) (i : ℕ) (a b : A) → get_elem? l i ≡ some a → sum_by f (set l i b) + f a ≡ sum_by f l + f b
  total_set f [] i a b e = absurd (some-ne-none a (sym e))
  total_set f (x ∷ xs) zero a b e = let q : f x ≡ f a = ap f (some-injective x a e) in omega (arith, sum_by-cons f b xs, sum_by-cons f x xs)
  total_set f (x ∷ xs) (suc i) a b e =
      let h : sum_by f (set xs i b) + f a ≡ sum_by f xs + f b = total_set f xs i a b e in
      omega (arith, sum_by-cons f x (set xs i b), sum_by-cons f x xs)

  part_of_total : (f : A → ℕ) (l : List A) (i : ℕ) (a : A) → get_elem? l i ≡ some a → f a ≤ sum_by f l
  part_of_total f [] i a e = absurd (some-ne-none a (sym e))
  part_of_total f (x ∷ xs) zero a e = let q : f x ≡ f a = ap f (some-injective x a e) in omega (arith, sum_by-cons f x xs)
  part_of_total f (x ∷ xs) (suc i) a e = let h : f a ≤ sum_by f xs = part_of_total f xs i a e in omega (arith, sum_by-cons f x xs)

both_hold : {X : Type 0} (P Q T : X → Type 0) → ((x : X) → P x → Q x → T x) → (xs : List X) → All P xs → All Q xs → All T xs
both_hold P Q T f [] p q = All-nil T
both_hold P Q T f (x ∷ xs) p q = All-cons T x xs (f x (All-head P x xs p) (All-head Q x xs q)) (both_hold P Q T f xs (All-tail P x xs p) (All-tail Q x xs q))

module _ {K O I : Type 0} (base : K → O) (history : K → List I) (shell : I → ℕ) where
  abbrev V : Type 0
  V = View O I

  abbrev S : Type 0
  S = State (Option K) V

  abbrev M : Type 0
  M = Me (Option K) V

  -- what a step tells doesn't depend on its operands
  abbrev any : Step (Option K)
  any = step 0 0 0 0 none

  abbrev R : S → Type 0
  R = Ordered base history shell

  -- what holds of each live seat holds after a change of one
  each_stays : (P : ℕ → V → Type 0) (vs : List V) (id : ℕ) (w : V) → (w.live ≡ true → P id w) → ((j : ℕ) (u : V) → j ≢ id → get_elem? vs j ≡ some u → u.live ≡ true → P j u)
      → (j : ℕ) (u : V) → get_elem? (set vs id w) j ≡ some u → u.live ≡ true → P j u
  each_stays P vs id w mine others j u e =
      ⊎_elim
      (λ (t : (j ≡ id) × (w ≡ u)). subst (λ (z : ℕ × V). z.1.live ≡ true → P z.0 z.1) (λ i. (sym t.0 i, t.1 i)) mine)
      (λ (t : (j ≢ id) × (get_elem? vs j ≡ some u)). others j u t.0 t.1)
      (at_set vs id j w u e)

  -- some live seat stands at the place, in its turn
  abbrev Turning : List V → ℕ → Type 0
  Turning vs holder = (v : V) × (get_elem? vs holder ≡ some v) × (v.live ≡ true) × (v.in_turn ≡ true)

  still_turning : (vs : List V) (holder id : ℕ) (v w : V) → get_elem? vs id ≡ some v → (v.live ≡ true → w.live ≡ true) → (v.in_turn ≡ true → w.in_turn ≡ true) → Turning vs holder → Turning (set vs id w) holder
  still_turning vs holder id v w at live turn t =
      dite (ℕ_discrete holder id)
      (λ e.
      let same : t.0 ≡ v = some-injective t.0 v (sym t.1 ∙ (ap (get_elem? vs) e ∙ at)) in
      (w, ap (get_elem? (set vs id w)) e ∙ set_there vs id v w at, live (ap (λ (u : V). u.live) (sym same) ∙ t.2), turn (ap (λ (u : V). u.in_turn) (sym same) ∙ t.3)))
      (λ ne. (t.0, set_else vs id holder w ne ∙ t.1, t.2, t.3))

  weighs_the_same : (vs : List V) (id : ℕ) (v w : V) → get_elem? vs id ≡ some v → weight w ≡ weight v → sum_by weight (set vs id w) ≡ sum_by weight vs
  weighs_the_same vs id v w at e = let h = total_set weight vs id v w at in omega arith

  -- a step that leaves all as it was
  unchanged : (s : S) (ws : List ℕ) (vs : List V) → ws ≡ s.words → vs ≡ s.views → R s → R record { words = ws; homes = s.homes; views = vs }
  unchanged s ws vs p q r = subst (λ (z : List ℕ × List V). R record { words = z.0; homes = s.homes; views = z.1 }) (λ i. (sym p i, sym q i)) r

  pub opens : (k : K) → history k ≡ [] → R (opening (0 ∷ 0 ∷ []) (Some k ∷ []) (maker_of (base k)))
  opens k e = record {
    origin = base k;
    log = [];
    held = 0;
    holder = 0;
    splits = 0;
    joined = [];
    home = some (Some k);
    place = λ n. 0;
    words = refl;
    homes = refl;
    bit = omega arith;
    full = λ _. (k, refl, refl, e);
    away = λ h. absurd (omega arith);
    each = one;
    unmade = λ n _. refl;
    few = omega arith;
    counts = refl;
    ended = All-nil _;
  }
    where
      knows : Knows shell (base k) [] 0 0 0 [] (λ n. 0) 0 (maker_of (base k))
      knows = record {
        base_is = refl;
        seen_is = begins_nil [];
        told_is = begins_nil [];
        mine_seen = refl;
        mine_is = refl;
        turn = λ t. absurd (off t);
        split = λ n h. absurd (cc h);
        maker = λ _. record { first = refl; splits_is = refl; joined_is = refl };
      }

      one : (id : ℕ) (v : V) → get_elem? (maker_of (base k) ∷ []) id ≡ some v → v.live ≡ true → Knows shell (base k) [] 0 0 0 [] (λ n. 0) id v
      one zero v at live = subst (Knows shell (base k) [] 0 0 0 [] (λ n. 0) 0) (some-injective _ v at) knows
      one (suc id) v at live = absurd (some-ne-none v (sym at))

  -- where no other seat was in its turn, what a seat knows stays so when a turn begins or ends
  held_otherwise : (origin : O) (log : List I) (held holder held' holder' splits : ℕ) (joined : List (ℕ × ℕ)) (place : ℕ → ℕ) (j : ℕ) (u : V)
      → (u.in_turn ≡ true → IsHolder log held' holder' j u) → Knows shell origin log held holder splits joined place j u → Knows shell origin log held' holder' splits joined place j u
  held_otherwise origin log held holder held' holder' splits joined place j u turn k = record {
    base_is = k.base_is;
    seen_is = k.seen_is;
    told_is = k.told_is;
    mine_seen = k.mine_seen;
    mine_is = k.mine_is;
    turn = turn;
    split = k.split;
    maker = k.maker;
  }

  word_0 : (s : S) (r : R s) (f : ℕ → ℕ) (n : ℕ) → r.held ≡ n → set s.words 0 (f (get_or s.words 0 0)) ≡ f n ∷ length r.log ∷ []
  word_0 s r f n e = ap (λ (ws : List ℕ). set ws 0 (f (get_or ws 0 0))) (r.words ∙ ap (λ (h : ℕ). h ∷ length r.log ∷ []) e)

  found_0 : (s : S) (r : R s) → get_or s.words 0 0 ≡ r.held
  found_0 s r = ap (λ (ws : List ℕ). get_or ws 0 0) r.words

  -- what a try does to the word
  abbrev raised : ℕ → ℕ
  raised n = either (eqb n 0) 1 n

  module _ (slots id : ℕ) (m : M) (idle : IsIdle m) (s : S) (r : R s) (at : get_elem? s.views id ≡ some m.0) where
    -- a turn begins
    begins_turn : r.held ≡ 0 → (w : V) × (a : Act (Option K)) × Valid s.homes m.1 a × R (stepped s 0 (raised (get_or s.words 0 0)) id m.1 w a) × tried base history shell any m (get_or s.words 0 0) (w, carried_after m.1 a)
    begins_turn e =
        let v : V = m.0 in
        let t = r.full e in
        let k : K = t.0 in
        let w : V = taking v (history k) in
        let mine = r.each id v at idle.live in (
          w,
          takes 0 (Some k),
          ap (λ (hs : List (Maybe (Option K))). get_elem? hs 0) (r.homes ∙ ap (λ (h : Maybe (Option K)). h ∷ []) t.1),
          record {
            origin = r.origin;
            log = r.log;
            held = 1;
            holder = id;
            splits = r.splits;
            joined = r.joined;
            home = none;
            place = r.place;
            words = word_0 s r raised 0 e;
            homes = ap (λ (hs : List (Maybe (Option K))). set hs 0 none) r.homes;
            bit = omega arith;
            full = λ h. absurd (omega arith);
            away = λ _. (refl, (w, set_there s.views id v w at, idle.live, refl));
            each = each_stays (Knows shell r.origin r.log 1 id r.splits r.joined r.place) s.views id w
                (λ _. record {
                  base_is = mine.base_is;
                  seen_is = begins_same (history k) r.log (sym t.3);
                  told_is = mine.told_is;
                  mine_seen = ap (own shell v.number) t.3 ∙ mine.mine_is;
                  mine_is = mine.mine_is;
                  turn = λ _. record { one = refl; alone = refl; whole = t.3; numbered = idle.numbered };
                  split = mine.split;
                  maker = λ n. absurd (cc (n, idle.numbered.1));
                })
                (λ j u ne h live. let old = r.each j u h live in held_otherwise r.origin r.log r.held r.holder 1 id r.splits r.joined r.place j u (λ turn. absurd (let one = (old.turn turn).one in omega arith)) old);
            unmade = r.unmade;
            few = r.few;
            counts = ap (λ (n : ℕ). n + length r.joined) (weighs_the_same s.views id v w at refl) ∙ r.counts;
            ended = r.ended;
          },
          ((λ _. (k, refl, record { base_is = mine.base_is ∙ ap Some (sym t.2); begins = subst (Begins v.seen) (sym t.3) mine.seen_is; own_is = ap (own shell v.number) t.3 ∙ mine.mine_is })), (λ ne. absurd (ne (found_0 s r ∙ e)))),
        )

    -- another seat is in its turn
    finds_turn : r.held ≢ 0 → (w : V) × (a : Act (Option K)) × Valid s.homes m.1 a × R (stepped s 0 (raised (get_or s.words 0 0)) id m.1 w a) × tried base history shell any m (get_or s.words 0 0) (w, carried_after m.1 a)
    finds_turn ne =
        let bit = r.bit in
        let one : r.held ≡ 1 = omega arith in (
          m.0,
          keeps,
          tt,
          unchanged s (set s.words 0 (raised (get_or s.words 0 0))) (set s.views id m.0) (word_0 s r raised 1 one ∙ ap (λ (h : ℕ). h ∷ length r.log ∷ []) (sym one) ∙ sym r.words) (set_again s.views id m.0 at) r,
          ((λ e. absurd (ne (sym (found_0 s r) ∙ e))), (λ _. refl)),
        )

  pub tries : (slots id : ℕ) (m : M) → IsIdle m → Allows R slots id m 0 (λ n. either (eqb n 0) 1 n) (tried base history shell any m)
  tries slots id m idle s r sized at fits = dite (ℕ_discrete r.held 0) (begins_turn slots id m idle s r at) (finds_turn slots id m idle s r at)

  -- the history that a seat may give, as growth of the log
  as_growth : (v : V) (n : ℕ) (log h : List I) → v.number ≡ Some n → v.seen ≡ log → IsGiven shell v h → Grows shell n log h
  as_growth v n log h e is g =
      ⊎_elim
      (λ (same : h ≡ v.seen). stays (same ∙ is))
      (λ (t : (x : I) × (h ≡ v.seen ++ x ∷ []) × (v.number ≡ Some (shell x))). let number : n ≡ shell t.0 = cc (e, t.2) in adds t.0 (t.1 ∙ ap (λ l. l ++ t.0 ∷ []) is) number)
      g

  pub posts : (slots id n : ℕ) (m : M) (k : K) → m.0.live ≡ true → m.0.in_turn ≡ true → m.1 ≡ (0, Some k) ∷ [] → IsGiven shell m.0 (history k) → n ≡ length (history k)
      → Allows R slots id m 1 (λ _. n) (λ _. posted base history shell any m n)
  posts slots id n m k live in_turn holds given long s r sized at fits =
      let v : V = m.0 in
      let h = history k in
      let w : V = posting v (carried history m.1) in
      let is : carried history m.1 ≡ h = ap (carried history) holds in
      let mine = r.each id v at live in
      let mine_turn = mine.turn in_turn in
      let number = mine_turn.numbered in
      let grown : Grows shell number.0 r.log h = as_growth v number.0 r.log h number.1 mine_turn.whole given in
      let own_now : own shell v.number h ≡ v.mine + (length h - length v.seen) =
      ap (λ o. own shell o h) number.1 ∙ grown_own shell number.0 r.log h grown
      ∙ (λ i. (sym (ap (λ o. own shell o r.log) number.1) ∙ mine.mine_is) i + (length h - length (sym mine_turn.whole i))) in
      let own_w : own shell v.number h ≡ w.mine = own_now ∙ ap (λ l. v.mine + (length l - length v.seen)) (sym is) in
      let place_own = mine.split number.0 number.1 in (
        w,
        keeps,
        tt,
        record {
          origin = r.origin;
          log = h;
          held = r.held;
          holder = r.holder;
          splits = r.splits;
          joined = r.joined;
          home = r.home;
          place = r.place;
          words = ap (λ (ws : List ℕ). set ws 1 n) r.words ∙ ap (λ (l : ℕ). r.held ∷ l ∷ []) long;
          homes = r.homes;
          bit = r.bit;
          full = λ z. absurd (let one = mine_turn.one in omega arith);
          away = λ one. ((r.away one).0, still_turning s.views r.holder id v w at (λ l. l) (λ t. t) (r.away one).1);
          each = each_stays (Knows shell r.origin h r.held r.holder r.splits r.joined r.place) s.views id w
              (λ _. record {
                base_is = mine.base_is;
                seen_is = begins_same (carried history m.1) h (sym is);
                told_is = grown_begins shell number.0 r.log h grown v.told mine.told_is;
                mine_seen = ap (own shell v.number) is ∙ own_w;
                mine_is = own_w;
                turn = λ _. record { one = mine_turn.one; alone = mine_turn.alone; whole = is; numbered = number };
                split = mine.split;
                maker = λ e. absurd (cc (e, number.1));
              })
              (λ j u ne there l. let old = r.each j u there l in record {
                base_is = old.base_is;
                seen_is = grown_begins shell number.0 r.log h grown u.seen old.seen_is;
                told_is = grown_begins shell number.0 r.log h grown u.told old.told_is;
                mine_seen = old.mine_seen;
                mine_is = grown_own_other shell number.0 r.log h grown u.number (λ i e same. ne (sym (old.split i e).own_place ∙ ap r.place same ∙ place_own.own_place)) ∙ old.mine_is;
                turn = λ t. absurd (ne ((old.turn t).alone ∙ sym mine_turn.alone));
                split = old.split;
                maker = old.maker;
              });
          unmade = λ i above. grown_other shell number.0 r.log h grown i (λ e. let made = place_own.made in omega arith) ∙ r.unmade i above;
          few = r.few;
          counts = ap (λ (i : ℕ). i + length r.joined) (weighs_the_same s.views id v w at refl) ∙ r.counts;
          ended = both_hold (λ (j : ℕ × ℕ). (j.0 < r.splits) × (count shell j.0 r.log ≡ j.1)) (λ (j : ℕ × ℕ). j.0 ≢ number.0) (λ (j : ℕ × ℕ). (j.0 < r.splits) × (count shell j.0 h ≡ j.1))
              (λ j old apart. (old.0, grown_other shell number.0 r.log h grown j.0 apart ∙ old.1)) r.joined r.ended place_own.apart;
        },
        refl,
      )

  -- a turn ends, and the value that the seat holds is home
  pub releases : (slots id : ℕ) (m : M) (k : K) → m.0.live ≡ true → m.0.in_turn ≡ true → m.1 ≡ (0, Some k) ∷ [] → m.0.base ≡ Some (base k) → m.0.seen ≡ history k
      → Allows R slots id m 0 (λ _. 0) (λ _. released base history shell any m 0)
  releases slots id m k live in_turn holds base_is seen_is s r sized at fits =
      let v : V = m.0 in
      let w : V = releasing v in
      let mine = r.each id v at live in
      let mine_turn = mine.turn in_turn in
      let origin_is : base k ≡ r.origin = cc (base_is, mine.base_is) in (
        w,
        gives,
        tt,
        record {
          origin = r.origin;
          log = r.log;
          held = 0;
          holder = r.holder;
          splits = r.splits;
          joined = r.joined;
          home = some (Some k);
          place = r.place;
          words = ap (λ (ws : List ℕ). set ws 0 0) r.words;
          homes = (λ i. put_back (r.homes i) (holds i));
          bit = omega arith;
          full = λ _. (k, refl, origin_is, sym seen_is ∙ mine_turn.whole);
          away = λ h. absurd (omega arith);
          each = each_stays (Knows shell r.origin r.log 0 r.holder r.splits r.joined r.place) s.views id w
              (λ _. record {
                base_is = mine.base_is;
                seen_is = mine.seen_is;
                told_is = mine.told_is;
                mine_seen = mine.mine_seen;
                mine_is = mine.mine_is;
                turn = λ t. absurd (off t);
                split = mine.split;
                maker = λ e. absurd (cc (e, mine_turn.numbered.1));
              })
              (λ j u ne there l. let old = r.each j u there l in held_otherwise r.origin r.log r.held r.holder 0 r.holder r.splits r.joined r.place j u (λ t. absurd (ne ((old.turn t).alone ∙ sym mine_turn.alone))) old);
          unmade = r.unmade;
          few = r.few;
          counts = ap (λ (i : ℕ). i + length r.joined) (weighs_the_same s.views id v w at refl) ∙ r.counts;
          ended = r.ended;
        },
        refl,
      )

  -- a seat looks at the table: its view may change, and nothing else
  looks : (s : S) (r : R s) (id : ℕ) (v w : V) → get_elem? s.views id ≡ some v → v.live ≡ true → w.live ≡ true → (v.in_turn ≡ true → w.in_turn ≡ true) → weight w ≡ weight v
      → Knows shell r.origin r.log r.held r.holder r.splits r.joined r.place id w → R record { words = set s.words 0 (get_or s.words 0 0); homes = s.homes; views = set s.views id w }
  looks s r id v w at live live' turn heavy knows = record {
    origin = r.origin;
    log = r.log;
    held = r.held;
    holder = r.holder;
    splits = r.splits;
    joined = r.joined;
    home = r.home;
    place = r.place;
    words = set-get_or s.words 0 0 ∙ r.words;
    homes = r.homes;
    bit = r.bit;
    full = r.full;
    away = λ one. ((r.away one).0, still_turning s.views r.holder id v w at (λ _. live') turn (r.away one).1);
    each = each_stays (Knows shell r.origin r.log r.held r.holder r.splits r.joined r.place) s.views id w (λ _. knows) (λ j u ne there l. r.each j u there l);
    unmade = r.unmade;
    few = r.few;
    counts = ap (λ (i : ℕ). i + length r.joined) (weighs_the_same s.views id v w at heavy) ∙ r.counts;
    ended = r.ended;
  }

  pub knows : (slots id : ℕ) (m : M) → m.0.live ≡ true → Allows R slots id m 0 (λ n. n) (known base history shell any m)
  knows slots id m live s r sized at fits =
      (m.0, keeps, tt, looks s r id m.0 m.0 at live live (λ t. t) refl (r.each id m.0 at live), (refl, (r.each id m.0 at live).mine_seen))

  pub learns : (slots id : ℕ) (m : M) → m.0.live ≡ true → m.0.number ≡ None → Allows R slots id m 0 (λ n. n) (learned base history shell any m)
  learns slots id m live unnumbered s r sized at fits =
      let v : V = m.0 in
      let old = r.each id v at live in
      let both = begins_longer v.seen v.told r.log old.seen_is old.told_is in
      let nothing : (xs : List I) → own shell v.number xs ≡ 0 = λ xs. ap (λ o. own shell o xs) unnumbered in (
        learning v,
        keeps,
        tt,
        looks s r id v (learning v) at live live (λ t. t) refl record {
          base_is = old.base_is;
          seen_is = both.both;
          told_is = begins_nil r.log;
          mine_seen = nothing (learning v).seen ∙ sym (nothing v.seen) ∙ old.mine_seen;
          mine_is = old.mine_is;
          turn = λ t. absurd (cc (unnumbered, (old.turn t).numbered.1));
          split = λ n e. absurd (cc (unnumbered, e));
          maker = λ e. let m = old.maker e in record { first = m.first; splits_is = m.splits_is; joined_is = m.joined_is };
        },
        (refl, both.first, both.second),
      )

  -- the maker splits a seat, whose number is new
  pub splits : (id : ℕ) (v : V) → v.live ≡ true → v.number ≡ None → v.splits < 64 → Splits R id v (parted v) (newcomer v)
  splits id v live unnumbered room s r at =
      let old = r.each id v at live in
      let maker = old.maker unnumbered in
      let w = parted v in
      let u = newcomer v in
      let vs = set s.views id w in
      let spot : ℕ → ℕ = λ n. cond (eqb n r.splits) (length vs) (r.place n) in
      let spot_old : (n : ℕ) → n ≢ r.splits → spot n ≡ r.place n = λ n ne. ap (λ (b : Bool). cond b (length vs) (r.place n)) (ne_eqb n r.splits ne) in
      let number : v.splits ≡ r.splits = maker.splits_is in
      let fresh : count shell v.splits r.log ≡ 0 = r.unmade v.splits (omega arith) in
      let K' = Knows shell r.origin r.log r.held r.holder (r.splits + 1) r.joined spot in
      record {
        origin = r.origin;
        log = r.log;
        held = r.held;
        holder = r.holder;
        splits = r.splits + 1;
        joined = r.joined;
        home = r.home;
        place = spot;
        words = r.words;
        homes = r.homes;
        bit = r.bit;
        full = r.full;
        away = λ one.
            let t = still_turning s.views r.holder id v w at (λ l. l) (λ t. t) (r.away one).1 in
            ((r.away one).0, (t.0, at_longer vs (u ∷ []) r.holder t.0 t.1, t.2, t.3));
        each = λ j x there l. ⊎_elim
            (λ (e : get_elem? vs j ≡ some x). each_stays K' s.views id w
            (λ _. record {
              base_is = old.base_is;
              seen_is = old.seen_is;
              told_is = old.told_is;
              mine_seen = old.mine_seen;
              mine_is = old.mine_is;
              turn = λ t. absurd (cc (unnumbered, (old.turn t).numbered.1));
              split = λ n e. absurd (cc (unnumbered, e));
              maker = λ _. record { first = maker.first; splits_is = ap (λ (n : ℕ). n + 1) number; joined_is = maker.joined_is };
            })
            (λ i y ne at' live'. let o = r.each i y at' live' in record {
              base_is = o.base_is;
              seen_is = o.seen_is;
              told_is = o.told_is;
              mine_seen = o.mine_seen;
              mine_is = o.mine_is;
              turn = o.turn;
              split = λ n e. let one = o.split n e in let made = one.made in record { made = omega arith; own_place = spot_old n (λ q. omega arith) ∙ one.own_place; apart = one.apart };
              maker = λ e. absurd (ne ((o.maker e).first ∙ sym maker.first));
            })
            j x e l)
            (λ (e : (j ≡ length vs) × (u ≡ x)). subst (λ (z : ℕ × V). K' z.0 z.1) (λ i. (sym e.0 i, e.1 i)) record {
              base_is = old.base_is;
              seen_is = old.seen_is;
              told_is = begins_nil r.log;
              mine_seen = let less = count_begins shell v.splits v.seen r.log old.seen_is in omega arith;
              mine_is = fresh;
              turn = λ t. absurd (off t);
              split = λ n e. let same : v.splits ≡ n = cc e in record {
                made = omega arith;
                own_place = ap (λ (b : Bool). cond b (length vs) (r.place n)) (eq-eqb n r.splits (sym same ∙ number));
                apart = All-weaker (λ (j : ℕ × ℕ). (j.0 < r.splits) × (count shell j.0 r.log ≡ j.1)) (λ (j : ℕ × ℕ). j.0 ≢ n) (λ j old e. let below = old.0 in omega arith) r.joined r.ended;
              };
              maker = λ e. absurd (cc e);
            })
            (at_end vs u x j there);
        unmade = λ n above. r.unmade n (omega arith);
        few = omega arith;
        counts = let sum = sum_by_push weight vs u in let same = weighs_the_same s.views id v w at refl in let before = r.counts in omega arith;
        ended = All-weaker (λ (j : ℕ × ℕ). (j.0 < r.splits) × (count shell j.0 r.log ≡ j.1)) (λ (j : ℕ × ℕ). (j.0 < r.splits + 1) × (count shell j.0 r.log ≡ j.1)) (λ j old. (let below = old.0 in omega arith, old.1)) r.joined r.ended;
      }

  -- the maker takes a note of what a seat had seen, and the seat is spent
  pub joined_seats : (id : ℕ) (v : V) (other : ℕ) (u : V) → v.live ≡ true → v.number ≡ None → u.live ≡ true → IsNumbered u → u.in_turn ≡ false → Joins R id v other u (noting v u) spent
  joined_seats id v other u live unnumbered live' numbered idle s r at apart at' =
      let old = r.each id v at live in
      let maker = old.maker unnumbered in
      let w = noting v u in
      let vs = set s.views id w in
      let there : get_elem? s.views other ≡ some u = sym (set_else s.views id other w apart) ∙ at' in
      let theirs = r.each other u there live' in
      let n = numbered.0 in
      let one = theirs.split n numbered.1 in
      let number : number_of u.number ≡ n = ap number_of numbered.1 in
      let now = (number_of u.number, u.mine) ∷ r.joined in
      let K' = Knows shell r.origin r.log r.held r.holder r.splits now r.place in
      let own_is : count shell (number_of u.number) r.log ≡ u.mine = ap (λ i. count shell i r.log) number ∙ ap (λ o. own shell o r.log) (sym numbered.1) ∙ theirs.mine_is in
      let made : number_of u.number < r.splits = let m = one.made in omega arith in
      record {
        origin = r.origin;
        log = r.log;
        held = r.held;
        holder = r.holder;
        splits = r.splits;
        joined = now;
        home = r.home;
        place = r.place;
        words = r.words;
        homes = r.homes;
        bit = r.bit;
        full = r.full;
        away = λ e.
            let before = (r.away e).1 in
            let t = still_turning s.views r.holder id v w at (λ l. l) (λ t. t) before in
            let ne : r.holder ≢ other = λ q. off (sym idle ∙ ap (λ (z : V). z.in_turn) (some-injective u before.0 (sym there ∙ ap (get_elem? s.views) (sym q) ∙ before.1)) ∙ before.3) in
            ((r.away e).0, (t.0, set_else vs other r.holder spent ne ∙ t.1, t.2, t.3));
        each = each_stays K' vs other spent (λ l. absurd (off l))
            (λ j x ne here l. each_stays (λ i z. i ≢ other → K' i z) s.views id w
            (λ _ _. record {
              base_is = old.base_is;
              seen_is = old.seen_is;
              told_is = theirs.seen_is;
              mine_seen = old.mine_seen;
              mine_is = old.mine_is;
              turn = λ t. absurd (cc (unnumbered, (old.turn t).numbered.1));
              split = λ n e. absurd (cc (unnumbered, e));
              maker = λ _. record { first = maker.first; splits_is = maker.splits_is; joined_is = ap (λ js. (number_of u.number, u.mine) ∷ js) maker.joined_is };
            })
            (λ i y away here' l' besides. let o = r.each i y here' l' in record {
              base_is = o.base_is;
              seen_is = o.seen_is;
              told_is = o.told_is;
              mine_seen = o.mine_seen;
              mine_is = o.mine_is;
              turn = o.turn;
              split = λ k e. let is = o.split k e in record {
                made = is.made;
                own_place = is.own_place;
                apart = All-cons (λ (j : ℕ × ℕ). j.0 ≢ k) (number_of u.number, u.mine) r.joined (λ q. besides (sym is.own_place ∙ ap r.place (sym q ∙ number) ∙ one.own_place)) is.apart;
              };
              maker = λ e. absurd (away ((o.maker e).first ∙ sym maker.first));
            })
            j x here l ne);
        unmade = r.unmade;
        few = r.few;
        counts =
            let first = weighs_the_same s.views id v w at refl in
            let second = total_set weight vs other u spent at' in
            let heavy : weight u ≡ 1 = ap (λ (z : Bool × Option ℕ). weight_of z.0 z.1) (λ i. (live' i, numbered.1 i)) in
            let before = r.counts in
            omega arith;
        ended = All-cons (λ (j : ℕ × ℕ). (j.0 < r.splits) × (count shell j.0 r.log ≡ j.1)) (number_of u.number, u.mine) r.joined (made, own_is) r.ended;
      }

  -- at the end, once each seat that was split was joined: the value is home
  pub record Closes (s : S) (v : V) : Type 0 where
    pub kept : K
    pub home : get_elem? s.homes 0 ≡ some (some (Some kept))
    pub fits : Fits base history shell v kept
    pub ended : All (λ (j : ℕ × ℕ). count shell j.0 (history kept) ≡ j.1) v.joined

  pub closes : (s : S) (id : ℕ) (v : V) → R s → get_elem? s.views id ≡ some v → v.live ≡ true → v.number ≡ None → joins v ≡ v.splits → Closes s v
  closes s id v r at live unnumbered all =
      let old = r.each id v at live in
      let maker = old.maker unnumbered in
      let nobody : sum_by weight s.views ≡ 0 = let counts = r.counts in let a = ap (λ (js : List (ℕ × ℕ)). length js) maker.joined_is in let b = maker.splits_is in omega arith in
      let at_home : r.held ≡ 0 = dite (ℕ_discrete r.held 0) (λ e. e) (λ ne.
      let bit = r.bit in
      let one : r.held ≡ 1 = omega arith in
      let t = (r.away one).1 in
      let turning = (r.each r.holder t.0 t.1 t.2).turn t.3 in
      let heavy : weight t.0 ≡ 1 = ap (λ (z : Bool × Option ℕ). weight_of z.0 z.1) (λ i. (t.2 i, turning.numbered.1 i)) in
      let part = part_of_total weight s.views r.holder t.0 t.1 in
      absurd (omega arith)) in
      let t = r.full at_home in
      record {
        kept = t.0;
        home = ap (λ (hs : List (Maybe (Option K))). get_elem? hs 0) (r.homes ∙ ap (λ (h : Maybe (Option K)). h ∷ []) t.1);
        fits = record { base_is = old.base_is ∙ ap Some (sym t.2); begins = subst (Begins v.seen) (sym t.3) old.seen_is; own_is = ap (own shell v.number) t.3 ∙ old.mine_is };
        ended = subst (λ (z : List (ℕ × ℕ) × List I). All (λ (j : ℕ × ℕ). count shell j.0 z.1 ≡ j.1) z.0) (λ i. (sym maker.joined_is i, sym t.3 i))
            (All-weaker (λ (j : ℕ × ℕ). (j.0 < r.splits) × (count shell j.0 r.log ≡ j.1)) (λ (j : ℕ × ℕ). count shell j.0 r.log ≡ j.1) (λ j e. e.1) r.joined r.ended);
      }

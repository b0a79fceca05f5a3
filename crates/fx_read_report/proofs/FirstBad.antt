-- A machine that takes lines one by one, and the first line at which bytes go wrong. Nothing here is about reports.
use Rattle.std.proofs.Common.{◌≡◌, ℕ, ◌+◌, ◌<◌, ◌≤◌, Bool, true, false, List, [], ◌∷◌, ◌++◌, length, map, take, drop, Option, Some, None, refl, sym, ap, subst, ◌∙◌, append_assoc, append-nil, length-append, take-append-drop, arith}
use Rattle.std.specs.List.{AllByRecursion, flat_map}
use Rattle.std.specs.Option.{option_and_then}
use Rattle.std.proofs.lemmas.Grind.{flat_map-append}
use Rattle.std.proofs.lemmas.List.{length-map, length-take-le}
use Rattle.std.proofs.lemmas.List.Folds.{flat_map-map}
use Rattle.std.proofs.lemmas.Option.{option_and_then_some}
use Rattle.fx_base.proofs.Lists.{all_both, all_end, all_push}
use Rattle.fx_read_report.specs.Feeds.{IsFeedAt, LacksFeed}

-- ---- lines of bytes

-- a text with its line feed
abbrev pub fed : List ℕ → List ℕ
fed text = text ++ 10 ∷ []

pub fed_form : (t x : List ℕ) → fed t ++ x ≡ t ++ 10 ∷ x
fed_form t x = append_assoc t (10 ∷ []) x

pub no_line : (t x : List ℕ) → [] ≡ t ++ 10 ∷ x → ⊥
no_line [] x e = cc
no_line (b ∷ t) x e = cc

pub same_line : (t u x y : List ℕ) → LacksFeed t → LacksFeed u → t ++ 10 ∷ x ≡ u ++ 10 ∷ y → (t ≡ u) × (x ≡ y)
same_line [] [] x y p q e = let behind : x ≡ y = cc in (refl, behind)
same_line [] (c ∷ u) x y p q e = let here : c ≡ 10 = cc in absurd (q.0 here)
same_line (b ∷ t) [] x y p q e = let here : b ≡ 10 = cc in absurd (p.0 here)
same_line (b ∷ t) (c ∷ u) x y p q e =
    let here : b ≡ c = cc in
    let behind : t ++ 10 ∷ x ≡ u ++ 10 ∷ y = cc in
    let later = same_line t u x y p.1 q.1 behind in
    (λ i. here i ∷ later.0 i, later.1)

has_feed : (t y : List ℕ) → LacksFeed (t ++ 10 ∷ y) → ⊥
has_feed [] y p = p.0 refl
has_feed (b ∷ t) y p = has_feed t y p.1

-- ---- machines

module _ {State Line : Type 0} (next : State → Line → Option State) where
  abbrev pub run : State → List Line → Option State
  run s [] = Some s
  run s (l ∷ ls) = option_and_then (λ t. run t ls) (next s l)

  -- lines that are run through, and then others
  pub run_on : (s t : State) (ls ks : List Line) → run s ls ≡ Some t → run s (ls ++ ks) ≡ run t ks
  run_on s t [] ks e = let same : s ≡ t = cc in ap (λ u. run u ks) same
  run_on s t (l ∷ ls) ks e =
      option_and_then_some (λ u. run u ls) (next s l) t e (λ u taken later. ap (option_and_then (λ v. run v (ls ++ ks))) taken ∙ run_on u t ls ks later)

  -- what holds at first, and is kept by each line, holds behind all
  pub kept : (P : State → List Line → Type 0) → ((s t : State) (ls : List Line) (l : Line) → P s ls → next s l ≡ Some t → P t (ls ++ l ∷ [])) → (s t : State) (front ls : List Line) → P s front → run s ls ≡ Some t → P t (front ++ ls)
  kept P step s t front [] p e = let same : s ≡ t = cc in subst (λ (u : State). P u (front ++ [])) same (subst (P s) (sym (append-nil front)) p)
  kept P step s t front (l ∷ ls) p e =
      option_and_then_some (λ u. run u ls) (next s l) t e (λ u taken later. subst (P t) (append_assoc front (l ∷ []) ls) (kept P step u t (front ++ l ∷ []) ls (step s u front l p taken) later))

-- a machine of lines, each of which its text tells
pub record Machine (State Line : Type 0) : Type 1 where
  pub start : State
  pub next : State → Line → Option State
  pub Ends : State → Type 0
  pub Is : Line → Type 0
  pub text : Line → List ℕ
  pub lacks : (l : Line) → LacksFeed (text l)
  pub one : (l k : Line) → Is l → Is k → text l ≡ text k → l ≡ k

module _ {State Line : Type 0} (m : Machine State Line) where
  abbrev pub text_of : List Line → List ℕ
  text_of ls = flat_map (λ l. fed (m.text l)) ls

  abbrev pub AreLines : List Line → Type 0
  AreLines ls = AllByRecursion m.Is ls

  -- bytes that are lines which lead to an end
  pub record Whole (bytes : List ℕ) : Type 0 where
    pub lines : List Line
    pub end : State
    pub are : AreLines lines
    pub parts : bytes ≡ text_of lines
    pub ran : run m.next m.start lines ≡ Some end
    pub ends : m.Ends end

  -- so many lines stand at the front of the bytes, and begin such bytes
  pub record Begins (bytes : List ℕ) (number : ℕ) : Type 0 where
    pub lines : List (List ℕ)
    pub rest : List ℕ
    pub parts : bytes ≡ flat_map fed lines ++ rest
    pub count : length lines ≡ number
    pub lack : AllByRecursion LacksFeed lines
    pub later : List ℕ
    pub whole : Whole (flat_map fed lines ++ later)

  -- the first number such that the bytes have not so many lines that begin such bytes
  pub record IsFirstBad (bytes : List ℕ) (number : ℕ) : Type 0 where
    pub none : Whole bytes → ⊥
    pub positive : 0 < number
    pub before : (k : ℕ) → k < number → Begins bytes k
    pub stops : Begins bytes number → ⊥

  -- lines lead from a state to an end
  pub record GoesOn (s : State) : Type 0 where
    pub more : List Line
    pub end : State
    pub are : AreLines more
    pub ran : run m.next s more ≡ Some end
    pub ends : m.Ends end

  pub goes_before : (s t : State) (ls : List Line) → AreLines ls → run m.next s ls ≡ Some t → GoesOn t → GoesOn s
  goes_before s t ls are ran g = record { more = ls ++ g.more; end = g.end; are = all_both m.Is ls g.more are g.are; ran = run_on m.next s t ls g.more ran ∙ g.ran; ends = g.ends }

  -- what was read so far, and the number of the next line
  pub record Reached (bytes : List ℕ) (s : State) (x : List ℕ) (number : ℕ) : Type 0 where
    pub lines : List Line
    pub are : AreLines lines
    pub ran : run m.next m.start lines ≡ Some s
    pub parts : bytes ≡ text_of lines ++ x
    pub count : number ≡ length lines + 1
    pub room : number + length x ≤ length bytes + 1

  -- a text is taken as a line, or is none that may follow
  abbrev pub Takes : State → List ℕ → State → Bool → Type 0
  Takes old text new true = (l : Line) × m.Is l × (text ≡ m.text l) × (m.next old l ≡ Some new)
  Takes old text new false = (l : Line) → m.Is l → text ≡ m.text l → m.next old l ≡ None

  -- ---- steps

  pub reached_none : (bytes : List ℕ) → Reached bytes m.start bytes 1
  reached_none bytes = record { lines = []; are = tt; ran = refl; parts = refl; count = refl; room = omega arith }

  pub reached_more : (bytes : List ℕ) (s t : State) (x y : List ℕ) (number i : ℕ) → Reached bytes s x number → IsFeedAt x i → Takes s (take i x) t true → y ≡ drop (i + 1) x → Reached bytes t y (number + 1)
  reached_more bytes s t x y number i r f (l, is, spelled, taken) rest =
      let cut : x ≡ fed (m.text l) ++ y = f.parts ∙ (ap (λ u. u ++ 10 ∷ drop (i + 1) x) spelled ∙ (ap (λ z. m.text l ++ 10 ∷ z) (sym rest) ∙ sym (fed_form (m.text l) y))) in
      let whole : text_of (r.lines ++ l ∷ []) ≡ text_of r.lines ++ fed (m.text l) = flat_map-append (λ k. fed (m.text k)) r.lines (l ∷ []) ∙ ap (λ u. text_of r.lines ++ u) (append-nil (fed (m.text l))) in
      record {
        lines = r.lines ++ l ∷ [];
        are = all_push m.Is r.lines l r.are is;
        ran = run_on m.next m.start s r.lines (l ∷ []) r.ran ∙ ap (option_and_then (λ u. Some u)) taken;
        parts = r.parts ∙ (ap (λ u. text_of r.lines ++ u) cut ∙ (sym (append_assoc (text_of r.lines) (fed (m.text l)) y) ∙ ap (λ u. u ++ y) (sym whole)));
        count = (let size = length-append r.lines (l ∷ []) in let was = r.count in omega (arith, size, was));
        room = (let size = ap length f.parts in let parts = length-append (take i x) (10 ∷ drop (i + 1) x) in let same = ap length rest in let was = r.room in omega (arith, size, parts, same, was));
      }

  unfoldable pub whole_read : (bytes : List ℕ) (s : State) (number : ℕ) → Reached bytes s [] number → m.Ends s → Whole bytes
  whole_read bytes s number r ends = record { lines = r.lines; end = s; are = r.are; parts = r.parts ∙ append-nil (text_of r.lines); ran = r.ran; ends = ends }

  -- ---- where reading stops

  first_line : (l : Line) (ls : List Line) (x : List ℕ) → text_of (l ∷ ls) ++ x ≡ m.text l ++ 10 ∷ (text_of ls ++ x)
  first_line l ls x = append_assoc (fed (m.text l)) (text_of ls) x ∙ fed_form (m.text l) (text_of ls ++ x)

  -- lines at the front of the text of others are the first of these
  record Front (ls ks : List Line) (x : List ℕ) : Type 0 where
    more : List Line
    whole : ks ≡ ls ++ more
    left : x ≡ text_of more

  front : (ls ks : List Line) (x : List ℕ) → AreLines ls → AreLines ks → text_of ls ++ x ≡ text_of ks → Front ls ks x
  front [] ks x p q e = record { more = ks; whole = refl; left = e }
  front (l ∷ ls) [] x p q e = absurd (no_line (m.text l) (text_of ls ++ x) (sym e ∙ first_line l ls x))
  front (l ∷ ls) (k ∷ ks) x p q e =
      let here = same_line (m.text l) (m.text k) (text_of ls ++ x) (text_of ks) (m.lacks l) (m.lacks k) (sym (first_line l ls x) ∙ (e ∙ fed_form (m.text k) (text_of ks))) in
      let later = front ls ks x p.1 q.1 here.1 in
      record { more = later.more; whole = ap (λ j. j ∷ ks) (sym (m.one l k p.0 q.0 here.0)) ∙ ap (λ t. l ∷ t) later.whole; left = later.left }

  -- the text of lines tells them
  pub same_lines : (ls ks : List Line) → AreLines ls → AreLines ks → text_of ls ≡ text_of ks → ls ≡ ks
  same_lines ls ks p q e = let f = front ls ks [] p q (append-nil (text_of ls) ∙ e) in sym (f.whole ∙ (ap (λ t. ls ++ t) (none f.more f.left) ∙ append-nil ls))
    where
      none : (more : List Line) → [] ≡ text_of more → more ≡ []
      none [] e = refl
      none (u ∷ more) e = absurd (no_line (m.text u) (text_of more) (e ∙ fed_form (m.text u) (text_of more)))

  -- one line more than others at the front of the same bytes
  record Longer (ls : List Line) (us : List (List ℕ)) (x y : List ℕ) : Type 0 where
    last : List ℕ
    lacks : LacksFeed last
    whole : (z : List ℕ) → flat_map fed us ++ z ≡ text_of ls ++ (last ++ 10 ∷ z)
    left : x ≡ last ++ 10 ∷ y

  longer : (ls : List Line) (us : List (List ℕ)) (x y : List ℕ) → AllByRecursion LacksFeed us → text_of ls ++ x ≡ flat_map fed us ++ y → length us ≡ length ls + 1 → Longer ls us x y
  longer [] [] x y p e n = absurd (omega arith)
  longer [] (u ∷ []) x y p e n =
      let form : (z : List ℕ) → flat_map fed (u ∷ []) ++ z ≡ u ++ 10 ∷ z = λ z. append_assoc (fed u) [] z ∙ fed_form u z in
      record { last = u; lacks = p.0; whole = form; left = e ∙ form y }
  longer [] (u ∷ v ∷ us) x y p e n = absurd (omega arith)
  longer (l ∷ ls) [] x y p e n = absurd (omega arith)
  longer (l ∷ ls) (u ∷ us) x y p e n =
      let form : (z : List ℕ) → flat_map fed (u ∷ us) ++ z ≡ u ++ 10 ∷ (flat_map fed us ++ z) = λ z. append_assoc (fed u) (flat_map fed us) z ∙ fed_form u (flat_map fed us ++ z) in
      let here = same_line (m.text l) u (text_of ls ++ x) (flat_map fed us ++ y) (m.lacks l) p.0 (sym (first_line l ls x) ∙ (e ∙ form y)) in
      let later = longer ls us x y p.1 here.1 (omega arith) in
      record {
        last = later.last;
        lacks = later.lacks;
        whole = λ z. form z ∙ (ap (λ t. t ++ 10 ∷ (flat_map fed us ++ z)) (sym here.0) ∙ (ap (λ t. m.text l ++ 10 ∷ t) (later.whole z) ∙ sym (first_line l ls (later.last ++ 10 ∷ z))));
        left = later.left;
      }

  -- no line at the front of the bytes may follow
  abbrev pub Stuck : State → List ℕ → Type 0
  Stuck s x = (l : Line) (y : List ℕ) → m.Is l → x ≡ m.text l ++ 10 ∷ y → m.next s l ≡ None

  no_whole : (s : State) (ls : List Line) (x : List ℕ) → AreLines ls → run m.next m.start ls ≡ Some s → Stuck s x → (x ≡ [] → m.Ends s → ⊥) → Whole (text_of ls ++ x) → ⊥
  no_whole s ls x are ran stuck open_ w =
      let f = front ls w.lines x are w.are w.parts in
      by f.more f.left (all_end m.Is ls f.more (subst AreLines f.whole w.are)) (sym (run_on m.next m.start s ls f.more ran) ∙ (ap (run m.next m.start) (sym f.whole) ∙ w.ran))
    where
      by : (more : List Line) → x ≡ text_of more → AreLines more → run m.next s more ≡ Some w.end → ⊥
      by [] left is e = let same : w.end ≡ s = cc in open_ left (subst m.Ends same w.ends)
      by (u ∷ more) left is e =
          let stop = stuck u (text_of more) is.0 (left ∙ fed_form (m.text u) (text_of more)) in
          let wrong : None ≡ Some w.end = sym (ap (option_and_then (λ t. run m.next t more)) stop) ∙ e in
          absurd (cc)

  begins : (bytes : List ℕ) (s : State) (x : List ℕ) (number k : ℕ) → Reached bytes s x number → GoesOn s → k < number → Begins bytes k
  begins bytes s x number k r g less =
      let ls = take k r.lines in
      let ms = drop k r.lines in
      let split = take-append-drop k r.lines in
      let few : k ≤ length r.lines = (let was = r.count in omega (arith, was, less)) in
      let texts = flat_map-map fed m.text ls in
      let append : (more : List Line) → text_of (ls ++ more) ≡ flat_map fed (map m.text ls) ++ text_of more = λ more. flat_map-append (λ l. fed (m.text l)) ls more ∙ ap (λ t. t ++ text_of more) (sym texts) in
      record {
        lines = map m.text ls;
        rest = text_of ms ++ x;
        parts = r.parts ∙ (ap (λ l. text_of l ++ x) (sym split) ∙ (ap (λ t. t ++ x) (append ms) ∙ append_assoc (flat_map fed (map m.text ls)) (text_of ms) x));
        count = length-map ls m.text ∙ length-take-le k r.lines few;
        lack = lack ls;
        later = text_of (ms ++ g.more);
        whole = record {
          lines = r.lines ++ g.more;
          end = g.end;
          are = all_both m.Is r.lines g.more r.are g.are;
          parts = sym (append (ms ++ g.more)) ∙ ap text_of (sym (append_assoc ls ms g.more) ∙ ap (λ l. l ++ g.more) split);
          ran = run_on m.next m.start s r.lines g.more r.ran ∙ g.ran;
          ends = g.ends;
        };
      }
    where
      lack : (ls : List Line) → AllByRecursion LacksFeed (map m.text ls)
      lack [] = tt
      lack (l ∷ ls) = (m.lacks l, lack ls)

  first_bad : (bytes : List ℕ) (s : State) (x : List ℕ) (number : ℕ) → Reached bytes s x number → GoesOn s → Stuck s x → (x ≡ [] → m.Ends s → ⊥) → IsFirstBad bytes number
  first_bad bytes s x number r g stuck open_ =
      record {
        none = λ w. no_whole s r.lines x r.are r.ran stuck open_ (subst Whole r.parts w);
        positive = (let was = r.count in omega (arith, was));
        before = λ k less. begins bytes s x number k r g less;
        stops = λ b.
            let up = longer r.lines b.lines x b.rest b.lack (sym r.parts ∙ b.parts) (b.count ∙ r.count) in
            no_whole s r.lines (up.last ++ 10 ∷ b.later) r.are r.ran
            (λ l y is e. stuck l b.rest is (up.left ∙ ap (λ t. t ++ 10 ∷ b.rest) (same_line up.last (m.text l) b.later y up.lacks (m.lacks l) e).0))
            (λ none ends. no_line up.last b.later (sym none)) (subst Whole (up.whole b.later) b.whole);
      }

  -- at a line that is not taken
  pub bad_text : (bytes : List ℕ) (s t : State) (x : List ℕ) (number i : ℕ) → Reached bytes s x number → GoesOn s → IsFeedAt x i → Takes s (take i x) t false → IsFirstBad bytes number
  bad_text bytes s t x number i r g f refused =
      first_bad bytes s x number r g
      (λ l y is e. refused l is (same_line (take i x) (m.text l) (drop (i + 1) x) y f.before (m.lacks l) (sym f.parts ∙ e)).0)
      (λ none ends. no_line (take i x) (drop (i + 1) x) (sym none ∙ f.parts))

  -- at a line that lacks its line feed, or where a line is missing
  pub bad_end : (bytes : List ℕ) (s : State) (x : List ℕ) (number : ℕ) → Reached bytes s x number → GoesOn s → LacksFeed x → (x ≡ [] → m.Ends s → ⊥) → IsFirstBad bytes number
  bad_end bytes s x number r g lacks open_ = first_bad bytes s x number r g (λ l y is e. absurd (has_feed (m.text l) y (subst LacksFeed e lacks))) open_

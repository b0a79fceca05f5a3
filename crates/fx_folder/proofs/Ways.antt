-- One entry after another of a folder is walked.
use Rattle.fx_folder.proofs.Prelude.{all_front, Held, all_below, all_bytes, first_refused, in_table, refused_entry, walked, AnswersEntry, IsEntered, IsOnWay, IsThere, WalkCause, ahead, below_names, found_as, held_of, item_path, items_of, root_found, size_of, Item, Names, Parts, parts, IsWhole, Lists, Tree, is_folder_at, Change, Dir, FolderCause, LoadFault, NoMemory, ReadFault, Refused, Err, IfSome, List, None, Ok, Option, Some, [], ap, append-nil, append_assoc, arith, cond, false, length, length-append, map, not, refl, subst, sym, true, ℕ, ◌++◌, ◌+◌, ◌-◌, ◌∙◌, ◌∷◌, ◌≡◌, sum_by-cons, entries, option_or, MAX_BYTES}
use Rattle.fx_base.proofs.Lists.{all_last}
use Rattle.fx_folder.proofs.Branches.{ahead_push, items_ahead, items_there}

behind_none : (xs : List Held) → map (below_names []) xs ≡ xs
behind_none [] = refl
behind_none (x ∷ xs) = ap (λ l. x ∷ l) (behind_none xs)

way_start : (t : Tree) (whole : IsWhole t) (at : Parts) (names : Names) → Lists t at names → IsOnWay t at (root_found ∷ []) MAX_BYTES (items_of [] (entries names))
way_start t whole at names lists =
    let lists' : Lists t (at ++ []) names = subst (λ p. Lists t p names) (sym (append-nil at)) lists in
    let all : walked (ahead t at (items_of [] (entries names))) ≡ walked (all_below t at) =
    items_ahead t whole at [] names [] lists'
    ∙ ap walked (append-nil (map (below_names []) (all_below t (at ++ []))) ∙ behind_none (all_below t (at ++ [])) ∙ ap (all_below t) (append-nil at)) in
    record {
      entries = ap (λ l. root_found ∷ map found_as l) (sym all);
      refusal = ap (first_refused 1 MAX_BYTES) (sym all);
      bytes = ap (λ l. MAX_BYTES - all_bytes l) (sym all);
      there = items_there t at [] names [] lists' tt;
    }

pub start_told : (told : Option Tree) (path : List ℕ) (names : Names) (found : List Change) (todo : List Item) → IfSome told IsWhole → IfSome told (λ t. (is_folder_at t path ≡ true) × Lists t (parts path) names) → found ≡ root_found ∷ [] → todo ≡ items_of [] (entries names) → IfSome told (λ t. IsOnWay t (parts path) found MAX_BYTES todo)
start_told None path names found todo whole lists f d = tt
start_told (Some t) path names found todo whole lists f d =
    subst (λ l. IsOnWay t (parts path) l MAX_BYTES todo) (sym f) (subst (λ l. IsOnWay t (parts path) (root_found ∷ []) MAX_BYTES l) (sym d) (way_start t whole (parts path) names lists.1))

-- the next entry is that of the last item
next_walked : (t : Tree) (at : Parts) (todo : List Item) (x : Item) → in_table (item_path x) ≡ false → walked (ahead t at (todo ++ x ∷ [])) ≡ held_of t at x ∷ walked (map (below_names (item_path x)) (all_below t (at ++ item_path x)) ++ ahead t at todo)
next_walked t at todo x other =
    let rest = map (below_names (item_path x)) (all_below t (at ++ item_path x)) ++ ahead t at todo in
    ap walked (ahead_push t at todo x)
    ∙ ap (λ b. cond (not b) (held_of t at x ∷ walked rest) (walked rest)) other

or_none : (o rest : Option FolderCause) → o ≡ None → option_or o rest ≡ rest
or_none o rest e = ap (λ x. option_or x rest) e

pub way_step : (t : Tree) (at : Parts) (found : List Change) (left : ℕ) (todo todo' : List Item) (x : Item) (change : Change) → IsOnWay t at found left (todo ++ x ∷ []) → refused_entry (length found) left (held_of t at x) ≡ None → change ≡ found_as (held_of t at x) → IsEntered t at (item_path x) todo todo' → IsOnWay t at (found ++ change ∷ []) (left - length (held_of t at x).1.bytes) todo'
way_step t at found left todo todo' x change way none is entered =
    let h = held_of t at x in
    let there = all_last (IsThere t at) todo x way.there in
    let W = walked (all_below t at) in
    let R = walked (ahead t at todo') in
    let next : walked (ahead t at (todo ++ x ∷ [])) ≡ h ∷ R = next_walked t at todo x there.walked ∙ ap (λ l. h ∷ l) (sym entered.ahead) in
    record {
      entries = way.entries ∙ ap (λ l. found ++ map found_as l) next ∙ ap (λ c. found ++ c ∷ map found_as R) (sym is) ∙ sym (append_assoc found (change ∷ []) (map found_as R));
      refusal = way.refusal ∙ ap (first_refused (length found) left) next
          ∙ or_none (refused_entry (length found) left h) (first_refused (length found + 1) (left - length h.1.bytes) R) none
          ∙ ap (λ n. first_refused n (left - length h.1.bytes) R) (sym (length-append found (change ∷ [])));
      bytes = way.bytes ∙ ap (λ l. left - all_bytes l) next ∙ ap (λ n. left - n) (sum_by-cons (λ (g : Held). length g.1.bytes) h R) ∙ minus left (length h.1.bytes) (all_bytes R);
      there = entered.there (all_front (IsThere t at) todo (x ∷ []) way.there);
    }
  where
    minus : (a b c : ℕ) → a - (b + c) ≡ a - b - c
    minus a b c = omega arith

pub way_refused : (t : Tree) (at : Parts) (found : List Change) (left : ℕ) (todo : List Item) (x : Item) (cause : FolderCause) → IsOnWay t at found left (todo ++ x ∷ []) → refused_entry (length found) left (held_of t at x) ≡ Some cause → first_refused 1 MAX_BYTES (walked (all_below t at)) ≡ Some cause
way_refused t at found left todo x cause way some =
    let there = all_last (IsThere t at) todo x way.there in
    way.refusal ∙ ap (first_refused (length found) left) (next_walked t at todo x there.walked) ∙ ap (λ o. option_or o (first_refused (length found + 1) (left - length (held_of t at x).1.bytes) (walked (map (below_names (item_path x)) (all_below t (at ++ item_path x)) ++ ahead t at todo)))) some

pub cause_told : (told : Option Tree) (at : Parts) (found : List Change) (left nodes : ℕ) (todo : List Item) (x : Item) (fault : LoadFault) → nodes ≡ length found → IfSome told (λ t. IsOnWay t at found left (todo ++ x ∷ [])) → IfSome told (λ t. AnswersEntry nodes left (held_of t at x) (Err fault)) → IfSome told (λ t. WalkCause t at fault)
cause_told None at found left nodes todo x fault n way answer = tt
cause_told (Some t) at found left nodes todo x (Refused cause) n way answer = way_refused t at found left todo x cause way (subst (λ k. refused_entry k left (held_of t at x) ≡ Some cause) n answer)
cause_told (Some t) at found left nodes todo x ReadFault n way answer = tt
cause_told (Some t) at found left nodes todo x NoMemory n way answer = tt

pub root_pushed : (items : List Change) (p : Parts) (names : List (List ℕ)) → items ≡ [] → p ≡ [] → names ≡ [] → items ++ record { path = p; node = Some (Dir names) } ∷ [] ≡ root_found ∷ []
root_pushed items p names a b c =
    ap (λ l. l ++ record { path = p; node = Some (Dir names) } ∷ []) a
    ∙ ap (λ q. record { path = q; node = Some (Dir names) } ∷ []) b
    ∙ ap (λ ns. record { path = []; node = Some (Dir ns) } ∷ []) c

pub begin_told : (told : Option Tree) (path : List ℕ) (names : Names) (found start : List Change) (todo first : List Item) (p q : Parts) (ns : List (List ℕ)) → IfSome told IsWhole → IfSome told (λ t. (is_folder_at t path ≡ true) × Lists t (parts path) names) → found ≡ start ++ record { path = q; node = Some (Dir ns) } ∷ [] → start ≡ [] → q ≡ [] → ns ≡ [] → todo ≡ first ++ items_of p (entries names) → first ≡ [] → p ≡ [] → IfSome told (λ t. IsOnWay t (parts path) found MAX_BYTES todo)
begin_told told path names found start todo first p q ns whole lists f s b c d e g =
    start_told told path names found todo whole lists (f ∙ root_pushed start q ns s b c) (d ∙ ap (λ l. l ++ items_of p (entries names)) e ∙ ap (λ r. items_of r (entries names)) g)

pub there_told : (told : Option Tree) (folder : List ℕ) (found : List Change) (left : ℕ) (todo : List Item) (x : Item) → IfSome told (λ t. is_folder_at t folder ≡ true) → IfSome told (λ t. IsOnWay t (parts folder) found left (todo ++ x ∷ [])) → IfSome told (λ t. (is_folder_at t folder ≡ true) × IsThere t (parts folder) x)
there_told None folder found left todo x here way = tt
there_told (Some t) folder found left todo x here way = (here, all_last (IsThere t (parts folder)) todo x way.there)

pub step_told : (told : Option Tree) (at : Parts) (found new : List Change) (left nodes rest : ℕ) (todo todo' : List Item) (x : Item) (change : Change) → nodes ≡ length found → rest ≡ left - size_of change → new ≡ found ++ change ∷ [] → IfSome told (λ t. IsOnWay t at found left (todo ++ x ∷ [])) → IfSome told (λ t. AnswersEntry nodes left (held_of t at x) (Ok change)) → IfSome told (λ t. IsEntered t at (item_path x) todo todo') → IfSome told (λ t. IsOnWay t at new rest todo')
step_told None at found new left nodes rest todo todo' x change n r f way answer entered = tt
step_told (Some t) at found new left nodes rest todo todo' x change n r f way answer entered =
    let step = way_step t at found left todo todo' x change way (subst (λ k. refused_entry k left (held_of t at x) ≡ None) n answer.0) answer.1 entered in
    subst (λ l. IsOnWay t at l rest todo') (sym f) (subst (λ k. IsOnWay t at (found ++ change ∷ []) k todo') (sym (r ∙ ap (λ k. left - k) answer.2)) step)

-- What the steps of the program give.
use Rattle.std.proofs.Common.{◌≡◌, ℕ, ◌+◌, ◌<◌, ◌≤◌, List, [], ◌∷◌, ◌++◌, length, take, drop, get_or, refl, sym, ap, subst, ◌∙◌}
use Rattle.std.proofs.lemmas.List.{take_all, take_more}
use Rattle.fx_base.proofs.Lists.{all_push, parts_at}
use Rattle.fx_expr.specs.Tree.{Tree}
use Rattle.fx_report.specs.declared.printed.PrintedEntry.{PrintedEntry}
use Rattle.fx_read_report.specs.Feeds.{IsFeedAt, LacksFeed}
use Rattle.fx_read_report.specs.Stages.{with_last_output}

abbrev pub with_output : PrintedEntry → Tree → PrintedEntry
with_output e v = record { shell = e.shell; txn = e.txn; outputs = e.outputs ++ v ∷ []; end = e.end }

pub printed_last : (xs : List PrintedEntry) (e : PrintedEntry) (v : Tree) → with_last_output (xs ++ e ∷ []) v ≡ xs ++ with_output e v ∷ []
printed_last [] e v = refl
printed_last (x ∷ []) e v = refl
printed_last (x ∷ y ∷ xs) e v = ap (λ t. x ∷ t) (printed_last (y ∷ xs) e v)

pub printed_is : (old xs new : List PrintedEntry) (e : PrintedEntry) (outputs : List Tree) (v : Tree) → old ≡ xs ++ e ∷ [] → outputs ≡ e.outputs ++ v ∷ [] → new ≡ xs ++ record { shell = e.shell; txn = e.txn; outputs = outputs; end = e.end } ∷ [] → new ≡ with_last_output old v
printed_is old xs new e outputs v was is made =
    made ∙ (ap (λ (o : List Tree). xs ++ record { shell = e.shell; txn = e.txn; outputs = o; end = e.end } ∷ []) is ∙ (sym (printed_last xs e v) ∙ ap (λ l. with_last_output l v) (sym was)))

-- feeds

pub none_yet : (text : List ℕ) → LacksFeed (take 0 text)
none_yet [] = tt
none_yet (b ∷ text) = tt

pub none_more : (text : List ℕ) (i : ℕ) → i < length text → (get_or text i 0 ≡ 10 → ⊥) → LacksFeed (take i text) → LacksFeed (take (i + 1) text)
none_more text i lt other before = subst LacksFeed (sym (take_more text i 0 lt)) (all_push (λ b. b ≡ 10 → ⊥) (take i text) (get_or text i 0) before other)

pub feed_at : (text : List ℕ) (i : ℕ) → i < length text → get_or text i 0 ≡ 10 → LacksFeed (take i text) → IsFeedAt text i
feed_at text i lt same before = record { within = lt; before = before; parts = parts_at text i 0 lt ∙ ap (λ y. take i text ++ y ∷ drop (i + 1) text) same }

pub none_at_all : (text : List ℕ) (i : ℕ) → length text ≤ i → LacksFeed (take i text) → LacksFeed text
none_at_all text i h before = subst LacksFeed (take_all i text h) before

-- Changes that are added to others, and the rule of a removal, step by step.
use Rattle.std.proofs.Common.{◌≡◌, ℕ, suc, ◌-◌, ◌<◌, ◌≤◌, List, [], ◌∷◌, ◌++◌, length, Option, Some, None, Ok, refl, sym, ap, ◌∙◌, arith, append_assoc, length-append}
use Rattle.std.proofs.lemmas.List.{append-nil}
use mathlib.Core.Path.{fun_ext}
use Rattle.fx_store.specs.declared.node.Node.{Node}
use Rattle.fx_store.specs.declared.node.Node.TheVariants.{Dir}
use Rattle.fx_store.specs.declared.changes.Change.{Change}
use Rattle.fx_store.specs.Resolve.{◌/ₚ◌}
use Rattle.fx_store.specs.Rule.{Ask, Answer, Look, ◌>>=◌}
use Rattle.fx_store.proofs.Asks.{ask-bind-assoc}
use Rattle.fx_expr.specs.Sets.{set_of}
use Rattle.fx_spec.specs.Edit.{set_to, removed, names_of, cleared, clear_levels, clear, entry, entries, new_names}
use Rattle.fx_edit.specs.Rules.{adding, edit_answer, listing, cleared_listing}

abbrev Path : Type 0
Path = List (List ℕ)

-- ---- changes after others

pub adding-then : {A : Type 0} (before : List Change) (rule : Ask A) (f : A → Ask (List Change)) → adding before (rule >>= f) ≡ (rule >>= λ a. adding before (f a))
adding-then before rule f = ask-bind-assoc rule f (λ cs. Answer (before ++ cs))

adding-more : (before first : List Change) (rule : Ask (List Change)) → (rule >>= λ rest. Answer (before ++ (first ++ rest))) ≡ adding (before ++ first) rule
adding-more before first rule = ap (λ (f : List Change → Ask (List Change)). rule >>= f) (fun_ext (λ rest. ap (λ (cs : List Change). Answer cs) (sym (append_assoc before first rest))))

-- what comes after some first changes
pub adding-first : (before first : List Change) (rule : Ask (List Change)) → adding before (rule >>= λ rest. Answer (first ++ rest)) ≡ adding (before ++ first) rule
adding-first before first rule = adding-then before rule (λ rest. Answer (first ++ rest)) ∙ adding-more before first rule

pub adding-none : (before : List Change) → adding before (Answer []) ≡ Answer before
adding-none before = ap (λ (cs : List Change). Answer cs) (append-nil before)

-- the changes of one name, and then those of the others
pub adding-entries : (change : List ℕ → Ask (List Change)) (before : List Change) (n : List ℕ) (names : List (List ℕ)) → adding before (entries change (n ∷ names)) ≡ (adding before (change n) >>= λ now. adding now (entries change names))
adding-entries change before n names =
    adding-then before (change n) (λ first. entries change names >>= λ rest. Answer (first ++ rest))
    ∙ (ap (λ (f : List Change → Ask (List Change)). change n >>= f) (fun_ext (λ first. adding-first before first (entries change names)))
    ∙ sym (ask-bind-assoc (change n) (λ first. Answer (before ++ first)) (λ now. adding now (entries change names))))

-- ---- a removal

clear_levels-below : (q : Path) (n : List ℕ) → clear_levels (64 - length q) (q /ₚ n) ≡ clear (q /ₚ n)
unfolding clear
clear_levels-below q n = ap (λ k. clear_levels k (q /ₚ n)) (omega (arith, length-append q (n ∷ [])))

-- the look at the entry, and then the removal of what it lists
pub clear-is : (q : Path) → length q ≤ 64 → clear q ≡ (Look q (λ node. Answer (listing node)) >>= cleared_listing q)
unfolding clear
clear-is q short =
    let more : 65 - length q ≡ suc (64 - length q) = omega arith in
    ap (λ k. clear_levels k q) more ∙ ap (λ (f : Option Node → Ask (List Change)). Look q f) (fun_ext at)
  where
    at : (node : Option Node) → cleared q (λ p. clear_levels (64 - length q) p) node ≡ cleared_listing q (listing node)
    at None = refl
    at (Some node) =
        ap (λ (r : Ask (List Change)). r >>= λ below. Answer (removed q ∷ below))
        (ap (λ (change : List ℕ → Ask (List Change)). entries change (names_of (Some node))) (fun_ext (λ n. clear_levels-below q n)))

-- no entry has a path of more than 64 names
pub clear-deep : (q : Path) → 64 < length q → clear q ≡ Answer []
unfolding clear
clear-deep q deep = let none : 65 - length q ≡ 0 = omega arith in ap (λ k. clear_levels k q) none

-- a removal after some changes: where nothing is there, and where an entry is
pub adding-clear : (before : List Change) (q : Path) → length q ≤ 64 → adding before (clear q) ≡ (Look q (λ node. Answer (listing node)) >>= λ o. adding before (cleared_listing q o))
adding-clear before q short = ap (adding before) (clear-is q short) ∙ adding-then before (Look q (λ node. Answer (listing node))) (cleared_listing q)

pub adding-listing : (before : List Change) (q : Path) (names : List (List ℕ)) → adding before (cleared_listing q (Some names)) ≡ adding (before ++ removed q ∷ []) (entries (λ n. clear (q /ₚ n)) names)
adding-listing before q names = adding-first before (removed q ∷ []) (entries (λ n. clear (q /ₚ n)) names)

-- ---- a directory with new names, as an edit

pub editing-first : (first : List Change) (rule : Ask (List Change)) → edit_answer (adding first rule) ≡ (rule >>= λ rest. Answer (Ok (first ++ rest)))
editing-first first rule = ask-bind-assoc rule (λ rest. Answer (first ++ rest)) (λ cs. Answer (Ok cs))

pub new_names-is : (q : Path) (old new : List (List ℕ)) → new_names q old new ≡ edit_answer (adding (set_to q (Dir new) ∷ []) (entries (entry q old new) (set_of (old ++ new))))
new_names-is q old new = sym (editing-first (set_to q (Dir new) ∷ []) (entries (entry q old new) (set_of (old ++ new))))

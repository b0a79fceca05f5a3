-- What is known grows with the reads: what was read at a path stays.
use Rattle.std.proofs.Common.{◌≡◌, ℕ, Bool, true, false, cond, List, [], ◌∷◌, ◌++◌, Option, Some, None, IsSome, refl, ap, ◌∙◌, option_map}
use Rattle.std.specs.Ordering.{eq_by_cmp}
use Rattle.fx_base.proofs.Names.{path_itself}
use Rattle.fx_store.specs.declared.node.Node.{Node}
use Rattle.fx_store.specs.Names.{path_cmp}
use Rattle.fx_store.specs.Rule.{Known}
use Rattle.fx_store.specs.Whole.{Store}
use Rattle.fx_view.specs.ReadList.{ReadList}
use Rattle.fx_view.specs.Reads.{read_at, known_of, IsRead, Agrees}

-- what is known of a path stays known
pub record Grows (known more : Known) : Type 0 where
  pub keeps : (p : List (List ℕ)) (n : Option Node) → known p ≡ Some n → more p ≡ Some n

pub read_at-more : (reads more : ReadList) (p : List (List ℕ)) (x : Option Node × ℕ) → read_at reads p ≡ Some x → read_at (reads ++ more) p ≡ Some x
read_at-more [] more p x e = cc
read_at-more (e ∷ es) more p x found = first (eq_by_cmp path_cmp p e.0) found (read_at-more es more p x)
  where
    first : (b : Bool) → cond b (Some e.1) (read_at es p) ≡ Some x → (read_at es p ≡ Some x → read_at (es ++ more) p ≡ Some x) → cond b (Some e.1) (read_at (es ++ more) p) ≡ Some x
    first true found rest = found
    first false found rest = rest found

-- a new path is read as it was added
pub read_at-last : (reads : ReadList) (p : List (List ℕ)) (x : Option Node × ℕ) → read_at reads p ≡ None → read_at (reads ++ (p, x) ∷ []) p ≡ Some x
read_at-last [] p x e = ap (λ b. cond b (Some x) None) (path_itself p)
read_at-last (e ∷ es) p x none = first (eq_by_cmp path_cmp p e.0) none (read_at-last es p x)
  where
    first : (b : Bool) → cond b (Some e.1) (read_at es p) ≡ None → (read_at es p ≡ None → read_at (es ++ (p, x) ∷ []) p ≡ Some x) → cond b (Some e.1) (read_at (es ++ (p, x) ∷ []) p) ≡ Some x
    first true found rest = cc
    first false found rest = rest found

pub known_by_read : (reads : ReadList) (p : List (List ℕ)) (n : Option Node) (position : ℕ) → read_at reads p ≡ Some (n, position) → known_of reads p ≡ Some n
known_by_read reads p n position e = ap (option_map (λ (r : Option Node × ℕ). r.0)) e

-- a path that was not read is not known
pub unknown_by_read : (reads : ReadList) (p : List (List ℕ)) → read_at reads p ≡ None → known_of reads p ≡ None
unknown_by_read reads p e = ap (option_map (λ (r : Option Node × ℕ). r.0)) e

known_after : (r s : Option (Option Node × ℕ)) (n : Option Node) → ((x : Option Node × ℕ) → r ≡ Some x → s ≡ Some x) → option_map (λ (r : Option Node × ℕ). r.0) r ≡ Some n → option_map (λ (r : Option Node × ℕ). r.0) s ≡ Some n
known_after None s n keeps e = cc
known_after (Some x) s n keeps e = ap (option_map (λ (r : Option Node × ℕ). r.0)) (keeps x refl) ∙ e

pub Grows-reads : (reads more : ReadList) → Grows (known_of reads) (known_of (reads ++ more))
Grows-reads reads more = record { keeps = λ p n e. known_after (read_at reads p) (read_at (reads ++ more) p) n (read_at-more reads more p) e }

-- a filestore that agrees with reads agrees with the earlier ones
pub agrees_before : (reads more : ReadList) (S : Store) → Agrees (reads ++ more) S → Agrees reads S
agrees_before reads more S agrees p n e = agrees p n ((Grows-reads reads more).keeps p n e)

read_by : (o : Option (Option Node × ℕ)) → IsSome (option_map (λ (r : Option Node × ℕ). r.0) o) → IsSome o
read_by None h = h
read_by (Some r) h = refl

-- a path that is known was read
pub read_known : (reads : ReadList) (p : List (List ℕ)) → IsSome (known_of reads p) → IsRead reads p
read_known reads p h = read_by (read_at reads p) h

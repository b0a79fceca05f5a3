-- Terms, by which a tree that holds itself has a code: it is written as a term and read back from it, so no two trees are
-- written alike. A form of a tree is a number; a further form is a line more of what writes, of what reads and of the proof.
use Rattle.std.proofs.Common.{◌≡◌, ◌⊎◌, inl, ℕ, List, [], ap}
use Rattle.std.specs.Coded.{Coded, coded_ℕ}
use base.Stored.{Gv, gnil, gnum, gcons}

-- a leaf, or a form's number with three parts
pub data Term (L : Type 0) : Type 0 where
  leaf : L → Term L
  node : ℕ → Term L → Term L → Term L → Term L

abbrev head : Gv → Gv
head gnil = gnil
head (gnum n) = gnil
head (gcons a b) = a

abbrev tail : Gv → Gv
tail gnil = gnil
tail (gnum n) = gnil
tail (gcons a b) = b

module _ {L : Type 0} (leaves : Coded L) where
  abbrev term_code : Term L → Gv
  term_code (leaf l) = gcons gnil (leaves.code l)
  term_code (node n a b c) = gcons (gnum n) (gcons (term_code a) (gcons (term_code b) (term_code c)))

  pub term_inj : (x y : Term L) → term_code x ≡ term_code y → x ≡ y
  term_inj (leaf k) (leaf l) p = ap (λ m. leaf m) (leaves.inj k l (ap tail p))
  term_inj (leaf k) (node n a b c) p = absurd (cc)
  term_inj (node m x y z) (leaf l) p = absurd (cc)
  term_inj (node m x y z) (node n a b c) p = λ i. node (coded_ℕ.inj m n (ap head p) i) (term_inj x a (ap (λ g. head (tail g)) p) i) (term_inj y b (ap (λ g. head (tail (tail g))) p) i) (term_inj z c (ap (λ g. tail (tail (tail g))) p) i)

  abbrev pub coded_term : Coded (Term L)
  coded_term = record { code = term_code; inj = term_inj }

-- terms whose leaves are texts or others
module _ {R : Type 0} where
  abbrev pub text : List ℕ → Term (List ℕ ⊎ R)
  text t = leaf (inl t)

  abbrev pub text_of : Term (List ℕ ⊎ R) → List ℕ
  text_of (leaf (inl t)) = t
  text_of _ = []

  -- a form without parts, with one and with two
  abbrev pub form : ℕ → Term (List ℕ ⊎ R)
  form n = node n (text []) (text []) (text [])

  abbrev pub form1 : ℕ → Term (List ℕ ⊎ R) → Term (List ℕ ⊎ R)
  form1 n a = node n a (text []) (text [])

  abbrev pub form2 : ℕ → Term (List ℕ ⊎ R) → Term (List ℕ ⊎ R) → Term (List ℕ ⊎ R)
  form2 n a b = node n a b (text [])

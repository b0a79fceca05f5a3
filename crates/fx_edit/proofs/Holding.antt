-- The node that a value makes.
use Rattle.std.proofs.Common.{◌≡◌, ℕ, suc, ◌<◌, All, Bool, true, false, cond, List, [], ◌∷◌, length, Some, None, Result, Ok, Err, refl, sym, ap, ◌∙◌, arith}
use Rattle.std.specs.Prelude.{nat_le, nat_lt, nat_eq, IsErrAnd}
use Rattle.std.specs.Cmp.Lexicographic.{pointwise, nat_list_eq_equiv, lists_equiv}
use Rattle.std.specs.List.{list_all}
use Rattle.std.proofs.lemmas.Bool.{le-leb, and_from}
use Rattle.std.proofs.lemmas.List.Elements.{All-head, All-tail}
use Rattle.fx_store.specs.declared.node.Node.{Node}
use Rattle.fx_store.specs.declared.node.Node.TheVariants.{File}
use Rattle.fx_store.specs.declared.name.PathFault.{PathFault}
use Rattle.fx_store.specs.declared.name.PathFault.TheVariants.{BadName, TooDeep}
use Rattle.fx_store.specs.Faults.{read_link, Answers as Reads}
use Rattle.fx_store.specs.Names.{IsContent}
use Rattle.fx_expr.specs.Sets.{IsAscending, set_of}
use Rattle.fx_expr.specs.Parts.{text_of, truth_of, names_of}
use Rattle.fx_expr.specs.Tree.{Tree}
use Rattle.fx_text.proofs.Canon.{ascending_set, has_set, same_sets}
use Rattle.fx_spec.specs.declared.refusal.Refusal.{Refusal}
use Rattle.fx_spec.specs.Edit.{is_content, is_storable, form_node, stored_node, names_node, link_node}
use Rattle.fx_spec.specs.Move.{Answered}
use Rattle.fx_spec.specs.SpecTree.{SpecTree}
use Rattle.fx_session.specs.declared.halt.Halt.{Halt}
use Rattle.fx_session.specs.Faults.{of_path}
use Rattle.fx_edit.specs.Values.{Tells}
use Rattle.fx_edit.proofs.Naming.{fault_told}

-- ---- a text within its limits, and a set in order

all_bytes : (bytes : List ℕ) → All (λ b. b < 256) bytes → list_all (λ b. nat_lt b 256) bytes ≡ true
all_bytes [] all = refl
all_bytes (b ∷ bytes) all = and_from (nat_lt b 256) (list_all (λ b. nat_lt b 256) bytes) (le-leb (suc b) 256 (omega (arith, All-head (λ b. b < 256) b bytes all))) (all_bytes bytes (All-tail (λ b. b < 256) b bytes all))

is_content_of : (bytes : List ℕ) → IsContent bytes → is_content bytes ≡ true
is_content_of bytes content = and_from (nat_le (length bytes) 1048576) (list_all (λ b. nat_lt b 256) bytes) (le-leb (length bytes) 1048576 content.short) (all_bytes bytes content.bytes)

is_set_of : (texts : List (List ℕ)) → IsAscending texts → pointwise (pointwise nat_eq) (set_of texts) texts ≡ true
is_set_of texts up =
    ap (λ ts. pointwise (pointwise nat_eq) ts texts) (same_sets (set_of texts) texts (ascending_set texts) up (λ z. has_set z texts)) ∙ (lists_equiv nat_list_eq_equiv).refl texts

-- ---- forms and values that do not go together

module _ (form : SpecTree) (v : Tree) where
  wrong : form_node form v ≡ Err Refusal.WrongForm → stored_node form v ≡ Err Refusal.WrongForm
  wrong e = at (is_storable v)
    where
      at : (b : Bool) → ◌≡◌ {A = Answered Node} (cond b (form_node form v) (Err Refusal.WrongForm)) (Err Refusal.WrongForm)
      at true = e
      at false = refl

no_text : (v : Tree) → text_of v ≡ None → form_node SpecTree.link v ≡ Err Refusal.WrongForm
no_text (Tree.str t) e = cc
no_text (Tree.int n) e = refl
no_text (Tree.bool b) e = refl
no_text (Tree.names ts) e = refl
no_text (Tree.pair a b) e = refl
no_text Tree.nothing e = refl
no_text (Tree.some a) e = refl
no_text (Tree.table rows) e = refl

no_flag : (v : Tree) → text_of v ≡ None → truth_of v ≡ None → form_node SpecTree.file v ≡ Err Refusal.WrongForm
no_flag (Tree.str t) e f = cc
no_flag (Tree.int n) e f = refl
no_flag (Tree.bool b) e f = cc
no_flag (Tree.names ts) e f = refl
no_flag (Tree.pair a b) e f = refl
no_flag Tree.nothing e f = refl
no_flag (Tree.some a) e f = refl
no_flag (Tree.table rows) e f = refl

no_texts : (v : Tree) → names_of v ≡ None → form_node SpecTree.dir v ≡ Err Refusal.WrongForm
no_texts (Tree.str t) e = refl
no_texts (Tree.int n) e = refl
no_texts (Tree.bool b) e = refl
no_texts (Tree.names ts) e = cc
no_texts (Tree.pair a b) e = refl
no_texts Tree.nothing e = refl
no_texts (Tree.some a) e = refl
no_texts (Tree.table rows) e = refl

pub file-wrong : (v : Tree) → text_of v ≡ None → truth_of v ≡ None → stored_node SpecTree.file v ≡ Err Refusal.WrongForm
file-wrong v e f = wrong SpecTree.file v (no_flag v e f)

pub link-wrong : (v : Tree) → text_of v ≡ None → stored_node SpecTree.link v ≡ Err Refusal.WrongForm
link-wrong v e = wrong SpecTree.link v (no_text v e)

pub dir-wrong : (v : Tree) → names_of v ≡ None → stored_node SpecTree.dir v ≡ Err Refusal.WrongForm
dir-wrong v e = wrong SpecTree.dir v (no_texts v e)

-- ---- those that do

pub text_is : (v : Tree) (t : List ℕ) → text_of v ≡ Some t → v ≡ Tree.str t
text_is (Tree.str u) t e = let same : u ≡ t = cc in ap (λ u. Tree.str u) same
text_is (Tree.int n) t e = cc
text_is (Tree.bool b) t e = cc
text_is (Tree.names ts) t e = cc
text_is (Tree.pair a b) t e = cc
text_is Tree.nothing t e = cc
text_is (Tree.some a) t e = cc
text_is (Tree.table rows) t e = cc

pub texts_are : (v : Tree) (ts : List (List ℕ)) → names_of v ≡ Some ts → v ≡ Tree.names ts
texts_are (Tree.str t) ts e = cc
texts_are (Tree.int n) ts e = cc
texts_are (Tree.bool b) ts e = cc
texts_are (Tree.names us) ts e = let same : us ≡ ts = cc in ap (λ us. Tree.names us) same
texts_are (Tree.pair a b) ts e = cc
texts_are Tree.nothing ts e = cc
texts_are (Tree.some a) ts e = cc
texts_are (Tree.table rows) ts e = cc

-- a text at a form is what the form makes of it
pub text-stored : (form : SpecTree) (t : List ℕ) → IsContent t → stored_node form (Tree.str t) ≡ form_node form (Tree.str t)
text-stored form t content = ap (λ b. cond b (form_node form (Tree.str t)) (Err Refusal.WrongForm)) (is_content_of t content)

pub texts-stored : (ts : List (List ℕ)) → IsAscending ts → stored_node SpecTree.dir (Tree.names ts) ≡ names_node ts
texts-stored ts up = ap (λ b. cond b (names_node ts) (Err Refusal.WrongForm)) (is_set_of ts up)

-- ---- what calls tell of them

pub file_told : (v : Tree) (t bytes : List ℕ) → text_of v ≡ Some t → (bytes ≡ t) × IsContent t → stored_node SpecTree.file v ≡ Ok (File bytes false)
file_told v t bytes is held =
    ap (stored_node SpecTree.file) (text_is v t is) ∙ (text-stored SpecTree.file t held.1 ∙ ap (λ (b : List ℕ). Ok (File b false)) (sym held.0))

pub dir_told : (v : Tree) (ts : List (List ℕ)) → names_of v ≡ Some ts → IsAscending ts → stored_node SpecTree.dir v ≡ names_node ts
dir_told v ts is up = ap (stored_node SpecTree.dir) (texts_are v ts is) ∙ texts-stored ts up

pub link_told : (v : Tree) (t : List ℕ) → text_of v ≡ Some t → stored_node SpecTree.link v ≡ stored_node SpecTree.link (Tree.str t)
link_told v t is = ap (stored_node SpecTree.link) (text_is v t is)

pub link_node_told : (t : List ℕ) (answer : Result (List ℕ) PathFault) → IsContent t → read_link t ≡ answer → stored_node SpecTree.link (Tree.str t) ≡ link_node answer
link_node_told t answer content is = text-stored SpecTree.link t content ∙ ap link_node is

pub link_fault : (t bytes : List ℕ) → bytes ≡ t → IsContent t → (r : Result Node Halt) (e : PathFault) → IsErrAnd r (λ h. h ≡ of_path e) → Reads (Err e) (read_link bytes) → Tells (λ n. n) (stored_node SpecTree.link (Tree.str t)) r
link_fault t bytes same content =
    let told : (answer : Result (List ℕ) PathFault) → read_link bytes ≡ answer → stored_node SpecTree.link (Tree.str t) ≡ link_node answer = λ answer is. link_node_told t answer content (ap read_link (sym same) ∙ is) in
    fault_told (λ n. n) (read_link bytes) (stored_node SpecTree.link (Tree.str t)) (told (Err BadName)) (told (Err TooDeep))

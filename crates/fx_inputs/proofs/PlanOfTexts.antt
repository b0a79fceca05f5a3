-- The plan of texts that were read from the host before any of them was looked at.
use Rattle.std.proofs.Common.{◌≡◌, ℕ, ◌≤◌, ◌<◌, List, [], ◌∷◌, ◌++◌, length, take, drop, Option, Some, None, IfSome, refl, sym, ap, subst, ◌∙◌, arith}
use Rattle.std.specs.Prelude.{slice_get}
use Rattle.std.proofs.Math.ListN.{get_or}
use Rattle.std.proofs.lemmas.Option.{slice_get-get_or, slice_get_read}
use Rattle.fx_base.specs.Limits.{source_limit}
use Rattle.fx_command.specs.Reading.{ReadEnds}
use Rattle.fx_command.specs.StatusOf.{read_status}
use Rattle.fx_command.specs.Texts.{IsReadAt}
use Rattle.fx_command.proofs.Told.{if_some_map}
use Rattle.fx_outside.specs.declared.kind.HostFault.{HostFault}
use Rattle.fx_outside.specs.declared.kind.HostFault.TheVariants as fails
use Rattle.fx_outside.specs.Host.{HostView}
use Rattle.fx_command.specs.declared.fault.SourceFault.{SourceFault}
use Rattle.fx_command.specs.declared.fault.SourceFault.TheVariants as source
use Rattle.fx_command.specs.Faults.{status_at}
use Rattle.fx_command.specs.Scripted.{IsUnscripted}
use Rattle.fx_inputs.proofs.OneScript.{script_refused}
use Rattle.fx_inputs.proofs.Plans.{Plan, IsReading, refuses, fails as not_there}
use Rattle.fx_inputs.specs.Causes.{scripts_reading}
use Rattle.fx_inputs.specs.ReadTexts.{AreScriptTexts, StopsFor}
use Rattle.fx_words.specs.Job.{Inputs, script_place}

abbrev Texts : Type 0
Texts = List (List ℕ)

-- no more texts than paths
few_texts : (paths : Texts) (a b : HostView) (n : ℕ) (stop : Option HostFault) → StopsFor paths a b n stop → n ≤ length paths
few_texts paths a b n None is = omega (arith, is)
few_texts paths a b n (Some fails.Failed) is = is.0
few_texts paths a b n (Some fails.NoMemory) is = is

-- the text of a script, and its path
pub record IsTextAt (paths : Texts) (a : HostView) (k : ℕ) (text : List ℕ) : Type 0 where
  pub path : List ℕ
  pub is : slice_get paths k ≡ Some path
  pub within : k < length paths
  pub read : IfSome a.told (λ t. IsReadAt t path source_limit text)

pub text_at : (paths : Texts) (a b : HostView) (texts items : Texts) (k : ℕ) (text : List ℕ) (stop : Option HostFault) → items ≡ texts → IfSome a.told (λ t. AreScriptTexts t paths texts) → StopsFor paths a b (length texts) stop → k < length items → text ≡ get_or items k text → IsTextAt paths a k text
text_at paths a b texts items k text stop same were stops below is =
    let few = few_texts paths a b (length texts) stop stops in
    let len : length items ≡ length texts = ap (λ x. length x) same in
    let within : k < length paths = omega (arith, below, few, len) in
    let at : slice_get paths k ≡ Some (get_or paths k []) = slice_get-get_or paths k [] within in
    let there : slice_get texts k ≡ Some text = subst (λ x. slice_get x k ≡ Some text) same (slice_get_read items (length items) k text refl below is) in
    record {
      path = get_or paths k [];
      is = at;
      within = within;
      read = if_some_map (λ t. AreScriptTexts t paths texts) (λ t. IsReadAt t (get_or paths k []) source_limit text) a.told (λ t were. were k (get_or paths k []) text at there) were;
    }

-- behind the last text
pub all_read : (paths : Texts) (a b : HostView) (texts items : Texts) (k : ℕ) (stop end : Option HostFault) → items ≡ texts → k ≡ length items → stop ≡ end → StopsFor paths a b (length texts) stop → StopsFor paths a b k end
all_read paths a b texts items k stop end same all is stops =
    subst (λ s. StopsFor paths a b k s) is (subst (λ n. StopsFor paths a b n stop) (sym (all ∙ ap (λ x. length x) same)) stops)

-- a text of the scripts is refused
pub refused : (inputs : Inputs) (a b : HostView) (plan : Plan) (k before : ℕ) (path text : List ℕ) (word : ℕ) (fault : SourceFault) → IsReading a.told inputs.scripts plan k before → slice_get inputs.scripts k ≡ Some path → word ≡ script_place inputs k → IfSome a.told (λ t. IsReadAt t path source_limit text) → IsUnscripted text before fault → ReadEnds (scripts_reading inputs) a b (status_at word fault)
refused inputs a b plan k before path text word (source.Refused cause) was at is read unscripted =
    refuses a.told cause inputs.scripts plan k before path word (λ i. script_place inputs i) is at was.front (script_refused a.told path text before cause read unscripted)
refused inputs a b plan k before path text word source.NoMemory was at is read unscripted = tt

-- reading stops behind the last text
pub stopped : (inputs : Inputs) (a b : HostView) (plan : Plan) (k before : ℕ) (fault : HostFault) → IsReading a.told inputs.scripts plan k before → StopsFor inputs.scripts a b k (Some fault) → ReadEnds (scripts_reading inputs) a b (read_status fault)
stopped inputs a b plan k before fails.Failed was stop = not_there a b inputs.scripts plan k before stop.1.path was stop.1.is stop.1.failed
stopped inputs a b plan k before fails.NoMemory was stop = tt

-- a list that is written back over one of its length
take_front : {X : Type 0} (xs ys : List X) → take (length xs) (xs ++ ys) ≡ xs
take_front [] ys = refl
take_front (x ∷ xs) ys = ap (λ l. x ∷ l) (take_front xs ys)

pub written_back : {X : Type 0} (xs texts : List X) (n : ℕ) → xs ≡ texts → n ≡ length texts → take n (xs ++ drop (length xs) texts) ≡ xs
written_back xs texts n same is =
    ap (λ m. take m (xs ++ drop (length xs) texts)) (is ∙ ap (λ x. length x) (sym same)) ∙ take_front xs (drop (length xs) texts)

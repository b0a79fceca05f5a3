-- What generated texts stand for: nothing but want of memory keeps them from being read.
use Rattle.std.proofs.Common.{◌≡◌, ℕ, ◌+◌, ◌*◌, ◌<◌, ◌≤◌, List, [], ◌∷◌, ◌++◌, length, Some, None, option_map, refl, sym, ap, ◌∙◌, subst, arith, length-append}
use Rattle.std.specs.Prelude.{slice_get}
use Rattle.std.specs.List.{range_with_len, sum_by}
use Rattle.std.proofs.lemmas.List.Elements.{All-append, All-cons, All-nil}
use Rattle.std.proofs.lemmas.List.FromFn.{get_or-range_with_len, get_or-map-range_with_len, length-range_with_len, length-map-range_with_len}
use Rattle.std.proofs.lemmas.List.Sums.{sum_by_push}
use Rattle.std.proofs.lemmas.Option.{slice_get-map, slice_get-get_or}
use Rattle.fx_store.specs.Whole.{Nodes}
use Rattle.fx_spec.specs.CommandTree.{CommandTree}
use Rattle.fx_spec.specs.Order.{BaseTree}
use Rattle.fx_spec.specs.Plans.{IsPlan, script_of}
use Rattle.fx_spec.specs.SpecTree.{SpecTree}
use Rattle.fx_spec.specs.WellShaped.{IsScript}
use Rattle.fx_gen.specs.Notes.{nodes}
use Rattle.fx_gen.specs.Scripts as gen
use Rattle.fx_gen.specs.Scripts.{generated_scripts, scripts_to}
use Rattle.fx_gen.proofs.Ranges.{map_more}
use Rattle.fx_gen.specs.Trees.{description_text, description_tree, script_tree}
use Rattle.fx_gen.proofs.Described.{description_stands}
use Rattle.fx_gen.proofs.Scripted.{scripts_stand}
use Rattle.fx_command.specs.declared.fault.SourceFault.{SourceFault}
use Rattle.fx_command.specs.declared.fault.SourceFault.TheVariants as source
use Rattle.fx_command.specs.Described.{Describes, IsUndescribed}
use Rattle.fx_command.specs.Scripted.{Scripts, IsUnscripted}
use Rattle.fx_command.proofs.DescriptionCauses.{no_fault}
use Rattle.fx_command.proofs.ScriptCauses.{shaped_fit}
use Rattle.fx_large_commands.specs.Base.{IsCaseBase, generated_base, plan_to, AreGenerated, IsReading}

pub described : (text : List ℕ) → text ≡ gen.description → Describes text description_tree
described text is = subst (λ t. Describes t description_tree) (sym is) (record { written = description_text; read = description_stands.text; fits = no_fault description_text description_stands.shapes; means = refl })

pub undescribed_is : (text : List ℕ) (fault : SourceFault) → text ≡ gen.description → IsUndescribed text fault → fault ≡ source.NoMemory
undescribed_is text (source.Refused cause) is refused = absurd (refused.none description_tree (described text is))
undescribed_is text source.NoMemory is refused = refl

pub scripted : (text : List ℕ) (number k before : ℕ) → k < 8 → before ≤ 1400 → text ≡ gen.generated_script number k → Scripts text before (script_tree number k)
scripted text number k before small few is =
    let stands = scripts_stand number k small in
    subst (λ t. Scripts t before (script_tree number k)) (sym is)
    (record { read = stands.stands; fits = shaped_fit (script_tree number k) stands.shapes; few = omega (arith, few, stands.count) })

pub unscripted_is : (text : List ℕ) (number k before : ℕ) (fault : SourceFault) → k < 8 → before ≤ 1400 → text ≡ gen.generated_script number k → IsUnscripted text before fault → fault ≡ source.NoMemory
unscripted_is text number k before (source.Refused cause) small few is refused = absurd (refused.none (script_tree number k) (scripted text number k before small few is))
unscripted_is text number k before source.NoMemory small few is refused = refl

-- ---- the base of a case

planned_count : (number : ℕ) → length (plan_to number 8) ≡ 8
unfolding plan_to
planned_count number = length-map-range_with_len (script_tree number) 0 8

script_at : (number k : ℕ) → k < 8 → script_of (plan_to number 8) k ≡ script_tree number k
unfolding plan_to
script_at number k small = get_or-map-range_with_len (script_tree number) 0 8 k k [] small (omega arith)

pub case_base : (number : ℕ) → IsCaseBase number (generated_base number)
case_base number = record {
  spec = described gen.description refl;
  count = planned_count number;
  scripts = λ k small. subst (λ s. Scripts (gen.generated_script number k) (200 * k) s) (sym (script_at number k small)) (scripted (gen.generated_script number k) number k (200 * k) small (omega (arith, small)) refl);
  loaded = refl;
}

-- the text of a number's script
pub text_at : (texts : List (List ℕ)) (number k : ℕ) → texts ≡ generated_scripts number → k < 8 → slice_get texts k ≡ Some (gen.generated_script number k)
unfolding scripts_to
text_at texts number k is small =
    let there : k < length (range_with_len 0 8) = omega (arith, small, length-range_with_len 0 8) in
    let zeroth : 0 + k ≡ k = omega arith in
    ap (λ ts. slice_get ts k) is ∙ slice_get-map (gen.generated_script number) (range_with_len 0 8) k
    ∙ ap (option_map (gen.generated_script number)) (slice_get-get_or (range_with_len 0 8) k 0 there ∙ ap Some (get_or-range_with_len 0 8 k 0 small ∙ zeroth))

pub text_there : (texts : List (List ℕ)) (k : ℕ) → AreGenerated texts → k < 8 → slice_get texts k ≡ None → ⊥
text_there texts k generated small none = let both : None ≡ Some (gen.generated_script generated.0 k) = sym none ∙ text_at texts generated.0 k generated.1 small in cc

same_some : (x y : List ℕ) → Some x ≡ Some y → x ≡ y
same_some x y e = cc

pub text_is : (texts : List (List ℕ)) (one : List ℕ) (k number : ℕ) → texts ≡ generated_scripts number → k < 8 → slice_get texts k ≡ Some one → one ≡ gen.generated_script number k
text_is texts one k number is small at = same_some one (gen.generated_script number k) (sym at ∙ text_at texts number k is small)

-- ---- the plan, script by script

none_planned : (number : ℕ) → [] ≡ plan_to number 0
unfolding plan_to
none_planned number = refl

one_planned : (number k : ℕ) → plan_to number (k + 1) ≡ plan_to number k ++ script_tree number k ∷ []
unfolding plan_to
one_planned number k = map_more (script_tree number) k

pub begins : (texts : List (List ℕ)) (plan : List (List (List CommandTree))) → plan ≡ [] → IsReading texts 0 plan
begins texts plan none = subst (λ p. IsReading texts 0 p) (sym none) (record {
  planned = record { scripts = All-nil IsScript; shells = omega arith; few = omega arith };
  count = refl;
  sum = refl;
  is = λ number same. none_planned number;
})

-- each script has 200 transactions
pub script_count : (texts : List (List ℕ)) (k : ℕ) (text : List ℕ) (script : List (List CommandTree)) → AreGenerated texts → k < 8 → slice_get texts k ≡ Some text → ((number k : ℕ) → k < 8 → text ≡ gen.generated_script number k → script ≡ script_tree number k) → length script ≡ 200
script_count texts k text script generated small at is =
    let same = is generated.0 k small (text_is texts text k generated.0 generated.1 small at) in
    ap (λ s. length s) same ∙ (scripts_stand generated.0 k small).count

pub one_fits : (plan : List (List (List CommandTree))) (script : List (List CommandTree)) (k : ℕ) → IsPlan plan → length plan ≡ k → sum_by length plan ≡ 200 * k → k < 8 → length script ≡ 200 → IsScript script → IsPlan (plan ++ script ∷ [])
one_fits plan script k was count sum small long is = record {
  scripts = All-append IsScript plan (script ∷ []) was.scripts (All-cons IsScript script [] is (All-nil IsScript));
  shells = omega (arith, count, small, length-append plan (script ∷ []));
  few = omega (arith, long, sum, small, sum_by_push length plan script);
}

pub goes_on : (texts : List (List ℕ)) (k : ℕ) (plan plan' : List (List (List CommandTree))) (text : List ℕ) (script : List (List CommandTree)) → AreGenerated texts → k < 8 → slice_get texts k ≡ Some text → IsReading texts k plan → plan' ≡ plan ++ script ∷ [] → IsScript script → ((number k : ℕ) → k < 8 → text ≡ gen.generated_script number k → script ≡ script_tree number k) → IsReading texts (k + 1) plan'
goes_on texts k plan plan' text script generated small at was pushed shaped is =
    let long = script_count texts k text script generated small at is in
    subst (λ p. IsReading texts (k + 1) p) (sym pushed) (record {
      planned = one_fits plan script k was.planned was.count was.sum small long shaped;
      count = omega (arith, was.count, length-append plan (script ∷ []));
      sum = omega (arith, was.sum, long, sum_by_push length plan script);
      is = λ number same.
          ap (λ p. p ++ script ∷ []) (was.is number same) ∙ ap (λ s. plan_to number k ++ s ∷ []) (is number k small (text_is texts text k number same small at))
          ∙ sym (one_planned number k);
    })

-- ---- the whole base

pub base_is : (number : ℕ) (spec : SpecTree) (plan : List (List (List CommandTree))) (loaded : Nodes) → spec ≡ description_tree → plan ≡ plan_to number 8 → loaded ≡ nodes number → ◌≡◌ {A = BaseTree} (record { description = spec; plan = plan; loaded = loaded }) (generated_base number)
base_is number spec plan loaded described planned stored = λ i. record { description = described i; plan = planned i; loaded = stored i }

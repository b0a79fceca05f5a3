-- The steps of writing the texts of a case: what each leaves, and that the next may be made.
use Rattle.std.proofs.Common.{◌≡◌, ◌⊎◌, inl, inr, ℕ, ◌+◌, ◌<◌, ◌≤◌, true, false, ◌||◌, cond, List, [], ◌∷◌, ◌++◌, length, Option, Some, None, IfSome, IfErr, IsSomeAnd, OnOk, OnErr, Result, Ok, Err, refl, sym, ◌∙◌, ap, subst, arith, append_assoc, append-nil, codes}
use Rattle.std.specs.Prelude.{slice_get}
use Rattle.std.specs.Option.{option_or}
use Rattle.std.specs.Ordering.{is_eq, eq_by_cmp}
use Rattle.std.specs.Cmp.{tied_itself}
use Rattle.std.specs.FinMap.{get, get-insert, insert, find}
use Rattle.std.proofs.lemmas.Bool.{cases_Bool}
use Rattle.std.proofs.lemmas.Option.{same_Some}
use Rattle.fx_base.proofs.Names.{above_pushed, same_front, path_is}
use Rattle.fx_store.specs.declared.node.Node.{Node}
use Rattle.fx_store.specs.declared.node.Node.TheVariants.{File, Dir}
use Rattle.fx_store.specs.Names.{IsName, path_cmp}
use Rattle.fx_outside.specs.Host.{HostView, LetsIn, WritesIn}
use Rattle.fx_outside.specs.Path.{Parts, parts, parts_cmp, is_fit, above}
use Rattle.fx_outside.specs.Tree as tree
use Rattle.fx_outside.specs.Tree.{Tree, Entry, file, folder, has_folder, is_free_at}
use Rattle.fx_outside.proofs.Trees.{parts_total}
use Rattle.fx_outside.proofs.Views.{writes_then, fault_in_back, fault_in_outer}
use Rattle.fx_folder.specs.declared.fault.SaveFault.{SaveFault}
use Rattle.fx_folder.specs.declared.fault.SaveFault.TheVariants as save
use Rattle.fx_folder.specs.declared.readying.Out.{Out}
use Rattle.fx_folder.specs.declared.readying.Out.TheVariants.{Absent}
use Rattle.fx_folder.specs.Folder.{IfTold, IsReady, IsSaved, IsPartlySaved, IsFrontOf, SaveCause, LacksFolder}
use Rattle.fx_folder.specs.Places.{host_entry}
use Rattle.fx_folder.specs.Reads.{path_below}
use Rattle.fx_folder.specs.Written.{with_folder, MadePart, IsOpen, with_entry, WrotePart, HasEntries}
use Rattle.fx_table.proofs.Descents.{find_append}
use Rattle.fx_folder.proofs.Filled.{opens}
use Rattle.fx_table.proofs.Rests.{no_rest}
use Rattle.fx_folder.proofs.Fronts.{begins, adds, from_old, has_it, free_place}
use Rattle.fx_folder.proofs.Texts.{parts_below, fit_below, fit_alone, lets_inner}
use Rattle.fx_folder.proofs.Writes.{told_then, told_open, told_next}
use Rattle.fx_large_commands.specs.Case.{Case, script_name, case_entry, is_listed_before, IsCaseWritten, IsPartOfCase, IsPartlyWritten}
use Rattle.fx_large_commands.specs.Wrote.{Mapped, text_nodes, scripts_to, IsBegun, WroteTexts}
use Rattle.fx_large_commands.proofs.CaseEntries.{inner, no_text, places, IsTextAmong, text_stands, text_before, first_before, texts_ordered, case_written, case_part}
use Rattle.fx_large_commands.proofs.Naming.{spec_named, inner_named, script_named, script_fresh, one_more, all_taken, texts_split}

-- told trees

told_map : (a b : Option Tree) (P Q : Tree → Tree → Type 0) → IfTold a b P → ((t u : Tree) → P t u → Q t u) → IfTold a b Q
told_map None b P Q p h = p
told_map (Some t) None P Q p h = p
told_map (Some t) (Some u) P Q p h = h t u p

-- a name in the folder is free where none of the texts has it

free_name : (t u : Tree) (path name : List ℕ) (done : List Mapped) → is_fit path ≡ true → IsName name → HasEntries t u (parts path) (([], Dir []) ∷ done) → find path_cmp (name ∷ []) done ≡ None → is_free_at u (path_below path name) ≡ true
free_name t u path name done fit named has none =
    let at = parts path in
    let made : get u at ≡ Some folder = ap (get u) (sym (append-nil at)) ∙ has.inside [] in
    free_place u (path_below path name) (at ++ name ∷ []) (fit_below path name fit named) (parts_below path name named) (has.inside (name ∷ []) ∙ ap host_entry none)
    (ap (has_folder u) (above_pushed at name) ∙ has_it u at made)

-- while texts are written

pub record IsWriting (old now : HostView) (path : List ℕ) (c : Case) (i : ℕ) : Type 0 where
  pub later : old.faults ≤ now.faults
  pub fit : WritesIn path old now
  pub stands : IfTold old.told now.told (λ t t'. HasEntries t t' (parts path) (text_nodes (scripts_to i c)))

pub spec_free : (host : HostView) (path : List ℕ) → IfSome host.told (λ t. IsOpen t path) → IfSome host.told (λ t. is_free_at t (path_below path (codes "spec")) ≡ true)
spec_free host path open_ = go host.told open_
  where
    go : (told : Option Tree) → IfSome told (λ t. IsOpen t path) → IfSome told (λ t. is_free_at t (path_below path (codes "spec")) ≡ true)
    go None is = tt
    go (Some t) is = free_name t t path (codes "spec") [] is.fit spec_named (begins t path [] is) refl

pub spec_written : (old now : HostView) (path : List ℕ) (c : Case) → IfSome old.told (λ t. IsOpen t path) → old.faults ≤ now.faults → WritesIn path old now → IfTold old.told now.told (λ t t'. t' ≡ with_entry t (parts path ++ codes "spec" ∷ []) (Some (file c.description))) → IsWriting old now path c 0
spec_written old now path c open_ later fit wrote = record {
  later = later;
  fit = fit;
  stands =
      told_then old.told old.told now.told (λ t t'. IsOpen t path × (t' ≡ t)) (λ t t'. t' ≡ with_entry t (parts path ++ codes "spec" ∷ []) (Some (file c.description))) (λ t t'. HasEntries t t' (parts path) (text_nodes (scripts_to 0 c)))
      (told_open old.told (λ t. IsOpen t path) (λ t t'. IsOpen t path × (t' ≡ t)) open_ (λ t is. (is, refl))) wrote
      (λ t u v at is added.
      adds t u v (parts path) (([], Dir []) ∷ []) (codes "spec" ∷ []) (File c.description false) (subst (λ x. HasEntries t x (parts path) (([], Dir []) ∷ [])) (sym is.1) (begins t path [] is.0)) refl added);
}

pub script_free : (old now : HostView) (path : List ℕ) (c : Case) (i : ℕ) → IfSome old.told (λ t. IsOpen t path) → IsWriting old now path c i → i < 10 → i ≤ length c.scripts → IfSome now.told (λ t. is_free_at t (path_below path (script_name i)) ≡ true)
script_free old now path c i open_ was small there =
    told_next old.told now.told (λ t. IsOpen t path) (λ t t'. HasEntries t t' (parts path) (text_nodes (scripts_to i c))) (λ t. is_free_at t (path_below path (script_name i)) ≡ true) open_ was.stands
    (λ t u is has. free_name t u path (script_name i) _ is.fit (script_named i small) has (script_fresh c i small there))

pub script_written : (old now then : HostView) (path : List ℕ) (c : Case) (i : ℕ) (text : List ℕ) → IsWriting old now path c i → i < 10 → slice_get c.scripts i ≡ Some text → i ≤ length c.scripts → now.faults ≤ then.faults → WritesIn path now then → IfTold now.told then.told (λ t t'. t' ≡ with_entry t (parts path ++ script_name i ∷ []) (Some (file text))) → IsWriting old then path c (i + 1)
script_written old now then path c i text was small is there later fit wrote = record {
  later = omega (arith, later, was.later);
  fit = writes_then path old now then was.fit fit;
  stands =
      told_then old.told now.told then.told (λ t t'. HasEntries t t' (parts path) (text_nodes (scripts_to i c))) (λ t t'. t' ≡ with_entry t (parts path ++ script_name i ∷ []) (Some (file text))) (λ t t'. HasEntries t t' (parts path) (text_nodes (scripts_to (i + 1) c))) was.stands wrote
      (λ t u v at has added.
      subst (λ es. HasEntries t v (parts path) es) (sym (one_more c i text is))
      (adds t u v (parts path) (text_nodes (scripts_to i c)) (script_name i ∷ []) (File text false) has (script_fresh c i small there) added));
}

pub texts_written : (old now : HostView) (path : List ℕ) (c : Case) (i : ℕ) → i ≡ length c.scripts → IsWriting old now path c i → IfTold old.told now.told (λ t t'. HasEntries t t' (parts path) (text_nodes c))
texts_written old now path c i all was =
    told_map old.told now.told (λ t t'. HasEntries t t' (parts path) (text_nodes (scripts_to i c))) (λ t t'. HasEntries t t' (parts path) (text_nodes c)) was.stands
    (λ t u has. subst (λ es. HasEntries t u (parts path) es) (all_taken c i all) has)

-- it stops before a text, or in it

pub spec_stops : (old now : HostView) (path : List ℕ) (c : Case) → IfSome old.told (λ t. IsOpen t path) → IfTold old.told now.told (λ t t'. WrotePart t t' (parts path ++ codes "spec" ∷ []) (Some (file c.description))) → IfTold old.told now.told (λ t t'. WroteTexts t t' (parts path) c)
spec_stops old now path c open_ wrote =
    told_then old.told old.told now.told (λ t t'. IsOpen t path × (t' ≡ t)) (λ t t'. WrotePart t t' (parts path ++ codes "spec" ∷ []) (Some (file c.description))) (λ t t'. WroteTexts t t' (parts path) c)
    (told_open old.told (λ t. IsOpen t path) (λ t t'. IsOpen t path × (t' ≡ t)) open_ (λ t is. (is, refl))) wrote
    (λ t u v at is part. record {
      done = ([], Dir []) ∷ [];
      left = (codes "spec" ∷ [], File c.description false) ∷ _;
      split = refl;
      before = u;
      written = subst (λ x. HasEntries t x (parts path) (([], Dir []) ∷ [])) (sym is.1) (begins t path [] is.0);
      begun = inr (record { path = codes "spec" ∷ []; node = File c.description false; rest = _; next = refl; fresh = refl; part = part });
    })

pub stops_before : (old now : HostView) (path : List ℕ) (c : Case) (i : ℕ) → IsWriting old now path c i → IfTold old.told now.told (λ t t'. WroteTexts t t' (parts path) c)
stops_before old now path c i was =
    told_map old.told now.told (λ t t'. HasEntries t t' (parts path) (text_nodes (scripts_to i c))) (λ t t'. WroteTexts t t' (parts path) c) was.stands
    (λ t u has. record {
      done = text_nodes (scripts_to i c);
      left = (texts_split c i).0;
      split = (texts_split c i).1;
      before = u;
      written = has;
      begun = inl refl;
    })

pub stops_in : (old now then : HostView) (path : List ℕ) (c : Case) (i : ℕ) (text : List ℕ) → IsWriting old now path c i → i < 10 → slice_get c.scripts i ≡ Some text → i ≤ length c.scripts → IfTold now.told then.told (λ t t'. WrotePart t t' (parts path ++ script_name i ∷ []) (Some (file text))) → IfTold old.told then.told (λ t t'. WroteTexts t t' (parts path) c)
stops_in old now then path c i text was small is there wrote =
    told_then old.told now.told then.told (λ t t'. HasEntries t t' (parts path) (text_nodes (scripts_to i c))) (λ t t'. WrotePart t t' (parts path ++ script_name i ∷ []) (Some (file text))) (λ t t'. WroteTexts t t' (parts path) c) was.stands wrote
    (λ t u v at has part. record {
      done = text_nodes (scripts_to i c);
      left = (script_name i ∷ [], File text false) ∷ (texts_split c (i + 1)).0;
      split = (texts_split c (i + 1)).1 ∙ ap (λ es. es ++ (texts_split c (i + 1)).0) (one_more c i text is) ∙ append_assoc (text_nodes (scripts_to i c)) ((script_name i ∷ [], File text false) ∷ []) (texts_split c (i + 1)).0;
      before = u;
      written = has;
      begun = inr (record { path = script_name i ∷ []; node = File text false; rest = (texts_split c (i + 1)).0; next = refl; fresh = script_fresh c i small there; part = part });
    })

-- what is there after such a stop is a part of the case's folder

module _ (c : Case) (t u v : Tree) (at : Parts) where
  in_list : (done left : List Mapped) (path : Parts) (e : Entry) → text_nodes c ≡ done ++ left → host_entry (find path_cmp path done) ≡ Some e → case_entry c path ≡ Some e
  in_list done left path e split is = go (find path_cmp path done) refl is
    where
      go : (o : Option Node) → find path_cmp path done ≡ o → host_entry o ≡ Some e → case_entry c path ≡ Some e
      go None found none = cc
      go (Some node) found here =
          text_stands c path e (ap (λ es. host_entry (find path_cmp path es)) split ∙ ap host_entry (find_append path done left ∙ ap (λ o. option_or o (find path_cmp path left)) found) ∙ here)

  pub done_part : (done left : List Mapped) → text_nodes c ≡ done ++ left → HasEntries t u at done → IsPartOfCase t u at c []
  done_part done left split has = record {
    outside = has.outside;
    inside = λ path e is. (e, in_list done left path e split (sym (has.inside path) ∙ is), inl refl);
    ordered = texts_ordered c t u at done left split has;
  }

  pub begun_part : (done rest : List Mapped) (path : Parts) (node : Node) → text_nodes c ≡ done ++ (path, node) ∷ rest → find path_cmp path done ≡ None → HasEntries t u at done → (e whole : Entry) → host_entry (Some node) ≡ Some whole → (e ≡ whole) ⊎ IsFrontOf e whole → v ≡ insert u (at ++ path) e → IsPartOfCase t v at c path
  begun_part done rest path node split fresh has e whole is front added = record {
    outside = λ q miss. other q (no_rest at q path miss) ∙ has.outside q miss;
    inside = λ p d here. elim (cases_Bool (eq_by_cmp parts_cmp (at ++ p) (at ++ path))) [
      | inl same ↦ at_path p d same here
      | inr apart ↦ (d, in_list done ((path, node) ∷ rest) p d split (sym (has.inside p) ∙ sym (other (at ++ p) apart) ∙ here), inl refl)
    ];
    ordered = λ p b d w here order before. elim (cases_Bool (eq_by_cmp parts_cmp (at ++ p) (at ++ path))) [
      | inl same ↦
          let at_it : p ≡ path = path_is p path (sym (ap is_eq (same_front at p path)) ∙ same) in
          let last : is_listed_before (places ((path, node) ∷ rest)) b p ≡ false = ap (is_listed_before (places ((path, node) ∷ rest)) b) at_it ∙ none_listed b in
          earlier b w (text_before c done ((path, node) ∷ rest) b p w node split (ap (λ q. find path_cmp q (text_nodes c)) at_it ∙ the_text) (inr last) order before)
      | inr apart ↦ earlier b w (first_before c t u at done ((path, node) ∷ rest) split has p b d w (sym (other (at ++ p) apart) ∙ here) order before)
    ];
  }
    where
      other : (q : Parts) → eq_by_cmp parts_cmp q (at ++ path) ≡ false → get v q ≡ get u q
      other q apart = ap (λ x. get x q) added ∙ get-insert parts_total u (at ++ path) e q ∙ ap (λ b. cond b (Some e) (get u q)) apart

      the_text : find path_cmp path (text_nodes c) ≡ Some node
      the_text =
          ap (find path_cmp path) split ∙ find_append path done ((path, node) ∷ rest) ∙ ap (λ o. option_or o (find path_cmp path ((path, node) ∷ rest))) fresh
          ∙ ap (λ b. cond b (Some node) (find path_cmp path rest)) (ap is_eq (tied_itself parts_total path))

      stands : case_entry c path ≡ Some whole
      stands = text_stands c path whole (ap host_entry the_text ∙ is)

      -- nothing is listed before the next text among those that are left
      none_listed : (b : Parts) → is_listed_before (places ((path, node) ∷ rest)) b path ≡ false
      none_listed b =
          ap (λ t. cond t false (eq_by_cmp parts_cmp b path || is_listed_before (places rest) b path)) (ap is_eq (tied_itself parts_total path))

      beside : (b : Parts) (y : Node) → find path_cmp b done ≡ Some y → eq_by_cmp parts_cmp (at ++ b) (at ++ path) ≡ false
      beside b y found = elim (cases_Bool (eq_by_cmp parts_cmp (at ++ b) (at ++ path))) [
        | inl same ↦
            let none : find path_cmp b done ≡ None = ap (λ q. find path_cmp q done) (path_is b path (sym (ap is_eq (same_front at b path)) ∙ same)) ∙ fresh in
            let both : None ≡ Some y = sym none ∙ found in
            cc
        | inr apart ↦ apart
      ]

      earlier : (b : Parts) (w : Entry) → IsTextAmong c done b w → get v (at ++ b) ≡ Some w
      earlier b w y = other (at ++ b) (beside b y.0 y.1) ∙ has.inside b ∙ ap host_entry y.1 ∙ y.3

      at_path : (p : Parts) (d : Entry) → eq_by_cmp parts_cmp (at ++ p) (at ++ path) ≡ true → get v (at ++ p) ≡ Some d → (w : Entry) × (case_entry c p ≡ Some w) × ((d ≡ w) ⊎ ((p ≡ path) × IsFrontOf d w))
      at_path p d same here = (whole, ap (case_entry c) at_it ∙ stands, which front)
        where
          at_it : p ≡ path
          at_it = path_is p path (sym (ap is_eq (same_front at p path)) ∙ same)

          the_entry : d ≡ e
          the_entry =
              let new : get v (at ++ p) ≡ Some e = ap (λ x. get x (at ++ p)) added ∙ get-insert parts_total u (at ++ path) e (at ++ p) ∙ ap (λ b. cond b (Some e) (get u (at ++ p))) same in
              same_Some d e (sym here ∙ new)

          which : (e ≡ whole) ⊎ IsFrontOf e whole → (d ≡ whole) ⊎ ((p ≡ path) × IsFrontOf d whole)
          which (inl all) = inl (the_entry ∙ all)
          which (inr some) = inr (at_it, subst (λ x. IsFrontOf x whole) (sym the_entry) some)

-- ---- the whole case, from the steps

texts_part : (c : Case) (t v : Tree) (at : Parts) → WroteTexts t v at c → IsPartlyWritten t v at c
texts_part c t v at was = go was.begun
  where
    stays : v ≡ was.before → IsPartlyWritten t v at c
    stays same = inr ([], subst (λ x. IsPartOfCase t x at c []) (sym same) (done_part c t was.before v at was.done was.left was.split was.written))

    go : (v ≡ was.before) ⊎ IsBegun was.before v at was.done was.left → IsPartlyWritten t v at c
    go (inl same) = stays same
    go (inr next) = which next.part
      where
        which : WrotePart was.before v (at ++ next.path) (host_entry (Some next.node)) → IsPartlyWritten t v at c
        which (inl same) = stays same
        which (inr (e, whole, is, front, added)) =
            inr (next.path, begun_part c t was.before v at was.done next.rest next.path next.node (was.split ∙ ap (λ l. was.done ++ l) next.next) next.fresh was.written e whole is front added)

-- the folder itself
pub folder_part : (told told' : Option Tree) (path : List ℕ) (there : Out) (c : Case) → IfSome told tree.IsWhole → IfSome told (λ t. IsReady t path there) → IfTold told told' (λ t u. MadePart t u (parts path) there) → IfTold told told' (λ t t'. IsPartlyWritten t t' (parts path) c)
folder_part None told' path there c whole ready made = made
folder_part (Some t) None path there c whole ready made = made
folder_part (Some t) (Some u) path there c whole ready (inl same) = inl same
folder_part (Some t) (Some u) path there c whole ready (inr made) =
    let at = parts path in
    let has : HasEntries t (with_folder t at there) at (([], Dir []) ∷ []) = from_old t (with_folder t at there) (with_folder t at there) at there (([], Dir []) ∷ []) refl (begins (with_folder t at there) path [] (opens t path there whole ready)) in
    inr ([], subst (λ x. IsPartOfCase t x at c []) (sym made) (done_part c t (with_folder t at there) u at (([], Dir []) ∷ []) _ refl has))

-- the texts are there, below what there was before the folder was made
filled : (told told1 told2 : Option Tree) (path : List ℕ) (there : Out) (c : Case) → IfTold told told1 (λ t u. u ≡ with_folder t (parts path) there) → IfTold told1 told2 (λ t t'. HasEntries t t' (parts path) (text_nodes c)) → IfTold told told2 (λ t t'. HasEntries t t' (parts path) (text_nodes c))
filled told told1 told2 path there c made wrote =
    told_then told told1 told2 (λ t u. u ≡ with_folder t (parts path) there) (λ t t'. HasEntries t t' (parts path) (text_nodes c)) (λ t t'. HasEntries t t' (parts path) (text_nodes c)) made wrote
    (λ t u v is first has. from_old t u v (parts path) there (text_nodes c) first has)

pub stopped_in_texts : (told told1 told2 : Option Tree) (path : List ℕ) (there : Out) (c : Case) → IfTold told told1 (λ t u. u ≡ with_folder t (parts path) there) → IfTold told1 told2 (λ t t'. WroteTexts t t' (parts path) c) → IfTold told told2 (λ t t'. IsPartlyWritten t t' (parts path) c)
stopped_in_texts told told1 told2 path there c made wrote =
    told_then told told1 told2 (λ t u. u ≡ with_folder t (parts path) there) (λ t t'. WroteTexts t t' (parts path) c) (λ t t'. IsPartlyWritten t t' (parts path) c) made wrote
    (λ t u v is first was. texts_part c t v (parts path) (record { done = was.done; left = was.left; split = was.split; before = was.before; written = from_old t u was.before (parts path) there was.done first was.written; begun = was.begun }))

-- nothing is to be written more
pub stopped_before_filestore : (told told1 told2 : Option Tree) (path : List ℕ) (there : Out) (c : Case) → IfTold told told1 (λ t u. u ≡ with_folder t (parts path) there) → IfTold told1 told2 (λ t t'. HasEntries t t' (parts path) (text_nodes c)) → IfTold told told2 (λ t t'. IsPartlyWritten t t' (parts path) c)
stopped_before_filestore told told1 told2 path there c made wrote =
    told_map told told2 (λ t t'. HasEntries t t' (parts path) (text_nodes c)) (λ t t'. IsPartlyWritten t t' (parts path) c) (filled told told1 told2 path there c made wrote)
    (λ t u has. inr ([], done_part c t u u (parts path) (text_nodes c) [] (sym (append-nil (text_nodes c))) has))

-- nothing stands where the folder of the filestore is to be
pub inner_ready : (told1 told2 : Option Tree) (path : List ℕ) (c : Case) → IfSome told1 (λ t. IsOpen t path) → IfTold told1 told2 (λ t t'. HasEntries t t' (parts path) (text_nodes c)) → IfSome told2 (λ t. IsReady t (path_below path inner) Absent)
inner_ready told1 told2 path c open_ wrote =
    told_next told1 told2 (λ t. IsOpen t path) (λ t t'. HasEntries t t' (parts path) (text_nodes c)) (λ t. IsReady t (path_below path inner) Absent) open_ wrote
    (λ t u is has.
    let fit = fit_below path inner is.fit inner_named in
    let none : get u (parts (path_below path inner)) ≡ None = ap (get u) (parts_below path inner inner_named) ∙ has.inside (inner ∷ []) ∙ ap host_entry (no_text c []) in
    (fit, ap (λ b. cond b (get u (parts (path_below path inner))) None) fit ∙ none))

-- and a folder stands above it
pub inner_above : (told1 told2 : Option Tree) (path : List ℕ) (c : Case) → IfTold told1 told2 (λ t t'. HasEntries t t' (parts path) (text_nodes c)) → IsSomeAnd told2 (λ t. has_folder t (above (parts (path_below path inner))) ≡ false) → ⊥
inner_above None None path c wrote lacks = lacks
inner_above None (Some u) path c wrote lacks = cc
inner_above (Some t) None path c wrote lacks = lacks
inner_above (Some t) (Some u) path c has lacks =
    let at = parts path in
    let made : get u at ≡ Some folder = ap (get u) (sym (append-nil at)) ∙ has.inside [] in
    let there : has_folder u (above (parts (path_below path inner))) ≡ true = ap (λ p. has_folder u (above p)) (parts_below path inner inner_named) ∙ ap (has_folder u) (above_pushed at inner) ∙ has_it u at made in
    let both : true ≡ false = sym there ∙ lacks in
    cc

pub case_all : {E : Type 0} (r : Result (Unit {0}) E) (told told1 told2 told3 : Option Tree) (path : List ℕ) (there : Out) (c : Case) → IfTold told told1 (λ t u. u ≡ with_folder t (parts path) there) → IfTold told1 told2 (λ t t'. HasEntries t t' (parts path) (text_nodes c)) → OnOk r (IfTold told2 told3 (λ t t'. IsSaved t t' (parts (path_below path inner)) c.nodes)) → OnOk r (IfTold told told3 (λ t t'. IsCaseWritten t t' (parts path) c))
case_all (Err e) told told1 told2 told3 path there c made wrote saved = tt
case_all (Ok done) told told1 told2 told3 path there c made wrote saved =
    told_then told told2 told3 (λ t t'. HasEntries t t' (parts path) (text_nodes c)) (λ t t'. IsSaved t t' (parts (path_below path inner)) c.nodes) (λ t t'. IsCaseWritten t t' (parts path) c) (filled told told1 told2 path there c made wrote) saved
    (λ t u v at has all. case_written c t u v (parts path) has (subst (λ p. IsSaved u v p c.nodes) (parts_below path inner inner_named) all))

pub case_stopped : {E : Type 0} (r : Result (Unit {0}) E) (told told1 told2 told3 : Option Tree) (path : List ℕ) (there : Out) (c : Case) → IfTold told told1 (λ t u. u ≡ with_folder t (parts path) there) → IfTold told1 told2 (λ t t'. HasEntries t t' (parts path) (text_nodes c)) → OnErr r (IfTold told2 told3 (λ t t'. IsPartlySaved t t' (parts (path_below path inner)) c.nodes)) → OnErr r (IfTold told told3 (λ t t'. IsPartlyWritten t t' (parts path) c))
case_stopped (Ok done) told told1 told2 told3 path there c made wrote part = tt
case_stopped (Err e) told told1 told2 told3 path there c made wrote part =
    told_then told told2 told3 (λ t t'. HasEntries t t' (parts path) (text_nodes c)) (λ t t'. IsPartlySaved t t' (parts (path_below path inner)) c.nodes) (λ t t'. IsPartlyWritten t t' (parts path) c) (filled told told1 told2 path there c made wrote) part
    (λ t u v at has some. case_part c t u v (parts path) has (subst (λ p. IsPartlySaved u v p c.nodes) (parts_below path inner inner_named) some))

-- the folder of the filestore is not written whole: the host failed in it, since a folder stands above
pub inner_cause : (r : Result (Unit {0}) SaveFault) (a b d e : HostView) (path : List ℕ) (there : Out) (c : Case) → a.faults ≤ d.faults → IfTold b.told d.told (λ t t'. HasEntries t t' (parts path) (text_nodes c)) → IfErr r (SaveCause (path_below path inner) Absent d e) → IfErr r (SaveCause path there a e)
inner_cause (Ok done) a b d e path there c later wrote cause = tt
inner_cause (Err save.WriteFault) a b d e path there c later wrote (inl fault) = inl (fault_in_back path a d e later (fault_in_outer path inner d e fault))
inner_cause (Err save.WriteFault) a b d e path there c later wrote (inr lacks) = absurd (inner_above b.told d.told path c wrote (lacking d.told lacks))
  where
    lacking : (told : Option Tree) → IsSomeAnd told (λ t. LacksFolder t (path_below path inner) Absent) → IsSomeAnd told (λ t. has_folder t (above (parts (path_below path inner))) ≡ false)
    lacking None none = none
    lacking (Some t) lacks = lacks.1
inner_cause (Err save.NotEmpty) a b d e path there c later wrote cause = absurd cause
inner_cause (Err save.NoMemory) a b d e path there c later wrote cause = tt

pub inner_fit : (a d e : HostView) (path : List ℕ) → WritesIn path a d → WritesIn (path_below path inner) d e → WritesIn path a e
inner_fit a d e path before after = λ lets. after (subst (λ g. LetsIn g.may_write (path_below path inner)) (sym (before lets)) (lets_inner a.guard.may_write path inner lets (fit_alone inner inner_named))) ∙ before lets

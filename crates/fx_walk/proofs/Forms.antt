-- The value of each form, by the calls for its parts.
use Rattle.std.proofs.Common.{◌≡◌, ℕ, ◌≤◌, Bool, true, false, List, Option, Some, None, Result, Ok, Err, refl, sym, ap, ◌∙◌, subst}
use Rattle.std.specs.Prelude.{IsErrAnd, IfOk, IfErr}
use Rattle.std.specs.Option.{option_map}
use Rattle.fx_store.specs.Rule.{Ask, Answer, Tick, ◌>>=◌}
use Rattle.fx_expr.specs.Bindings.{bind}
use Rattle.fx_expr.specs.Eval.{Outcome, eval_of}
use Rattle.fx_expr.specs.ExprTree.{ExprTree}
use Rattle.fx_expr.specs.ShapeTree.{ShapeTree}
use Rattle.fx_expr.specs.declared.fault.ExprFault.{ExprFault}
use Rattle.fx_expr.specs.Tree.{Tree}
use Rattle.fx_expr.specs.Views.{tree_of}
use Rattle.fx_expr.specs.declared.value.Value.{Value}
use Rattle.fx_spec.specs.declared.refusal.Refusal.{Refusal}
use Rattle.fx_spec.specs.Describe.{Bindings, with_some, file_value, dir_value, link_value, content, exists, focus_path, at_focus, rows, table, option, truth, arguments, argument_evals, is_true, at_body, value}
use Rattle.fx_spec.specs.SpecTree.{SpecTree}
use Rattle.fx_view.specs.declared.reader.Stop.{Stop}
use Rattle.fx_view.specs.declared.reader.Stop.TheVariants as stop
use Rattle.fx_view.specs.Meaning.{Meaning}
use Rattle.fx_session.specs.declared.session.Session.{Session}
use Rattle.fx_session.specs.Implements.{Implements, ticked, ticked_by}
use Rattle.fx_session.proofs.Calls.{answers, refused, same_rule, ticks_on, ticks_behind, then_on, then_answers, stops, then_refused}
use Rattle.fx_session.specs.Arguments.{with_each, inner_names}
use Rattle.fx_walk.specs.Given.{path_given, set_given, mapped, Pairs}
use Rattle.fx_walk.proofs.Rows.{Values, part_at, table_rule}

-- ---- what an expression gave

focus_is : (part : List (List ℕ) → Ask (Option Tree)) (o : Result (List (List ℕ)) Refusal) (q : List (List ℕ)) → Some q ≡ path_given o → at_focus part o ≡ part q
focus_is part (Ok a) q e = let same : a ≡ q = cc in ap part same
focus_is part (Err f) q e = absurd (cc)

focus_has_none : (part : List (List ℕ) → Ask (Option Tree)) (o : Result (List (List ℕ)) Refusal) → None ≡ path_given o → at_focus part o ≡ Answer None
focus_has_none part (Ok a) e = absurd (cc)
focus_has_none part (Err f) e = refl

table_is : (part : List ℕ → Ask (Option Tree)) (o : Outcome) (ts : List (List ℕ)) → Some ts ≡ set_given o → table part o ≡ (rows part ts >>= λ r. Answer (option_map Tree.table r))
table_is part (Ok v) ts e = let same : ts ≡ _ = cc in ap (λ ts. rows part ts >>= λ r. Answer (option_map Tree.table r)) (sym same)
table_is part (Err f) ts e = absurd (cc)

table_has_none : (part : List ℕ → Ask (Option Tree)) (o : Outcome) → None ≡ set_given o → table part o ≡ Answer None
table_has_none part (Ok v) e = absurd (cc)
table_has_none part (Err f) e = refl

-- ---- what the arguments of a call gave

body_is : (params : List (List ℕ × ShapeTree)) (body : Bindings → Ask (Option Tree)) (vs : Result (List Tree) ExprFault) (names : Bindings) → with_each params vs ≡ Ok names → at_body params body vs ≡ mapped is_true (body names)
body_is params body (Ok vs) names e = let same : _ ≡ names = cc in ap (λ names. mapped is_true (body names)) same
body_is params body (Err f) names e = absurd (cc)

body_has_none : (params : List (List ℕ × ShapeTree)) (body : Bindings → Ask (Option Tree)) (vs : Result (List Tree) ExprFault) (f : ExprFault) → with_each params vs ≡ Err f → at_body params body vs ≡ Answer None
body_has_none params body (Ok vs) f e = absurd (cc)
body_has_none params body (Err g) f e = refl

-- what is left of a pair after its first part's value
abbrev second : List (List ℕ) → Bindings → List ℕ → SpecTree → Tree → Ask (Option Tree)
second p env x b v = value p (bind env x v) b >>= λ w. Answer (option_map (Tree.pair v) w)

-- what is left of a call after its arguments
abbrev body : List (List ℕ) → Bindings → List ExprTree → List (List ℕ × ShapeTree) → SpecTree → Ask (Option Tree)
body p env args params s = at_body params (λ inner. value p inner s) (arguments env args)

module _ {R L : Type 0} {m : Meaning R} where
  -- ---- one evaluation

  module _ {old mid : Session R L} (one : mid ≡ ticked old) (rule : Ask (Option Tree)) where
    ticked_refused : (r : Result (Option Value) Stop) → IsErrAnd r (λ d. d ≡ stop.NoMemory) → Values m old mid (Tick rule) r
    ticked_refused r is = ticks_on rule one (refused rule r is)

    ticked_answer : (v : Option Value) → rule ≡ Answer (option_map tree_of v) → Values m old mid (Tick rule) (Ok v)
    ticked_answer v e = ticks_on rule one (same_rule (Answer (option_map tree_of v)) rule (sym e) (answers (option_map tree_of v) v refl))

  pub of_env : {old new : Session R L} {r : Result (Option Value) Stop} (p : List (List ℕ)) (s : SpecTree) {here env : Bindings} → here ≡ env → Values m old new (value p here s) r → Values m old new (value p env s) r
  of_env {old = old} {new = new} {r = r} p s e h = subst (λ (env : Bindings). Values m old new (value p env s) r) e h

  module _ (p : List (List ℕ)) (env : Bindings) where
    -- ---- files, directories and links

    module _ {old new : Session R L} {r : Result (Option Value) Stop} where
      pub of_tree : {s d : SpecTree} → s ≡ d → Values m old new (value p env d) r → Values m old new (value p env s) r
      of_tree e h = subst (λ (s : SpecTree). Values m old new (value p env s) r) (sym e) h

      pub file_follows : Values m old new (content file_value true p) r → Values m old new (value p env SpecTree.file) r
      unfolding value
      file_follows h = h

      pub dir_follows : Values m old new (content dir_value true p) r → Values m old new (value p env SpecTree.dir) r
      unfolding value
      dir_follows h = h

      pub link_follows : Values m old new (content link_value false p) r → Values m old new (value p env SpecTree.link) r
      unfolding value
      link_follows h = h

    -- ---- focuses, comprehensions and predicates

    module _ {old mid : Session R L} (one : mid ≡ ticked old) where
      module _ (e : ExprTree) (s : SpecTree) where
        pub focus_refused : (r : Result (Option Value) Stop) → IsErrAnd r (λ d. d ≡ stop.NoMemory) → Values m old mid (value p env (SpecTree.focus e s)) r
        unfolding value
        focus_refused r is = ticked_refused one (at_focus (λ q. value q env s) (focus_path p (eval_of env e))) r is

        pub focus_none : None ≡ path_given (focus_path p (eval_of env e)) → Values m old mid (value p env (SpecTree.focus e s)) (Ok None)
        unfolding value
        focus_none is = ticked_answer one (at_focus (λ q. value q env s) (focus_path p (eval_of env e))) None (focus_has_none (λ q. value q env s) (focus_path p (eval_of env e)) is)

        pub focus_follows : {new : Session R L} {r : Result (Option Value) Stop} (q : List (List ℕ)) → Some q ≡ path_given (focus_path p (eval_of env e)) → Values m mid new (value q env s) r → Values m old new (value p env (SpecTree.focus e s)) r
        unfolding value
        focus_follows q is h =
            let rule : Ask (Option Tree) = at_focus (λ q. value q env s) (focus_path p (eval_of env e)) in
            ticks_on rule one (same_rule (value q env s) rule (sym (focus_is (λ q. value q env s) (focus_path p (eval_of env e)) q is)) h)

      module _ (s : SpecTree) (x : List ℕ) (e : ExprTree) where
        pub table_refused : (r : Result (Option Value) Stop) → IsErrAnd r (λ d. d ≡ stop.NoMemory) → Values m old mid (value p env (SpecTree.comp s x e)) r
        unfolding value
        table_refused r is = ticked_refused one (table (part_at p env x s) (eval_of env e)) r is

        pub table_none : None ≡ set_given (eval_of env e) → Values m old mid (value p env (SpecTree.comp s x e)) (Ok None)
        unfolding value
        table_none is = ticked_answer one (table (part_at p env x s) (eval_of env e)) None (table_has_none (part_at p env x s) (eval_of env e) is)

        pub table_follows : {new : Session R L} {r : Result (Option Value) Stop} (ts : List (List ℕ)) → Some ts ≡ set_given (eval_of env e) → Values m mid new (table_rule p env x s ts) r → Values m old new (value p env (SpecTree.comp s x e)) r
        unfolding value
        table_follows ts is h =
            let rule : Ask (Option Tree) = table (part_at p env x s) (eval_of env e) in
            ticks_on rule one (same_rule (table_rule p env x s ts) rule (sym (table_is (part_at p env x s) (eval_of env e) ts is)) h)

      pub pred_follows : (e : ExprTree) (r : Result (Option Value) Stop) → IfOk r (λ v. option_map tree_of v ≡ truth (eval_of env e)) → IfErr r (λ why. why ≡ stop.NoMemory) → Values m old mid (value p env (SpecTree.pred e)) r
      unfolding value
      pred_follows e (Ok v) is refused = ticked_answer one (Answer (truth (eval_of env e))) v (ap Answer (sym is))
      pred_follows e (Err why) is refused = ticked_refused one (Answer (truth (eval_of env e))) (Err why) refused

    -- ---- calls

    module _ (args : List ExprTree) (params : List (List ℕ × ShapeTree)) where
      module _ (s : SpecTree) {old mid : Session R L} (counted : (n : ℕ) × (n ≤ argument_evals env args) × (mid ≡ ticked_by n old)) where
        call_of_body : {new : Session R L} {r : Result (Option Value) Stop} → Values m mid new (body p env args params s) r → Values m old new (value p env (SpecTree.call args params s)) r
        unfolding value
        call_of_body h = ticks_behind (body p env args params s) (argument_evals env args) counted h

        pub call_refused : Values m old mid (value p env (SpecTree.call args params s)) (Err stop.NoMemory)
        call_refused = call_of_body (refused (body p env args params s) (Err stop.NoMemory) refl)

        pub call_none : (f : ExprFault) → inner_names env params args ≡ Err f → Values m old mid (value p env (SpecTree.call args params s)) (Ok None)
        call_none f is = call_of_body (same_rule (Answer None) (body p env args params s) (sym (body_has_none params (λ inner. value p inner s) (arguments env args) f is)) (answers None None refl))

        pub call_follows : {new : Session R L} {r : Result (Option Value) Stop} (names : Bindings) → inner_names env params args ≡ Ok names → Values m mid new (mapped is_true (value p names s)) r → Values m old new (value p env (SpecTree.call args params s)) r
        call_follows names is h = call_of_body (same_rule (mapped is_true (value p names s)) (body p env args params s) (sym (body_is params (λ inner. value p inner s) (arguments env args) names is)) h)

      pub last_none : {s : Session R L} → Values m s s (value p env (SpecTree.last args params)) (Ok None)
      unfolding value
      last_none = answers None None refl

    -- ---- pairs

    module _ (x : List ℕ) (a b : SpecTree) {old mid : Session R L} where
      pub pair_stops : {why : Stop} (r : Result (Option Value) Stop) → IsErrAnd r (λ d. d ≡ why) → Values m old mid (value p env a) (Err why) → Values m old mid (value p env (SpecTree.pair x a b)) r
      unfolding value
      pair_stops r is first = stops (value p env a) (with_some (second p env x b)) r is first

      pub pair_none : Values m old mid (value p env a) (Ok None) → Values m old mid (value p env (SpecTree.pair x a b)) (Ok None)
      unfolding value
      pair_none first = then_answers (value p env a) (with_some (second p env x b)) None first refl

      pub pair_follows : {new : Session R L} {r : Result (Option Value) Stop} {here : Bindings} (v : Value) → here ≡ env → Values m old mid (value p env a) (Ok (Some v)) → Values m mid new (mapped (Tree.pair (tree_of v)) (value p (bind here x (tree_of v)) b)) r
          → Values m old new (value p env (SpecTree.pair x a b)) r
      unfolding value
      pair_follows {new = new} {r = r} v same first next =
          then_on (value p env a) (with_some (second p env x b)) first (subst (λ (e : Bindings). Values m mid new (mapped (Tree.pair (tree_of v)) (value p (bind e x (tree_of v)) b)) r) same next)

    -- ---- options

    module _ (s : SpecTree) {old mid : Session R L} where
      pub option_stops : {why : Stop} (r : Result (Option Value) Stop) → IsErrAnd r (λ d. d ≡ why) → Implements {A = Bool} {X = Bool} m (λ b. b) old mid (exists p) (Err why) → Values m old mid (value p env (SpecTree.opt s)) r
      unfolding value
      option_stops r is first = stops (exists p) (option (value p env s)) r is first

      pub option_none : {there : Bool} (v : Value) → there ≡ false → tree_of v ≡ Tree.nothing → Implements m (λ b. b) old mid (exists p) (Ok there) → Values m old mid (value p env (SpecTree.opt s)) (Ok (Some v))
      unfolding value
      option_none v gone is first = then_answers (exists p) (option (value p env s)) (Some v) first (ap (option (value p env s)) gone ∙ ap (λ t. Answer (Some t)) (sym is))

      pub option_follows : {there : Bool} {new : Session R L} {r : Result (Option Value) Stop} → there ≡ true → Implements m (λ b. b) old mid (exists p) (Ok there) → Values m mid new (mapped Tree.some (value p env s)) r → Values m old new (value p env (SpecTree.opt s)) r
      unfolding value
      option_follows {new = new} {r = r} found first next =
          then_on (exists p) (option (value p env s)) first (subst (λ (b : Bool). Values m mid new (option (value p env s) b) r) (sym found) next)

  -- ---- a value that is mapped

  module _ {old new : Session R L} (rule : Ask (Option Tree)) (f : Tree → Tree) where
    pub mapped_stops : {why : Stop} (r : Result (Option Value) Stop) → IsErrAnd r (λ d. d ≡ why) → Values m old new rule (Err why) → Values m old new (mapped f rule) r
    mapped_stops r is first = stops rule (λ v. Answer (option_map f v)) r is first

    pub mapped_refused : {v : Option Value} (r : Result (Option Value) Stop) → IsErrAnd r (λ d. d ≡ stop.NoMemory) → Values m old new rule (Ok v) → Values m old new (mapped f rule) r
    mapped_refused r is first = then_refused rule (λ v. Answer (option_map f v)) r is first

    pub mapped_answers : {v : Option Value} (w : Option Value) → option_map tree_of w ≡ option_map f (option_map tree_of v) → Values m old new rule (Ok v) → Values m old new (mapped f rule) (Ok w)
    mapped_answers w is first = then_answers rule (λ v. Answer (option_map f v)) w first (ap Answer (sym is))

  pub pairs_follow : {old new : Session R L} (rule : Ask (Option Tree)) (first : Tree) (second r : Result (Option Value) Stop) → Pairs first second r → Values m old new rule second → Values m old new (mapped (Tree.pair first) rule) r
  pairs_follow {old = old} {new = new} rule first (Err why) r is h =
      subst (λ (r : Result (Option Value) Stop). Values m old new (mapped (Tree.pair first) rule) r) (sym is) (mapped_stops rule (Tree.pair first) (Err why) refl h)
  pairs_follow rule first (Ok v) (Ok w) is h = mapped_answers rule (Tree.pair first) w is.0 h
  pairs_follow rule first (Ok v) (Err why) is h = mapped_refused rule (Tree.pair first) (Err why) is.1 h

-- Commands one after another, and a block once for each text: what is left of them from one on.
use Rattle.std.proofs.Common.{◌≡◌, ℕ, ◌+◌, ◌<◌, List, [], ◌++◌, length, take, drop, Some, Result, Ok, Err, refl, ap, ◌∙◌, sym, subst, arith, append_assoc}
use Rattle.std.specs.Prelude.{slice_get, ◌^◌}
use Rattle.fx_base.proofs.Lists.{drop_next}
use Rattle.fx_expr.specs.Bindings.{bind}
use Rattle.fx_expr.specs.ShapeTree.{ShapeTree}
use Rattle.fx_expr.specs.Shapes.{BindingsHave}
use Rattle.fx_expr.specs.Tree.{Tree}
use Rattle.fx_spec.specs.SpecTree.{SpecTree}
use Rattle.fx_spec.specs.CommandTree.{CommandTree, Block, block, count, count_block}
use Rattle.fx_spec.specs.Task.{Task, Ends, ◌>=>◌}
use Rattle.fx_spec.specs.Transaction.{Standing, Flow, On, go_on, binding, leaving, within, each_in, run, run_block}
use Rattle.fx_spec.specs.WellShaped.{Scope, IsBlock}
use Rattle.fx_view.specs.Meaning.{Meaning}
use Rattle.fx_view.specs.Follows.{GoesBy}
use Rattle.fx_view.specs.Own.{no_own}
use Rattle.fx_view.specs.OwnList.{OwnList}
use Rattle.fx_zip.specs.Trees.{ZipTree}
use Rattle.fx_run.specs.declared.leave.Leave.{Leave}
use Rattle.fx_run.specs.declared.work.Work.{Work}
use Rattle.fx_run.specs.Leaving.{ended}
use Rattle.fx_run.specs.Pursuing.{pursuit}
use Rattle.fx_run.specs.Works.{root_of, standing_of, reader_of, own_of, came_by, IsSound, IsSameWalk, Obeys}
use Rattle.fx_run.specs.Scopes.{HasBlock, HasCommand, HasTurn, OpensScope, Scopes, ScopesBlock, KeepsTurn}
use Rattle.fx_run.proofs.Scoped.{opens_same}
use Rattle.fx_run.proofs.Obeyed.{Leaves, obeys_quiet, obeys_same, obeys_then, obeys_leaves}

-- ---- blocks

module _ {R L : Type 0} {m : Meaning R} where
  -- the same walk, with other variables or another count
  pub obeys_from : {task : Task Flow} {old other new : Work R L} {r : Result (Unit {0}) Leave} → IsSameWalk old.walk other.walk → Obeys m task other new r → Obeys m task old new r
  obeys_from {task = task} {old = old} {other = other} {new = new} {r = r} same h = record {
    follows =
        subst (λ (reader : R). GoesBy m (came_by new) no_own reader (reader_of new) (pursuit (own_of old) task) (ended r)) (λ k. (same.reader k).now)
        (subst (λ (own : OwnList). GoesBy m (came_by new) no_own (reader_of other) (reader_of new) (pursuit own task) (ended r)) same.own h.follows);
    sound = h.sound;
    root = h.root ∙ ap (λ (z : ZipTree). z.root) same.zip;
    lent = h.lent ∙ (λ k. (same.reader k).ghost_name);
  }

  -- a block with a text bound, from where the text is not bound yet
  pub turn_from : {old bound new : Work R L} {r : Result (Unit {0}) Leave} (i : ℕ) (b : Block) (x t : List ℕ) → bound.walk ≡ old.walk → bound.outputs ≡ old.outputs → bound.variables ≡ bind old.variables x (Tree.str t) → Obeys m (run_block (root_of bound) i b (standing_of bound)) bound new r → Obeys m (run_block (root_of old) i b (binding (standing_of old) x (Tree.str t))) old new r
  turn_from {old = old} {bound = bound} i b x t walk outputs vars h =
      obeys_same (run_block (root_of bound) i b (standing_of bound)) (run_block (root_of old) i b (binding (standing_of old) x (Tree.str t)))
      (λ k. run_block (walk k).zip.root i b (record { vars = vars k; address = (walk k).zip.address; outputs = outputs k }))
      (obeys_from (record { zip = (λ k. (walk k).zip); own = (λ k. (walk k).session.own); reader = (λ k. (walk k).session.reader) }) h)

  -- the variables of a block end with it
  pub within_ends : {old mid new : Work R L} (task : Task Flow) → Obeys m task old mid (Ok tt) → IsSound m mid.walk → new.walk ≡ mid.walk → new.outputs ≡ mid.outputs → new.variables ≡ take (length old.variables) mid.variables → Obeys m (within (standing_of old) task) old new (Ok tt)
  within_ends {old = old} task first sound walk outputs cut =
      obeys_then task (λ f. Ends (leaving (standing_of old) f)) first
      (obeys_quiet sound (record {
        ends = (λ k. Ends (On (record { vars = sym cut k; address = (sym walk k).zip.address; outputs = sym outputs k })));
        walk = record { zip = (λ k. (walk k).zip); own = (λ k. (walk k).session.own); reader = (λ k. (walk k).session.reader) };
      }))

  pub within_leaves : {old mid : Work R L} {r : Result (Unit {0}) Leave} {why : Leave} (s : Standing) (task : Task Flow) → Leaves r why → Obeys m task old mid (Err why) → Obeys m (within s task) old mid r
  within_leaves s task is first = obeys_leaves task (λ f. Ends (leaving s f)) (λ end outputs. refl) is first

-- ---- commands one after another

-- between two commands
pub record IsObeying {R L : Type 0} (m : Meaning R) (begun : Work R L) (first : ℕ) (commands : List CommandTree) (k number : ℕ) (w : Work R L) : Type 0 where
  pub counted : number + count_block (block (drop k commands)) ≡ first + count_block (block commands)
  pub opens : (scope : Scope) → BindingsHave begun.variables scope → IsBlock scope (block commands) → OpensScope scope w.variables (block (drop k commands))
  pub sound : IsSound m w.walk
  pub root : root_of w ≡ root_of begun
  pub goes : (last : Work R L) (r : Result (Unit {0}) Leave) → Obeys m (run_block (root_of begun) number (block (drop k commands)) (standing_of w)) w last r
      → Obeys m (run_block (root_of begun) first (block commands) (standing_of begun)) begun last r

module _ {R L : Type 0} {m : Meaning R} {begun : Work R L} {first : ℕ} {commands : List CommandTree} where
  pub obeying_starts : IsSound m begun.walk → IsObeying m begun first commands 0 first begun
  obeying_starts sound = record {
    counted = refl;
    opens = λ scope b h. opens_same scope begun.variables (block commands) b h;
    sound = sound;
    root = refl;
    goes = λ last r h. h;
  }

  module _ {k number : ℕ} {w : Work R L} (was : IsObeying m begun first commands k number w) where
    module _ (c : CommandTree) (here : slice_get commands k ≡ Some c) where
      pub command_comes : HasBlock begun.variables (block commands) → HasCommand w.variables c
      command_comes shaped =
          let o = was.opens shaped.scope shaped.bindings shaped.shaped in
          record { rest = block (drop (k + 1) commands); next = record { scope = shaped.scope ++ o.more; bindings = o.bindings; shaped = subst (λ cs. IsBlock (shaped.scope ++ o.more) (block cs)) (drop_next commands k c here) o.shaped } }

      counts : number + (count c + count_block (block (drop (k + 1) commands))) ≡ first + count_block (block commands)
      counts = ap (λ cs. number + count_block (block cs)) (sym (drop_next commands k c here)) ∙ was.counted

      pub few_come : first + count_block (block commands) < 2 ^ 32 → number + count c < 2 ^ 32
      few_come few = let all = counts in omega (arith, few, all)

      first_of_rest : run_block (root_of begun) number (block (drop k commands)) (standing_of w) ≡ (run (root_of begun) number c (standing_of w) >=> go_on (λ s. run_block (root_of begun) (number + count c) (block (drop (k + 1) commands)) s))
      first_of_rest = ap (λ cs. run_block (root_of begun) number (block cs) (standing_of w)) (drop_next commands k c here)

      rooted : (mid : Work R L) (r : Result (Unit {0}) Leave) → Obeys m (run (root_of w) number c (standing_of w)) w mid r → Obeys m (run (root_of begun) number c (standing_of w)) w mid r
      rooted mid r = obeys_same (run (root_of w) number c (standing_of w)) (run (root_of begun) number c (standing_of w)) (ap (λ root. run root number c (standing_of w)) was.root)

      pub obeying_leaves : {mid : Work R L} {r : Result (Unit {0}) Leave} {why : Leave} → Leaves r why → Obeys m (run (root_of w) number c (standing_of w)) w mid (Err why) → Obeys m (run_block (root_of begun) first (block commands) (standing_of begun)) begun mid r
      obeying_leaves {mid = mid} {r = r} {why = why} is h =
          was.goes mid r
          (obeys_same (run (root_of begun) number c (standing_of w) >=> go_on (λ s. run_block (root_of begun) (number + count c) (block (drop (k + 1) commands)) s)) (run_block (root_of begun) number (block (drop k commands)) (standing_of w)) (sym first_of_rest)
          (obeys_leaves (run (root_of begun) number c (standing_of w)) (go_on (λ s. run_block (root_of begun) (number + count c) (block (drop (k + 1) commands)) s)) (λ end outputs. refl) is (rooted mid (Err why) h)))

      pub obeying_on : {mid : Work R L} (n : ℕ) → n ≡ number + count c → Obeys m (run (root_of w) number c (standing_of w)) w mid (Ok tt) → Scopes c w.variables mid.variables (Ok tt) → IsObeying m begun first commands (k + 1) n mid
      obeying_on {mid = mid} n next h scopes = record {
        counted = let all = counts in omega (arith, all, next);
        opens = λ scope b is.
            let o = was.opens scope b is in
            let p = scopes (scope ++ o.more) (block (drop (k + 1) commands)) o.bindings (subst (λ cs. IsBlock (scope ++ o.more) (block cs)) (drop_next commands k c here) o.shaped) in
            record {
              more = o.more ++ p.more;
              bindings = subst (BindingsHave mid.variables) (append_assoc scope o.more p.more) p.bindings;
              shaped = subst (λ g. IsBlock g (block (drop (k + 1) commands))) (append_assoc scope o.more p.more) p.shaped;
            };
        sound = h.sound;
        root = h.root ∙ was.root;
        goes = λ last r rest.
            was.goes last r
            (obeys_same (run (root_of begun) number c (standing_of w) >=> go_on (λ s. run_block (root_of begun) (number + count c) (block (drop (k + 1) commands)) s)) (run_block (root_of begun) number (block (drop k commands)) (standing_of w)) (sym first_of_rest)
            (obeys_then (run (root_of begun) number c (standing_of w)) (go_on (λ s. run_block (root_of begun) (number + count c) (block (drop (k + 1) commands)) s)) (rooted mid (Ok tt) h)
            (obeys_same (run_block (root_of begun) n (block (drop (k + 1) commands)) (standing_of mid)) (run_block (root_of begun) (number + count c) (block (drop (k + 1) commands)) (standing_of mid)) (ap (λ n. run_block (root_of begun) n (block (drop (k + 1) commands)) (standing_of mid)) next) rest)));
      }

    module _ (none : drop k commands ≡ []) where
      pub obeying_ends : Obeys m (run_block (root_of begun) first (block commands) (standing_of begun)) begun w (Ok tt)
      obeying_ends =
          was.goes w (Ok tt)
          (obeys_quiet was.sound (record { ends = ap (λ cs. run_block (root_of begun) number (block cs) (standing_of w)) none; walk = record { zip = refl; own = refl; reader = refl } }))

      pub opens_ends : ScopesBlock (block commands) begun.variables w.variables (Ok tt)
      opens_ends scope b h =
          let o = was.opens scope b h in
          record { more = o.more; bindings = o.bindings; shaped = tt }

-- ---- a block once for each text

abbrev pub turns : SpecTree → ℕ → Block → List ℕ → List (List ℕ) → Standing → Task Flow
turns root first b x ts s = each_in (λ s. run_block root first b s) x ts s

abbrev turn : SpecTree → ℕ → Block → List ℕ → List ℕ → Standing → Task Flow
turn root first b x t s = within s (run_block root first b (binding s x (Tree.str t)))

-- between two turns
pub record IsTurning {R L : Type 0} (m : Meaning R) (begun : Work R L) (first : ℕ) (b : Block) (x : List ℕ) (texts : List (List ℕ)) (k : ℕ) (w : Work R L) : Type 0 where
  pub keeps : (scope : Scope) → BindingsHave begun.variables scope → IsBlock (bind scope x ShapeTree.str) b → BindingsHave w.variables scope
  pub sound : IsSound m w.walk
  pub root : root_of w ≡ root_of begun
  pub goes : (last : Work R L) (r : Result (Unit {0}) Leave) → Obeys m (turns (root_of begun) first b x (drop k texts) (standing_of w)) w last r → Obeys m (turns (root_of begun) first b x texts (standing_of begun)) begun last r

module _ {R L : Type 0} {m : Meaning R} {begun : Work R L} {first : ℕ} {b : Block} {x : List ℕ} {texts : List (List ℕ)} where
  pub turning_starts : IsSound m begun.walk → IsTurning m begun first b x texts 0 begun
  turning_starts sound = record { keeps = λ scope has h. has; sound = sound; root = refl; goes = λ last r h. h }

  module _ {k : ℕ} {w : Work R L} (was : IsTurning m begun first b x texts k w) where
    pub turn_comes : HasTurn begun.variables x b → HasTurn w.variables x b
    turn_comes h = record { scope = h.scope; bindings = was.keeps h.scope h.bindings h.shaped; shaped = h.shaped }

    pub turning_ends : drop k texts ≡ [] → Obeys m (turns (root_of begun) first b x texts (standing_of begun)) begun w (Ok tt)
    turning_ends none =
        was.goes w (Ok tt)
        (obeys_quiet was.sound (record { ends = ap (λ ts. turns (root_of begun) first b x ts (standing_of w)) none; walk = record { zip = refl; own = refl; reader = refl } }))

    pub turning_keeps : KeepsTurn x b begun.variables w.variables (Ok tt)
    turning_keeps scope has h = was.keeps scope has h

    module _ (t : List ℕ) (here : slice_get texts k ≡ Some t) where
      first_turn : turns (root_of begun) first b x (drop k texts) (standing_of w) ≡ (turn (root_of begun) first b x t (standing_of w) >=> go_on (λ s. turns (root_of begun) first b x (drop (k + 1) texts) s))
      first_turn = ap (λ ts. turns (root_of begun) first b x ts (standing_of w)) (drop_next texts k t here)

      based : (mid : Work R L) (r : Result (Unit {0}) Leave) → Obeys m (turn (root_of w) first b x t (standing_of w)) w mid r → Obeys m (turn (root_of begun) first b x t (standing_of w)) w mid r
      based mid r = obeys_same (turn (root_of w) first b x t (standing_of w)) (turn (root_of begun) first b x t (standing_of w)) (ap (λ root. turn root first b x t (standing_of w)) was.root)

      pub turning_leaves : {mid : Work R L} {r : Result (Unit {0}) Leave} {why : Leave} → Leaves r why → Obeys m (within (standing_of w) (run_block (root_of w) first b (binding (standing_of w) x (Tree.str t)))) w mid (Err why) → Obeys m (turns (root_of begun) first b x texts (standing_of begun)) begun mid r
      turning_leaves {mid = mid} {r = r} {why = why} is h =
          was.goes mid r
          (obeys_same (turn (root_of begun) first b x t (standing_of w) >=> go_on (λ s. turns (root_of begun) first b x (drop (k + 1) texts) s)) (turns (root_of begun) first b x (drop k texts) (standing_of w)) (sym first_turn)
          (obeys_leaves (turn (root_of begun) first b x t (standing_of w)) (go_on (λ s. turns (root_of begun) first b x (drop (k + 1) texts) s)) (λ end outputs. refl) is (based mid (Err why) h)))

      pub turning_on : {mid : Work R L} → Obeys m (within (standing_of w) (run_block (root_of w) first b (binding (standing_of w) x (Tree.str t)))) w mid (Ok tt) → KeepsTurn x b w.variables mid.variables (Ok tt) → IsTurning m begun first b x texts (k + 1) mid
      turning_on {mid = mid} h kept = record {
        keeps = λ scope has is. kept scope (was.keeps scope has is) is;
        sound = h.sound;
        root = h.root ∙ was.root;
        goes = λ last r rest.
            was.goes last r
            (obeys_same (turn (root_of begun) first b x t (standing_of w) >=> go_on (λ s. turns (root_of begun) first b x (drop (k + 1) texts) s)) (turns (root_of begun) first b x (drop k texts) (standing_of w)) (sym first_turn)
            (obeys_then (turn (root_of begun) first b x t (standing_of w)) (go_on (λ s. turns (root_of begun) first b x (drop (k + 1) texts) s)) (based mid (Ok tt) h) rest));
      }

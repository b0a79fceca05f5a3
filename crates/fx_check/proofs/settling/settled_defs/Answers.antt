use Rattle.std.proofs.Common.{◌≡◌, ◌∷◌, ◌++◌, [], List, map, append_assoc, sym, ap, subst, ◌∙◌}
use Rattle.std.specs.List.{All}
use Rattle.std.specs.Vec.Iter.{into_iter_items}
use Rattle.std.proofs.lemmas.List.Elements.{All-head, All-tail}
use Rattle.fx_spec.specs.declared.description.Def.{Def}
use Rattle.fx_spec.specs.DefViews.{def_tree}
use Rattle.fx_check.specs.Fitting.{IsFitting}
use Rattle.fx_check.proofs.settling.settled_defs.Goals as goal

pub settled_def-requires : goal.settled_def-requires
settled_def-requires c =
    let rest : List Def = into_iter_items c.next.new.self in
    let items : into_iter_items c.loop-def.def-iterator ≡ c.in-Some.def ∷ rest = c.in-Some.ensures.steps.0 in
    All-head IsFitting (def_tree c.in-Some.def) (map def_tree rest) (subst (λ (l : List Def). All IsFitting (map def_tree l)) items c.loop-def.invariant.left)

pub loop-def-preserved : goal.loop-def-preserved
loop-def-preserved c =
    let rest : List Def = into_iter_items c.next.new.self in
    let items : into_iter_items c.loop-def.def-iterator ≡ c.in-Some.def ∷ rest = c.in-Some.ensures.steps.0 in
    record {
      left = All-tail IsFitting (def_tree c.in-Some.def) (map def_tree rest) (subst (λ (l : List Def). All IsFitting (map def_tree l)) items c.loop-def.invariant.left);
      done =
          ap (λ l. l ++ map def_tree rest) c.in_ok-add.ensures.ok
          ∙ append_assoc c.loop-def.settled (def_tree c.in_ok-def.def ∷ []) (map def_tree rest)
          ∙ ap (λ d. c.loop-def.settled ++ d ∷ map def_tree rest) c.in_ok-def.ensures
          ∙ ap (λ l. c.loop-def.settled ++ map def_tree l) (sym items)
          ∙ c.loop-def.invariant.done;
    }

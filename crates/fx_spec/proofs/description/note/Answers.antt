use Rattle.std.proofs.Common.{◌≡◌, true, false, [], ◌∷◌, ◌++◌, sym, ap, subst, ◌∙◌}
use Rattle.std.specs.Prelude.{is_some}
use Rattle.indexmap.specs.IndexMap.{insert_entry}
use Rattle.fx_spec.specs.Naming.{place_of, IsTableOf}
use Rattle.fx_spec.proofs.Namings.{same_key, table_kept, table_more}
use Rattle.fx_spec.proofs.description.note.Goals as goal

pub returns-then-contains_key-clause-noted : goal.returns-then-contains_key-clause-noted
returns-then-contains_key-clause-noted c defs d table place name =
    let there = sym c.contains_key.ensures ∙ c.if-contains_key.true in
    table_kept defs c.args.places.now.entries d table (subst (λ n. is_some (place_of c.args.places.now.entries n) ≡ true) (c.as_slice.ensures.value ∙ sym name) there)

pub returns-clause-noted : goal.returns-clause-noted
returns-clause-noted c defs d table place name =
    let absent = sym c.contains_key.ensures ∙ c.if-contains_key.false in
    let more = table_more defs c.args.places.now.entries d c.in_ok-name.name table (c.in_ok-name.ensures.items ∙ (c.as_slice-2.ensures.value ∙ sym name))
    (subst (λ n. is_some (place_of c.args.places.now.entries n) ≡ false) (c.as_slice.ensures.value ∙ sym name) absent) in
    subst (λ t. IsTableOf (defs ++ d ∷ []) t) (sym (c.in_ok-insert.ensures.entries ∙ ap (insert_entry same_key c.args.places.now.entries c.in_ok-name.name) place)) more

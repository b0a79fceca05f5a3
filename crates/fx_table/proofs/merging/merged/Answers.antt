use Rattle.fx_table.proofs.Prelude.{◌≡◌, IfOk, sym, ap, subst, ◌∙◌, links_in, lines_in, with_links, with_flags, mapped_of, CanMerge, changes_of, links_among}
use Rattle.fx_table.proofs.Flagging.{flags_are, links_are, links_make, merge_flags}
use Rattle.fx_table.proofs.Naming.{mapped_changes}
use Rattle.fx_table.proofs.merging.merged.Goals as goal

pub merged_links-requires-clause-found : goal.merged_links-requires-clause-found
merged_links-requires-clause-found c =
    let flags = flags_are c.args.lines c.requires.lines c.args.found.items c.set_flags.new.found.items c.requires.found c.set_flags.ensures in
    let es = with_flags (mapped_of c.args.found.items) (lines_in c.args.lines) in
    flags ∙ ap changes_of (sym (ap mapped_of flags ∙ mapped_changes es))

pub merged_links-requires-clause-links : goal.merged_links-requires-clause-links
merged_links-requires-clause-links c = links_make c.args.lines c.in_ok-links.links.items c.requires.lines c.in_ok-links.ensures

pub merged_links-requires-clause-merge : goal.merged_links-requires-clause-merge
merged_links-requires-clause-merge c =
    let flags = flags_are c.args.lines c.requires.lines c.args.found.items c.set_flags.new.found.items c.requires.found c.set_flags.ensures in
    let es = with_flags (mapped_of c.args.found.items) (lines_in c.args.lines) in
    let links = links_are c.args.lines c.in_ok-links.links.items c.requires.lines c.in_ok-links.ensures in
    subst (λ l. CanMerge l (links_in c.in_ok-links.links.items)) (sym (ap mapped_of flags ∙ mapped_changes es))
    (subst (CanMerge es) (sym links) (merge_flags (mapped_of c.args.found.items) (lines_in c.args.lines) (links_among (lines_in c.args.lines)) c.requires.merge))

pub returns : goal.returns
returns c =
    let flags = flags_are c.args.lines c.requires.lines c.args.found.items c.set_flags.new.found.items c.requires.found c.set_flags.ensures in
    let es = with_flags (mapped_of c.args.found.items) (lines_in c.args.lines) in
    let links = links_are c.args.lines c.in_ok-links.links.items c.requires.lines c.in_ok-links.ensures in
    let same : with_links (mapped_of c.set_flags.new.found.items) (links_in c.in_ok-links.links.items) ≡ with_links es (links_among (lines_in c.args.lines)) = λ i. with_links ((ap mapped_of flags ∙ mapped_changes es) i) (links i) in
    subst (λ l. IfOk c.merged_links.result (λ all. all.items ≡ changes_of l)) same c.merged_links.ensures

use Rattle.fx_folder.proofs.Prelude.{rules, ◌≡◌, len}
use Rattle.fx_folder.proofs.Listings.{is_ready, is_taken}
use Rattle.fx_folder.proofs.readying.find_empty.Goals as goal

pub returns-then-len-eq0-clause-ready : goal.returns-then-len-eq0-clause-ready
returns-then-len-eq0-clause-ready g c =
    let none : len c.in_ok-listing.listing ≡ 0 = search rules in
    is_ready _ c.args.folder.now c.in_ok-listing.listing c.requires c.in_ok-listing.ensures.answer none

pub returns-clause-taken : goal.returns-clause-taken
returns-clause-taken g c = λ _. is_taken _ c.args.folder.now c.in_ok-listing.listing c.requires c.in_ok-listing.ensures.answer (λ none. search rules)

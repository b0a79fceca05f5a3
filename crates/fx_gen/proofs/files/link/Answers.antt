use Rattle.std.proofs.Common.{◌≡◌, Ok, sym, subst}
use Rattle.fx_store.specs.Faults.{read_link}
use Rattle.fx_gen.proofs.Placing.{link_read}
use Rattle.fx_gen.proofs.files.link.Goals as goal

pub link_text-requires : goal.link_text-requires
link_text-requires c = subst (λ l. read_link l ≡ Ok l) (sym c.project.ensures) (link_read c.draw-target.result c.draw-target.ensures.less)

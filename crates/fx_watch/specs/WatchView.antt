-- A watch as contracts see it.
use Rattle.std.specs.Prelude.{Bool, Option, IsSomeAnd, refl}
use Rattle.std.specs.Coded.{Coded, code_by, coded×, coded_bool, coded_list, coded_ℕ, coded_option}
use Rattle.fx_store.specs.contracts.node.Node as node
use Rattle.fx_store.specs.Whole.{Store}
use Rattle.fx_spec.specs.Codes.{coded_spec}
use Rattle.fx_spec.specs.SpecTree.{SpecTree}
use Rattle.fx_view.specs.ReadList.{ReadList}
use Rattle.fx_watch.specs.Validity.{IsFound}

-- the description, and what was found on the filestore that was told last: what was read there, and whether there is a value; or
-- none, where a call was refused
pub record WatchView : Type 0 where
  pub root : SpecTree
  pub found : Option (ReadList × Bool)

abbrev reads_code : Coded ReadList
reads_code = coded_list (coded× (coded_list (coded_list coded_ℕ)) (coded× (coded_option (node.the_row).coded) coded_ℕ))

abbrev pub watch_code : Coded WatchView
watch_code =
    code_by (SpecTree × Option (ReadList × Bool)) (coded× coded_spec (coded_option (coded× reads_code coded_bool))) (λ w. (w.root, w.found)) (λ p. record { root = p.0; found = p.1 }) (λ _. refl)

-- what was found is what there is to be found on this filestore
abbrev pub AnswersFor : WatchView → Store → Type 0
AnswersFor watch S = IsSomeAnd watch.found (λ f. IsFound watch.root S f.0 f.1)

-- A zipper of the program, as contracts see it.
use Rattle.fx_zip.specs.declared.zip.Zip.TheInside.{Inside}
use Rattle.fx_steps.specs.Steps.{step_tree, turned}
use Rattle.fx_zip.specs.Trees.{ZipTree}

abbrev pub zip_tree : Inside → ZipTree
zip_tree z = record { root = z.base.value.description; address = turned step_tree z.steps.items; frames = turned (λ f. f) z.frames.items; env = z.env; set = z.set }

use Rattle.fx_zip.proofs.Prelude.{◌≡◌, List, ◌-◌, length, drop, None, ap, ◌∙◌, arith, around_last, around_frame, shorter, step_tree, turned, ZipTree, zip_tree}
use Rattle.fx_steps.specs.declared.step.Step.{Step}
use Rattle.fx_steps.proofs.Turning.{length-turned}
use Rattle.fx_zip.proofs.zip.Zip.shorten.Goals as goal

pub returns : goal.returns
returns c =
    let z = zip_tree c.self.inside in
    let all = length-turned step_tree c.self.inside.steps.items in
    let few = length-turned (λ f. f) c.self.inside.frames.items in
    let n : length c.self.inside.steps.items - c.len-place.result ≡ length z.address - length z.frames = omega (arith, c.self.inside.frames.ok.0, c.len-place.ensures, all, few) in
    let env : c.unbind_at.new.env ≡ around_frame z.address z.frames z.env =
    c.unbind_at.ensures
    ∙ ap (λ (xs : List Step). around_last (drop (length xs - c.len-place.result) (turned step_tree xs)) c.pop_frame-caller.result.1 c.self.inside.env) c.as_slice.ensures.value
    ∙ ap (λ k. around_last (drop k z.address) c.pop_frame-caller.result.1 z.env) n
    ∙ ap (λ caller. around_last (drop (length z.address - length z.frames) z.address) caller z.env) c.pop_frame-caller.ensures.caller in
    let built : ◌≡◌ {A = ZipTree} (record { root = z.root; address = z.address; frames = turned (λ f. f) c.pop_frame-caller.new.frames.items; env = c.unbind_at.new.env; set = None }) (shorter z) =
    (λ i. record { root = z.root; address = z.address; frames = c.pop_frame-caller.ensures.frames i; env = env i; set = None }) in
    built ∙ ap shorter c.self.view_is

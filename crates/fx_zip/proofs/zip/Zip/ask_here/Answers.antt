use Rattle.fx_zip.proofs.Prelude.{◌≡◌, List, [], ap, subst, sym, ◌∙◌, rules, tree_of, Bindings, part_of, IsDescription, own_at, asked_at, Frame, part, step_tree, turned, ZipTree, path_of, zip_tree}
use Rattle.fx_steps.specs.declared.step.Step.{Step}
use Rattle.fx_zip.proofs.Places.{here_scope}
use Rattle.fx_zip.proofs.Questions.{followed_here}
use Rattle.fx_zip.proofs.zip.Zip.ask_here.Goals as goal

pub answer_at-requires : goal.answer_at-requires
answer_at-requires g c =
    let rooted : part_of c.root.result ≡ c.args.self.now.root = search rules in
    let form : part_of c.part-spec.result ≡ part c.args.self.now.root c.args.self.now.address = c.part-spec.ensures.part ∙ ap (λ (xs : List Step). part (part_of c.root.result) (turned step_tree xs)) c.as_slice-2.ensures.value ∙ ap (λ r. part r (turned step_tree c.self.inside.steps.items)) rooted ∙ ap (λ (z : ZipTree). part c.args.self.now.root z.address) c.self.view_is in
    let at : c.last_path-path.result.now ≡ path_of c.args.self.now.frames = c.last_path-path.ensures ∙ ap (λ (fs : List Frame). path_of (turned (λ f. f) fs)) c.as_slice.ensures.value ∙ ap (λ (z : ZipTree). path_of z.frames) c.self.view_is in
    let described : IsDescription [] c.args.self.now.root = subst (IsDescription []) rooted (subst (IsDescription []) (sym c.root.ensures.tree) c.root.ensures.described) in
    record { described = here_scope (g.R.Reader.meaning.reads c.args.session.now.reader.now) (own_at c.args.session.now.own) c.args.self.now c.last_path-path.result.now c.self.inside.env (part_of c.part-spec.result) at (ap (λ (z : ZipTree). z.env) c.self.view_is) form described c.requires.stands }

pub returns-clause-follows : goal.returns-clause-follows
returns-clause-follows g c =
    let rooted : part_of c.root.result ≡ c.args.self.now.root = search rules in
    let form : part_of c.part-spec.result ≡ part c.args.self.now.root c.args.self.now.address = c.part-spec.ensures.part ∙ ap (λ (xs : List Step). part (part_of c.root.result) (turned step_tree xs)) c.as_slice-2.ensures.value ∙ ap (λ r. part r (turned step_tree c.self.inside.steps.items)) rooted ∙ ap (λ (z : ZipTree). part c.args.self.now.root z.address) c.self.view_is in
    let at : c.last_path-path.result.now ≡ path_of c.args.self.now.frames = c.last_path-path.ensures ∙ ap (λ (fs : List Frame). path_of (turned (λ f. f) fs)) c.as_slice.ensures.value ∙ ap (λ (z : ZipTree). path_of z.frames) c.self.view_is in
    followed_here g.R.Reader.meaning tree_of c.args.session.now c.answer_at.new.session (asked_at c.args.question.now) c.answer_at.result c.last_path-path.result.now (path_of c.args.self.now.frames) c.self.inside.env c.args.self.now.env (part_of c.part-spec.result) (part c.args.self.now.root c.args.self.now.address) at (ap (λ (z : ZipTree). z.env) c.self.view_is) form c.answer_at.ensures.follows

pub returns-clause-same : goal.returns-clause-same
returns-clause-same g c =
    ap (λ (e : Bindings). zip_tree (record { base = c.self.inside.base; top = c.self.inside.top; steps = c.self.inside.steps; frames = c.self.inside.frames; env = e; set = c.self.inside.set })) c.answer_at.ensures.env ∙ c.self.view_is

pub returns-clause-described : goal.returns-clause-described
returns-clause-described g c =
    let rooted : part_of c.root.result ≡ c.args.self.now.root = search rules in
    subst (IsDescription []) rooted (subst (IsDescription []) (sym c.root.ensures.tree) c.root.ensures.described)

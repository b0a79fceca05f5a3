use Rattle.fx_zip.proofs.Prelude.{◌≡◌, List, [], sym, ap, ◌∙◌, subst, drop, rules, Bindings, part_of, IsDescription, own_at, Frame, part, step_tree, turned, ZipTree, path_of, zip_tree}
use Rattle.fx_steps.specs.declared.step.Step.{Step}
use Rattle.fx_zip.proofs.Around.{no_pair_around, first_scope, first_leads_on}
use Rattle.fx_zip.proofs.zip.Zip.after_first.Goals as goal

pub after_first-requires : goal.after_first-requires
after_first-requires g c =
    let rooted : part_of c.root.result ≡ c.args.self.now.root = search rules in
    let around : part_of c.part_around-around.result ≡ part c.args.self.now.root (drop 1 c.args.self.now.address) = c.part_around-around.ensures.part ∙ ap (λ (xs : List Step). part (part_of c.root.result) (drop 1 (turned step_tree xs))) c.as_slice-2.ensures.value ∙ ap (λ r. part r (drop 1 (turned step_tree c.self.inside.steps.items))) rooted ∙ ap (λ (z : ZipTree). part c.args.self.now.root (drop 1 z.address)) c.self.view_is in
    let described : IsDescription [] c.args.self.now.root = subst (IsDescription []) rooted (subst (IsDescription []) (sym c.root.ensures.tree) c.root.ensures.described) in
    record { described = first_scope (g.R.Reader.meaning.reads c.args.session.now.reader.now) (own_at c.args.session.now.own) c.args.self.now c.requires.stands c.requires.first (part_of c.part_around-around.result) around _ _ _ c.in-Some.ensures.form described c.self.inside.env (ap (λ (z : ZipTree). z.env) c.self.view_is) }

pub returns-in-Some-clause-leads : goal.returns-in-Some-clause-leads
returns-in-Some-clause-leads g c =
    let rooted : part_of c.root.result ≡ c.args.self.now.root = search rules in
    let around : part_of c.part_around-around.result ≡ part c.args.self.now.root (drop 1 c.args.self.now.address) = c.part_around-around.ensures.part ∙ ap (λ (xs : List Step). part (part_of c.root.result) (drop 1 (turned step_tree xs))) c.as_slice-2.ensures.value ∙ ap (λ r. part r (drop 1 (turned step_tree c.self.inside.steps.items))) rooted ∙ ap (λ (z : ZipTree). part c.args.self.now.root (drop 1 z.address)) c.self.view_is in
    let path : c.path_around-path.result.now ≡ path_of (drop 1 c.args.self.now.frames) = c.path_around-path.ensures ∙ ap (λ (fs : List Frame). path_of (drop 1 (turned (λ f. f) fs))) c.as_slice.ensures.value ∙ ap (λ (z : ZipTree). path_of (drop 1 z.frames)) c.self.view_is in
    first_leads_on (g.R.Reader.meaning.reads c.args.session.now.reader.now) (own_at c.args.session.now.own) c.args.self.now c.requires.stands c.requires.first (part_of c.part_around-around.result) around _ _ _ c.in-Some.ensures.form g.R.Reader.meaning c.args.session.now c.after_first.new.session c.after_first.result c.path_around-path.result.now c.self.inside.env path (ap (λ (z : ZipTree). z.env) c.self.view_is) c.after_first.ensures.follows c.after_first.ensures.spot

pub returns-in-Some-clause-same : goal.returns-in-Some-clause-same
returns-in-Some-clause-same g c =
    ap (λ (e : Bindings). zip_tree (record { base = c.self.inside.base; top = c.self.inside.top; steps = c.self.inside.steps; frames = c.self.inside.frames; env = e; set = c.self.inside.set })) c.after_first.ensures.env ∙ c.self.view_is

pub returns-in-None-clause-leads : goal.returns-in-None-clause-leads
returns-in-None-clause-leads g c =
    let rooted : part_of c.root.result ≡ c.args.self.now.root = search rules in
    let around : part_of c.part_around-around.result ≡ part c.args.self.now.root (drop 1 c.args.self.now.address) = c.part_around-around.ensures.part ∙ ap (λ (xs : List Step). part (part_of c.root.result) (drop 1 (turned step_tree xs))) c.as_slice-2.ensures.value ∙ ap (λ r. part r (drop 1 (turned step_tree c.self.inside.steps.items))) rooted ∙ ap (λ (z : ZipTree). part c.args.self.now.root (drop 1 z.address)) c.self.view_is in
    absurd (no_pair_around (g.R.Reader.meaning.reads c.args.session.now.reader.now) (own_at c.args.session.now.own) c.args.self.now c.requires.stands c.requires.first (part_of c.part_around-around.result) around c.in-None.ensures.form)

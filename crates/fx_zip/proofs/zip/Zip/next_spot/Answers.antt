use Rattle.fx_zip.proofs.Prelude.{◌≡◌, List, length, take, [], subst, ap, ◌∙◌, sym, arith, rules, length-take, Bindings, part_of, IsDescription, own_at, Frame, part, step_tree, turned, ZipTree, path_of, zip_tree}
use Rattle.fx_steps.specs.declared.step.Step.{Step}
use Rattle.fx_zip.proofs.Nexting.{few_here, scope_next, leads_next}
use Rattle.fx_zip.proofs.zip.Zip.next_spot.Goals as goal

pub slice_bounds-part-end : goal.slice_bounds-part-end
slice_bounds-part-end g c =
    let long : c.len-done.result ≡ length c.self.inside.frames.items = omega (arith, c.self.inside.frames.ok.0, c.len-done.ensures) in
    let few = few_here (g.R.Reader.meaning.reads c.args.session.now.reader.now) (own_at c.args.session.now.own) c.args.self.now c.requires.fresh c.requires.unsettled c.self.inside.steps.items c.self.inside.frames.items (ap (λ (z : ZipTree). z.address) c.self.view_is) (ap (λ (z : ZipTree). z.frames) c.self.view_is) c.len-done.result long in
    let cut = length-take c.len-done.result c.deref-2.result.now in
    let same = ap length c.deref-2.ensures.value in
    omega (arith, few, cut, same)

pub index-requires : goal.index-requires
index-requires g c =
    let long : c.len-done.result ≡ length c.self.inside.frames.items = omega (arith, c.self.inside.frames.ok.0, c.len-done.ensures) in
    let few = few_here (g.R.Reader.meaning.reads c.args.session.now.reader.now) (own_at c.args.session.now.own) c.args.self.now c.requires.fresh c.requires.unsettled c.self.inside.steps.items c.self.inside.frames.items (ap (λ (z : ZipTree). z.address) c.self.view_is) (ap (λ (z : ZipTree). z.frames) c.self.view_is) c.len-done.result long in
    omega (arith, few, c.self.inside.steps.ok.0)

pub led-requires : goal.led-requires
led-requires g c =
    let long : c.len-done.result ≡ length c.self.inside.frames.items = omega (arith, c.self.inside.frames.ok.0, c.len-done.ensures) in
    let rooted : part_of c.root.result ≡ c.args.self.now.root = search rules in
    let form : part_of c.part-spec.result ≡ part (part_of c.root.result) (turned step_tree (take c.len-done.result c.self.inside.steps.items)) = c.part-spec.ensures.part ∙ ap (λ (xs : List Step). part (part_of c.root.result) (turned step_tree (take c.len-done.result xs))) c.deref-2.ensures.value in
    record {
      described =
          scope_next (g.R.Reader.meaning.reads c.args.session.now.reader.now) (own_at c.args.session.now.own) c.args.self.now c.requires.fresh c.requires.unsettled c.self.inside.steps.items c.self.inside.frames.items (ap (λ (z : ZipTree). z.address) c.self.view_is) (ap (λ (z : ZipTree). z.frames) c.self.view_is) c.len-done.result long
          c.index.result.now c.index.ensures (part_of c.root.result) rooted (part_of c.part-spec.result) form c.self.inside.env (ap (λ (z : ZipTree). z.env) c.self.view_is) (subst (IsDescription []) (sym c.root.ensures.tree) c.root.ensures.described);
    }

pub returns-clause-leads : goal.returns-clause-leads
returns-clause-leads g c =
    let long : c.len-done.result ≡ length c.self.inside.frames.items = omega (arith, c.self.inside.frames.ok.0, c.len-done.ensures) in
    let rooted : part_of c.root.result ≡ c.args.self.now.root = search rules in
    let form : part_of c.part-spec.result ≡ part (part_of c.root.result) (turned step_tree (take c.len-done.result c.self.inside.steps.items)) = c.part-spec.ensures.part ∙ ap (λ (xs : List Step). part (part_of c.root.result) (turned step_tree (take c.len-done.result xs))) c.deref-2.ensures.value in
    let at : c.last_path-path.result.now ≡ path_of c.args.self.now.frames = c.last_path-path.ensures ∙ ap (λ (fs : List Frame). path_of (turned (λ f. f) fs)) c.as_slice.ensures.value ∙ ap (λ (z : ZipTree). path_of z.frames) c.self.view_is in
    leads_next (g.R.Reader.meaning.reads c.args.session.now.reader.now) (own_at c.args.session.now.own) c.args.self.now c.requires.fresh c.requires.unsettled c.self.inside.steps.items c.self.inside.frames.items (ap (λ (z : ZipTree). z.address) c.self.view_is) (ap (λ (z : ZipTree). z.frames) c.self.view_is) c.len-done.result long
    c.index.result.now c.index.ensures (part_of c.root.result) rooted (part_of c.part-spec.result) form c.self.inside.env (ap (λ (z : ZipTree). z.env) c.self.view_is)
    g.R.Reader.meaning c.args.session.now c.led.new.session c.led.result c.last_path-path.result.now at c.led.ensures.leads

pub returns-clause-same : goal.returns-clause-same
returns-clause-same g c =
    ap (λ (e : Bindings). zip_tree (record { base = c.self.inside.base; top = c.self.inside.top; steps = c.self.inside.steps; frames = c.self.inside.frames; env = e; set = c.self.inside.set })) c.led.ensures.env ∙ c.self.view_is

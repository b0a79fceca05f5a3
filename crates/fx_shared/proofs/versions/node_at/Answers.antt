use Rattle.std.proofs.Common.{rules, ◌≡◌, ◌∙◌, sym, ap, ◌-◌, suc, ltb, arith}
use Rattle.std.specs.Option.{option_copied}
use Rattle.std.proofs.lemmas.List.Sorted.{IsPartitionPoint-from_clause, IsPartitionedBy-ltb}
use Rattle.fx_shared.specs.declared.versions.Version.{Version}
use Rattle.fx_shared.proofs.Searched.{left_by, version_at-left_by, left_by-none, left_by-last}
use Rattle.fx_shared.proofs.versions.node_at.Goals as goal

pub returns-then-count-eq0 : goal.returns-then-count-eq0
returns-then-count-eq0 c =
    let vs = c.args.versions.now in
    let was = option_copied c.args.loaded in
    let parted = IsPartitionedBy-ltb (λ (v : Version). v.entry) vs c.args.entry c.requires in
    let point = IsPartitionPoint-from_clause (λ (v : Version). ltb v.entry c.args.entry) vs _ c.partition_point-count.ensures.partitioned parted (λ a r q k. search rules) in
    let none : c.partition_point-count.result ≡ 0 = search rules in
    sym (version_at-left_by c.args.entry was vs c.partition_point-count.result point.0 point.1 ∙ (ap (left_by was vs) none ∙ left_by-none was vs))

pub returns : goal.returns
returns c =
    let vs = c.args.versions.now in
    let was = option_copied c.args.loaded in
    let count = c.partition_point-count.result in
    let parted = IsPartitionedBy-ltb (λ (v : Version). v.entry) vs c.args.entry c.requires in
    let point = IsPartitionPoint-from_clause (λ (v : Version). ltb v.entry c.args.entry) vs _ c.partition_point-count.ensures.partitioned parted (λ a r q k. search rules) in
    let some : count ≡ suc (count - 1) = grind (arith, rules) in
    c.as_ref.ensures.value
    ∙ sym (version_at-left_by c.args.entry was vs count point.0 point.1 ∙ (ap (left_by was vs) some ∙ left_by-last was vs (count - 1) c.index-versions-count.result (let b = c.partition_point-count.ensures.bound in omega (arith, some, b))))

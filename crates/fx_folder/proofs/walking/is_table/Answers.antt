use Rattle.fx_folder.proofs.Prelude.{◌≡◌, sym, ap, subst, length, arith, rules, bytes_eq, common_steps, IsPath, table_name}
use Rattle.fx_folder.proofs.Items.{deep_apart, at_root}
use Rattle.fx_folder.proofs.walking.is_table.Goals as goal

pub returns-then-len-gt0 : goal.returns-then-len-gt0
returns-then-len-gt0 c = sym (deep_apart c.args.parent.now c.args.name.now (subst IsPath c.path.ensures c.len.ensures.path) (omega (arith, c.len.ensures.len, ap length c.path.ensures, c.if-len-gt0.true)))

pub returns : goal.returns
returns c =
    let same : c.eq.result ≡ bytes_eq c.args.name.now table_name = first_of (search rules, grind (arith, common_steps)) in
    at_root c.args.parent.now c.args.name.now c.eq.result (omega (arith, c.len.ensures.len, ap length c.path.ensures, c.if-len-gt0.false)) same

use Rattle.fx_zip.proofs.Prelude.{◌<◌, length, refl, sym, ap, ◌∙◌, subst, IsFresh, told_by, ZipTree}
use Rattle.fx_zip.proofs.Dropping.{untold_dropped, told_stays}
use Rattle.fx_zip.proofs.Lasting.{fresh_lasts, fresh_shorter, some_frame}
use Rattle.fx_zip.proofs.zip.Zip.edited.Goals as goal

pub dropping-init : goal.dropping-init
dropping-init c = record { kept = refl; root = refl; address = refl; fresh = λ reads own h. h }

pub dropping-preserved : goal.dropping-preserved
dropping-preserved c = record {
  kept = ap (told_by c.args.untouched) c.shorten.ensures ∙ sym (untold_dropped c.args.untouched c.dropping.self (sym c.is_told.ensures ∙ c.dropping-test.true)) ∙ c.dropping.invariant.kept;
  root = ap (λ (z : ZipTree). z.root) c.shorten.ensures ∙ c.dropping.invariant.root;
  address = ap (λ (z : ZipTree). z.address) c.shorten.ensures ∙ c.dropping.invariant.address;
  fresh = λ reads own h. subst (IsFresh reads own) (sym c.shorten.ensures) (fresh_shorter reads own c.dropping.self (c.dropping.invariant.fresh reads own h));
}

pub dropping-smaller : goal.dropping-smaller
dropping-smaller c =
    subst (λ (z : ZipTree). length z.frames < length c.dropping.self.frames) (sym c.shorten.ensures) (some_frame c.args.untouched c.dropping.self.frames (sym c.is_told.ensures ∙ c.dropping-test.true))

pub returns : goal.returns
returns c = record {
  kept = sym (told_stays c.args.untouched c.dropping.self (sym c.is_told.ensures ∙ c.dropping-test.false)) ∙ c.dropping.invariant.kept;
  root = c.dropping.invariant.root;
  address = c.dropping.invariant.address;
  fresh = λ reads own now same h. fresh_lasts c.args.untouched reads own now c.dropping.self same (sym c.is_told.ensures ∙ c.dropping-test.false) (c.dropping.invariant.fresh reads own h);
}

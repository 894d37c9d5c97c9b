use Rattle.std.proofs.Common.{◌∙◌, arith, sym}
use Rattle.auto_masks.proofs.KeepLemmas.{kept_begin, kept_whole}
use Rattle.auto_masks.proofs.keeping.keep_patches.Goals as goal

pub keep_rows-requires-clause-kept : goal.keep_rows-requires-clause-kept
keep_rows-requires-clause-kept c =
    let is = c.in_ok-kept.ensures in
    kept_begin c.args.patches.now c.args.least c.in_ok-kept.kept (record {
      width = is.width ∙ sym c.requires.across;
      height = is.height ∙ sym c.requires.along;
      clear_at = λ x y l h. is.clear_at x y (omega (arith, l, c.requires.across)) (omega (arith, h, c.requires.along));
    })

pub returns : goal.returns
returns c =
    let is = kept_whole c.args.patches.now c.args.least c.keep_rows.new.kept c.keep_rows.ensures in
    record {
      width = is.width ∙ c.requires.across;
      height = is.height ∙ c.requires.along;
      clear_at = λ x y l h. is.clear_at x y (omega (arith, l, c.requires.across)) (omega (arith, h, c.requires.along));
    }

use Rattle.std.proofs.Common.{◌≡◌, ◌*◌, ◌∙◌, ap, sym, length, arith}
use Rattle.raster_model.specs.MaskWords.{words_across}
use Rattle.raster_model.proofs.MaskLemmas.{all_words, more_words}
use Rattle.raster_model.proofs.mask.Mask.of_plane.Goals as goal

pub loop-place-preserved : goal.loop-place-preserved
loop-place-preserved c =
    let l = c.loop-place in
    let size : length l.words.items ≡ l.place = sym l.words.ok.0 ∙ l.invariant.count in
    record {
      count = omega (arith, c.in_ok-push.ensures.len, l.invariant.count);
      told = rw c.in_ok-push.ensures.items (more_words c.args.plane.now l.place l.words.items c.plane_word.result size l.invariant.told (rw c.words_across-across.ensures at c.plane_word.ensures));
    }

pub returns : goal.returns
returns c =
    let end : c.loop-place.place ≡ words_across c.args.plane.now.width * c.args.plane.now.height = omega (arith, ap (λ n. n * c.args.plane.now.height) c.words_across-across.ensures) in
    all_words c.args.plane.now c.loop-place.place c.loop-place.words.items end c.loop-place.invariant.told

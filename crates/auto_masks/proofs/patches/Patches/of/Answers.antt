use Rattle.std.proofs.Common.{◌≡◌, ◌*◌, ◌∙◌, ℕ, List, arith, subst, sym}
use Rattle.joined_cells.proofs.NumberLemmas.{size_says}
use Rattle.auto_masks.proofs.PatchLemmas.{has_pixel, label_of_patch, patches_are}
use Rattle.joined_cells.specs.Measures.{AreMeasures}
use Rattle.auto_masks.specs.Patches.{ArePatchesOf, key_at}
use Rattle.auto_masks.proofs.patches.Patches.of.Goals as goal

pub measure_trees-requires : goal.measure_trees-requires
measure_trees-requires c =
    let says = size_says c.args.width c.args.height c.requires.limits in
    omega (arith, c.deref.ensures.len, c.in_ok-numbers.numbers.labels.ok.0, c.in_ok-numbers.ensures.numbers.size, says.2)

pub invariant_of-result : goal.invariant_of-result
invariant_of-result c =
    let w = c.args.width in
    let h = c.args.height in
    let K = key_at w c.args.keys.now in
    let made = c.in_ok-numbers.numbers in
    let labels = made.labels.items in
    let numbers = c.in_ok-numbers.ensures.numbers in
    let few = c.in_ok-numbers.ensures.few in
    let says = size_says w h c.requires.limits in
    let found = c.in_ok-measures.measures in
    let is : AreMeasures labels made.count found.sizes.items found.firsts.items = subst (λ (ls : List ℕ). AreMeasures ls made.count found.sizes.items found.firsts.items) c.deref.ensures.value c.in_ok-measures.ensures in
    let sized : found.sizes.len ≡ made.count = found.sizes.ok.0 ∙ is.sized in
    let full : made.labels.len ≡ w * h = made.labels.ok.0 ∙ numbers.size in (
      c.requires.limits,
      full,
      omega (arith, sized, few),
      omega (arith, sized, is.placed, found.firsts.ok.0),
      λ n l. is.counts n (omega (arith, sized, l)),
      λ n l. (
          let p = has_pixel w h K labels made.count says.0 few says.2 numbers n (omega (arith, sized, l)) in
          is.places n p.0 (omega (arith, sized, l)) p.1 p.2),
      λ i l m. (
          let f = label_of_patch w h K labels made.count says.0 few says.2 numbers i (omega (arith, l, made.labels.ok.0)) m in
          omega (arith, f, sized)),
    )

pub returns : goal.returns
returns c =
    let w = c.args.width in
    let h = c.args.height in
    let K = key_at w c.args.keys.now in
    let made = c.in_ok-numbers.numbers in
    let found = c.in_ok-measures.measures in
    let says = size_says w h c.requires.limits in
    let sized : found.sizes.len ≡ made.count = found.sizes.ok.0 ∙ c.in_ok-measures.ensures.sized in
    subst (λ (n : ℕ). ArePatchesOf w h K (record { width = w; height = h; labels = made.labels.items; count = n })) (sym sized) (patches_are w h K made.labels.items made.count says.0 c.in_ok-numbers.ensures.few says.2 c.in_ok-numbers.ensures.numbers)

use Rattle.std.proofs.Common.{◌≡◌, ◌+◌, ◌-◌, ◌*◌, ◌∙◌, ℕ, arith, subst, length}
use Rattle.std.proofs.lemmas.List.{with_items_is}
use Rattle.raster_model.specs.Masks.{open_at}
use Rattle.raster_model.specs.Sheets.{sheet_raster}
use Rattle.joined_cells.specs.Measures.{AreMeasures}
use Rattle.certain_parts.specs.Faces.{faced_by}
use Rattle.certain_parts.specs.Labels.{ArePartsOf}
use Rattle.certain_parts.proofs.PartLemmas.{first_is, parts_are}
use Rattle.certain_parts.proofs.parts.Parts.of.Goals as goal

pub invariant_of-result : goal.invariant_of-result
invariant_of-result g c =
    let s = c.args.sheet.now in
    let faced = faced_by (sheet_raster s) (open_at c.args.mask.now) (g.H.Heights.cycles_at c.args.heights.now) c.args.faces.now in
    let trees = c.in_ok-trees.trees in
    let is = c.in_ok-trees.ensures in
    let labels = c.rank_trees.new.labels in
    let count = c.in_ok-count.count in
    let made = c.in_ok-measures.measures in
    let before : c.deref_mut.result.now ≡ trees.labels.items = c.deref_mut.ensures.value in
    let size : length labels ≡ trees.labels.len = c.rank_trees.auto.labels ∙ c.deref_mut.ensures.len in
    let items = with_items_is trees.labels labels size in
    let measured : AreMeasures labels (count + 1) made.sizes.items made.firsts.items = rw (c.deref.ensures.value, items) at c.in_ok-measures.ensures in
    let sized : made.sizes.len ≡ count + 1 = made.sizes.ok.0 ∙ measured.sized in
    let full : trees.labels.len ≡ s.phase.now.width * s.phase.now.height = trees.labels.ok.0 ∙ is.full in
    let same : length labels ≡ length trees.labels.items = size ∙ trees.labels.ok.0 in
    let wide : c.width.result ≡ s.phase.now.width = c.width.ensures.value ∙ c.requires.same_size.0 in
    let high : c.height.result ≡ s.phase.now.height = c.height.ensures.value ∙ c.requires.same_size.1 in
    rw (wide, high) (
      rw (c.requires.same_size.0, c.requires.same_size.1) at c.width.ensures.size,
      full,
      omega (arith, sized),
      omega (arith, sized, is.few, c.in_ok-count.ensures.small),
      omega (arith, sized, measured.placed, made.firsts.ok.0),
      λ n l. rw items (measured.counts n (omega (arith, sized, l))),
      λ n one l. rw items (first_is faced c.args.limit c.args.least trees.count count trees.labels.items labels made.sizes.items made.firsts.items s.phase.now.wide.0 s.phase.now.few is same (rw before at c.in_ok-count.ensures.ranked) (rw before at c.in_ok-count.ensures.other) (rw before at c.in_ok-count.ensures.count) measured n one (omega (arith, sized, l))),
    )

pub returns : goal.returns
returns g c =
    let s = c.args.sheet.now in
    let faced = faced_by (sheet_raster s) (open_at c.args.mask.now) (g.H.Heights.cycles_at c.args.heights.now) c.args.faces.now in
    let trees = c.in_ok-trees.trees in
    let is = c.in_ok-trees.ensures in
    let labels = c.rank_trees.new.labels in
    let count = c.in_ok-count.count in
    let made = c.in_ok-measures.measures in
    let before : c.deref_mut.result.now ≡ trees.labels.items = c.deref_mut.ensures.value in
    let size : length labels ≡ trees.labels.len = c.rank_trees.auto.labels ∙ c.deref_mut.ensures.len in
    let items = with_items_is trees.labels labels size in
    let measured : AreMeasures labels (count + 1) made.sizes.items made.firsts.items = rw (c.deref.ensures.value, items) at c.in_ok-measures.ensures in
    let sized : count ≡ made.sizes.len - 1 = omega (arith, made.sizes.ok.0, measured.sized) in
    let same : length labels ≡ length trees.labels.items = size ∙ trees.labels.ok.0 in
    let parts = parts_are faced c.args.limit c.args.least trees.count count trees.labels.items labels made.sizes.items made.firsts.items s.phase.now.wide.0 s.phase.now.few is same (rw before at c.in_ok-count.ensures.ranked) (rw before at c.in_ok-count.ensures.other) (rw before at c.in_ok-count.ensures.count) measured in
    let wide : c.width.result ≡ s.phase.now.width = c.width.ensures.value ∙ c.requires.same_size.0 in
    let high : c.height.result ≡ s.phase.now.height = c.height.ensures.value ∙ c.requires.same_size.1 in
    rw (wide, high, items) (subst (λ (n : ℕ). ArePartsOf faced c.args.limit c.args.least (record { width = s.phase.now.width; height = s.phase.now.height; labels = labels; count = n })) sized parts)

-- No certified report is longer than a check reads.
use Rattle.std.proofs.Common.{◌≡◌, ◌∙◌, ℕ, suc, ◌+◌, ◌*◌, ◌^◌, ◌≤◌, ◌<◌, Bool, List, [], ◌∷◌, ◌++◌, Option, Some, None, length, flat_map, map, refl, sym, subst, arith, mul-le-mul}
use Rattle.std.specs.Prelude.{codes, cond, count_by, slice_get, sum_by}
use Rattle.std.proofs.lemmas.List.{length-append}
use Rattle.std.proofs.lemmas.List.Sums.{count_by-le-length, sum_by-cons}
use Rattle.raster_model.specs.declared.script.Command.{Command}
use Rattle.raster_model.specs.declared.script.Script.{Script}
use Rattle.raster_model.specs.declared.session.Session.{Session}
use Rattle.raster_model.specs.Cells.{cell_count}
use Rattle.raster_model.specs.Flows.{seam_count}
use Rattle.raster_model.specs.Scene.{raster_of}
use Rattle.raster_model.specs.Scripts.{changes_in, is_settle, settles_in}
use Rattle.raster_model.specs.Tiles.{tiles_of}
use Rattle.text_parts.proofs.LengthLemmas.{some_pixels}
use Rattle.text_parts.proofs.LineLemmas.{size_parts}
use Rattle.tile_board.specs.declared.entry.Entry.{Entry}
use Rattle.tile_board.specs.declared.entry.Entry.TheVariants.{Revised, Kept, Published, Settled, Shown}
use Rattle.tile_board.specs.Histories.{mask_in}
use Rattle.sums_and_lists.specs.Sums.{count_below}
use Rattle.report_text.specs.Certified.{IsCertifiedAfter, IsCertifiedAt, IsCertifiedReport, history_of}
use Rattle.report_text.specs.Contents.{IsItemInRange, IsReport, IsSurfaceInRange, MayBeInRange}
use Rattle.report_text.specs.Length.{CertifiedReportsAreShort, is_revised, keeps_result}
use Rattle.report_text.specs.Reports.{ItemOf, ReportOf, SurfaceOf, is_published}
use Rattle.report_text.specs.Text.{after_text, head_text, item_text, report_text, surface_block_text, tiles_in}
use Rattle.report_text.proofs.CountSums.{count_below-same}
use Rattle.report_text.proofs.EntryCounts.{any_command, ends_command, few_ended, few_published, few_revised, legal_histories_keep_few}
use Rattle.report_text.proofs.ItemsLemmas.{all_get}
use Rattle.report_text.proofs.PixelCounts.{few_cells_and_seams, few_tiles, flows_small}
use Rattle.report_text.proofs.TextCounts.{block_short, head_short, item_short, items_short}

-- a surface has at most 52 bytes a pixel: 22 for its value, 21 for its face or its two flows, and 9 for the lines of the tiles
sum_block : (width height tiles cells seams : ℕ) → 1 ≤ width → 1 ≤ height → 2 * tiles ≤ height * width + 1 → 21 * cells + 9 * seams ≤ 21 * (width * height) → 264 + height * (21 * width + 1) + tiles * 17 + 21 * cells + 9 * seams ≤ 52 * (width * height) + 300
sum_block width height tiles cells seams wide high few shared =
    let row : height * 1 ≤ height * width = mul-le-mul (let same : height ≤ height = omega arith in same) wide in
    omega (arith, few, shared, row, high)

-- all bytes: publications times pixels, kept results, and what is left
sum_report : (pixels settles tiles changes kept ended published : ℕ) → pixels ≤ 4194304 → settles * pixels ≤ 67108864 → changes * tiles ≤ 16777216 → 2 * tiles ≤ pixels + 1 → kept ≤ tiles * (1 + changes) → ended ≤ 32768 → published ≤ settles → settles ≤ 32768 →
    700 + (27 * kept + 129 * ended + published * (52 * pixels + 300)) + 4 ≤ 4294967296
sum_report pixels settles tiles changes kept ended published few settled changed covered k e p s =
    let blocks : published * (52 * pixels + 300) ≤ settles * (52 * pixels + 300) = mul-le-mul p (let same : 52 * pixels + 300 ≤ 52 * pixels + 300 = omega arith in same) in
    omega (arith, few, settled, changed, covered, k, e, blocks, s)

-- eight scripts of 4,096 commands
few_commands : (p : Command → Bool) (scripts : List Script) → ((k : ℕ) (script : Script) → slice_get scripts k ≡ Some script → script.commands.len ≤ 4096) → sum_by (λ (script : Script). count_by p script.commands.items) scripts ≤ length scripts * 4096
few_commands p [] short = omega arith
few_commands p (script ∷ scripts) short =
    omega (arith, sum_by-cons (λ (x : Script). count_by p x.commands.items) script scripts, count_by-le-length p script.commands.items, script.commands.ok.0, short 0 script refl, few_commands p scripts (λ k x at. short (suc k) x at))

in_all : (s : Session) (p : Command → Bool) → sum_by (λ (script : Script). count_by p script.commands.items) s.scripts.items ≤ 32768
in_all s p = omega (arith, few_commands p s.scripts.items s.short, s.scripts.ok.0, s.analysts.1)

-- a test of entries counts as many items
counted : (q : Entry → Bool) (items : List ItemOf) → count_by (λ (i : ItemOf). q i.entry) items ≡ count_by q (map (λ (i : ItemOf). i.entry) items)
counted q [] = refl
counted q (i ∷ items) = omega (arith, sum_by-cons (λ (j : ItemOf). cond (q j.entry) 1 0) i items, sum_by-cons (λ (e : Entry). cond (q e) 1 0) i.entry (map (λ (j : ItemOf). j.entry) items), counted q items)

module _ (s : Session) (v : ReportOf) (small : s.scene.weights.maxval < 2 ^ 16) (is : IsReport v) (c : IsCertifiedReport s v) where
  abbrev pixels : ℕ
  pixels = v.width * v.height

  abbrev most : ℕ
  most = 52 * pixels + 300

  same_tiles : tiles_in v ≡ tiles_of s.scene.tiling
  same_tiles =
      let across : v.width ≡ s.scene.tiling.width = c.width ∙ sym s.scene.same_width.1 in
      let along : v.height ≡ s.scene.tiling.height = c.height ∙ sym s.scene.same_height.1 in
      rw (across, along, c.side) refl

  same_pixels : s.scene.phase.width * s.scene.phase.height ≡ pixels
  same_pixels = rw (c.width, c.height) refl

  covered : 2 * tiles_in v ≤ v.height * v.width + 1
  covered = let some = some_pixels v.width v.height is.sized in few_tiles v.width v.height v.side some.0 some.1 is.sides.0

  block : (r : ℕ) (k : SurfaceOf) → IsCertifiedAt s (history_of v) r (Some k) → IsSurfaceInRange v.width v.height (tiles_in v) k → length (surface_block_text v.width v.height (tiles_in v) k) ≤ most
  block r k found range =
      let raster = raster_of s.scene in
      let size = size_parts v.width v.height is.sized in
      let some = some_pixels v.width v.height is.sized in
      let cells : count_below (tiles_in v) (λ t. length (k.faces t)) ≡ count_below (tiles_in v) (cell_count raster) = count_below-same (tiles_in v) (λ t. length (k.faces t)) (cell_count raster) (λ t l. (found.1.tiles t (omega (arith, l, same_tiles))).0) in
      let few : 21 * count_below (tiles_in v) (cell_count raster) + 9 * seam_count raster ≤ 21 * (v.width * v.height) = omega (arith, few_cells_and_seams raster (tiles_in v), same_pixels) in
      let short = block_short v.width v.height (tiles_in v) k size.0 size.1 (omega (arith, covered, some.2)) range (λ i l. flows_small s.scene (mask_in s (history_of v) r) small found.0 k.flows found.1.seams.1 i (omega (arith, l, found.1.seams.0))) in
      omega (arith, short, cells, found.1.seams.0, sum_block v.width v.height (tiles_in v) (count_below (tiles_in v) (cell_count raster)) (seam_count raster) some.0 some.1 covered few)

  after_short : (e : Entry) (o : Option SurfaceOf) → IsCertifiedAfter s (history_of v) e o → MayBeInRange v.width v.height (tiles_in v) o → length (after_text v.width v.height (tiles_in v) o) ≤ cond (is_published e) 1 0 * most
  after_short (Published a r) None found range = absurd found
  after_short (Published a r) (Some k) found range = omega (arith, block r k found range)
  after_short (Revised a edit) o found range = rw found (omega arith)
  after_short (Kept t r) o found range = rw found (omega arith)
  after_short (Settled a r) o found range = rw found (omega arith)
  after_short (Shown a r) o found range = rw found (omega arith)

  each_short : (length (flat_map (item_text v.width v.height (tiles_in v)) v.items) ≤ 27 * count_by (λ (i : ItemOf). keeps_result i.entry) v.items + 129 * count_by (λ (i : ItemOf). ends_command i.entry) v.items + count_by (λ (i : ItemOf). is_published i.entry) v.items * most)
  each_short = items_short v.width v.height (tiles_in v) most v.items (λ n i at.
      let range = all_get (IsItemInRange v.width v.height (tiles_in v)) v.items is.items n i at in
      item_short v.width v.height (tiles_in v) most i range.entry (after_short i.entry i.surface (c.surfaces n i at) range.surface))

  in_all_short : 700 + (27 * count_by (λ (i : ItemOf). keeps_result i.entry) v.items + 129 * count_by (λ (i : ItemOf). ends_command i.entry) v.items + count_by (λ (i : ItemOf). is_published i.entry) v.items * most) + 4 ≤ 4294967296
  in_all_short =
      let H = history_of v in
      let settles = settles_in s.scripts.items in
      let changes = changes_in s.scripts.items in
      let some = some_pixels v.width v.height is.sized in
      let settled : settles * pixels ≤ 67108864 = subst (λ (n : ℕ). settles * n ≤ 67108864) same_pixels s.settles in
      let changed : changes * tiles_of s.scene.tiling ≤ 16777216 = s.changes in
      let kept : count_by keeps_result H ≤ tiles_of s.scene.tiling * (1 + changes) = omega (arith, legal_histories_keep_few s H c.legal, (let more : tiles_of s.scene.tiling * (1 + count_by is_revised H) ≤ tiles_of s.scene.tiling * (1 + changes) = mul-le-mul (let same : tiles_of s.scene.tiling ≤ tiles_of s.scene.tiling = omega arith in same) (omega (arith, few_revised s H c.legal)) in more)) in
      sum_report
      pixels
      settles
      (tiles_of s.scene.tiling)
      changes
      (count_by (λ (i : ItemOf). keeps_result i.entry) v.items)
      (count_by (λ (i : ItemOf). ends_command i.entry) v.items)
      (count_by (λ (i : ItemOf). is_published i.entry) v.items)
      some.2
      settled
      changed
      (omega (arith, covered, same_tiles))
      (omega (arith, kept, counted keeps_result v.items))
      (omega (arith, counted ends_command v.items, few_ended s H c.legal, in_all s any_command))
      (omega (arith, counted is_published v.items, few_published s H c.legal))
      (in_all s is_settle)

  short : length (report_text v) ≤ 4294967296
  unfolding report_text
  short =
      let head = head_text v in
      let items = flat_map (item_text v.width v.height (tiles_in v)) v.items in
      omega (arith, length-append head (items ++ codes "end\n"), length-append items (codes "end\n"), head_short v is, each_short, in_all_short)

pub certified_reports_are_short : CertifiedReportsAreShort
certified_reports_are_short s v small is c = short s v small is c

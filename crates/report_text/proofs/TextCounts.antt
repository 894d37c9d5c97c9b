-- How long the parts of a report's text can be.
use Rattle.std.proofs.Common.{◌≡◌, ℕ, zero, suc, ◌+◌, ◌*◌, ◌≤◌, ◌<◌, ℤ, pos, negsuc, List, [], ◌∷◌, ◌++◌, Some, length, flat_map, refl, ap, inl, inr, arith}
use Rattle.std.specs.Prelude.{◌==◌, codes, cond, count_by, slice_get, slice_index_or, unsigned_abs}
use Rattle.std.proofs.lemmas.Bool.{cases_Bool}
use Rattle.std.proofs.lemmas.Fmt.{length_signed_le}
use Rattle.std.proofs.lemmas.List.{length-append}
use Rattle.std.proofs.lemmas.List.Sums.{sum_by-cons}
use Rattle.text_lines.specs.Numbers.{AreLongs, number_text, numbers_text}
use Rattle.text_lines.specs.Parsing.{IsWord}
use Rattle.text_lines.specs.Text.{field_text, texts_below}
use Rattle.text_parts.specs.Text.{ended_line, line_end, ramp_line, rule_line, size_line, steep_line}
use Rattle.text_parts.proofs.LengthLemmas.{ended_short, grid_short, numbers_short}
use Rattle.text_parts.proofs.LineLemmas.{field_fits, pair_fits, ramp_fits, rule_fits, size_fits, steep_fits}
use Rattle.grid_writer.specs.Grid.{grid_text}
use Rattle.tile_board.specs.declared.entry.Entry.{Entry}
use Rattle.tile_board.specs.declared.entry.Entry.TheVariants.{Revised, Kept, Published, Settled, Shown}
use Rattle.sums_and_lists.specs.Sums.{count_below}
use Rattle.report_text.specs.Contents.{IsEntryOfWords, IsReport, IsSurfaceInRange}
use Rattle.report_text.specs.Length.{keeps_result}
use Rattle.report_text.specs.Reports.{ItemOf, ReportOf, SurfaceOf, is_published}
use Rattle.report_text.specs.Text.{after_text, all_faces_text, costs_line, entry_text, faces_text, flows_line, head_text, item_text, surface_block_text, terms_text, tile_line, version_line}
use Rattle.report_text.proofs.EntryCounts.{ends_command}
use Rattle.report_text.proofs.LineLemmas.{costs_fit, history_fits, version_fits}

-- a flow that certifies has at most 7 digits, and so 9 characters with its sign and the space before it
abbrev IsFlow : ℤ → Type 0
IsFlow n = unsigned_abs n ≤ 1048560

flow_short : (n : ℤ) → IsFlow n → length (number_text n) ≤ 9
unfolding number_text
flow_short (pos n) le = omega (arith, length_signed_le 7 (pos n) (omega (arith, le)) (omega (arith, le)))
flow_short (negsuc n) le = omega (arith, length_signed_le 7 (negsuc n) (omega (arith, le)) (omega (arith, le)))

flows_short : (flows : List ℤ) → ((i : ℕ) → i < length flows → IsFlow (slice_index_or flows i (pos 0))) → length (numbers_text flows) ≤ 9 * length flows
flows_short [] small = omega arith
flows_short (n ∷ flows) small =
    omega (arith, length-append (number_text n) (numbers_text flows), flow_short n (small 0 (omega arith)), flows_short flows (λ i l. small (suc i) (omega (arith, l))))

-- texts with so many bytes besides their numbers, one after the other
texts_counted : (n most : ℕ) (f : ℕ → List ℕ) (count : ℕ → ℕ) → ((k : ℕ) → k < n → length (f k) ≤ most + 21 * count k) → length (texts_below n f) ≤ n * most + 21 * count_below n count
unfolding texts_below count_below
texts_counted zero most f count short = omega arith
texts_counted (suc n) most f count short =
    let before = texts_counted n most f count (λ k l. short k (omega (arith, l))) in
    omega (arith, length-append (texts_below n f) (f n), before, short n (omega arith))

-- the faces of a tile, and of all
tile_faces_short : (faces : ℕ → List ℤ) (t : ℕ) → IsWord t → AreLongs (faces t) → length (faces_text faces t) ≤ 17 + 21 * length (faces t)
tile_faces_short faces t word longs =
    let front = codes "faces" ++ field_text t in
    let numbers = numbers_text (faces t) in
    omega (arith, length-append (front ++ numbers) line_end, length-append front numbers, length-append (codes "faces") (field_text t), (field_fits t word).short, numbers_short (faces t) longs)

faces_short : (tiles : ℕ) (faces : ℕ → List ℤ) → tiles ≤ 4294967296 → ((t : ℕ) → t < tiles → AreLongs (faces t)) → length (all_faces_text tiles faces) ≤ tiles * 17 + 21 * count_below tiles (λ t. length (faces t))
faces_short tiles faces few longs = texts_counted tiles 17 (faces_text faces) (λ t. length (faces t)) (λ t l. tile_faces_short faces t (omega (arith, l, few)) (longs t l))

-- a surface, by its tiles, its faces and its flows
pub block_short : (width height tiles : ℕ) (k : SurfaceOf) → width ≤ 4096 → height ≤ 4096 → tiles ≤ 4294967296 → IsSurfaceInRange width height tiles k → ((i : ℕ) → i < length k.flows → IsFlow (slice_index_or k.flows i (pos 0))) →
    length (surface_block_text width height tiles k) ≤ 264 + height * (21 * width + 1) + tiles * 17 + 21 * count_below tiles (λ t. length (k.faces t)) + 9 * length k.flows
unfolding surface_block_text
block_short width height tiles k wide high few is small =
    let costs = ended_line costs_line (k.tile_cost, k.seam_cost) in
    let grid = grid_text width height k.values in
    let faces = all_faces_text tiles k.faces in
    let flows = ended_line flows_line k.flows in
    omega (
      arith,
      length-append costs (grid ++ (faces ++ flows)),
      length-append grid (faces ++ flows),
      length-append faces flows,
      ended_short costs_line (k.tile_cost, k.seam_cost) 128 (costs_fit (k.tile_cost, k.seam_cost) (is.tile_cost, is.seam_cost)).short,
      grid_short width height k.values is.values wide high,
      faces_short tiles k.faces few is.faces,
      ended_short flows_line k.flows (5 + 9 * length k.flows) (omega (arith, length-append (codes "flows") (numbers_text k.flows), flows_short k.flows small)),
    )

-- ---- an entry and what stands after it
abbrev cost_of : ℕ → Entry → ℕ
cost_of most e = 27 * cond (keeps_result e) 1 0 + 129 * cond (ends_command e) 1 0 + cond (is_published e) 1 0 * most

kept_short : (t r : ℕ) → IsWord t → IsWord r → length (entry_text (Kept t r)) ≤ 26
kept_short t r p q = omega (arith, length-append (codes "kept") (field_text t ++ field_text r), (pair_fits t r p q).short)

entry_short : (most : ℕ) (e : Entry) (after : ℕ) → IsEntryOfWords e → after ≤ cond (is_published e) 1 0 * most → length (entry_text e) + 1 + after ≤ cost_of most e
entry_short most (Kept t r) after words le = omega (arith, le, kept_short t r words.0 words.1)
entry_short most (Revised a c) after words le = omega (arith, le, (history_fits (Some (Revised a c)) words).short)
entry_short most (Published a r) after words le = omega (arith, le, (history_fits (Some (Published a r)) words).short)
entry_short most (Settled a r) after words le = omega (arith, le, (history_fits (Some (Settled a r)) words).short)
entry_short most (Shown a r) after words le = omega (arith, le, (history_fits (Some (Shown a r)) words).short)

module _ (width height tiles most : ℕ) where
  pub item_short : (i : ItemOf) → IsEntryOfWords i.entry → length (after_text width height tiles i.surface) ≤ cond (is_published i.entry) 1 0 * most → length (item_text width height tiles i) ≤ cost_of most i.entry
  unfolding item_text
  item_short i words le =
      let after = after_text width height tiles i.surface in
      omega (arith, length-append (entry_text i.entry) (line_end ++ after), length-append line_end after, entry_short most i.entry (length after) words le)

  pub items_short : (items : List ItemOf) → ((n : ℕ) (i : ItemOf) → slice_get items n ≡ Some i → length (item_text width height tiles i) ≤ cost_of most i.entry) →
      (length (flat_map (item_text width height tiles) items) ≤ 27 * count_by (λ i. keeps_result i.entry) items + 129 * count_by (λ i. ends_command i.entry) items + count_by (λ i. is_published i.entry) items * most)
  items_short [] short = omega arith
  items_short (i ∷ items) short =
      omega (
        arith,
        length-append (item_text width height tiles i) (flat_map (item_text width height tiles) items),
        short 0 i refl,
        items_short items (λ n j at. short (suc n) j at),
        sum_by-cons (λ (j : ItemOf). cond (keeps_result j.entry) 1 0) i items,
        sum_by-cons (λ (j : ItemOf). cond (ends_command j.entry) 1 0) i items,
        ap (λ (n : ℕ). n * most) (sum_by-cons (λ (j : ItemOf). cond (is_published j.entry) 1 0) i items),
      )

-- ---- the head
terms_short : (v : ReportOf) → IsReport v → length (terms_text v.version v.terms) ≤ 258
terms_short v is = elim (cases_Bool (v.version == 1)) [
  | inl one ↦ rw one (omega arith)
  | inr other ↦ rw other (
      let ramp = ended_line ramp_line (v.terms.ramp_x, v.terms.ramp_y) in
      let steep = ended_line steep_line v.terms.steep in
      omega (
        arith,
        length-append ramp steep,
        ended_short ramp_line (v.terms.ramp_x, v.terms.ramp_y) 128 (ramp_fits (v.terms.ramp_x, v.terms.ramp_y) (is.terms.across, is.terms.along)).short,
        ended_short steep_line v.terms.steep 128 (steep_fits v.terms.steep is.terms.steepness).short,
      ))
]

pub head_short : (v : ReportOf) → IsReport v → length (head_text v) ≤ 700
head_short v is =
    let version = ended_line version_line v.version in
    let size = ended_line size_line (v.width, v.height) in
    let tile = ended_line tile_line v.side in
    let rule = ended_line rule_line v.rule in
    let terms = terms_text v.version v.terms in
    let side = (field_fits v.side (let s = is.sides.1 in omega (arith, s))).short in
    omega (
      arith,
      length-append version (size ++ (tile ++ (rule ++ terms))),
      length-append size (tile ++ (rule ++ terms)),
      length-append tile (rule ++ terms),
      length-append rule terms,
      ended_short version_line v.version 128 (version_fits v.version is.versioned).short,
      ended_short size_line (v.width, v.height) 128 (size_fits (v.width, v.height) is.sized).short,
      ended_short tile_line v.side 15 (omega (arith, length-append (codes "tile") (field_text v.side), side)),
      ended_short rule_line v.rule 128 (rule_fits v.rule).short,
      terms_short v is,
    )

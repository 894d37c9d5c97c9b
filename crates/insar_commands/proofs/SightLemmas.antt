-- A grid and its displacements.
use Rattle.std.proofs.Common.{◌≡◌, ◌≢◌, ℕ, ◌*◌, ◌+◌, ◌<◌, ◌∙◌, ℤ, pos, ◌-ℤ◌, ◌*ℤ◌, Bool, true, false, List, [], ◌∷◌, Option, Some, length, sym, ap, subst, refl, arith}
use Rattle.std.specs.Prelude.{IfSome, IsTrue, ◌&&◌, nat_lt, slice_index_or}
use Rattle.insar_ports.proofs.CallLemmas.{at_told, if_told}
use Rattle.sums_and_lists.specs.Sums.{count_below, one_if, where_true}
use Rattle.sums_and_lists.proofs.Tests.{and_first, and_second, true_and_false}
use Rattle.sums_and_lists.proofs.Orders.{is_lt}
use Rattle.raster_model.specs.Sums.{is_pixel, sum_grid}
use Rattle.grid_writer.specs.declared.values.Grid.{Grid}
use Rattle.grid_writer.specs.Grids.{GridOf, IsGrid, IsSameGrid, grid_of, text_of_grid}
use Rattle.grid_writer.specs.ManyGrids.{AreGrids, grids_of}
use Rattle.grid_writer.specs.Values.{is_value}
use Rattle.displacement.specs.declared.fault.SightFault.{SightFault}
use Rattle.displacement.specs.declared.fault.SightFault.TheVariants as faults
use Rattle.displacement.specs.declared.sight.Sight.{Sight}
use Rattle.displacement.specs.Blocks.{block_count, block_sum, blocks_of, has_value}
use Rattle.displacement.specs.Displacements.{HasCause, IsDisplacement, IsTooWide, IsWideBlock, block_rise}
use Rattle.displacement.proofs.DisplacingLemmas.{not_wide}
use Rattle.insar_words.specs.declared.displacing.Displacing.{Displacing}
use Rattle.insar_words.specs.declared.request.Request.TheVariants.{Displacement}
use Rattle.answer_lines.specs.declared.refusal.Refusal.{Refusal}
use Rattle.answer_lines.specs.declared.refusal.Refusal.TheVariants as refusals
use Rattle.insar_commands.specs.Answers.{IsAnswerTo, IsUsedUp}
use Rattle.insar_commands.specs.Causes.{HasReadCause}
use Rattle.insar_commands.specs.Displacement.{BreaksSight, HasDisplacements, IsOneGrid, IsSightInput, sight_of}
use Rattle.insar_commands.specs.Grids.{AreGridsIn, BreaksMany}
use Rattle.answer_lines.specs.Refusals.{sight_refusal}
use Rattle.insar_commands.specs.Run.{ReadsAll, Run}
use Rattle.insar_commands.proofs.GridsLemmas.{no_grids, same_grids}

-- the grid was not read
pub sight_unread : (s : Sight) (told : Option (List ℕ)) (before after : ℕ) (refusal : Refusal) → HasReadCause (BreaksMany 1) told before after refusal → HasReadCause (BreaksSight s) told before after refusal
sight_unread s told before after refusals.Reference h = if_told told _ (λ bytes t. absurd (at_told told _ bytes t h))
sight_unread s told before after (refusals.Wide x y) h = if_told told _ (λ bytes t. absurd (at_told told _ bytes t h))
sight_unread s told before after refusal h = h

-- the one grid that a list has
pub one_is : (seen items : List Grid) → seen ≡ items → (g : Grid) → g ≡ slice_index_or seen 0 g → (width : ℕ) × (height : ℕ) × AreGrids 1 width height (grids_of items) → grids_of items ≡ grid_of g ∷ []
one_is seen items same g first are = ap grids_of (this items are.2.count (subst (λ (l : List Grid). g ≡ slice_index_or l 0 g) same first))
  where
    this : (l : List Grid) → length (grids_of l) ≡ 1 → g ≡ slice_index_or l 0 g → l ≡ g ∷ []
    this [] n p = absurd (omega (arith, n))
    this (x ∷ []) n p = λ i. sym p i ∷ []
    this (x ∷ y ∷ l) n p = absurd (omega (arith, n))

-- the grid was read
module _ (s : Sight) (told left : Option (List ℕ)) (grids : List GridOf) (g : GridOf) (are : grids ≡ g ∷ []) (read : ReadsAll told left (λ bytes. AreGridsIn 1 bytes grids)) where
  one_at : (bytes : List ℕ) → told ≡ Some bytes → IsOneGrid bytes g × (left ≡ Some [])
  one_at bytes t = let h = at_told told _ bytes t read in (subst (AreGridsIn 1 bytes) are h.0, h.1)

  pub sight_cause : (before after : ℕ) (fault : SightFault) → HasCause s g fault → HasReadCause (BreaksSight s) told before after (sight_refusal fault)
  sight_cause before after faults.Reference h = if_told told _ (λ bytes t. (g, ((one_at bytes t).0, h)))
  sight_cause before after (faults.Wide x y) h = if_told told _ (λ bytes t. (g, ((one_at bytes t).0, h)))
  sight_cause before after faults.Memory h = tt

  pub sight_read : (output : GridOf) → IsDisplacement s g output → ReadsAll told left (λ bytes. HasDisplacements s bytes output)
  sight_read output displaced = if_told told _ (λ bytes t. let h = one_at bytes t in ((g, (h.0, displaced)), h.1))

-- and its displacements answer
pub sight_ready : (d : Displacing) (r : Run) (output : GridOf) → IsGrid output → ReadsAll r.told r.left (λ bytes. HasDisplacements (sight_of d) bytes output)
    → IfSome r.told (λ bytes. IsAnswerTo (Displacement d) bytes 0 (text_of_grid output) × IsUsedUp (Displacement d) r)
sight_ready d r output ranges read = if_told r.told _ (λ bytes t. let h = at_told r.told _ bytes t read in ((refl, record { output = output; displaced = h.0; in_range = ranges; written = refl }), h.1))

-- what was answered was read
pub sight_input : (s : Sight) (bytes : List ℕ) (output : GridOf) → HasDisplacements s bytes output → IsSightInput s bytes
sight_input s bytes output (g, (one, d)) = record {
  g = g;
  one = one;
  reference = d.reference;
  narrow = λ i j across along. not_wide s g i j (output.values i j) (d.blocks i j (subst (λ (n : ℕ). i < n) (sym d.width) across) (subst (λ (n : ℕ). j < n) (sym d.height) along));
}

-- ---- grids that are equal on the raster have the same blocks

module _ (g h : GridOf) (same : IsSameGrid g h) where
  same_pixel : (x y : ℕ) → is_pixel g.width g.height x y ≡ is_pixel h.width h.height x y
  same_pixel x y = λ i. is_pixel (same.width i) (same.height i) x y

  -- what a value says where its pixel is on the raster
  same_value : {X : Type 0} (f : Bool → ℤ → X) (none : (z y : ℤ) → f false z ≡ f false y) (x y : ℕ) (on : Bool) → is_pixel g.width g.height x y ≡ on → f (is_pixel g.width g.height x y) (g.values x y) ≡ f (is_pixel h.width h.height x y) (h.values x y)
  same_value f none x y true e =
      let across = is_lt x g.width (and_first (nat_lt x g.width) (nat_lt y g.height) e) in
      let along = is_lt y g.height (and_second (nat_lt x g.width) (nat_lt y g.height) e) in
      let value = same.values x y across along in
      λ i. f (same_pixel x y i) (value i)
  same_value f none x y false e = ap (λ (t : Bool). f t (g.values x y)) e ∙ none (g.values x y) (h.values x y) ∙ ap (λ (t : Bool). f t (h.values x y)) (sym e ∙ same_pixel x y)

  same_has : (x y : ℕ) → has_value g x y ≡ has_value h x y
  same_has x y = same_value (λ t z. t && is_value z) (λ z y. refl) x y (is_pixel g.width g.height x y) refl

  same_adds : (x y : ℕ) → where_true (has_value g x y) (g.values x y) ≡ where_true (has_value h x y) (h.values x y)
  same_adds x y = same_value (λ t z. where_true (t && is_value z) z) (λ z y. refl) x y (is_pixel g.width g.height x y) refl

  same_count : (b k l : ℕ) → block_count g b k l ≡ block_count h b k l
  unfolding block_count
  same_count b k l = λ i. count_below b (λ v. count_below b (λ u. one_if (same_has (b * k + u) (b * l + v) i)))

  same_sum : (b k l : ℕ) → block_sum g b k l ≡ block_sum h b k l
  unfolding block_sum
  same_sum b k l = λ i. sum_grid b b (λ u v. same_adds (b * k + u) (b * l + v) i)

  -- a value is there in both, and so it is one value
  same_there : (x y : ℕ) → IsTrue (has_value g x y) → g.values x y ≡ h.values x y
  same_there x y has =
      let on = and_first (is_pixel g.width g.height x y) (is_value (g.values x y)) has in
      same.values x y (is_lt x g.width (and_first (nat_lt x g.width) (nat_lt y g.height) on)) (is_lt y g.height (and_second (nat_lt x g.width) (nat_lt y g.height) on))

  same_wide : (s : Sight) → IsTrue (has_value g s.x s.y) → (k l : ℕ) → IsWideBlock s h k l → IsWideBlock s g k l
  same_wide s has k l wide =
      let counts = same_count s.block k l in
      let rises : block_rise s g k l ≡ block_rise s h k l = λ i. same_sum s.block k l i -ℤ pos (counts i) *ℤ same_there s.x s.y has i in
      record {
        some = subst (λ (n : ℕ). 0 < n) (sym counts) wide.some;
        wide = subst (λ (n : ℕ). IsTooWide s.wavelength n (block_rise s g k l)) (sym counts) (subst (λ (z : ℤ). IsTooWide s.wavelength (block_count h s.block k l) z) (sym rises) wide.wide);
      }

-- bytes that have a break are not such a grid
module _ (s : Sight) (bytes : List ℕ) (input : IsSightInput s bytes) where
  has_cause : (fault : SightFault) (h : GridOf) → IsOneGrid bytes h → HasCause s h fault → fault ≢ faults.Memory → ⊥
  has_cause faults.Reference h one none k = true_and_false (has_value input.g s.x s.y) input.reference (same_has input.g h (same_grids 1 bytes (input.g ∷ []) (h ∷ []) input.one one).0 s.x s.y ∙ none)
  has_cause (faults.Wide x y) h one cause k =
      let same = (same_grids 1 bytes (input.g ∷ []) (h ∷ []) input.one one).0 in
      let first = cause.1 in
      input.narrow x y (subst (λ (n : ℕ). x < blocks_of s.block n) (sym same.width) first.across) (subst (λ (n : ℕ). y < blocks_of s.block n) (sym same.height) first.along) (same_wide input.g h same s input.reference x y first.here)
  has_cause faults.Memory h one cause k = k refl

  pub no_sight : (refusal : Refusal) → BreaksSight s bytes refusal → ⊥
  no_sight refusals.Reference (h, (one, cause)) = has_cause faults.Reference h one cause (λ e. absurd (cc))
  no_sight (refusals.Wide x y) (h, (one, cause)) = has_cause (faults.Wide x y) h one cause (λ e. absurd (cc))
  no_sight refusal h = no_grids 1 bytes (input.g ∷ []) refusal input.one h

-- Three grids and their loop.
use Rattle.std.proofs.Common.{◌≡◌, ℕ, ◌<◌, ◌∙◌, ℤ, List, [], ◌∷◌, Option, Some, length, sym, ap, subst, refl, arith}
use Rattle.std.specs.Prelude.{All, IfSome, slice_index_or}
use Rattle.insar_ports.proofs.CallLemmas.{at_told, if_told}
use Rattle.std.proofs.lemmas.List.Elements.{All-head, All-tail}
use Rattle.grid_writer.specs.declared.values.Grid.{Grid}
use Rattle.grid_writer.specs.Grids.{GridOf, IsSameGrid, grid_of}
use Rattle.grid_writer.specs.ManyGrids.{AreGrids, HasSize, grids_of}
use Rattle.loop_closure.specs.declared.fault.LoopFault.{LoopFault}
use Rattle.loop_closure.specs.declared.fault.LoopFault.TheVariants.{Wide, Memory}
use Rattle.loop_closure.specs.declared.loops.Loops.{Loops}
use Rattle.loop_closure.specs.Closure.{IsWideAt, IsWideLoop}
use Rattle.loop_closure.specs.LoopText.{loops_text}
use Rattle.loop_closure.specs.Parts.{HasLoopCause}
use Rattle.insar_words.specs.declared.request.Request.TheVariants.{Closure}
use Rattle.answer_lines.specs.declared.refusal.Refusal.{Refusal}
use Rattle.answer_lines.specs.declared.refusal.Refusal.TheVariants as refusals
use Rattle.insar_commands.specs.Answers.{IsAnswerTo, IsUsedUp}
use Rattle.insar_commands.specs.Causes.{HasReadCause}
use Rattle.insar_commands.specs.Closure.{AreLoops, AreLoopsOf, AreThree, BreaksLoop, IsLoopInput}
use Rattle.insar_commands.specs.Grids.{AreGridsIn, BreaksMany}
use Rattle.answer_lines.specs.Refusals.{loop_refusal}
use Rattle.insar_commands.specs.Run.{ReadsAll, Run}
use Rattle.insar_commands.proofs.GridsLemmas.{no_grids, same_grids}

-- the grids were not read
pub loop_unread : (told : Option (List ℕ)) (before after : ℕ) (refusal : Refusal) → HasReadCause (BreaksMany 3) told before after refusal → HasReadCause BreaksLoop told before after refusal
loop_unread told before after (refusals.Wide x y) h = if_told told _ (λ bytes t. absurd (at_told told _ bytes t h))
loop_unread told before after refusal h = h

-- three grids that a list has
module _ (seen items : List Grid) (same : seen ≡ items) (a b c : Grid) (first : a ≡ slice_index_or seen 0 a) (second : b ≡ slice_index_or seen 1 b) (third : c ≡ slice_index_or seen 2 c) (are : (width : ℕ) × (height : ℕ) × AreGrids 3 width height (grids_of items)) where
  these : (l : List Grid) → length (grids_of l) ≡ 3 → a ≡ slice_index_or l 0 a → b ≡ slice_index_or l 1 b → c ≡ slice_index_or l 2 c → l ≡ a ∷ b ∷ c ∷ []
  these [] n p q r = absurd (omega (arith, n))
  these (x ∷ []) n p q r = absurd (omega (arith, n))
  these (x ∷ y ∷ []) n p q r = absurd (omega (arith, n))
  these (x ∷ y ∷ z ∷ []) n p q r = λ i. sym p i ∷ sym q i ∷ sym r i ∷ []
  these (x ∷ y ∷ z ∷ v ∷ l) n p q r = absurd (omega (arith, n))

  pub three_are : grids_of items ≡ grid_of a ∷ grid_of b ∷ grid_of c ∷ []
  three_are = ap grids_of (these items are.2.count (subst (λ (l : List Grid). a ≡ slice_index_or l 0 a) same first) (subst (λ (l : List Grid). b ≡ slice_index_or l 1 b) same second) (subst (λ (l : List Grid). c ≡ slice_index_or l 2 c) same third))

  -- are of one size
  pub sizes_are : ((b.width ≡ a.width) × (b.height ≡ a.height)) × ((c.width ≡ a.width) × (c.height ≡ a.height))
  sizes_are =
      let P : GridOf → Type 0 = HasSize are.0 are.1 in
      let sizes : All P (grid_of a ∷ grid_of b ∷ grid_of c ∷ []) = subst (All P) three_are are.2.alike in
      let more = All-tail P (grid_of a) (grid_of b ∷ grid_of c ∷ []) sizes in
      let x = All-head P (grid_of a) (grid_of b ∷ grid_of c ∷ []) sizes in
      let y = All-head P (grid_of b) (grid_of c ∷ []) more in
      let z = All-head P (grid_of c) [] (All-tail P (grid_of b) (grid_of c ∷ []) more) in
      ((y.0 ∙ sym x.0, y.1 ∙ sym x.1), (z.0 ∙ sym x.0, z.1 ∙ sym x.1))

-- the grids were read
module _ (told left : Option (List ℕ)) (grids : List GridOf) (a b c : GridOf) (are : grids ≡ a ∷ b ∷ c ∷ []) (read : ReadsAll told left (λ bytes. AreGridsIn 3 bytes grids)) where
  three_at : (bytes : List ℕ) → told ≡ Some bytes → AreThree bytes a b c × (left ≡ Some [])
  three_at bytes t = let h = at_told told _ bytes t read in (subst (AreGridsIn 3 bytes) are h.0, h.1)

  pub loop_cause : (before after : ℕ) (fault : LoopFault) → HasLoopCause a b c fault → HasReadCause BreaksLoop told before after (loop_refusal fault)
  loop_cause before after (Wide x y) h = if_told told _ (λ bytes t. (a, b, c, ((three_at bytes t).0, h)))
  loop_cause before after Memory h = tt

  pub loop_read : (loops : Loops) → AreLoops a b c loops → ReadsAll told left (λ bytes. AreLoopsOf bytes loops)
  loop_read loops closed = if_told told _ (λ bytes t. let h = three_at bytes t in (record { a = a; b = b; c = c; three = h.0; closed = closed }, h.1))

-- and their loop answers
pub loop_ready : (r : Run) (loops : Loops) → ReadsAll r.told r.left (λ bytes. AreLoopsOf bytes loops) → IfSome r.told (λ bytes. IsAnswerTo Closure bytes 0 (loops_text loops) × IsUsedUp Closure r)
loop_ready r loops read = if_told r.told _ (λ bytes t. let h = at_told r.told _ bytes t read in ((refl, (loops, (h.0, refl))), h.1))

-- what was answered was read
pub loop_input : (bytes : List ℕ) (loops : Loops) → AreLoopsOf bytes loops → IsLoopInput bytes
loop_input bytes loops l = record { a = l.a; b = l.b; c = l.c; three = l.three; narrow = l.closed.closures.narrow }

-- a pixel whose closure is too wide in one reading of the bytes has such a closure in any other
wide_value : (a b c d e f : ℤ) → a ≡ d → b ≡ e → c ≡ f → IsWideLoop a b c → IsWideLoop d e f
wide_value a b c d e f p q r w = subst (λ (z : ℤ). IsWideLoop d e z) r (subst (λ (z : ℤ). IsWideLoop d z c) q (subst (λ (z : ℤ). IsWideLoop z b c) p w))

on_raster : (g h : GridOf) (x y : ℕ) → IsSameGrid g h → x < g.width → y < g.height → (x < h.width) × (y < h.height)
on_raster g h x y same l m = (subst (λ (n : ℕ). x < n) same.width l, subst (λ (n : ℕ). y < n) same.height m)

of_size : (g h : GridOf) (x y w k : ℕ) → HasSize w k g → HasSize w k h → x < g.width → y < g.height → (x < h.width) × (y < h.height)
of_size g h x y w k one other l m = (subst (λ (n : ℕ). x < n) (one.0 ∙ sym other.0) l, subst (λ (n : ℕ). y < n) (one.1 ∙ sym other.1) m)

same_wide : (bytes : List ℕ) (a b c d e f : GridOf) (x y : ℕ) → AreThree bytes a b c → AreThree bytes d e f → IsWideAt a b c x y → IsWideAt d e f x y
same_wide bytes a b c d e f x y p q w =
    let same = same_grids 3 bytes (a ∷ b ∷ c ∷ []) (d ∷ e ∷ f ∷ []) p q in
    let size = p.are.alike in
    let first = All-head (HasSize p.width p.height) a (b ∷ c ∷ []) size in
    let more = All-tail (HasSize p.width p.height) a (b ∷ c ∷ []) size in
    let second = of_size a b x y p.width p.height first (All-head (HasSize p.width p.height) b (c ∷ []) more) w.0 w.1 in
    let third = of_size a c x y p.width p.height first (All-head (HasSize p.width p.height) c [] (All-tail (HasSize p.width p.height) b (c ∷ []) more)) w.0 w.1 in
    let on = on_raster a d x y same.0 w.0 w.1 in
    (on.0, on.1, wide_value (a.values x y) (b.values x y) (c.values x y) (d.values x y) (e.values x y) (f.values x y) (same.0.values x y w.0 w.1) (same.1.0.values x y second.0 second.1) (same.1.1.0.values x y third.0 third.1) w.2)

pub no_loop : (bytes : List ℕ) (refusal : Refusal) → BreaksLoop bytes refusal → IsLoopInput bytes → ⊥
no_loop bytes (refusals.Wide x y) (a, b, c, (three, first)) input = input.narrow x y (same_wide bytes a b c input.a input.b input.c x y three input.three first.0)
no_loop bytes refusal h input = no_grids 3 bytes (input.a ∷ input.b ∷ input.c ∷ []) refusal input.three h

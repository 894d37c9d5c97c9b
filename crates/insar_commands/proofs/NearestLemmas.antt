-- A session and then a grid, and the surface of the session's phase that is nearest to the grid.
use Rattle.std.proofs.Common.{◌≡◌, ℕ, ◌+◌, ◌-◌, ◌*◌, ◌<◌, ◌≤◌, ◌∙◌, List, [], ◌∷◌, ◌++◌, length, length-append, Option, Some, refl, sym, ap, subst, arith}
use Rattle.std.specs.Prelude.{IfSome, IsTrue, ℤ, slice_index}
use Rattle.insar_ports.specs.Bytes.{with_front}
use Rattle.insar_ports.specs.Calls.{Call, Takes}
use Rattle.insar_ports.proofs.CallLemmas.{at_told, if_told, risen_before}
use Rattle.grid_writer.specs.declared.fault.GridsFault.{GridsFault}
use Rattle.grid_writer.specs.declared.fault.GridsFault.TheVariants as grids_faults
use Rattle.grid_writer.specs.declared.values.Grid.{Grid}
use Rattle.grid_writer.specs.Grids.{GridOf, IsGrid, IsSameGrid, grid_of, text_of_grid}
use Rattle.grid_writer.specs.ManyGrids.{AreGrids, HasGridsCause, HasSize, grids_of, text_of_grids}
use Rattle.nearest_surface.specs.declared.fault.NearestFault.{NearestFault}
use Rattle.nearest_surface.specs.declared.fault.NearestFault.TheVariants as faults
use Rattle.nearest_surface.specs.Nearest.{HasCause, IsComplete, IsMissing, IsNearestSurface, IsTooWide, IsWide, MaskedPhase}
use Rattle.nearest_surface.proofs.ValueLemmas.{not_wide}
use Rattle.pgm_planes.specs.Planes.{PlaneOf}
use Rattle.session_script.specs.declared.session_use.SessionUse.TheVariants.{BeforeReport}
use Rattle.session_script.specs.Reaching.{Reaches}
use Rattle.session_script.specs.declared.fault.SessionFault.{SessionFault}
use Rattle.session_script.specs.Causes.{HasSessionCause}
use Rattle.session_script.specs.Layouts.{in_tiles}
use Rattle.session_script.specs.Sessions.{HasFault, IsSameSession, IsSessionIn, SessionOf}
use Rattle.session_script.proofs.AskSession.{no_fault_of_session}
use Rattle.session_script.proofs.SessionAgain.{one_session}
use Rattle.insar_words.specs.declared.request.Request.TheVariants.{Nearest}
use Rattle.answer_lines.specs.declared.refusal.Refusal.{Refusal}
use Rattle.answer_lines.specs.declared.refusal.Refusal.TheVariants as refusals
use Rattle.answer_lines.specs.Refusals.{grids_refusal, nearest_refusal, session_refusal}
use Rattle.insar_commands.specs.Answers.{IsAnswerTo, IsUsedUp}
use Rattle.insar_commands.specs.Both.{AfterSession}
use Rattle.insar_commands.specs.Causes.{HasReadCause}
use Rattle.insar_commands.specs.Grids.{AreGridsIn, BreaksManyAt, max_grids_bytes}
use Rattle.insar_commands.specs.Nearest.{AreSessionAndGrid, BreaksNearest, HasNearest, HasNearestFault, IsNearestInput, nearest_side, phase_told}
use Rattle.insar_commands.specs.Run.{ReadsAll, Run}
use Rattle.insar_commands.proofs.GridsLemmas.{cause_at, no_grids_at, read_at, same_grids}
use Rattle.insar_commands.proofs.SessionLemmas.{reaches_after, session_cause}

-- ---- the grid after a session

-- where the bytes are told, the session was read from their front, and then the call c began
abbrev pub IsReadBefore : Option (List ℕ) → ℕ → Call → SessionOf → Type 0
IsReadBefore told at c s = IfSome told (λ bytes. (rest : List ℕ) × ((c.told ≡ Some rest) × ((c.at + length rest ≡ at + length bytes) × IsSessionIn BeforeReport nearest_side bytes s rest)))

module _ (s : SessionOf) (told : Option (List ℕ)) (at : ℕ) (start : at ≡ 0) (c : Call) (room : c.limit ≡ c.at + max_grids_bytes) (first : IsReadBefore told at c s) where
  -- its break is one of the bytes
  after : (refusal : Refusal) → IfSome c.told (λ rest. BreaksManyAt 1 c.at rest refusal) → IfSome told (λ bytes. AfterSession nearest_side bytes (λ rest. BreaksManyAt 1 (length bytes - length rest) rest refusal))
  after refusal h = if_told told _ (λ bytes t.
      let f = at_told told _ bytes t first in
      let place = f.1.1.0 in
      let at_is : c.at ≡ length bytes - length f.0 = omega (arith, place, start) in
      (s, f.0, (f.1.1.1, subst (λ (n : ℕ). BreaksManyAt 1 n f.0 refusal) at_is (at_told c.told _ f.0 f.1.0 h))))

  -- one grid cannot differ from the first
  alone : (grid : ℕ) → IfSome c.told (λ rest. BreaksManyAt 1 c.at rest (refusals.GridSizes grid)) → IfSome told (λ bytes. BreaksNearest bytes (refusals.GridSizes grid))
  alone grid h = if_told told _ (λ bytes t.
      let f = at_told told _ bytes t first in
      let u = at_told c.told _ f.0 f.1.0 h in
      let one = u.1.0.0 in
      let some = u.1.1.0 in
      absurd (omega (arith, one, some)))

  pub grid_cause : (before : ℕ) → before ≤ c.before → (fault : GridsFault) → HasGridsCause 1 c fault → HasReadCause BreaksNearest told before c.after (grids_refusal fault)
  grid_cause before grows (grids_faults.Line grid line) h = after (refusals.GridLine grid line) (cause_at 1 c room (grids_faults.Line grid line) h)
  grid_cause before grows (grids_faults.Long grid) h = after (refusals.GridLong grid) (cause_at 1 c room (grids_faults.Long grid) h)
  grid_cause before grows (grids_faults.Sizes grid) h = alone grid (cause_at 1 c room (grids_faults.Sizes grid) h)
  grid_cause before grows (grids_faults.After byte) h = after (refusals.AfterGrids byte) (cause_at 1 c room (grids_faults.After byte) h)
  grid_cause before grows grids_faults.ReadFault h = risen_before before c.before c.after grows h
  grid_cause before grows grids_faults.Memory h = tt

  pub both_read : (g : GridOf) (pending : List ℕ) (source : Option (List ℕ)) → c.left ≡ with_front pending source → c.end ≤ c.limit → (width : ℕ) × (height : ℕ) × AreGrids 1 width height (g ∷ []) → Takes c (λ text rest. (text ≡ text_of_grids (g ∷ [])) × (rest ≡ [])) → ReadsAll told source (λ bytes. AreSessionAndGrid bytes s g)
  both_read g pending source is within are took = if_told told _ (λ bytes t.
      let f = at_told told _ bytes t first in
      let u = at_told c.told _ f.0 f.1.0 (read_at 1 c room pending source (g ∷ []) is within are took) in
      ((f.0, (f.1.1.1, u.0)), u.1))

-- where the session was read by a call, with tiles of the side of the command
pub read_before : (side : ℕ) → side ≡ nearest_side → (told : Option (List ℕ)) (a c : Call) → a.told ≡ told → c.told ≡ a.left → c.at ≡ a.end → (s : SessionOf) → Reaches a (λ bytes rest. IsSessionIn BeforeReport side bytes s rest) → IsReadBefore told a.at c s
read_before side is told a c e left at s reaches = subst (λ (o : Option (List ℕ)). IsReadBefore o a.at c s) e (subst (λ (n : ℕ). IfSome a.told (λ bytes. (rest : List ℕ) × ((c.told ≡ Some rest) × ((c.at + length rest ≡ a.at + length bytes) × IsSessionIn BeforeReport n bytes s rest)))) is (reaches_after a c.told c.at (λ bytes rest. IsSessionIn BeforeReport side bytes s rest) left at reaches))

-- or was not read
pub unread_before : (side : ℕ) → side ≡ nearest_side → (a : Call) (fault : SessionFault) → HasSessionCause BeforeReport side a fault → HasReadCause BreaksNearest a.told a.before a.after (session_refusal fault)
unread_before side is a fault h = session_cause BeforeReport (in_tiles side) BreaksNearest (λ bytes other f. subst (λ (n : ℕ). HasFault BeforeReport n bytes other) is f) a fault h

-- the one grid of a list is its last
pub one_grid : (items front : List Grid) (g : Grid) → length (grids_of items) ≡ 1 → items ≡ front ++ g ∷ [] → grids_of items ≡ grid_of g ∷ []
one_grid [] front g n e = absurd (omega (arith, n))
one_grid (x ∷ []) [] g n e = ap grids_of e
one_grid (x ∷ []) (y ∷ front) g n e = absurd (let m = ap length e in let k = length-append front (g ∷ []) in omega (arith, m, k))
one_grid (x ∷ y ∷ l) front g n e = absurd (omega (arith, n))

-- ---- both were read

module _ (told left : Option (List ℕ)) (s : SessionOf) (g : GridOf) (read : ReadsAll told left (λ bytes. AreSessionAndGrid bytes s g)) where
  pub nearest_cause : (before later : ℕ) (fault : NearestFault) → HasCause (phase_told s) g fault → HasReadCause BreaksNearest told before later (nearest_refusal fault)
  nearest_cause before later faults.Sizes h = if_told told _ (λ bytes t. (refl, (s, g, ((at_told told _ bytes t read).0, h))))
  nearest_cause before later (faults.Missing x y) h = if_told told _ (λ bytes t. (s, g, ((at_told told _ bytes t read).0, h)))
  nearest_cause before later (faults.Wide x y) h = if_told told _ (λ bytes t. (s, g, ((at_told told _ bytes t read).0, h)))

  pub nearest_read : (output : GridOf) → IsNearestSurface (phase_told s) g output → ReadsAll told left (λ bytes. HasNearest bytes output)
  nearest_read output nearest = if_told told _ (λ bytes t. let h = at_told told _ bytes t read in ((s, g, (h.0, nearest)), h.1))

-- and the nearest surface answers
pub nearest_ready : (r : Run) (output : GridOf) → IsGrid output → ReadsAll r.told r.left (λ bytes. HasNearest bytes output) → IfSome r.told (λ bytes. IsAnswerTo Nearest bytes 0 (text_of_grid output) × IsUsedUp Nearest r)
nearest_ready r output ranges read = if_told r.told _ (λ bytes t. let h = at_told r.told _ bytes t read in ((refl, record { output = output; nearest = h.0; in_range = ranges; written = refl }), h.1))

-- what was answered was read
pub nearest_input : (bytes : List ℕ) (output : GridOf) → HasNearest bytes output → IsNearestInput bytes
nearest_input bytes output (s, g, (both, n)) = record {
  session = s;
  given = g;
  both = both;
  alike = n.given_size;
  complete = n.complete;
  narrow = λ x y across along wide. not_wide ((phase_told s).mask x y) ((phase_told s).phase x y) (g.values x y) (output.values x y) (n.values x y across along) wide.0 wide.1;
}

-- ---- bytes that have a break are not both

-- a session and a grid that have a nearest surface have one too where they are read again
module _ (s t : SessionOf) (same : IsSameSession s t) (g h : GridOf) (equal : IsSameGrid g h) (alike : HasSize s.phase.width s.phase.height g) where
  width : t.phase.width ≡ s.phase.width
  width = ap (λ (p : PlaneOf). p.width) (sym same.phase)

  height : t.phase.height ≡ s.phase.height
  height = ap (λ (p : PlaneOf). p.height) (sym same.phase)

  sized : HasSize t.phase.width t.phase.height h
  sized = (sym equal.width ∙ alike.0 ∙ sym width, sym equal.height ∙ alike.1 ∙ sym height)

  module _ (x y : ℕ) (across : x < t.phase.width) (along : y < t.phase.height) where
    across_too : x < s.phase.width
    across_too = subst (λ (n : ℕ). x < n) width across

    along_too : y < s.phase.height
    along_too = subst (λ (n : ℕ). y < n) height along

    open_too : IsTrue ((phase_told t).mask x y) → IsTrue ((phase_told s).mask x y)
    open_too clear = same.mask.clear_at x y across along ∙ clear

    value_too : g.values x y ≡ h.values x y
    value_too = equal.values x y (subst (λ (n : ℕ). x < n) (sym alike.0) across_too) (subst (λ (n : ℕ). y < n) (sym alike.1) along_too)

    missing_too : IsMissing (phase_told t).mask h.values x y → IsMissing (phase_told s).mask g.values x y
    missing_too m = (open_too m.0, value_too ∙ m.1)

    phase_too : (phase_told t).phase x y ≡ (phase_told s).phase x y
    phase_too = ap (λ (p : PlaneOf). slice_index p.samples (y * p.width + x)) (sym same.phase)

    wide_too : IsWide (phase_told t) h.values x y → IsWide (phase_told s) g.values x y
    wide_too w = (open_too w.0, subst (λ (z : ℤ). IsTooWide ((phase_told s).phase x y) z) (sym value_too) (subst (λ (n : ℕ). IsTooWide n (h.values x y)) phase_too w.1))

  no_cause : IsComplete (phase_told s) g.values → ((x y : ℕ) → x < s.phase.width → y < s.phase.height → IsWide (phase_told s) g.values x y → ⊥) → (fault : NearestFault) → HasCause (phase_told t) h fault → ⊥
  no_cause complete narrow faults.Sizes c = c sized
  no_cause complete narrow (faults.Missing x y) c = let f = c.1 in complete x y (across_too x y f.across f.along) (along_too x y f.across f.along) (missing_too x y f.across f.along f.here)
  no_cause complete narrow (faults.Wide x y) c = let f = c.1.1 in narrow x y (across_too x y f.across f.along) (along_too x y f.across f.along) (wide_too x y f.across f.along f.here)

module _ (bytes : List ℕ) (input : IsNearestInput bytes) where
  no_nearest_fault : (fault : NearestFault) → HasNearestFault bytes fault → ⊥
  no_nearest_fault fault (t, h, (both, cause)) =
      let again = one_session BeforeReport nearest_side bytes input.session t input.both.0 both.0 input.both.1.0 both.1.0 in
      let grids = same_grids 1 input.both.0 (input.given ∷ []) (h ∷ []) input.both.1.1 (subst (λ (rest : List ℕ). AreGridsIn 1 rest (h ∷ [])) (sym again.1) both.1.1) in
      no_cause input.session t again.0 input.given h grids.0 input.alike input.complete input.narrow fault cause

  no_break : (refusal : Refusal) → AfterSession nearest_side bytes (λ rest. BreaksManyAt 1 (length bytes - length rest) rest refusal) → ⊥
  no_break refusal (t, rest, (spelled, broken)) =
      let again = one_session BeforeReport nearest_side bytes input.session t input.both.0 rest input.both.1.0 spelled in
      no_grids_at 1 (length bytes - length rest) rest (input.given ∷ []) refusal (subst (λ (rest : List ℕ). AreGridsIn 1 rest (input.given ∷ [])) again.1 input.both.1.1) broken

  pub no_nearest : (refusal : Refusal) → BreaksNearest bytes refusal → ⊥
  no_nearest (refusals.Input fault) h = no_fault_of_session BeforeReport nearest_side bytes input.session input.both.0 fault input.both.1.0 h
  no_nearest (refusals.GridSizes grid) h = no_nearest_fault faults.Sizes h.1
  no_nearest (refusals.Missing x y) h = no_nearest_fault (faults.Missing x y) h
  no_nearest (refusals.Wide x y) h = no_nearest_fault (faults.Wide x y) h
  no_nearest refusal h = no_break refusal h

-- The parser of a session gives what the relations say: bytes are one session's text, or have one first break.
use Rattle.std.proofs.Common.{◌≡◌, ℕ, ◌+◌, ◌*◌, ◌≤◌, ◌<◌, ◌⊎◌, Bool, false, not, eqb, inl, inr, List, [], length, map, refl, sym, ap, subst, ◌∙◌, arith}
use Rattle.std.proofs.lemmas.List.{length-replicate, get_or-map}
use Rattle.std.proofs.lemmas.Nat.{mul-add-lt}
use Rattle.raster_model.specs.MaskView.{MaskView}
use Rattle.raster_model.specs.Masks.{IsMaskOf, open_at}
use Rattle.pgm_planes.specs.declared.fault.InputFault.{InputFault}
use Rattle.pgm_planes.specs.declared.fault.InputFault.TheVariants.{NoEnd}
use Rattle.pgm_planes.specs.declared.fault.Role.{Role}
use Rattle.pgm_planes.specs.declared.fault.Role.TheVariants.{Phase, Weight, Mask}
use Rattle.pgm_planes.specs.Planes.{PlaneOf, Sought, sought_within}
use Rattle.session_script.specs.declared.session_use.SessionUse.{SessionUse}
use Rattle.session_script.specs.declared.session_use.SessionUse.TheVariants.{Alone}
use Rattle.session_script.specs.Layouts.{Layout, extent_of, in_tiles, most_bytes}
use Rattle.session_script.specs.Scripts.{IsScriptPart, ScriptBreak}
use Rattle.session_script.specs.Sections.{Sections}
use Rattle.session_script.specs.Sessions.{SessionOf, ones_of, HasPlaneSize, IsLaterSought, frame_laid, mask_open_in, IsSessionIn, IsSessionLaid, IsSameSession, StandsBefore, PlanesBreak, LaidBreak, PlaneAsks}
use Rattle.session_script.specs.Parsing.{Parser, parsed, chain, script_parser, ThreePlanes, three, planes_parser, session_parser}
use Rattle.session_script.proofs.ParseLemmas.{ok_is, fault_is, not_both, Means, Then, BreaksThen, AsksThen, parsed_means, chain_means, restated, asked}
use Rattle.session_script.proofs.PlanesAgain.{ThreeStand, ThreeAsk, planes_means, planes_regular}
use Rattle.session_script.proofs.ScriptAgain.{ScriptAsks, script_means, script_regular, needs_at_end}

-- the planes were parsed: the script part follows
abbrev pub behind_planes : SessionUse → Layout → ThreePlanes → Parser (ThreePlanes × Sections)
behind_planes usage layout p = chain (script_parser (frame_laid layout p.phase) usage) (λ ss. parsed (p, ss))

abbrev pub Value : Type 0
Value = ThreePlanes × Sections

-- all of a session stands, of whatever length
abbrev pub Stands : SessionUse → Layout → List ℕ → Value → List ℕ → Type 0
Stands usage layout bytes x rest = (between : List ℕ) × ThreeStand (extent_of layout) bytes x.0 between × IsScriptPart (frame_laid layout x.0.phase) usage between x.1 rest

-- it stands alone, ends before the LF of `end`, or a plane asks
abbrev pub Asks : SessionUse → Layout → List ℕ → Type 0
Asks usage layout bytes = ((usage ≡ Alone) × (x : Value) × Stands Alone layout bytes x []) ⊎ (LaidBreak usage layout 0 bytes NoEnd ⊎ PlaneAsks (extent_of layout) bytes)

module _ (usage : SessionUse) (layout : Layout) where
  -- the same, the planes and then the script part
  abbrev PartsStand : List ℕ → Value → List ℕ → Type 0
  PartsStand = Then (ThreeStand (extent_of layout)) (λ p. Then (IsScriptPart (frame_laid layout p.phase) usage) (λ ss bytes x rest. (x ≡ (p, ss)) × (rest ≡ bytes)))

  abbrev PartsBreak : ℕ → List ℕ → InputFault → Type 0
  PartsBreak = BreaksThen (ThreeStand (extent_of layout)) (PlanesBreak (extent_of layout)) (λ p. BreaksThen (IsScriptPart (frame_laid layout p.phase) usage) (ScriptBreak (frame_laid layout p.phase) usage) (λ ss at bytes e. ⊥))

  abbrev PartsAsk : List ℕ → Type 0
  PartsAsk = AsksThen (ThreeStand (extent_of layout)) (ThreeAsk (extent_of layout)) (λ p. AsksThen (IsScriptPart (frame_laid layout p.phase) usage) (ScriptAsks (frame_laid layout p.phase) usage) (λ ss bytes. ⊥))

  stand_so : (bytes : List ℕ) (x : Value) (rest : List ℕ) → PartsStand bytes x rest → Stands usage layout bytes x rest
  stand_so bytes x rest (p, mid, s, (ss, end, i, (e, r))) = rw (e, r) (mid, s, i)

  break_so : (at : ℕ) (bytes : List ℕ) (e : InputFault) → PartsBreak at bytes e → LaidBreak usage layout at bytes e
  break_so at bytes e (inl k) = inl k
  break_so at bytes e (inr (p, mid, place, is, s, inl k)) = inr (record { phase = p.phase; weights = p.weights; mask = p.mask; rest = mid; place = place; before = s; place_is = is; broken = k })
  break_so at bytes e (inr (p, mid, place, is, s, inr k)) = absurd k.5

  break_back : (at : ℕ) (bytes : List ℕ) (e : InputFault) → LaidBreak usage layout at bytes e → PartsBreak at bytes e
  break_back at bytes e (inl k) = inl k
  break_back at bytes e (inr b) = inr (three b.phase b.weights b.mask, b.rest, b.place, b.place_is, b.before, inl b.broken)

  -- the bytes end where a later plane may begin: it and those behind it are of ones
  ends_before : (role : Role) (phase : PlaneOf) (bytes : List ℕ) → StandsBefore (extent_of layout) role bytes phase [] → (p : ThreePlanes) × ThreeStand (extent_of layout) bytes p []
  ends_before Phase phase bytes s = absurd s
  ends_before Weight phase bytes s = (three phase (ones_of phase) (ones_of phase), record { behind_phase = []; behind_weights = []; first = s; second = inr (refl, refl, refl); third = inr (refl, refl, refl) })
  ends_before Mask phase bytes (w, between, i, j) = (three phase w (ones_of phase), record { behind_phase = between; behind_weights = []; first = i; second = j; third = inr (refl, refl, refl) })

  script_ask : (bytes : List ℕ) (p : ThreePlanes) (mid : List ℕ) → ThreeStand (extent_of layout) bytes p mid → ScriptAsks (frame_laid layout p.phase) usage mid → Asks usage layout bytes
  script_ask bytes p mid s (inl k) = let t = (planes_means (extent_of layout)).told 0 bytes p mid s in inr (inl (break_so 0 bytes NoEnd (inr (p, mid, t.0, t.1, s, inl (inl k)))))
  script_ask bytes p mid s (inr (alone, ss, i)) = inl (alone, (p, ss), (mid, s, subst (λ (u : SessionUse). IsScriptPart (frame_laid layout p.phase) u mid ss []) alone i))

  ask_so : (bytes : List ℕ) → PartsAsk bytes → Asks usage layout bytes
  ask_so bytes (inl (inl a)) = inr (inr (inl a))
  ask_so bytes (inl (inr (role, phase, rest, s, inl none))) = let e = ends_before role phase bytes (subst (StandsBefore (extent_of layout) role bytes phase) none s) in script_ask bytes e.0 [] e.1 (asked (script_means (frame_laid layout e.0.phase) usage) 0 [] (needs_at_end (frame_laid layout e.0.phase) usage 0))
  ask_so bytes (inl (inr (role, phase, rest, s, inr a))) = inr (inr (inr (role, phase, rest, s, a.0, a.1)))
  ask_so bytes (inr (p, mid, s, inl k)) = script_ask bytes p mid s k
  ask_so bytes (inr (p, mid, s, inr k)) = absurd k.3

  not_cut : (bytes : List ℕ) → PlanesBreak (extent_of layout) 0 bytes NoEnd → ⊥
  not_cut bytes (inl k) = let q = k.1 in cc
  not_cut bytes (inr l) = elim l.broken.1 [ inl k ↦ (let q = k.1 in cc) | inr k ↦ (let q = k.0 in cc) ]

  ask_back : (bytes : List ℕ) → Asks usage layout bytes → PartsAsk bytes
  ask_back bytes (inl (alone, x, (between, s, i))) = inr (x.0, between, s, inl (inr (alone, x.1, subst (λ (u : SessionUse). IsScriptPart (frame_laid layout x.0.phase) u between x.1 []) (sym alone) i)))
  ask_back bytes (inr (inl (inl k))) = absurd (not_cut bytes k)
  ask_back bytes (inr (inl (inr b))) = elim b.broken [ inl k ↦ inr (three b.phase b.weights b.mask, b.rest, b.before, inl (inl k)) | inr g ↦ absurd (let q = g.1.told in cc) ]
  ask_back bytes (inr (inr (inl a))) = inl (inl a)
  ask_back bytes (inr (inr (inr (role, phase, rest, s, t, a)))) = inl (inr (role, phase, rest, s, inr (t, a)))

  pub session_means : Means (Stands usage layout) (LaidBreak usage layout) (Asks usage layout) (session_parser usage layout)
  session_means = restated (session_parser usage layout)
      (chain_means (planes_parser (extent_of layout)) (behind_planes usage layout) (planes_regular (extent_of layout)).far (planes_means (extent_of layout))
      (λ p. chain_means (script_parser (frame_laid layout p.phase) usage) (λ ss. parsed (p, ss)) (script_regular (frame_laid layout p.phase) usage).far (script_means (frame_laid layout p.phase) usage) (λ ss. parsed_means (p, ss))))
      stand_so
      break_so
      ask_so
      (λ bytes x rest v. (x.0, v.0, v.1, (x.1, rest, v.2, (refl, refl))))
      break_back
      ask_back

-- ---- so one of them stands

pub one_break : (usage : SessionUse) (layout : Layout) (at : ℕ) (bytes : List ℕ) (e f : InputFault) → LaidBreak usage layout at bytes e → LaidBreak usage layout at bytes f → e ≡ f
one_break usage layout at bytes e f a b = let m = session_means usage layout in fault_is {A = Value} e f (sym (m.breaks at bytes e a) ∙ m.breaks at bytes f b)

abbrev pub value_of : (s : SessionOf) → PlaneOf → Value
value_of s mask = (three s.phase s.weights mask, s.scripts)

pub no_break_of_session : (usage : SessionUse) (layout : Layout) (at : ℕ) (bytes : List ℕ) (s : SessionOf) (rest : List ℕ) (fault : InputFault) → IsSessionLaid usage layout bytes s rest → LaidBreak usage layout at bytes fault → ⊥
no_break_of_session usage layout at bytes s rest fault i b =
    let m = session_means usage layout in
    let t = m.told at bytes (value_of s i.mask_plane) rest (i.between, i.planes, i.script) in
    not_both {A = Value} (value_of s i.mask_plane, t.0, rest) fault (sym t.2 ∙ m.breaks at bytes fault b)

same_mask : (s t : MaskView) (p q : PlaneOf) (w h : ℕ) (w' h' : ℕ) → p ≡ q → w ≡ w' → h ≡ h' → IsMaskOf s w h (mask_open_in p) → IsMaskOf t w' h' (mask_open_in q) → IsMaskOf s w' h' (open_at t)
same_mask s t p q w h w' h' e a b m n = record {
  width = m.width ∙ a;
  height = m.height ∙ b;
  clear_at = λ x y lx ly. m.clear_at x y (omega (arith, lx, a)) (omega (arith, ly, b)) ∙ ap (λ (r : PlaneOf). mask_open_in r x y) e ∙ sym (n.clear_at x y lx ly);
}

pub one_laid : (usage : SessionUse) (layout : Layout) (bytes : List ℕ) (s t : SessionOf) (rest other : List ℕ) → IsSessionLaid usage layout bytes s rest → IsSessionLaid usage layout bytes t other → IsSameSession s t × (rest ≡ other)
one_laid usage layout bytes s t rest other i j =
    let m = session_means usage layout in
    let u = m.told 0 bytes (value_of s i.mask_plane) rest (i.between, i.planes, i.script) in
    let v = m.told 0 bytes (value_of t j.mask_plane) other (j.between, j.planes, j.script) in
    let e = ok_is {A = Value} (value_of s i.mask_plane, u.0, rest) (value_of t j.mask_plane, v.0, other) (sym u.2 ∙ v.2) in
    let phase = ap (λ (x : Value × ℕ × List ℕ). x.0.0.phase) e in (
      record {
        phase = phase;
        weights = ap (λ (x : Value × ℕ × List ℕ). x.0.0.weights) e;
        mask = same_mask s.mask t.mask i.mask_plane j.mask_plane _ _ _ _ (ap (λ (x : Value × ℕ × List ℕ). x.0.0.mask) e) (ap (λ (p : PlaneOf). p.width) phase) (ap (λ (p : PlaneOf). p.height) phase) i.mask j.mask;
        scripts = ap (λ (x : Value × ℕ × List ℕ). x.0.1) e;
      },
      ap (λ (x : Value × ℕ × List ℕ). x.2) e,
    )

pub one_session : (usage : SessionUse) (side : ℕ) (bytes : List ℕ) (s t : SessionOf) (rest other : List ℕ) → IsSessionIn usage side bytes s rest → IsSessionIn usage side bytes t other → IsSameSession s t × (rest ≡ other)
one_session usage side = one_laid usage (in_tiles side)

-- ---- what stands is a session where it is short enough

abbrev clear : ℕ → Bool
clear v = not (eqb v 0)

-- a mask of a plane's samples
abbrev mask_of : PlaneOf → MaskView
mask_of p = record { width = p.width; height = p.height; unmasked = map clear p.samples }

-- a later plane has the phase plane's size, and a sample for each pixel
later_fits : (sought : Sought) (phase : PlaneOf) (bytes : List ℕ) (p : PlaneOf) (rest : List ℕ) → IsLaterSought sought phase bytes p rest → HasPlaneSize phase p × (length p.samples ≡ p.width * p.height)
later_fits sought phase bytes p rest (inl i) = (i.1, i.0.2.1.plane.count)
later_fits sought phase bytes p rest (inr n) = rw n.1 ((refl, refl), length-replicate (phase.width * phase.height) 1)

module _ (usage : SessionUse) (layout : Layout) (bytes : List ℕ) where
  abbrev pub told_by : Value → SessionOf
  told_by x = record { phase = x.0.phase; weights = x.0.weights; mask = mask_of x.0.mask; scripts = x.1 }

  pub is_session : (x : Value) (rest : List ℕ) → Stands usage layout bytes x rest → length bytes ≤ most_bytes layout + length rest → IsSessionLaid usage layout bytes (told_by x) rest
  is_session x rest (between, planes, script) short =
      let p = x.0.mask in
      let fits = later_fits (sought_within (extent_of layout) Mask) x.0.phase planes.behind_weights p between planes.third in
      let here : (a b : ℕ) → a < x.0.phase.width → b < x.0.phase.height → b * p.width + a < length p.samples = λ a b la lb. omega (arith, mul-add-lt b p.width a p.height (omega (arith, lb, fits.0.1)) (omega (arith, la, fits.0.0)), fits.1) in
      record {
        mask_plane = x.0.mask;
        between = between;
        planes = planes;
        mask = record { width = fits.0.0; height = fits.0.1; clear_at = λ a b la lb. get_or-map clear p.samples (b * p.width + a) 0 false (here a b la lb) };
        script = script;
        short = short;
      }

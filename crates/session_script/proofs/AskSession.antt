-- At which bytes a session asks for more, that bytes have one fault, and what a call that reads a session promises.
use Rattle.std.proofs.Common.{◌≡◌, ◌≢◌, ◌⊎◌, ℕ, ◌+◌, ◌≤◌, ◌<◌, Bool, true, false, inl, inr, List, [], ◌++◌, length, take, drop, Ok, Err, refl, sym, ap, ◌∙◌, arith, zero, suc, ◌-◌, ◌∷◌, sum_by, count_by, Some, Result, subst}
use Rattle.std.proofs.lemmas.Bool.{cases_lt, lt-ltb, le-ltb}
use Rattle.std.proofs.lemmas.List.{append-nil, length-append, length-drop, take-append-drop, take_all}
use Rattle.pgm_planes.specs.declared.fault.InputFault.{InputFault}
use Rattle.pgm_planes.specs.declared.fault.InputFault.TheVariants as faults
use Rattle.pgm_planes.specs.Reading.{goes_beyond}
use Rattle.session_script.specs.declared.session_use.SessionUse.{SessionUse}
use Rattle.session_script.specs.declared.session_use.SessionUse.TheVariants.{Alone, BeforeReport}
use Rattle.session_script.specs.Layouts.{Layout, extent_of, in_tiles, most_bytes}
use Rattle.session_script.specs.Parsing.{Parse, parsed, ThreePlanes, planes_parser, script_parser, session_parser, IsOutcome, Parses}
use Rattle.session_script.specs.Sections.{Sections, sections_of, frame_of_tiling}
use Rattle.session_script.specs.Sessions.{SessionOf, frame_in, frame_laid, HasFault, IsSessionIn, IsSessionLaid, LaidAsks, AreTooManyLaid, HasLaidFault, session_of, whole_session_of, mask_open_in}
use Rattle.session_script.proofs.ParseLemmas.{done, broken, wants, fault_is, not_both, further, Regular, parsed_regular, chain_regular, found, broke, asked}
use Rattle.session_script.proofs.PlanesAgain.{planes_regular}
use Rattle.session_script.proofs.ScriptAgain.{alone_ends, script_regular, report_regular}
use Rattle.sums_and_lists.proofs.Lists.{no_length}
use Rattle.session_script.proofs.SessionAgain.{Value, behind_planes, value_of, told_by, is_session, session_means, one_break, no_break_of_session, Stands, one_laid}
use Rattle.std.specs.Global.{Vec}
use Rattle.std.specs.Prelude.{IfOk, IfErr, IsErrAnd, slice_get}
use Rattle.std.proofs.lemmas.Result.{err_from_is_err_and}
use Rattle.std.specs.List.{AllByRecursion}
use Rattle.std.proofs.Math.Seq.{drop-append-add}
use Rattle.std.proofs.lemmas.List.Sums.{sum_by-cons}
use Rattle.raster_model.specs.declared.script.Command.{Command}
use Rattle.raster_model.specs.declared.script.Script.{Script}
use Rattle.raster_model.specs.declared.session.Session.{Session}
use Rattle.raster_model.specs.declared.tiling.Tiling.{Tiling}
use Rattle.raster_model.specs.declared.plane.Plane.{Plane}
use Rattle.raster_model.specs.MaskView.{MaskView}
use Rattle.raster_model.specs.Masks.{IsMaskOf, open_by}
use Rattle.insar_ports.specs.Bytes.{with_front}
use Rattle.insar_ports.specs.Calls.{Call, Moves}
use Rattle.insar_ports.proofs.CallLemmas.{if_told, at_told, some_is, some_of}
use Rattle.pgm_planes.specs.declared.fault.InputFault.TheVariants.{TooLong}
use Rattle.pgm_planes.specs.Planes.{PlaneOf, plane_of}
use Rattle.pgm_planes.proofs.CallLemmas.{told_on}
use Rattle.session_script.specs.declared.fault.SessionFault.{SessionFault}
use Rattle.session_script.specs.declared.fault.SessionFault.TheVariants.{Input, ReadFault, Memory}
use Rattle.session_script.specs.Making.{as_read, IsMadeOf, IsParsedSession}
use Rattle.session_script.specs.Outcomes.{IsLaidOutcome}
use Rattle.session_script.specs.Building.{parts_read, whole_parts_read}
use Rattle.edge_weights.specs.declared.parts.SessionParts.{SessionParts}
use Rattle.edge_weights.specs.declared.settings.SceneSettings.{SceneSettings}
use Rattle.edge_weights.specs.Sessions.{IsPutTogether}
use Rattle.edge_weights.specs.Wholes.{IsWholeOf}
use Rattle.edge_weights.specs.declared.whole.WholeParts.{WholeParts}
use Rattle.edge_weights.specs.declared.whole.WholeSession.{WholeSession}
use Rattle.raster_model.specs.declared.terms.Terms.{Terms}
use Rattle.raster_model.specs.declared.weights.RuleKind.{RuleKind}
use Rattle.session_script.specs.Reaching.{Reaches}

pub session_regular : (usage : SessionUse) (layout : Layout) → Regular 0 0 (session_parser usage layout)
session_regular usage layout =
    chain_regular 0 0 0 0 (planes_parser (extent_of layout)) (behind_planes usage layout) (omega arith) (planes_regular (extent_of layout))
    (λ p. chain_regular 0 0 0 0 (script_parser (frame_laid layout p.phase) usage) (λ ss. parsed (p, ss)) (omega arith) (script_regular (frame_laid layout p.phase) usage) (λ ss. parsed_regular 0 (p, ss)))

report_session : (layout : Layout) → Regular 1 1 (session_parser BeforeReport layout)
report_session layout =
    chain_regular 0 0 1 1 (planes_parser (extent_of layout)) (behind_planes BeforeReport layout) (omega arith) (planes_regular (extent_of layout))
    (λ p. chain_regular 1 1 0 1 (script_parser (frame_laid layout p.phase) BeforeReport) (λ ss. parsed (p, ss)) (omega arith) (report_regular (frame_laid layout p.phase)) (λ ss. parsed_regular 1 (p, ss)))

-- a session asks exactly where its parser needs a byte
module _ (usage : SessionUse) (layout : Layout) (bytes : List ℕ) where
  pub asks_forth : length bytes ≤ most_bytes layout → session_parser usage layout true 0 bytes ≡ wants → LaidAsks usage layout bytes
  asks_forth le v = elim (asked (session_means usage layout) 0 bytes v) [
    | inl (alone, x, s) ↦ inl (alone, told_by Alone layout bytes x, is_session Alone layout bytes x [] s (omega (arith, le)))
    | inr o ↦ inr o
  ]

  pub asks_back : LaidAsks usage layout bytes → session_parser usage layout true 0 bytes ≡ wants
  asks_back (inl (alone, s, i)) = (session_means usage layout).asks 0 bytes (inl (alone, value_of s i.mask_plane, (i.between, i.planes, i.script)))
  asks_back (inr o) = (session_means usage layout).asks 0 bytes (inr o)

-- ---- bytes have one fault

pub one_fault : (usage : SessionUse) (layout : Layout) (bytes : List ℕ) (e f : InputFault) → HasLaidFault usage layout bytes e → HasLaidFault usage layout bytes f → e ≡ f
one_fault usage layout bytes e f (inl a) (inl b) = a.1 ∙ sym b.1
one_fault usage layout bytes e f (inl a) (inr b) = absurd (b.0 a.0)
one_fault usage layout bytes e f (inr a) (inl b) = absurd (a.0 b.0)
one_fault usage layout bytes e f (inr a) (inr b) = one_break usage layout 0 bytes e f a.1 b.1

parted : (layout : Layout) (bytes : List ℕ) → bytes ≡ take (most_bytes layout) bytes ++ drop (most_bytes layout) bytes
parted layout bytes = sym (take-append-drop (most_bytes layout) bytes)

session_not_long : (usage : SessionUse) (layout : Layout) (bytes : List ℕ) (s : SessionOf) (rest : List ℕ) → IsSessionLaid usage layout bytes s rest → AreTooManyLaid usage layout bytes → ⊥
session_not_long Alone layout bytes s rest i t =
    let ends = alone_ends (frame_laid layout s.phase) i.between s.scripts rest i.script in
    omega (arith, t.0, i.short, ap length ends)
session_not_long BeforeReport layout bytes s rest i t =
    let told = (session_means BeforeReport layout).told 0 bytes (value_of s i.mask_plane) rest (i.between, i.planes, i.script) in
    let less = (report_session layout).needs 0 (take (most_bytes layout) bytes) (drop (most_bytes layout) bytes) _ told.0 rest (asks_back BeforeReport layout (take (most_bytes layout) bytes) t.1) (ap (session_parser BeforeReport layout false 0) (sym (parted layout bytes)) ∙ told.2) in
    omega (arith, less, i.short, t.0, length-drop (most_bytes layout) bytes)

pub no_fault_of_laid : (usage : SessionUse) (layout : Layout) (bytes : List ℕ) (s : SessionOf) (rest : List ℕ) (fault : InputFault) → IsSessionLaid usage layout bytes s rest → HasLaidFault usage layout bytes fault → ⊥
no_fault_of_laid usage layout bytes s rest fault i (inl t) = session_not_long usage layout bytes s rest i t.0
no_fault_of_laid usage layout bytes s rest fault i (inr b) = no_break_of_session usage layout 0 bytes s rest fault i b.1

pub no_fault_of_session : (usage : SessionUse) (side : ℕ) (bytes : List ℕ) (s : SessionOf) (rest : List ℕ) (fault : InputFault) → IsSessionIn usage side bytes s rest → HasFault usage side bytes fault → ⊥
no_fault_of_session usage side = no_fault_of_laid usage (in_tiles side)

long_or_not : (e : InputFault) → (e ≡ faults.TooLong) ⊎ (e ≢ faults.TooLong)
long_or_not faults.TooLong = inl refl
long_or_not fault = inr (λ e. cc)

-- ---- what is parsed of the bytes that the limit lets out

module _ (usage : SessionUse) (layout : Layout) (bytes : List ℕ) where
  abbrev pub seen : Parse Value
  seen = session_parser usage layout (goes_beyond (most_bytes layout) 0 bytes) 0 (take (most_bytes layout) bytes)

  -- all of the bytes are seen, or more come
  seen_is : ((length bytes ≤ most_bytes layout) × (seen ≡ session_parser usage layout false 0 bytes)) ⊎ ((most_bytes layout < length bytes) × (seen ≡ session_parser usage layout true 0 (take (most_bytes layout) bytes)))
  seen_is = elim (cases_lt (most_bytes layout) (length bytes)) [
    | inl lt ↦ inr (lt, ap (λ (b : Bool). session_parser usage layout b 0 (take (most_bytes layout) bytes)) (lt-ltb (most_bytes layout) (0 + length bytes) (omega (arith, lt))))
    | inr le ↦ inl (le, ap (λ (b : Bool). session_parser usage layout b 0 (take (most_bytes layout) bytes)) (le-ltb (most_bytes layout) (0 + length bytes) (omega (arith, le))) ∙ ap (session_parser usage layout false 0) (take_all (most_bytes layout) bytes le))
  ]

  short_seen : length (take (most_bytes layout) bytes) ≤ most_bytes layout
  short_seen = omega (arith, length-append (take (most_bytes layout) bytes) (drop (most_bytes layout) bytes), ap length (parted layout bytes), length-drop (most_bytes layout) bytes)

  pub fault_seen : (fault : InputFault) → seen ≡ broken fault → HasLaidFault usage layout bytes fault
  fault_seen fault e = elim seen_is [
    | inl (le, all) ↦ inr ((λ t. omega (arith, t.0, le)), broke (session_means usage layout) 0 bytes fault (sym all ∙ e))
    | inr (lt, cut) ↦ elim (long_or_not fault) [
      | inl long ↦ inl ((lt, asks_forth usage layout (take (most_bytes layout) bytes) short_seen (sym cut ∙ e ∙ ap broken long)), long)
      | inr other ↦ elim ((session_regular usage layout).far 0 (take (most_bytes layout) bytes) (drop (most_bytes layout) bytes)) [
        | inl w ↦ absurd (other (fault_is {A = Value} fault faults.TooLong (sym e ∙ cut ∙ w)))
        | inr h ↦ inr (
          (λ t. other (fault_is {A = Value} fault faults.TooLong (sym e ∙ cut ∙ asks_back usage layout (take (most_bytes layout) bytes) t.1))),
          broke (session_means usage layout) 0 bytes fault (ap (session_parser usage layout false 0) (parted layout bytes) ∙ h ∙ ap (λ (r : Parse Value). further r (drop (most_bytes layout) bytes)) (sym cut ∙ e)),
        )
      ]
    ]
  ]

  nothing_more : length bytes ≤ most_bytes layout → (rest : List ℕ) → rest ≡ rest ++ drop (most_bytes layout) bytes
  nothing_more le rest = sym (append-nil rest) ∙ ap (λ (t : List ℕ). rest ++ t) (sym (no_length (drop (most_bytes layout) bytes) (omega (arith, le, length-drop (most_bytes layout) bytes))))

  pub value_seen : (x : Value) (end : ℕ) (rest : List ℕ) → seen ≡ done x end rest → session_parser usage layout false 0 bytes ≡ done x end (rest ++ drop (most_bytes layout) bytes)
  value_seen x end rest e = elim seen_is [
    | inl (le, all) ↦ sym all ∙ e ∙ ap (λ (t : List ℕ). done x end t) (nothing_more le rest)
    | inr (lt, cut) ↦ elim ((session_regular usage layout).far 0 (take (most_bytes layout) bytes) (drop (most_bytes layout) bytes)) [
      | inl w ↦ absurd (not_both {A = Value} (x, end, rest) faults.TooLong (sym e ∙ cut ∙ w))
      | inr h ↦ ap (session_parser usage layout false 0) (parted layout bytes) ∙ h ∙ ap (λ (r : Parse Value). further r (drop (most_bytes layout) bytes)) (sym cut ∙ e)
    ]
  ]

  either : (r : Parse Value) → seen ≡ r → ((s : SessionOf) × (rest : List ℕ) × IsSessionLaid usage layout bytes s rest) ⊎ ((fault : InputFault) × HasLaidFault usage layout bytes fault)
  either (Err fault) e = inr (fault, fault_seen fault e)
  either (Ok x) e =
      let all = x.2 ++ drop (most_bytes layout) bytes in
      let s = found (session_means usage layout) 0 bytes x.0 x.1 all (value_seen x.0 x.1 x.2 e) in
      inl (told_by usage layout bytes x.0, all, is_session usage layout bytes x.0 all s.1 (omega (arith, length-append x.2 (drop (most_bytes layout) bytes), length-drop (most_bytes layout) bytes)))

  pub session_or_fault : ((s : SessionOf) × (rest : List ℕ) × IsSessionLaid usage layout bytes s rest) ⊎ ((fault : InputFault) × HasLaidFault usage layout bytes fault)
  session_or_fault = either seen refl

-- ---- a session, from its planes and its scripts

-- a mask of a plane, as of what the plane tells
pub mask_of : (m : MaskView) (p : Plane) (w h : ℕ) → p.width ≡ w → p.height ≡ h → IsMaskOf m p.width p.height (open_by p) → IsMaskOf m w h (mask_open_in (plane_of p))
mask_of m p w h e f i = record {
  width = i.width ∙ e;
  height = i.height ∙ f;
  clear_at = λ x y in_width in_height. i.clear_at x y (omega (arith, in_width, e)) (omega (arith, in_height, f));
}

-- ---- scripts as sections

pub each_script : (P : List Command → Type 0) (scripts : List Script) → AllByRecursion P (sections_of scripts) → (k : ℕ) (s : Script) → slice_get scripts k ≡ Some s → P s.commands.items
each_script P [] a k s e = absurd cc
each_script P (x ∷ scripts) a zero s e = let same : x ≡ s = cc in subst (λ (y : Script). P y.commands.items) same a.0
each_script P (x ∷ scripts) a (suc k) s e = each_script P scripts a.1 k s e

pub all_scripts : (P : List Command → Type 0) (scripts : List Script) → ((k : ℕ) (s : Script) → slice_get scripts k ≡ Some s → P s.commands.items) → AllByRecursion P (sections_of scripts)
all_scripts P [] f = tt
all_scripts P (x ∷ scripts) f = (f 0 x refl, all_scripts P scripts (λ k s e. f (suc k) s e))

pub same_counts : (test : Command → Bool) (scripts : List Script) → sum_by (λ script. count_by test script.commands.items) scripts ≡ sum_by (count_by test) (sections_of scripts)
same_counts test [] = refl
same_counts test (x ∷ scripts) =
    sum_by-cons (λ script. count_by test script.commands.items) x scripts
    ∙ ap (λ n. count_by test x.commands.items + n) (same_counts test scripts)
    ∙ sym (sum_by-cons (count_by test) x.commands.items (sections_of scripts))

-- ---- the frame

pub frame_is : (t : Tiling) (p : PlaneOf) (side : ℕ) → t.width ≡ p.width → t.height ≡ p.height → t.side ≡ side → frame_of_tiling t ≡ frame_in side p
frame_is t p side a b c = rw (← a, ← b, ← c) refl

-- ---- what the call's outcome says

pub made_together : (parts : SessionParts) (settings : SceneSettings) (m : MaskView) (s : Session) → IsPutTogether parts settings m s → IsMaskOf m parts.mask.width parts.mask.height (open_by parts.mask) → IsMadeOf (parts_read parts) (session_of s)
made_together parts settings m s all i = record {
  phase_is = ap plane_of all.phase;
  weights_are = ap plane_of all.weights;
  mask_is = subst (λ (v : MaskView). IsMaskOf v parts.phase.width parts.phase.height (mask_open_in (plane_of parts.mask))) (sym all.mask) (mask_of m parts.mask parts.phase.width parts.phase.height parts.same_width.1.0 parts.same_height.1.0 i);
  scripts_are = ap (λ (v : Vec Script). sections_of v.items) all.scripts;
}

pub whole_together : (parts : WholeParts) (rule : RuleKind) (terms : Terms) (m : MaskView) (s : WholeSession) → IsWholeOf parts rule terms m s → IsMaskOf m parts.mask.width parts.mask.height (open_by parts.mask) → IsMadeOf (whole_parts_read parts) (whole_session_of s)
whole_together parts rule terms m s all i = record {
  phase_is = ap plane_of all.phase;
  weights_are = ap plane_of all.weights;
  mask_is = subst (λ (v : MaskView). IsMaskOf v parts.phase.width parts.phase.height (mask_open_in (plane_of parts.mask))) (sym all.mask) (mask_of m parts.mask parts.phase.width parts.phase.height parts.same_width.1 parts.same_height.1 i);
  scripts_are = ap (λ (v : Vec Script). sections_of v.items) all.scripts;
}

makes_session : {X : Type 0} (view : X → SessionOf) (usage : SessionUse) (layout : Layout) (c : Call) (x : ThreePlanes × Sections) (r : Result X SessionFault) → IfOk r (λ s. IsMadeOf x (view s)) → IfErr r (λ fault. fault ≡ Memory) → IsOutcome as_read (Ok x) c (session_parser usage layout) → IsParsedSession view usage layout c r
makes_session view usage layout c x (Ok s) made starved h = (x, made, h)
makes_session view usage layout c x (Err e) made starved h = rw starved tt

made_by : (usage : SessionUse) (layout : Layout) (bytes : List ℕ) (x : ThreePlanes × Sections) (rest : List ℕ) (s : SessionOf) → Stands usage layout bytes x rest → IsMadeOf x s → length bytes ≤ most_bytes layout + length rest → IsSessionLaid usage layout bytes s rest
made_by usage layout bytes x rest s (between, planes, script) made short = record {
  mask_plane = x.0.mask;
  between = between;
  planes = rw (made.phase_is, made.weights_are) planes;
  mask = rw made.phase_is made.mask_is;
  script = rw (made.phase_is, made.scripts_are) script;
  short = short;
}

module _ {X : Type 0} (view : X → SessionOf) (usage : SessionUse) (layout : Layout) (c : Call) (m : Moves c) (start : c.at ≡ 0) (limit : c.limit ≡ most_bytes layout) (within : c.end ≤ c.limit) where
  -- what is left after what was handed out, of the bytes that the limit lets out and those beyond it
  all_left : (bytes rest : List ℕ) → bytes ≡ m.front ++ rest → take (c.limit - c.end) rest ++ drop (most_bytes layout) bytes ≡ rest
  all_left bytes rest e =
      let k : most_bytes layout ≡ length m.front + (c.limit - c.end) = omega (arith, m.place, start, limit, within) in
      ap (λ (t : List ℕ). take (c.limit - c.end) rest ++ t) (ap (λ (n : ℕ). drop n bytes) k ∙ ap (drop (length m.front + (c.limit - c.end))) e ∙ drop-append-add m.front rest (c.limit - c.end)) ∙ take-append-drop (c.limit - c.end) rest

  at_start : (bytes : List ℕ) → session_parser usage layout (goes_beyond c.limit c.at bytes) c.at (take (c.limit - c.at) bytes) ≡ seen usage layout bytes
  at_start bytes = let all : most_bytes layout - 0 ≡ most_bytes layout = omega arith in rw (start, limit, all) refl

  reads_session : (session : X) → IsParsedSession view usage layout c (Ok session) → Reaches c (λ bytes rest. IsSessionLaid usage layout bytes (view session) rest)
  reads_session session (x, made, outcome) = if_told c.told _ (λ bytes t.
      let l = told_on m.front c.told c.left bytes m.parts t in
      let parts : bytes ≡ m.front ++ l.0 = some_is bytes (m.front ++ l.0) (sym t ∙ m.parts ∙ ap (with_front m.front) l.1) in
      let all = value_seen usage layout bytes x c.end (take (c.limit - c.end) l.0) (sym (at_start bytes) ∙ outcome bytes l.0 t l.1) in
      let s = found (session_means usage layout) 0 bytes x c.end l.0 (all ∙ ap (done x c.end) (all_left bytes l.0 parts)) in
      let size : length bytes ≡ length m.front + length l.0 = omega (arith, ap length parts, length-append m.front l.0) in
      (l.0, (l.1, (omega (arith, size, m.place), made_by usage layout bytes x l.0 (view session) s.1 made (omega (arith, size, m.place, start, limit, within))))))

  -- all that the reader of a session promises
  keeps : (r : Result X SessionFault) → IsParsedSession view usage layout c r → IsLaidOutcome view usage layout c r
  keeps (Ok session) h =
      let read = reads_session session h in
      record {
        moves = m;
        read = read;
        accepted = if_told c.told _ (λ bytes t s rest i.
            let k = at_told c.told _ bytes t read in
            let one = one_laid usage layout bytes (view session) s k.0 rest k.1.1.1 i in
            (one.0, k.1.0 ∙ ap some_of one.1));
        refused = tt;
        too_long = λ e. absurd cc;
        exact = if_told c.told _ (λ bytes t fault b. let k = at_told c.told _ bytes t read in no_fault_of_laid usage layout bytes (view session) k.0 fault k.1.1.1 b);
      }
  keeps (Err (Input fault)) h =
      let has = λ (bytes : List ℕ) (t : c.told ≡ Some bytes). let l = told_on m.front c.told c.left bytes m.parts t in fault_seen usage layout bytes fault (sym (at_start bytes) ∙ h.0 bytes l.0 t l.1) in
      record {
        moves = m;
        read = tt;
        accepted = if_told c.told _ (λ bytes t s rest i. no_fault_of_laid usage layout bytes s rest fault i (has bytes t));
        refused = if_told c.told _ has;
        too_long = λ e. (let same : fault ≡ TooLong = cc in let full = h.1 same in if_told c.told _ (λ bytes t. (full.0 ∙ limit, full.1)));
        exact = if_told c.told _ (λ bytes t other b. one_fault usage layout bytes fault other (has bytes t) b);
      }
  keeps (Err ReadFault) h = record { moves = m; read = tt; accepted = if_told c.told _ (λ _ _ _ _ _. h); refused = h; too_long = λ e. absurd cc; exact = if_told c.told _ (λ _ _ _ _. h) }
  keeps (Err Memory) h = record { moves = m; read = tt; accepted = if_told c.told _ (λ _ _ _ _ _. tt); refused = tt; too_long = λ e. absurd cc; exact = if_told c.told _ (λ _ _ _ _. tt) }

-- the parts were not read
pub unread : {X : Type 0} (view : X → SessionOf) (usage : SessionUse) (layout : Layout) (c : Call) → c.at ≡ 0 → c.limit ≡ most_bytes layout → c.end ≤ c.limit → (fault : SessionFault) (r : Result X SessionFault) → IsErrAnd r (λ g. g ≡ fault) → (let q : Result (ThreePlanes × Sections) SessionFault = Err fault in Parses as_read q c (session_parser usage layout)) → IsLaidOutcome view usage layout c r
unread view usage layout c start limit within fault r is h = (let p = err_from_is_err_and r is in rw (p.1, p.2) (keeps view usage layout c h.moves start limit within (Err fault) h.outcome))

-- the parts were read, and a session is made of them where memory suffices
pub made_of_parts : {X : Type 0} (view : X → SessionOf) (usage : SessionUse) (layout : Layout) (c : Call) → c.at ≡ 0 → c.limit ≡ most_bytes layout → c.end ≤ c.limit → (x : ThreePlanes × Sections) (r : Result X SessionFault) → IfOk r (λ s. IsMadeOf x (view s)) → IfErr r (λ fault. fault ≡ Memory) → (let q : Result (ThreePlanes × Sections) SessionFault = Ok x in Parses as_read q c (session_parser usage layout)) → IsLaidOutcome view usage layout c r
made_of_parts view usage layout c start limit within x r made starved h = keeps view usage layout c h.moves start limit within r (makes_session view usage layout c x r made starved h.outcome)

-- What is written of a session is its text.
use Rattle.std.proofs.Common.{◌≡◌, ℕ, suc, ◌+◌, ◌*◌, ◌/◌, ◌%◌, ◌≤◌, ◌<◌, true, false, List, [], ◌∷◌, ◌++◌, length, decimal, flat_map, refl, sym, ap, ◌∙◌, append_assoc, arith, zero, ◌-◌, Bool, not, eqb, get_or, suc-mul, mul_comm, ◌^◌, inl, inr}
use Rattle.std.specs.Prelude.{codes, Some}
use Rattle.std.specs.List.{AllByRecursion}
use Rattle.std.proofs.lemmas.Bool.{ne_eqb}
use Rattle.std.proofs.lemmas.Fmt.{decimal_by_steps, length-decimal-le}
use Rattle.std.proofs.lemmas.List.{length-append, get_or_append_left, get_or-append_right}
use Rattle.std.proofs.lemmas.Grind.{flat_map-append}
use Rattle.raster_model.specs.declared.script.Command.{Command}
use Rattle.raster_model.specs.declared.script.Command.TheVariants.{Change, Settle, Show}
use Rattle.raster_model.specs.declared.script.Edit.{Edit}
use Rattle.raster_model.specs.declared.script.Edit.TheVariants.{Mask, Unmask}
use Rattle.raster_model.specs.declared.script.Rect.{Rect}
use Rattle.raster_model.specs.declared.script.Script.{Script}
use Rattle.raster_model.specs.Scripts.{IsRectIn, rect_of, CommandsFit, is_settle, is_change}
use Rattle.pgm_planes.specs.Gaps.{begins, is_number, goes_on_to, capped_number}
use Rattle.session_script.specs.declared.word.Word.{Word}
use Rattle.session_script.specs.declared.word.Word.TheVariants as words
use Rattle.session_script.specs.Lines.{is_zero, is_plain, SpellsRect, Spells}
use Rattle.session_script.specs.Scripts.{BeginsLine, AreLines, AreSections, meant, IsScriptPart}
use Rattle.session_script.specs.Sections.{Sections, Frame, command_words, section_words, words_of, sections_of, AreWithinLimits, frame_of_tiling}
use Rattle.text_lines.specs.Text.{field_text, rect_text, texts_below}
use Rattle.session_script.proofs.WithinLemmas.{few_lines, length_is}
use Rattle.session_script.specs.Text.{word_text, line_text, command_line, section_text, scripts_text, sample_of, mask_row_text, mask_text, session_text}
use Rattle.pgm_planes.proofs.TextLemmas.{digit, goes_further, number_further, written_is_read}
use Rattle.std.proofs.lemmas.List.Elements.{All-from_recursion, All-from_get_or}
use Rattle.raster_model.specs.MaskView.{MaskView}
use Rattle.raster_model.specs.Masks.{IsMaskOf, open_at}
use Rattle.pgm_planes.specs.declared.fault.Role.TheVariants.{Mask, Phase, Weight}
use Rattle.pgm_planes.specs.declared.extent.Extent.TheVariants.{Tiled}
use Rattle.pgm_planes.specs.Planes.{PlaneOf, IsSize, IsPlane, HasMaxval, IsPlaneIn, is_wide, plane_of, sought_within}
use Rattle.pgm_planes.specs.Text.{plane_header_text, plane_text, raster_text}
use Rattle.pgm_planes.proofs.WriteLemmas.{narrow_text}
use Rattle.session_script.specs.Sessions.{mask_open_in, session_of, ArePlanes, frame_in, IsSessionIn}
use Rattle.text_lines.proofs.TextLemmas.{texts_tail}
use Rattle.text_lines.proofs.FieldLemmas.{all_both}
use Rattle.raster_model.specs.declared.plane.Plane.{Plane}
use Rattle.raster_model.specs.declared.session.Session.{Session}
use Rattle.raster_model.specs.Tiles.{tiles_of}
use Rattle.pgm_planes.specs.declared.fault.Role.{Role}
use Rattle.pgm_planes.specs.declared.spelling.Spelling.TheVariants.{Raw}
use Rattle.session_script.specs.declared.session_use.SessionUse.{SessionUse}
use Rattle.session_script.specs.declared.session_use.SessionUse.TheVariants.{Alone}
use Rattle.session_script.proofs.AskSession.{all_scripts, same_counts, frame_is}

-- ---- scripts

-- ---- numbers

-- digits that spell a number, and no zero stands before others
record IsNumeral (n : ℕ) (ds : List ℕ) : Type 0 where
  pub number : is_number ds ≡ true
  pub plain : is_plain ds ≡ true
  pub value : goes_on_to 0 ds ≡ n
  pub lead : 1 ≤ n → begins is_zero ds ≡ false

one_digit : (n : ℕ) → n < 10 → IsNumeral n ((48 + n) ∷ [])
one_digit n lt =
    let number : is_number ((48 + n) ∷ []) ≡ true = rw (digit n lt) refl in
    record { number = number; plain = grind (arith, number); value = omega arith; lead = λ some. ne_eqb (48 + n) 48 (λ e. omega (arith, e, some)) }

lead_further : (ds : List ℕ) (d : ℕ) → is_number ds ≡ true → begins is_zero ds ≡ false → begins is_zero (ds ++ d ∷ []) ≡ false
lead_further [] d h e = absurd cc
lead_further (x ∷ ds) d h e = e

next_digit : (n : ℕ) (ds : List ℕ) → 10 ≤ n → IsNumeral (n / 10) ds → IsNumeral n (ds ++ (48 + n % 10) ∷ [])
next_digit n ds le s =
    let number = number_further ds (48 + n % 10) s.number (digit (n % 10) (omega arith)) in
    let lead = lead_further ds (48 + n % 10) s.number (s.lead (omega (arith, le))) in
    record { number = number; plain = rw (number, lead) refl; value = goes_further 0 ds (48 + n % 10) ∙ (let v = s.value in omega arith); lead = λ _. lead }

numeral : (n : ℕ) → n ≤ 4095 → is_plain (decimal n) ≡ true × (n ≡ capped_number (decimal n))
numeral n le = let s = decimal_by_steps IsNumeral one_digit next_digit n (omega (arith, le)) in let v = s.value in (s.plain, omega (arith, le))

-- ---- rectangles

-- no corner is beyond 4095
abbrev IsSmall : Rect → Type 0
IsSmall r = IsRectIn 4096 4096 r

abbrev AreFour : (ℕ → Type 0) → Rect → Type 0
AreFour P r = P r.x0 × P r.y0 × P r.x1 × P r.y1

each_corner : (P : ℕ → Type 0) → ((n : ℕ) → n ≤ 4095 → P n) → (r : Rect) → IsSmall r → AreFour P r
each_corner P f r s = (f r.x0 (omega (arith, s.0, s.1)), f r.y0 (omega (arith, s.2, s.3)), f r.x1 (omega (arith, s.1)), f r.y1 (omega (arith, s.3)))

spells_rect : (r : Rect) → IsSmall r → SpellsRect (rect_text r) r
unfolding rect_text field_text
spells_rect r s =
    let (a, b, c, d) = each_corner (λ n. is_plain (decimal n) ≡ true × (n ≡ capped_number (decimal n))) numeral r s in
    record { left = decimal r.x0; top = decimal r.y0; right = decimal r.x1; bottom = decimal r.y1; parts = refl; plain = (a.0, b.0, c.0, d.0); corners = rw (← a.1, ← b.1, ← c.1, ← d.1) refl }

field_short : (n : ℕ) → n ≤ 4095 → length (field_text n) ≤ 5
unfolding field_text
field_short n le = omega (arith, length-decimal-le 4 n (omega arith) (omega (arith, le)) (omega (arith, le)), length-append (codes " ") (decimal n))

rect_short : (r : Rect) → IsSmall r → length (rect_text r) ≤ 20
unfolding rect_text
rect_short r s =
    let f = each_corner (λ n. length (field_text n) ≤ 5) field_short r s in
    omega (arith, f.0, f.1, f.2, f.3, length-append (field_text r.x0) (field_text r.y0 ++ (field_text r.x1 ++ field_text r.y1)), length-append (field_text r.y0) (field_text r.x1 ++ field_text r.y1), length-append (field_text r.x1) (field_text r.y1))

-- ---- words

abbrev IsWritable : Word → Type 0
IsWritable words.Analyst = Unit {0}
IsWritable words.End = Unit {0}
IsWritable (words.Command (Change edit)) = IsSmall (rect_of edit)
IsWritable (words.Command Settle) = Unit {0}
IsWritable (words.Command Show) = Unit {0}

spells_word : (w : Word) → IsWritable w → Spells (word_text w) w
spells_word words.Analyst s = refl
spells_word words.End s = refl
spells_word (words.Command (Change (Mask r))) s = (rect_text r, refl, spells_rect r s)
spells_word (words.Command (Change (Unmask r))) s = (rect_text r, refl, spells_rect r s)
spells_word (words.Command Settle) s = refl
spells_word (words.Command Show) s = refl

word_short : (w : Word) → IsWritable w → length (word_text w) ≤ 26
word_short words.Analyst s = omega arith
word_short words.End s = omega arith
word_short (words.Command (Change (Mask r))) s = omega (arith, rect_short r s, length-append (codes "mask") (rect_text r))
word_short (words.Command (Change (Unmask r))) s = omega (arith, rect_short r s, length-append (codes "unmask") (rect_text r))
word_short (words.Command Settle) s = omega arith
word_short (words.Command Show) s = omega arith

begins_with : (w : Word) (rest : List ℕ) → IsWritable w → BeginsLine (line_text w ++ rest) w rest
begins_with w rest s = record {
  line = word_text w;
  parts = append_assoc (word_text w) (10 ∷ []) rest;
  short = omega (arith, word_short w s);
  spells = spells_word w s;
}

lines_stand : (ws : List Word) (rest : List ℕ) → AllByRecursion IsWritable ws → AreLines (flat_map line_text ws ++ rest) ws rest
lines_stand [] rest a = refl
lines_stand (w ∷ ws) rest a = (flat_map line_text ws ++ rest, rw append_assoc (begins_with w (flat_map line_text ws ++ rest) a.0), lines_stand ws rest a.1)

lines_short : (ws : List Word) → AllByRecursion IsWritable ws → length (flat_map line_text ws) ≤ 27 * length ws
lines_short [] a = omega arith
lines_short (w ∷ ws) a = omega (arith, lines_short ws a.1, word_short w a.0, length-append (line_text w) (flat_map line_text ws), length-append (word_text w) (10 ∷ []))

-- ---- sections

command_lines : (cs : List Command) → flat_map command_line cs ≡ flat_map line_text (command_words cs)
command_lines [] = refl
command_lines (c ∷ cs) = ap (λ (t : List ℕ). command_line c ++ t) (command_lines cs)

section_lines : (ss : Sections) → flat_map section_text ss ≡ flat_map line_text (words_of ss)
section_lines [] = refl
section_lines (s ∷ ss) =
    ap (λ (t : List ℕ). t ++ flat_map section_text ss) (ap (λ (t : List ℕ). line_text words.Analyst ++ t) (command_lines s))
    ∙ ap (λ (t : List ℕ). flat_map line_text (section_words s) ++ t) (section_lines ss)
    ∙ sym (flat_map-append line_text (section_words s) (words_of ss))

module _ (w h : ℕ) (wide : w ≤ 4096) (high : h ≤ 4096) where
  command_writable : (c : Command) → ((edit : Edit) → c ≡ Change edit → IsRectIn w h (rect_of edit)) → IsWritable (words.Command c)
  command_writable (Change edit) f = let i = f edit refl in (i.0, omega (arith, i.1, wide), i.2, omega (arith, i.3, high))
  command_writable Settle f = tt
  command_writable Show f = tt

  commands_writable : (cs : List Command) → CommandsFit w h cs → AllByRecursion IsWritable (command_words cs)
  commands_writable [] f = tt
  commands_writable (c ∷ cs) f = (command_writable c (λ edit e. f 0 edit (ap (λ (x : Command). Some x) e)), commands_writable cs (λ k edit e. f (suc k) edit e))

  both_writable : (xs ys : List Word) → AllByRecursion IsWritable xs → AllByRecursion IsWritable ys → AllByRecursion IsWritable (xs ++ ys)
  both_writable [] ys a b = b
  both_writable (x ∷ xs) ys a b = (a.0, both_writable xs ys a.1 b)

  sections_writable : (ss : Sections) → AllByRecursion (CommandsFit w h) ss → AllByRecursion IsWritable (words_of ss)
  sections_writable [] a = tt
  sections_writable (s ∷ ss) a = both_writable (section_words s) (words_of ss) (tt, commands_writable s a.0) (sections_writable ss a.1)

module _ (f : Frame) (wide : f.width ≤ 4096) (high : f.height ≤ 4096) (ss : Sections) (within : AreWithinLimits f ss) where
  writable : AllByRecursion IsWritable (words_of ss)
  writable = sections_writable f.width f.height wide high ss within.inside

  pub scripts_stand : (rest : List ℕ) → AreSections f (scripts_text ss ++ rest) ss rest
  scripts_stand rest =
      let parts : scripts_text ss ++ rest ≡ flat_map line_text (words_of ss) ++ (line_text words.End ++ rest)
      = append_assoc (flat_map section_text ss) (line_text words.End) rest ∙ ap (λ (t : List ℕ). t ++ (line_text words.End ++ rest)) (section_lines ss) in (
        line_text words.End ++ rest,
        record { lines = rw parts (lines_stand (words_of ss) (line_text words.End ++ rest) writable); within = within },
        begins_with words.End rest tt,
      )

  pub scripts_short : length (scripts_text ss) ≤ 900000
  scripts_short =
      omega (arith, lines_short (words_of ss) writable, few_lines f ss within, ap length (section_lines ss), length-append (flat_map section_text ss) (line_text words.End))

-- ---- scripts as sections

abbrev pub script_text : Script → List ℕ
script_text script = section_text script.commands.items

pub scripts_as_sections : (scripts : List Script) → flat_map script_text scripts ≡ flat_map section_text (sections_of scripts)
scripts_as_sections [] = refl
scripts_as_sections (x ∷ scripts) = ap (λ (t : List ℕ). script_text x ++ t) (scripts_as_sections scripts)

-- ---- a mask, as a plane whose samples open the same pixels

module _ (f : ℕ → List ℕ) (w : ℕ) (each : (y : ℕ) → length (f y) ≡ w) where
  rows_length : (h : ℕ) → length (texts_below h f) ≡ h * w
  unfolding texts_below
  rows_length zero = omega arith
  rows_length (suc h) = omega (arith, length-append (texts_below h f) (f h), rows_length h, each h, suc-mul h w)

  rows_get : (h x y : ℕ) → y < h → x < w → get_or (texts_below h f) (y * w + x) 0 ≡ get_or (f y) x 0
  rows_get h x y ly lx =
      let t = texts_tail h y f ly in
      let k : (y * w + x) - y * w ≡ x = omega arith in
      ap (λ (l : List ℕ). get_or l (y * w + x) 0) t.1
      ∙ get_or_append_left (texts_below y f ++ f y) t.0 0 (y * w + x) (omega (arith, lx, rows_length y, each y, length-append (texts_below y f) (f y)))
      ∙ get_or-append_right (texts_below y f) (f y) (y * w) (y * w + x) 0 (rows_length y) (omega arith) ∙ ap (λ (n : ℕ). get_or (f y) n 0) k

module _ (m : MaskView) where
  row_length : (y : ℕ) → length (mask_row_text m y) ≡ m.width
  row_length y = omega (arith, rows_length (λ x. sample_of (open_at m x y) ∷ []) 1 (λ x. refl) m.width)

  row_get : (x y : ℕ) → x < m.width → get_or (mask_row_text m y) x 0 ≡ sample_of (open_at m x y)
  row_get x y lx =
      let k : x * 1 + 0 ≡ x = omega arith in
      let e = rows_get (λ z. sample_of (open_at m z y) ∷ []) 1 (λ z. refl) m.width 0 x lx (omega arith) in
      ap (λ (n : ℕ). get_or (mask_row_text m y) n 0) (sym k) ∙ e

  -- the plane that is written
  abbrev pub mask_plane : PlaneOf
  mask_plane = record { width = m.width; height = m.height; maxval = 1; samples = texts_below m.height (mask_row_text m) }

  open_again : (b : Bool) → not (eqb (sample_of b) 0) ≡ b
  open_again true = refl
  open_again false = refl

  pixel_again : (x y : ℕ) → x < m.width → y < m.height → open_at m x y ≡ mask_open_in mask_plane x y
  pixel_again x y lx ly =
      let e : get_or (texts_below m.height (mask_row_text m)) (y * m.width + x) 0 ≡ sample_of (open_at m x y) = rows_get (mask_row_text m) m.width row_length m.height x y ly lx ∙ row_get x y lx in
      sym (ap (λ (v : ℕ). not (eqb v 0)) e ∙ open_again (open_at m x y))

  pub mask_again : (w h : ℕ) → m.width ≡ w → m.height ≡ h → IsMaskOf m w h (mask_open_in mask_plane)
  mask_again w h a b = record { width = a; height = b; clear_at = λ x y lx ly. pixel_again x y (omega (arith, lx, a)) (omega (arith, ly, b)) }

  pub mask_spelled : mask_text m ≡ plane_text mask_plane
  unfolding plane_text
  mask_spelled = ap (λ (t : List ℕ). plane_header_text m.width m.height 1 ++ t) (narrow_text (texts_below m.height (mask_row_text m)))

  small : (b : Bool) → sample_of b ≤ 1
  small true = omega arith
  small false = omega arith

  all_below : (f : ℕ → List ℕ) (n : ℕ) → ((k : ℕ) → AllByRecursion (λ v. v ≤ 1) (f k)) → AllByRecursion (λ v. v ≤ 1) (texts_below n f)
  unfolding texts_below
  all_below f zero a = tt
  all_below f (suc n) a = all_both (λ v. v ≤ 1) (texts_below n f) (f n) (all_below f n a) (a n)

  samples_small : AllByRecursion (λ v. v ≤ 1) (texts_below m.height (mask_row_text m))
  samples_small = all_below (mask_row_text m) m.height (λ y. all_below (λ x. sample_of (open_at m x y) ∷ []) m.width (λ x. (small (open_at m x y), tt)))

  pub is_mask_plane : IsSize m.width m.height → IsPlane Mask mask_plane
  is_mask_plane s = record {
    size = s;
    maxval = (omega arith, omega arith);
    count = rows_length (mask_row_text m) m.width row_length m.height ∙ mul_comm m.height m.width;
    samples = All-from_recursion (λ v. v ≤ 1) (texts_below m.height (mask_row_text m)) samples_small;
  }

-- ---- planes

is_plane : (role : Role) (p : Plane) → IsSize p.width p.height → HasMaxval role p.maxval → IsPlane role (plane_of p)
is_plane role p s m = record {
  size = s;
  maxval = m;
  count = omega (arith, p.full, p.samples.ok.0);
  samples = All-from_get_or (λ v. v ≤ p.maxval) p.samples.items 0 (λ k lt. p.below k);
}

stands : (role : Role) (p : PlaneOf) (rest : List ℕ) → IsPlane role p → IsPlaneIn role (plane_text p ++ rest) p rest
stands role p rest i = (plane_text p, refl, (Raw, written_is_read (sought_within Tiled role) p rest i))

raster_short : (wide : Bool) (vs : List ℕ) → length (raster_text wide vs) ≤ 2 * length vs
raster_short wide [] = omega arith
raster_short true (v ∷ vs) = omega (arith, raster_short true vs)
raster_short false (v ∷ vs) = omega (arith, raster_short false vs)

digits : (n : ℕ) → n ≤ 65535 → length (decimal n) ≤ 5
digits n le = length-decimal-le 5 n (omega arith) (omega (arith, le)) (omega (arith, le))

header_short : (w h m : ℕ) → w ≤ 4096 → h ≤ 4096 → m ≤ 65535 → length (plane_header_text w h m) ≤ 30
unfolding plane_header_text
header_short w h m a b c =
    let x = digits w (omega (arith, a)) in
    let y = digits h (omega (arith, b)) in
    let z = digits m c in
    omega (arith, x, y, z, length-append (decimal w) (32 ∷ (decimal h ++ 10 ∷ (decimal m ++ 10 ∷ []))), length-append (decimal h) (10 ∷ (decimal m ++ 10 ∷ [])), length-append (decimal m) (10 ∷ []))

plane_short : (role : Role) (p : PlaneOf) → IsPlane role p → p.maxval ≤ 65535 → length (plane_text p) ≤ 9000000
unfolding plane_text
plane_short role p i le =
    let s = i.size in
    omega (arith, header_short p.width p.height p.maxval s.across.1 s.along.1 le, raster_short (is_wide p.maxval) p.samples, i.count, s.pixels, length-append (plane_header_text p.width p.height p.maxval) (raster_text (is_wide p.maxval) p.samples))

-- ---- scripts

same_meaning : (ss : Sections) → 1 ≤ length ss → ss ≡ meant ss
same_meaning [] le = absurd (omega (arith, le))
same_meaning (s ∷ ss) le = refl

-- ---- the whole

module _ (session : Session) (fits : session.scene.weights.maxval < 2 ^ 16) where
  abbrev phase : PlaneOf
  phase = plane_of session.scene.phase

  abbrev weights : PlaneOf
  weights = plane_of session.scene.weights

  abbrev sections : Sections
  sections = sections_of session.scripts.items

  abbrev side : ℕ
  side = session.scene.tiling.side

  frame : frame_of_tiling session.scene.tiling ≡ frame_in side phase
  frame = frame_is session.scene.tiling phase side session.scene.same_width.1 session.scene.same_height.1 refl

  tiles : (frame_in side phase).changed ≡ tiles_of session.scene.tiling
  tiles = ap (λ (f : Frame). f.changed) (sym frame)

  within : AreWithinLimits (frame_in side phase) sections
  within = record {
    analysts = omega (arith, session.analysts.1, length_is session.scripts.items, session.scripts.ok.0);
    short = all_scripts (λ commands. length commands ≤ 4096) session.scripts.items (λ k s e. omega (arith, session.short k s e, s.commands.ok.0));
    inside = all_scripts (CommandsFit phase.width phase.height) session.scripts.items session.inside;
    settles = rw (← same_counts is_settle session.scripts.items) session.settles;
    changes = rw (tiles, ← same_counts is_change session.scripts.items) session.changes;
  }

  some : 1 ≤ length sections
  some = omega (arith, session.analysts.0, length_is session.scripts.items, session.scripts.ok.0)

  phase_size : IsSize session.scene.phase.width session.scene.phase.height
  phase_size = record { across = session.scene.wide; along = session.scene.high; pixels = session.scene.few }

  phase_is : IsPlane Phase phase
  phase_is = is_plane Phase session.scene.phase phase_size session.scene.cycle

  weights_are : IsPlane Weight weights
  weights_are = is_plane Weight session.scene.weights (rw (session.scene.same_width.0, session.scene.same_height.0) phase_size) (session.scene.weights.valued, omega (arith, fits))

  mask_size : IsSize session.first_mask.width session.first_mask.height
  mask_size = rw (session.same_size.0, session.same_size.1) phase_size

  mask_is : IsPlane Mask (mask_plane session.first_mask)
  mask_is = is_mask_plane session.first_mask mask_size

  text_parts : (rest : List ℕ) → session_text (session_of session) ++ rest ≡ plane_text phase ++ (plane_text weights ++ (mask_text session.first_mask ++ (scripts_text sections ++ rest)))
  unfolding session_text
  text_parts rest = simp append_assoc

  text_short : length (session_text (session_of session)) ≤ 268435456
  unfolding session_text
  text_short =
      omega (
        arith,
        plane_short Phase phase phase_is (omega (arith, session.scene.cycle)),
        plane_short Weight weights weights_are (omega (arith, fits)),
        plane_short Mask (mask_plane session.first_mask) mask_is (omega arith),
        ap length (mask_spelled session.first_mask),
        scripts_short (frame_in side phase) phase_is.size.across.1 phase_is.size.along.1 sections within,
        length-append (plane_text phase) (plane_text weights ++ (mask_text session.first_mask ++ scripts_text sections)),
        length-append (plane_text weights) (mask_text session.first_mask ++ scripts_text sections),
        length-append (mask_text session.first_mask) (scripts_text sections),
      )

  script_is : (usage : SessionUse) (rest : List ℕ) → (usage ≡ Alone → rest ≡ []) → IsScriptPart (frame_in side phase) usage (scripts_text sections ++ rest) sections rest
  script_is usage rest ends = inr (record {
    sections = sections;
    are = scripts_stand (frame_in side phase) phase_is.size.across.1 phase_is.size.along.1 sections within rest;
    means = same_meaning sections some;
    ends = ends;
  })

  planes_are : (behind : List ℕ) → ArePlanes Tiled (plane_text phase ++ (plane_text weights ++ (mask_text session.first_mask ++ behind))) phase weights (mask_plane session.first_mask) behind
  planes_are behind = record {
    behind_phase = plane_text weights ++ (mask_text session.first_mask ++ behind);
    behind_weights = mask_text session.first_mask ++ behind;
    first = stands Phase phase _ phase_is;
    second = inl (stands Weight weights _ weights_are, (session.scene.same_width.0, session.scene.same_height.0));
    third = inl (rw mask_spelled (stands Mask (mask_plane session.first_mask) behind mask_is), (session.same_size.0, session.same_size.1));
  }

  pub session_again : (usage : SessionUse) (rest : List ℕ) → (usage ≡ Alone → rest ≡ []) → IsSessionIn usage side (session_text (session_of session) ++ rest) (session_of session) rest
  session_again usage rest ends = record {
    mask_plane = mask_plane session.first_mask;
    between = scripts_text sections ++ rest;
    planes = rw (text_parts rest) (planes_are (scripts_text sections ++ rest));
    mask = mask_again session.first_mask phase.width phase.height session.same_size.0 session.same_size.1;
    script = script_is usage rest ends;
    short = omega (arith, length-append (session_text (session_of session)) rest, text_short);
  }

-- what `WrittenSessionIsRead` says
pub written_again : (usage : SessionUse) (session : Session) (rest : List ℕ) → session.scene.weights.maxval < 2 ^ 16 → (usage ≡ Alone → rest ≡ []) → IsSessionIn usage session.scene.tiling.side (session_text (session_of session) ++ rest) (session_of session) rest
written_again usage session rest fits ends = session_again session fits usage rest ends

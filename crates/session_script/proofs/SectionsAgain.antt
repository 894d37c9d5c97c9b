-- Lines, and sections of them, stand in one way: their parser gives what the relations say.
use Rattle.std.proofs.Common.{◌≡◌, ℕ, ◌+◌, ◌≤◌, ◌⊎◌, Bool, true, false, not, eqb, nat_lt, inl, inr, List, [], ◌∷◌, ◌++◌, length, get_or, All, Option, Some, None, refl, sym, ap, ◌∙◌, append_assoc, arith, ◌≢◌, zero, suc, ◌-◌, Ok, Err, subst}
use Rattle.std.specs.Prelude.{codes}
use Rattle.std.specs.List.{list_all, AllByRecursion}
use Rattle.std.proofs.Math.Seq.{get_or-append_seam}
use Rattle.std.proofs.lemmas.Bool.{and_parts, eqb-false, eqb-true, ne_eqb, ltb-true, ltb-false, lt-ltb, le-ltb, not-true, cases_Bool, cases_lt}
use Rattle.std.proofs.lemmas.List.{length-append, append-nil, get_or_append_left}
use Rattle.std.proofs.lemmas.List.Elements.{recursion_from_All, All-push, All-nil}
use Rattle.insar_ports.specs.Lines.{IsInLine}
use Rattle.pgm_planes.specs.declared.fault.InputFault.{InputFault}
use Rattle.pgm_planes.specs.declared.fault.InputFault.TheVariants.{ScriptLine, NoEnd}
use Rattle.pgm_planes.specs.Gaps.{is_digit}
use Rattle.text_lines.proofs.FieldLemmas.{all_both}
use Rattle.raster_model.specs.declared.script.Command.TheVariants.{Change, Settle, Show}
use Rattle.raster_model.specs.declared.script.Edit.TheVariants.{Mask, Unmask}
use Rattle.raster_model.specs.declared.script.Rect.{Rect}
use Rattle.session_script.specs.declared.word.Word.{Word}
use Rattle.session_script.specs.declared.word.Word.TheVariants as words
use Rattle.session_script.specs.Fields.{word_in}
use Rattle.session_script.specs.Lines.{is_plain, SpellsRect, Spells, SpellsNone}
use Rattle.session_script.specs.Parsing.{Parse, if_no_more, word_or_fault, line_parser, Parser, and_then, chain, on_word, sections_parser, most_lines, lines_parser}
use Rattle.session_script.specs.Scripts.{BeginsLine, IsNoLine, IsCutLine, AreLines, StandBefore, AreSections, SectionsBreak}
use Rattle.session_script.proofs.WordAgain.{found_or_none, all_digits, word_found, word_again}
use Rattle.session_script.proofs.ParseLemmas.{done, broken, further, Far, Regular, Says, Means, found, asked, wants, parsed_regular, refusing_regular, relaxed, chain_regular, Told}
use Rattle.session_script.specs.Sections.{Sections, Frame, words_of, line_count, AreWithinLimits, word_broken, with_word}
use Rattle.session_script.proofs.WithinLemmas.{is_at_end, word_never, IsNext, words_with, word_by_word, adds_word, takes_word, few_lines, none_within}

-- ---- a line

-- ---- no line feed is in what spells a word

digits_in_line : (ds : List ℕ) → list_all is_digit ds ≡ true → AllByRecursion IsInLine ds
digits_in_line [] a = tt
digits_in_line (d ∷ ds) a =
    let p = and_parts (is_digit d) (list_all is_digit ds) a in
    let low = ltb-true 47 d (and_parts (nat_lt 47 d) (nat_lt d 58) p.0).0 in
    ((λ e. omega (arith, e, low)), digits_in_line ds p.1)

number_in_line : (digits rest : List ℕ) → is_plain digits ≡ true → AllByRecursion IsInLine rest → AllByRecursion IsInLine (32 ∷ (digits ++ rest))
number_in_line digits rest p a = ((λ e. cc), all_both IsInLine digits rest (digits_in_line digits (all_digits digits p)) a)

rect_in_line : (fields : List ℕ) (r : Rect) → SpellsRect fields r → AllByRecursion IsInLine fields
rect_in_line fields r s =
    let last : AllByRecursion IsInLine (32 ∷ s.bottom) = ((λ e. cc), digits_in_line s.bottom (all_digits s.bottom s.plain.3)) in
    rw s.parts (number_in_line s.left _ s.plain.0 (number_in_line s.top _ s.plain.1 (number_in_line s.right _ s.plain.2 last)))

tested : (bytes : List ℕ) → list_all (λ b. not (eqb b 10)) bytes ≡ true → AllByRecursion IsInLine bytes
tested [] a = tt
tested (b ∷ bytes) a = let p = and_parts (not (eqb b 10)) (list_all (λ b. not (eqb b 10)) bytes) a in (eqb-false b 10 (not-true (eqb b 10) p.0), tested bytes p.1)

spells_in_line : (line : List ℕ) (w : Word) → Spells line w → AllByRecursion IsInLine line
spells_in_line line words.Analyst s = rw s (tested (codes "analyst") refl)
spells_in_line line words.End s = rw s (tested (codes "end") refl)
spells_in_line line (words.Command Settle) s = rw s (tested (codes "settle") refl)
spells_in_line line (words.Command Show) s = rw s (tested (codes "show") refl)
spells_in_line line (words.Command (Change (Mask r))) s = rw s.1 (all_both IsInLine (codes "mask") s.0 (tested (codes "mask") refl) (rect_in_line s.0 r s.2))
spells_in_line line (words.Command (Change (Unmask r))) s = rw s.1 (all_both IsInLine (codes "unmask") s.0 (tested (codes "unmask") refl) (rect_in_line s.0 r s.2))

-- ---- the parser of a line, byte by byte

module _ (n : ℕ) (more : Bool) where
  next_byte : (line : List ℕ) (at b : ℕ) (rest : List ℕ) → IsInLine b → length line ≤ 63 → line_parser n line more at (b ∷ rest) ≡ line_parser n (line ++ b ∷ []) more (at + 1) rest
  next_byte line at b rest e le = rw (ne_eqb b 10 e, le-ltb 63 (length line) le) refl

  through : (line ds : List ℕ) (at : ℕ) (rest : List ℕ) → AllByRecursion IsInLine ds → length line + length ds ≤ 64 → line_parser n line more at (ds ++ rest) ≡ line_parser n (line ++ ds) more (at + length ds) rest
  through line [] at rest a le = let k : at + 0 ≡ at = omega arith in rw (append-nil line, k) refl
  through line (d ∷ ds) at rest a le =
      let k : (at + 1) + length ds ≡ at + length (d ∷ ds) = omega arith in
      next_byte line at d (ds ++ rest) a.0 (omega (arith, le)) ∙ through (line ++ d ∷ []) ds (at + 1) rest a.1 (omega (arith, le, length-append line (d ∷ []))) ∙ rw (append_assoc line (d ∷ []) ds, k) refl

  beyond : (line ds : List ℕ) (at : ℕ) (rest : List ℕ) → AllByRecursion IsInLine ds → length line ≤ 64 → length line + length ds ≡ 65 → line_parser n line more at (ds ++ rest) ≡ broken (ScriptLine n)
  beyond line [] at rest a le e = absurd (omega (arith, le, e))
  beyond line (d ∷ ds) at rest a le e = elim (cases_lt 63 (length line)) [
    | inl lt ↦ rw (ne_eqb d 10 a.0, lt-ltb 63 (length line) lt) refl
    | inr ge ↦ next_byte line at d (ds ++ rest) a.0 ge ∙ beyond (line ++ d ∷ []) ds (at + 1) rest a.1 (omega (arith, ge, length-append line (d ∷ []))) (omega (arith, e, length-append line (d ∷ [])))
  ]

  pub line_begins : (at : ℕ) (bytes : List ℕ) (w : Word) (rest : List ℕ) (b : BeginsLine bytes w rest) → line_parser n [] more at bytes ≡ done w ((at + length b.line) + 1) rest
  line_begins at bytes w rest b =
      ap (line_parser n [] more at) b.parts ∙ through [] b.line at (10 ∷ rest) (spells_in_line b.line w b.spells) (omega (arith, b.short)) ∙ ap (λ (o : Option Word). word_or_fault n o more ((at + length b.line) + 1) rest) (word_again b.line w b.spells)

  none_spelled : (line : List ℕ) → SpellsNone line → word_in line ≡ None
  none_spelled line s = elim (found_or_none (word_in line)) [ inl w ↦ absurd (s w.0 (word_found line w.0 w.1)) | inr o ↦ o ]

  pub line_refused : (at : ℕ) (bytes : List ℕ) → IsNoLine bytes → line_parser n [] more at bytes ≡ broken (ScriptLine n)
  line_refused at bytes (inl l) = ap (line_parser n [] more at) l.2 ∙ beyond [] l.0 at l.1 (recursion_from_All IsInLine l.0 l.4) (omega arith) (omega (arith, l.3))
  line_refused at bytes (inr o) =
      ap (line_parser n [] more at) o.parts ∙ through [] o.line at (10 ∷ o.others) (recursion_from_All IsInLine o.line o.whole) (omega (arith, o.short)) ∙ ap (λ (w : Option Word). word_or_fault n w more ((at + length o.line) + 1) o.others) (none_spelled o.line o.spells)

  pub line_missing : (at : ℕ) (bytes : List ℕ) → IsCutLine bytes → line_parser n [] more at bytes ≡ if_no_more more (broken NoEnd)
  line_missing at bytes c = ap (line_parser n [] more at) (sym (append-nil bytes)) ∙ through [] bytes at [] (recursion_from_All IsInLine bytes c.1) (omega (arith, c.0))

-- ---- what it gives

abbrev pub LineBreak : ℕ → ℕ → List ℕ → InputFault → Type 0
LineBreak n at bytes e = (IsNoLine bytes × (e ≡ ScriptLine n)) ⊎ (IsCutLine bytes × (e ≡ NoEnd))

module _ (n : ℕ) (more : Bool) (at : ℕ) (bytes : List ℕ) where
  abbrev SaysLine : Parse Word → Type 0
  SaysLine = Says BeginsLine (LineBreak n) IsCutLine more at bytes

  cut_says : (b : Bool) → more ≡ b → IsCutLine bytes → SaysLine (if_no_more b (broken NoEnd))
  cut_says true e c = (λ m. absurd cc, λ _ _. c)
  cut_says false e c = (λ _. inr (c, refl), λ m. absurd cc)

  -- after a part of the line
  walk : (line rest : List ℕ) (place : ℕ) → bytes ≡ line ++ rest → place ≡ at + length line → All IsInLine line → length line ≤ 64 → SaysLine (line_parser n line more place rest)
  walk line [] place e p all le = let same = e ∙ append-nil line in cut_says more refl (omega (arith, le, ap length same), rw same all)
  walk line (b ∷ rest) place e p all le = elim (cases_Bool (eqb b 10)) [
    | inl t ↦
        let parts : bytes ≡ line ++ 10 ∷ rest = e ∙ ap (λ (x : ℕ). line ++ x ∷ rest) (eqb-true b 10 t) in
        elim (found_or_none (word_in line)) [
          | inr o ↦ rw (t, o) (λ _. inl (inr (record { line = line; others = rest; parts = parts; whole = all; short = le; spells = λ w s. let q = sym o ∙ word_again line w s in cc }), refl), λ _ k. absurd cc)
          | inl w ↦ rw (t, w.1) (omega (arith, p, ap length parts, length-append line (10 ∷ rest)), record { line = line; parts = parts; short = le; spells = word_found line w.0 w.1 })
        ]
    | inr t ↦
        let in_line = All-push IsInLine line b all (eqb-false b 10 t) in
        let parts : bytes ≡ (line ++ b ∷ []) ++ rest = e ∙ sym (append_assoc line (b ∷ []) rest) in
        elim (cases_Bool (nat_lt 63 (length line))) [
          | inl l ↦ rw (t, l) (λ _. inl (inl (line ++ b ∷ [], rest, parts, omega (arith, le, ltb-true 63 (length line) l, length-append line (b ∷ [])), in_line), refl), λ _ k. absurd cc)
          | inr l ↦ rw (t, l) (walk (line ++ b ∷ []) rest (place + 1) parts (omega (arith, p, length-append line (b ∷ []))) in_line (omega (arith, ltb-false 63 (length line) l, length-append line (b ∷ []))))
        ]
  ]

module _ (n : ℕ) where
  line_breaks : (at : ℕ) (bytes : List ℕ) (e : InputFault) → LineBreak n at bytes e → line_parser n [] false at bytes ≡ broken e
  line_breaks at bytes e (inl b) = line_refused n false at bytes b.0 ∙ ap broken (sym b.1)
  line_breaks at bytes e (inr b) = line_missing n false at bytes b.0 ∙ ap broken (sym b.1)

  pub line_means : Means BeginsLine (LineBreak n) IsCutLine (line_parser n [])
  line_means = record {
    told = λ at bytes w rest b. ((at + length b.line) + 1, omega (arith, ap length b.parts, length-append b.line (10 ∷ rest)), line_begins n false at bytes w rest b);
    breaks = line_breaks;
    asks = λ at bytes c. line_missing n true at bytes c;
    says = λ more at bytes. walk n more at bytes [] bytes at refl (omega arith) (All-nil IsInLine) (omega arith);
  }

  word_far : (o : Option Word) (at : ℕ) (bytes more : List ℕ) → word_or_fault n o false at (bytes ++ more) ≡ further (word_or_fault n o true at bytes) more
  word_far None at bytes more = refl
  word_far (Some w) at bytes more = refl

  line_far : (line : List ℕ) → Far (line_parser n line)
  line_far line at [] more = inl refl
  line_far line at (b ∷ bytes) more = elim (cases_Bool (eqb b 10)) [
    | inl t ↦ rw t (inr (word_far (word_in line) (at + 1) bytes more))
    | inr t ↦ elim (cases_Bool (nat_lt 63 (length line))) [ inl l ↦ rw (t, l) (inr refl) | inr l ↦ rw (t, l) (line_far (line ++ b ∷ []) (at + 1) bytes more) ]
  ]

  no_feed : (bytes more : List ℕ) (w : Word) (rest : List ℕ) (b : BeginsLine (bytes ++ more) w rest) → All IsInLine bytes → length bytes ≤ length b.line
  no_feed bytes more w rest b all = elim (cases_lt (length b.line) (length bytes)) [
    | inl lt ↦ absurd (all (length b.line) 0 lt (sym (get_or_append_left bytes more 0 (length b.line) lt) ∙ ap (λ (l : List ℕ). get_or l (length b.line) 0) b.parts ∙ get_or-append_seam b.line 10 rest 0))
    | inr le ↦ le
  ]

  pub line_regular : Regular 1 1 (line_parser n [])
  line_regular = record {
    far = line_far [];
    steps = λ at bytes w end rest e. let b = (found line_means at bytes w end rest e).1 in omega (arith, ap length b.parts, length-append b.line (10 ∷ rest));
    needs = λ at bytes more w end rest v e.
        let b = (found line_means at (bytes ++ more) w end rest e).1 in
        let c = asked line_means at bytes v in
        omega (arith, no_feed bytes more w rest b c.1, ap length b.parts, length-append b.line (10 ∷ rest), length-append bytes more);
  }

-- ---- sections

-- what follows a word after sections, and the lines after them
abbrev pub after : Frame → Sections → Word → Parser Sections
after f ss w = on_word (sections_parser f (32776 - line_count ss)) ss w (word_broken f (line_count ss + 1) ss w)

abbrev pub lines_after : Frame → Sections → Parser Sections
lines_after f ss = sections_parser f (most_lines - line_count ss) ss

more_room : (f : Frame) (ss : Sections) → AreWithinLimits f ss → most_lines - line_count ss ≡ suc (32776 - line_count ss)
more_room f ss within = omega (arith, few_lines f ss within)

one_line : (f : Frame) (k : ℕ) (ss : Sections) (more : Bool) (at : ℕ) (bytes : List ℕ) → sections_parser f (suc k) ss more at bytes ≡ chain (line_parser (line_count ss + 1) []) (λ w. on_word (sections_parser f k) ss w (word_broken f (line_count ss + 1) ss w)) more at bytes
unfolding sections_parser
one_line f k ss more at bytes = refl

pub by_line : (f : Frame) (ss : Sections) → AreWithinLimits f ss → (more : Bool) (at : ℕ) (bytes : List ℕ) → lines_after f ss more at bytes ≡ chain (line_parser (line_count ss + 1) []) (after f ss) more at bytes
by_line f ss within more at bytes = ap (λ (k : ℕ). sections_parser f k ss more at bytes) (more_room f ss within) ∙ one_line f (32776 - line_count ss) ss more at bytes

next_word : (next : Sections → Parser Sections) (ss : Sections) (w : Word) → IsNext w ss → (more : Bool) (at : ℕ) (bytes : List ℕ) → on_word next ss w None more at bytes ≡ next (with_word w ss) more at bytes
next_word next ss words.Analyst n more at bytes = refl
next_word next ss words.End n more at bytes = absurd n
next_word next ss (words.Command c) n more at bytes = refl

line_more : (ss : Sections) (w : Word) → IsNext w ss → line_count (with_word w ss) ≡ line_count ss + 1
line_more ss w n = ap length (words_with w ss n) ∙ length-append (words_of ss) (w ∷ [])

pub goes_on : (f : Frame) (ss : Sections) (w : Word) → IsNext w ss → word_broken f (line_count ss + 1) ss w ≡ None → (more : Bool) (at : ℕ) (bytes : List ℕ) → after f ss w more at bytes ≡ lines_after f (with_word w ss) more at bytes
goes_on f ss w n may more at bytes =
    let room : 32776 - line_count ss ≡ most_lines - line_count (with_word w ss) = omega (arith, line_more ss w n) in
    rw may (next_word (sections_parser f (32776 - line_count ss)) ss w n more at bytes) ∙ ap (λ (k : ℕ). sections_parser f k (with_word w ss) more at bytes) room

-- ---- sections that stand are parsed

last_line : (bytes : List ℕ) (ws : List Word) (w : Word) (rest : List ℕ) → AreLines bytes (ws ++ w ∷ []) rest → (mid : List ℕ) × AreLines bytes ws mid × BeginsLine mid w rest
last_line bytes [] w rest a = (bytes, refl, subst (BeginsLine bytes w) a.2 a.1)
last_line bytes (v ∷ ws) w rest a = let l = last_line a.0 ws w rest a.2 in (l.0, (a.0, a.1, l.1), l.2)

more_lines : (bytes : List ℕ) (ws : List Word) (mid : List ℕ) (w : Word) (rest : List ℕ) → AreLines bytes ws mid → BeginsLine mid w rest → AreLines bytes (ws ++ w ∷ []) rest
more_lines bytes [] mid w rest a b = (rest, subst (λ (t : List ℕ). BeginsLine t w rest) (sym a) b, refl)
more_lines bytes (v ∷ ws) mid w rest a b = (a.0, a.1, more_lines a.0 ws mid w rest a.2 b)

module _ (f : Frame) (more : Bool) (at : ℕ) (bytes : List ℕ) where
  -- the parser goes on after sections
  abbrev GoesTo : Sections → List ℕ → Type 0
  GoesTo ss mid = (end : ℕ) × (end + length mid ≡ at + length bytes) × (lines_parser f more at bytes ≡ lines_after f ss more end mid)

  abbrev Reaches : Sections → Type 0
  Reaches ss = (mid : List ℕ) → AreLines bytes (words_of ss) mid → AreWithinLimits f ss → GoesTo ss mid

  abbrev on : Sections → Parse Word → Parse Sections
  on ss r = and_then r (λ w. after f ss w more)

  reaches_more : (w : Word) (ss : Sections) → IsNext w ss → Reaches ss → Reaches (with_word w ss)
  unfolding chain
  reaches_more w ss next reach mid a within =
      let l = last_line bytes (words_of ss) w mid (subst (λ (ws : List Word). AreLines bytes ws mid) (words_with w ss next) a) in
      let t = takes_word f (line_count ss + 1) w ss next within in
      let g = reach l.0 l.1 t.0 in
      let line = line_begins (line_count ss + 1) more g.0 l.0 w mid l.2 in
      let end : ℕ = (g.0 + length l.2.line) + 1 in
      (end, omega (arith, g.1, ap length l.2.parts, length-append l.2.line (10 ∷ mid)), g.2 ∙ by_line f ss t.0 more g.0 l.0 ∙ ap (on ss) line ∙ goes_on f ss w next t.1 more end mid)

  stands_parsed : (ss : Sections) (mid : List ℕ) → StandBefore f bytes ss mid → GoesTo ss mid
  stands_parsed ss mid b = word_by_word Reaches reaches_more [] ss (λ rest a within. (at, omega (arith, ap length a), ap (lines_parser f more at) a)) mid b.lines b.within

  then_line : (ss : Sections) (mid : List ℕ) → StandBefore f bytes ss mid → (r : Parse Word) → ((place : ℕ) → line_parser (line_count ss + 1) [] more place mid ≡ r) → lines_parser f more at bytes ≡ on ss r
  unfolding chain
  then_line ss mid b r e = let t = stands_parsed ss mid b in t.2 ∙ by_line f ss b.within more t.0 mid ∙ ap (on ss) (e t.0)

module _ (f : Frame) (at : ℕ) (bytes : List ℕ) where
  sections_told : (ss : Sections) (rest : List ℕ) → AreSections f bytes ss rest → Told (lines_parser f) at bytes ss rest
  unfolding chain
  sections_told ss rest a =
      let t = stands_parsed f false at bytes ss a.0 a.1 in
      let line = line_begins (line_count ss + 1) false t.0 a.0 words.End rest a.2 in
      ((t.0 + length a.2.line) + 1, omega (arith, t.1, ap length a.2.parts, length-append a.2.line (10 ∷ rest)), t.2 ∙ by_line f ss a.1.within false t.0 a.0 ∙ ap (on f false at bytes ss) line)

  sections_breaks : (fault : InputFault) → SectionsBreak f bytes fault → lines_parser f false at bytes ≡ broken fault
  unfolding chain
  sections_breaks fault (inl b) = elim b.why [
    | inl n ↦ then_line f false at bytes b.sections b.rest b.before (broken (ScriptLine (line_count b.sections + 1))) (λ place. line_refused _ false place b.rest n.0) ∙ ap broken (sym n.1)
    | inr n ↦ then_line f false at bytes b.sections b.rest b.before (broken NoEnd) (λ place. line_missing _ false place b.rest n.0) ∙ ap broken (sym n.1)
  ]
  sections_breaks fault (inr b) =
      let t = stands_parsed f false at bytes b.sections b.rest b.before in
      t.2 ∙ by_line f b.sections b.before.within false t.0 b.rest ∙ ap (on f false at bytes b.sections) (line_begins (line_count b.sections + 1) false t.0 b.rest b.word b.others b.next) ∙ rw b.broken refl

  sections_ask : SectionsBreak f bytes NoEnd → lines_parser f true at bytes ≡ wants
  sections_ask (inl b) = elim b.why [
    | inl n ↦ absurd (let q = n.1 in cc)
    | inr n ↦ then_line f true at bytes b.sections b.rest b.before wants (λ place. line_missing _ true place b.rest n.0)
  ]
  sections_ask (inr b) = absurd (let q = word_never f (line_count b.sections + 1) b.sections b.word NoEnd b.broken in cc)

-- ---- and what is parsed stands

pub is_end : (w : Word) → (w ≡ words.End) ⊎ (w ≢ words.End)
is_end words.Analyst = inr (λ e. cc)
is_end words.End = inl refl
is_end (words.Command c) = inr (λ e. cc)

module _ (f : Frame) (more : Bool) (at : ℕ) (whole : List ℕ) where
  abbrev SaysLines : Parse Sections → Type 0
  SaysLines = Says (AreSections f) (λ _ bytes. SectionsBreak f bytes) (λ bytes. SectionsBreak f bytes NoEnd) more at whole

  -- the lines of some sections stand before these bytes
  module _ (ss : Sections) (bytes : List ℕ) (place : ℕ) (is : place + length bytes ≡ at + length whole) (before : StandBefore f whole ss bytes) where
    after_line : (next : Sections → Parser Sections) → ((w : Word) (rest : List ℕ) (end : ℕ) → IsNext w ss → end + length rest ≡ at + length whole → StandBefore f whole (with_word w ss) rest → SaysLines (next (with_word w ss) more end rest))
        → (r : Parse Word) → Says BeginsLine (LineBreak (line_count ss + 1)) IsCutLine more place bytes r → SaysLines (and_then r (λ w. on_word next ss w (word_broken f (line_count ss + 1) ss w) more))
    after_line next go (Err e) s = (λ m. inl (record { sections = ss; rest = bytes; before = before; why = s.0 m }), λ m t. inl (record { sections = ss; rest = bytes; before = before; why = inr (s.1 m t, refl) }))
    after_line next go (Ok (w, end, rest)) s = elim (found_or_none (word_broken f (line_count ss + 1) ss w)) [
      | inl (fault, b) ↦ rw b (λ _. inr (record { sections = ss; rest = bytes; word = w; others = rest; before = before; next = s.1; broken = b }), λ _ t. absurd (let q = word_never f (line_count ss + 1) ss w fault b in let k : is_at_end fault ≡ true = ap is_at_end t in cc))
      | inr may ↦ elim (is_end w) [
        | inl e ↦ rw (may, e) (omega (arith, is, s.0), (bytes, before, subst (λ (v : Word). BeginsLine bytes v rest) e s.1))
        | inr other ↦
            let a = adds_word f (line_count ss + 1) w ss before.within other may in
            let now : StandBefore f whole (with_word w ss) rest = record { lines = rw (words_with w ss a.0) (more_lines whole (words_of ss) bytes w rest before.lines s.1); within = a.1 } in
            rw (may, next_word next ss w a.0 more end rest) (go w rest end a.0 (omega (arith, is, s.0)) now)
      ]
    ]

  lines_walk : (k : ℕ) (ss : Sections) (bytes : List ℕ) (place : ℕ) → k + line_count ss ≡ most_lines → place + length bytes ≡ at + length whole → StandBefore f whole ss bytes → SaysLines (sections_parser f k ss more place bytes)
  unfolding chain
  lines_walk zero ss bytes place room is before = absurd (omega (arith, room, few_lines f ss before.within))
  lines_walk (suc k) ss bytes place room is before = rw (one_line f k ss more place bytes) (after_line ss bytes place is before (sections_parser f k)
      (λ w rest end n e now. lines_walk k (with_word w ss) rest end (omega (arith, room, line_more ss w n)) e now)
      (line_parser (line_count ss + 1) [] more place bytes) ((line_means (line_count ss + 1)).says more place bytes))

pub lines_means : (f : Frame) → Means (AreSections f) (λ _ bytes. SectionsBreak f bytes) (λ bytes. SectionsBreak f bytes NoEnd) (lines_parser f)
lines_means f = record {
  told = sections_told f;
  breaks = sections_breaks f;
  asks = sections_ask f;
  says = λ more at bytes. lines_walk f more at bytes most_lines [] bytes at (omega arith) refl (record { lines = refl; within = none_within f });
}

-- ---- how many bytes they take

module _ (f : Frame) where
  after_regular : (next : Sections → Parser Sections) → ((ss : Sections) → Regular 0 1 (next ss)) → (ss : Sections) (w : Word) (o : Option InputFault) → ((e : InputFault) → o ≡ Some e → is_at_end e ≡ false) → Regular 0 1 (on_word next ss w o)
  after_regular next r ss w (Some fault) never = refusing_regular 0 1 (λ _. fault) (λ at e. let q = never fault refl in let k : is_at_end fault ≡ true = ap is_at_end e in cc)
  after_regular next r ss words.Analyst None never = r (with_word words.Analyst ss)
  after_regular next r ss words.End None never = parsed_regular 1 ss
  after_regular next r ss (words.Command c) None never = r (with_word (words.Command c) ss)

  fuelled : (k : ℕ) (ss : Sections) → Regular 1 1 (sections_parser f k ss)
  unfolding sections_parser
  fuelled zero ss = refusing_regular 1 1 (λ _. NoEnd) (λ at e. cc)
  fuelled (suc k) ss =
      chain_regular 1 1 0 1 (line_parser (line_count ss + 1) []) (λ w. on_word (sections_parser f k) ss w (word_broken f (line_count ss + 1) ss w)) (omega arith) (line_regular (line_count ss + 1))
      (λ w. after_regular (sections_parser f k) (λ later. relaxed 1 1 0 1 (sections_parser f k later) (omega arith) (omega arith) (fuelled k later)) ss w (word_broken f (line_count ss + 1) ss w) (word_never f (line_count ss + 1) ss w))

  pub lines_regular : Regular 1 1 (lines_parser f)
  lines_regular = fuelled most_lines []

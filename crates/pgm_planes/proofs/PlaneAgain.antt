-- A plane that is spelled so is read, and a first break is told; and where the end of the bytes is met, others are asked for.
use Rattle.std.proofs.Common.{◌≡◌, ℕ, Bool, suc, ◌+◌, ◌*◌, ◌-◌, ◌≤◌, true, false, ◌⊎◌, List, [], ◌∷◌, ◌++◌, length, None, refl, sym, ap, subst, ◌∙◌, append_assoc, arith, inl, inr}
use Rattle.pgm_planes.proofs.Words.{unless_more, All, list_all, and_parts, cases_lt, length-append, append_cancel_right, recursion_from_All, Sought, PlaneFault, Magic, Form, Size, PhaseMaxval, SampleAbove, Short, Spelling, Raw, Plain, SampleForm, Digits, is_space, is_digit, is_gap, is_number, capped_number, begins, PlaneOf, HasMaxval, IsSizeWithin, AreNumbers, AreSamples, digit_of, HasHeader, IsPlaneEnd, IsSoughtText, SpellsSought, IsSoughtIn, HasNoMagic, BreaksInHeader, BreaksAtMaxval, BreaksInRaster, IsAbove, IsShort, HasOtherMaxval, HasSizeBeyond, SoughtBreak, SoughtAsks, Reading, Reader, ◌⟫◌, ◌▸◌, pure, breaks, nothing, byte_at, octet_at, magic_at, HeaderOf, header_break, unless_broken, header_at, form_of, samples_at, sight_at, end_or, end_at, end_of, raster_at, sought_at}
use Rattle.std.proofs.lemmas.List.{append-nil}
use Rattle.pgm_planes.proofs.HeaderLemmas.{done, seen, seen_then, seen_behind, break_is, not_both, same_value, same_rest, blanks_again}
use Rattle.pgm_planes.proofs.FieldLemmas.{spaced, split_space}
use Rattle.pgm_planes.proofs.NumberLemmas.{header_record, header_pieces}
use Rattle.pgm_planes.proofs.HeaderAgain.{header_again, header_breaks_again}
use Rattle.pgm_planes.proofs.SampleLemmas.{Rastered, EndsSample, heard, heard_or, heard_then, samples_again, above_again, short_again, bad_again}
use Rattle.pgm_planes.proofs.LimitLemmas.{size_told, maxval_told, kept, phase_told, form_told}
use Rattle.pgm_planes.proofs.PlaneLemmas.{magic_again, spelling_cases, lead_of, front_of, front_then, samples_from, are_samples, cut_is, ended_is, digits_alone}
pub use Rattle.pgm_planes.proofs.PlaneWalk.{pixels_some, plane_or_break}

-- what is read of a plane after its header
unfoldable after_header : Spelling → HeaderOf → Reader PlaneOf
after_header spelling h = raster_at spelling h.maxval (h.width * h.height) ▸ λ vs. pure (record { width = h.width; height = h.height; maxval = h.maxval; samples = vs })

-- ---- the header

-- bytes whose header was read: what is read of them is what is read after it, where the limits are kept
record HeaderOver (sought : Sought) (spelling : Spelling) (at : ℕ) (bytes : List ℕ) (w h m place : ℕ) (behind : List ℕ) : Type 0 where
  space : ℕ
  rest : List ℕ
  start : ℕ
  behind_is : behind ≡ space ∷ rest
  spaces : is_space space ≡ true
  start_is : at + length bytes ≡ start + length behind
  reads : (goes : Bool) → sought_at sought goes at bytes ≡ (unless_broken (header_break sought w h m place) (done (header_record w h m) (start + 1) rest) ⟫ λ header. after_header spelling header goes)

module _ (sought : Sought) (spelling : Spelling) (at : ℕ) where
  plane_behind : (goes : Bool) (rest : List ℕ) → sought_at sought goes at (80 ∷ digit_of spelling ∷ rest) ≡ (header_at sought goes (at + 2) rest ⟫ λ header. after_header spelling header goes)
  unfolding sought_at after_header
  plane_behind goes rest = rw (magic_again spelling goes at rest) refl

  pieces_over : (bytes sizes : List ℕ) (w h m : ℕ) (gap digits behind : List ℕ) → bytes ≡ 80 ∷ digit_of spelling ∷ (sizes ++ (gap ++ (digits ++ behind))) → AreNumbers is_gap sizes (w ∷ h ∷ []) → is_gap gap ≡ true → is_number digits ≡ true → m ≡ capped_number digits → begins is_space behind ≡ true → HeaderOver sought spelling at bytes w h m ((at + 2) + length (sizes ++ gap)) behind
  pieces_over bytes sizes w h m gap digits behind whole a g n v b =
      let s = split_space behind b in
      let text : List ℕ = sizes ++ (gap ++ (digits ++ (s.0 ∷ s.1))) in
      let start : ℕ = (at + 2) + length (sizes ++ (gap ++ digits)) in
      let parted : bytes ≡ 80 ∷ digit_of spelling ∷ text = whole ∙ ap (λ (t : List ℕ). 80 ∷ digit_of spelling ∷ (sizes ++ (gap ++ (digits ++ t)))) s.2 in
      record {
        space = s.0;
        rest = s.1;
        start = start;
        behind_is = s.2;
        spaces = s.3;
        start_is = omega (arith, ap length whole, length-append sizes (gap ++ (digits ++ behind)), length-append gap (digits ++ behind), length-append digits behind, length-append sizes (gap ++ digits), length-append gap digits);
        reads = λ goes. ap (sought_at sought goes at) parted ∙ plane_behind goes text ∙ rw (header_again goes sought (at + 2) sizes w h gap digits s.0 s.1 a g n s.3, v) refl;
      }

  header_over : (bytes : List ℕ) (w h m : ℕ) (behind : List ℕ) → HasHeader spelling bytes w h m behind → (place : ℕ) × HeaderOver sought spelling at bytes w h m place behind
  header_over bytes w h m behind d =
      let p = header_pieces spelling bytes w h m behind d in
      ((at + 2) + length (p.sizes ++ p.gap), pieces_over bytes p.sizes w h m p.gap p.digits behind p.whole p.are p.is_a_gap p.is_a_number p.value d.space)

-- ---- breaks before the raster

magic_tells : (goes : Bool) (sought : Sought) (at : ℕ) (bytes : List ℕ) → HasNoMagic bytes → (sought_at sought goes at bytes ≡ breaks Magic) ⊎ ((goes ≡ true) × SoughtAsks sought bytes)
unfolding sought_at magic_at octet_at byte_at
magic_tells true sought at [] n = inr (refl, inl (omega arith))
magic_tells false sought at [] n = inl refl
magic_tells true sought at (a ∷ []) n = inr (refl, inl (omega arith))
magic_tells false sought at (a ∷ []) n = inl refl
magic_tells goes sought at (a ∷ b ∷ bytes) n = inl (elim (spelling_cases a b) [ inl e ↦ rw e refl | inr s ↦ absurd (n s.0 bytes (rw (s.1, s.2) refl)) ])

pub header_tells : (goes : Bool) (sought : Sought) (at : ℕ) (bytes rest : List ℕ) (place : ℕ) → at + length bytes ≡ place + length rest → BreaksInHeader bytes rest → sought_at sought goes at bytes ≡ seen goes rest (breaks (Form place))
header_tells goes sought at bytes rest place e b =
    let same : (at + 2) + length (b.numbers ++ b.part) ≡ place
    = omega (arith, e, ap length b.whole, length-append b.numbers (b.part ++ rest), length-append b.part rest, length-append b.numbers b.part) in
    ap (sought_at sought goes at) b.whole ∙ plane_behind sought b.spelling at goes (b.numbers ++ (b.part ++ rest))
    ∙ rw (header_breaks_again goes sought (at + 2) b.numbers b.values b.part rest b.are b.stuck, same) (seen_then goes rest (breaks (Form place)) (λ header. after_header b.spelling header goes))

pub size_tells : (goes : Bool) (sought : Sought) (at : ℕ) (bytes : List ℕ) (w h : ℕ) → HasSizeBeyond sought bytes w h → sought_at sought goes at bytes ≡ breaks (Size w h)
size_tells goes sought at bytes w h b = let o = header_over sought b.spelling at bytes w h b.maxval b.behind b.header in o.1.reads goes ∙ rw (size_told sought w h b.maxval o.0 b.beyond) refl

pub maxval_tells : (goes : Bool) (sought : Sought) (at : ℕ) (bytes : List ℕ) (m : ℕ) → HasOtherMaxval sought bytes m → sought_at sought goes at bytes ≡ breaks (PhaseMaxval m)
maxval_tells goes sought at bytes m b =
    let o = header_over sought b.spelling at bytes b.width b.height m b.behind b.header in
    o.1.reads goes ∙ rw (maxval_told sought b.width b.height m o.0 b.size ∙ phase_told sought.role m o.0 b.phase b.other) refl

pub other_tells : (goes : Bool) (sought : Sought) (at : ℕ) (bytes rest : List ℕ) (place : ℕ) → at + length bytes ≡ place + length rest → BreaksAtMaxval sought bytes rest → sought_at sought goes at bytes ≡ breaks (Form place)
other_tells goes sought at bytes rest place e b =
    let whole = b.whole ∙ ap (λ (t : List ℕ). 80 ∷ digit_of b.spelling ∷ (b.numbers ++ (b.gap ++ t))) b.maxval in
    let m : ℕ = capped_number b.digits in
    let first : ℕ = (at + 2) + length (b.numbers ++ b.gap) in
    let o = pieces_over sought b.spelling at bytes b.numbers b.width b.height m b.gap b.digits b.behind whole b.are b.is b.number refl b.space in
    let same : first ≡ place = omega (arith, e, ap length b.whole, length-append b.numbers (b.gap ++ rest), length-append b.gap rest, length-append b.numbers b.gap) in
    o.reads goes ∙ rw (maxval_told sought b.width b.height m first b.size ∙ form_told sought.role m first b.other_role b.refused, same) refl

-- ---- the raster

-- what is read of samples, and then of a plane
abbrev then_end : Spelling → ℕ → ℕ → ℕ → Bool → Reading (List ℕ) → Reading PlaneOf
then_end spelling w h m goes r = (r ⟫ λ vs. end_of spelling vs goes) ⟫ λ vs end rest. done (record { width = w; height = h; maxval = m; samples = vs }) end rest

-- bytes with samples behind a good header: what is read of them is what is read of the samples
record SamplesOver (sought : Sought) (spelling : Spelling) (at : ℕ) (bytes : List ℕ) (w h m : ℕ) (vs more : List ℕ) : Type 0 where
  text : List ℕ
  start : ℕ
  are : Rastered (form_of spelling m) text vs
  place : at + length bytes ≡ (start + length text) + length more
  reads : (goes : Bool) → sought_at sought goes at bytes ≡ then_end spelling w h m goes (samples_at (form_of spelling m) m (w * h) 0 goes start (text ++ more))

samples_first : (spelling : Spelling) (w h m n : ℕ) (goes : Bool) (start space : ℕ) (rest : List ℕ) → w * h ≡ suc n → is_space space ≡ true → after_header spelling (header_record w h m) goes (start + 1) rest ≡ then_end spelling w h m goes (samples_at (form_of spelling m) m (w * h) 0 goes (start + length (front_of spelling space)) (lead_of spelling space ++ rest))
unfolding after_header raster_at
samples_first spelling w h m n goes start space rest e s = rw (e, samples_from spelling m n goes start space rest s) refl

samples_over : (sought : Sought) (spelling : Spelling) (at : ℕ) (bytes : List ℕ) (w h m : ℕ) (samples vs more : List ℕ) → HasHeader spelling bytes w h m (samples ++ more) → IsSizeWithin sought.extent w h → HasMaxval sought.role m → AreSamples spelling m samples vs → SamplesOver sought spelling at bytes w h m vs more
samples_over sought spelling at bytes w h m samples vs more d s f a =
    let o = (header_over sought spelling at bytes w h m (samples ++ more) d).1 in
    let place = (header_over sought spelling at bytes w h m (samples ++ more) d).0 in
    let t = are_samples spelling m samples vs more o.space o.rest a o.behind_is in
    let front : List ℕ = front_of spelling o.space in
    let one = pixels_some sought.extent w h s in
    let first : samples ++ more ≡ front ++ (t.0 ++ more) = o.behind_is ∙ sym (front_then spelling o.space o.rest) ∙ ap (λ (x : List ℕ). front ++ x) t.2 in
    let count : w * h ≡ suc (w * h - 1) = omega (arith, one) in
    record {
      text = t.0;
      start = o.start + length front;
      are = t.1;
      place = omega (arith, o.start_is, ap length first, length-append front (t.0 ++ more), length-append t.0 more);
      reads = λ goes. o.reads goes ∙ rw (maxval_told sought w h m place s ∙ kept sought.role m place f) (samples_first spelling w h m (w * h - 1) goes o.start o.space o.rest count o.spaces ∙ ap (λ (x : List ℕ). then_end spelling w h m goes (samples_at (form_of spelling m) m (w * h) 0 goes (o.start + length front) x)) t.2);
    }

-- what asks or breaks ends the plane
module _ (spelling : Spelling) (w h m : ℕ) (goes : Bool) (fault : PlaneFault) where
  heard_end : (form : SampleForm) (rest : List ℕ) → then_end spelling w h m goes (heard form goes rest (breaks fault)) ≡ heard form goes rest (breaks fault)
  heard_end form rest = ap (λ (r : Reading (List ℕ)). r ⟫ λ vs end rest. done (record { width = w; height = h; maxval = m; samples = vs }) end rest) (heard_then form goes rest (breaks fault) (λ vs. end_of spelling vs goes)) ∙ heard_then form goes rest (breaks fault) (λ vs end rest. done (record { width = w; height = h; maxval = m; samples = vs }) end rest)

pub above_tells : (goes : Bool) (sought : Sought) (at : ℕ) (bytes : List ℕ) (index value : ℕ) (b : IsAbove sought bytes index value) → sought_at sought goes at bytes ≡ heard (form_of b.spelling b.maxval) goes b.rest (breaks (SampleAbove index value))
above_tells goes sought at bytes index value b =
    let g = b.good in
    let form = form_of b.spelling b.maxval in
    let o = samples_over sought b.spelling at bytes g.width g.height b.maxval b.samples (b.values ++ value ∷ []) b.rest g.header g.size g.fits b.are in
    o.reads goes
    ∙ ap (then_end b.spelling g.width g.height b.maxval goes) (above_again form b.maxval goes (g.width * g.height) 0 o.start o.text b.values value b.rest o.are (recursion_from_All (λ v. v ≤ b.maxval) b.values g.below) (ended_is b.spelling b.maxval b.rest b.ended) (omega (arith, b.some, b.place, g.pixels_are)) b.above)
    ∙ heard_end b.spelling g.width g.height b.maxval goes (SampleAbove (0 + length b.values) value) form b.rest
    ∙ ap (λ (i : ℕ). heard form goes b.rest (breaks (SampleAbove i value))) (omega (arith, b.place))

pub short_tells : (goes : Bool) (sought : Sought) (at : ℕ) (bytes : List ℕ) (found : ℕ) → IsShort sought bytes found → sought_at sought goes at bytes ≡ unless_more goes (breaks (Short found))
short_tells goes sought at bytes found b =
    let g = b.good in
    let o = samples_over sought b.spelling at bytes g.width g.height b.maxval b.samples b.values b.part g.header g.size g.fits b.are in
    o.reads goes
    ∙ ap (then_end b.spelling g.width g.height b.maxval goes) (short_again (form_of b.spelling b.maxval) b.maxval goes (g.width * g.height) 0 o.start o.text b.values b.part o.are (recursion_from_All (λ v. v ≤ b.maxval) b.values g.below) (cut_is b.spelling b.maxval b.part b.cut) (omega (arith, b.some, b.count, g.pixels_are)))
    ∙ heard_end b.spelling g.width g.height b.maxval goes (Short (0 + length b.values)) Digits []
    ∙ ap (λ (i : ℕ). unless_more goes (breaks (Short i))) (omega (arith, b.count))

-- samples that were all read, and what is read at their end
module _ (goes : Bool) (sought : Sought) (spelling : Spelling) (at : ℕ) (bytes : List ℕ) (w h m : ℕ) (vs more : List ℕ) (o : SamplesOver sought spelling at bytes w h m vs more) (size : IsSizeWithin sought.extent w h) (count : length vs ≡ w * h) (below : All (λ v. v ≤ m) vs) (ends : EndsSample (form_of spelling m) more) where
  all_over : sought_at sought goes at bytes ≡ then_end spelling w h m goes (heard (form_of spelling m) goes more (done vs (o.start + length o.text) more))
  all_over = o.reads goes ∙ ap (then_end spelling w h m goes) (ap (λ (n : ℕ). samples_at (form_of spelling m) m n 0 goes o.start (o.text ++ more)) (sym count)
      ∙ samples_again (form_of spelling m) m goes 0 o.start o.text vs more o.are (recursion_from_All (λ v. v ≤ m) vs below) ends (let one = pixels_some sought.extent w h size in omega (arith, one, count)))

end_breaks : (w h m : ℕ) (goes : Bool) (vs : List ℕ) (at byte : ℕ) (behind more : List ℕ) → more ≡ byte ∷ behind → is_space byte ≡ false → then_end Plain w h m goes (heard Digits goes more (done vs at more)) ≡ breaks (Form at)
unfolding end_at sight_at
end_breaks w h m goes vs at byte behind more e n = rw (e, n) refl

pub raster_tells : (goes : Bool) (sought : Sought) (at : ℕ) (bytes rest : List ℕ) (place : ℕ) → at + length bytes ≡ place + length rest → BreaksInRaster sought bytes rest → sought_at sought goes at bytes ≡ breaks (Form place)
raster_tells goes sought at bytes rest place e b =
    let g = b.good in
    let tail : List ℕ = b.blank ++ (b.byte ∷ b.behind) in
    let stands : b.blank ++ rest ≡ tail = ap (λ (t : List ℕ). b.blank ++ t) b.stands in
    let header = subst (λ (t : List ℕ). HasHeader Plain bytes g.width g.height b.maxval (b.samples ++ t)) stands g.header in
    let o = samples_over sought Plain at bytes g.width g.height b.maxval b.samples b.values tail header g.size g.fits b.are in
    elim (cases_lt (length b.values) b.pixels) [
      | inl lt ↦
          let same : (o.start + length o.text) + length b.blank ≡ place = omega (arith, o.place, e, ap length b.stands, length-append b.blank (b.byte ∷ b.behind)) in
          o.reads goes
          ∙ ap (then_end Plain g.width g.height b.maxval goes) (bad_again b.maxval goes (g.width * g.height) 0 o.start o.text b.values b.blank b.byte b.behind o.are (recursion_from_All (λ v. v ≤ b.maxval) b.values g.below) b.blanks b.no_space b.no_digit (omega (arith, lt, g.pixels_are)))
          ∙ ap (λ (n : ℕ). breaks (Form n)) same
      | inr ge ↦
          let all : length b.values ≡ b.pixels = omega (arith, b.some) in
          let none : tail ≡ b.byte ∷ b.behind = ap (λ (t : List ℕ). t ++ (b.byte ∷ b.behind)) (b.last all) in
          let same : o.start + length o.text ≡ place = omega (arith, o.place, e, ap length b.stands, ap length none) in
          all_over goes sought Plain at bytes g.width g.height b.maxval b.values tail o g.size (all ∙ g.pixels_are) g.below (ap (begins is_digit) none ∙ b.no_digit)
          ∙ end_breaks g.width g.height b.maxval goes b.values (o.start + length o.text) b.byte b.behind tail none b.no_space
          ∙ ap (λ (n : ℕ). breaks (Form n)) same
    ]

-- where the bytes have a first break the reader tells it, or asks for more where they are judged at their end
pub fault_reads : (goes : Bool) (sought : Sought) (at : ℕ) (bytes : List ℕ) (f : PlaneFault) → SoughtBreak sought at bytes f → (sought_at sought goes at bytes ≡ breaks f) ⊎ ((goes ≡ true) × SoughtAsks sought bytes)
fault_reads goes sought at bytes Magic b = magic_tells goes sought at bytes b
fault_reads goes sought at bytes (Form place) b = elim b.2 [
  | inl h ↦ elim (heard_or {A = PlaneOf} Digits goes b.0 (breaks (Form place))) [
    | inl e ↦ inl (header_tells goes sought at bytes b.0 place b.1 h ∙ e)
    | inr k ↦ inr (k.0, inr (inl (subst (BreaksInHeader bytes) k.2 h)))
  ]
  | inr c ↦ inl (elim c [ inl m ↦ other_tells goes sought at bytes b.0 place b.1 m | inr r ↦ raster_tells goes sought at bytes b.0 place b.1 r ])
]
fault_reads goes sought at bytes (Size w h) b = inl (size_tells goes sought at bytes w h b)
fault_reads goes sought at bytes (PhaseMaxval m) b = inl (maxval_tells goes sought at bytes m b)
fault_reads goes sought at bytes (SampleAbove index value) b = elim (heard_or {A = PlaneOf} (form_of b.spelling b.maxval) goes b.rest (breaks (SampleAbove index value))) [
  | inl e ↦ inl (above_tells goes sought at bytes index value b ∙ e)
  | inr k ↦ inr (k.0, inr (inr (inr (inl (record { index = index; value = value; sample = b; plain = digits_alone b.spelling b.maxval k.1; ended = k.2 })))))
]
fault_reads goes sought at bytes (Short found) b = elim (heard_or {A = PlaneOf} Digits goes [] (breaks (Short found))) [
  | inl e ↦ inl (short_tells goes sought at bytes found b ∙ e)
  | inr k ↦ inr (k.0, inr (inr (inl (found, b))))
]

pub break_told : (sought : Sought) (at : ℕ) (bytes : List ℕ) (f : PlaneFault) → SoughtBreak sought at bytes f → sought_at sought false at bytes ≡ breaks f
break_told sought at bytes f b = elim (fault_reads false sought at bytes f b) [ inl e ↦ e | inr k ↦ absurd (let x = k.0 in cc) ]

-- ---- a plane

end_begins : (blank rest : List ℕ) → list_all is_space blank ≡ true → (blank ≡ [] → rest ≡ []) → begins is_digit (blank ++ rest) ≡ false
end_begins [] rest a n = rw (n refl) refl
end_begins (b ∷ blank) rest a n = spaced (b ∷ (blank ++ rest)) (and_parts (is_space b) (list_all is_space blank) a).0

end_ended : (spelling : Spelling) (m : ℕ) (blank rest : List ℕ) → IsPlaneEnd spelling blank rest → EndsSample (form_of spelling m) (blank ++ rest)
end_ended Raw m blank rest e = ended_is Raw m (blank ++ rest) tt
end_ended Plain m blank rest e = end_begins blank rest e.0 e.2

end_of_blanks : (goes : Bool) (at : ℕ) (blank rest : List ℕ) → list_all is_space blank ≡ true → begins is_space rest ≡ false → (blank ≡ [] → rest ≡ []) → end_at goes at (blank ++ rest) ≡ seen goes rest (done nothing (at + length blank) rest)
unfolding end_at sight_at
end_of_blanks goes at [] rest a s n = let place : at + 0 ≡ at = omega arith in rw (n refl, place) (seen_then goes [] (done None at []) (λ g. end_or at g goes))
end_of_blanks goes at (b ∷ blank) rest a s n = rw (and_parts (is_space b) (list_all is_space blank) a).0 (blanks_again goes at (b ∷ blank) rest a s)

end_again : (spelling : Spelling) (w h m : ℕ) (goes : Bool) (vs : List ℕ) (at : ℕ) (blank rest : List ℕ) → IsPlaneEnd spelling blank rest → then_end spelling w h m goes (heard (form_of spelling m) goes (blank ++ rest) (done vs at (blank ++ rest))) ≡ heard (form_of spelling m) goes rest (done (record { width = w; height = h; maxval = m; samples = vs }) (at + length blank) rest)
end_again Raw w h m goes vs at blank rest e =
    let place : at + 0 ≡ at = omega arith in
    rw (e, place) (ap (λ (r : Reading (List ℕ)). r ⟫ λ vs end rest. done (record { width = w; height = h; maxval = m; samples = vs }) end rest) (heard_then (form_of Raw m) goes rest (done vs at rest) (λ vs. end_of Raw vs goes)) ∙ heard_then (form_of Raw m) goes rest (done vs at rest) (λ vs end rest. done (record { width = w; height = h; maxval = m; samples = vs }) end rest))
end_again Plain w h m goes vs at blank rest e =
    let p : PlaneOf = record { width = w; height = h; maxval = m; samples = vs } in
    ap (λ (r : Reading (List ℕ)). r ⟫ λ vs end rest. done (record { width = w; height = h; maxval = m; samples = vs }) end rest) (seen_behind goes blank rest (done vs at (blank ++ rest)) (λ vs. end_of Plain vs goes) (done vs (at + length blank) rest) (rw (end_of_blanks goes at blank rest e.0 e.1 e.2) (seen_then goes rest (done nothing (at + length blank) rest) (λ _. pure vs goes))))
    ∙ seen_then goes rest (done vs (at + length blank) rest) (λ vs end rest. done (record { width = w; height = h; maxval = m; samples = vs }) end rest)

begins_more : (xs ys : List ℕ) → begins is_space xs ≡ true → begins is_space (xs ++ ys) ≡ true
begins_more [] ys h = absurd cc
begins_more (x ∷ xs) ys h = h

pub plane_again : (goes : Bool) (sought : Sought) (spelling : Spelling) (at : ℕ) (text : List ℕ) (p : PlaneOf) (rest : List ℕ) → IsSoughtText spelling sought text p rest → sought_at sought goes at (text ++ rest) ≡ heard (form_of spelling p.maxval) goes rest (done p (at + length text) rest)
plane_again goes sought spelling at text p rest t =
    let d = t.header in
    let regroup : (t.samples ++ t.end) ++ rest ≡ t.samples ++ (t.end ++ rest) = append_assoc t.samples t.end rest in
    let header : HasHeader spelling (text ++ rest) p.width p.height p.maxval (t.samples ++ (t.end ++ rest)) = record {
      numbers = d.numbers;
      whole = ap (λ (x : List ℕ). x ++ rest) d.whole ∙ ap (λ (x : List ℕ). 80 ∷ digit_of spelling ∷ x) (append_assoc d.numbers (t.samples ++ t.end) rest ∙ ap (λ (x : List ℕ). d.numbers ++ x) regroup);
      are = d.are;
      space = ap (begins is_space) (sym regroup) ∙ begins_more (t.samples ++ t.end) rest d.space;
    } in
    let o = samples_over sought spelling at (text ++ rest) p.width p.height p.maxval t.samples p.samples (t.end ++ rest) header t.plane.size t.plane.maxval t.raster in
    let last : (o.start + length o.text) + length t.end ≡ at + length text = omega (arith, o.place, length-append text rest, length-append t.end rest) in
    all_over goes sought spelling at (text ++ rest) p.width p.height p.maxval p.samples (t.end ++ rest) o t.plane.size t.plane.count t.plane.samples (end_ended spelling p.maxval t.end rest t.ended)
    ∙ end_again spelling p.width p.height p.maxval goes p.samples (o.start + length o.text) t.end rest t.ended
    ∙ ap (λ (n : ℕ). heard (form_of spelling p.maxval) goes rest (done p n rest)) last

-- a plane's text is read as the plane, and what follows is left; or more is asked for at its end
pub plane_reads : (goes : Bool) (sought : Sought) (at : ℕ) (text : List ℕ) (p : PlaneOf) (rest : List ℕ) → SpellsSought sought text p rest → (sought_at sought goes at (text ++ rest) ≡ done p (at + length text) rest) ⊎ ((goes ≡ true) × (rest ≡ []) × SoughtAsks sought (text ++ rest))
plane_reads goes sought at text p rest s = elim (heard_or (form_of s.0 p.maxval) goes rest (done p (at + length text) rest)) [
  | inl e ↦ inl (plane_again goes sought s.0 at text p rest s.1 ∙ e)
  | inr k ↦
      let whole : text ≡ text ++ rest = sym (ap (λ (t : List ℕ). text ++ t) k.2 ∙ append-nil text) in
      inr (k.0, k.2, inr (inr (inr (inr (p, subst (λ (t : List ℕ). IsSoughtText Plain sought t p []) whole (rw (← k.2, ← digits_alone s.0 p.maxval k.1) s.1))))))
]

pub plane_told : (sought : Sought) (at : ℕ) (text : List ℕ) (p : PlaneOf) (rest : List ℕ) → SpellsSought sought text p rest → sought_at sought false at (text ++ rest) ≡ done p (at + length text) rest
plane_told sought at text p rest s = elim (plane_reads false sought at text p rest s) [ inl e ↦ e | inr k ↦ absurd (let x = k.0 in cc) ]

-- ---- the laws

-- bytes have one text of a plane in front, which spells one plane
pub one_plane : (sought : Sought) (text x other y : List ℕ) (p q : PlaneOf) → SpellsSought sought text p x → SpellsSought sought other q y → text ++ x ≡ other ++ y → (text ≡ other) × (p ≡ q)
one_plane sought text x other y p q r s e =
    let both : done p (0 + length text) x ≡ done q (0 + length other) y = sym (plane_told sought 0 text p x r) ∙ ap (sought_at sought false 0) e ∙ plane_told sought 0 other q y s in
    let rest = same_rest p q (0 + length text) (0 + length other) x y both in
    (append_cancel_right text other x (e ∙ ap (λ (t : List ℕ). other ++ t) (sym rest)), same_value p q (0 + length text) (0 + length other) x y both)

pub one_break : (sought : Sought) (at : ℕ) (bytes : List ℕ) (e f : PlaneFault) → SoughtBreak sought at bytes e → SoughtBreak sought at bytes f → e ≡ f
one_break sought at bytes e f a b = break_is {A = PlaneOf} e f (sym (break_told sought at bytes e a) ∙ break_told sought at bytes f b)

pub no_break_of_plane : (sought : Sought) (at : ℕ) (bytes : List ℕ) (p : PlaneOf) (rest : List ℕ) (fault : PlaneFault) → IsSoughtIn sought bytes p rest → SoughtBreak sought at bytes fault → ⊥
no_break_of_plane sought at bytes p rest fault i b =
    not_both p (at + length i.0) rest fault (sym (plane_told sought at i.0 p rest i.2) ∙ ap (sought_at sought false at) (sym i.1) ∙ break_told sought at bytes fault b)

-- Bytes begin with a plane's text, or have a first break.
use Rattle.std.proofs.Common.{◌≡◌, ℕ, ◌+◌, ◌*◌, ◌≤◌, true, false, ◌⊎◌, List, [], ◌∷◌, ◌++◌, length, refl, sym, ap, subst, ◌∙◌, append_assoc, arith, inl, inr}
use Rattle.pgm_planes.proofs.Words.{cases_Bool, length-append, All-from_recursion, mul-le, list_all, ◌≢◌, Extent, Sought, Phase, PlaneFault, Magic, Form, Size, PhaseMaxval, Short, SampleAbove, Spelling, Raw, Plain, is_space, is_digit, is_gap, begins, PlaneOf, HasMaxval, IsSizeWithin, AreNumbers, digit_of, HasHeader, AreSamples, IsPlaneEnd, IsSoughtIn, HasSamples, SoughtBreak, form_of}
use Rattle.pgm_planes.proofs.HeaderLemmas.{passing}
use Rattle.pgm_planes.proofs.FieldLemmas.{blank_spaced, split_space, IsStuck}
use Rattle.pgm_planes.proofs.NumberLemmas.{header_pieces, fields_parts}
use Rattle.pgm_planes.proofs.SampleLemmas.{AllBelow, Rastered, EndsSample, rastered_append, Samples, samples_parts}
use Rattle.pgm_planes.proofs.LimitLemmas.{size_or_not, maxval_or_not, phase_or_not}
use Rattle.pgm_planes.proofs.PlaneLemmas.{magic_walk, lead_of, front_of, front_then, lead_ends, samples_are, has_ended, is_cut, digits_alone}

abbrev pub PlaneOrFault : Sought → ℕ → List ℕ → Type 0
PlaneOrFault sought at bytes = ((p : PlaneOf) × (rest : List ℕ) × IsSoughtIn sought bytes p rest) ⊎ ((fault : PlaneFault) × SoughtBreak sought at bytes fault)

-- ---- after a good header

record Headed (sought : Sought) (spelling : Spelling) (bytes : List ℕ) (w h m space : ℕ) (rest : List ℕ) : Type 0 where
  header : HasHeader spelling bytes w h m (space ∷ rest)
  spaces : is_space space ≡ true
  size : IsSizeWithin sought.extent w h
  fits : HasMaxval sought.role m

pub pixels_some : (extent : Extent) (w h : ℕ) → IsSizeWithin extent w h → 1 ≤ w * h
pixels_some extent w h s = let p = mul-le 1 1 w h s.across.0 s.along.0 in omega (arith, p)

samples_begin : (spelling : Spelling) (m : ℕ) (samples vs more : List ℕ) → 1 ≤ length vs → AreSamples spelling m samples vs → begins is_space (samples ++ more) ≡ true
samples_begin Raw m samples vs more one a = rw a.2 a.3
samples_begin Plain m samples [] more one a = absurd (omega arith)
samples_begin Plain m samples (v ∷ vs) more one a = rw (a.3, append_assoc a.0 (a.1 ++ a.2) more) (blank_spaced a.0 ((a.1 ++ a.2) ++ more) a.4)

-- a plain raster breaks at a byte behind good samples
raster_break : (sought : Sought) (spelling : Spelling) (at : ℕ) (bytes samples values blank : List ℕ) (byte : ℕ) (behind : List ℕ) (m pixels : ℕ) → spelling ≡ Plain → HasSamples spelling sought bytes samples values (blank ++ byte ∷ behind) m pixels → AreSamples spelling m samples values → length values ≤ pixels → (length values ≡ pixels → blank ≡ []) → list_all is_space blank ≡ true → is_space byte ≡ false → is_digit byte ≡ false
    → (f : PlaneFault) × SoughtBreak sought at bytes f
raster_break sought Raw at bytes samples values blank byte behind m pixels e g are some last blanks no_space no_digit = absurd cc
raster_break sought Plain at bytes samples values blank byte behind m pixels e g are some last blanks no_space no_digit = (
  Form ((at + 2) + (length g.header.numbers + (length samples + length blank))),
  (
    byte ∷ behind,
    omega (arith, ap length g.header.whole, length-append g.header.numbers (samples ++ (blank ++ byte ∷ behind)), length-append samples (blank ++ byte ∷ behind), length-append blank (byte ∷ behind)),
    inr (inr (record { samples = samples; values = values; blank = blank; byte = byte; behind = behind; maxval = m; pixels = pixels; good = g; are = are; some = some; blanks = blanks; last = last; stands = refl; no_space = no_space; no_digit = no_digit })),
  ),
)

-- what follows the last sample of a plain raster
end_parts : (bytes : List ℕ) → ((byte : ℕ) × (behind : List ℕ) × (bytes ≡ byte ∷ behind) × (is_space byte ≡ false)) ⊎ ((blank : List ℕ) × (rest : List ℕ) × (bytes ≡ blank ++ rest) × IsPlaneEnd Plain blank rest)
end_parts [] = inr ([], [], refl, (refl, refl, λ _. refl))
end_parts (b ∷ bytes) = elim (cases_Bool (is_space b)) [
  | inr n ↦ inl (b, bytes, refl, n)
  | inl y ↦ let p = passing is_space bytes in inr (b ∷ p.front, p.rest, ap (λ (t : List ℕ). b ∷ t) p.parts, (rw (y, p.all) refl, p.stops, λ e. absurd cc))
]

module _ (sought : Sought) (spelling : Spelling) (at : ℕ) (bytes : List ℕ) (w h m space : ℕ) (rest : List ℕ) (d : Headed sought spelling bytes w h m space rest) where
  regrouped : (samples more : List ℕ) → lead_of spelling space ++ rest ≡ samples ++ more → (front_of spelling space ++ samples) ++ more ≡ space ∷ rest
  regrouped samples more e = append_assoc (front_of spelling space) samples more ∙ ap (λ (t : List ℕ). front_of spelling space ++ t) (sym e) ∙ front_then spelling space rest

  good_samples : (samples vs more : List ℕ) → lead_of spelling space ++ rest ≡ samples ++ more → AllBelow m vs → HasSamples spelling sought bytes (front_of spelling space ++ samples) vs more m (w * h)
  good_samples samples vs more e b = record {
    width = w;
    height = h;
    header = subst (HasHeader spelling bytes w h m) (sym (regrouped samples more e)) d.header;
    size = d.size;
    pixels_are = refl;
    fits = d.fits;
    below = All-from_recursion (λ v. v ≤ m) vs b;
  }

  text_stands : (samples vs blank more : List ℕ) → lead_of spelling space ++ rest ≡ samples ++ (blank ++ more) → Rastered (form_of spelling m) samples vs → AllBelow m vs → length vs ≡ w * h → IsPlaneEnd spelling blank more → PlaneOrFault sought at bytes
  text_stands samples vs blank more parts are below count ends =
      let front : List ℕ = front_of spelling space ++ samples in
      let spelled = samples_are spelling m space samples vs d.spaces are in
      let one : 1 ≤ length vs = let p = pixels_some sought.extent w h d.size in omega (arith, p, count) in
      let numbers : List ℕ = d.header.numbers in
      let behind : space ∷ rest ≡ (front ++ blank) ++ more = sym (append_assoc front blank more ∙ regrouped samples (blank ++ more) parts) in
      inl (
        record { width = w; height = h; maxval = m; samples = vs },
        more,
        (
          80 ∷ digit_of spelling ∷ (numbers ++ (front ++ blank)),
          d.header.whole ∙ ap (λ (x : List ℕ). 80 ∷ digit_of spelling ∷ x) (ap (λ (x : List ℕ). numbers ++ x) behind ∙ sym (append_assoc numbers (front ++ blank) more)),
          (
            spelling,
            record {
              samples = front;
              end = blank;
              header = record { numbers = numbers; whole = refl; are = d.header.are; space = samples_begin spelling m front vs blank one spelled };
              raster = spelled;
              ended = ends;
              plane = record { size = d.size; maxval = d.fits; count = count; samples = All-from_recursion (λ v. v ≤ m) vs below };
            },
          ),
        ),
      )

all_stand : (sought : Sought) (spelling : Spelling) (at : ℕ) (bytes : List ℕ) (w h m space : ℕ) (rest : List ℕ) → Headed sought spelling bytes w h m space rest → (q : Samples (form_of spelling m) m (w * h) (lead_of spelling space ++ rest)) → length q.values ≡ w * h → EndsSample (form_of spelling m) q.rest → PlaneOrFault sought at bytes
all_stand sought Raw at bytes w h m space rest d q count ends = text_stands sought Raw at bytes w h m space rest d q.samples q.values [] q.rest q.parts q.are q.below count refl
all_stand sought Plain at bytes w h m space rest d q count ends = elim (end_parts q.rest) [
  | inr k ↦ text_stands sought Plain at bytes w h m space rest d q.samples q.values k.0 k.1 (q.parts ∙ ap (λ (t : List ℕ). q.samples ++ t) k.2) q.are q.below count k.3
  | inl b ↦ inr (raster_break sought Plain at bytes q.samples q.values [] b.0 b.1 m (w * h) refl (good_samples sought Plain at bytes w h m space rest d q.samples q.values (b.0 ∷ b.1) (q.parts ∙ ap (λ (t : List ℕ). q.samples ++ t) b.2) q.below) q.are (omega (arith, count)) (λ _. refl) refl b.3 (ap (begins is_digit) (sym b.2) ∙ ends))
]

raster_parts : (sought : Sought) (spelling : Spelling) (at : ℕ) (bytes : List ℕ) (w h m space : ℕ) (rest : List ℕ) → Headed sought spelling bytes w h m space rest → PlaneOrFault sought at bytes
raster_parts sought spelling at bytes w h m space rest d =
    let q = samples_parts (form_of spelling m) m (w * h) (lead_of spelling space ++ rest) (lead_ends spelling m space rest d.spaces) in
    let front : List ℕ = front_of spelling space ++ q.samples in
    let good = good_samples sought spelling at bytes w h m space rest d in
    let are = samples_are spelling m space q.samples q.values d.spaces q.are in
    elim q.behind [
      | inl all ↦ all_stand sought spelling at bytes w h m space rest d q (omega (arith, q.count, all.0)) all.1
      | inr k ↦ inr (elim k.1 [
        | inl none ↦ elim none [
          | inl cut ↦ (
            Short (length q.values),
            record { spelling = spelling; samples = front; values = q.values; part = q.rest; maxval = m; pixels = w * h; good = good q.samples q.values q.rest q.parts q.below; are = are; cut = is_cut spelling m q.rest cut; count = refl; some = omega (arith, q.count, k.0) },
          )
          | inr bad ↦
              let b = bad.1 in
              raster_break sought spelling at bytes front q.values b.blank b.byte b.behind m (w * h) (digits_alone spelling m bad.0) (good q.samples q.values (b.blank ++ b.byte ∷ b.behind) (q.parts ∙ ap (λ (t : List ℕ). q.samples ++ t) b.parts) q.below) are
              (omega (arith, q.count)) (λ all. absurd (omega (arith, q.count, k.0, all))) b.blanks b.no_space b.no_digit
        ]
        | inr above ↦
            let s = above.0 in
            let whole : lead_of spelling space ++ rest ≡ (q.samples ++ s.text) ++ s.rest = q.parts ∙ ap (λ (t : List ℕ). q.samples ++ t) s.parts ∙ sym (append_assoc q.samples s.text s.rest) in (
              SampleAbove (length q.values) s.value,
              record {
                spelling = spelling;
                samples = front_of spelling space ++ (q.samples ++ s.text);
                values = q.values;
                rest = s.rest;
                maxval = m;
                pixels = w * h;
                good = good (q.samples ++ s.text) q.values s.rest whole q.below;
                are = samples_are spelling m space (q.samples ++ s.text) (q.values ++ s.value ∷ []) d.spaces (rastered_append (form_of spelling m) q.samples q.values s.text (s.value ∷ []) q.are s.is);
                ended = has_ended spelling m s.rest s.ends;
                place = refl;
                some = omega (arith, q.count, k.0);
                above = above.1;
              },
            )
      ])
    ]

-- ---- the header

-- the sizes are good and the maxval is not
other_break : (sought : Sought) (spelling : Spelling) (at : ℕ) (bytes : List ℕ) (w h m : ℕ) (behind : List ℕ) → sought.role ≢ Phase → HasHeader spelling bytes w h m behind → IsSizeWithin sought.extent w h → (HasMaxval sought.role m → ⊥) → (f : PlaneFault) × SoughtBreak sought at bytes f
other_break sought spelling at bytes w h m behind other d s n =
    let p = header_pieces spelling bytes w h m behind d in (
      Form ((at + 2) + (length p.sizes + length p.gap)),
      (
        p.digits ++ behind,
        omega (arith, ap length p.whole, length-append p.sizes (p.gap ++ (p.digits ++ behind)), length-append p.gap (p.digits ++ behind)),
        inr (inl (record {
          spelling = spelling;
          numbers = p.sizes;
          width = w;
          height = h;
          gap = p.gap;
          digits = p.digits;
          behind = behind;
          whole = p.whole;
          are = p.are;
          is = p.is_a_gap;
          maxval = refl;
          number = p.is_a_number;
          space = d.space;
          size = s;
          other_role = other;
          refused = λ fits. n (subst (HasMaxval sought.role) (sym p.value) fits);
        })),
      ),
    )

maxval_break : (sought : Sought) (spelling : Spelling) (at : ℕ) (bytes : List ℕ) (w h m : ℕ) (behind : List ℕ) → HasHeader spelling bytes w h m behind → IsSizeWithin sought.extent w h → (HasMaxval sought.role m → ⊥) → (f : PlaneFault) × SoughtBreak sought at bytes f
maxval_break sought spelling at bytes w h m behind d s n = elim (phase_or_not sought.role) [
  | inl phase ↦ (PhaseMaxval m, record { spelling = spelling; width = w; height = h; behind = behind; header = d; size = s; phase = phase; other = λ e. n (rw (phase, e) refl) })
  | inr other ↦ other_break sought spelling at bytes w h m behind other d s n
]

header_parts : (sought : Sought) (spelling : Spelling) (at : ℕ) (bytes : List ℕ) (w h m : ℕ) (behind : List ℕ) → HasHeader spelling bytes w h m behind → PlaneOrFault sought at bytes
header_parts sought spelling at bytes w h m behind d = elim (size_or_not sought.extent w h) [
  | inr b ↦ inr (Size w h, record { spelling = spelling; maxval = m; behind = behind; header = d; beyond = b })
  | inl s ↦ elim (maxval_or_not sought.role m) [
    | inl f ↦ let k = split_space behind d.space in raster_parts sought spelling at bytes w h m k.0 k.1 (record { header = subst (HasHeader spelling bytes w h m) k.2 d; spaces = k.3; size = s; fits = f })
    | inr n ↦ inr (maxval_break sought spelling at bytes w h m behind d s n)
  ]
]

numbers_parts : (sought : Sought) (spelling : Spelling) (at : ℕ) (bytes values numbers behind : List ℕ) → bytes ≡ 80 ∷ digit_of spelling ∷ (numbers ++ behind) → length values ≡ 3 → AreNumbers is_gap numbers values → begins is_space behind ≡ true → PlaneOrFault sought at bytes
numbers_parts sought spelling at bytes [] numbers behind whole n a s = absurd cc
numbers_parts sought spelling at bytes (w ∷ []) numbers behind whole n a s = absurd cc
numbers_parts sought spelling at bytes (w ∷ h ∷ []) numbers behind whole n a s = absurd cc
numbers_parts sought spelling at bytes (w ∷ h ∷ m ∷ []) numbers behind whole n a s = header_parts sought spelling at bytes w h m behind (record { numbers = numbers; whole = whole; are = a; space = s })
numbers_parts sought spelling at bytes (w ∷ h ∷ m ∷ v ∷ values) numbers behind whole n a s = absurd (omega (arith, n))

magic_parts : (sought : Sought) (spelling : Spelling) (at : ℕ) (rest : List ℕ) → PlaneOrFault sought at (80 ∷ digit_of spelling ∷ rest)
magic_parts sought spelling at rest =
    let r = fields_parts 3 0 rest refl (λ one. absurd (omega arith)) in
    elim r.behind [
      | inr k ↦ numbers_parts sought spelling at (80 ∷ digit_of spelling ∷ rest) r.values r.numbers r.rest (ap (λ (t : List ℕ). 80 ∷ digit_of spelling ∷ t) r.parts) k.0 r.are k.1
      | inl b ↦
          let parts : rest ≡ r.numbers ++ (b.part ++ b.rest) = r.parts ∙ ap (λ (t : List ℕ). r.numbers ++ t) b.parts in
          inr (
            Form ((at + 2) + (length r.numbers + length b.part)),
            (
              b.rest,
              omega (arith, ap length parts, length-append r.numbers (b.part ++ b.rest), length-append b.part b.rest),
              inl (record { spelling = spelling; numbers = r.numbers; values = r.values; part = b.part; whole = ap (λ (t : List ℕ). 80 ∷ digit_of spelling ∷ t) parts; are = r.are; stuck = subst (λ (k : ℕ). IsStuck k b.part b.rest) (omega (arith, r.count_is)) b.stuck }),
            ),
          )
    ]

pub plane_or_break : (sought : Sought) (at : ℕ) (bytes : List ℕ) → PlaneOrFault sought at bytes
plane_or_break sought at bytes = elim (magic_walk bytes) [
  | inl n ↦ inr (Magic, n)
  | inr s ↦ subst (PlaneOrFault sought at) (sym s.2) (magic_parts sought s.0 at s.1)
]

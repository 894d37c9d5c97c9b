-- A line spells one word at most, and whether it spells any can be told: a reader of a line, and of its numbers, that is the relation.
use Rattle.std.proofs.Common.{◌≡◌, ℕ, ◌+◌, ◌*◌, ◌-◌, true, false, ◌⊎◌, inl, inr, List, [], ◌∷◌, ◌++◌, length, take, drop, Option, Some, None, suc, refl, sym, ap, subst, arith, eqb, get_or, ◌∙◌}
use Rattle.std.specs.List.{prefix_len, list_all}
use Rattle.std.proofs.lemmas.Bool.{and_parts, eqb-true, cases_Bool}
use Rattle.std.proofs.lemmas.List.{take-append-drop, append-nil, append_cancel_left}
use Rattle.std.proofs.Math.Seq.{take-append_seam, drop-append_seam}
use Rattle.raster_model.specs.declared.script.Rect.{Rect}
use Rattle.pgm_planes.specs.Gaps.{is_digit, begins, is_number, goes_on_to, capped_number}
use Rattle.pgm_planes.specs.Reading.{with_digit}
use Rattle.pgm_planes.proofs.HeaderLemmas.{capped}
use Rattle.session_script.specs.Lines.{is_plain, rect_by, SpellsRect, SpellsEdit, Spells}
use Rattle.session_script.specs.Fields.{digits_in, plain_number_in, field_in, if_given, rect_unless, rect_in, after_name, if_ends, of_rect, of_fields, or_else, masks, unmasks, word_in}
use Rattle.std.specs.Prelude.{codes, ◌≢◌}
use Rattle.raster_model.specs.declared.script.Command.TheVariants.{Change, Settle, Show}
use Rattle.raster_model.specs.declared.script.Edit.TheVariants.{Mask, Unmask}
use Rattle.session_script.specs.declared.word.Word.{Word}
use Rattle.session_script.specs.declared.word.Word.TheVariants as words
use Rattle.std.specs.Borrow.{Bor}
use Rattle.std.specs.Cmp.Lexicographic.{pointwise}
use Rattle.std.proofs.lemmas.Bool.Decides.{Decides-eqb}
use Rattle.std.proofs.lemmas.Slice.Eq.{strip_prefix_is}
use Rattle.raster_model.specs.declared.script.Edit.{Edit}

-- ---- numbers

-- the number that digits make after n, capped at each of them
abbrev pub counted : ℕ → List ℕ → ℕ
counted n [] = n
counted n (b ∷ bs) = counted (with_digit n b) bs

counted_on : (n m : ℕ) (bs : List ℕ) → n ≡ capped m → counted n bs ≡ capped (goes_on_to m bs)
counted_on n m [] e = e
counted_on n m (b ∷ bs) e = counted_on (with_digit n b) (10 * m + (b - 48)) bs (omega arith)

pub counted_is : (bs : List ℕ) → counted 0 bs ≡ capped_number bs
counted_is bs = counted_on 0 0 bs refl

-- ---- the digits in front

pub found_or_none : {A : Type 0} (o : Option A) → ((x : A) × (o ≡ Some x)) ⊎ (o ≡ None)
found_or_none None = inr refl
found_or_none (Some x) = inl (x, refl)

pub front_digits : (bytes : List ℕ) → list_all is_digit (take (digits_in bytes) bytes) ≡ true
unfolding digits_in
front_digits [] = refl
front_digits (b ∷ bytes) =
    let one : 1 + prefix_len is_digit bytes ≡ suc (prefix_len is_digit bytes) = omega arith in
    elim (cases_Bool (is_digit b)) [
      | inl e ↦ rw (e, one, e) (front_digits bytes)
      | inr e ↦ rw e refl
    ]

pub behind_digits : (bytes : List ℕ) → begins is_digit (drop (digits_in bytes) bytes) ≡ false
unfolding digits_in
behind_digits [] = refl
behind_digits (b ∷ bytes) =
    let one : 1 + prefix_len is_digit bytes ≡ suc (prefix_len is_digit bytes) = omega arith in
    elim (cases_Bool (is_digit b)) [
      | inl e ↦ rw (e, one) (behind_digits bytes)
      | inr e ↦ rw (e, e) refl
    ]

digits_before : (digits rest : List ℕ) → list_all is_digit digits ≡ true → begins is_digit rest ≡ false → digits_in (digits ++ rest) ≡ length digits
unfolding digits_in
digits_before [] [] a b = refl
digits_before [] (x ∷ rest) a b = rw b refl
digits_before (d ∷ digits) rest a b =
    let p = and_parts (is_digit d) (list_all is_digit digits) a in
    rw p.0 (let e = digits_before digits rest p.1 b in omega (arith, e))

-- ---- a plain number in front

pub all_digits : (digits : List ℕ) → is_plain digits ≡ true → list_all is_digit digits ≡ true
all_digits [] p = absurd cc
all_digits (d ∷ digits) p = (and_parts (is_number (d ∷ digits)) _ p).0

pub record HasNumber (bytes : List ℕ) (found : ℕ × List ℕ) : Type 0 where
  pub digits : List ℕ
  pub parts : bytes ≡ digits ++ found.1
  pub plain : is_plain digits ≡ true
  pub value : found.0 ≡ capped_number digits

number_found : (bytes : List ℕ) (found : ℕ × List ℕ) → plain_number_in bytes ≡ Some found → HasNumber bytes found
unfolding plain_number_in
number_found bytes found e =
    let digits = take (digits_in bytes) bytes in
    elim (cases_Bool (is_plain digits)) [
      | inl p ↦
          let same : found ≡ (capped_number digits, drop (digits_in bytes) bytes) = (let q = rw p at e in cc) in
          rw same (record { digits = digits; parts = sym (take-append-drop (digits_in bytes) bytes); plain = p; value = refl })
      | inr p ↦ absurd (let q = rw p at e in cc)
    ]

number_again : (digits rest : List ℕ) → is_plain digits ≡ true → begins is_digit rest ≡ false → plain_number_in (digits ++ rest) ≡ Some (capped_number digits, rest)
unfolding plain_number_in
number_again digits rest p s =
    let count = digits_before digits rest (all_digits digits p) s in
    rw (count, take-append_seam digits rest, drop-append_seam digits rest, p) refl

field_found : (bytes : List ℕ) (found : ℕ × List ℕ) → field_in bytes ≡ Some found → (more : List ℕ) × (bytes ≡ 32 ∷ more) × HasNumber more found
unfolding field_in
field_found [] found e = absurd cc
field_found (b ∷ bytes) found e = elim (cases_Bool (eqb b 32)) [
  | inl t ↦ (bytes, ap (λ (x : ℕ). x ∷ bytes) (eqb-true b 32 t), number_found bytes found (rw t at e))
  | inr t ↦ absurd (let q = rw t at e in cc)
]

field_again : (digits rest : List ℕ) → is_plain digits ≡ true → begins is_digit rest ≡ false → field_in (32 ∷ (digits ++ rest)) ≡ Some (capped_number digits, rest)
unfolding field_in
field_again digits rest p s = number_again digits rest p s

-- ---- a rectangle

rect_ends : (x0 y0 x1 y1 : ℕ) (rest : List ℕ) (r : Rect) → rect_unless x0 y0 x1 y1 rest ≡ Some r → (rest ≡ []) × (r ≡ rect_by x0 y0 x1 y1)
rect_ends x0 y0 x1 y1 [] r e = (refl, (cc))
rect_ends x0 y0 x1 y1 (b ∷ rest) r e = absurd cc

abbrev Field : List ℕ → ℕ × List ℕ → Type 0
Field bytes found = (more : List ℕ) × (bytes ≡ 32 ∷ more) × HasNumber more found

rect_by_fields : (bytes : List ℕ) (r : Rect) (a b c d : ℕ × List ℕ) → Field bytes a → Field a.1 b → Field b.1 c → Field c.1 d → (d.1 ≡ []) × (r ≡ rect_by a.0 b.0 c.0 d.0) → SpellsRect bytes r
rect_by_fields bytes r a b c d p q s t end = record {
  left = p.2.digits;
  top = q.2.digits;
  right = s.2.digits;
  bottom = t.2.digits;
  parts = rw (p.1, p.2.parts, q.1, q.2.parts, s.1, s.2.parts, t.1, t.2.parts, end.0, append-nil t.2.digits) refl;
  plain = (p.2.plain, q.2.plain, s.2.plain, t.2.plain);
  corners = rw (end.1, p.2.value, q.2.value, s.2.value, t.2.value) refl;
}

given : {A B : Type 0} (o : Option A) (f : A → Option B) (y : B) → if_given o f ≡ Some y → (x : A) × (o ≡ Some x) × (f x ≡ Some y)
given None f y e = absurd cc
given (Some x) f y e = (x, refl, e)

pub rect_found : (bytes : List ℕ) (r : Rect) → rect_in bytes ≡ Some r → SpellsRect bytes r
unfolding rect_in
rect_found bytes r e =
    let a = given (field_in bytes) _ r e in
    let b = given (field_in a.0.1) _ r a.2 in
    let c = given (field_in b.0.1) _ r b.2 in
    let d = given (field_in c.0.1) _ r c.2 in
    rect_by_fields bytes r a.0 b.0 c.0 d.0 (field_found bytes a.0 a.1) (field_found a.0.1 b.0 b.1) (field_found b.0.1 c.0 c.1) (field_found c.0.1 d.0 d.1) (rect_ends a.0.0 b.0.0 c.0.0 d.0.0 d.0.1 r d.2)

-- what stands after a number's digits is no digit
pub rect_again : (bytes : List ℕ) (r : Rect) → SpellsRect bytes r → rect_in bytes ≡ Some r
unfolding rect_in
rect_again bytes r s =
    let bottom : s.bottom ++ [] ≡ s.bottom = append-nil s.bottom in
    let last : field_in (32 ∷ s.bottom) ≡ Some (capped_number s.bottom, []) = subst (λ (t : List ℕ). field_in (32 ∷ t) ≡ Some (capped_number s.bottom, [])) bottom (field_again s.bottom [] s.plain.3 refl) in
    rw (
      s.parts,
      field_again s.left (32 ∷ (s.top ++ (32 ∷ (s.right ++ (32 ∷ s.bottom))))) s.plain.0 refl,
      field_again s.top (32 ∷ (s.right ++ (32 ∷ s.bottom))) s.plain.1 refl,
      field_again s.right (32 ∷ s.bottom) s.plain.2 refl,
      last,
      s.corners,
    ) refl

-- ---- words

after_found : (name line rest : List ℕ) → after_name name line ≡ Some rest → line ≡ name ++ rest
after_found [] line rest e = cc
after_found (b ∷ name) [] rest e = absurd cc
after_found (b ∷ name) (c ∷ line) rest e = elim (cases_Bool (eqb b c)) [
  | inl t ↦ rw (eqb-true b c t) (ap (λ (x : List ℕ). c ∷ x) (after_found name line rest (rw t at e)))
  | inr t ↦ absurd (let q = rw t at e in cc)
]

either : {A : Type 0} (a b : Option Word) (v : Word) → (a ≡ Some v → A) → (b ≡ Some v → A) → or_else a b ≡ Some v → A
either None b v f g e = g e
either (Some w) b v f g e = f e

-- a line that is a name, and an edit
is_name : (w v : Word) (name line : List ℕ) (o : Option (List ℕ)) → (line ≡ name ++ [] → Spells line w) → after_name name line ≡ o → if_ends w o ≡ Some v → Spells line v
is_name w v name line None f b e = absurd cc
is_name w v name line (Some []) f b e = let same : v ≡ w = cc in rw same (f (after_found name line [] b))
is_name w v name line (Some (c ∷ rest)) f b e = absurd cc

is_rect : (f : Rect → Word) (v : Word) (o : Option Rect) → of_rect f o ≡ Some v → (r : Rect) × (o ≡ Some r) × (v ≡ f r)
is_rect f v None e = absurd cc
is_rect f v (Some r) e = (r, refl, cc)

is_edit : (f : Rect → Word) (v : Word) (name line : List ℕ) (o : Option (List ℕ)) → ((r : Rect) → SpellsEdit name line r → Spells line (f r)) → after_name name line ≡ o → of_fields f o ≡ Some v → Spells line v
is_edit f v name line None g b e = absurd cc
is_edit f v name line (Some fields) g b e = let r = is_rect f v (rect_in fields) e in rw r.2 (g r.0 (fields, after_found name line fields b, rect_found fields r.0 r.1))

pub word_found : (line : List ℕ) (w : Word) → word_in line ≡ Some w → Spells line w
unfolding word_in
word_found line w =
    either _ _ w (is_name words.Analyst w (codes "analyst") line _ (λ e. e) refl)
    (either _ _ w (is_name words.End w (codes "end") line _ (λ e. e) refl)
    (either _ _ w (is_name (words.Command Settle) w (codes "settle") line _ (λ e. e) refl)
    (either _ _ w (is_name (words.Command Show) w (codes "show") line _ (λ e. e) refl)
    (either _ _ w (is_edit masks w (codes "mask") line _ (λ r s. s) refl) (is_edit unmasks w (codes "unmask") line _ (λ r s. s) refl)))))

pub word_again : (line : List ℕ) (w : Word) → Spells line w → word_in line ≡ Some w
unfolding word_in
word_again line words.Analyst s = rw s refl
word_again line words.End s = rw s refl
word_again line (words.Command Settle) s = rw s refl
word_again line (words.Command Show) s = rw s refl
word_again line (words.Command (Change (Mask r))) s = rw (s.1, rect_again s.0 r s.2) refl
word_again line (words.Command (Change (Unmask r))) s = rw (s.1, rect_again s.0 r s.2) refl

-- ---- names in front of a line

abbrev pub HasNoFront : List ℕ → List ℕ → Type 0
HasNoFront name line = (rest : List ℕ) → line ≢ name ++ rest

-- what taking a name from the front of a line says
pub stripped : (line name : List ℕ) (fields : Bor (List ℕ)) → (pointwise eqb (take (length name) line) name ≡ true) × (fields.now ≡ drop (length name) line) × (length fields.now + length name ≡ length line) → line ≡ name ++ fields.now
stripped line name fields h = strip_prefix_is Decides-eqb line name (Some fields) h

abbrev no_bytes : Option (Bor (List ℕ))
no_bytes = None

pub not_stripped : (line name : List ℕ) → pointwise eqb (take (length name) line) name ≡ false → HasNoFront name line
not_stripped line name h = strip_prefix_is Decides-eqb line name no_bytes h

-- ---- edits

pub edit_spelled : (name line fields : List ℕ) (r : Rect) → line ≡ name ++ fields → rect_in fields ≡ Some r → SpellsEdit name line r
edit_spelled name line fields r e f = (fields, e, rect_found fields r f)

other_rect : (name line fields : List ℕ) (r : Rect) → line ≡ name ++ fields → rect_in fields ≡ None → SpellsEdit name line r → ⊥
other_rect name line fields r e f s =
    let same : s.0 ≡ fields = append_cancel_left name s.0 fields (sym s.1 ∙ e) in
    let found : rect_in fields ≡ Some r = subst (λ (t : List ℕ). rect_in t ≡ Some r) same (rect_again s.0 r s.2) in
    cc

pub no_mask_rect : (line fields : List ℕ) → line ≡ codes "mask" ++ fields → rect_in fields ≡ None → (edit : Edit) → Spells line (words.Command (Change edit)) → ⊥
no_mask_rect line fields e f (Mask r) s = other_rect (codes "mask") line fields r e f s
no_mask_rect line fields e f (Unmask r) s = (let q : 109 ≡ 117 = ap (λ (t : List ℕ). get_or t 0 0) (sym e ∙ s.1) in omega (arith, q))

pub no_unmask_rect : (line fields : List ℕ) → HasNoFront (codes "mask") line → line ≡ codes "unmask" ++ fields → rect_in fields ≡ None → (edit : Edit) → Spells line (words.Command (Change edit)) → ⊥
no_unmask_rect line fields n e f (Mask r) s = n s.0 s.1
no_unmask_rect line fields n e f (Unmask r) s = other_rect (codes "unmask") line fields r e f s

pub no_edit : (line : List ℕ) → HasNoFront (codes "mask") line → HasNoFront (codes "unmask") line → (edit : Edit) → Spells line (words.Command (Change edit)) → ⊥
no_edit line n o (Mask r) s = n s.0 s.1
no_edit line n o (Unmask r) s = o s.0 s.1

-- Numbers one after the other, and the header.
use Rattle.std.proofs.Common.{◌≡◌, ℕ, zero, suc, ◌+◌, ◌≤◌, Bool, true, false, ◌⊎◌, List, [], ◌∷◌, ◌++◌, length, refl, sym, ap, ◌∙◌, append_assoc, arith, inl, inr}
use Rattle.pgm_planes.proofs.Words.{cases_Bool, is_space, is_digit, is_gap, begins, is_number, capped_number, AreNumbers, Spelling, digit_of, HasHeader, HeaderOf}
use Rattle.std.proofs.lemmas.List.{append-nil}
use Rattle.pgm_planes.proofs.FieldLemmas.{spaced, NoField, no_gap, field_parts}

-- after digits no digit stands: where numbers follow, a gap does
pub numbers_begin : (gaps : List ℕ → Bool) → ((gap more : List ℕ) → gaps gap ≡ true → begins is_space (gap ++ more) ≡ true) → (bytes vs more : List ℕ) → AreNumbers gaps bytes vs → begins is_digit more ≡ false → begins is_digit (bytes ++ more) ≡ false
numbers_begin gaps first bytes [] more a s = rw a s
numbers_begin gaps first bytes (v ∷ vs) more a s =
    rw (a.3, append_assoc a.0 (a.1 ++ a.2) more) (spaced (a.0 ++ ((a.1 ++ a.2) ++ more)) (first a.0 ((a.1 ++ a.2) ++ more) a.4))

-- ---- how bytes part into the numbers of a header

-- after `k` numbers others stand, and behind them no other begins, or they are `n` and white space stands there
pub record Fields (n k : ℕ) (bytes : List ℕ) : Type 0 where
  pub numbers : List ℕ
  pub values : List ℕ
  pub rest : List ℕ
  pub count : ℕ
  pub parts : bytes ≡ numbers ++ rest
  pub are : AreNumbers is_gap numbers values
  pub count_is : count ≡ k + length values
  pub behind : NoField count rest ⊎ ((length values ≡ n) × (begins is_space rest ≡ true))

no_fields : (n k : ℕ) (bytes : List ℕ) → NoField k bytes ⊎ ((0 ≡ n) × (begins is_space bytes ≡ true)) → Fields n k bytes
no_fields n k bytes b = record { numbers = []; values = []; rest = bytes; count = k; parts = refl; are = refl; count_is = omega arith; behind = b }

pub fields_parts : (n k : ℕ) (bytes : List ℕ) → k + n ≡ 3 → (1 ≤ k → begins is_digit bytes ≡ false) → Fields n k bytes
fields_parts zero k bytes e d = no_fields 0 k bytes (elim (cases_Bool (begins is_space bytes)) [ inl y ↦ inr (refl, y) | inr m ↦ inl (no_gap k bytes (omega arith) m d) ])
fields_parts (suc n) k bytes e d = elim (field_parts k bytes (omega arith) d) [
  | inl b ↦ no_fields (suc n) k bytes (inl b)
  | inr f ↦
      let r = fields_parts n (k + 1) f.rest (omega arith) (λ _. f.no_digit) in
      record {
        numbers = f.gap ++ (f.number ++ r.numbers);
        values = capped_number f.number ∷ r.values;
        rest = r.rest;
        count = r.count;
        parts = f.parts ∙ ap (λ (t : List ℕ). f.gap ++ (f.number ++ t)) r.parts ∙ sym (append_assoc f.gap (f.number ++ r.numbers) r.rest ∙ ap (λ (t : List ℕ). f.gap ++ t) (append_assoc f.number r.numbers r.rest));
        are = (f.gap, f.number, r.numbers, refl, f.is_a_gap, f.is_a_number, refl, r.are);
        count_is = omega (arith, r.count_is);
        behind = elim r.behind [ inl b ↦ inl b | inr m ↦ inr (ap suc m.0, m.1) ];
      }
]

abbrev pub header_record : ℕ → ℕ → ℕ → HeaderOf
header_record w h m = record { width = w; height = h; maxval = m }

-- a header that stands: its sizes, and the gap and the digits of its maxval
pub record HeaderPieces (spelling : Spelling) (bytes : List ℕ) (w h m : ℕ) (behind : List ℕ) : Type 0 where
  pub sizes : List ℕ
  pub gap : List ℕ
  pub digits : List ℕ
  pub whole : bytes ≡ 80 ∷ digit_of spelling ∷ (sizes ++ (gap ++ (digits ++ behind)))
  pub are : AreNumbers is_gap sizes (w ∷ h ∷ [])
  pub is_a_gap : is_gap gap ≡ true
  pub is_a_number : is_number digits ≡ true
  pub value : m ≡ capped_number digits

two_first : (a b c d e f more : List ℕ) → (a ++ (b ++ (c ++ (d ++ (e ++ f))))) ++ more ≡ (a ++ (b ++ (c ++ d))) ++ (e ++ (f ++ more))
two_first a b c d e f more = simp (append_assoc) refl

pub header_pieces : (spelling : Spelling) (bytes : List ℕ) (w h m : ℕ) (behind : List ℕ) → HasHeader spelling bytes w h m behind → HeaderPieces spelling bytes w h m behind
header_pieces spelling bytes w h m behind d =
    let a = d.are in
    let b = a.7 in
    let c = b.7 in
    let numbers : d.numbers ≡ a.0 ++ (a.1 ++ (b.0 ++ (b.1 ++ (c.0 ++ c.1)))) = a.3 ∙ ap (λ (t : List ℕ). a.0 ++ (a.1 ++ t)) (b.3 ∙ ap (λ (t : List ℕ). b.0 ++ (b.1 ++ t)) (c.3 ∙ ap (λ (t : List ℕ). c.0 ++ (c.1 ++ t)) c.7 ∙ ap (λ (t : List ℕ). c.0 ++ t) (append-nil c.1))) in
    record {
      sizes = a.0 ++ (a.1 ++ (b.0 ++ b.1));
      gap = c.0;
      digits = c.1;
      whole = d.whole ∙ ap (λ (t : List ℕ). 80 ∷ digit_of spelling ∷ t) (ap (λ (t : List ℕ). t ++ behind) numbers ∙ two_first a.0 a.1 b.0 b.1 c.0 c.1 behind);
      are = (a.0, a.1, b.0 ++ b.1, refl, a.4, a.5, a.6, (b.0, b.1, [], ap (λ (t : List ℕ). b.0 ++ t) (sym (append-nil b.1)), b.4, b.5, b.6, refl));
      is_a_gap = c.4;
      is_a_number = c.5;
      value = c.6;
    }

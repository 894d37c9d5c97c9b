-- Bits of one word, and of a list of words.
use Rattle.std.proofs.Common.{◌≡◌, ◌≢◌, ◌⊎◌, inl, inr, ℕ, zero, suc, ◌+◌, ◌-◌, ◌*◌, ◌/◌, ◌%◌, ◌^◌, ◌<◌, ◌≤◌, min, sym, ◌∙◌, ap, refl, arith, Bool, true, false, List, length, MatchBool, eq-eqb, ne_eqb, eqb-true, w64, pow-suc}
use Rattle.std.specs.Prelude.{◌==◌, ◌||◌, not, bit_and, bit_or, slice_index, slice_set}
use Rattle.std.specs.Int.{bit_at}
use Rattle.std.proofs.lemmas.Bool.{cases_eq, cases_lt}
use Rattle.std.proofs.lemmas.List.{get_or-set_same, get_or-set_other}
use Rattle.std.proofs.lemmas.Nat.Bits.{bit_at_lowest, bit_at-suc, bit_at-lt, bit_at_set_same, bit_at_set_other, bit_at_and, bit_at_or, bit_at_not, bit_at_ones, bit_at_ones_above, bit_at_mask_inside, bit_at_mask_below, ones_shl, ones_shr}
use Rattle.raster_model.specs.Bits.{has_bit, AreBitsSet, AreAllBits, HasOtherBit, AreOnes, AreOnesOf, AreOnesSet, DifferInBit, TellsNonzero}

-- ---- one word
-- `MAX >> (w - 1 - last)` and `MAX << first` have the bits from `first` to `last` in common
pub ones_in : (w first last : ℕ) → first ≤ last → last < w → AreOnes first last (bit_and ((2 ^ w - 1) / 2 ^ (w - 1 - last)) ((2 ^ w - 1) * 2 ^ first % 2 ^ w))
ones_in w first last order inside = record {
  inside = λ i l m. omega (arith, both i, bit_at_ones (last + 1) i (omega arith), bit_at_mask_inside first w i l (omega arith));
  outside = λ i o. elim o [
    | inl l ↦ omega (arith, both i, bit_at_mask_below first w i l)
    | inr l ↦ omega (arith, both i, bit_at_ones_above (last + 1) i (omega arith))
  ];
}
  where
    low : (2 ^ w - 1) / 2 ^ (w - 1 - last) ≡ 2 ^ (last + 1) - 1
    low = let e : w - (w - 1 - last) ≡ last + 1 = omega arith in ones_shr w (w - 1 - last) (omega arith) ∙ ap (λ (k : ℕ). 2 ^ k - 1) e

    both : (i : ℕ) → bit_at (bit_and ((2 ^ w - 1) / 2 ^ (w - 1 - last)) ((2 ^ w - 1) * 2 ^ first % 2 ^ w)) i ≡ min (bit_at (2 ^ (last + 1) - 1) i) (bit_at (2 ^ w - 2 ^ first) i)
    both i = rw (low, ones_shl w first (omega arith)) (bit_at_and (2 ^ (last + 1) - 1) (2 ^ w - 2 ^ first) i)

pub ones_on : (word ones : ℕ) → AreOnesSet word (bit_or word ones) ones true
ones_on word ones = record {
  inside = λ i l one. eq-eqb (bit_at (bit_or word ones) i) 1 (omega (arith, bit_at_or word ones i, one, bit_at-lt word i));
  outside = λ i l none. omega (arith, bit_at_or word ones i, none);
}

pub ones_off : (word ones : ℕ) → ones < 2 ^ 64 → AreOnesSet word (bit_and word (2 ^ 64 - 1 - ones)) ones false
ones_off word ones fits = record {
  inside = λ i l one. ne_eqb (bit_at (bit_and word (2 ^ 64 - 1 - ones)) i) 1 (λ e. absurd (omega (arith, e, bit_at_and word (2 ^ 64 - 1 - ones) i, bit_at_not w64 ones i fits l, one)));
  outside = λ i l none. omega (arith, bit_at_and word (2 ^ 64 - 1 - ones) i, bit_at_not w64 ones i fits l, none, bit_at-lt word i);
}

-- two words that are not the same differ in a bit
bit_apart : (w a b : ℕ) → a < 2 ^ w → b < 2 ^ w → a ≢ b → (i : ℕ) × (i < w) × (bit_at a i ≢ bit_at b i)
bit_apart zero a b p q n = absurd (omega arith)
bit_apart (suc w) a b p q n = elim (cases_eq (a % 2) (b % 2)) [
  | inl e ↦ (
      let u = bit_apart w (a / 2) (b / 2) (omega (arith, pow-suc 2 w)) (omega (arith, pow-suc 2 w)) (λ h. n (omega arith)) in
      (suc u.0, omega (arith, u.1), λ h. u.2 (sym (bit_at-suc a u.0) ∙ h ∙ bit_at-suc b u.0)))
  | inr d ↦ (0, omega arith, λ h. d (sym (bit_at_lowest a) ∙ h ∙ bit_at_lowest b))
]

pub words_differ : (a b : ℕ) → a < 2 ^ 64 → b < 2 ^ 64 → MatchBool (not (a == b)) (DifferInBit a b) (a ≡ b)
words_differ a b p q = elim (cases_eq a b) [
  | inl e ↦ rw (eq-eqb a b e) e
  | inr n ↦ rw (ne_eqb a b n) (bit_apart 64 a b p q n)
]

-- ---- a list of words
at_place : (place b : ℕ) → b / 64 ≡ place → (place * 64 + b % 64 ≡ b) × (b % 64 < 64)
at_place place b e = (omega (arith, e), omega arith)

has_here : (words : List ℕ) (place b : ℕ) → b / 64 ≡ place → has_bit words b ≡ (bit_at (slice_index words place) (b % 64) == 1)
has_here words place b e = ap (λ (k : ℕ). bit_at (slice_index words k) (b % 64) == 1) e

has_at : (words : List ℕ) (place i : ℕ) → i < 64 → has_bit words (place * 64 + i) ≡ (bit_at (slice_index words place) i == 1)
has_at words place i l =
    let q : (place * 64 + i) / 64 ≡ place = omega arith in
    let r : (place * 64 + i) % 64 ≡ i = omega arith in
    has_here words place (place * 64 + i) q ∙ ap (λ (k : ℕ). bit_at (slice_index words place) k == 1) r

-- a bit that is 1 or 0 is known by its test
same_test : (a b : ℕ) → a < 2 → b < 2 → (a == 1) ≡ (b == 1) → a ≡ b
same_test a b l m e = elim (cases_eq a 1) [
  | inl p ↦ p ∙ sym (eqb-true b 1 (sym e ∙ eq-eqb a 1 p))
  | inr p ↦ elim (cases_eq b 1) [
    | inl q ↦ absurd (p (eqb-true a 1 (e ∙ eq-eqb b 1 q)))
    | inr q ↦ omega (arith, p, q)
  ]
]

pub none_set : (words : List ℕ) (first end : ℕ) (u : Bool) → end ≤ first → AreBitsSet words words first end u
none_set words first end u l = record {
  inside = λ b p q. absurd (omega arith);
  outside = λ b o. refl;
}

pub word_set : (old now : List ℕ) (place first last new ones : ℕ) (u : Bool) → place < length now → place ≤ last / 64
    → AreBitsSet old now first (min (place * 64) (last + 1)) u → AreOnesOf place first last ones → AreOnesSet (slice_index now place) new ones u
    → AreBitsSet old (slice_set now place new) first (min ((place + 1) * 64) (last + 1)) u
word_set old now place first last new ones u within meets is ones_are set = record {
  inside = λ b p q. elim (cases_eq (b / 64) place) [
    | inl e ↦ (
        let at = at_place place b e in
        here b e ∙ set.inside (b % 64) at.1 (ones_are.inside (b % 64) at.1 (omega (arith, at.0, p)) (omega (arith, at.0, q))))
    | inr n ↦ there b n ∙ is.inside b p (omega (arith, n, q))
  ];
  outside = λ b o. elim (cases_eq (b / 64) place) [
    | inl e ↦ (
        let at = at_place place b e in
        here b e
        ∙ ap (λ (k : ℕ). k == 1) (set.outside (b % 64) at.1 (ones_are.outside (b % 64) at.1 (beside b at.0 at.1 o)))
        ∙ sym (has_here now place b e)
        ∙ is.outside b (before b at.0 o))
    | inr n ↦ there b n ∙ is.outside b (elim o [ inl l ↦ inl l | inr l ↦ inr (omega (arith, l)) ])
  ];
}
  where
    here : (b : ℕ) → b / 64 ≡ place → has_bit (slice_set now place new) b ≡ (bit_at new (b % 64) == 1)
    here b e = has_here (slice_set now place new) place b e ∙ ap (λ (k : ℕ). bit_at k (b % 64) == 1) (get_or-set_same now place new 0 within)

    there : (b : ℕ) → b / 64 ≢ place → has_bit (slice_set now place new) b ≡ has_bit now b
    there b n = ap (λ (k : ℕ). bit_at k (b % 64) == 1) (get_or-set_other now place (b / 64) new 0 n)

    beside : (b : ℕ) → place * 64 + b % 64 ≡ b → b % 64 < 64 → (b < first) ⊎ (min ((place + 1) * 64) (last + 1) ≤ b) → (place * 64 + b % 64 < first) ⊎ (last < place * 64 + b % 64)
    beside b e l (inl o) = inl (omega (arith, e, o))
    beside b e l (inr o) = inr (omega (arith, e, l, o))

    before : (b : ℕ) → place * 64 + b % 64 ≡ b → (b < first) ⊎ (min ((place + 1) * 64) (last + 1) ≤ b) → (b < first) ⊎ (min (place * 64) (last + 1) ≤ b)
    before b e (inl o) = inl o
    before b e (inr o) = inr (omega (arith, e))

-- ---- whether a bit was not as it is now
module _ (old now : List ℕ) (place first last ones : ℕ) (u : Bool) (meets : place ≤ last / 64) (is : AreBitsSet old now first (min (place * 64) (last + 1)) u) (ones_are : AreOnesOf place first last ones) where
  -- the word has its bits as they were
  was : (i : ℕ) → i < 64 → (bit_at (slice_index now place) i == 1) ≡ has_bit old (place * 64 + i)
  was i l = sym (has_at now place i l) ∙ is.outside (place * 64 + i) (inr (omega arith))

  all_on : AreAllBits old first (min (place * 64) (last + 1)) u → AreOnesSet (slice_index now place) (slice_index now place) ones u → AreAllBits old first (min ((place + 1) * 64) (last + 1)) u
  all_on all set b p q = elim (cases_eq (b / 64) place) [
    | inl e ↦ (
        let at = at_place place b e in
        ap (has_bit old) (sym at.0) ∙ sym (was (b % 64) at.1)
        ∙ set.inside (b % 64) at.1 (ones_are.inside (b % 64) at.1 (omega (arith, at.0, p)) (omega (arith, at.0, q))))
    | inr n ↦ all b p (omega (arith, n, q))
  ]

  other_here : (new i : ℕ) → AreOnesSet (slice_index now place) new ones u → i < 64 → bit_at new i ≢ bit_at (slice_index now place) i → HasOtherBit old first (min ((place + 1) * 64) (last + 1)) u
  other_here new i set l n = elim (cases_eq (bit_at ones i) 1) [
    | inr o ↦ absurd (n (set.outside i l (omega (arith, o, bit_at-lt ones i))))
    | inl o ↦ (
        let low : first ≤ place * 64 + i = elim (cases_lt (place * 64 + i) first) [ inl m ↦ absurd (omega (arith, o, ones_are.outside i l (inl m))) | inr m ↦ m ] in
        let high : place * 64 + i ≤ last = elim (cases_lt last (place * 64 + i)) [ inl m ↦ absurd (omega (arith, o, ones_are.outside i l (inr m))) | inr m ↦ m ] in
        (place * 64 + i, low, omega (arith, high, l), λ h. n (same_test (bit_at new i) (bit_at (slice_index now place) i) (bit_at-lt new i) (bit_at-lt (slice_index now place) i) (set.inside i l o ∙ sym (was i l ∙ h)))))
  ]

  pub word_tells : (new : ℕ) (changed other : Bool) → AreOnesSet (slice_index now place) new ones u
      → MatchBool changed (HasOtherBit old first (min (place * 64) (last + 1)) u) (AreAllBits old first (min (place * 64) (last + 1)) u)
      → MatchBool other (DifferInBit new (slice_index now place)) (new ≡ slice_index now place)
      → MatchBool (changed || other) (HasOtherBit old first (min ((place + 1) * 64) (last + 1)) u) (AreAllBits old first (min ((place + 1) * 64) (last + 1)) u)
  word_tells new true other set h d = (h.0, h.1, omega (arith, h.2), h.3)
  word_tells new false false set h e = all_on h (rw e at set)
  word_tells new false true set h d = other_here new d.0 set d.1 d.2

-- ---- whether each bit is 1
module _ (words : List ℕ) (place first last ones : ℕ) (ones_are : AreOnesOf place first last ones) where
  pub more_ones : AreAllBits words first (min (place * 64) (last + 1)) true → bit_and (slice_index words place) ones ≡ ones → AreAllBits words first (min ((place + 1) * 64) (last + 1)) true
  more_ones all e b p q = elim (cases_eq (b / 64) place) [
    | inl h ↦ (
        let at = at_place place b h in
        let one = ones_are.inside (b % 64) at.1 (omega (arith, at.0, p)) (omega (arith, at.0, q)) in
        let both : min (bit_at (slice_index words place) (b % 64)) (bit_at ones (b % 64)) ≡ bit_at ones (b % 64) = sym (bit_at_and (slice_index words place) ones (b % 64)) ∙ ap (λ (k : ℕ). bit_at k (b % 64)) e in
        has_here words place b h ∙ eq-eqb (bit_at (slice_index words place) (b % 64)) 1 (omega (arith, both, one, bit_at-lt (slice_index words place) (b % 64))))
    | inr n ↦ all b p (omega (arith, n, q))
  ]

  pub one_missing : DifferInBit (bit_and (slice_index words place) ones) ones → HasOtherBit words first (last + 1) true
  one_missing d =
      let i = d.0 in
      let l = d.1 in
      let both = bit_at_and (slice_index words place) ones i in
      let one : bit_at ones i ≡ 1 = omega (arith, d.2, both, bit_at-lt ones i) in
      let none : bit_at (slice_index words place) i ≢ 1 = λ h. d.2 (omega (arith, both, one, h)) in
      let low : first ≤ place * 64 + i = elim (cases_lt (place * 64 + i) first) [ inl m ↦ absurd (omega (arith, one, ones_are.outside i l (inl m))) | inr m ↦ m ] in
      let high : place * 64 + i ≤ last = elim (cases_lt last (place * 64 + i)) [ inl m ↦ absurd (omega (arith, one, ones_are.outside i l (inr m))) | inr m ↦ m ] in
      (place * 64 + i, low, omega (arith, high), λ h. none (eqb-true (bit_at (slice_index words place) i) 1 (sym (has_at words place i l) ∙ h)))

-- ---- a word that tells which numbers are not 0
module _ (numbers : List ℕ) (start place word : ℕ) (order : start ≤ place) (room : place < start + 64) (is : TellsNonzero numbers start place word) where
  pub tells_zero : slice_index numbers place ≡ 0 → TellsNonzero numbers start (place + 1) word
  tells_zero e = record {
    told = λ i l. elim (cases_lt (start + i) place) [
      | inl m ↦ is.told i m
      | inr m ↦ (
          let at : start + i ≡ place = omega arith in
          let none = is.rest i (omega arith) m in
          ne_eqb (bit_at word i) 1 (λ h. absurd (omega (arith, h, none))) ∙ sym (ap not (eq-eqb (slice_index numbers (start + i)) 0 (ap (slice_index numbers) at ∙ e))))
    ];
    rest = λ i l m. is.rest i l (omega arith);
  }

  pub tells_one : slice_index numbers place ≢ 0 → TellsNonzero numbers start (place + 1) (bit_or word (1 * 2 ^ (place - start) % 2 ^ 64))
  tells_one n = record {
    told = λ i l. elim (cases_lt (start + i) place) [
      | inl m ↦ ap (λ (k : ℕ). k == 1) (bit_at_set_other w64 word (place - start) (omega arith) i (omega arith)) ∙ is.told i m
      | inr m ↦ (
          let at : start + i ≡ place = omega arith in
          let k : i ≡ place - start = omega arith in
          ap (λ (j : ℕ). bit_at (bit_or word (1 * 2 ^ (place - start) % 2 ^ 64)) j == 1) k
          ∙ eq-eqb (bit_at (bit_or word (1 * 2 ^ (place - start) % 2 ^ 64)) (place - start)) 1 (bit_at_set_same w64 word (place - start) (omega arith))
          ∙ sym (ap not (ne_eqb (slice_index numbers (start + i)) 0 (λ z. n (sym (ap (slice_index numbers) at) ∙ z)))))
    ];
    rest = λ i l m. bit_at_set_other w64 word (place - start) (omega arith) i (omega arith) ∙ is.rest i l (omega arith);
  }

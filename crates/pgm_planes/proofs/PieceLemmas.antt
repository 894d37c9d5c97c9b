-- Samples that are taken at once are read as if they were taken one by one.
use Rattle.std.proofs.Common.{◌≡◌, ℕ, zero, suc, get_or, ◌+◌, ◌*◌, ◌-◌, ◌≤◌, Bool, true, false, List, [], ◌∷◌, ◌++◌, length, take, drop, Option, refl, sym, ap, ◌∙◌, append-nil, arith}
use Rattle.pgm_planes.proofs.Words.{AllByRecursion, length-append, All-nil, recursion_from_All, take-append-add, IsRead, big_number, with_front, Call, SampleForm, Narrow, Wide, Digits, AreTogether, TakesPiece, IsRaster, Reader, goes_beyond}
use Rattle.insar_ports.proofs.CallLemmas.{call, some_is}
use Rattle.insar_ports.proofs.CallerLemmas.{with_front-nil}
use Rattle.pgm_planes.proofs.CallLemmas.{Goes}
use Rattle.pgm_planes.proofs.StepLemmas.{and_others}
use Rattle.pgm_planes.proofs.SampleLemmas.{same_others, samples_over}

-- ---- what samples are

-- bytes are their own raster
pub raster_of_bytes : (bytes : List ℕ) → IsRaster false bytes bytes
raster_of_bytes [] = refl
raster_of_bytes (b ∷ bytes) = (refl, raster_of_bytes bytes)

twice_more : (n : ℕ) → 2 * suc n ≡ suc (suc (2 * n))
twice_more n = omega arith

-- numbers that were read from bytes are their raster
pub raster_of_read : (bytes vs : List ℕ) → length bytes ≡ 2 * length vs → IsRead big_number 2 bytes vs → IsRaster true bytes vs
raster_of_read [] [] e r = refl
raster_of_read (b ∷ bytes) [] e r = absurd (omega arith)
raster_of_read [] (v ∷ vs) e r = absurd (omega arith)
raster_of_read (b ∷ []) (v ∷ vs) e r = absurd (omega arith)
raster_of_read (b ∷ d ∷ bytes) (v ∷ vs) e r =
    let first : v ≡ big_number 2 (b ∷ d ∷ bytes) = r 0 (omega arith) in
    let value : big_number 2 (b ∷ d ∷ bytes) ≡ 256 * b + d = omega arith in
    let others : IsRead big_number 2 bytes vs = λ k lt. r (suc k) (omega arith) ∙ ap (λ (n : ℕ). big_number 2 (drop n (b ∷ d ∷ bytes))) (twice_more k) in
    (first ∙ value, raster_of_read bytes vs (omega arith) others)

-- the first samples of a raster
pub raster_front : (n : ℕ) (bytes vs : List ℕ) → IsRaster true bytes vs → IsRaster true (take (2 * n) bytes) (take n vs)
raster_front zero bytes vs r = refl
raster_front (suc n) [] [] r = rw (twice_more n) refl
raster_front (suc n) (b ∷ bytes) [] r = absurd cc
raster_front (suc n) [] (v ∷ vs) r = absurd r
raster_front (suc n) (b ∷ []) (v ∷ vs) r = absurd r
raster_front (suc n) (b ∷ d ∷ bytes) (v ∷ vs) r = rw (twice_more n) (r.0, raster_front n bytes vs r.1)

-- more samples that are not above maxval
pub below_append : (m : ℕ) (xs ys : List ℕ) → ((k : ℕ) → get_or xs k 0 ≤ m) → AllByRecursion (λ v. v ≤ m) ys → (k : ℕ) → get_or (xs ++ ys) k 0 ≤ m
below_append m [] [] h a k = h k
below_append m [] (y ∷ ys) h a zero = a.0
below_append m [] (y ∷ ys) h a (suc k) = below_append m [] ys (λ j. omega arith) a.1 k
below_append m (x ∷ xs) ys h a zero = h 0
below_append m (x ∷ xs) ys h a (suc k) = below_append m xs ys (λ j. h (suc j)) a k

-- ---- reading them one by one

-- samples that stand together are read, and then the others
together : (maxval : ℕ) (more : Bool) (rest : List ℕ) (form : SampleForm) (bytes vs : List ℕ) → AreTogether form bytes vs → AllByRecursion (λ v. v ≤ maxval) vs → (front : List ℕ) (n m k at : ℕ) → n ≡ length vs + m
    → and_others front form maxval n k more at (bytes ++ rest) ≡ and_others (front ++ vs) form maxval m (k + length vs) more (at + length bytes) rest
together maxval more rest Narrow bytes [] are below front n m k at is = samples_over Narrow maxval more bytes [] rest are below tt front n m k at is
together maxval more rest Narrow bytes (v ∷ vs) are below front n m k at is = samples_over Narrow maxval more bytes (v ∷ vs) rest are below tt front n m k at is
together maxval more rest Wide bytes [] are below front n m k at is = samples_over Wide maxval more bytes [] rest are below tt front n m k at is
together maxval more rest Wide bytes (v ∷ vs) are below front n m k at is = samples_over Wide maxval more bytes (v ∷ vs) rest are below tt front n m k at is
together maxval more rest Digits bytes vs are below front n m k at is =
    let size = ap length are.1 in
    let gone = ap length are.0 in
    ap (λ (b : List ℕ). and_others front Digits maxval n k more at (b ++ rest)) are.0
    ∙ same_others Digits maxval more rest front (front ++ vs) n m k (k + length vs) at (at + length bytes) (sym (ap (λ (l : List ℕ). front ++ l) are.1 ∙ append-nil front)) (omega (arith, size)) (omega (arith, size)) (omega (arith, gone))

-- ---- calls

-- a call that took the front of what was told goes on with another reader
part_goes : {A : Type 0} (c : Call) (part : List ℕ) (r q : Reader A) → c.told ≡ with_front part c.left → c.end ≡ c.at + length part → c.end ≤ c.limit → c.before ≤ c.after → ((more : Bool) (rest : List ℕ) → r more c.at (part ++ rest) ≡ q more (c.at + length part) rest) → Goes c r q
part_goes c part r q e place within grows f = record {
  moves = record { front = part; parts = e; place = place; grows = grows };
  reads = λ bytes rest t l.
      let parts : bytes ≡ part ++ rest = some_is bytes (part ++ rest) (sym t ∙ e ∙ ap (with_front part) l) in
      let n : c.limit - c.at ≡ length part + (c.limit - c.end) = omega arith in
      let out : take (c.limit - c.at) bytes ≡ part ++ take (c.limit - c.end) rest = ap (take (c.limit - c.at)) parts ∙ ap (λ (m : ℕ). take m (part ++ rest)) n ∙ take-append-add part rest (c.limit - c.end) in
      ap (r (goes_beyond c.limit c.at bytes) c.at) out ∙ f (goes_beyond c.limit c.at bytes) (take (c.limit - c.end) rest) ∙ ap (λ (m : ℕ). q (goes_beyond c.limit c.at bytes) m (take (c.limit - c.end) rest)) (sym place);
}

module _ {form : SampleForm} {maxval most : ℕ} {old new : List ℕ} {c : Call} (p : TakesPiece form maxval most old new c) where
  -- what is read after a piece
  pub piece_goes : (m k : ℕ) {n j : ℕ} → n ≡ length p.added + m → j ≡ k + length p.added → Goes c (and_others old form maxval n k) (and_others new form maxval m j)
  piece_goes m k {n} {j} is next =
      part_goes c p.bytes (and_others old form maxval n k) (and_others new form maxval m j) p.parts p.place p.within p.grows (λ more rest.
      together maxval more rest form p.bytes p.added p.are (recursion_from_All (λ v. v ≤ maxval) p.added p.below) old n m k c.at is
      ∙ same_others form maxval more rest (old ++ p.added) new m m (k + length p.added) j (c.at + length p.bytes) (c.at + length p.bytes) (sym p.gains) refl (sym next) refl)

  pub piece_size : (length new ≡ length old + length p.added) × (length p.added ≤ most)
  piece_size = (ap length p.gains ∙ length-append old p.added, p.few)

  pub piece_below : ((k : ℕ) → get_or old k 0 ≤ maxval) → (k : ℕ) → get_or new k 0 ≤ maxval
  piece_below h k = rw p.gains (below_append maxval old p.added h (recursion_from_All (λ v. v ≤ maxval) p.added p.below) k)

-- nothing was taken
pub takes_nothing : (form : SampleForm) (maxval most : ℕ) (old : List ℕ) (told : Option (List ℕ)) (at limit before : ℕ) → AreTogether form [] [] → at ≤ limit → TakesPiece form maxval most old old (call told at told at limit before before)
takes_nothing form maxval most old told at limit before are within = record {
  bytes = [];
  added = [];
  gains = sym (append-nil old);
  few = omega arith;
  below = All-nil (λ v. v ≤ maxval);
  are = are;
  parts = sym (with_front-nil told);
  place = omega arith;
  within = within;
  grows = omega arith;
}

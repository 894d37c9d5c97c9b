-- What is written of a plane spells it.
use Rattle.std.proofs.Common.{◌≡◌, ℕ, ◌+◌, ◌*◌, ◌/◌, ◌%◌, ◌-◌, ◌≤◌, ◌<◌, Bool, true, false, List, [], ◌∷◌, ◌++◌, decimal, refl, ◌∙◌, append_assoc, arith}
use Rattle.pgm_planes.proofs.Words.{list_all, and_parts, lt-ltb, decimal_by_steps, Role, Phase, Weight, Mask, Extent, Tiled, Whole, Sought, Raw, is_digit, is_gap, is_number, goes_on_to, capped_number, PlaneOf, HasMaxval, max_side_within, IsSoughtPlane, AreNumbers, IsRaster, is_wide, IsSoughtText, raster_text, plane_header_text, plane_text}
use Rattle.std.proofs.lemmas.List.{append-nil}
use Rattle.pgm_planes.proofs.SampleLemmas.{all_append}

-- digits that spell a number
record Spells (n : ℕ) (ds : List ℕ) : Type 0 where
  pub number : is_number ds ≡ true
  pub value : goes_on_to 0 ds ≡ n

pub digit : (d : ℕ) → d < 10 → is_digit (48 + d) ≡ true
digit d lt = rw (lt-ltb 47 (48 + d) (omega arith), lt-ltb (48 + d) 58 (omega arith)) refl

one_digit : (n : ℕ) → n < 10 → Spells n ((48 + n) ∷ [])
one_digit n lt = record { number = rw (digit n lt) refl; value = omega arith }

pub goes_further : (n : ℕ) (ds : List ℕ) (d : ℕ) → goes_on_to n (ds ++ d ∷ []) ≡ 10 * goes_on_to n ds + (d - 48)
goes_further n [] d = refl
goes_further n (x ∷ ds) d = goes_further (10 * n + (x - 48)) ds d

pub number_further : (ds : List ℕ) (d : ℕ) → is_number ds ≡ true → is_digit d ≡ true → is_number (ds ++ d ∷ []) ≡ true
number_further [] d h e = absurd cc
number_further (x ∷ ds) d h e =
    let p = and_parts (is_digit x) (list_all is_digit ds) h in
    rw (p.0, all_append is_digit ds (d ∷ []) p.1 (rw e refl)) refl

next_digit : (n : ℕ) (ds : List ℕ) → 10 ≤ n → Spells (n / 10) ds → Spells n (ds ++ (48 + n % 10) ∷ [])
next_digit n ds le s = record {
  number = number_further ds (48 + n % 10) s.number (digit (n % 10) (omega arith));
  value = goes_further 0 ds (48 + n % 10) ∙ (let v = s.value in omega arith);
}

spelled : (n : ℕ) → n ≤ 65535 → Spells n (decimal n)
spelled n le = decimal_by_steps Spells one_digit next_digit n (omega arith)

value_of : (n : ℕ) → n ≤ 65535 → n ≡ capped_number (decimal n)
value_of n le = let v = (spelled n le).value in omega arith

raster_of : (wide : Bool) (vs : List ℕ) → IsRaster wide (raster_text wide vs) vs
raster_of false [] = refl
raster_of true [] = refl
raster_of false (v ∷ vs) = (refl, raster_of false vs)
raster_of true (v ∷ vs) = (omega arith, raster_of true vs)

-- every role's maxval is 65535 at most
maxval_within : (role : Role) (m : ℕ) → HasMaxval role m → m ≤ 65535
maxval_within Phase m h = omega (arith, h)
maxval_within Weight m h = h.1
maxval_within Mask m h = h.1

-- and so is every side of a raster
side_within : (extent : Extent) (n : ℕ) → n ≤ max_side_within extent → n ≤ 65535
side_within Tiled n le = omega (arith, le)
side_within Whole n le = le

-- the three numbers of the header, each after a byte of white space
numbers : ℕ → ℕ → ℕ → List ℕ
numbers w h m = 10 ∷ (decimal w ++ (32 ∷ (decimal h ++ (10 ∷ (decimal m ++ [])))))

are_numbers : (w h m : ℕ) → w ≤ 65535 → h ≤ 65535 → m ≤ 65535 → AreNumbers is_gap (numbers w h m) (w ∷ h ∷ m ∷ [])
unfolding numbers
are_numbers w h m a b c = (
  10 ∷ [],
  decimal w,
  32 ∷ (decimal h ++ (10 ∷ (decimal m ++ []))),
  refl,
  refl,
  (spelled w a).number,
  value_of w a,
  (
    32 ∷ [],
    decimal h,
    10 ∷ (decimal m ++ []),
    refl,
    refl,
    (spelled h b).number,
    value_of h b,
    (10 ∷ [], decimal m, [], refl, refl, (spelled m c).number, value_of m c, refl),
  ),
)

parted : (p : PlaneOf) → plane_text p ≡ 80 ∷ 53 ∷ (numbers p.width p.height p.maxval ++ ((10 ∷ raster_text (is_wide p.maxval) p.samples) ++ []))
unfolding plane_text plane_header_text numbers
parted p = simp (append_assoc, append-nil) refl

pub written_is_read : (sought : Sought) (p : PlaneOf) (rest : List ℕ) → IsSoughtPlane sought p → IsSoughtText Raw sought (plane_text p) p rest
written_is_read sought p rest i = record {
  samples = 10 ∷ raster_text (is_wide p.maxval) p.samples;
  end = [];
  header = record {
    numbers = numbers p.width p.height p.maxval;
    whole = parted p;
    are = are_numbers p.width p.height p.maxval (side_within sought.extent p.width i.size.across.1) (side_within sought.extent p.height i.size.along.1) (maxval_within sought.role p.maxval i.maxval);
    space = refl;
  };
  raster = (10, raster_text (is_wide p.maxval) p.samples, refl, refl, raster_of (is_wide p.maxval) p.samples);
  ended = refl;
  plane = i;
}

-- Closures by places and by pixels, and what the cycles say of the third grid.
use Rattle.std.proofs.Common.{◌≡◌, ℕ, ◌+◌, ◌*◌, ◌/◌, ◌%◌, ◌<◌, ℤ, pos, neg_ℤ, ◌-ℤ◌, ◌*ℤ◌, ◌≤ℤ◌, Bool, true, false, not, List, [], ◌∷◌, ◌++◌, length, take, set, get_or, inl, inr, ◌⊎◌, refl, sym, ap, subst, ◌∙◌, arith}
use Rattle.std.specs.Prelude.{IsTrue, Err}
use Rattle.std.specs.Ordering.{int_eq}
use Rattle.std.proofs.lemmas.Bool.Decides.{Decides-int_eq}
use Rattle.std.proofs.lemmas.Int.{ints}
use Rattle.std.proofs.lemmas.Bool.{cases_lt}
use Rattle.std.proofs.lemmas.Nat.{mul-add-lt, mul-le}
use Rattle.std.proofs.lemmas.List.{get_or-set_other, get_or-set_same, map-append, take_more}
use Rattle.sums_and_lists.proofs.Orders.{below_or_last}
use Rattle.raster_model.proofs.RegionNumbers.{earlier_place}
use Rattle.certificates.proofs.Unique.{same_pixel}
use Rattle.grid_writer.specs.Grids.{GridOf, value_at}
use Rattle.grid_writer.specs.Values.{is_value, no_data}
use Rattle.loop_closure.specs.declared.fault.LoopFault.{LoopFault}
use Rattle.loop_closure.specs.declared.fault.LoopFault.TheVariants.{Wide, Memory}
use Rattle.loop_closure.specs.Closure.{AreClosures, AreCycles, AreCyclesIn, IsFirstWideLoop, IsHalfCycle, IsWideLoop, are_there, closure_of, key_of, keys_of, loop_sum}
use Rattle.loop_closure.specs.Laws.{CyclesClose, OnlyCyclesClose}
use Rattle.loop_closure.specs.Parts.{AreClosed, HasLoopCause, HasWideCause, HaveCycles, IsFirstWidePlace, IsWideIn, IsWideTold, at_place}

-- ---- values

cases_Bool : (b : Bool) → (b ≡ true) ⊎ (b ≡ false)
cases_Bool true = inl refl
cases_Bool false = inr refl

missing : (n : ℤ) → is_value n ≡ false → n ≡ no_data
missing n e = (Decides-int_eq n no_data).0 (off (int_eq n no_data) e)
  where
    off : (b : Bool) → not b ≡ false → b ≡ true
    off true f = refl
    off false f = absurd (cc)

closure_there : (a b c : ℤ) → IsTrue (are_there a b c) → closure_of a b c ≡ loop_sum a b c
closure_there a b c t = rw t refl

-- a sum that is not too wide has a value
sum_there : (a b c : ℤ) → IsTrue (are_there a b c) → (IsWideLoop a b c → ⊥) → IsTrue (is_value (loop_sum a b c))
sum_there a b c t narrow = elim (cases_Bool (is_value (loop_sum a b c))) [
  | inl e ↦ e
  | inr e ↦ absurd (narrow (t, λ is. is.1 (missing (loop_sum a b c) e)))
]

-- ---- the third grid raised

pub cycles_close : CyclesClose
cycles_close a b c closures cycles are whole x y lx ly t =
    let u = a.values x y in
    let v = b.values x y in
    let w = c.values x y in
    let n = cycles.values x y in
    let e = are.values x y lx ly ∙ closure_there u v w t in
    let there = subst (λ (s : ℤ). IsTrue (is_value s)) (sym e) (sum_there u v w t (λ wide. are.narrow x y (lx, ly, wide))) in
    let half = (whole.values x y (omega (arith, lx, are.width)) (omega (arith, ly, are.height))).0 there in
    let low : neg_ℤ (pos 32768) ≤ℤ (loop_sum u v w -ℤ pos 65536 *ℤ n) = subst (λ (s : ℤ). neg_ℤ (pos 32768) ≤ℤ (s -ℤ pos 65536 *ℤ n)) e half.0 in
    let high : (loop_sum u v w -ℤ pos 65536 *ℤ n) ≤ℤ pos 32767 = subst (λ (s : ℤ). (s -ℤ pos 65536 *ℤ n) ≤ℤ pos 32767) e half.1 in
    (omega (arith, ints, low), omega (arith, ints, high))

pub one_number : (s m n : ℤ) → IsHalfCycle (s -ℤ pos 65536 *ℤ m) → IsHalfCycle (s -ℤ pos 65536 *ℤ n) → m ≡ n
one_number s m n p q =
    let a = p.0 in
    let b = p.1 in
    let c = q.0 in
    let d = q.1 in
    omega (arith, ints, a, b, c, d)

pub only_cycles_close : OnlyCyclesClose
only_cycles_close a b c closures cycles n are whole closes x y lx ly t =
    let u = a.values x y in
    let v = b.values x y in
    let w = c.values x y in
    let m = n x y in
    let given = closes x y lx ly t in
    let g0 = given.0 in
    let g1 = given.1 in
    let all = cycles_close a b c closures cycles are whole x y lx ly t in
    let h0 = all.0 in
    let h1 = all.1 in
    let k = cycles.values x y in
    omega (arith, ints, g0, g1, h0, h1)

-- ---- places and pixels

-- what holds at the places of a list holds at the pixels
pub closed_grids : (w h : ℕ) (a b c closures : List ℤ) → AreClosed a b c (w * h) closures → AreClosures (record { width = w; height = h; values = value_at w a }) (record { width = w; height = h; values = value_at w b }) (record { width = w; height = h; values = value_at w c }) (record { width = w; height = h; values = value_at w closures })
closed_grids w h a b c closures are = record {
  width = refl;
  height = refl;
  values = λ x y lx ly. are.values (y * w + x) (place_below w h x y lx ly);
  narrow = λ x y wide. are.narrow (y * w + x) (place_below w h x y wide.0 wide.1) wide.2;
}
  where
    place_below : (w h x y : ℕ) → x < w → y < h → y * w + x < w * h
    place_below w h x y lx ly = let lt = mul-add-lt y w x h ly lx in omega (arith, lt)

pub cycled_grids : (w h : ℕ) (closures cycles : List ℤ) → HaveCycles closures (w * h) cycles → AreCycles (record { width = w; height = h; values = value_at w closures }) (record { width = w; height = h; values = value_at w cycles })
cycled_grids w h closures cycles have = record {
  width = refl;
  height = refl;
  values = λ x y lx ly. have (y * w + x) (let lt = mul-add-lt y w x h ly lx in omega (arith, lt));
}

-- the first place that is too wide, as a pixel
pub first_pixel : (w h place : ℕ) (a b c : List ℤ) → 0 < w → length a ≡ w * h → IsFirstWidePlace a b c place → IsFirstWideLoop (record { width = w; height = h; values = value_at w a }) (record { width = w; height = h; values = value_at w b }) (record { width = w; height = h; values = value_at w c }) (place % w) (place / w)
first_pixel w h place a b c some n (lt, (wide, first)) =
    let whole : (place / w) * w + place % w ≡ place = omega arith in
    ((omega arith, row (place / w) whole, subst (λ (k : ℕ). IsWideIn a b c k) (sym whole) wide), λ u v before at. first (v * w + u) (let e = earlier_place w u v (place % w) (place / w) at.0 before in omega (arith, e, whole)) at.2)
  where
    row : (y : ℕ) → y * w + place % w ≡ place → y < h
    row y e = elim (cases_lt y h) [ inl less ↦ less | inr le ↦ absurd (let m = mul-le h w y w le (omega arith) in omega (arith, m, e, lt, n)) ]

-- the same where each grid has a size of its own, and the sizes are equal
pub first_pixel_of : (w h v i u j place : ℕ) (a b c : List ℤ) → (v ≡ w) × (i ≡ h) → (u ≡ w) × (j ≡ h) → 0 < w → length a ≡ w * h → IsFirstWidePlace a b c place → IsFirstWideLoop (record { width = w; height = h; values = value_at w a }) (record { width = v; height = i; values = value_at v b }) (record { width = u; height = j; values = value_at u c }) (place % w) (place / w)
first_pixel_of w h v i u j place a b c e f some n first =
    subst (λ (k : ℕ). IsFirstWideLoop (record { width = w; height = h; values = value_at w a }) (record { width = k; height = i; values = value_at k b }) (record { width = u; height = j; values = value_at u c }) (place % w) (place / w)) (sym e.0)
    (subst (λ (k : ℕ). IsFirstWideLoop (record { width = w; height = h; values = value_at w a }) (record { width = w; height = i; values = value_at w b }) (record { width = k; height = j; values = value_at k c }) (place % w) (place / w)) (sym f.0)
    (first_pixel w h place a b c some n first))

-- one place more
pub have_more : (closures cycles : List ℤ) (k : ℕ) (v : ℤ) → k < length cycles → HaveCycles closures k cycles → AreCyclesIn (at_place closures k) v → HaveCycles closures (k + 1) (set cycles k v)
have_more closures cycles k v lt have is i l = elim (below_or_last i k l) [
  | inl below ↦ subst (λ (n : ℤ). AreCyclesIn (at_place closures i) n) (sym (get_or-set_other cycles k i v (pos 0) (λ e. omega (arith, e, below)))) (have i below)
  | inr last ↦ subst (λ (j : ℕ). AreCyclesIn (at_place closures j) (at_place (set cycles k v) j)) (sym last) (subst (λ (n : ℤ). AreCyclesIn (at_place closures k) n) (sym (get_or-set_same cycles k v (pos 0) lt)) is)
]

pub closed_more : (a b c closures : List ℤ) (k : ℕ) (v : ℤ) → k < length closures → AreClosed a b c k closures → v ≡ closure_of (at_place a k) (at_place b k) (at_place c k) → (IsWideIn a b c k → ⊥) → AreClosed a b c (k + 1) (set closures k v)
closed_more a b c closures k v lt are e narrow = record {
  narrow = λ i l. elim (below_or_last i k l) [ inl below ↦ are.narrow i below | inr last ↦ subst (λ (j : ℕ). IsWideIn a b c j → ⊥) (sym last) narrow ];
  values = λ i l. elim (below_or_last i k l) [
    | inl below ↦ get_or-set_other closures k i v (pos 0) (λ f. omega (arith, f, below)) ∙ are.values i below
    | inr last ↦ subst (λ (j : ℕ). at_place (set closures k v) j ≡ closure_of (at_place a j) (at_place b j) (at_place c j)) (sym last) (get_or-set_same closures k v (pos 0) lt ∙ e)
  ];
}

pub keys_more : (cycles keys : List ℤ) (i : ℕ) (d v : ℤ) → i < length cycles → keys ≡ keys_of (take i cycles) → v ≡ key_of (get_or cycles i d) → keys ++ v ∷ [] ≡ keys_of (take (i + 1) cycles)
keys_more cycles keys i d v lt e f =
    ap (λ (l : List ℤ). l ++ v ∷ []) e
    ∙ ap (λ (n : ℤ). keys_of (take i cycles) ++ n ∷ []) f
    ∙ sym (ap (λ (l : List ℤ). keys_of l) (take_more cycles i d lt) ∙ map-append key_of (take i cycles) (get_or cycles i d ∷ []))

-- ---- what is told

one_first : (a b c : GridOf) (x y u v : ℕ) → IsFirstWideLoop a b c x y → IsFirstWideLoop a b c u v → (u ≡ x) × (v ≡ y)
one_first a b c x y u v p q = same_pixel u v x y (λ e. p.1 u v e q.0) (λ e. q.1 x y e p.0)

-- a refusal tells the first wide pixel, if there is one
pub fault_told : (a b c : GridOf) (fault : LoopFault) → HasLoopCause a b c fault → (x y : ℕ) → IsFirstWideLoop a b c x y → IsWideTold x y (Err fault)
fault_told a b c (Wide u v) cause x y p = one_first a b c x y u v p cause
fault_told a b c Memory cause x y p = tt

-- a refusal for want of room aside, the cause is the whole's
pub wide_cause : (a b c : GridOf) (fault : LoopFault) → HasWideCause a b c fault → HasLoopCause a b c fault
wide_cause a b c (Wide x y) cause = cause
wide_cause a b c Memory cause = absurd cause

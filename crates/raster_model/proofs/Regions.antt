-- The regions of a raster can be numbered, as far as a decidable conclusion can tell.
use Rattle.std.proofs.Common.{◌≡◌, ℕ, zero, suc, ◌+◌, ◌*◌, ◌/◌, ◌%◌, ◌<◌, ◌≤◌, sym, ◌∙◌, ap, refl, arith, Bool, true, false, inl, inr, ◌⊎◌}
use Rattle.std.specs.Prelude.{IsTrue, ◌↔◌, ◌==◌, ℤ, ◌≤ℤ◌, if◌then◌else◌}
use lib.Signed.{le_z, le_z_yes}
use Rattle.std.proofs.Math.Dec.{T}
use Rattle.std.proofs.lemmas.Nat.{mul-add-lt, div-mul-add, mod-mul-add, div-add-mod', mod_below, div_below}
use Rattle.std.proofs.lemmas.Bool.Decides.{nat_tests}
use Rattle.raster_model.specs.Sums.{Field}
use Rattle.raster_model.specs.Raster.{Raster}
use Rattle.raster_model.specs.Seams.{AreJoined, IsOpenPixel, IsLabelling}
use Rattle.raster_model.specs.Seams.AreJoined.{here, rightward, leftward, downward, upward}
use Rattle.sums_and_lists.proofs.Orders.{below_or_at}

-- ---- to be joined is an equivalence
pub joined_trans : {r : Raster} {mask : Field Bool} {x y a b c d : ℕ} → AreJoined r mask x y a b → AreJoined r mask a b c d → AreJoined r mask x y c d
joined_trans p here = p
joined_trans p (rightward q i) = rightward (joined_trans p q) i
joined_trans p (leftward q i) = leftward (joined_trans p q) i
joined_trans p (downward q i) = downward (joined_trans p q) i
joined_trans p (upward q i) = upward (joined_trans p q) i

pub joined_sym : {r : Raster} {mask : Field Bool} {x y a b : ℕ} → AreJoined r mask x y a b → AreJoined r mask a b x y
joined_sym here = here
joined_sym (rightward q i) = joined_trans (leftward here i) (joined_sym q)
joined_sym (leftward q i) = joined_trans (rightward here i) (joined_sym q)
joined_sym (downward q i) = joined_trans (upward here i) (joined_sym q)
joined_sym (upward q i) = joined_trans (downward here i) (joined_sym q)

-- ---- what cannot be refuted
abbrev pub Sure : Type 0 → Type 0
Sure A = (A → ⊥) → ⊥

sure_cases : (A : Type 0) → Sure (A ⊎ (A → ⊥))
sure_cases A n = n (inr (λ a. n (inl a)))

-- ---- numbers for the classes of a relation on the numbers below n that pass a test
pub record Numbering (clear : ℕ → Bool) (R : ℕ → ℕ → Type 0) (n : ℕ) : Type 0 where
  pub label : ℕ → ℕ
  pub count : ℕ
  pub below : (i : ℕ) → i < n → IsTrue (clear i) → label i < count
  pub used : (v : ℕ) → v < count → (i : ℕ) × (i < n) × IsTrue (clear i) × (label i ≡ v)
  pub same : (i j : ℕ) → i < n → j < n → IsTrue (clear i) → IsTrue (clear j) → (label i ≡ label j) ↔ R i j

-- one more label
given : ℕ → ℕ → (ℕ → ℕ) → ℕ → ℕ
given n v label i = if i == n then v else label i

given_new : (n v : ℕ) (label : ℕ → ℕ) → given n v label n ≡ v
unfolding given
given_new n v label = grind (arith, nat_tests)

given_old : (n v : ℕ) (label : ℕ → ℕ) (i : ℕ) → i < n → given n v label i ≡ label i
unfolding given
given_old n v label i l = grind (arith, nat_tests)

module _ (clear : ℕ → Bool) (R : ℕ → ℕ → Type 0) (R_refl : (i : ℕ) → R i i) (R_sym : (i j : ℕ) → R i j → R j i) (R_trans : (i j k : ℕ) → R i j → R j k → R i k) where
  none : Numbering clear R 0
  none = record {
    label = λ i. 0;
    count = 0;
    below = λ i l. absurd (omega arith);
    used = λ v l. absurd (omega arith);
    same = λ i j l. absurd (omega arith);
  }

  -- a masked place needs no label
  skip : (n : ℕ) → Numbering clear R n → clear n ≡ false → Numbering clear R (suc n)
  skip n N e = record {
    label = N.label;
    count = N.count;
    below = λ i l o. N.below i (earlier i l o) o;
    used = λ v l. let u = N.used v l in (u.0, omega (arith, u.1), u.2, u.3);
    same = λ i j l m o p. N.same i j (earlier i l o) (earlier j m p) o p;
  }
    where
      earlier : (i : ℕ) → i < suc n → IsTrue (clear i) → i < n
      earlier i l o = elim (below_or_at i n l) [ inl k ↦ k | inr k ↦ absurd (clash i k o) ]
        where
          clash : (i : ℕ) → i ≡ n → IsTrue (clear i) → ⊥
          clash i k o = let o' = rw k at o in cc

  -- an open place gets the label v
  extend : (n : ℕ) (N : Numbering clear R n) (v c : ℕ) → IsTrue (clear n) → v < c → N.count ≤ c → ((w : ℕ) → w < c → (w < N.count) ⊎ (w ≡ v)) → ((j : ℕ) → j < n → IsTrue (clear j) → (v ≡ N.label j) ↔ R n j) → Numbering clear R (suc n)
  extend n N v c o l m split new = record {
    label = given n v N.label;
    count = c;
    below = λ i k p. elim (below_or_at i n k) [
      | inl q ↦ rw (given_old n v N.label i q) (omega (arith, N.below i q p))
      | inr q ↦ rw (q, given_new n v N.label) l
    ];
    used = λ w k. elim (split w k) [
      | inl q ↦ (let u = N.used w q in (u.0, omega (arith, u.1), u.2, given_old n v N.label u.0 u.1 ∙ u.3))
      | inr q ↦ (n, omega arith, o, given_new n v N.label ∙ sym q)
    ];
    same = λ i j k k' p p'. elim (below_or_at i n k) [
      | inl q ↦ elim (below_or_at j n k') [
        | inl q' ↦ rw (given_old n v N.label i q, given_old n v N.label j q') (N.same i j q q' p p')
        | inr q' ↦ rw (q', given_old n v N.label i q, given_new n v N.label) (λ e. R_sym n i ((new i q p).0 (sym e)), λ t. sym ((new i q p).1 (R_sym i n t)))
      ]
      | inr q ↦ elim (below_or_at j n k') [
        | inl q' ↦ rw (q, given_old n v N.label j q', given_new n v N.label) (new j q' p')
        | inr q' ↦ rw (q, q') (λ e. R_refl n, λ t. refl)
      ]
    ];
  }

  step : (n : ℕ) → Numbering clear R n → Sure (Numbering clear R (suc n))
  step n N k = go (clear n) refl
    where
      go : (t : Bool) → clear n ≡ t → ⊥
      go false e = k (skip n N e)
      go true e =
          sure_cases ((i : ℕ) × (i < n) × IsTrue (clear i) × R i n) (λ d. elim d [
            | inl h ↦ k (extend n N (N.label h.0) N.count e (N.below h.0 h.1 h.2) (omega arith) (λ w l. inl l)
                (λ j l o. (λ p. R_trans n h.0 j (R_sym h.0 n h.3) ((N.same h.0 j h.1 l h.2 o).0 p), λ t. (N.same h.0 j h.1 l h.2 o).1 (R_trans h.0 n j h.3 t))))
            | inr none_is ↦ k (extend n N N.count (N.count + 1) e (omega arith) (omega arith) (λ w l. last_label w l)
                (λ j l o. (λ p. absurd (omega (arith, N.below j l o, p)), λ t. absurd (none_is (j, l, o, R_sym n j t)))))
          ])
        where
          last_label : (w : ℕ) → w < N.count + 1 → (w < N.count) ⊎ (w ≡ N.count)
          last_label w l = grind arith

  pub numbering : (n : ℕ) → Sure (Numbering clear R n)
  numbering zero k = k none
  numbering (suc n) k = numbering n (λ N. step n N k)

-- ---- the regions of a raster
place_tells : (w h x y : ℕ) → x < w → y < h → ((y * w + x) % w ≡ x) × ((y * w + x) / w ≡ y) × (y * w + x < w * h)
place_tells w h x y l m = (mod-mul-add y w x l, div-mul-add y w x l, mul-add-lt y w x h m l)

place_in : (w h i : ℕ) → i < w * h → (i % w < w) × (i / w < h) × (i / w * w + i % w ≡ i)
place_in w h i l =
    let p : 0 < w = positive w h i l in
    (mod_below i w p, div_below i w h p (turned w h i l), div-add-mod' i w)
  where
    positive : (w h i : ℕ) → i < w * h → 0 < w
    positive zero h i l = absurd (omega arith)
    positive (suc w) h i l = omega arith

    turned : (w h i : ℕ) → i < w * h → i < h * w
    turned w h i l = omega arith

pub labelling : (r : Raster) (mask : Field Bool) → Sure ((labels : Field ℕ) × (count : ℕ) × IsLabelling r mask labels count)
labelling r mask k =
    numbering clear R (λ i. here) (λ i j. joined_sym) (λ i j m. joined_trans) (r.width * r.height) (λ N. k (
      labels N,
      N.count,
      record {
        below = λ x y p. let t = place_tells r.width r.height x y p.0 p.1 in N.below (y * r.width + x) t.2 (seen x y p);
        used = λ v l. (
            let u = N.used v l in
            let t = place_in r.width r.height u.0 u.1 in
            (u.0 % r.width, u.0 / r.width, (t.0, t.1, u.2), ap N.label t.2 ∙ u.3));
        same = λ x y a b p q. (
            let t = place_tells r.width r.height x y p.0 p.1 in
            let s = place_tells r.width r.height a b q.0 q.1 in
            let f = N.same (y * r.width + x) (b * r.width + a) t.2 s.2 (seen x y p) (seen a b q) in
            rw (t.0, t.1, s.0, s.1) at f);
      },
    ))
  where
    clear : ℕ → Bool
    clear i = mask (i % r.width) (i / r.width)

    R : ℕ → ℕ → Type 0
    R i j = AreJoined r mask (i % r.width) (i / r.width) (j % r.width) (j / r.width)

    labels : Numbering clear R (r.width * r.height) → Field ℕ
    labels N x y = N.label (y * r.width + x)

    seen : (x y : ℕ) → IsOpenPixel r mask x y → IsTrue (clear (y * r.width + x))
    seen x y p = let t = place_tells r.width r.height x y p.0 p.1 in rw (t.0, t.1) p.2

-- an order of whole numbers that cannot be refuted holds
pub sure_le : (a b : ℤ) → Sure (a ≤ℤ b) → a ≤ℤ b
sure_le a b h = elim (either (le_z a b)) [ inl t ↦ le_z_yes t | inr n ↦ absurd (h (λ l. n l.le)) ]
  where
    either : (t : Bool) → T t ⊎ (T t → ⊥)
    either true = inl tt
    either false = inr (λ x. x)

-- Ranks of trees among those that are large enough, and labels by them.
use Rattle.std.proofs.Common.{◌≡◌, ◌≢◌, ◌∙◌, ℕ, zero, suc, ◌+◌, ◌*◌, ◌/◌, ◌%◌, ◌<◌, ◌≤◌, ◌⊎◌, ap, sym, refl, inl, inr, arith, Bool, true, false, List, length, length-set}
use Rattle.std.specs.Prelude.{◌==◌, nat_le, if◌then◌else◌, slice_index, slice_set}
use Rattle.std.proofs.lemmas.Bool.{cases_Bool, cases_lt}
use Rattle.std.proofs.lemmas.Bool.Decides.{nat_tests}
use Rattle.std.proofs.lemmas.List.{get_or-set_same, get_or-set_other}
use Rattle.std.proofs.lemmas.Nat.{mod_below, div_below, div-add-mod', mul-add-lt}
use Rattle.sums_and_lists.specs.Sums.{count_below, one_if}
use Rattle.sums_and_lists.proofs.CountLemmas.{count_below-le, count_below-more, count_below-none}
use Rattle.sums_and_lists.proofs.Orders.{below_at_above, below_or_last}
use Rattle.sums_and_lists.proofs.Tests.{one_at_most}
use Rattle.joined_cells.specs.Flood.{no_label}
use Rattle.joined_cells.specs.Joining.{IsOpenOf, Joining}
use Rattle.joined_cells.specs.Trees.{HasTreeNumbers}
use Rattle.certain_parts.specs.Labels.{enough, label_at, part_label, rank_of, size_of}
use Rattle.certain_parts.specs.Laws.{LabelsTellParts}
use Rattle.certain_parts.specs.Parts.{parts_joined}

-- ---- ranks
-- they depend on the sizes alone
count_alike : (n : ℕ) (f g : ℕ → ℕ) → ((i : ℕ) → i < n → f i ≡ g i) → count_below n f ≡ count_below n g
unfolding count_below
count_alike zero f g h = refl
count_alike (suc n) f g h = omega (arith, count_alike n f g (λ i l. h i (omega arith)), h n (omega arith))

pub enough_alike : (least n : ℕ) (f g : ℕ → ℕ) → ((i : ℕ) → i < n → f i ≡ g i) → enough least f n ≡ enough least g n
enough_alike least n f g h = count_alike n (λ i. one_if (nat_le least (f i))) (λ i. one_if (nat_le least (g i))) (λ i l. ap (λ (s : ℕ). one_if (nat_le least s)) (h i l))

pub rank_alike : (least n : ℕ) (f g : ℕ → ℕ) → ((i : ℕ) → i ≤ n → f i ≡ g i) → rank_of least f n ≡ rank_of least g n
rank_alike least n f g h = rw (h n (omega arith), enough_alike least n f g (λ i l. h i (omega arith))) refl

pub enough_more : (least n : ℕ) (f : ℕ → ℕ) → enough least f (n + 1) ≡ enough least f n + one_if (nat_le least (f n))
enough_more least n f = count_below-more n (λ i. one_if (nat_le least (f i)))

pub enough_few : (least n : ℕ) (f : ℕ → ℕ) → enough least f n ≤ n
enough_few least zero f = omega (arith, count_below-none (λ i. one_if (nat_le least (f i))))
enough_few least (suc n) f = let e : suc n ≡ n + 1 = omega arith in rw e (omega (arith, enough_more least n f, enough_few least n f, one_at_most (nat_le least (f n))))

rank_large : (least n : ℕ) (f : ℕ → ℕ) → nat_le least (f n) ≡ true → rank_of least f n ≡ 1 + enough least f n
rank_large least n f t = rw t refl

rank_small : (least n : ℕ) (f : ℕ → ℕ) → nat_le least (f n) ≡ false → rank_of least f n ≡ 0
rank_small least n f t = rw t refl

-- a rank above 0 is of a large one, and of no other
pub above_zero : (least n : ℕ) (f : ℕ → ℕ) → 1 ≤ rank_of least f n → nat_le least (f n) ≡ true
above_zero least n f l = elim (cases_Bool (nat_le least (f n))) [
  | inl t ↦ t
  | inr t ↦ absurd (omega (arith, l, rank_small least n f t))
]

rises : (least m n : ℕ) (f : ℕ → ℕ) → m < n → nat_le least (f m) ≡ true → enough least f m < enough least f n
rises least m n f l t =
    let one : one_if (nat_le least (f m)) ≡ 1 = rw t refl in
    omega (arith, enough_more least m f, one, count_below-le (m + 1) n (λ i. one_if (nat_le least (f i))) (omega arith))

pub one_rank : (least m n : ℕ) (f : ℕ → ℕ) → 1 ≤ rank_of least f m → rank_of least f m ≡ rank_of least f n → m ≡ n
one_rank least m n f l e =
    let s = above_zero least m f l in
    let t = above_zero least n f (omega (arith, l, e)) in
    let a = rank_large least m f s in
    let b = rank_large least n f t in
    elim (below_at_above m n) [
      | inl k ↦ absurd (omega (arith, a, b, e, rises least m n f k s))
      | inr h ↦ elim h [ inl k ↦ k | inr k ↦ absurd (omega (arith, a, b, e, rises least n m f k t)) ]
    ]

-- each rank is that of a tree
pub rank_reached : (least n total : ℕ) (f : ℕ → ℕ) → 1 ≤ n → n ≤ enough least f total → (m : ℕ) × (m < total) × (rank_of least f m ≡ n)
rank_reached least n zero f one l = absurd (omega (arith, one, l, count_below-none (λ i. one_if (nat_le least (f i)))))
rank_reached least n (suc total) f one l =
    let e : suc total ≡ total + 1 = omega arith in
    let more = enough_more least total f in
    elim (cases_lt (enough least f total) n) [
      | inl above ↦ elim (cases_Bool (nat_le least (f total))) [
        | inl t ↦ (
            let step : one_if (nat_le least (f total)) ≡ 1 = rw t refl in
            let last : n ≤ enough least f (total + 1) = rw e at l in
            (total, omega arith, omega (arith, rank_large least total f t, more, step, last, above)))
        | inr t ↦ absurd (
            let step : one_if (nat_le least (f total)) ≡ 0 = rw t refl in
            let last : n ≤ enough least f (total + 1) = rw e at l in
            omega (arith, more, step, last, above))
      ]
      | inr within ↦ (let u = rank_reached least n total f one (omega (arith, within)) in (u.0, omega (arith, u.1), u.2))
    ]

pub le_told : (a b : ℕ) → a ≤ b → nat_le a b ≡ true
le_told a b l = grind (arith, nat_tests)

pub lt_told : (a b : ℕ) → b < a → nat_le a b ≡ false
lt_told a b l = grind (arith, nat_tests)

-- ---- the first k sizes are ranked
pub record AreRanked (old : List ℕ) (least k count : ℕ) (now : List ℕ) : Type 0 where
  pub size : length now ≡ length old
  pub ranks : (n : ℕ) → n < k → slice_index now n ≡ rank_of least (λ i. slice_index old i) n
  pub rest : (n : ℕ) → k ≤ n → slice_index now n ≡ slice_index old n
  pub counted : count ≡ enough least (λ i. slice_index old i) k

pub ranking_begins : (old : List ℕ) (least : ℕ) → AreRanked old least 0 0 old
ranking_begins old least = record {
  size = refl;
  ranks = λ n l. absurd (omega arith);
  rest = λ n l. refl;
  counted = sym (count_below-none (λ i. one_if (nat_le least (slice_index old i))));
}

module _ (old : List ℕ) (least k count : ℕ) (now : List ℕ) (is : AreRanked old least k count now) (inside : k < length now) where
  ranked_on : (rank count' : ℕ) → rank ≡ rank_of least (λ i. slice_index old i) k → count' ≡ enough least (λ i. slice_index old i) (k + 1) → AreRanked old least (k + 1) count' (slice_set now k rank)
  ranked_on rank count' e f = record {
    size = length-set now k rank ∙ is.size;
    ranks = λ n l. elim (below_or_last n k l) [
      | inl m ↦ (let d : n ≢ k = omega arith in get_or-set_other now k n rank 0 d ∙ is.ranks n m)
      | inr m ↦ rw m (get_or-set_same now k rank 0 inside ∙ e)
    ];
    rest = λ n l. (let d : n ≢ k = omega arith in get_or-set_other now k n rank 0 d ∙ is.rest n (omega arith));
    counted = f;
  }

  test_is : (t : Bool) → nat_le least (slice_index now k) ≡ t → nat_le least (slice_index old k) ≡ t
  test_is t e = ap (nat_le least) (sym (is.rest k (omega arith))) ∙ e

  pub ranked_large : nat_le least (slice_index now k) ≡ true → AreRanked old least (k + 1) (count + 1) (slice_set now k (count + 1))
  ranked_large e =
      let t = test_is true e in
      let one : one_if (nat_le least (slice_index old k)) ≡ 1 = rw t refl in
      let more = enough_more least k (λ i. slice_index old i) in
      ranked_on (count + 1) (count + 1) (omega (arith, is.counted, rank_large least k (λ i. slice_index old i) t)) (omega (arith, is.counted, more, one))

  pub ranked_small : nat_le least (slice_index now k) ≡ false → AreRanked old least (k + 1) count (slice_set now k 0)
  ranked_small e =
      let t = test_is false e in
      let none : one_if (nat_le least (slice_index old k)) ≡ 0 = rw t refl in
      let more = enough_more least k (λ i. slice_index old i) in
      ranked_on 0 count (sym (rank_small least k (λ i. slice_index old i) t)) (omega (arith, is.counted, more, none))

-- ---- the first k labels are replaced
pub record AreRelabelled (old numbers : List ℕ) (k : ℕ) (now : List ℕ) : Type 0 where
  pub size : length now ≡ length old
  pub new : (i : ℕ) → i < k → slice_index now i ≡ slice_index numbers (slice_index old i)
  pub rest : (i : ℕ) → k ≤ i → slice_index now i ≡ slice_index old i

pub relabelling_begins : (old numbers : List ℕ) → AreRelabelled old numbers 0 old
relabelling_begins old numbers = record { size = refl; new = λ i l. absurd (omega arith); rest = λ i l. refl }

pub relabelled_on : (old numbers : List ℕ) (k : ℕ) (now : List ℕ) (label : ℕ) → AreRelabelled old numbers k now → k < length now → label ≡ slice_index numbers (slice_index now k) → AreRelabelled old numbers (k + 1) (slice_set now k label)
relabelled_on old numbers k now label is inside e = record {
  size = length-set now k label ∙ is.size;
  new = λ i l. elim (below_or_last i k l) [
    | inl m ↦ (let d : i ≢ k = omega arith in get_or-set_other now k i label 0 d ∙ is.new i m)
    | inr m ↦ rw m (get_or-set_same now k label 0 inside ∙ e ∙ ap (slice_index numbers) (is.rest k (omega arith)))
  ];
  rest = λ i l. (let d : i ≢ k = omega arith in get_or-set_other now k i label 0 d ∙ is.rest i (omega arith));
}

-- ---- labels of pixels
module _ (joining : Joining) (numbers : List ℕ) (total : ℕ) (is : HasTreeNumbers joining numbers total) where
  -- a number at a place is below the total, or none
  pub told_or_none : (i : ℕ) → 0 < joining.width → i < joining.height * joining.width → (slice_index numbers i < total) ⊎ (slice_index numbers i ≡ no_label)
  told_or_none i wide l =
      let x = i % joining.width in
      let y = i / joining.width in
      let across : x < joining.width = mod_below i joining.width wide in
      let along : y < joining.height = div_below i joining.width joining.height wide l in
      let place : y * joining.width + x ≡ i = div-add-mod' i joining.width in
      elim (cases_Bool (joining.mask x y)) [
        | inl o ↦ inl (rw place at (is.told.below x y (across, along, o)))
        | inr o ↦ inr (rw place at (is.masked x y across along o))
      ]

pub label_told : (least : ℕ) (numbers : List ℕ) (i total : ℕ) → slice_index numbers i < total → total ≤ 268435456 → part_label least numbers i ≡ rank_of least (size_of numbers) (slice_index numbers i)
label_told least numbers i total l few = told (slice_index numbers i) (rank_of least (size_of numbers) (slice_index numbers i)) (omega (arith, l, few))
  where
    told : (n rank : ℕ) → n < 4294967295 → (if n == 4294967295 then 0 else rank) ≡ rank
    told n rank l = grind (arith, nat_tests)

pub label_none : (least : ℕ) (numbers : List ℕ) (i : ℕ) → slice_index numbers i ≡ no_label → part_label least numbers i ≡ 0
label_none least numbers i e = rw e refl

-- the labels after ranking are those of the parts
pub labels_are : (joining : Joining) (numbers labels : List ℕ) (total least : ℕ) → 0 < joining.width → total ≤ 268435456 → HasTreeNumbers joining numbers total
    → ((i : ℕ) → i < length numbers → slice_index numbers i < total → slice_index labels i ≡ rank_of least (size_of numbers) (slice_index numbers i))
    → ((i : ℕ) → i < length numbers → total ≤ slice_index numbers i → slice_index labels i ≡ 0)
    → (i : ℕ) → i < length numbers → slice_index labels i ≡ part_label least numbers i
labels_are joining numbers labels total least wide few is ranked other i l =
    let turned : joining.width * joining.height ≡ joining.height * joining.width = omega arith in
    elim (told_or_none joining numbers total is i wide (omega (arith, l, is.full, turned))) [
      | inl m ↦ ranked i l m ∙ sym (label_told least numbers i total m few)
      | inr e ↦ other i l (omega (arith, e, few)) ∙ sym (label_none least numbers i e)
    ]

-- each part has a pixel
pub has_pixel : (joining : Joining) (numbers labels : List ℕ) (total least : ℕ) → HasTreeNumbers joining numbers total
    → ((i : ℕ) → i < length numbers → slice_index numbers i < total → slice_index labels i ≡ rank_of least (size_of numbers) (slice_index numbers i))
    → (n : ℕ) → 1 ≤ n → n ≤ enough least (size_of numbers) total → (i : ℕ) × (i < length numbers) × (slice_index labels i ≡ n)
has_pixel joining numbers labels total least is ranked n one l =
    let m = rank_reached least n total (size_of numbers) one l in
    let u = is.told.used m.0 m.1 in
    let place = u.1 * joining.width + u.0 in
    let inside : place < length numbers = omega (arith, is.full, mul-add-lt u.1 joining.width u.0 joining.height u.2.1 u.2.0) in
    (place, inside, ranked place inside (omega (arith, u.3, m.1)) ∙ ap (rank_of least (size_of numbers)) u.3 ∙ m.2)

-- ---- the law
pub labels_tell : LabelsTellParts
labels_tell c limit least v is x y a b u w one =
    let r = c.raster in
    let m = slice_index is.numbers (y * r.width + x) in
    let n = slice_index is.numbers (b * r.width + a) in
    let here = label_of x y u in
    let there = label_of a b w in
    let same = is.parts.told.same x y a b u w in (
      λ e. same.0 (one_rank least m n (size_of is.numbers) (omega (arith, here, one)) (sym here ∙ e ∙ there)),
      λ j. here ∙ ap (rank_of least (size_of is.numbers)) (same.1 j) ∙ sym there,
    )
  where
    label_of : (x y : ℕ) → IsOpenOf (parts_joined c limit) x y → label_at v x y ≡ rank_of least (size_of is.numbers) (slice_index is.numbers (y * c.raster.width + x))
    label_of x y o =
        let place = y * c.raster.width + x in
        let full : length v.labels ≡ c.raster.width * c.raster.height = rw (is.width, is.height) at is.full in
        let inside : place < length v.labels = omega (arith, full, mul-add-lt y c.raster.width x c.raster.height o.1 o.0) in
        let at_width : label_at v x y ≡ slice_index v.labels place = rw is.width refl in
        at_width ∙ is.labels place inside ∙ label_told least is.numbers place is.total (is.parts.told.below x y o) is.few

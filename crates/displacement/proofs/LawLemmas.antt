-- Laws of displacements.
use Rattle.std.proofs.Common.{◌≡◌, ◌≢◌, ℕ, ◌+◌, ◌*◌, ◌/◌, ◌<◌, ◌≤◌, ℤ, pos, ◌+ℤ◌, ◌-ℤ◌, ◌*ℤ◌, arith, refl, sym, ap, subst, ◌∙◌, inl, inr}
use Rattle.std.specs.Prelude.{IsTrue, ◌&&◌, nat_lt}
use Rattle.std.proofs.lemmas.Bool.{cases_lt}
use Rattle.std.proofs.lemmas.Int.{ints}
use Rattle.sums_and_lists.specs.Sums.{count_below, sum_below, one_if, where_true}
use Rattle.sums_and_lists.proofs.CountLemmas.{count_below-more, count_below-none}
use Rattle.sums_and_lists.proofs.SumLemmas.{picked, sum_below-more, sum_below-none}
use Rattle.sums_and_lists.proofs.Orders.{is_lt}
use Rattle.sums_and_lists.proofs.Tests.{and_first, and_second, true_and_false}
use Rattle.grid_writer.specs.Grids.{GridOf}
use Rattle.grid_writer.specs.Values.{is_value}
use Rattle.displacement.specs.declared.fault.SightFault.{SightFault}
use Rattle.displacement.specs.declared.fault.SightFault.TheVariants.{Reference, Wide, Memory}
use Rattle.displacement.specs.declared.sight.Sight.{Sight}
use Rattle.displacement.specs.Blocks.{block_count, block_sum, blocks_of, has_value}
use Rattle.displacement.specs.Displacements.{HasCause, IsBlockValue, IsDisplacement, IsMean}
use Rattle.displacement.specs.Laws.{CyclesAreHalfWavelengths, DisplacementsAreUnique, OneAnswer}
use Rattle.displacement.proofs.MeanLemmas.{mean_unique}
use Rattle.displacement.proofs.BlockLemmas.{adds_at, counts_at}
use Rattle.displacement.proofs.DisplacingLemmas.{first_is_one, not_wide}

-- ---- one grid of displacements

value_unique : (s : Sight) (g : GridOf) (i j : ℕ) (d e : ℤ) → IsBlockValue s g i j d → IsBlockValue s g i j e → d ≡ e
value_unique s g i j d e p q =
    elim (cases_lt 0 (block_count g s.block i j)) [
      | inl some ↦ mean_unique s.wavelength (block_count g s.block i j) (block_sum g s.block i j -ℤ pos (block_count g s.block i j) *ℤ g.values s.x s.y) d e (p.mean some).0 (q.mean some).0
      | inr none ↦ p.none (omega (arith, none)) ∙ sym (q.none (omega (arith, none)))
    ]

pub displacements_unique : DisplacementsAreUnique
displacements_unique s g one other p q = record {
  width = p.width ∙ sym q.width;
  height = p.height ∙ sym q.height;
  values = λ x y l m. value_unique s g x y (one.values x y) (other.values x y) (p.blocks x y l m)
      (q.blocks x y (subst (λ (n : ℕ). x < n) (p.width ∙ sym q.width) l) (subst (λ (n : ℕ). y < n) (p.height ∙ sym q.height) m));
}

-- ---- one answer

either_answer : (s : Sight) (g output : GridOf) (fault : SightFault) → IsDisplacement s g output → HasCause s g fault → fault ≡ Memory
either_answer s g output Reference d c = absurd (true_and_false (has_value g s.x s.y) d.reference c)
either_answer s g output (Wide x y) d c =
    let w = c.1 in
    absurd (not_wide s g x y (output.values x y) (d.blocks x y (subst (λ (n : ℕ). x < n) (sym d.width) w.across) (subst (λ (n : ℕ). y < n) (sym d.height) w.along)) w.here)
either_answer s g output Memory d c = refl

one_fault : (s : Sight) (g : GridOf) (fault other : SightFault) → fault ≢ Memory → other ≢ Memory → HasCause s g fault → HasCause s g other → fault ≡ other
one_fault s g Reference Reference m n c d = refl
one_fault s g Reference (Wide x y) m n c d = absurd (true_and_false (has_value g s.x s.y) d.0 c)
one_fault s g Reference Memory m n c d = absurd (n refl)
one_fault s g (Wide x y) Reference m n c d = absurd (true_and_false (has_value g s.x s.y) c.0 d)
one_fault s g (Wide x y) (Wide a b) m n c d = let e = first_is_one s g x y a b c.1 d.1 in ap (λ (k : ℕ). Wide k y) e.0 ∙ ap (λ (k : ℕ). Wide a k) e.1
one_fault s g (Wide x y) Memory m n c d = absurd (n refl)
one_fault s g Memory other m n c d = absurd (m refl)

pub one_answer : OneAnswer
one_answer = record { either = either_answer; one = one_fault }

-- ---- blocks of one pixel

pixel_at : (g : GridOf) (x y : ℕ) → (1 * x + 0 ≡ x) × (1 * y + 0 ≡ y)
pixel_at g x y = (omega arith, omega arith)

once : (n : ℕ) → 0 + (0 + n) ≡ n
once n = omega arith

single_count : (g : GridOf) (x y : ℕ) → block_count g 1 x y ≡ one_if (has_value g x y)
unfolding block_count
single_count g x y =
    count_below-more 0 (λ v. count_below 1 (counts_at g 1 x y v))
    ∙ ap (λ (k : ℕ). k + count_below 1 (counts_at g 1 x y 0)) (count_below-none (λ v. count_below 1 (counts_at g 1 x y v)))
    ∙ ap (λ (k : ℕ). 0 + k) (count_below-more 0 (counts_at g 1 x y 0) ∙ ap (λ (k : ℕ). k + counts_at g 1 x y 0 0) (count_below-none (counts_at g 1 x y 0)))
    ∙ once (counts_at g 1 x y 0 0)
    ∙ ap (λ (k : ℕ). one_if (has_value g k (1 * y + 0))) (pixel_at g x y).0 ∙ ap (λ (k : ℕ). one_if (has_value g x k)) (pixel_at g x y).1

once_more : (z : ℤ) → pos 0 +ℤ (pos 0 +ℤ z) ≡ z
once_more z = omega (arith, ints)

single_sum : (g : GridOf) (x y : ℕ) → block_sum g 1 x y ≡ where_true (has_value g x y) (g.values x y)
unfolding block_sum
single_sum g x y =
    sum_below-more 0 (λ v. sum_below 1 (adds_at g 1 x y v))
    ∙ ap (λ (k : ℤ). k +ℤ sum_below 1 (adds_at g 1 x y 0)) (sum_below-none (λ v. sum_below 1 (adds_at g 1 x y v)))
    ∙ ap (λ (k : ℤ). pos 0 +ℤ k) (sum_below-more 0 (adds_at g 1 x y 0) ∙ ap (λ (k : ℤ). k +ℤ adds_at g 1 x y 0 0) (sum_below-none (adds_at g 1 x y 0)))
    ∙ once_more (adds_at g 1 x y 0 0)
    ∙ ap (λ (k : ℕ). where_true (has_value g k (1 * y + 0)) (g.values k (1 * y + 0))) (pixel_at g x y).0 ∙ ap (λ (k : ℕ). where_true (has_value g x k) (g.values x k)) (pixel_at g x y).1

-- a side has as many blocks of one pixel as it has pixels
all_blocks : (n : ℕ) → blocks_of 1 n ≡ n
all_blocks n = omega arith

half_of : (w n q : ℕ) → q ≡ w * n / 2 → IsMean w 1 (pos (65536 * n)) (pos q)
half_of w n q e =
    let m = w * n in
    let a : 2 * (m / 2) ≤ m = omega arith in
    let b : m < 2 * (m / 2) + 2 = omega arith in
    record { least = omega (arith, ints); most = omega (arith, ints) }

on_side : (g : GridOf) (x y : ℕ) → IsTrue (has_value g x y) → (x < g.width) × (y < g.height)
on_side g x y h =
    let both = and_first (nat_lt x g.width && nat_lt y g.height) (is_value (g.values x y)) h in
    (is_lt x g.width (and_first (nat_lt x g.width) (nat_lt y g.height) both), is_lt y g.height (and_second (nat_lt x g.width) (nat_lt y g.height) both))

rise_of : (v r z : ℤ) → v ≡ r +ℤ z → v -ℤ pos 1 *ℤ r ≡ z
rise_of v r z e = omega (arith, ints)

single_mean : (s : Sight) (g : GridOf) (x y n : ℕ) (d : ℤ) → s.block ≡ 1 → IsTrue (has_value g x y) → g.values x y ≡ g.values s.x s.y +ℤ pos (65536 * n) → IsBlockValue s g x y d → d ≡ pos (s.wavelength * n / 2)
single_mean s g x y n d one has e v =
    let c : block_count g s.block x y ≡ 1 = ap (λ (b : ℕ). block_count g b x y) one ∙ single_count g x y ∙ ap one_if has in
    let t : block_sum g s.block x y ≡ g.values x y = ap (λ (b : ℕ). block_sum g b x y) one ∙ single_sum g x y ∙ picked (has_value g x y) (g.values x y) has in
    let rise : g.values x y -ℤ pos 1 *ℤ g.values s.x s.y ≡ pos (65536 * n) = rise_of (g.values x y) (g.values s.x s.y) (pos (65536 * n)) e in
    let m = (v.mean (omega (arith, c))).0 in
    let k : IsMean s.wavelength 1 (g.values x y -ℤ pos 1 *ℤ g.values s.x s.y) d = subst (λ (z : ℤ). IsMean s.wavelength 1 (z -ℤ pos 1 *ℤ g.values s.x s.y) d) t (subst (λ (p : ℕ). IsMean s.wavelength p (block_sum g s.block x y -ℤ pos p *ℤ g.values s.x s.y) d) c m) in
    mean_unique s.wavelength 1 (pos (65536 * n)) d (pos (s.wavelength * n / 2)) (subst (λ (z : ℤ). IsMean s.wavelength 1 z d) rise k) (half_of s.wavelength n (s.wavelength * n / 2) refl)

pub cycles_are_halves : CyclesAreHalfWavelengths
cycles_are_halves s g output x y n one d has e =
    let on = on_side g x y has in
    single_mean s g x y n (output.values x y) one has e
    (d.blocks x y (subst (λ (k : ℕ). x < k) (sym (d.width ∙ ap (λ (b : ℕ). blocks_of b g.width) one ∙ all_blocks g.width)) on.0)
    (subst (λ (k : ℕ). y < k) (sym (d.height ∙ ap (λ (b : ℕ). blocks_of b g.height) one ∙ all_blocks g.height)) on.1))

-- The numbers, the lists that grow by a pixel, and the planes that they make.
use Rattle.std.proofs.Common.{◌≡◌, ℕ, zero, suc, ◌+◌, ◌*◌, ◌/◌, ◌%◌, ◌^◌, ◌<◌, ◌≤◌, ◌∙◌, inl, inr, Bool, true, false, refl, sym, ap, ap₂, subst, arith, rules, List, [], ◌∷◌, ◌++◌, length, below_more, add-one}
use Rattle.std.specs.Prelude.{slice_index, IsTrue, ◌==◌, not}
use Rattle.std.proofs.Math.Dec.{eqb-suc-zero}
use Rattle.std.proofs.Math.Seq.{get_or-append_seam}
use Rattle.std.proofs.Math.Nat.{mul-add-mod_self_left}
use Rattle.std.proofs.lemmas.Bool.{cases_lt}
use Rattle.std.proofs.lemmas.List.{get_or_append_left, get_or_past, length-append}
use Rattle.std.proofs.lemmas.Nat.{div-mul-add, mod-mul-add, mul-add-lt, div-add-mod', mod_below, div_below}
use Rattle.raster_model.specs.Limits.{is_tiled_size}
use Rattle.trial_maker.specs.Trials.{next, state, phase_of, weight_of, is_open, state_at}
use Rattle.trial_maker.specs.Drawn.{AreListed, phase_number}
use Rattle.sums_and_lists.specs.Sums.{one_if}

-- ---- numbers

mod_first : (n a b : ℕ) → (a % n + b) % n ≡ (a + b) % n
mod_first n a b =
    let s = div-add-mod' a n in
    let e : a + b ≡ n * (a / n) + (a % n + b) = grind (arith, s) in
    sym (ap (λ (k : ℕ). k % n) e ∙ mul-add-mod_self_left n (a / n) (a % n + b))

pub next_is : (s : ℕ) → (s * 6364136223846793005 % 18446744073709551616 + 1442695040888963407) % 18446744073709551616 ≡ next s
unfolding next
next_is s = mod_first 18446744073709551616 (s * 6364136223846793005) 1442695040888963407

pub state_next : (seed n : ℕ) → state seed (n + 1) ≡ next (state seed n)
unfolding state
state_next seed n = rw add-one refl

pub state_zero : (seed : ℕ) → seed ≡ state seed 0
unfolding state
state_zero seed = refl

pub masked_is : (s : ℕ) → s / 1048576 % 16 ≡ 0 → 0 ≡ one_if (is_open s)
unfolding is_open
masked_is s e = sym (ap (λ (n : ℕ). one_if (not (n == 0))) e)

one_by : (n : ℕ) → 0 < n → 1 ≡ one_if (not (n == 0))
one_by zero p = absurd (omega arith)
one_by (suc n) p = rw eqb-suc-zero refl

pub open_is : (s : ℕ) → 0 < s / 1048576 % 16 → 1 ≡ one_if (is_open s)
unfolding is_open
open_is s p = one_by (s / 1048576 % 16) p

pub open_by_one : (b : Bool) (n : ℕ) → n ≡ one_if b → not (n == 0) ≡ b
open_by_one true n e = ap (λ (k : ℕ). not (k == 0)) e
open_by_one false n e = ap (λ (k : ℕ). not (k == 0)) e

pub phase_below : (s x y : ℕ) → phase_of s x y ≤ 65535
unfolding phase_of
phase_below s x y = omega (arith, mod_below (700 * x + 300 * y + s / 2 ^ 48 * 5 / 8) 65536 (omega arith))

pub weight_below : (s : ℕ) → weight_of s ≤ 256
unfolding weight_of
weight_below s = omega (arith, mod_below (s / 2 ^ 32) 256 (omega arith))

-- ---- sizes

pub record IsSize (w h : ℕ) : Type 0 where
  pub wide : (1 ≤ w) × (w ≤ 4096)
  pub high : (1 ≤ h) × (h ≤ 4096)
  pub few : w * h ≤ 4194304

pub is_size : (w h : ℕ) → IsTrue (is_tiled_size w h) → IsSize w h
is_size w h t = record { wide = search rules; high = search rules; few = search rules }

pub column_below : (w h k : ℕ) → IsTrue (is_tiled_size w h) → k % w < 4096
column_below w h k t =
    let s = is_size w h t in
    omega (arith, s.wide.0, s.wide.1, mod_below k w (omega (arith, s.wide.0)))

pub row_below : (w h k : ℕ) → IsTrue (is_tiled_size w h) → k < w * h → k / w < 4096
row_below w h k t l =
    let s = is_size w h t in
    let m : k < h * w = grind arith in
    omega (arith, s.high.1, div_below k w h (omega (arith, s.wide.0)) m)

-- ---- lists

pub none_listed : (f : ℕ → ℕ) (xs : List ℕ) → xs ≡ [] → AreListed f 0 xs
none_listed f xs e = record { counted = ap length e; each = λ k l. absurd (omega arith) }

-- one number more
pub listed_next : (f : ℕ → ℕ) (n v : ℕ) (xs ys : List ℕ) → v ≡ f n → ys ≡ xs ++ v ∷ [] → AreListed f n xs → AreListed f (n + 1) ys
listed_next f n v xs ys e y h =
    let m : length xs ≡ n = h.counted in
    subst (AreListed f (n + 1)) (sym {A = List ℕ} y) (record {
      counted = omega (arith, length-append xs (v ∷ []));
      each = below_more _ _
          (λ k i. get_or_append_left xs (v ∷ []) 0 k (omega (arith, i)) ∙ h.each k i)
          (ap (λ (k : ℕ). slice_index (xs ++ v ∷ []) k) (sym m) ∙ get_or-append_seam xs v [] 0 ∙ e);
    })

pub listed_below : (f : ℕ → ℕ) (n m : ℕ) (xs : List ℕ) → ((k : ℕ) → f k ≤ m) → AreListed f n xs → (k : ℕ) → slice_index xs k ≤ m
listed_below f n m xs all h k =
    elim (cases_lt k n) [
      | inl l ↦ omega (arith, h.each k l, all k)
      | inr g ↦ omega (arith, get_or_past xs k 0 (omega (arith, h.counted)))
    ]

-- the number at a pixel's place
pub listed_at : (f : ℕ → ℕ) (w h x y : ℕ) (xs : List ℕ) → x < w → y < h → AreListed f (w * h) xs → slice_index xs (y * w + x) ≡ f (y * w + x)
listed_at f w h x y xs l m all = all.each (y * w + x) (mul-add-lt y w x h m l)

pub phase_at : (seed w x y : ℕ) → x < w → phase_number seed w (y * w + x) ≡ phase_of (state_at seed w x y) x y
phase_at seed w x y l = ap₂ (phase_of (state_at seed w x y)) (mod-mul-add y w x l) (div-mul-add y w x l)

-- Numbers of pairs of weights are the rule's weights of edges.
use Rattle.std.proofs.Common.{◌≡◌, ℕ, ◌+◌, ◌-◌, ◌*◌, ◌/◌, ◌%◌, ◌<◌, ◌≤◌, ◌∙◌, inl, inr, sym, ap, arith, List, length, set, take, drop, ◌++◌}
use Rattle.std.specs.Prelude.{slice_index}
use Rattle.std.specs.List.{between}
use Rattle.std.proofs.lemmas.Bool.{cases_eq, cases_lt}
use Rattle.std.proofs.lemmas.List.{get_or-set_same, get_or-set_other, length-set, take_at}
use Rattle.std.proofs.lemmas.List.Edits.{get_or-between, length-between}
use Rattle.std.proofs.lemmas.Nat.{div-mul-add, mod-mul-add, div-add-mod'}
use Rattle.raster_model.specs.declared.plane.Plane.{Plane}
use Rattle.raster_model.specs.declared.weights.RuleKind.{RuleKind}
use Rattle.raster_model.specs.Sums.{right_edge, down_edge}
use Rattle.raster_model.specs.Weights.{edge_weight, rule_number}
use Rattle.edge_weights.specs.Pairs.{AreNumbered}

-- one number more
pub numbered_next : (number : ℕ → ℕ → ℕ) (firsts others : List ℕ) (s n v : ℕ) (old new : List ℕ) → s + n < length new → v ≡ number (slice_index firsts n) (slice_index others n) → AreNumbered number firsts others s n old new → AreNumbered number firsts others s (n + 1) old (set new (s + n) v)
numbered_next number firsts others s n v old new l e h = record {
  count = length-set new (s + n) v ∙ h.count;
  before = λ k m. get_or-set_other new (s + n) k v 0 (λ q. omega (arith, q, m)) ∙ h.before k m;
  numbers = λ k m. (
      elim (cases_eq k n) [
        | inl q ↦ rw q (get_or-set_same new (s + n) v 0 l ∙ e)
        | inr q ↦ get_or-set_other new (s + n) (s + k) v 0 (λ p. q (omega (arith, p))) ∙ h.numbers k (omega (arith, q, m))
      ]);
}

-- the list that a part of all of it was written back to
pub written_back : (n : ℕ) (new old : List ℕ) → n ≡ length new → take n (new ++ drop (length new) old) ≡ new
written_back n new old e = take_at new (drop (length new) old) n (sym e)

-- a list has the numbers f of the first n columns and rows, in rows of s columns
abbrev pub AreListed : (ℕ → ℕ → ℕ) → ℕ → ℕ → List ℕ → Type 0
AreListed f s n xs = (k : ℕ) → k < n → slice_index xs k ≡ f (k % s) (k / s)

-- a place in row order tells its column and its row
column_and_row : (f : ℕ → ℕ → ℕ) (s y x : ℕ) → x < s → f x y ≡ f ((y * s + x) % s) ((y * s + x) / s)
column_and_row f s y x l = sym (ap (λ (k : ℕ). f k ((y * s + x) / s)) (mod-mul-add y s x l) ∙ ap (λ (k : ℕ). f x k) (div-mul-add y s x l))

-- row y was set behind the rows before it
row_listed : (f : ℕ → ℕ → ℕ) (number : ℕ → ℕ → ℕ) (firsts others : List ℕ) (s n y : ℕ) (old new : List ℕ) → n ≡ s → ((x : ℕ) → x < s → number (slice_index firsts x) (slice_index others x) ≡ f x y) → AreNumbered number firsts others (y * s) n old new → AreListed f s (y * s) old → AreListed f s ((y + 1) * s) new
row_listed f number firsts others s n y old new whole e numbered h k l =
    elim (cases_lt k (y * s)) [
      | inl m ↦ numbered.before k m ∙ h k m
      | inr m ↦
          let within : k - y * s < s = omega (arith, m, l) in
          let back : y * s + (k - y * s) ≡ k = omega (arith, m) in
          ap (λ (i : ℕ). slice_index new i) (sym back) ∙ numbered.numbers (k - y * s) (omega (arith, within, whole)) ∙ e (k - y * s) within ∙ column_and_row f s y (k - y * s) within
          ∙ ap (λ (i : ℕ). f (i % s) (i / s)) back
    ]

-- all numbers were set at once
all_listed : (f : ℕ → ℕ → ℕ) (number : ℕ → ℕ → ℕ) (firsts others : List ℕ) (s m n : ℕ) (old new : List ℕ) → m ≡ n → ((k : ℕ) → k < n → number (slice_index firsts k) (slice_index others k) ≡ f (k % s) (k / s)) → AreNumbered number firsts others 0 m old new → AreListed f s n new
all_listed f number firsts others s m n old new whole e numbered k l =
    let z : k ≡ 0 + k = omega arith in
    ap (λ (i : ℕ). slice_index new i) z ∙ numbered.numbers k (omega (arith, whole, l)) ∙ e k l

same_number : (kind : RuleKind) (m p a b c d : ℕ) → m ≡ p → a ≡ c → b ≡ d → rule_number kind m a b ≡ rule_number kind p c d
same_number kind m p a b c d e f g = cc

-- the last pixel of a row lies in the raster
row_within : (w h y : ℕ) → y < h → y * w + w ≤ w * h
row_within w h y l = grind arith

-- the place below a place
place_below : (w x y k : ℕ) → y * w + x ≡ k → (y + 1) * w + x ≡ w + k
place_below w x y k e = grind arith

module _ (kind : RuleKind) (p : Plane) (m : ℕ) (samples : List ℕ) (e : m ≡ p.maxval) (f : samples ≡ p.samples.items) where
  pub full : length samples ≡ p.width * p.height
  full = ap (λ (xs : List ℕ). length xs) f ∙ sym p.samples.ok.0 ∙ p.full

  right_pair : (x y : ℕ) → x < p.width - 1 → rule_number kind m (slice_index (between (y * p.width) (y * p.width + (p.width - 1)) samples) x) (slice_index (between (y * p.width + 1) (y * p.width + p.width) samples) x) ≡ edge_weight kind p (right_edge x y)
  right_pair x y l =
      let to_right : y * p.width + 1 + x ≡ y * p.width + (x + 1) = omega arith in
      let first = get_or-between samples (y * p.width) (y * p.width + (p.width - 1)) x 0 (omega (arith, l)) ∙ ap (λ (xs : List ℕ). slice_index xs (y * p.width + x)) f in
      let other = get_or-between samples (y * p.width + 1) (y * p.width + p.width) x 0 (omega (arith, l)) ∙ ap (λ (xs : List ℕ). slice_index xs (y * p.width + 1 + x)) f ∙ ap (λ (i : ℕ). slice_index p.samples.items i) to_right in
      same_number kind m p.maxval _ _ _ _ e first other

  pub right_row : (y : ℕ) (old new : List ℕ) → y < p.height → AreNumbered (rule_number kind m) (between (y * p.width) (y * p.width + (p.width - 1)) samples) (between (y * p.width + 1) (y * p.width + p.width) samples) (y * (p.width - 1)) (length (between (y * p.width) (y * p.width + (p.width - 1)) samples)) old new → AreListed (λ x y. edge_weight kind p (right_edge x y)) (p.width - 1) (y * (p.width - 1)) old → AreListed (λ x y. edge_weight kind p (right_edge x y)) (p.width - 1) ((y + 1) * (p.width - 1)) new
  right_row y old new l numbered h =
      let inside = row_within p.width p.height y l in
      let minus : y * p.width + (p.width - 1) - y * p.width ≡ p.width - 1 = omega arith in
      let whole = length-between samples (y * p.width) (y * p.width + (p.width - 1)) (omega (arith, inside, full)) ∙ minus in
      row_listed (λ x y. edge_weight kind p (right_edge x y)) (rule_number kind m) _ _ (p.width - 1) _ y old new whole (λ x k. right_pair x y k) numbered h

  down_pair : (n k : ℕ) → k < n → rule_number kind m (slice_index (between 0 n samples) k) (slice_index (between p.width (p.width + n) samples) k) ≡ edge_weight kind p (down_edge (k % p.width) (k / p.width))
  down_pair n k l =
      let start : k ≡ k / p.width * p.width + k % p.width = sym (div-add-mod' k p.width) in
      let below : p.width + k ≡ (k / p.width + 1) * p.width + k % p.width = sym (place_below p.width (k % p.width) (k / p.width) k (sym start)) in
      let begin : 0 + k ≡ k = omega arith in
      let first = get_or-between samples 0 n k 0 (omega (arith, l)) ∙ ap (λ (xs : List ℕ). slice_index xs (0 + k)) f ∙ ap (λ (i : ℕ). slice_index p.samples.items i) (begin ∙ start) in
      let other = get_or-between samples p.width (p.width + n) k 0 (omega (arith, l)) ∙ ap (λ (xs : List ℕ). slice_index xs (p.width + k)) f ∙ ap (λ (i : ℕ). slice_index p.samples.items i) below in
      same_number kind m p.maxval _ _ _ _ e first other

  pub down_rows : (n : ℕ) (old new : List ℕ) → n ≤ length samples → AreNumbered (rule_number kind m) (between 0 n samples) (between p.width (p.width + n) samples) 0 (length (between 0 n samples)) old new → AreListed (λ x y. edge_weight kind p (down_edge x y)) p.width n new
  down_rows n old new l numbered =
      let minus : n - 0 ≡ n = omega arith in
      all_listed (λ x y. edge_weight kind p (down_edge x y)) (rule_number kind m) _ _ p.width _ n old new (length-between samples 0 n l ∙ minus) (λ k i. down_pair n k i) numbered

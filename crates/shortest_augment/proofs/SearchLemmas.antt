-- What a search keeps of its lists.
use Rattle.std.proofs.Common.{◌≡◌, ℕ, ◌+◌, ◌<◌, ◌≤◌, ◌^◌, sym, ◌∙◌, ap, refl, arith, subst, inl, inr}
use Rattle.std.specs.Prelude.{◌⊎◌, ℤ, Option, pos, ◌≤ℤ◌, ◌<ℤ◌, List, length, get_or, slice_set, Some, None, Contains, replicate, [], ◌∷◌, ◌++◌, sum}
use Rattle.std.proofs.lemmas.Int.{ints}
use Rattle.std.proofs.lemmas.List.{get_or-set_same, get_or-set_other, length-set, get_or-replicate, length-replicate, length-append, get_or_append_left}
use Rattle.std.proofs.lemmas.List.Sums.{sum_by-set}
use Rattle.std.proofs.Math.Seq.{get_or-append_seam}
use Rattle.std.proofs.lemmas.List.Elements.{Contains-push_cases}
use Rattle.std.proofs.lemmas.Bool.{cases_eq}
use Rattle.flow_network.specs.Nets.{Shape, State, IsArc, IsNetwork}
use Rattle.shortest_augment.specs.Labels.{AreDistances, IsSearched, AreSteps, IsUntouched, IsKept, IsNearest, IsLowered, IsFalling, AreFalls, ContinuesSearch, fall_to, work}
use Rattle.shortest_augment.specs.Trees.{mark_at, no_mark}
use Rattle.shortest_augment.specs.declared.mark.Mark.{Mark}
use Rattle.shortest_augment.specs.declared.search.Search.{Search}

pub steps_set : (s : Shape) (steps : List Mark) (h : ℕ) (m : Mark) → AreSteps s steps → h < s.nodes → ((a : ℕ) → m.arc ≡ Some a → IsArc s a × (s.head a ≡ h)) → AreSteps s (slice_set steps h m)
steps_set s steps h m ok l led = record {
  count = length-set steps h m ∙ ok.count;
  led = λ v a lv e. (
      elim (cases_eq v h) [
        | inl q ↦ (
            let at : mark_at (slice_set steps h m) v ≡ m = rw q (get_or-set_same steps h m no_mark (omega (arith, l, ok.count))) in
            let d = led a (ap (λ (k : Mark). k.arc) (sym at) ∙ e) in
            (d.0, d.1 ∙ sym q))
        | inr q ↦ (
            let at : mark_at (slice_set steps h m) v ≡ mark_at steps v = get_or-set_other steps h v m no_mark q in
            ok.led v a lv (ap (λ (k : Mark). k.arc) (sym at) ∙ e))
      ]);
}

-- a node gets a label and a step, and is touched
pub kept_lowered : (s : Shape) (old new : Search) (h y : ℕ) (m : Mark) → IsKept s old → h < s.nodes → ((a : ℕ) → m.arc ≡ Some a → IsArc s a × (s.head a ≡ h)) → new.labels.items ≡ slice_set old.labels.items h y → new.steps.items ≡ slice_set old.steps.items h m → new.amounts.items ≡ old.amounts.items → new.touched.items ≡ old.touched.items ++ h ∷ [] → IsKept s new
kept_lowered s old new h y m kept l led el es ea et =
    let size : length new.touched.items ≡ length old.touched.items + 1 = ap length et ∙ length-append old.touched.items (h ∷ []) in
    record {
      labels = ap length el ∙ length-set old.labels.items h y ∙ kept.labels;
      amounts = ap length ea ∙ kept.amounts;
      steps = rw es (steps_set s old.steps.items h m kept.steps l led);
      nodes = λ v c. (
          elim (Contains-push_cases old.touched.items h v (rw et at c)) [
            | inl k ↦ kept.nodes v k
            | inr e ↦ rw (← e) l
          ]);
      fresh = λ v lv. (
          elim (cases_eq v h) [
            | inl q ↦ inr (length old.touched.items, (omega arith, omega (arith, size), rw et (get_or-append_seam old.touched.items h [] 0 ∙ sym q)))
            | inr q ↦ elim (kept.fresh v lv) [
              | inl k ↦ inl (rw (el, get_or-set_other old.labels.items h v y 0 q) k.0, rw ea k.1)
              | inr k ↦ inr (k.0, (k.1.0, (let z = k.1.1 in omega (arith, z, size)), rw et (get_or_append_left old.touched.items (h ∷ []) 0 k.0 k.1.1 ∙ k.1.2)))
            ]
          ]);
    }

-- another node than one that lacks got a label
pub nearest_same : (s : Shape) (f : State) (a limit x : ℕ) (old new : List ℕ) (end : Option ℕ) → IsNearest s f old limit x end → IsLowered s f a x x old new → pos 0 ≤ℤ f.excess (s.head a) → IsNearest s f new limit x end
nearest_same s f a limit x old new end near low holds =
    let other = λ (v : ℕ) (lacks : f.excess v <ℤ pos 0). (let ne : v ≡ s.head a → ⊥ = (λ q. (let k : f.excess (s.head a) <ℤ pos 0 = rw q at lacks in absurd (omega (arith, ints, k, holds)))) in low.others v ne) in
    record {
      least = λ v l lacks. (let e = other v lacks in omega (arith, e, near.least v l lacks));
      most = near.most;
      node = λ t e. (let n = near.node t e in (n.0, n.1, other t n.1 ∙ n.2, n.3));
      none = near.none;
    }

-- a node that lacks got a label
pub nearest_nearer : (s : Shape) (f : State) (a h limit x y : ℕ) (old new : List ℕ) (end : Option ℕ) → IsNetwork s → IsArc s a → h ≡ s.head a → IsNearest s f old limit x end → IsLowered s f a x y old new → get_or new (s.head a) 0 ≡ y → y < x → f.excess h <ℤ pos 0 → IsNearest s f new limit y (Some h)
nearest_nearer s f a h limit x y old new end net arc eh near low at less lacks =
    let most = near.most in
    record {
      least = λ v l k. (
          elim (cases_eq v (s.head a)) [
            | inl q ↦ rw q (omega (arith, at))
            | inr q ↦ (let e = low.others v q in omega (arith, e, near.least v l k, less))
          ]);
      most = omega (arith, less, most);
      node = λ t e. (
          let q : h ≡ t = cc in
          rw (← q) (rw eh (net.ends a arc), lacks, rw eh at, omega (arith, less, most)));
      none = λ e. absurd (let k : Some h ≡ None = e in cc);
    }

-- before any node has a label
pub fresh_kept : (s : Shape) (n : ℕ) (z : Search) → n ≡ s.nodes → z.labels.items ≡ replicate n (2 ^ 62) → z.amounts.items ≡ replicate n (pos 0) → z.steps.items ≡ replicate n no_mark → z.touched.items ≡ [] → IsKept s z
fresh_kept s n z count el ea es et = record {
  labels = ap length el ∙ length-replicate n (2 ^ 62) ∙ count;
  amounts = ap length ea ∙ length-replicate n (pos 0) ∙ count;
  steps = record {
    count = ap length es ∙ length-replicate n no_mark ∙ count;
    led = λ v a l e. absurd (let k : mark_at z.steps.items v ≡ no_mark = rw es (get_or-replicate n v no_mark no_mark (omega (arith, l, count))) in let j : None ≡ Some a = ap (λ (m : Mark). m.arc) (sym k) ∙ e in cc);
  };
  nodes = λ v c. absurd (let k : Contains [] v = rw et at c in let l = k.1 in omega (arith, l));
  fresh = λ v l. inl (rw el (get_or-replicate n v (2 ^ 62) 0 (omega (arith, l, count))), rw ea (get_or-replicate n v (pos 0) (pos 0) (omega (arith, l, count))));
}

-- `IsFresh` of a search with these lists
abbrev pub AreFresh : List ℕ → List ℤ → List ℕ → ℕ → ℕ → Type 0
AreFresh labels amounts touched place v = ((get_or labels v 0 ≡ 2 ^ 62) × (get_or amounts v (pos 0) ≡ pos 0)) ⊎ ((j : ℕ) × ((place ≤ j) × (j < length touched) × (get_or touched j 0 ≡ v)))

-- the node at a place is as before any search
pub wiped_next : (labels : List ℕ) (amounts : List ℤ) (touched : List ℕ) (place u v : ℕ) → u < length labels → u < length amounts → get_or touched place 0 ≡ u → AreFresh labels amounts touched place v → AreFresh (slice_set labels u (2 ^ 62)) (slice_set amounts u (pos 0)) touched (place + 1) v
wiped_next labels amounts touched place u v ll la at fresh =
    elim (cases_eq v u) [
      | inl q ↦ inl (rw q (get_or-set_same labels u (2 ^ 62) 0 ll), rw q (get_or-set_same amounts u (pos 0) (pos 0) la))
      | inr q ↦ elim fresh [
        | inl k ↦ inl (get_or-set_other labels u v (2 ^ 62) 0 q ∙ k.0, get_or-set_other amounts u v (pos 0) (pos 0) q ∙ k.1)
        | inr k ↦ elim (cases_eq k.0 place) [
          | inl e ↦ absurd (q (sym k.1.2 ∙ ap (λ (j : ℕ). get_or touched j 0) e ∙ at))
          | inr e ↦ inr (k.0, (let h = k.1.0 in omega (arith, e, h), k.1.1, k.1.2))
        ]
      ]
    ]

-- setting how much nodes fall
pub falling_start : (s : Shape) (z : Search) (v : ℕ) → IsKept s z → z.bound ≤ 2 ^ 62 → v < s.nodes → IsFalling z.labels.items z.touched.items z.bound z.amounts.items 0 v
falling_start s z v kept most l =
    elim (kept.fresh v l) [
      | inl k ↦ inl (let a = k.0 in let b = k.1 in omega (arith, ints, a, b, most))
      | inr k ↦ inr k
    ]

pub falling_next : (labels touched : List ℕ) (x : ℕ) (old : List ℤ) (place u v : ℕ) → u < length old → get_or touched place 0 ≡ u → IsFalling labels touched x old place v → IsFalling labels touched x (slice_set old u (fall_to x labels u)) (place + 1) v
falling_next labels touched x old place u v l at falling =
    elim (cases_eq v u) [
      | inl q ↦ inl (rw q (get_or-set_same old u (fall_to x labels u) (pos 0) l))
      | inr q ↦ elim falling [
        | inl k ↦ inl (get_or-set_other old u v (fall_to x labels u) (pos 0) q ∙ k)
        | inr k ↦ elim (cases_eq k.0 place) [
          | inl e ↦ absurd (q (sym k.1.2 ∙ ap (λ (j : ℕ). get_or touched j 0) e ∙ at))
          | inr e ↦ inr (k.0, (let h = k.1.0 in omega (arith, e, h), k.1.1, k.1.2))
        ]
      ]
    ]

pub falling_end : (labels touched : List ℕ) (x : ℕ) (amounts : List ℤ) (place v : ℕ) → length touched ≤ place → IsFalling labels touched x amounts place v → get_or amounts v (pos 0) ≡ fall_to x labels v
falling_end labels touched x amounts place v le falling =
    elim falling [
      | inl k ↦ k
      | inr k ↦ absurd (let a = k.1.0 in let b = k.1.1 in omega (arith, a, b, le))
    ]

pub kept_falls : (s : Shape) (old new : Search) → IsKept s old → old.bound ≤ 2 ^ 62 → AreFalls s.nodes old.labels.items old.bound new.amounts.items → new.labels.items ≡ old.labels.items → new.steps.items ≡ old.steps.items → new.touched.items ≡ old.touched.items → IsKept s new
kept_falls s old new kept most falls el es et = record {
  labels = rw el kept.labels;
  amounts = falls.count;
  steps = rw es kept.steps;
  nodes = λ v c. kept.nodes v (rw et at c);
  fresh = λ v l. (
      elim (kept.fresh v l) [
        | inl k ↦ inl (rw el k.0, (let a = k.0 in let b = falls.each v l in omega (arith, ints, a, b, most)))
        | inr k ↦ inr (rw et k)
      ]);
}

pub wiped_end : (z : Search) (place v : ℕ) → length z.touched.items ≤ place → IsUntouched z place v → (get_or z.labels.items v 0 ≡ 2 ^ 62) × (get_or z.amounts.items v (pos 0) ≡ pos 0)
wiped_end z place v le fresh =
    elim fresh [
      | inl k ↦ k
      | inr k ↦ absurd (let a = k.1.0 in let b = k.1.1 in omega (arith, a, b, le))
    ]

pub on-refl : (z : Search) → ContinuesSearch z z
on-refl z = record { source = refl; limit = refl; work = omega arith }

-- a lower label leaves less to do, even if its node waits
pub work_lowered : (labels : List ℕ) (h y waiting more : ℕ) → h < length labels → y < get_or labels h 0 → more ≤ waiting + 1 → work (slice_set labels h y) more ≤ work labels waiting
work_lowered labels h y waiting more l shorter few =
    let e : sum (slice_set labels h y) + get_or labels h 0 ≡ sum labels + y = sum_by-set (λ (x : ℕ). x) labels h y 0 l in
    omega (arith, e, shorter, few)

pub on-trans : (x y z : Search) → ContinuesSearch x y → ContinuesSearch y z → ContinuesSearch x z
on-trans x y z p q = record { source = q.source ∙ p.source; limit = q.limit ∙ p.limit; work = omega (arith, p.work, q.work) }

-- other lists do not matter
pub kept_popped : (s : Shape) (old new : Search) → IsKept s old → new.labels.items ≡ old.labels.items → new.steps.items ≡ old.steps.items → new.amounts.items ≡ old.amounts.items → new.touched.items ≡ old.touched.items → IsKept s new
kept_popped s old new kept el es ea et = record {
  labels = rw el kept.labels;
  amounts = rw ea kept.amounts;
  steps = rw es kept.steps;
  nodes = λ v c. kept.nodes v (rw et at c);
  fresh = λ v l. (
      elim (kept.fresh v l) [
        | inl k ↦ inl (rw el k.0, rw ea k.1)
        | inr k ↦ inr (rw et k)
      ]);
}

-- a search that found no node that lacks
pub far_from : (s : Shape) (f : State) (z : Search) (r limit : ℕ) → IsSearched s f z → z.source ≡ r → z.limit ≡ limit → z.end ≡ None → AreDistances s f r z.labels.items limit limit None
far_from s f z r limit done er el none =
    let bound : z.bound ≡ limit = done.distances.nearest.none none ∙ el in
    let from : AreDistances s f r z.labels.items z.limit z.bound z.end = subst (λ (q : ℕ). AreDistances s f q z.labels.items z.limit z.bound z.end) er done.distances in
    let within : AreDistances s f r z.labels.items limit limit z.end = subst (λ (x : ℕ). AreDistances s f r z.labels.items limit x z.end) bound (subst (λ (l : ℕ). AreDistances s f r z.labels.items l z.bound z.end) el from) in
    subst (λ (o : Option ℕ). AreDistances s f r z.labels.items limit limit o) none within

-- the place of a list holds one of its elements
pub held_at : (xs : List ℕ) (i x : ℕ) → i < length xs → x ≡ get_or xs i x → Contains xs x
held_at xs i x l e = (i, l, sym e)

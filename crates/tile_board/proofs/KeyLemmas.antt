-- Keys of tiles that lack a result: one key added or taken out, and what this says of the tiles.
use Rattle.std.proofs.Common.{◌≡◌, ◌≢◌, ℕ, zero, suc, ◌+◌, ◌<◌, ◌≤◌, inl, inr, sym, ◌∙◌, ap, ap₂, refl, arith, Bool, true, false, List, [], ◌∷◌, length}
use Rattle.std.specs.Prelude.{◌&&◌, ◌||◌, ◌==◌, not, cond, nat_lt, IsTrue, IsFalse, replicate, set, slice_index}
use Rattle.std.specs.BTreeSet.{Updates, IsLowerBound, contains}
use Rattle.std.specs.BTreeMap.{is_at}
use Rattle.std.specs.List.{list_any}
use Rattle.std.specs.Ordering.{is_eq, is_gt, nat_cmp, ordering_then}
use Rattle.std.specs.Cmp.{tied_then}
use Rattle.std.proofs.lemmas.Bool.{cases_eq}
use Rattle.std.proofs.lemmas.Bool.Decides.{nat_tests}
use Rattle.std.proofs.lemmas.List.{get_or-set_same, get_or-set_other}
use Rattle.mask_revisions.specs.Edits.{any_below}
use Rattle.tile_board.specs.Lacking.{AreAddedFresh, AreLacking, AreLackingWith, IsAdded, IsLeastClaimed, IsKeyTaken, IsTakenIfClaimed, Keys, but_for, has_key, is_below, is_key, is_listed, key_order, with_listed, with_one, without_listed}

-- ---- one key
tied : (a b : ℕ) → is_eq (nat_cmp a b) ≡ (a == b)
tied a b = grind (arith, nat_tests)

pub key_at : (a b c t : ℕ) → is_at (key_order (a, b)) (c, t) ≡ is_key a b c t
key_at a b c t = sym (tied_then (nat_cmp a c) (nat_cmp b t)) ∙ ap₂ (λ (x y : Bool). x && y) (tied a c) (tied b t)

when_true : (x y : Bool) → cond x true y ≡ (x || y)
when_true true y = refl
when_true false y = refl

when_false : (x y : Bool) → cond x false y ≡ (not x && y)
when_false true y = refl
when_false false y = refl

pub added_is : (old new : Keys) (a b : ℕ) → Updates key_order old new (a, b) true → IsAdded old new a b
added_is old new a b up c t = up.0 (c, t) ∙ ap (λ (x : Bool). cond x true (has_key old c t)) (key_at a b c t) ∙ when_true (is_key a b c t) (has_key old c t)

pub taken_is : (old new : Keys) (a b : ℕ) → Updates key_order old new (a, b) false → IsKeyTaken old new a b
taken_is old new a b up c t = up.0 (c, t) ∙ ap (λ (x : Bool). cond x false (has_key old c t)) (key_at a b c t) ∙ when_false (is_key a b c t) (has_key old c t)

-- ---- the first key
no_more : (a b c d : ℕ) → is_gt (ordering_then (nat_cmp a c) (nat_cmp b d)) ≡ false → a ≤ c
no_more a b c d h = grind (arith, nat_tests)

both : (x : Bool) (a b : ℕ) → IsTrue (x && (a == b)) → IsTrue x × (a ≡ b)
both true a b h = (refl, grind (arith, nat_tests))
both false a b h = absurd (cc)

itself : (x : Bool) (a : ℕ) → IsTrue x → IsTrue (x && (a == a))
itself x a h = grind (arith, nat_tests)

-- a key is of a tile that passes the test, and has its claims
pub key_fits : (lacks : ℕ → Bool) (claims : List ℕ) (keys : Keys) (k : ℕ × ℕ) → AreLacking lacks claims keys → IsTrue (contains key_order keys k) → IsTrue (lacks k.1) × (k.0 ≡ slice_index claims k.1)
key_fits lacks claims keys k are there = both (lacks k.1) k.0 (slice_index claims k.1) (sym (are k.0 k.1) ∙ there)

pub first_is : (lacks : ℕ → Bool) (claims : List ℕ) (keys : Keys) (k : ℕ × ℕ) → AreLacking lacks claims keys → IsTrue (contains key_order keys k) → IsLowerBound key_order keys k → IsLeastClaimed lacks claims k.1
first_is lacks claims keys k are there lower =
    let here = key_fits lacks claims keys k are there in
    record {
      lacking = here.0;
      least = λ u l. (
          let has = are (slice_index claims u) u ∙ itself (lacks u) (slice_index claims u) l in
          let m = no_more k.0 k.1 (slice_index claims u) u (lower (slice_index claims u, u) has) in
          omega (arith, m, here.1));
    }

none_there : (x y : Bool) → false ≡ (x && y) → y ≡ true → x ≡ false
none_there true true e f = cc
none_there false y e f = refl
none_there true false e f = cc

pub none_lacks : (lacks : ℕ → Bool) (claims : List ℕ) (keys : Keys) → AreLacking lacks claims keys → ((c t : ℕ) → has_key keys c t ≡ false) → (t : ℕ) → IsFalse (lacks t)
none_lacks lacks claims keys are none t = none_there (lacks t) (slice_index claims t == slice_index claims t) (sym (none (slice_index claims t) t) ∙ are (slice_index claims t) t) (same (slice_index claims t))
  where
    same : (a : ℕ) → (a == a) ≡ true
    same a = grind (arith, nat_tests)

empty_set : (ks : List (ℕ × ℕ)) (test : ℕ × ℕ → Bool) → (0 < length ks → ⊥) → list_any test ks ≡ false
empty_set [] test none = refl
empty_set (k ∷ ks) test none = absurd (none (omega arith))

pub no_key : (keys : Keys) → (0 < length keys.keys → ⊥) → (c t : ℕ) → has_key keys c t ≡ false
no_key keys none c t = empty_set keys.keys (is_at (key_order (c, t))) none

-- ---- the keys of tiles that were not claimed
pub keys_none : (keys : Keys) → keys.keys ≡ [] → (c t : ℕ) → has_key keys c t ≡ (is_below 0 t && (c == 0))
keys_none keys e c t = no_key keys (λ l. (let m : length keys.keys ≡ 0 = ap (λ (ks : List (ℕ × ℕ)). length ks) e in omega (arith, l, m))) c t ∙ below_none (c == 0) t
  where
    below_none : (x : Bool) (t : ℕ) → false ≡ (nat_lt t 0 && x)
    below_none x t = grind (arith, nat_tests)

pub keys_more : (old new : Keys) (n : ℕ) → ((c t : ℕ) → has_key old c t ≡ (is_below n t && (c == 0))) → IsAdded old new 0 n → (c t : ℕ) → has_key new c t ≡ (is_below (n + 1) t && (c == 0))
keys_more old new n are added c t = added c t ∙ ap (λ (x : Bool). is_key 0 n c t || x) (are c t) ∙ one_more c n t
  where
    one_more : (c n t : ℕ) → (((0 == c) && (n == t)) || (nat_lt t n && (c == 0))) ≡ (nat_lt t (n + 1) && (c == 0))
    one_more c n t = grind (arith, nat_tests)

zeros : (n t : ℕ) → slice_index (replicate n 0) t ≡ 0
zeros zero t = refl
zeros (suc n) zero = refl
zeros (suc n) (suc t) = zeros n t

pub unclaimed_are : (n : ℕ) (claims : List ℕ) (keys : Keys) → claims ≡ replicate n 0 → ((c t : ℕ) → has_key keys c t ≡ (is_below n t && (c == 0))) → AreLacking (is_below n) claims keys
unclaimed_are n claims keys e are c t = are c t ∙ ap (λ (k : ℕ). is_below n t && (c == k)) (sym (zeros n t)) ∙ ap (λ (ks : List ℕ). is_below n t && (c == slice_index ks t)) (sym e)

-- ---- a claim
claimed_here : (l : Bool) (k c u : ℕ) → l ≡ true → (not (is_key k u c u) && (is_key (k + 1) u c u || (l && (c == k)))) ≡ (l && (c == k + 1))
claimed_here l k c u e = rw e (grind (arith, nat_tests))

claimed_there : (k m c u t : ℕ) (h : Bool) → t ≢ u → (not (is_key k u c t) && (is_key m u c t || h)) ≡ h
claimed_there k m c u t h d = grind (arith, nat_tests)

pub lacking_claimed : (lacks : ℕ → Bool) (claims : List ℕ) (old mid new : Keys) (u k m : ℕ) → u < length claims → k ≡ slice_index claims u → m ≡ k + 1 → IsTrue (lacks u) → AreLacking lacks claims old → IsAdded old mid m u → IsKeyTaken mid new k u → AreLacking lacks (set claims u m) new
lacking_claimed lacks claims old mid new u k m inside is next lack are added taken c t = taken c t ∙ ap (λ (x : Bool). not (is_key k u c t) && x) (added c t ∙ ap (λ (x : Bool). is_key m u c t || x) (are c t)) ∙ elim (cases_eq t u) [
  | inl e ↦ rw (e, get_or-set_same claims u m 0 inside, ← is, next) (claimed_here (lacks u) k c u lack)
  | inr d ↦ rw (get_or-set_other claims u t m 0 d) (claimed_there k m c u t (lacks t && (c == slice_index claims t)) d)
]

-- ---- a result
kept_here : (l : Bool) (k c u : ℕ) → (not (is_key k u c u) && (l && (c == k))) ≡ ((l && not (u == u)) && (c == k))
kept_here l k c u = grind (arith, nat_tests)

kept_there : (l x : Bool) (k c u t : ℕ) → t ≢ u → (not (is_key k u c t) && (l && x)) ≡ ((l && not (u == t)) && x)
kept_there l x k c u t d = grind (arith, nat_tests)

pub lacking_kept : (lacks : ℕ → Bool) (claims : List ℕ) (old new : Keys) (u k : ℕ) → k ≡ slice_index claims u → AreLacking lacks claims old → IsKeyTaken old new k u → AreLacking (but_for lacks u) claims new
lacking_kept lacks claims old new u k is are taken c t = taken c t ∙ ap (λ (x : Bool). not (is_key k u c t) && x) (are c t) ∙ elim (cases_eq t u) [
  | inl e ↦ rw (e, ← is) (kept_here (lacks u) k c u)
  | inr d ↦ kept_there (lacks t) (c == slice_index claims t) k c u t d
]

-- ---- lists of tiles
pub listed_next : (tiles : List ℕ) (n t : ℕ) → is_listed tiles (n + 1) t ≡ ((slice_index tiles n == t) || is_listed tiles n t)
unfolding any_below
listed_next tiles n t = let e : n + 1 ≡ suc n = omega arith in rw e refl

pub listed_none : (tiles : List ℕ) (t : ℕ) → is_listed tiles 0 t ≡ false
unfolding any_below
listed_none tiles t = refl

-- ---- fresh keys
none_fresh : (z h : Bool) → h ≡ ((false && z) || h)
none_fresh z true = refl
none_fresh z false = refl

pub fresh_none : (keys : Keys) (tiles : List ℕ) → AreAddedFresh keys keys tiles 0
fresh_none keys tiles c t = rw (listed_none tiles t) (none_fresh (c == 0) (has_key keys c t))

more_fresh : (l h : Bool) (c u t : ℕ) → (is_key 0 u c t || ((l && (c == 0)) || h)) ≡ ((((u == t) || l) && (c == 0)) || h)
more_fresh true h c u t = grind (arith, nat_tests)
more_fresh false h c u t = grind (arith, nat_tests)

pub fresh_more : (old mid new : Keys) (tiles : List ℕ) (n : ℕ) → AreAddedFresh old mid tiles n → IsAdded mid new 0 (slice_index tiles n) → AreAddedFresh old new tiles (n + 1)
fresh_more old mid new tiles n are added c t = rw (listed_next tiles n t) (added c t ∙ ap (λ (x : Bool). is_key 0 (slice_index tiles n) c t || x) (are c t) ∙ more_fresh (is_listed tiles n t) (has_key old c t) c (slice_index tiles n) t)

swapped : (x y : Bool) → (x || y) ≡ (y || x)
swapped true true = refl
swapped true false = refl
swapped false true = refl
swapped false false = refl

pub lacking_fresh : (lacks : ℕ → Bool) (claims : List ℕ) (old new : Keys) (tiles : List ℕ) (n : ℕ) → AreAddedFresh old new tiles n → AreLacking lacks claims old → AreLackingWith lacks (is_listed tiles n) claims new
lacking_fresh lacks claims old new tiles n added are c t = added c t ∙ ap (λ (x : Bool). (is_listed tiles n t && (c == 0)) || x) (are c t) ∙ swapped (is_listed tiles n t && (c == 0)) (lacks t && (c == slice_index claims t))

-- ---- a tile that is unclaimed again
pub taken_claimed : (old new : Keys) (k u : ℕ) → 0 < k → IsKeyTaken old new k u → IsTakenIfClaimed old new k u
taken_claimed old new k u l taken c t = taken c t ∙ ap (λ (x : Bool). not x && has_key old c t) (claimed (is_key k u c t) k l)
  where
    claimed : (x : Bool) (k : ℕ) → 0 < k → x ≡ (x && not (k == 0))
    claimed true k l = grind (arith, nat_tests)
    claimed false k l = refl

pub taken_unclaimed : (keys : Keys) (k u : ℕ) → k ≡ 0 → IsTakenIfClaimed keys keys k u
taken_unclaimed keys k u l c t = stays (is_key k u c t) (has_key keys c t) k l
  where
    stays : (x h : Bool) (k : ℕ) → k ≡ 0 → h ≡ (not (x && not (k == 0)) && h)
    stays true h k l = grind (arith, nat_tests)
    stays false h k l = refl

again_here : (l f : Bool) (k c u : ℕ) → f ≡ true → (not (is_key k u c u && not (k == 0)) && ((l && (c == k)) || (f && (c == 0)))) ≡ ((((u == u) || l) && (c == 0)) || (f && (c == 0)))
again_here true f k c u e = rw e (grind (arith, nat_tests))
again_here false f k c u e = rw e (grind (arith, nat_tests))

again_there : (l x y : Bool) (k c u t : ℕ) → t ≢ u → (not (is_key k u c t && not (k == 0)) && ((l && x) || y)) ≡ ((((u == t) || l) && x) || y)
again_there true x y k c u t d = grind (arith, nat_tests)
again_there false x y k c u t d = grind (arith, nat_tests)

pub lacking_again : (lacks fresh : ℕ → Bool) (claims : List ℕ) (old new : Keys) (u k : ℕ) → u < length claims → k ≡ slice_index claims u → IsTrue (fresh u) → IsTakenIfClaimed old new k u → AreLackingWith lacks fresh claims old → AreLackingWith (with_one lacks u) fresh (set claims u 0) new
lacking_again lacks fresh claims old new u k inside is new_one taken are c t = taken c t ∙ ap (λ (x : Bool). not (is_key k u c t && not (k == 0)) && x) (are c t) ∙ elim (cases_eq t u) [
  | inl e ↦ rw (e, get_or-set_same claims u 0 0 inside, ← is) (again_here (lacks u) (fresh u) k c u new_one)
  | inr d ↦ rw (get_or-set_other claims u t 0 0 d) (again_there (lacks t) (c == slice_index claims t) (fresh t && (c == 0)) k c u t d)
]

-- tests that agree serve alike
pub lacking_same : (lacks lacks' fresh fresh' : ℕ → Bool) (claims : List ℕ) (keys : Keys) → ((t : ℕ) → lacks t ≡ lacks' t) → ((t : ℕ) → fresh t ≡ fresh' t) → AreLackingWith lacks fresh claims keys → AreLackingWith lacks' fresh' claims keys
lacking_same lacks lacks' fresh fresh' claims keys same same' are c t = are c t ∙ ap₂ (λ (x y : Bool). (x && (c == slice_index claims t)) || (y && (c == 0))) (same t) (same' t)

with_next : (x l h : Bool) → (x || (l || h)) ≡ ((x || l) || h)
with_next true l h = refl
with_next false l h = refl

pub again_none : (lacks fresh : ℕ → Bool) (claims : List ℕ) (keys : Keys) (tiles : List ℕ) → AreLackingWith lacks fresh claims keys → AreLackingWith (with_listed lacks tiles 0) fresh claims keys
again_none lacks fresh claims keys tiles = lacking_same lacks (with_listed lacks tiles 0) fresh fresh claims keys (λ t. sym (ap (λ (x : Bool). x || lacks t) (listed_none tiles t))) (λ t. refl)

pub again_more : (lacks fresh : ℕ → Bool) (claims : List ℕ) (keys : Keys) (tiles : List ℕ) (n : ℕ) → AreLackingWith (with_one (with_listed lacks tiles n) (slice_index tiles n)) fresh claims keys → AreLackingWith (with_listed lacks tiles (n + 1)) fresh claims keys
again_more lacks fresh claims keys tiles n = lacking_same (with_one (with_listed lacks tiles n) (slice_index tiles n)) (with_listed lacks tiles (n + 1)) fresh fresh claims keys (λ t. with_next (slice_index tiles n == t) (is_listed tiles n t) (lacks t) ∙ sym (ap (λ (x : Bool). x || lacks t) (listed_next tiles n t))) (λ t. refl)

-- ---- keys with no claims that do not fit
fits_here : (l f : Bool) (k c u : ℕ) → (l && (k == 0)) ≡ true → ((l && (c == k)) || (f && (c == 0))) ≡ ((l && (c == k)) || ((f && not (u == u)) && (c == 0)))
fits_here true f k c u e = grind (arith, nat_tests)
fits_here false f k c u e = absurd (cc)

fits_there : (x f : Bool) (c u t : ℕ) → t ≢ u → (x || (f && (c == 0))) ≡ (x || ((f && not (u == t)) && (c == 0)))
fits_there true f c u t d = refl
fits_there false true c u t d = grind (arith, nat_tests)
fits_there false false c u t d = refl

pub tidy_fits : (lacks fresh : ℕ → Bool) (claims : List ℕ) (keys : Keys) (u : ℕ) → (lacks u && (slice_index claims u == 0)) ≡ true → AreLackingWith lacks fresh claims keys → AreLackingWith lacks (but_for fresh u) claims keys
tidy_fits lacks fresh claims keys u fits are c t = are c t ∙ elim (cases_eq t u) [
  | inl e ↦ rw e (fits_here (lacks u) (fresh u) (slice_index claims u) c u fits)
  | inr d ↦ fits_there (lacks t && (c == slice_index claims t)) (fresh t) c u t d
]

out_here : (l f : Bool) (k c u : ℕ) → (l && (k == 0)) ≡ false → (not (is_key 0 u c u) && ((l && (c == k)) || (f && (c == 0)))) ≡ ((l && (c == k)) || ((f && not (u == u)) && (c == 0)))
out_here true true k c u e = grind (arith, nat_tests)
out_here true false k c u e = grind (arith, nat_tests)
out_here false true k c u e = grind (arith, nat_tests)
out_here false false k c u e = grind (arith, nat_tests)

out_there : (x f : Bool) (c u t : ℕ) → t ≢ u → (not (is_key 0 u c t) && (x || (f && (c == 0)))) ≡ (x || ((f && not (u == t)) && (c == 0)))
out_there true true c u t d = grind (arith, nat_tests)
out_there true false c u t d = grind (arith, nat_tests)
out_there false true c u t d = grind (arith, nat_tests)
out_there false false c u t d = grind (arith, nat_tests)

pub tidy_out : (lacks fresh : ℕ → Bool) (claims : List ℕ) (old new : Keys) (u : ℕ) → (lacks u && (slice_index claims u == 0)) ≡ false → IsKeyTaken old new 0 u → AreLackingWith lacks fresh claims old → AreLackingWith lacks (but_for fresh u) claims new
tidy_out lacks fresh claims old new u fits taken are c t = taken c t ∙ ap (λ (x : Bool). not (is_key 0 u c t) && x) (are c t) ∙ elim (cases_eq t u) [
  | inl e ↦ rw e (out_here (lacks u) (fresh u) (slice_index claims u) c u fits)
  | inr d ↦ out_there (lacks t && (c == slice_index claims t)) (fresh t) c u t d
]

without_none : (f l : Bool) → l ≡ false → f ≡ (f && not l)
without_none true l e = rw e refl
without_none false l e = refl

without_next : (f l x : Bool) → ((f && not l) && not x) ≡ (f && not (x || l))
without_next true true true = refl
without_next true true false = refl
without_next true false true = refl
without_next true false false = refl
without_next false l x = refl

pub tidy_none : (lacks fresh : ℕ → Bool) (claims : List ℕ) (keys : Keys) (tiles : List ℕ) → AreLackingWith lacks fresh claims keys → AreLackingWith lacks (without_listed fresh tiles 0) claims keys
tidy_none lacks fresh claims keys tiles = lacking_same lacks lacks fresh (without_listed fresh tiles 0) claims keys (λ t. refl) (λ t. without_none (fresh t) (is_listed tiles 0 t) (listed_none tiles t))

pub tidy_more : (lacks fresh : ℕ → Bool) (claims : List ℕ) (keys : Keys) (tiles : List ℕ) (n : ℕ) → AreLackingWith lacks (but_for (without_listed fresh tiles n) (slice_index tiles n)) claims keys → AreLackingWith lacks (without_listed fresh tiles (n + 1)) claims keys
tidy_more lacks fresh claims keys tiles n = lacking_same lacks lacks (but_for (without_listed fresh tiles n) (slice_index tiles n)) (without_listed fresh tiles (n + 1)) claims keys (λ t. refl) (λ t. without_next (fresh t) (is_listed tiles n t) (slice_index tiles n == t) ∙ sym (ap (λ (x : Bool). fresh t && not x) (listed_next tiles n t)))

-- where all of them were gone through, none is left
all_out : (f l x h : Bool) → (IsTrue f → IsTrue l) → (h || ((f && not l) && x)) ≡ h
all_out true true x true s = refl
all_out true true x false s = refl
all_out true false x h s = absurd (let e = s refl in cc)
all_out false l x true s = refl
all_out false l x false s = refl

pub tidy_all : (lacks fresh : ℕ → Bool) (claims : List ℕ) (keys : Keys) (tiles : List ℕ) (n : ℕ) → ((t : ℕ) → IsTrue (fresh t) → IsTrue (is_listed tiles n t)) → AreLackingWith lacks (without_listed fresh tiles n) claims keys → AreLacking lacks claims keys
tidy_all lacks fresh claims keys tiles n all are c t = are c t ∙ all_out (fresh t) (is_listed tiles n t) (c == 0) (lacks t && (c == slice_index claims t)) (all t)

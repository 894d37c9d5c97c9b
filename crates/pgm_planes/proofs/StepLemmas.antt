-- The steps of each reader, as its loop and its calls take them.
use Rattle.std.proofs.Common.{◌≡◌, ℕ, suc, get_or, ltb, append_assoc, ◌+◌, ◌*◌, ◌-◌, ◌≤◌, Bool, true, false, List, [], ◌∷◌, ◌++◌, take, Option, Some, None, Result, Ok, Err, refl, sym, ap, ◌∙◌, arith, inl, inr}
use Rattle.pgm_planes.proofs.Words.{big_number, Vec, cases_Bool, PlaneFault, SampleAbove, ReadPlaneFault, SampleForm, Call, Reading, Reader, ◌⟫◌, ◌▸◌, here, on_step, scan_at, breaks, nothing, goes_beyond, Reads, byte_at, sight_at, inside_after, filling_end, as_refusal, judged, judged_at, spelled_sample_at, samples_at}
use Rattle.std.proofs.lemmas.List.{append-nil}
use Rattle.pgm_planes.specs.declared.fault.ReadPlaneFault.TheVariants as errors
use Rattle.pgm_planes.proofs.HeaderLemmas.{done}
use Rattle.pgm_planes.proofs.CallLemmas.{Goes, reads_then, goes_then, finds, as_got, as_number}
use Rattle.insar_ports.proofs.CallLemmas.{call, some_is, stays}

-- ---- readers that give the same

-- a stretch that is still empty
pub nothing_read : {A : Type 0} (told : Option (List ℕ)) (at limit before : ℕ) (r q : Reader A) → ((more : Bool) (bytes : List ℕ) → r more at bytes ≡ q more at bytes) → Goes (call told at told at limit before before) r q
nothing_read told at limit before r q f = record {
  moves = stays told told at at limit before before refl refl (omega arith);
  reads = λ bytes rest t l. let same : bytes ≡ rest = some_is bytes rest (sym t ∙ l) in f (goes_beyond limit at bytes) (take (limit - at) bytes) ∙ ap (λ (t : List ℕ). q (goes_beyond limit at bytes) at (take (limit - at) t)) same;
}

module _ {A : Type 0} {c : Call} {r q : Reader A} (same : (more : Bool) (bytes : List ℕ) → r more c.at bytes ≡ q more c.at bytes) where
  reads_as : {X : Type 0} {view : X → A} {result : Result X ReadPlaneFault} → Reads view result c q → Reads view result c r
  reads_as h = reads_then (nothing_read c.told c.at c.limit c.before r q same) refl h

  goes_as : {s : Reader A} → Goes c q s → Goes c r s
  goes_as g = goes_then (nothing_read c.told c.at c.limit c.before r q same) refl g

goes_same : {A : Type 0} {c : Call} {r q : Reader A} (s : Reader A) → Goes c r q → ((more : Bool) (at : ℕ) (bytes : List ℕ) → q more at bytes ≡ s more at bytes) → Goes c r s
goes_same {c = c} s g f = record { moves = g.moves; reads = λ bytes rest t l. g.reads bytes rest t l ∙ f (goes_beyond c.limit c.at bytes) c.end (take (c.limit - c.end) rest) }

-- ---- readers one after another

-- a call that did not read ends the readers that it begins
pub then_passes : {X A Y B : Type 0} (view : X → A) (other : Y → B) (c : Call) (e : ReadPlaneFault) (p : Reader A) (f : A → Reader B) → Reads view (Err e) c p → Reads other (Err e) c (p ▸ f)
then_passes view other c (errors.Plane fault) p f h = record { moves = h.moves; answers = λ bytes rest t l. rw (h.answers bytes rest t l) refl }
then_passes view other c errors.TooLong p f h = record { moves = h.moves; answers = (h.answers.0, λ bytes rest t l. rw (h.answers.1 bytes rest t l) refl) }
then_passes view other c errors.ReadFault p f h = record { moves = h.moves; answers = h.answers }
then_passes view other c errors.Memory p f h = record { moves = h.moves; answers = tt }

-- after a call that read a value the rest is read by what it names
pub then_goes : {X A B : Type 0} (view : X → A) (c : Call) (x : X) (p : Reader A) (f : A → Reader B) → Reads view (Ok x) c p → Goes c (p ▸ f) (f (view x))
then_goes view c x p f h = record { moves = h.moves; reads = λ bytes rest t l. rw (h.answers bytes rest t l) refl }

pub then_finds : {X A Y B : Type 0} (view : X → A) (other : Y → B) (c : Call) (x : X) (y : Y) (p : Reader A) (f : A → Reader B) → Reads view (Ok x) c p → ((more : Bool) (rest : List ℕ) → f (view x) more c.end rest ≡ done (other y) c.end rest) → Reads other (Ok y) c (p ▸ f)
then_finds view other c x y p f h e = finds (then_goes view c x p f h) e

pub then_breaks : {X A Y B : Type 0} (view : X → A) (other : Y → B) (c : Call) (x : X) (fault : PlaneFault) (p : Reader A) (f : A → Reader B) → Reads view (Ok x) c p → ((more : Bool) (rest : List ℕ) → f (view x) more c.end rest ≡ breaks fault) → Reads other (Err (errors.Plane fault)) c (p ▸ f)
then_breaks view other c x fault p f h e = record { moves = h.moves; answers = λ bytes rest t l. (then_goes view c x p f h).reads bytes rest t l ∙ e (goes_beyond c.limit c.at bytes) (take (c.limit - c.end) rest) }

-- two calls, of which the first read a value
pub then_reads : {X A Y B : Type 0} {told mid left : Option (List ℕ)} {at at_mid end limit limit_2 before middle after : ℕ} (view : X → A) (other : Y → B) (x : X) (result : Result Y ReadPlaneFault) (p : Reader A) (f : A → Reader B)
    → Reads view (Ok x) (call told at mid at_mid limit before middle) p → limit_2 ≡ limit → Reads other result (call mid at_mid left end limit_2 middle after) (f (view x)) → Reads other result (call told at left end limit before after) (p ▸ f)
then_reads view other x result p f h l r = reads_then (then_goes view _ x p f h) l r

-- a place is read without a byte
pub here_reads : {Y B : Type 0} (other : Y → B) (result : Result Y ReadPlaneFault) (c : Call) (f : ℕ → Reader B) → Reads other result c (f c.at) → Reads other result c (here ▸ f)
here_reads other result c f r = reads_as (λ more bytes. refl) r

-- ---- scans

module _ {S A : Type 0} (step : S → ℕ → Option S) (ends : S → Reader A) where
  -- a scan looks at a byte, and takes it if it goes on
  abbrev pub scan_on : S → Option ℕ → Reader A
  scan_on s None = ends s
  scan_on s (Some b) = on_step (step s b) (ends s) (λ t. byte_at ▸ λ _. scan_at step ends t)

  scan_step : (o : Option S) (s : S) (more : Bool) (at b : ℕ) (rest : List ℕ) → on_step o (ends s more at (b ∷ rest)) (λ t. scan_at step ends t more (at + 1) rest) ≡ on_step o (ends s) (λ t. byte_at ▸ λ _. scan_at step ends t) more at (b ∷ rest)
  unfolding byte_at
  scan_step None s more at b rest = refl
  scan_step (Some t) s more at b rest = refl

  scan_is : (s : S) (more : Bool) (at : ℕ) (bytes : List ℕ) → scan_at step ends s more at bytes ≡ (sight_at ▸ scan_on s) more at bytes
  unfolding scan_at sight_at
  scan_is s true at [] = refl
  scan_is s false at [] = refl
  scan_is s more at (b ∷ rest) = scan_step (step s b) s more at b rest

  pub looks : {c : Call} {r : Reader A} (s : S) → Goes c r (scan_at step ends s) → Goes c r (sight_at ▸ scan_on s)
  looks s g = goes_same (sight_at ▸ scan_on s) g (scan_is s)

  -- a loop that looks at a byte and takes it
  pub scan_goes : {told mid low left : Option (List ℕ)} {at at_mid at_low end limit limit_2 limit_3 before middle then after : ℕ} {r : Reader A} {seen got : Option ℕ} {b : ℕ} (s t : S)
      → Goes (call told at mid at_mid limit before middle) r (scan_at step ends s) → limit_2 ≡ limit → limit_3 ≡ limit → Reads as_got (Ok seen) (call mid at_mid low at_low limit_2 middle then) sight_at → Reads as_got (Ok got) (call low at_low left end limit_3 then after) byte_at
      → seen ≡ Some b → step s b ≡ Some t → Goes (call told at left end limit before after) r (scan_at step ends t)
  scan_goes {seen = seen} {got = got} s t g l m sight byte is e =
      goes_then (goes_then (looks s g) l (then_goes as_got _ seen sight_at (scan_on s) sight)) m (rw (is, e) (then_goes as_got _ got byte_at (λ _. scan_at step ends t) byte))

-- two fields of one value, and a header, as the readers on lists have them
abbrev pub as_pair : ℕ × ℕ → ℕ × ℕ
as_pair f = (f.0, f.1)

-- ---- samples

-- a sample that was read is judged
pub judged_then : {X : Type 0} (view : X → ℕ) (weigh : ℕ → ℕ) (c : Call) (x : X) (maxval k : ℕ) (p : Reader ℕ) → Reads view (Ok x) c p → Reads as_number (as_refusal (judged maxval k (weigh (view x)))) c (p ▸ λ v. judged_at maxval k (weigh v))
judged_then view weigh c x maxval k p h =
    elim (cases_Bool (ltb maxval (weigh (view x)))) [
      | inl y ↦ rw y (then_breaks view as_number c x (SampleAbove k (weigh (view x))) p (λ v. judged_at maxval k (weigh v)) h (λ more rest. rw y refl))
      | inr n ↦ rw n (then_finds view as_number c x (weigh (view x)) p (λ v. judged_at maxval k (weigh v)) h (λ more rest. rw n refl))
    ]

abbrev pub as_samples : Vec ℕ → List ℕ
as_samples v = v.items

-- the samples so far, and then the others
unfoldable pub and_others : List ℕ → SampleForm → ℕ → ℕ → ℕ → Reader (List ℕ)
and_others front form maxval n k more at bytes = samples_at form maxval n k more at bytes ⟫ λ vs end others. Ok (front ++ vs, end, others)

module _ (form : SampleForm) (maxval : ℕ) where
  with_none : (r : Reading (List ℕ)) → (r ⟫ λ vs end others. Ok ([] ++ vs, end, others)) ≡ r
  with_none (Ok x) = refl
  with_none (Err e) = refl

  pub others_begin : (n k : ℕ) (more : Bool) (at : ℕ) (bytes : List ℕ) → samples_at form maxval n k more at bytes ≡ and_others [] form maxval n k more at bytes
  unfolding and_others
  others_begin n k more at bytes = sym (with_none (samples_at form maxval n k more at bytes))

  pub others_end : (front : List ℕ) (k : ℕ) (more : Bool) (at : ℕ) (rest : List ℕ) → and_others front form maxval 0 k more at rest ≡ done front at rest
  unfolding and_others samples_at
  others_end front k more at rest = ap (λ (vs : List ℕ). done vs at rest) (append-nil front)

  regroup_others : (front : List ℕ) (v : ℕ) (r : Reading (List ℕ)) → ((r ⟫ λ vs end others. Ok (v ∷ vs, end, others)) ⟫ λ vs end others. Ok (front ++ vs, end, others)) ≡ (r ⟫ λ vs end others. Ok ((front ++ v ∷ []) ++ vs, end, others))
  regroup_others front v (Ok x) = ap (λ (vs : List ℕ). done vs x.1 x.2) (sym (append_assoc front (v ∷ []) x.0))
  regroup_others front v (Err e) = refl

  others_by : (front : List ℕ) (m k : ℕ) (more : Bool) (r : Reading ℕ) → ((r ⟫ λ v after rest. samples_at form maxval m (k + 1) more after rest ⟫ λ vs end others. done (v ∷ vs) end others) ⟫ λ vs end others. done (front ++ vs) end others) ≡ (r ⟫ λ v. and_others (front ++ v ∷ []) form maxval m (k + 1) more)
  unfolding and_others
  others_by front m k more (Ok x) = regroup_others front x.0 (samples_at form maxval m (k + 1) more x.1 x.2)
  others_by front m k more (Err e) = refl

  -- others are one and then others
  pub others_are : (front : List ℕ) (m k : ℕ) (more : Bool) (at : ℕ) (bytes : List ℕ) → and_others front form maxval (suc m) k more at bytes ≡ (spelled_sample_at form maxval k ▸ λ v. and_others (front ++ v ∷ []) form maxval m (k + 1)) more at bytes
  unfolding and_others samples_at
  others_are front m k more at bytes = others_by front m k more (spelled_sample_at form maxval k more at bytes)

-- a sample that was read by itself, or was not
module _ (form : SampleForm) (maxval k : ℕ) (front : List ℕ) {n m : ℕ} (is : n ≡ suc m) {c : Call} where
  pub others_gone : {v : ℕ} {new : List ℕ} → Reads as_number (Ok v) c (spelled_sample_at form maxval k) → new ≡ front ++ v ∷ [] → Goes c (and_others front form maxval n k) (and_others new form maxval m (k + 1))
  others_gone {v = v} h e = rw (e, is) (goes_as (λ more bytes. others_are form maxval front m k more c.at bytes) (then_goes as_number c v (spelled_sample_at form maxval k) (λ v. and_others (front ++ v ∷ []) form maxval m (k + 1)) h))

  pub others_fail : {e : ReadPlaneFault} → Reads as_number (Err e) c (spelled_sample_at form maxval k) → Reads as_samples (Err e) c (and_others front form maxval n k)
  others_fail {e = e} h = rw is (reads_as (λ more bytes. others_are form maxval front m k more c.at bytes) (then_passes as_number as_samples c e (spelled_sample_at form maxval k) (λ v. and_others (front ++ v ∷ []) form maxval m (k + 1)) h))

-- a byte at which no filling goes on stands outside a comment
pub filling_ends : (inside : Bool) (b : ℕ) → inside_after inside b ≡ None → (more : Bool) (at : ℕ) (rest : List ℕ) → filling_end inside more at rest ≡ done nothing at rest
filling_ends true b e more at rest = absurd cc
filling_ends false b e more at rest = refl

pub two_bytes : (high low : ℕ) → big_number 2 (high ∷ low ∷ []) ≡ 256 * high + low
two_bytes high low = omega arith

pub none_below : (m : ℕ) (xs : List ℕ) → xs ≡ [] → (k : ℕ) → get_or xs k 0 ≤ m
none_below m xs e k = rw e (omega arith)

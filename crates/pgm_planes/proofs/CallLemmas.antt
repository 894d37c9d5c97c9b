-- How calls on a feed that come one after another answer what one reader gives.
use Rattle.std.proofs.Common.{◌≡◌, ℕ, zero, ◌+◌, ◌-◌, ◌≤◌, ◌<◌, suc, Bool, List, [], ◌∷◌, ◌++◌, length, take, drop, Option, Some, None, Result, Ok, Err, true, false, refl, sym, ap, subst, ◌∙◌, arith, ltb}
use Rattle.pgm_planes.proofs.Words.{IfSome, IsErrAnd, err_from_is_err_and, le-ltb, lt-ltb, length-append, with_front, after_first, BeginsWith, HasMore, HasRisen, IsAtEnd, FeedFault, ReadPlaneFault, Spelling, Call, Moves, Reading, Reader, breaks, asks, goes_beyond, Told, AnswersReader, Reads, nothing, byte_at, sight_at, plane_fault_of_feed}
use Rattle.insar_ports.specs.declared.feed.FeedFault.TheVariants as feed_faults
use Rattle.pgm_planes.specs.declared.fault.ReadPlaneFault.TheVariants as errors
use Rattle.pgm_planes.proofs.HeaderLemmas.{done}
use Rattle.insar_ports.proofs.CallLemmas.{call, some_is, risen_before, Moves-then, stays}

-- where the bytes were told, those that are left are told too
pub told_on : (front : List ℕ) (told left : Option (List ℕ)) (bytes : List ℕ) → told ≡ with_front front left → told ≡ Some bytes → (rest : List ℕ) × (left ≡ Some rest)
told_on front told None bytes e h = absurd (let x : told ≡ None = e in cc)
told_on front told (Some rest) bytes e h = (rest, refl)

-- reading by r from where the call began is reading by q from where it ended
pub record Goes {A : Type 0} (c : Call) (r q : Reader A) : Type 0 where
  pub moves : Moves c
  pub reads : Told c (λ more bytes rest. r more c.at bytes ≡ q more c.end rest)

module _ (told : Option (List ℕ)) (at : ℕ) (mid : Option (List ℕ)) (at_mid : ℕ) (left : Option (List ℕ)) (end limit limit_2 before middle after : ℕ) where
  -- the two calls see the same limit, beyond which the same bytes lie
  same_beyond : Moves (call told at mid at_mid limit before middle) → (bytes m : List ℕ) → told ≡ Some bytes → mid ≡ Some m → goes_beyond limit at_mid m ≡ goes_beyond limit at bytes
  same_beyond p bytes m t e =
      let parts : bytes ≡ p.front ++ m = some_is bytes (p.front ++ m) (sym t ∙ p.parts ∙ ap (with_front p.front) e) in
      ap (ltb limit) (omega (arith, p.place, ap length parts, length-append p.front m))

  pub Told-then : (P : Bool → List ℕ → List ℕ → Type 0) → Moves (call told at mid at_mid limit before middle) → limit_2 ≡ limit → Told (call mid at_mid left end limit_2 middle after) P → (bytes rest : List ℕ) → told ≡ Some bytes → left ≡ Some rest → (m : List ℕ) × (mid ≡ Some m) × P (goes_beyond limit at bytes) (take (limit - at_mid) m) (take (limit - end) rest)
  Told-then P p l_is h bytes rest t l =
      let m = told_on p.front told mid bytes p.parts t in
      let here : P (goes_beyond limit at_mid m.0) (take (limit - at_mid) m.0) (take (limit - end) rest)
      = subst (λ (n : ℕ). P (goes_beyond n at_mid m.0) (take (n - at_mid) m.0) (take (n - end) rest)) l_is (h m.0 rest m.1 l) in
      (m.0, m.1, subst (λ (b : Bool). P b (take (limit - at_mid) m.0) (take (limit - end) rest)) (same_beyond p bytes m.0 t m.1) here)

-- a call by which the reading by r went on by q, and one after it
module _ {told : Option (List ℕ)} {at : ℕ} {mid : Option (List ℕ)} {at_mid limit limit_2 before middle : ℕ} {A : Type 0} {r q : Reader A} (g : Goes (call told at mid at_mid limit before middle) r q) (l_is : limit_2 ≡ limit) where
  told_then : (left : Option (List ℕ)) (end after : ℕ) (x : Bool → List ℕ → Reading A) → Told (call mid at_mid left end limit_2 middle after) (λ more bytes rest. q more at_mid bytes ≡ x more rest) → Told (call told at left end limit before after) (λ more bytes rest. r more at bytes ≡ x more rest)
  told_then left end after x h bytes rest t l = let m = Told-then told at mid at_mid left end limit limit_2 before middle after (λ more bytes rest. q more at_mid bytes ≡ x more rest) g.moves l_is h bytes rest t l in g.reads bytes m.0 t m.1 ∙ m.2

  pub goes_then : {left : Option (List ℕ)} {end after : ℕ} {s : Reader A} → Goes (call mid at_mid left end limit_2 middle after) q s → Goes (call told at left end limit before after) r s
  goes_then {left} {end} {after} {s} h = record { moves = Moves-then told at mid at_mid left end limit limit_2 before middle after g.moves h.moves; reads = told_then left end after (λ more rest. s more end rest) h.reads }

  answers_then : (left : Option (List ℕ)) (end after : ℕ) {X : Type 0} (view : X → A) (result : Result X ReadPlaneFault) → AnswersReader view result (call mid at_mid left end limit_2 middle after) q → AnswersReader view result (call told at left end limit before after) r
  answers_then left end after view (Ok x) h = told_then left end after (λ more rest. done (view x) end rest) h
  answers_then left end after view (Err (errors.Plane fault)) h = told_then left end after (λ more rest. breaks fault) h
  answers_then left end after view (Err errors.TooLong) h = ((h.0.0 ∙ l_is, h.0.1), told_then left end after (λ more rest. asks) h.1)
  answers_then left end after view (Err errors.ReadFault) h = risen_before before middle after g.moves.grows h
  answers_then left end after view (Err errors.Memory) h = tt

  pub reads_then : {X : Type 0} {view : X → A} {result : Result X ReadPlaneFault} {left : Option (List ℕ)} {end after : ℕ} → Reads view result (call mid at_mid left end limit_2 middle after) q → Reads view result (call told at left end limit before after) r
  reads_then {X} {view} {result} {left} {end} {after} h = record { moves = Moves-then told at mid at_mid left end limit limit_2 before middle after g.moves h.moves; answers = answers_then left end after view result h.answers }

-- what is read at the end of a call
pub finds : {X A : Type 0} {view : X → A} {c : Call} {r q : Reader A} {x : X} → Goes c r q → ((more : Bool) (rest : List ℕ) → q more c.end rest ≡ done (view x) c.end rest) → Reads view (Ok x) c r
finds {c = c} g f = record { moves = g.moves; answers = λ bytes rest t l. g.reads bytes rest t l ∙ f (goes_beyond c.limit c.at bytes) (take (c.limit - c.end) rest) }

-- what a `?` returns
pub passed : {X A : Type 0} {view : X → A} {c : Call} {r : Reader A} {e : ReadPlaneFault} (result : Result X ReadPlaneFault) → IsErrAnd result (λ f. f ≡ e) → Reads view (Err e) c r → Reads view result c r
passed result h r = let p = err_from_is_err_and result h in rw (p.1, p.2) r

-- ---- single bytes

nothing_left : (told : Option (List ℕ)) (bytes : List ℕ) → IsAtEnd told → told ≡ Some bytes → bytes ≡ []
nothing_left None bytes h e = absurd cc
nothing_left (Some more) bytes h e = sym (some_is more bytes e) ∙ h

begins : (byte : ℕ) (told left : Option (List ℕ)) (bytes rest : List ℕ) → told ≡ with_front (byte ∷ []) left → told ≡ Some bytes → left ≡ Some rest → bytes ≡ byte ∷ rest
begins byte told left bytes rest e t l = some_is bytes (byte ∷ rest) (sym t ∙ e ∙ ap (with_front (byte ∷ [])) l)

take_nil : (n : ℕ) → take n (let none : List ℕ = [] in none) ≡ []
take_nil zero = refl
take_nil (suc n) = refl

-- a byte that the limit lets out
take_one : (limit at b : ℕ) (rest : List ℕ) → at < limit → take (limit - at) (b ∷ rest) ≡ b ∷ take (limit - (at + 1)) rest
take_one limit at b rest lt = let e : limit - at ≡ suc (limit - (at + 1)) = omega arith in ap (λ (n : ℕ). take n (b ∷ rest)) e

-- at the end nothing goes beyond the limit
none_beyond : (limit at : ℕ) → at ≤ limit → goes_beyond limit at [] ≡ false
none_beyond limit at le = le-ltb limit (at + 0) (omega arith)

pub takes_a_byte : (got : Option ℕ) (told left : Option (List ℕ)) (at end limit before after : ℕ)
    → IfSome got (λ byte. told ≡ with_front (byte ∷ []) left) → IfSome got (λ _. end ≡ at + 1)
    → (got ≡ None → IsAtEnd told) → (got ≡ None → left ≡ told) → (got ≡ None → end ≡ at) → before ≤ after → end ≤ limit
    → Reads (λ (g : Option ℕ). g) (Ok got) (call told at left end limit before after) byte_at
unfolding byte_at
takes_a_byte None told left at end limit before after parts place ended l e g within = record {
  moves = stays told left at end limit before after (l refl) (e refl) g;
  answers = λ bytes rest t r.
      let nil = nothing_left told bytes (ended refl) t in
      let same : rest ≡ [] = nothing_left told rest (ended refl) (sym (l refl) ∙ r) in
      let low : at ≤ limit = omega (arith, e refl, within) in
      rw (nil, same, e refl, take_nil (limit - at), none_beyond limit at low) refl;
}
takes_a_byte (Some byte) told left at end limit before after parts place ended l e g within = record {
  moves = record { front = byte ∷ []; parts = parts; place = place; grows = g };
  answers = λ bytes rest t r.
      let low : at < limit = omega (arith, place, within) in
      rw (begins byte told left bytes rest parts t r, place, take_one limit at byte rest low) refl;
}

-- a byte that the limit does not let out is asked for, and a read fault was counted
pub byte_fails : (f : FeedFault) (told left : Option (List ℕ)) (at end limit before after : ℕ) (r : Reader (Option ℕ))
    → left ≡ told → end ≡ at → before ≤ after → (f ≡ feed_faults.ReadFault → HasRisen before after) → (f ≡ feed_faults.TooLong → at ≡ limit) → (f ≡ feed_faults.TooLong → HasMore told) → r true at [] ≡ asks
    → Reads (λ (g : Option ℕ). g) (Err (plane_fault_of_feed f)) (call told at left end limit before after) r
byte_fails feed_faults.ReadFault told left at end limit before after r l e g risen full more a = record { moves = stays told left at end limit before after l e g; answers = risen refl }
byte_fails feed_faults.TooLong told left at end limit before after r l e g risen full more a = record {
  moves = stays told left at end limit before after l e g;
  answers = (
    (e ∙ full refl, subst HasMore (sym l) (more refl)),
    λ bytes rest t _.
        let some : 0 < length bytes = (rw t at (more refl)) in
        let none : limit - at ≡ 0 = omega (arith, full refl) in
        let beyond : goes_beyond limit at bytes ≡ true = lt-ltb limit (at + length bytes) (omega (arith, some, full refl)) in
        rw (none, beyond) a,
  );
}

pub byte_asks : (at : ℕ) → byte_at true at [] ≡ asks
unfolding byte_at
byte_asks at = refl

pub sight_asks : (at : ℕ) → sight_at true at [] ≡ asks
unfolding sight_at
sight_asks at = refl

-- the view of a byte that was got, and of what has no value
abbrev pub as_got : Option ℕ → Option ℕ
as_got got = got

abbrev pub as_number : ℕ → ℕ
as_number n = n

abbrev pub as_spelling : Spelling → Spelling
as_spelling s = s

abbrev pub as_nothing : Unit {0} → Unit {0}
as_nothing _ = nothing

sight_first : (more : Bool) (at : ℕ) (bytes : List ℕ) (b : ℕ) (rest : List ℕ) → bytes ≡ b ∷ rest → sight_at more at bytes ≡ done (Some b) at bytes
unfolding sight_at
sight_first more at [] b rest e = absurd cc
sight_first more at (a ∷ bytes) b rest e = let same : a ≡ b = cc in rw same refl

pub takes_a_sight : (got : Option ℕ) (told left : Option (List ℕ)) (at end limit before after : ℕ)
    → IfSome got (λ byte. BeginsWith byte told) → (got ≡ None → IsAtEnd told) → left ≡ told → end ≡ at → before ≤ after → IfSome got (λ _. at < limit) → at ≤ limit
    → Reads as_got (Ok got) (call told at left end limit before after) sight_at
unfolding sight_at
takes_a_sight None told left at end limit before after begin ended l e g low within = record {
  moves = stays told left at end limit before after l e g;
  answers = λ bytes rest t r.
      let nil = nothing_left told bytes (ended refl) t in
      let same : rest ≡ [] = nothing_left told rest (ended refl) (sym l ∙ r) in
      rw (nil, same, e, take_nil (limit - at), none_beyond limit at within) refl;
}
takes_a_sight (Some byte) told left at end limit before after begin ended l e g low within = record {
  moves = stays told left at end limit before after l e g;
  answers = λ bytes rest t r.
      let same : rest ≡ bytes = some_is rest bytes (sym r ∙ l ∙ t) in
      let first : bytes ≡ byte ∷ drop 1 bytes = some_is bytes (byte ∷ drop 1 bytes) (sym t ∙ begin ∙ ap (λ (o : Option (List ℕ)). with_front (byte ∷ []) (after_first o)) t) in
      let out : take (limit - at) bytes ≡ byte ∷ take (limit - (at + 1)) (drop 1 bytes) = ap (take (limit - at)) first ∙ take_one limit at byte (drop 1 bytes) low in
      rw (same, e) (sight_first (goes_beyond limit at bytes) at (take (limit - at) bytes) byte (take (limit - (at + 1)) (drop 1 bytes)) out);
}

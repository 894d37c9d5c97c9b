-- How calls on a feed that come one after another have the outcome of one parser.
use Rattle.std.proofs.Common.{◌≡◌, ◌≢◌, ℕ, ◌+◌, ◌-◌, ◌≤◌, ◌<◌, suc, inl, inr, nat_lt, Bool, true, false, List, [], ◌∷◌, ◌++◌, length, take, drop, append_assoc, Option, Some, None, Result, Ok, Err, refl, sym, ap, ◌∙◌, arith}
use Rattle.std.specs.Prelude.{IfSome, IfOk, IfErr, IsErrAnd, All, MatchResult}
use Rattle.std.proofs.lemmas.Result.{err_from_is_err_and}
use Rattle.std.proofs.Math.Seq.{take-append-add, take-nil}
use Rattle.std.proofs.lemmas.Bool.{le-ltb, lt-ltb}
use Rattle.std.proofs.lemmas.List.Elements.{All-push}
use Rattle.std.proofs.lemmas.List.{length-append, length-take, append-nil}
use Rattle.insar_ports.specs.Bytes.{with_front, after_first, BeginsWith, HasMore, HasRisen, IsAtEnd}
use Rattle.insar_ports.specs.Calls.{Call, Moves}
use Rattle.insar_ports.specs.Lines.{IsInLine, IsNextLine, IsPartOfLine, bytes_of, asked_by}
use Rattle.insar_ports.specs.declared.feed.Line.{Line}
use Rattle.insar_ports.specs.declared.feed.Line.TheVariants.{Whole, Cut, Over}
use Rattle.insar_ports.specs.declared.feed.FeedFault.{FeedFault}
use Rattle.insar_ports.specs.declared.feed.FeedFault.TheVariants as feed_faults
use Rattle.insar_ports.proofs.CallLemmas.{call, some_is, risen_before, Moves-then, at_told}
use Rattle.insar_ports.proofs.CallerLemmas.{with_front-nil}
use Rattle.pgm_planes.specs.declared.fault.InputFault.{InputFault}
use Rattle.pgm_planes.specs.declared.fault.InputFault.TheVariants as faults
use Rattle.pgm_planes.specs.declared.fault.ReadPlaneFault.{ReadPlaneFault}
use Rattle.pgm_planes.specs.declared.fault.ReadPlaneFault.TheVariants as errors
use Rattle.pgm_planes.specs.declared.fault.Role.{Role}
use Rattle.pgm_planes.specs.declared.fault.Role.TheVariants.{Phase}
use Rattle.pgm_planes.specs.Planes.{Sought, plane_of}
use Rattle.pgm_planes.specs.Reading.{Reader, Reads, Told, goes_beyond, sought_at, sight_at}
use Rattle.raster_model.specs.declared.plane.Plane.{Plane}
use Rattle.pgm_planes.proofs.CallLemmas.{Told-then, takes_a_sight, byte_fails, sight_asks}
use Rattle.session_script.specs.declared.fault.SessionFault.{SessionFault}
use Rattle.session_script.specs.declared.fault.SessionFault.TheVariants.{Input, ReadFault, Memory}
use Rattle.session_script.specs.declared.word.Word.{Word}
use Rattle.session_script.specs.Faults.{session_fault_of_feed, fault_of_plane}
use Rattle.session_script.specs.Sections.{Sections, Frame, AreWithinLimits, line_count, word_broken, with_word}
use Rattle.session_script.specs.Parsing.{Parse, Parser, if_no_more, parsed, and_then, chain, peek_parser, line_parser, plane_parser, as_parse, Parses}
use Rattle.session_script.proofs.SectionsAgain.{line_begins, line_refused, line_missing, after, lines_after, by_line, goes_on}
use Rattle.session_script.specs.Building.{FitsIn, IsSpelledLine}
use Rattle.session_script.proofs.ParseLemmas.{done, broken, refusing}
use Rattle.session_script.proofs.WithinLemmas.{IsNext}

abbrev pub got_as : Option ℕ → Option ℕ
got_as got = got

-- the outcome of p from where the call began is that of q from where it ended
pub record Leads {A : Type 0} (c : Call) (p q : Parser A) : Type 0 where
  pub moves : Moves c
  pub same : Told c (λ more bytes rest. p more c.at bytes ≡ q more c.end rest)

module _ {A : Type 0} {told : Option (List ℕ)} {at : ℕ} {mid : Option (List ℕ)} {at_mid : ℕ} {left : Option (List ℕ)} {end limit limit_2 before middle after : ℕ} {p q s : Parser A} where
  pub leads_on : Leads (call told at mid at_mid limit before middle) p q → limit_2 ≡ limit → Leads (call mid at_mid left end limit_2 middle after) q s → Leads (call told at left end limit before after) p s
  leads_on g l h = record {
    moves = Moves-then told at mid at_mid left end limit limit_2 before middle after g.moves h.moves;
    same = λ bytes rest t u. let m = Told-then told at mid at_mid left end limit limit_2 before middle after (λ more bytes rest. q more at_mid bytes ≡ s more end rest) g.moves l h.same bytes rest t u in g.same bytes m.0 t m.1 ∙ m.2;
  }

module _ {X A : Type 0} {view : X → A} {told : Option (List ℕ)} {at : ℕ} {mid : Option (List ℕ)} {at_mid : ℕ} {left : Option (List ℕ)} {end limit limit_2 before middle after : ℕ} {p q : Parser A} where
  pub then : (r : Result X SessionFault) → Leads (call told at mid at_mid limit before middle) p q → limit_2 ≡ limit → Parses view r (call mid at_mid left end limit_2 middle after) q → Parses view r (call told at left end limit before after) p
  then (Ok x) g l h = let k = leads_on {s = parsed (view x)} g l (record { moves = h.moves; same = h.outcome }) in record { moves = k.moves; outcome = k.same }
  then (Err (Input fault)) g l h =
      let k = leads_on {s = refusing (λ _. fault)} g l (record { moves = h.moves; same = h.outcome.0 }) in
      record { moves = k.moves; outcome = (k.same, λ e. let full = h.outcome.1 e in (full.0 ∙ l, full.1)) }
  then (Err ReadFault) g l h = record { moves = Moves-then told at mid at_mid left end limit limit_2 before middle after g.moves h.moves; outcome = risen_before before middle after g.moves.grows h.outcome }
  then (Err Memory) g l h = record { moves = Moves-then told at mid at_mid left end limit limit_2 before middle after g.moves h.moves; outcome = tt }

-- a call had the first outcome
pub first : {X A B : Type 0} {view : X → A} (c : Call) (p : Parser A) (f : A → Parser B) (x : X) → Parses view (Ok x) c p → Leads c (chain p f) (f (view x))
unfolding chain
first {A = A} c p f x h = record { moves = h.moves; same = λ bytes rest t u. ap (λ (r : Parse A). and_then r (λ a. f a (goes_beyond c.limit c.at bytes))) (h.outcome bytes rest t u) }

module _ {X A Y B : Type 0} {view : X → A} {other : Y → B} {told : Option (List ℕ)} {at : ℕ} {mid : Option (List ℕ)} {at_mid : ℕ} {left : Option (List ℕ)} {end limit limit_2 before middle after : ℕ} (p : Parser A) (f : A → Parser B) where
  pub goes : {x : X} {r : Result Y SessionFault} → (let q : Result X SessionFault = Ok x in Parses view q (call told at mid at_mid limit before middle) p) → limit_2 ≡ limit → Parses other r (call mid at_mid left end limit_2 middle after) (f (view x)) → Parses other r (call told at left end limit before after) (chain p f)
  goes {x} {r} h l k = then r (first (call told at mid at_mid limit before middle) p f x h) l k

-- a call failed
module _ {X A Y B : Type 0} {view : X → A} {other : Y → B} {c : Call} (p : Parser A) (f : A → Parser B) where
  refused : (e : SessionFault) → (let q : Result X SessionFault = Err e in Parses view q c p) → (let r : Result Y SessionFault = Err e in Parses other r c (chain p f))
  unfolding chain
  refused (Input fault) h = record { moves = h.moves; outcome = (λ bytes rest t u. ap (λ (r : Parse A). and_then r (λ a. f a (goes_beyond c.limit c.at bytes))) (h.outcome.0 bytes rest t u), h.outcome.1) }
  refused ReadFault h = record { moves = h.moves; outcome = h.outcome }
  refused Memory h = record { moves = h.moves; outcome = tt }

  pub fails : {e : SessionFault} {r : Result Y SessionFault} → IsErrAnd r (λ g. g ≡ e) → (let q : Result X SessionFault = Err e in Parses view q c p) → Parses other r c (chain p f)
  fails {e} {r} i h = let k = err_from_is_err_and r i in rw (k.1, k.2) (refused e h)

-- nothing was done
pub still : {A : Type 0} (p : Parser A) (c : Call) → c.left ≡ c.told → c.end ≡ c.at → c.before ≤ c.after → Leads c p p
still p c l e g = record {
  moves = record { front = []; parts = sym l ∙ sym (with_front-nil c.left); place = omega (arith, e); grows = g };
  same = λ bytes rest t u. let same : bytes ≡ rest = some_is bytes rest (sym t ∙ sym l ∙ u) in rw (same, e) refl;
}

none_moved : (left : Option (List ℕ)) (end limit after : ℕ) → Moves (call left end left end limit after after)
none_moved left end limit after = (still peek_parser (call left end left end limit after after) refl refl (omega arith)).moves

module _ {X A : Type 0} {view : X → A} {left : Option (List ℕ)} {end limit after : ℕ} where
  pub gives : (x : X) → Parses view (Ok x) (call left end left end limit after after) (parsed (view x))
  gives x = record { moves = none_moved left end limit after; outcome = λ bytes rest t u. rw (some_is bytes rest (sym t ∙ u)) refl }

  pub refuses : (fault : ℕ → InputFault) → fault end ≢ faults.TooLong → (let r : Result X SessionFault = Err (Input (fault end)) in Parses view r (call left end left end limit after after) (refusing fault))
  refuses fault n = record { moves = none_moved left end limit after; outcome = (λ bytes rest t u. refl, λ e. absurd (n e)) }

  pub starves : (p : Parser A) → (let r : Result X SessionFault = Err Memory in Parses view r (call left end left end limit after after) p)
  starves p = record { moves = none_moved left end limit after; outcome = tt }

  -- what is made, where memory suffices
  pub makes : (v : A) (r : Result X SessionFault) → IfOk r (λ x. view x ≡ v) → IfErr r (λ fault. fault ≡ Memory) → Parses view r (call left end left end limit after after) (parsed v)
  makes v (Ok x) made starved = rw (← made) (gives x)
  makes v (Err e) made starved = rw starved (starves (parsed v))

-- ---- sections, line by line

pub by_lines : (c : Call) (p : Parser Sections) (f : Frame) (ss : Sections) → AreWithinLimits f ss → Leads c p (lines_after f ss) → Leads c p (chain (line_parser (line_count ss + 1) []) (after f ss))
by_lines c p f ss within g = record { moves = g.moves; same = λ bytes rest t u. g.same bytes rest t u ∙ by_line f ss within (goes_beyond c.limit c.at bytes) c.end (take (c.limit - c.end) rest) }

pub goes_to : (c : Call) (p : Parser Sections) (f : Frame) (ss : Sections) (w : Word) → IsNext w ss → word_broken f (line_count ss + 1) ss w ≡ None → Leads c p (after f ss w) → Leads c p (lines_after f (with_word w ss))
goes_to c p f ss w next may g = record { moves = g.moves; same = λ bytes rest t u. g.same bytes rest t u ∙ goes_on f ss w next may (goes_beyond c.limit c.at bytes) c.end (take (c.limit - c.end) rest) }

-- ---- a plane, and a look at the next byte

module _ {X A : Type 0} {view : X → A} (role : Role) (c : Call) (p : Parser A) (q : Reader A) (e : (more : Bool) (at : ℕ) (bytes : List ℕ) → p more at bytes ≡ as_parse role (q more at bytes)) where
  lifts : (x : X) → Reads view (Ok x) c q → Parses view (Ok x) c p
  lifts x h = record { moves = h.moves; outcome = λ bytes rest t u. e _ _ _ ∙ ap (as_parse role) (h.answers bytes rest t u) }

  lifts_fault : (fault : ReadPlaneFault) → (let r : Result X ReadPlaneFault = Err fault in Reads view r c q) → (let r : Result X SessionFault = Err (fault_of_plane role fault) in Parses view r c p)
  lifts_fault (errors.Plane fault) h = record { moves = h.moves; outcome = (λ bytes rest t u. e _ _ _ ∙ ap (as_parse role) (h.answers bytes rest t u), λ n. absurd (let k : faults.Plane role fault ≡ faults.TooLong = n in cc)) }
  lifts_fault errors.TooLong h = record { moves = h.moves; outcome = (λ bytes rest t u. e _ _ _ ∙ ap (as_parse role) (h.answers.1 bytes rest t u), λ n. h.answers.0) }
  lifts_fault errors.ReadFault h = record { moves = h.moves; outcome = h.answers }
  lifts_fault errors.Memory h = record { moves = h.moves; outcome = tt }

-- a plane, whose fault was told as the session's
pub of_plane : (sought : Sought) (c : Call) (r : Result Plane ReadPlaneFault) (s : Result Plane SessionFault) → Reads plane_of r c (sought_at sought) → MatchResult r (λ x. s ≡ Ok x) (λ e. s ≡ Err (fault_of_plane sought.role e)) → Parses plane_of s c (plane_parser sought)
of_plane sought c (Ok x) s h is = rw is (lifts sought.role c (plane_parser sought) (sought_at sought) (λ more at bytes. refl) x h)
of_plane sought c (Err e) s h is = rw is (lifts_fault sought.role c (plane_parser sought) (sought_at sought) (λ more at bytes. refl) e h)

peek_is : (more : Bool) (at : ℕ) (bytes : List ℕ) → peek_parser more at bytes ≡ as_parse Phase (sight_at more at bytes)
unfolding sight_at
peek_is true at [] = refl
peek_is false at [] = refl
peek_is more at (b ∷ bytes) = refl

pub sees : (got : Option ℕ) (told left : Option (List ℕ)) (at end limit before after : ℕ)
    → IfSome got (λ byte. BeginsWith byte told) → (got ≡ None → IsAtEnd told) → left ≡ told → end ≡ at → before ≤ after → IfSome got (λ _. at < limit) → at ≤ limit
    → Parses got_as (Ok got) (call told at left end limit before after) peek_parser
sees got told left at end limit before after begin ended l e g low within = lifts Phase (call told at left end limit before after) peek_parser sight_at peek_is got (takes_a_sight got told left at end limit before after begin ended l e g low within)

pub sees_not : (f : FeedFault) (told left : Option (List ℕ)) (at end limit before after : ℕ)
    → left ≡ told → end ≡ at → before ≤ after → (f ≡ feed_faults.ReadFault → HasRisen before after) → (f ≡ feed_faults.TooLong → at ≡ limit) → (f ≡ feed_faults.TooLong → HasMore told)
    → (let r : Result (Option ℕ) SessionFault = Err (session_fault_of_feed f) in Parses got_as r (call told at left end limit before after) peek_parser)
sees_not feed_faults.ReadFault told left at end limit before after l e g risen full more = lifts_fault Phase (call told at left end limit before after) peek_parser sight_at peek_is errors.ReadFault (byte_fails feed_faults.ReadFault told left at end limit before after sight_at l e g risen full more (sight_asks at))
sees_not feed_faults.TooLong told left at end limit before after l e g risen full more = lifts_fault Phase (call told at left end limit before after) peek_parser sight_at peek_is errors.TooLong (byte_fails feed_faults.TooLong told left at end limit before after sight_at l e g risen full more (sight_asks at))

-- ---- a line, of which `into` holds the bytes

abbrev pub word_as : Word → Word
word_as w = w

pub next_fits : (l : Line) (into : List ℕ) (old new : Option (List ℕ)) → IsNextLine l into old new → FitsIn l into
next_fits (Whole n) into old new h = h.0
next_fits (Cut n) into old new h = h.0
next_fits Over into old new h = tt

-- what the limit lets out: the bytes that were taken, and some of those that are left; and whether more come
let_out : (c : Call) (m : Moves c) → c.end ≤ c.limit → (bytes rest : List ℕ) → c.told ≡ Some bytes → c.left ≡ Some rest → (take (c.limit - c.at) bytes ≡ m.front ++ take (c.limit - c.end) rest) × (goes_beyond c.limit c.at bytes ≡ nat_lt c.limit (c.end + length rest))
let_out c m low bytes rest t u =
    let e : bytes ≡ m.front ++ rest = some_is bytes (m.front ++ rest) (sym t ∙ m.parts ∙ ap (with_front m.front) u) in
    let room : c.limit - c.at ≡ length m.front + (c.limit - c.end) = omega (arith, m.place, low) in
    let place : c.at + length bytes ≡ c.end + length rest = omega (arith, m.place, ap length e, length-append m.front rest) in
    (ap (take (c.limit - c.at)) e ∙ ap (λ (k : ℕ). take k (m.front ++ rest)) room ∙ take-append-add m.front rest (c.limit - c.end), ap (nat_lt c.limit) place)

module _ (number : ℕ) (into : List ℕ) (c : Call) (size : length into ≡ 64) (grows : c.before ≤ c.after) where
  count : (n : ℕ) → n ≤ length into → length (take n into) ≡ n
  count n le = omega (arith, le, length-take n into)

  abbrev gone : (front : List ℕ) → c.told ≡ with_front front c.left → c.end ≡ c.at + length front → Moves c
  gone front parts place = record { front = front; parts = parts; place = place; grows = grows }

  -- the bytes that the limit lets out end with a part of a line
  part_seen : (n : ℕ) (m : Moves c) → m.front ≡ take n into → n ≤ length into → All IsInLine (take n into) → c.end ≤ c.limit → (more : Bool) → ((bytes rest : List ℕ) → c.told ≡ Some bytes → c.left ≡ Some rest → (take (c.limit - c.end) rest ≡ []) × (nat_lt c.limit (c.end + length rest) ≡ more)) → Told c (λ b bytes rest. line_parser number [] b c.at bytes ≡ if_no_more more (broken faults.NoEnd))
  part_seen n m is le all low more f = λ bytes rest t u.
      let out = let_out c m low bytes rest t u in
      let end = f bytes rest t u in
      let seen : take (c.limit - c.at) bytes ≡ take n into = out.0 ∙ ap (λ (x : List ℕ). m.front ++ x) end.0 ∙ append-nil m.front ∙ is in
      rw (out.1 ∙ end.1, seen) (line_missing number more c.at (take n into) (omega (arith, count n le, le, size), all))

  pub reads_line : (l : Line) (r : Result Word SessionFault) → IsNextLine l into c.told c.left → c.end ≡ c.at + bytes_of l into → c.at + asked_by l into ≤ c.limit → IsSpelledLine number l into r → Parses word_as r c (line_parser number [])
  reads_line (Whole n) (Ok w) (le, all, parts) place low s =
      let m = gone (take n into ++ 10 ∷ []) parts (omega (arith, place, count n le, length-append (take n into) (10 ∷ []))) in
      record {
        moves = m;
        outcome = λ bytes rest t u.
            let out = (let_out c m (omega (arith, place, low)) bytes rest t u).0 ∙ append_assoc (take n into) (10 ∷ []) (take (c.limit - c.end) rest) in
            let end : (c.at + length (take n into)) + 1 ≡ c.end = omega (arith, place, count n le) in
            line_begins number (goes_beyond c.limit c.at bytes) c.at _ w _ (record { line = take n into; parts = out; short = omega (arith, count n le, le, size); spells = s }) ∙ ap (λ (k : ℕ). done w k (take (c.limit - c.end) rest)) end;
      }
  reads_line (Whole n) (Err e) (le, all, parts) place low (none, is) =
      let m = gone (take n into ++ 10 ∷ []) parts (omega (arith, place, count n le, length-append (take n into) (10 ∷ []))) in
      rw is (record {
        moves = m;
        outcome = (
          λ bytes rest t u.
              let out = (let_out c m (omega (arith, place, low)) bytes rest t u).0 ∙ append_assoc (take n into) (10 ∷ []) (take (c.limit - c.end) rest) in
              line_refused number (goes_beyond c.limit c.at bytes) c.at _ (inr (record { line = take n into; others = _; parts = out; whole = all; short = omega (arith, count n le, le, size); spells = none })),
          λ q. absurd cc,
        );
      })
  reads_line (Cut n) r (le, (all, parts), ended) place low is =
      let m = gone (take n into) parts (omega (arith, place, count n le)) in
      rw is (record {
        moves = m;
        outcome = (part_seen n m refl le all (omega (arith, place, low)) false (λ bytes rest t u. let none : rest ≡ [] = at_told c.left (λ x. x ≡ []) rest u ended in (rw none (take-nil (c.limit - c.end)), le-ltb c.limit (c.end + length rest) (omega (arith, place, low, ap length none)))), λ q. absurd cc);
      })
  reads_line Over r ((all, parts), (b, in_line, begins)) place low is =
      let m = gone into parts place in
      rw is (record {
        moves = m;
        outcome = (
          λ bytes rest t u.
              let first : rest ≡ b ∷ drop 1 rest = some_is rest (b ∷ drop 1 rest) (sym u ∙ begins ∙ ap (λ (o : Option (List ℕ)). with_front (b ∷ []) (after_first o)) u) in
              let room : c.limit - c.end ≡ suc (c.limit - (c.end + 1)) = omega (arith, place, low) in
              let out = (let_out c m (omega (arith, place, low)) bytes rest t u).0 ∙ ap (λ (x : List ℕ). into ++ x) (ap (take (c.limit - c.end)) first ∙ ap (λ (k : ℕ). take k (b ∷ drop 1 rest)) room) ∙ sym (append_assoc into (b ∷ []) (take (c.limit - (c.end + 1)) (drop 1 rest))) in
              line_refused number (goes_beyond c.limit c.at bytes) c.at _ (inl (into ++ b ∷ [], _, out, omega (arith, size, length-append into (b ∷ [])), All-push IsInLine into b all in_line)),
          λ q. absurd cc,
        );
      })

  pub line_failed : (e : FeedFault) → IsPartOfLine into c.told c.left c.at c.end → (e ≡ feed_faults.TooLong → c.end ≡ c.limit) → (e ≡ feed_faults.TooLong → HasMore c.left) → (e ≡ feed_faults.ReadFault → HasRisen c.before c.after) → (let r : Result Word SessionFault = Err (session_fault_of_feed e) in Parses word_as r c (line_parser number []))
  line_failed feed_faults.TooLong (n, le, (all, parts), place) full more risen =
      let m = gone (take n into) parts (omega (arith, place, count n le)) in
      let last : c.limit - c.end ≡ 0 = omega (arith, full refl) in
      record {
        moves = m;
        outcome = (part_seen n m refl le all (omega (arith, full refl)) true (λ bytes rest t u. let some : 0 < length rest = at_told c.left (λ x. 0 < length x) rest u (more refl) in (rw last refl, lt-ltb c.limit (c.end + length rest) (omega (arith, full refl, some)))), λ _. (full refl, more refl));
      }
  line_failed feed_faults.ReadFault (n, le, (all, parts), place) full more risen = record { moves = gone (take n into) parts (omega (arith, place, count n le)); outcome = risen refl }

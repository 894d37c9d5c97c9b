-- Texts that are added one after the other.
use Rattle.std.specs.Prelude.{ℤ, FitsSigned, OnOk, OnErr, codes}
use Rattle.std.specs.Fmt.{signed_decimal}
use Rattle.std.proofs.lemmas.Int.{to_z-of_z}
use Rattle.std.specs.Int.Signed.{le_z, lt_z}
use Rattle.std.proofs.Math.IntN.{nat_abs}
use Rattle.std.proofs.lemmas.Bool.Decides.{nat_tests}
use Rattle.std.proofs.lemmas.Fmt.{decimal_digit}
use mir.Syntax.{Width}
use Rattle.text_lines.specs.Numbers.{number_text}
use Rattle.std.proofs.Common.{◌≡◌, ℕ, suc, ◌+◌, ◌<◌, ◌≤◌, List, [], ◌∷◌, ◌++◌, Option, Result, Ok, Err, Bool, true, false, refl, flat_map, get_or, length, take, drop, sym, ap, subst, ◌∙◌, append_assoc, arith, of_z, to_z, pos, negsuc}
use Rattle.std.proofs.lemmas.List.{append-nil, get_or_default, length-append, take_more, length-drop, take-append-drop}
use Rattle.std.proofs.lemmas.Grind.{flat_map-append}
use Rattle.std.proofs.Math.Seq.{take-append_seam}
use Rattle.insar_ports.specs.Bytes.{with_end, GainsProperPrefix, HasRisen}
use Rattle.insar_ports.specs.declared.sink.WriteFault.{WriteFault}
use Rattle.insar_ports.proofs.CallerLemmas.{with_end-append, with_end-nil}
use Rattle.std.specs.Borrow.{GName}
use Rattle.text_lines.specs.Views.{fresh}
use Rattle.text_lines.specs.Adding.{Adds, Puts, View}
use Rattle.text_lines.specs.Text.{texts_below}

by_bool : (X : Type 0) (b : Bool) → (b ≡ true → X) → (b ≡ false → X) → X
by_bool X true f g = f refl
by_bool X false f g = g refl

both : (b : Bool) → b ≡ true → b ≡ false → ⊥
both true e f = cc
both false e f = cc

module _ {v m w : View} {s t : List ℕ} (p : Adds v m s) (q : Adds m w t) where
  joined : (r : List ℕ) → m.sound ≡ true → q.put ++ r ≡ m.waiting ++ t → (p.put ++ q.put) ++ r ≡ v.waiting ++ (s ++ t)
  joined r e h = append_assoc p.put q.put r ∙ ap (λ (l : List ℕ). p.put ++ l) h ∙ sym (append_assoc p.put m.waiting t) ∙ ap (λ (l : List ℕ). l ++ t) (p.whole e) ∙ append_assoc v.waiting s t

  early : m.sound ≡ false → (rest : List ℕ) × (0 < length rest) × (p.put ++ rest ≡ v.waiting ++ s) → (rest : List ℕ) × (0 < length rest) × ((p.put ++ q.put) ++ rest ≡ v.waiting ++ (s ++ t))
  early e c = (
    c.0 ++ t,
    omega (arith, length-append c.0 t, c.1),
    ap (λ (l : List ℕ). (p.put ++ l) ++ (c.0 ++ t)) (q.stays e).1 ∙ ap (λ (l : List ℕ). l ++ (c.0 ++ t)) (append-nil p.put) ∙ sym (append_assoc p.put c.0 t) ∙ ap (λ (l : List ℕ). l ++ t) c.2 ∙ append_assoc v.waiting s t,
  )

  pub adds_then : Adds v w (s ++ t)
  adds_then = record {
    name = q.name ∙ p.name;
    grows = omega (arith, p.grows, q.grows);
    put = p.put ++ q.put;
    gained = q.gained ∙ ap (λ (o : Option (List ℕ)). with_end o q.put) p.gained ∙ with_end-append v.held p.put q.put;
    stays = λ e. let a = p.stays e in let b = q.stays a.0 in (b.0, ap (λ (l : List ℕ). l ++ q.put) a.1 ∙ b.1);
    whole = λ e. by_bool _ m.sound (λ f. joined w.waiting f (q.whole e)) (λ f. absurd (both w.sound e (q.stays f).0));
    cut = λ e f. by_bool _ m.sound (λ g. let c = q.cut g f in (c.0, c.1, joined c.0 g c.2)) (λ g. early g (p.cut e g));
    fault = λ e f. by_bool _ m.sound (λ g. let a = q.fault g f in omega (arith, a, p.grows)) (λ g. let a = p.fault e g in omega (arith, a, q.grows));
  }

-- nothing was put: the buffer took the text, or a fault had come before
pub adds_still : (v w : View) (text : List ℕ) → w.name ≡ v.name → w.held ≡ v.held → w.faults ≡ v.faults → w.sound ≡ v.sound → (v.sound ≡ true → w.waiting ≡ v.waiting ++ text) → Adds v w text
adds_still v w text n h f s e = record {
  name = n;
  grows = omega (arith, f);
  put = [];
  gained = h ∙ sym (with_end-nil v.held);
  stays = λ a. (s ∙ a, refl);
  whole = λ a. e (sym s ∙ a);
  cut = λ a b. absurd (both v.sound a (sym s ∙ b));
  fault = λ a b. absurd (both v.sound a (sym s ∙ b));
}

-- all was put, or a part and a fault came
pub adds_put : (v w : View) (text all : List ℕ) → v.sound ≡ true → w.name ≡ v.name → all ≡ v.waiting ++ text → w.waiting ≡ [] → v.faults ≤ w.faults → (w.sound ≡ true → w.held ≡ with_end v.held all) → (w.sound ≡ false → GainsProperPrefix v.held all w.held) → (w.sound ≡ false → HasRisen v.faults w.faults) → Adds v w text
adds_put v w text all s n e z g wrote cut risen =
    by_bool _ w.sound
    (λ h. record {
      name = n;
      grows = g;
      put = all;
      gained = wrote h;
      stays = λ a. absurd (both v.sound s a);
      whole = λ a. ap (λ (l : List ℕ). all ++ l) z ∙ append-nil all ∙ e;
      cut = λ a b. absurd (both w.sound h b);
      fault = λ a b. risen b;
    })
    (λ h. let c = cut h in record {
      name = n;
      grows = g;
      put = take c.0 all;
      gained = c.2;
      stays = λ a. absurd (both v.sound s a);
      whole = λ a. absurd (both w.sound a h);
      cut = λ a b. (drop c.0 all, omega (arith, length-drop c.0 all, c.1), take-append-drop c.0 all ∙ e);
      fault = λ a b. risen b;
    })

-- a new writer was handed a text and then was finished
pub puts_whole : (v w : View) (text : List ℕ) (r : Result (Unit {0}) WriteFault) → Adds v w text → v.sound ≡ true → v.waiting ≡ [] → w.waiting ≡ [] → OnOk r (w.sound ≡ true) → OnErr r (w.sound ≡ false) → Puts v.held v.faults w.held w.faults text r
puts_whole v w text (Ok u) a s z y good bad = record {
  written = a.gained ∙ ap (with_end v.held) (sym (append-nil a.put) ∙ ap (λ (l : List ℕ). a.put ++ l) (sym y) ∙ a.whole good ∙ ap (λ (l : List ℕ). l ++ text) z);
  cut = tt;
  fault = tt;
  grows = a.grows;
}
puts_whole v w text (Err u) a s z y good bad =
    let c = a.cut s bad in
    let e : a.put ++ c.0 ≡ text = c.2 ∙ ap (λ (l : List ℕ). l ++ text) z in record {
      written = tt;
      cut = (length a.put, omega (arith, sym (length-append a.put c.0) ∙ ap length e, c.1), a.gained ∙ ap (with_end v.held) (sym (take-append_seam a.put c.0) ∙ ap (take (length a.put)) e));
      fault = a.fault s bad;
      grows = a.grows;
    }

-- a writer was made, handed a text, and finished
pub puts_all : {u w x : View} {text : List ℕ} {name : GName} {held : Option (List ℕ)} {faults : ℕ} (r : Result (Unit {0}) WriteFault) → u ≡ fresh name held faults → Adds u w text → Adds w x [] → x.waiting ≡ [] → OnOk r (x.sound ≡ true) → OnErr r (x.sound ≡ false) → Puts held faults x.held x.faults text r
puts_all {u} {w} {x} {text} {name} {held} {faults} r e a b z good bad =
    let p : Adds u x (text ++ []) = adds_then a b in
    let q : Adds u x text = subst (λ (t : List ℕ). Adds u x t) (append-nil text) p in
    puts_whole (fresh name held faults) x text r (subst (λ (y : View). Adds y x text) e q) refl refl z good bad

-- which reference a new writer still writes to
pub same_name : {u w x : View} {text : List ℕ} {name : GName} {held : Option (List ℕ)} {faults : ℕ} → u ≡ fresh name held faults → Adds u w text → Adds w x [] → name ≡ x.name
same_name e a b = sym (b.name ∙ a.name ∙ ap (λ (v : View). v.name) e)

-- nothing was done
pub adds_nothing : (v : View) → Adds v v []
adds_nothing v = adds_still v v [] refl refl refl refl (λ _. sym (append-nil v.waiting))

-- after a fault nothing need be done
pub adds_no_more : (v : View) (text : List ℕ) → v.sound ≡ false → Adds v v text
adds_no_more v text e = adds_still v v text refl refl refl refl (λ a. absurd (both v.sound a e))

-- one more element's text was added
pub adds_next : {X : Type 0} {v m w : View} (f : X → List ℕ) (xs : List X) (i : ℕ) (d : X) → i < length xs → Adds v m (flat_map f (take i xs)) → Adds m w (f (get_or xs i d)) → Adds v w (flat_map f (take (i + 1) xs))
adds_next {X} f xs i d within p q =
    let x = get_or xs i d in
    let e : take (i + 1) xs ≡ take i xs ++ x ∷ [] = take_more xs i x within ∙ ap (λ (y : X). take i xs ++ y ∷ []) (sym (get_or_default xs i d x within)) in
    let more : flat_map f (take (i + 1) xs) ≡ flat_map f (take i xs) ++ f x = ap (flat_map f) e ∙ flat_map-append f (take i xs) (x ∷ []) ∙ ap (λ (t : List ℕ). flat_map f (take i xs) ++ t) (append-nil (f x)) in
    rw more (adds_then p q)

-- a number with its sign, which its width holds
pub adds_signed : {a b : View} (w : Width) (n : ℤ) → FitsSigned w n → Adds a b (signed_decimal (to_z w (of_z w n))) → Adds a b (signed_decimal n)
adds_signed {a} {b} w n fits p = rw (to_z-of_z w n fits) at p

-- the decimal text of a number from 0 to 9 is one byte
signed_digit : (z : ℤ) → le_z (pos 0) z ≡ true → lt_z z (pos 10) ≡ true → (48 + nat_abs z) ∷ [] ≡ signed_decimal z
signed_digit (pos n) from low = sym (decimal_digit n (grind (arith, nat_tests, low)))
signed_digit (negsuc n) from low = cc

pub adds_digit : {a b : View} (w : Width) (n : ℤ) → FitsSigned w n → le_z (pos 0) (to_z w (of_z w n)) ≡ true → lt_z (to_z w (of_z w n)) (pos 10) ≡ true → Adds a b ((48 + nat_abs (to_z w (of_z w n))) ∷ []) → Adds a b (signed_decimal n)
adds_digit {a} {b} w n fits from low p = adds_signed w n fits (subst (Adds a b) (signed_digit (to_z w (of_z w n)) from low) p)

pub adds_number : {a b c : View} (w : Width) (n : ℤ) → FitsSigned w n → Adds a b (codes " ") → Adds b c (signed_decimal (to_z w (of_z w n))) → Adds a c (number_text n)
unfolding number_text
adds_number w n fits p q = adds_then p (adds_signed w n fits q)

-- one more of the texts f 0, f 1 .. was added
pub adds_below : {v m w : View} (f : ℕ → List ℕ) (n : ℕ) → Adds v m (texts_below n f) → Adds m w (f n) → Adds v w (texts_below (n + 1) f)
unfolding texts_below
adds_below f n p q = let e : n + 1 ≡ suc n = omega arith in rw e (adds_then p q)

-- a function made a writer for its sink, handed it a text and finished it: `same` is that the sink ends as the writer left it
pub puts_made : {K : Type 0} (held_of : K → Option (List ℕ)) (faults_of : K → ℕ) {y z : K} {u w : View} {text waiting : List ℕ} {name last : GName} {sound : Bool} {held : Option (List ℕ)} {faults : ℕ} (r : Result (Unit {0}) WriteFault)
    → (name ≡ last → y ≡ z) → u ≡ fresh name held faults → Adds u w text → Adds w (record { name = last; held = held_of z; waiting = waiting; sound = sound; faults = faults_of z }) [] → waiting ≡ [] → OnOk r (sound ≡ true) → OnErr r (sound ≡ false) → Puts held faults (held_of y) (faults_of y) text r
puts_made held_of faults_of {text = text} {held = held} {faults = faults} r same e a b n good bad = subst (λ (k : _). Puts held faults (held_of k) (faults_of k) text r) (sym (same (same_name e a b))) (puts_all r e a b n good bad)

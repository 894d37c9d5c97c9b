-- Sections that grow by a word: they are within the limits exactly where the word may stand after sections that are.
use Rattle.std.proofs.Common.{◌≡◌, ℕ, zero, suc, eqb, ◌+◌, ◌-◌, ◌≤◌, Bool, true, false, cond, List, [], ◌∷◌, ◌++◌, length, get_or, set, sum_by, count_by, sym, ap, ◌∙◌, append_assoc, arith, ◌≢◌, ◌*◌, nat_lt, Option, Some, None, refl, subst, le_refl}
use mir.Val.{bool_byte}
use Rattle.std.proofs.Math.Seq.{map-set_same, get_or-append_seam, set-append_seam}
use Rattle.std.proofs.lemmas.Grind.{flat_map-append}
use Rattle.std.proofs.lemmas.List.{length-append, append-nil, length-map, map-append, map-set, get_or-map}
use Rattle.std.proofs.lemmas.List.Concat.{length-flat_map}
use Rattle.std.proofs.lemmas.List.Sums.{sum_by-set, sum_by-append, sum_by-le-sum_by, count_by-le-length}
use Rattle.raster_model.specs.declared.script.Command.{Command}
use Rattle.raster_model.specs.declared.script.Script.{Script}
use Rattle.session_script.specs.declared.word.Word.{Word}
use Rattle.session_script.specs.declared.word.Word.TheVariants as words
use Rattle.session_script.specs.Sections.{Sections, sections_of, section_words, words_of, line_count, last_commands, with_command, Frame, settles_of, changes_of, AreWithinLimits, lies_in, limit_broken, command_broken, word_broken, with_word}
use Rattle.std.specs.Prelude.{slice_get}
use Rattle.std.specs.List.{AllByRecursion}
use Rattle.std.proofs.lemmas.Bool.{le-ltb, ltb-false, ne_eqb, not-false}
use Rattle.std.proofs.lemmas.Bool.Decides.{nat_tests}
use Rattle.std.proofs.lemmas.Nat.{mul-le}
use Rattle.raster_model.specs.declared.script.Command.TheVariants.{Change, Settle, Show}
use Rattle.raster_model.specs.declared.script.Edit.{Edit}
use Rattle.raster_model.specs.declared.script.Rect.{Rect}
use Rattle.raster_model.specs.Scripts.{is_settle, is_change, rect_of, IsRectIn, CommandsFit}
use Rattle.raster_model.proofs.ScriptLemmas.{CommandsFit-none, CommandsFit-push}
use Rattle.pgm_planes.specs.declared.fault.InputFault.{InputFault}
use Rattle.pgm_planes.specs.declared.fault.InputFault.TheVariants.{TooManyAnalysts, TooManyCommands, TooLong, NoEnd, ScriptLine, Outside, SettleLimit, EditLimit}
use Rattle.sums_and_lists.proofs.Lists.{all_push}

-- ---- sections and scripts

-- ---- words of sections

pub words_begun : (ss : Sections) → words_of (ss ++ [] ∷ []) ≡ words_of ss ++ words.Analyst ∷ []
words_begun ss = flat_map-append section_words ss ([] ∷ [])

pub words_added : (ss : Sections) (c : Command) → 1 ≤ length ss → words_of (with_command c ss) ≡ words_of ss ++ words.Command c ∷ []
words_added [] c some = absurd (omega (arith, some))
words_added (s ∷ []) c some = append-nil (section_words (s ++ c ∷ [])) ∙ ap (λ (ws : List Word). words.Analyst ∷ ws) (map-append words.Command s (c ∷ [])) ∙ ap (λ (ws : List Word). ws ++ words.Command c ∷ []) (sym (append-nil (section_words s)))
words_added (s ∷ t ∷ ss) c some =
    let place : length (s ∷ t ∷ ss) - 1 ≡ suc (length (t ∷ ss) - 1) = omega arith in
    let rest = words_added (t ∷ ss) c (omega arith) in
    rw place (ap (λ (ws : List Word). section_words s ++ ws) rest ∙ sym (append_assoc (section_words s) (words_of (t ∷ ss)) (words.Command c ∷ [])))

-- ---- counts

lines_are : (ss : Sections) → line_count ss ≡ sum_by (λ s. length (section_words s)) ss
lines_are ss = length-flat_map section_words ss

pub count_by_pushed : (test : Command → Bool) (s : List Command) (c : Command) → count_by test (s ++ c ∷ []) ≡ count_by test s + cond (test c) 1 0
count_by_pushed test s c = let e = sum_by-append (λ x. cond (test x) 1 0) s (c ∷ []) in omega (arith, e)

pub fewer : (test : Command → Bool) (ss : Sections) → sum_by (count_by test) ss ≤ line_count ss
fewer test ss = rw lines_are (sum_by-le-sum_by (count_by test) (λ s. length (section_words s)) ss (λ s. omega (arith, count_by-le-length test s, length-map s words.Command)))

-- ---- the last section

pub length_is : (scripts : List Script) → length (sections_of scripts) ≡ length scripts
length_is scripts = length-map scripts (λ script. script.commands.items)

pub not_empty : (n : ℕ) (empty : Bool) → empty ≡ eqb n 0 → empty ≡ false → 1 ≤ n
not_empty zero empty e f = absurd (let q = sym e ∙ f in cc)
not_empty (suc n) empty e f = omega arith

module _ (scripts : List Script) (s : Script) (k : ℕ) (place : k ≡ length scripts - 1) (some : 1 ≤ length scripts) where
  pub last_read : s ≡ get_or scripts k s → last_commands (sections_of scripts) ≡ s.commands.items
  last_read e =
      let here : length (sections_of scripts) - 1 ≡ k = rw length_is (sym place) in
      rw here (get_or-map (λ script. script.commands.items) scripts k s [] (omega (arith, place, some)) ∙ ap (λ (x : Script). x.commands.items) (sym e))

-- a test as the number that is added to a count
pub byte_is : (n : ℕ) (b test : Bool) → n ≡ bool_byte b → b ≡ test → n ≡ cond test 1 0
byte_is n true test e f = rw (← f) e
byte_is n false test e f = rw (← f) e

-- a command was pushed to the last script, or was not
module _ (scripts : List Script) (old new : Script) (k : ℕ) (c : Command) (place : k ≡ length scripts - 1) (some : 1 ≤ length scripts) (read : old ≡ get_or scripts k old) where
  pub sections_kept : new.commands.items ≡ old.commands.items → sections_of (set scripts k new) ≡ sections_of scripts
  sections_kept e = map-set_same (λ script. script.commands.items) scripts k new old (e ∙ ap (λ (x : Script). x.commands.items) read)

  pub sections_added : new.commands.items ≡ old.commands.items ++ c ∷ [] → sections_of (set scripts k new) ≡ with_command c (sections_of scripts)
  sections_added e =
      let here : length (sections_of scripts) - 1 ≡ k = rw length_is (sym place) in
      let last : last_commands (sections_of scripts) ≡ old.commands.items = last_read scripts old k place some read in
      rw (last, here, ← e) (map-set (λ script. script.commands.items) scripts k new)

pub lines_added : (ss : Sections) (c : Command) → 1 ≤ length ss → line_count (with_command c ss) ≡ line_count ss + 1
lines_added ss c some = ap length (words_added ss c some) ∙ length-append (words_of ss) (words.Command c ∷ [])

pub counts_added : (test : Command → Bool) (ss : Sections) (c : Command) → 1 ≤ length ss → sum_by (count_by test) (with_command c ss) ≡ sum_by (count_by test) ss + cond (test c) 1 0
counts_added test ss c some = omega (arith, sum_by-set (count_by test) ss (length ss - 1) (last_commands ss ++ c ∷ []) [] (omega (arith, some)), count_by_pushed test (last_commands ss) c)

-- ---- a word that may stand next, and its words

abbrev pub IsNext : Word → Sections → Type 0
IsNext words.Analyst ss = Unit {0}
IsNext words.End ss = ⊥
IsNext (words.Command c) ss = 1 ≤ length ss

pub words_with : (w : Word) (ss : Sections) → IsNext w ss → words_of (with_word w ss) ≡ words_of ss ++ w ∷ []
words_with words.Analyst ss n = words_begun ss
words_with words.End ss n = absurd n
words_with (words.Command c) ss n = words_added ss c n

-- ---- the last section

last_is : (front : Sections) (s : List Command) → last_commands (front ++ s ∷ []) ≡ s
last_is front s = let k : length (front ++ s ∷ []) - 1 ≡ length front = omega (arith, length-append front (s ∷ [])) in rw k (get_or-append_seam front s [] [])

with_last : (front : Sections) (s : List Command) (c : Command) → with_command c (front ++ s ∷ []) ≡ front ++ (s ++ c ∷ []) ∷ []
with_last front s c =
    let k : length (front ++ s ∷ []) - 1 ≡ length front = omega (arith, length-append front (s ∷ [])) in
    rw (last_is front s, k) (set-append_seam front s [] (s ++ c ∷ []))

split_last : (ss : Sections) → 1 ≤ length ss → (front : Sections) × (s : List Command) × (ss ≡ front ++ s ∷ [])
split_last [] some = absurd (omega (arith, some))
split_last (s ∷ []) some = ([], s, refl)
split_last (s ∷ t ∷ ss) some = let r = split_last (t ∷ ss) (omega arith) in (s ∷ r.0, r.1, ap (λ (x : Sections). s ∷ x) r.2)

-- what holds of no sections, and of one word more, holds of all
module _ (P : Sections → Type 0) (step : (w : Word) (ss : Sections) → IsNext w ss → P ss → P (with_word w ss)) where
  command_by_command : (front : Sections) (s cs : List Command) → P (front ++ s ∷ []) → P (front ++ (s ++ cs) ∷ [])
  command_by_command front s [] p = rw append-nil p
  command_by_command front s (c ∷ cs) p =
      let next = subst P (with_last front s c) (step (words.Command c) (front ++ s ∷ []) (omega (arith, length-append front (s ∷ []))) p) in
      subst (λ (t : List Command). P (front ++ t ∷ [])) (append_assoc s (c ∷ []) cs) (command_by_command front (s ++ c ∷ []) cs next)

  pub word_by_word : (front ss : Sections) → P front → P (front ++ ss)
  word_by_word front [] p = rw append-nil p
  word_by_word front (s ∷ ss) p = subst P (append_assoc front (s ∷ []) ss) (word_by_word (front ++ s ∷ []) ss (command_by_command front [] s (step words.Analyst front tt p)))

-- ---- commands that fit

all_parts : {A : Type 0} (P : A → Type 0) (xs : List A) (y : A) → AllByRecursion P (xs ++ y ∷ []) → AllByRecursion P xs × P y
all_parts P [] y a = (tt, a.0)
all_parts P (x ∷ xs) y a = let r = all_parts P xs y a.1 in ((a.0, r.0), r.1)

get_front : (cs : List Command) (c d : Command) (k : ℕ) → slice_get cs k ≡ Some d → slice_get (cs ++ c ∷ []) k ≡ Some d
get_front [] c d k e = absurd cc
get_front (x ∷ cs) c d zero e = e
get_front (x ∷ cs) c d (suc k) e = get_front cs c d k e

get_last : (cs : List Command) (c : Command) → slice_get (cs ++ c ∷ []) (length cs) ≡ Some c
get_last [] c = refl
get_last (x ∷ cs) c = get_last cs c

unless : (b : Bool) (fault : InputFault) (o : Option InputFault) → cond b (Some fault) o ≡ None → (b ≡ false) × (o ≡ None)
unless true fault o e = absurd cc
unless false fault o e = (refl, e)

lies : (f : Frame) (r : Rect) → lies_in f r ≡ true → IsRectIn f.width f.height r
lies f r e = grind (arith, nat_tests, e)

lies_again : (f : Frame) (r : Rect) → IsRectIn f.width f.height r → lies_in f r ≡ true
lies_again f r i = grind (arith, nat_tests, i)

counted : (test : Command → Bool) (front : Sections) (s : List Command) → sum_by (count_by test) (front ++ s ∷ []) ≡ sum_by (count_by test) front + count_by test s
counted test front s = let e = sum_by-append (count_by test) front (s ∷ []) in omega (arith, e)

counted_more : (test : Command → Bool) (front : Sections) (s : List Command) (c : Command) → sum_by (count_by test) (front ++ (s ++ c ∷ []) ∷ []) ≡ sum_by (count_by test) (front ++ s ∷ []) + cond (test c) 1 0
counted_more test front s c = omega (arith, counted test front s, counted test front (s ++ c ∷ []), count_by_pushed test s c)

module _ (f : Frame) (n : ℕ) where
  -- what a command asks of sections
  record Fits (ss : Sections) (c : Command) : Type 0 where
    pub rect : (edit : Edit) → c ≡ Change edit → IsRectIn f.width f.height (rect_of edit)
    pub settles : (settles_of ss + cond (is_settle c) 1 0) * f.settled ≤ 67108864
    pub changes : (changes_of ss + cond (is_change c) 1 0) * f.changed ≤ 16777216

  fits_so : (ss : Sections) (c : Command) → AreWithinLimits f ss → limit_broken f n ss c ≡ None → Fits ss c
  fits_so ss (Change edit) within e =
      let inside = lies f (rect_of edit) (not-false (lies_in f (rect_of edit)) (unless _ _ _ e).0) in
      record { rect = λ other is. (let one : edit ≡ other = cc in rw (← one) inside); settles = grind (arith, within.settles); changes = ltb-false 16777216 _ (unless _ _ _ (unless _ _ _ e).1).0 }
  fits_so ss Settle within e = record { rect = λ other is. absurd cc; settles = ltb-false 67108864 _ (unless _ _ _ e).0; changes = grind (arith, within.changes) }
  fits_so ss Show within e = record { rect = λ other is. absurd cc; settles = grind (arith, within.settles); changes = grind (arith, within.changes) }

  fits_back : (ss : Sections) (c : Command) → Fits ss c → limit_broken f n ss c ≡ None
  fits_back ss (Change edit) p = rw (lies_again f (rect_of edit) (p.rect edit refl), le-ltb 16777216 ((changes_of ss + 1) * f.changed) p.changes) refl
  fits_back ss Settle p = rw (le-ltb 67108864 ((settles_of ss + 1) * f.settled) p.settles) refl
  fits_back ss Show p = refl

  -- ---- one command more in the last section

  module _ (front : Sections) (s : List Command) (c : Command) where
    abbrev old : Sections
    old = front ++ s ∷ []

    abbrev new : Sections
    new = front ++ (s ++ c ∷ []) ∷ []

    adds_command : AreWithinLimits f old → length s ≤ 4095 → Fits old c → AreWithinLimits f new
    adds_command within room fits =
        let short = all_parts (λ commands. length commands ≤ 4096) front s within.short in
        let inside = all_parts (CommandsFit f.width f.height) front s within.inside in
        record {
          analysts = omega (arith, within.analysts, length-append front (s ∷ []), length-append front ((s ++ c ∷ []) ∷ []));
          short = all_push (λ commands. length commands ≤ 4096) front (s ++ c ∷ []) short.0 (omega (arith, room, length-append s (c ∷ [])));
          inside = all_push (CommandsFit f.width f.height) front (s ++ c ∷ []) inside.0 (CommandsFit-push f.width f.height s c inside.1 fits.rect);
          settles = rw (counted_more is_settle front s c) fits.settles;
          changes = rw (counted_more is_change front s c) fits.changes;
        }

    takes_command : AreWithinLimits f new → AreWithinLimits f old × (length s ≤ 4095) × Fits old c
    takes_command within =
        let short = all_parts (λ (commands : List Command). length commands ≤ 4096) front (s ++ c ∷ []) within.short in
        let inside = all_parts (CommandsFit f.width f.height) front (s ++ c ∷ []) within.inside in
        let settles = rw (counted_more is_settle front s c) at within.settles in
        let changes = rw (counted_more is_change front s c) at within.changes in
        let room : length s ≤ 4095 = omega (arith, short.1, length-append s (c ∷ [])) in (
          record {
            analysts = omega (arith, within.analysts, length-append front (s ∷ []), length-append front ((s ++ c ∷ []) ∷ []));
            short = all_push (λ commands. length commands ≤ 4096) front s short.0 (omega (arith, room));
            inside = all_push (CommandsFit f.width f.height) front s inside.0 (λ k edit e. inside.1 k edit (get_front s c (Change edit) k e));
            settles = omega (arith, settles, mul-le (settles_of old) f.settled (settles_of old + cond (is_settle c) 1 0) f.settled (omega arith) (le_refl f.settled));
            changes = omega (arith, changes, mul-le (changes_of old) f.changed (changes_of old + cond (is_change c) 1 0) f.changed (omega arith) (le_refl f.changed));
          },
          room,
          record { rect = λ edit is. inside.1 (length s) edit (get_last s c ∙ ap (λ (x : Command). Some x) is); settles = settles; changes = changes },
        )

    adds_last : (ss : Sections) → ss ≡ old → AreWithinLimits f ss → command_broken f n ss c ≡ None → AreWithinLimits f (with_command c ss)
    adds_last ss is within e =
        let begun : command_broken f n old c ≡ None = rw is at e in
        let room = unless (nat_lt 4095 (length (last_commands old))) (TooManyCommands n) (limit_broken f n old c) (unless _ _ _ begun).1 in
        rw (is, with_last front s c) (adds_command (rw is at within) (ltb-false 4095 (length s) (rw (last_is front s) at room.0)) (fits_so old c (rw is at within) room.1))

    takes_last : (ss : Sections) → ss ≡ old → AreWithinLimits f (with_command c ss) → AreWithinLimits f ss × (command_broken f n ss c ≡ None)
    takes_last ss is within =
        let t = takes_command (rw (is, with_last front s c) at within) in
        rw is (t.0, rw (ne_eqb (length old) 0 (λ e. omega (arith, e, length-append front (s ∷ []))), last_is front s, le-ltb 4095 (length s) t.1) (fits_back old c t.2))

  -- ---- one word more

  module _ (ss : Sections) where
    none_more : (test : Command → Bool) → sum_by (count_by test) (ss ++ [] ∷ []) ≡ sum_by (count_by test) ss
    none_more test = let e = counted test ss [] in omega (arith, e)

    begins_section : AreWithinLimits f ss → length ss ≤ 7 → AreWithinLimits f (ss ++ [] ∷ [])
    begins_section within room = record {
      analysts = omega (arith, room, length-append ss ([] ∷ []));
      short = all_push (λ commands. length commands ≤ 4096) ss [] within.short (omega arith);
      inside = all_push (CommandsFit f.width f.height) ss [] within.inside (CommandsFit-none f.width f.height);
      settles = rw (none_more is_settle) within.settles;
      changes = rw (none_more is_change) within.changes;
    }

    begun_before : AreWithinLimits f (ss ++ [] ∷ []) → AreWithinLimits f ss
    begun_before within = record {
      analysts = omega (arith, within.analysts, length-append ss ([] ∷ []));
      short = (all_parts (λ (commands : List Command). length commands ≤ 4096) ss [] within.short).0;
      inside = (all_parts (CommandsFit f.width f.height) ss [] within.inside).0;
      settles = rw (← none_more is_settle) within.settles;
      changes = rw (← none_more is_change) within.changes;
    }

  pub adds_word : (w : Word) (ss : Sections) → AreWithinLimits f ss → w ≢ words.End → word_broken f n ss w ≡ None → IsNext w ss × AreWithinLimits f (with_word w ss)
  adds_word words.Analyst ss within other e = (tt, begins_section ss within (ltb-false 7 (length ss) (unless (nat_lt 7 (length ss)) (TooManyAnalysts n) None e).0))
  adds_word words.End ss within other e = absurd (other refl)
  adds_word (words.Command c) ss within other e =
      let some = not_empty (length ss) (eqb (length ss) 0) refl (unless _ _ _ e).0 in
      let l = split_last ss some in
      (some, adds_last l.0 l.1 c ss l.2 within e)

  pub takes_word : (w : Word) (ss : Sections) → IsNext w ss → AreWithinLimits f (with_word w ss) → AreWithinLimits f ss × (word_broken f n ss w ≡ None)
  takes_word words.Analyst ss next within = (begun_before ss within, rw (le-ltb 7 (length ss) (omega (arith, within.analysts, length-append ss ([] ∷ [])))) refl)
  takes_word words.End ss next within = absurd next
  takes_word (words.Command c) ss next within = let l = split_last ss next in takes_last l.0 l.1 c ss l.2 within

-- ---- how many lines they have

words_few : (ss : Sections) → AllByRecursion (λ (commands : List Command). length commands ≤ 4096) ss → length (words_of ss) ≤ 4097 * length ss
words_few [] a = omega arith
words_few (s ∷ ss) a = omega (arith, words_few ss a.1, a.0, length-append (section_words s) (words_of ss), length-map s words.Command)

pub few_lines : (f : Frame) (ss : Sections) → AreWithinLimits f ss → line_count ss ≤ 32776
few_lines f ss within = omega (arith, words_few ss within.short, within.analysts)

pub none_within : (f : Frame) → AreWithinLimits f []
none_within f = record { analysts = omega arith; short = tt; inside = tt; settles = omega arith; changes = omega arith }

-- ---- no word is refused with a fault that is met at an end

-- the faults that are met at an end: of the input, or of what the limit lets out
abbrev pub is_at_end : InputFault → Bool
is_at_end TooLong = true
is_at_end NoEnd = true
is_at_end fault = false

abbrev IsElsewhere : Option InputFault → Type 0
IsElsewhere o = (e : InputFault) → o ≡ Some e → is_at_end e ≡ false

nowhere : IsElsewhere None
nowhere e q = absurd cc

if_told : (b : Bool) (fault : InputFault) (o : Option InputFault) → is_at_end fault ≡ false → IsElsewhere o → IsElsewhere (cond b (Some fault) o)
if_told true fault o f n e q = let same : fault ≡ e = cc in rw (← same) f
if_told false fault o f n e q = n e q

limit_never : (f : Frame) (n : ℕ) (ss : Sections) (c : Command) → IsElsewhere (limit_broken f n ss c)
limit_never f n ss (Change edit) = if_told _ (Outside n) _ refl (if_told _ (EditLimit n) None refl nowhere)
limit_never f n ss Settle = if_told _ (SettleLimit n) None refl nowhere
limit_never f n ss Show = nowhere

pub word_never : (f : Frame) (n : ℕ) (ss : Sections) (w : Word) → IsElsewhere (word_broken f n ss w)
word_never f n ss words.Analyst = if_told _ (TooManyAnalysts n) None refl nowhere
word_never f n ss words.End = nowhere
word_never f n ss (words.Command c) = if_told _ (ScriptLine n) _ refl (if_told _ (TooManyCommands n) _ refl (limit_never f n ss c))

-- The walk of clap over words in plain form: each word is taken, and each value becomes a row.
use Rattle.std.proofs.Common.{◌≡◌, ◌∙◌, ◌&&◌, ◌||◌, ℕ, Bool, cond, true, false, not, suc, refl, sym, ap, ap₂, subst, List, [], ◌∷◌, ◌++◌, append_assoc, append-nil, map, Option, Some, None, codes}
use Rattle.std.specs.Prelude.{◌==◌}
use Rattle.std.specs.List.{fold}
use Rattle.std.specs.Option.{option_map_or}
use Rattle.std.specs.Str.{bytes_eq}
use Rattle.std.proofs.lemmas.Bool.{and_parts, or_parts}
use Rattle.std.proofs.lemmas.List.Folds.{list_any-append}
use Rattle.std.proofs.lemmas.Slice.Eq.{bytes_eq-Decides}
use Rattle.clap.specs.Facts.{parser_of_value, unwrap_or_range}
use Rattle.clap.specs.Faults.{action_fault, positional_fault, repeat_fault, settle_fault, turn_fault, use_fault, walk_fault}
use Rattle.clap.specs.Kinds.{Kinds, or_else, range_kinds, value_kinds}
use Rattle.clap.specs.Values.{reading_of}
use Rattle.clap.specs.ValueTests.{accepts}
use Rattle.clap.specs.Walk.{Held, Row, Rule, Step, Text, Walk, after_step, arg_by_id, has_row, idle, is_pending, most_values, next_position, nothing_held, option, positional, positional_held, pushed, settled, takes_several, takes_values, to_positional, used_as, used_by_id, value as to_place, walked, word_met}
use Rattle.clap.specs.declared.builder.ArgAction.{ArgAction}
use Rattle.clap.specs.declared.builder.value_parser.ValueParser.{ValueParser}
use Rattle.clap.specs.declared.parser.matches.ValueSource.{ValueSource}
use Rattle.clap.specs.declared.parser.matches.ValueSource.TheVariants.{CommandLine}
use Rattle.insar_words.specs.Forms.{Argument, CommandForm, Each, Value, word_of}
use Rattle.insar_words.specs.PlainForms.{EachOnce, IsUnset, Setting, are_values, pairs}
use Rattle.insar_words.proofs.FormLemmas.{ArePlaced, IsOption, Owns, rule_for}
use Rattle.insar_words.proofs.TakenLemmas.{leaf, row_with, used_once, whole}
use Rattle.insar_words.proofs.ValueLemmas.{IsRead, other_bytes, value_row}

-- ---- arguments with their values

abbrev pub Choice : Type 0
Choice = Argument × Value

abbrev pub setting_of : Choice → Setting
setting_of x = (x.0.id, x.1)

abbrev pub given : Choice → Row
given x = value_row x.0 CommandLine x.1

-- the values of positionals
abbrev pub zipped : List Argument → List Value → List Choice
zipped (a ∷ rest) (v ∷ values) = (a, v) ∷ zipped rest values
zipped positionals values = []

-- choices whose names have no rows yet
abbrev AreNew : List Row → List Choice → Type 0
AreNew rows xs = Each (λ x. has_row x.0.id rows ≡ false) xs

new_after : (x : Choice) (rows : List Row) (xs : List Choice) → AreNew rows xs → IsUnset x.0.id (map setting_of xs) → AreNew (rows ++ given x ∷ []) xs
new_after x rows [] new unset = tt
new_after x rows (y ∷ ys) new unset = (
  list_any-append (λ (r : Row). bytes_eq r.id y.0.id) rows (given x ∷ []) ∙ ap₂ (λ (a b : Bool). a || (b || false)) new.0 (other_bytes x.0.id y.0.id (λ e. unset.0 (sym e))),
  new_after x rows ys new.1 unset.1,
)

all_new : (xs : List Choice) → AreNew [] xs
all_new [] = tt
all_new (x ∷ xs) = (refl, all_new xs)

-- a row that clap makes of an argument's rule is the argument's
pub row_is : (c : List Rule) (a : Argument) (source : ValueSource) (v : Value) → Owns c a → row_with (rule_for c a) source (word_of v ∷ []) ≡ value_row a source v
row_is c a source v o = ap₂ (λ (id : Text) (p : ValueParser). let r : Row = record { id = id; values = word_of v ∷ []; count = None; source = Some source; reading = reading_of p } in r) o.named o.parser

module _ (form : CommandForm) where
  abbrev c : List Rule
  c = whole form

  -- ---- what is held while words are given

  -- the value may be given for the argument
  abbrev pub MayGive : Choice → Type 0
  MayGive x = Owns c x.0 × IsRead x.0.takes x.1

  -- the walk between two arguments
  abbrev standing : ℕ → Held → Walk
  standing position h = record { held = h; waiting = idle; position = position; is_trailing = false; stopped = None }

  -- one value more waits to be used
  abbrev holding : Choice → Held → Held
  holding x h = record { rows = (settled c h).rows; pending = Some ((rule_for c x.0).id, word_of x.1 ∷ []); skip = h.skip }

  -- what is held makes these rows, and passes
  pub record Stands (h : Held) (rows : List Row) : Type 0 where
    pub rows_are : (settled c h).rows ≡ rows
    pub passes : settle_fault c false h ≡ []

  -- a rule by its own name
  own : (a : Argument) → Owns c a → arg_by_id c (rule_for c a).id ≡ Some (rule_for c a)
  own a o = ap (arg_by_id c) o.named ∙ o.found

  use_passes : (x : Choice) (rows : List Row) → MayGive x → has_row (rule_for c x.0).id rows ≡ false → use_fault false (rule_for c x.0) (word_of x.1 ∷ []) rows ≡ []
  use_passes x rows may new =
      let a = rule_for c x.0 in
      let accepted : accepts a.ignore_case (parser_of_value a.parser) (word_of x.1) ≡ true = ap₂ (λ (b : Bool) (p : ValueParser). accepts b p (word_of x.1)) may.0.exact may.0.parser ∙ may.1.passes in
      let count : range_kinds (unwrap_or_range a.range).start_inclusive (most_values a) 1 ≡ [] = rw (may.0.least, may.0.most) refl in
      let unused : repeat_fault false a.id rows ≡ [] = rw new refl in
      let valued : value_kinds a.ignore_case (parser_of_value a.parser) (word_of x.1) ≡ [] = rw accepted refl in
      ap₂ or_else count (ap (λ (act : ArgAction). action_fault act false a (word_of x.1 ∷ []) rows) may.0.sets ∙ ap₂ (λ (k l : Kinds). or_else k (or_else l [])) unused valued)

  given_stands : (x : Choice) (h : Held) (rows : List Row) → MayGive x → Stands h rows → has_row x.0.id rows ≡ false → Stands (holding x h) (rows ++ given x ∷ [])
  given_stands x h rows may stands new =
      let a = rule_for c x.0 in
      let found : has_row a.id (settled c h).rows ≡ false = ap₂ has_row may.0.named stands.rows_are ∙ new in
      record {
        rows_are =
            ap (λ (o : Option Rule). used_by_id o (word_of x.1 ∷ []) (settled c h).rows) (own x.0 may.0)
            ∙ ap (λ (act : ArgAction). used_as act a.id (reading_of (parser_of_value a.parser)) (word_of x.1 ∷ []) (settled c h).rows) may.0.sets
            ∙ used_once a (word_of x.1) (settled c h).rows found
            ∙ ap₂ (λ (rs : List Row) (r : Row). rs ++ r ∷ []) stands.rows_are (row_is c x.0 CommandLine x.1 may.0);
        passes = ap (λ (o : Option Rule). option_map_or (λ b. use_fault false b (word_of x.1 ∷ []) (settled c h).rows) o []) (own x.0 may.0) ∙ use_passes x (settled c h).rows may found;
      }

  -- ---- one value more

  -- by these words, from a place to a place
  record Gives (i : ℕ) (words : List Text) (x : Choice) (j : ℕ) : Type 0 where
    walk_is : (h : Held) (rest : List Text) → fold (walked c []) (standing i h) (words ++ rest) ≡ fold (walked c []) (standing j (holding x h)) rest
    passes : (h : Held) (rest : List Text) → settle_fault c false h ≡ [] → walk_fault (leaf form) [] (standing i h) (words ++ rest) ≡ walk_fault (leaf form) [] (standing j (holding x h)) rest

  -- after the name of an option
  abbrev awaiting : Argument → ℕ → Held → Walk
  awaiting a position h =
      record { held = (let k : Held = record (settled c h) { pending = Some ((rule_for c a).id, []) } in k); waiting = option (rule_for c a).id; position = position; is_trailing = false; stopped = None }

  module _ (position : ℕ) (x : Choice) (may : MayGive x) where
    abbrev a : Rule
    a = rule_for c x.0

    same_bytes : bytes_eq a.id a.id ≡ true
    same_bytes = (bytes_eq-Decides a.id a.id).1 refl

    takes : takes_values a ≡ true
    takes = ap (λ (n : ℕ). not (n == 0)) may.0.most

    name_walked : (h : Held) → IsOption form x.0 → walked c [] (standing position h) (45 ∷ 45 ∷ x.0.id) ≡ awaiting x.0 position h
    unfolding walked
    name_walked h long = rw (long.no_dashes, long.long, long.found, takes) refl

    name_passes : (h : Held) → IsOption form x.0 → settle_fault c false h ≡ [] → turn_fault (leaf form) [] (standing position h) (45 ∷ 45 ∷ x.0.id) ≡ []
    name_passes h long settles = rw (long.no_dashes, long.long, long.found, takes, settles) refl

    value_walked : (h : Held) → walked c [] (awaiting x.0 position h) (word_of x.1) ≡ standing position (holding x h)
    unfolding walked
    value_walked h = rw (may.1.word.no_dashes, may.1.word.no_long, may.1.word.no_short, own x.0 may.0, same_bytes, may.0.most) refl

    value_passes : (h : Held) → turn_fault (leaf form) [] (awaiting x.0 position h) (word_of x.1) ≡ []
    value_passes h = rw (may.1.word.no_dashes, may.1.word.no_long, may.1.word.no_short) refl

    pair_gives : IsOption form x.0 → Gives position ((codes "--" ++ x.0.id) ∷ word_of x.1 ∷ []) x position
    unfolding walk_fault
    pair_gives long = record {
      walk_is = λ h rest.
          ap (λ (w : Walk). fold (walked c []) (walked c [] w (word_of x.1)) rest) (name_walked h long) ∙ ap (λ (w : Walk). fold (walked c []) w rest) (value_walked h);
      passes = λ h rest settles.
          ap₂ or_else (name_passes h long settles)
          (ap (λ (w : Walk). or_else (turn_fault (leaf form) [] w (word_of x.1)) (walk_fault (leaf form) [] (walked c [] w (word_of x.1)) rest)) (name_walked h long)
          ∙ ap₂ or_else (value_passes h) (ap (λ (w : Walk). walk_fault (leaf form) [] w rest) (value_walked h)));
    }

    -- what is held before a word that goes to its place
    unsure : {X : Type 0} (y z : X) (h : Held) → cond (is_pending a h.pending && takes_several a) y z ≡ z
    unsure y z h = go (is_pending a h.pending) (or_parts (takes_several a) _ may.0.single).0
      where
        go : (b : Bool) → takes_several a ≡ false → cond (b && takes_several a) y z ≡ z
        go true e = ap (λ (t : Bool). cond t y z) e
        go false e = refl

    value_met : (h : Held) → word_met c [] false idle position (word_of x.1) h ≡ (h, to_place)
    value_met h = rw (may.1.word.no_dashes, may.1.word.no_long, may.1.word.no_short) refl

    module _ (rest : List Argument) (placed : ArePlaced c position (x.0 ∷ rest)) where
      next : next_position a position ≡ suc position
      next = rw may.0.single placed.0.1

      positional_walked : (h : Held) → walked c [] (standing position h) (word_of x.1) ≡ standing (suc position) (holding x h)
      unfolding walked
      positional_walked h =
          let held : positional_held c a (word_of x.1) h ≡ holding x h = ap (λ (k : Held). pushed a.id (word_of x.1) k) (unsure h (settled c h) h) in
          let w = standing position h in
          ap (λ (m : Held × Step). after_step c (word_of x.1) w m.0 m.1) (value_met h)
          ∙ ap (λ (o : Option Rule). to_positional c o (word_of x.1) w h) placed.0.0
          ∙ (λ i. record { held = held i; waiting = cond (may.0.single i) positional idle; position = next i; is_trailing = may.0.closed i; stopped = None })

      positional_passes : (h : Held) → settle_fault c false h ≡ [] → turn_fault (leaf form) [] (standing position h) (word_of x.1) ≡ []
      positional_passes h settles =
          let kept : positional_fault c false a h ≡ [] = unsure [] (settle_fault c false h) h ∙ settles in
          rw (may.1.word.no_dashes, may.1.word.no_long, may.1.word.no_short, placed.0.0, kept) refl

      word_gives : Gives position (word_of x.1 ∷ []) x (suc position)
      unfolding walk_fault
      word_gives = record {
        walk_is = λ h more. ap (λ (w : Walk). fold (walked c []) w more) (positional_walked h);
        passes = λ h more settles. ap₂ or_else (positional_passes h settles) (ap (λ (w : Walk). walk_fault (leaf form) [] w more) (positional_walked h));
      }

  -- ---- the walk

  -- words are taken, and leave rows
  pub record Walks (i : ℕ) (h : Held) (rows : List Row) (words : List Text) (xs : List Choice) : Type 0 where
    pub place : ℕ
    pub end : Held
    pub walk_is : fold (walked c []) (standing i h) words ≡ standing place end
    pub passes : walk_fault (leaf form) [] (standing i h) words ≡ []
    pub stands : Stands end (rows ++ map given xs)

  walks_on : (i j : ℕ) (h : Held) (rows : List Row) (words rest : List Text) (x : Choice) (xs : List Choice) → Gives i words x j → settle_fault c false h ≡ [] → Walks j (holding x h) (rows ++ given x ∷ []) rest xs → Walks i h rows (words ++ rest) (x ∷ xs)
  walks_on i j h rows words rest x xs gives settles w = record {
    place = w.place;
    end = w.end;
    walk_is = gives.walk_is h rest ∙ w.walk_is;
    passes = gives.passes h rest settles ∙ w.passes;
    stands = subst (Stands w.end) (append_assoc rows (given x ∷ []) (map given xs)) w.stands;
  }

  walks_pairs : (i : ℕ) (xs : List Choice) (h : Held) (rows : List Row) → Stands h rows → AreNew rows xs → EachOnce (map setting_of xs) → Each MayGive xs → Each (λ x. IsOption form x.0) xs → Walks i h rows (pairs (map setting_of xs)) xs
  unfolding walk_fault
  walks_pairs i [] h rows stands new each may are = record { place = i; end = h; walk_is = refl; passes = refl; stands = subst (Stands h) (sym (append-nil rows)) stands }
  walks_pairs i (x ∷ xs) h rows stands new each may are =
      walks_on i i h rows _ (pairs (map setting_of xs)) x xs (pair_gives i x may.0 are.0) stands.passes
      (walks_pairs i xs (holding x h) (rows ++ given x ∷ []) (given_stands x h rows may.0 stands new.0) (new_after x rows xs new.1 each.0) each.1 may.1 are.1)

  walks_from : (i : ℕ) (ps : List Argument) (values : List Value) (xs : List Choice) (h : Held) (rows : List Row) → ArePlaced c i ps → are_values ps values ≡ true → Stands h rows → AreNew rows (zipped ps values ++ xs)
      → EachOnce (map setting_of (zipped ps values ++ xs)) → Each MayGive (zipped ps values ++ xs) → Each (λ x. IsOption form x.0) xs → Walks i h rows (map word_of values ++ pairs (map setting_of xs)) (zipped ps values ++ xs)
  walks_from i [] [] xs h rows placed fit stands new each may are = walks_pairs i xs h rows stands new each may are
  walks_from i (p ∷ ps) (v ∷ values) xs h rows placed fit stands new each may are =
      walks_on i (suc i) h rows (word_of v ∷ []) (map word_of values ++ pairs (map setting_of xs)) (p, v) (zipped ps values ++ xs) (word_gives i (p, v) may.0 ps placed) stands.passes
      (walks_from (suc i) ps values xs (holding (p, v) h) (rows ++ given (p, v) ∷ []) placed.1 (and_parts _ _ fit).1 (given_stands (p, v) h rows may.0 stands new.0) (new_after (p, v) rows (zipped ps values ++ xs) new.1 each.0) each.1 may.1 are)
  walks_from i ps values xs h rows placed fit stands new each may are = absurd cc

  pub walks_all : (values : List Value) (xs : List Choice) → ArePlaced c 1 form.positionals → are_values form.positionals values ≡ true → EachOnce (map setting_of (zipped form.positionals values ++ xs)) → Each MayGive (zipped form.positionals values ++ xs)
      → Each (λ x. IsOption form x.0) xs → Walks 1 nothing_held [] (map word_of values ++ pairs (map setting_of xs)) (zipped form.positionals values ++ xs)
  walks_all values xs placed fit each may are = walks_from 1 form.positionals values xs nothing_held [] placed fit (record { rows_are = refl; passes = refl }) (all_new (zipped form.positionals values ++ xs)) each may are

-- What clap holds at the end of a level at which it finds no fault: each argument's value passed its parser.
use Rattle.std.proofs.Common.{◌≡◌, ◌∙◌, ◌&&◌, ℕ, Bool, cond, true, false, zero, suc, refl, sym, ap, subst, List, [], ◌∷◌, ◌++◌, append-nil, arith, length, drop, map, Option, Some, None, is_some}
use Rattle.std.specs.Prelude.{⊤, encode_utf8, slice_get}
use Rattle.std.specs.List.{find, fold}
use Rattle.std.specs.Option.{option_map_or, option_or}
use Rattle.std.specs.Str.{bytes_eq, chars}
use Rattle.std.proofs.lemmas.List.Folds.{find-append}
use Rattle.std.proofs.lemmas.Slice.Eq.{bytes_eq-Decides}
use Rattle.clap.specs.Facts.{parser_of_value, unwrap_or_range}
use Rattle.clap.specs.Faults.{action_fault, bundle_step_fault, bundle_fault, check_fault, flag_word_fault, flags_fault, level_fault, long_fault, option_fault, other_fault, positional_fault, react_fault, repeat_fault, settle_fault, short_fault, step_fault, stray_fault, turn_fault, use_fault, walk_fault, word_fault}
use Rattle.clap.specs.Kinds.{Kinds, or_else, range_kinds}
use Rattle.clap.specs.Lexer.{long_of, short_of}
use Rattle.clap.specs.Simple.{Shape, filled_from, help_rule, new_shape}
use Rattle.clap.specs.ValueTests.{accepts}
use Rattle.clap.specs.Walk.{Held, Outcome, Row, Rule, Step, Text, Waiting, Walk, action_of, after_flag, after_step, arg_by_id, arg_by_index, arg_by_long, arg_by_short, at_row, attached_value, bundle, bundle_met, bundle_step, default_rows, done, flag_met, has_row, idle, is_pending, long_met, long_or_other, more_values, most_values, nothing_held, option, option_met, option_word, plain, plain_word, positional, reacted, reading_by, rows_after, settled, settled_rows, short_met, short_or_plain, subcommand_or_other, takes_several, takes_values, to_positional, trailing, used_as, used_by_id, value, values_or_missing, waits, walk, walk_from, walked, walked_from, with_default, with_values, without, word_met}
use Rattle.clap.specs.declared.builder.ArgAction.{ArgAction}
use Rattle.clap.specs.declared.builder.ArgAction.TheVariants.{Help, Set}
use Rattle.clap.specs.declared.error.kind.ErrorKind.{ErrorKind}
use Rattle.clap.specs.declared.error.kind.ErrorKind.TheVariants as kind
use Rattle.clap.specs.declared.parser.matches.ValueSource.{ValueSource}
use Rattle.clap.specs.declared.parser.matches.ValueSource.TheVariants.{CommandLine, DefaultValue}
use Rattle.insar_words.specs.Forms.{CommandForm, Each}
use Rattle.insar_words.specs.Stated.{option_rule, positional_rule}

-- ---- lists

-- one that is found passes, and has what each has
pub found_each : {X : Type 0} (P : X → Type 0) (p : X → Bool) (xs : List X) (x : X) → Each P xs → find p xs ≡ Some x → P x × (p x ≡ true)
found_each P p [] x each e = absurd cc
found_each {X} P p (y ∷ xs) x each e = go (p y) refl e (found_each P p xs x each.1)
  where
    go : (b : Bool) → p y ≡ b → cond b (Some y) (find p xs) ≡ Some x → (find p xs ≡ Some x → P x × (p x ≡ true)) → P x × (p x ≡ true)
    go true is h rest = let same : y ≡ x = cc in subst (λ (z : X). P z × (p z ≡ true)) same (each.0, is)
    go false is h rest = rest h

pub each_append : {X : Type 0} (P : X → Type 0) (xs ys : List X) → Each P xs → Each P ys → Each P (xs ++ ys)
each_append P [] ys a b = b
each_append P (x ∷ xs) ys a b = (a.0, each_append P xs ys a.1 b)

pub not_nil : (k : ErrorKind) (ks : Kinds) → k ∷ ks ≡ [] → ⊥
not_nil k ks e = cc

pub neither : (a b : Kinds) → or_else a b ≡ [] → (a ≡ []) × (b ≡ [])
neither [] b e = (refl, e)
neither (k ∷ ks) b e = absurd cc

pub passed : (b : Bool) (k : ErrorKind) (ks : Kinds) → cond b [] (k ∷ ks) ≡ [] → b ≡ true
passed true k ks e = refl
passed false k ks e = absurd cc

-- ---- rows

-- the row of an id
abbrev pub row_at : Text → List Row → Option Row
row_at id rows = find (λ r. bytes_eq r.id id) rows

pub has_row_is : (id : Text) (rows : List Row) → has_row id rows ≡ is_some (row_at id rows)
has_row_is id [] = refl
has_row_is id (r ∷ rows) = let rest = has_row_is id rows in grind arith

at_none : (id : Text) (change : Row → List Row) (missing : List Row) (rows : List Row) → has_row id rows ≡ false → at_row id change missing rows ≡ rows ++ missing
at_none id change missing [] e = refl
at_none id change missing (r ∷ rows) e = let rest = at_none id change missing rows in grind arith

-- the row of an argument with these values
abbrev pub row_with : Rule → ValueSource → List Text → Row
row_with a source values = record { id = a.id; values = values; count = None; source = Some source; reading = reading_by a }

pub used_once : (a : Rule) (v : Text) (rows : List Row) → has_row a.id rows ≡ false → used_as Set a.id (reading_by a) (v ∷ []) rows ≡ rows ++ row_with a CommandLine (v ∷ []) ∷ []
used_once a v rows new =
    let kept : without a.id rows ≡ rows = at_none a.id (λ _. []) [] rows new ∙ append-nil rows in
    ap (with_values a.id (reading_by a) CommandLine (v ∷ [])) kept ∙ at_none a.id (more_values CommandLine (v ∷ [])) (row_with a CommandLine (v ∷ []) ∷ []) rows new

-- ---- defaults

-- the row that a default makes where the argument has none
abbrev made : Rule → List Text → Bool → List Row
made a values true = []
made a [] false = []
made a (v ∷ vs) false = row_with a DefaultValue (v ∷ vs) ∷ []

default_is : (a : Rule) (rows : List Row) → with_default rows a ≡ rows ++ made a a.defaults (has_row a.id rows)
default_is a rows = go (has_row a.id rows) a.defaults refl
  where
    go : (b : Bool) (values : List Text) → has_row a.id rows ≡ b → cond b rows (default_rows a.id (reading_by a) values rows) ≡ rows ++ made a values b
    go true values has = sym (append-nil rows)
    go false [] new = sym (append-nil rows)
    go false (v ∷ vs) new = at_none a.id (more_values DefaultValue (v ∷ vs)) (row_with a DefaultValue (v ∷ vs) ∷ []) rows new

default_at : (id : Text) (a : Rule) (rows : List Row) → row_at id (with_default rows a) ≡ option_or (row_at id rows) (row_at id (made a a.defaults (has_row a.id rows)))
default_at id a rows = ap (row_at id) (default_is a rows) ∙ find-append (λ (r : Row). bytes_eq r.id id) rows (made a a.defaults (has_row a.id rows))

-- a row that there is stays
pub stays : (id : Text) (c : List Rule) (rows : List Row) (r : Row) → row_at id rows ≡ Some r → row_at id (fold with_default rows c) ≡ Some r
stays id [] rows r e = e
stays id (a ∷ c) rows r e = stays id c (with_default rows a) r (default_at id a rows ∙ ap (λ (o : Option Row). option_or o (row_at id (made a a.defaults (has_row a.id rows)))) e)

-- and where there is none comes that of the default
pub default_from : (id : Text) (a : Rule) (v : Text) → a.defaults ≡ v ∷ [] → (c : List Rule) (rows : List Row) → arg_by_id c id ≡ Some a → row_at id rows ≡ None → row_at id (fold with_default rows c) ≡ Some (row_with a DefaultValue (v ∷ []))
default_from id a v defaults [] rows e none = absurd cc
default_from id a v defaults (x ∷ c) rows e none = go (bytes_eq x.id id) refl e (default_from id a v defaults c (with_default rows x))
  where
    here : row_at id (with_default rows x) ≡ row_at id (made x x.defaults (has_row x.id rows))
    here = default_at id x rows ∙ ap (λ (o : Option Row). option_or o (row_at id (made x x.defaults (has_row x.id rows)))) none

    other : bytes_eq x.id id ≡ false → (values : List Text) (b : Bool) → row_at id (made x values b) ≡ None
    other differs values true = refl
    other differs [] false = refl
    other differs (w ∷ ws) false = rw differs refl

    go : (b : Bool) → bytes_eq x.id id ≡ b → cond b (Some x) (arg_by_id c id) ≡ Some a
        → (arg_by_id c id ≡ Some a → row_at id (with_default rows x) ≡ None → row_at id (fold with_default (with_default rows x) c) ≡ Some (row_with a DefaultValue (v ∷ [])))
        → row_at id (fold with_default (with_default rows x) c) ≡ Some (row_with a DefaultValue (v ∷ []))
    go true same h rest =
        let is : x ≡ a = cc in
        let new : has_row x.id rows ≡ false = ap (λ (t : Text). has_row t rows) ((bytes_eq-Decides x.id id).0 same) ∙ has_row_is id rows ∙ ap (λ (o : Option Row). is_some o) none in
        let first : row_at id (made x (v ∷ []) false) ≡ Some (row_with x DefaultValue (v ∷ [])) = rw same refl in
        stays id c (with_default rows x) (row_with a DefaultValue (v ∷ []))
        (here ∙ (λ i. row_at id (made x ((ap (λ (y : Rule). y.defaults) is ∙ defaults) i) (new i))) ∙ first ∙ ap (λ (y : Rule). Some (row_with y DefaultValue (v ∷ []))) is)
    go false differs h rest = rest h (here ∙ other differs x.defaults (has_row x.id rows))

-- ---- a command as it is built: its arguments, and the call for help

abbrev pub whole : CommandForm → List Rule
whole form = filled_from 1 ((map positional_rule form.positionals ++ map option_rule form.options) ++ help_rule ∷ [])

abbrev pub leaf : CommandForm → Shape
leaf form = record (new_shape form.command) { rules = whole form; no_binary_name = true; disable_help_subcommand = true; is_built = true }

abbrev pub leaf_rows : CommandForm → List Text → List Row
leaf_rows form words = rows_after (whole form) [] words

abbrev pub IsLeafTaken : CommandForm → List Text → Type 0
IsLeafTaken form words = level_fault (leaf form) [] nothing_held words false [] ≡ []

-- it takes a value, or is the call for help
abbrev pub Acts : Rule → ArgAction → Type 0
Acts a Set = (unwrap_or_range a.range).start_inclusive ≡ 1
Acts a Help = ⊤
Acts a action = ⊥

-- its default passes
abbrev pub HasGoodDefault : Rule → List Text → Type 0
HasGoodDefault a [] = ⊤
HasGoodDefault a (v ∷ vs) = accepts a.ignore_case (parser_of_value a.parser) v ≡ true

pub record IsFit (c : List Rule) (a : Rule) : Type 0 where
  pub own : arg_by_id c a.id ≡ Some a
  pub acts : Acts a (action_of a)
  pub default : HasGoodDefault a a.defaults

abbrev IsFitIn : List Rule → Option Rule → Type 0
IsFitIn c None = ⊤
IsFitIn c (Some a) = IsFit c a

-- the row is of an argument, whose parser its value passed
pub record IsGood (c : List Rule) (r : Row) : Type 0 where
  pub rule : Rule
  pub named : arg_by_id c r.id ≡ Some rule
  pub text : Text
  pub more : List Text
  pub values : r.values ≡ text ∷ more
  pub reading : r.reading ≡ reading_by rule
  pub passes : accepts rule.ignore_case (parser_of_value rule.parser) text ≡ true

module _ (form : CommandForm) (fit : Each (IsFit (whole form)) (whole form)) where
  abbrev c : List Rule
  c = whole form

  abbrev AreGood : List Row → Type 0
  AreGood rows = Each (IsGood c) rows

  found : (p : Rule → Bool) → IsFitIn c (find p c)
  found p = go (find p c) (λ a e. (found_each (IsFit c) p c a fit e).0)
    where
      go : (o : Option Rule) → ((a : Rule) → o ≡ Some a → IsFit c a) → IsFitIn c o
      go None fits = tt
      go (Some a) fits = fits a refl

  -- ---- one use

  changed_good : (id : Text) (change : Row → List Row) (missing rows : List Row) → AreGood missing → ((r : Row) → IsGood c r → AreGood (change r)) → AreGood rows → AreGood (at_row id change missing rows)
  changed_good id change missing [] new changed good = new
  changed_good id change missing (r ∷ rows) new changed good =
      elim (bytes_eq r.id id) as (λ b. AreGood (cond b (change r ++ rows) (r ∷ at_row id change missing rows))) [
        | true ↦ each_append (IsGood c) (change r) rows (changed r good.0) good.1
        | false ↦ (good.0, changed_good id change missing rows new changed good.1)
      ]

  given_good : (a : Rule) (source : ValueSource) (v : Text) (vs : List Text) (rows : List Row) → IsFit c a → accepts a.ignore_case (parser_of_value a.parser) v ≡ true → AreGood rows
      → AreGood (with_values a.id (reading_by a) source (v ∷ vs) rows)
  given_good a source v vs rows fits pass good =
      changed_good a.id (more_values source (v ∷ vs)) (row_with a source (v ∷ vs) ∷ []) rows
      (record { rule = a; named = fits.own; text = v; more = vs; values = refl; reading = refl; passes = pass }, tt)
      (λ r g. (record { rule = g.rule; named = g.named; text = g.text; more = g.more ++ v ∷ vs; values = ap (λ (xs : List Text). xs ++ v ∷ vs) g.values; reading = g.reading; passes = g.passes }, tt))
      good

  acted_good : (a : Rule) (action : ArgAction) (vs : List Text) (rows : List Row) → IsFit c a → Acts a action → AreGood rows
      → or_else (range_kinds (unwrap_or_range a.range).start_inclusive (most_values a) (length vs)) (action_fault action false a (values_or_missing a vs) rows) ≡ []
      → AreGood (used_as action a.id (reading_by a) (values_or_missing a vs) rows)
  acted_good a Set [] rows fits once good e = let none = rw once at e in absurd cc
  acted_good a Set (v ∷ vs) rows fits once good e =
      let set = neither (repeat_fault false a.id rows) _ (neither (range_kinds (unwrap_or_range a.range).start_inclusive (most_values a) (length (v ∷ vs))) _ e).1 in
      given_good a CommandLine v vs (without a.id rows) fits (passed _ _ [] (neither _ _ set.1).0) (changed_good a.id (λ _. []) [] rows tt (λ r g. tt) good)
  acted_good a Help vs rows fits help good e = let asked = (neither (range_kinds (unwrap_or_range a.range).start_inclusive (most_values a) (length vs)) _ e).1 in absurd cc
  acted_good a action vs rows fits acts good e = absurd acts

  used_good : (o : Option Rule) (vs : List Text) (rows : List Row) → IsFitIn c o → AreGood rows → option_map_or (λ a. use_fault false a vs rows) o [] ≡ [] → AreGood (used_by_id o vs rows)
  used_good None vs rows fits good e = good
  used_good (Some a) vs rows fits good e = acted_good a (action_of a) vs rows fits fits.acts good e

  settled_good : (o : Option (Text × List Text)) (rows : List Row) → AreGood rows → option_map_or (λ p. option_map_or (λ a. use_fault false a p.1 rows) (arg_by_id c p.0) []) o [] ≡ [] → AreGood (settled_rows c o rows)
  settled_good None rows good e = good
  settled_good (Some p) rows good e = used_good (arg_by_id c p.0) p.1 rows (found (λ a. bytes_eq a.id p.0)) good e

  -- ---- the walk

  -- rows that are good stay good where there is no fault
  abbrev Keeps : List Row → Kinds → List Row → Type 0
  Keeps rows fault after = AreGood rows → fault ≡ [] → AreGood after

  either_keeps : {X : Type 0} (rows_of : X → List Row) (b : Bool) (rows : List Row) (f g : Kinds) (x y : X) → Keeps rows f (rows_of x) → Keeps rows g (rows_of y) → Keeps rows (cond b f g) (rows_of (cond b x y))
  either_keeps rows_of true rows f g x y keeps other = keeps
  either_keeps rows_of false rows f g x y keeps other = other

  settle_keeps : (h : Held) → Keeps h.rows (settle_fault c false h) (settled c h).rows
  settle_keeps h good e = settled_good h.pending h.rows good e

  react_keeps : (a : Rule) (vs : List Text) (h : Held) → IsFit c a → Keeps h.rows (react_fault c false a vs h) (reacted c a vs h).rows
  react_keeps a vs h fits good e =
      let parts = neither (settle_fault c false h) _ e in
      acted_good a (action_of a) vs (settled c h).rows fits fits.acts (settle_keeps h good parts.0) parts.1

  option_keeps : (a : Rule) (v : Option Text) (h : Held) → IsFit c a → Keeps h.rows (option_fault c false a v h) (option_met c a v h).0.rows
  option_keeps a (Some v) h fits = react_keeps a (v ∷ []) h fits
  option_keeps a None h fits = settle_keeps h

  flag_keeps : (a : Rule) (v : Option Text) (h : Held) → IsFit c a → Keeps h.rows (cond (is_some v) (kind.TooManyValues ∷ []) (react_fault c false a [] h)) (flag_met c a v h).0.rows
  flag_keeps a (Some v) h fits good e = good
  flag_keeps a None h fits good e = react_keeps a [] h fits good e

  long_keeps : (o : Option Rule) (v : Option Text) (h : Held) → IsFitIn c o → Keeps h.rows (long_fault c false o v h) (long_met c o v h).0.rows
  long_keeps None v h fits good e = good
  long_keeps (Some a) v h fits good e = either_keeps (λ (p : Held × Outcome). p.0.rows) (takes_values a) h.rows _ _ _ _ (option_keeps a v h fits) (flag_keeps a v h fits) good e

  short_keeps : (o : Option Rule) (rest : Text) (h : Held) (after : Held → Held × Outcome) (fault : Held → Kinds) → IsFitIn c o → ((k : Held) → Keeps k.rows (fault k) (after k).0.rows)
      → Keeps h.rows (short_fault c false o rest h fault) (short_met c o rest h after).0.rows
  short_keeps None rest h after fault fits more good e = good
  short_keeps (Some a) rest h after fault fits more good e = either_keeps (λ (p : Held × Outcome). p.0.rows) (takes_values a) h.rows _ _ _ _ (option_keeps a (attached_value rest) h fits) next good e
    where
      next : Keeps h.rows (or_else (react_fault c false a [] h) (fault (reacted c a [] h))) (after (reacted c a [] h)).0.rows
      next good e = let parts = neither (react_fault c false a [] h) _ e in more (reacted c a [] h) (react_keeps a [] h fits good parts.0) parts.1

  bundle_keeps : (k : ℕ) (flags : Text) (skip : ℕ) (so_far : Outcome) (h : Held) → Keeps h.rows (flags_fault c false k flags skip h) (bundle_met c k flags skip so_far h).0.rows
  unfolding bundle_met flags_fault
  bundle_keeps zero flags skip so_far h good e = good
  bundle_keeps (suc k) flags skip so_far h good e = go (slice_get (chars flags) 0) skip (λ rest n so j. bundle_keeps k rest n so j) good e
    where
      go : (o : Option ℕ) (n : ℕ) → ((rest : Text) (m : ℕ) (so : Outcome) (j : Held) → Keeps j.rows (flags_fault c false k rest m j) (bundle_met c k rest m so j).0.rows)
          → Keeps h.rows (bundle_step_fault c false o flags n h (flags_fault c false k)) (bundle_step c o flags n so_far h (bundle_met c k)).0.rows
      go None n below good e = good
      go (Some x) zero below good e =
          let rest = drop (length (encode_utf8 x)) flags in
          short_keeps (arg_by_short c x) rest h (bundle_met c k rest 0 done) (flags_fault c false k rest 0) (found _) (below rest 0 done) good e
      go (Some x) (suc n) below good e = below (drop (length (encode_utf8 x)) flags) n so_far h good e

  word_good : (o : Option Rule) (id word : Text) (h : Held) → AreGood h.rows → AreGood (option_word o id word h).0.rows
  word_good None id word h good = good
  word_good (Some a) id word h good = good

  plain_good : (waiting : Waiting) (word : Text) (h : Held) → AreGood h.rows → AreGood (plain_word c waiting word h).0.rows
  plain_good (option id) word h good = word_good (arg_by_id c id) id word h good
  plain_good waiting word h good = good

  after_good : (waiting : Waiting) (word : Text) (h : Held) (o : Outcome) → AreGood h.rows → AreGood (after_flag c waiting word h o).0.rows
  after_good waiting word h done good = good
  after_good waiting word h (waits id) good = good
  after_good waiting word h o good = plain_good waiting word h good

  short_word_keeps : (o : Option Text) (waiting : Waiting) (word : Text) (h : Held) → Keeps h.rows (option_map_or (λ flags. bundle_fault c false flags h) o []) (short_or_plain c waiting word o h).0.rows
  short_word_keeps (Some flags) waiting word h good e = let m = bundle c flags h in after_good waiting word m.0 m.1 (bundle_keeps (length flags) flags h.skip plain (record h { skip = 0 }) good e)
  short_word_keeps None waiting word h good e = plain_good waiting word h good

  flag_word_keeps : (o : Option (Text × Option Text)) (waiting : Waiting) (word : Text) (h : Held) → Keeps h.rows (flag_word_fault c false o word h) (long_or_other c waiting word o h).0.rows
  flag_word_keeps (Some p) waiting word h good e = let m = long_met c (arg_by_long c p.0) p.1 h in after_good waiting word m.0 m.1 (long_keeps (arg_by_long c p.0) p.1 h (found _) good e)
  flag_word_keeps None waiting word h good e = short_word_keeps (short_of word) waiting word h good e

  other_keeps : (waiting : Waiting) (position : ℕ) (word : Text) (h : Held) → Keeps h.rows (other_fault (leaf form) None word h) (subcommand_or_other c None waiting position word h).0.rows
  other_keeps waiting position word h = either_keeps (λ (p : Held × Step). p.0.rows) (bytes_eq word (45 ∷ 45 ∷ [])) h.rows _ _ (h, trailing position) _ (λ good e. good) (flag_word_keeps (long_of word) waiting word h)

  word_keeps : (is_trailing : Bool) (waiting : Waiting) (position : ℕ) (word : Text) (h : Held) → Keeps h.rows (word_fault (leaf form) [] is_trailing waiting word h) (word_met c [] is_trailing waiting position word h).0.rows
  word_keeps true waiting position word h good e = good
  word_keeps false idle position word h good e = other_keeps idle position word h good e
  word_keeps false (option id) position word h good e = other_keeps (option id) position word h good e
  word_keeps false positional position word h good e = other_keeps positional position word h good e

  positional_keeps : (o : Option Rule) (word : Text) (w : Walk) (h : Held) → Keeps h.rows (option_map_or (λ a. positional_fault c false a h) o (stray_fault (leaf form))) (to_positional c o word w h).held.rows
  positional_keeps None word w h good e = good
  positional_keeps (Some a) word w h good e = either_keeps (λ (k : Held). k.rows) (is_pending a h.pending && takes_several a) h.rows [] (settle_fault c false h) h (settled c h) (λ good e. good) (settle_keeps h) good e

  step_keeps : (word : Text) (w : Walk) (h : Held) (step : Step) → Keeps h.rows (step_fault (leaf form) w.position h step) (after_step c word w h step).held.rows
  step_keeps word w h value good e = positional_keeps (arg_by_index c w.position) word w h good e
  step_keeps word w h step good e = good

  turn_keeps : (w : Walk) (word : Text) → Keeps w.held.rows (turn_fault (leaf form) [] w word) (walked c [] w word).held.rows
  unfolding walked
  turn_keeps w word good e = go w.stopped e
    where
      met : Held × Step
      met = word_met c [] w.is_trailing w.waiting w.position word w.held

      go : (o : Option (Text × List Text)) → cond (is_some o) [] (or_else (word_fault (leaf form) [] w.is_trailing w.waiting word w.held) (step_fault (leaf form) w.position met.0 met.1)) ≡ [] → AreGood (walked_from c [] o w word).held.rows
      go (Some p) d = good
      go None d =
          let parts = neither (word_fault (leaf form) [] w.is_trailing w.waiting word w.held) _ d in
          step_keeps word w met.0 met.1 (word_keeps w.is_trailing w.waiting w.position word w.held good parts.0) parts.1

  walk_keeps : (w : Walk) (words : List Text) → Keeps w.held.rows (walk_fault (leaf form) [] w words) (fold (walked c []) w words).held.rows
  unfolding walk_fault
  walk_keeps w [] good e = good
  walk_keeps w (word ∷ rest) good e =
      let parts = neither (turn_fault (leaf form) [] w word) _ e in
      walk_keeps (walked c [] w word) rest (turn_keeps w word good parts.0) parts.1

  -- ---- one level

  default_good : (a : Rule) (rows : List Row) (values : List Text) → IsFit c a → HasGoodDefault a values → AreGood rows → AreGood (default_rows a.id (reading_by a) values rows)
  default_good a rows [] fits pass good = good
  default_good a rows (v ∷ vs) fits pass good = given_good a DefaultValue v vs rows fits pass good

  defaults_good : (cs : List Rule) (rows : List Row) → Each (IsFit c) cs → AreGood rows → AreGood (fold with_default rows cs)
  defaults_good [] rows fits good = good
  defaults_good (a ∷ cs) rows fits good =
      defaults_good cs (with_default rows a) fits.1
      (elim (has_row a.id rows) as (λ b. AreGood (cond b rows (default_rows a.id (reading_by a) a.defaults rows))) [ true ↦ good | false ↦ default_good a rows a.defaults fits.0 fits.0.default good ])

  module _ (words : List Text) (taken : IsLeafTaken form words) where
    -- the rows at the end of the level are good
    pub level_good : AreGood (leaf_rows form words)
    level_good =
        let end : Held = (walk c [] nothing_held words).held in
        let walked_well = neither (walk_fault (leaf form) [] (walk_from nothing_held) words) _ taken in
        defaults_good c (settled c end).rows fit (settle_keeps end (walk_keeps (walk_from nothing_held) words tt walked_well.0) (neither (settle_fault c false end) _ walked_well.1).0)

    -- and its last check passed
    pub level_checked : check_fault (leaf form) (leaf_rows form words) false ≡ []
    level_checked = (neither _ _ (neither (settle_fault c false (walk c [] nothing_held words).held) _ (neither (walk_fault (leaf form) [] (walk_from nothing_held) words) _ taken).1).1).1

-- Words in plain form are read, and ask just what they say.
use Rattle.std.proofs.Common.{◌≡◌, ◌≢◌, ◌∙◌, ◌<◌, ◌≤◌, ◌^◌, ◌&&◌, ◌||◌, ℕ, Bool, cond, true, false, not, refl, sym, ap, ap₂, subst, inl, inr, arith, List, [], ◌∷◌, ◌++◌, map, Option, Some, None, is_some, codes}
use Rattle.std.specs.Prelude.{nat_le, nat_lt, option_map}
use Rattle.std.specs.Borrow.{Bor}
use Rattle.std.specs.List.{find, fold, list_all, list_any}
use Rattle.std.specs.Option.{option_map_or}
use Rattle.std.specs.Str.{bytes_eq}
use Rattle.std.proofs.lemmas.Bool.{and_parts}
use Rattle.std.proofs.lemmas.Bool.Decides.{Decides-ltb, nat_tests}
use Rattle.std.proofs.lemmas.Slice.Eq.{bytes_eq-Decides}
use Rattle.clap.specs.Facts.{explicit_source}
use Rattle.clap.specs.Faults.{check_fault, defaults_fault, fault_of, given_default_fault, settle_fault}
use Rattle.clap.specs.Kinds.{Kinds, or_else}
use Rattle.clap.specs.Simple.{subcommand_of}
use Rattle.clap.specs.Takes.{is_given}
use Rattle.clap.specs.Walk.{Held, Row, Rule, Text, Walk, finished, first_of, has_row, is_empty, nothing_held, settled, texts, walk, with_default}
use Rattle.clap.specs.declared.error.kind.ErrorKind.TheVariants as kind
use Rattle.clap.specs.declared.parser.matches.ValueSource.TheVariants.{CommandLine, DefaultValue}
use Rattle.clap.proofs.WalkLemmas.{find-map}
use Rattle.raster_model.specs.declared.weights.RuleKind.{RuleKind}
use Rattle.raster_model.specs.declared.weights.RuleKind.TheVariants.{Least, Mean, Product}
use Rattle.insar_words.specs.Asked.{AreTaken, Asks, AsksBy, AsksWorkers, IsSideAsked, IsSideByDefault, asked, asks_by_names, is_named, number_asked, slope_for}
use Rattle.insar_words.specs.Forms.{Argument, CommandForm, Each, OfOne, Taking, Value, any_number, arguments_of, check_form, check_whole_form, checking, drawing, fits, forms, grid_form, is_among, name, names, number, numbers, ramp_x_entry, ramp_y_entry, rule_entry, rule_name, rule_names, solving, steep_entry, tile_entry, trial_form, unwrap_form, whole_checking, whole_form, whole_solving, word_of, workers_entry}
use Rattle.insar_words.specs.Limits.{IsTrialSide}
use Rattle.insar_words.specs.PlainForms.{ArePlain, EachOnce, Has, HasGiven, HasSet, IsPlainlyRead, IsUnset, PlainCheckIsRead, PlainCheckWholeIsRead, PlainFormsAreRead, PlainSolvingIsRead, PlainTrialIsRead, PlainWholeIsRead, Setting, are_values, is_setting, number_in_value, number_set, option_named, options_set, pairs, rule_called, set_to, workers_set}
use Rattle.insar_words.specs.Stated.{default_texts, stated}
use Rattle.insar_words.proofs.FormLemmas.{AreApart, IsOption, IsSound, Owns, asks_form, lacks, rule_for, sound, takes_form}
use Rattle.insar_words.proofs.PlainLemmas.{Choice, MayGive, Walks, given, row_is, setting_of, walks_all, zipped}
use Rattle.insar_words.proofs.TakenLemmas.{IsLeafTaken, default_from, found_each, leaf, leaf_rows, row_at, stays, whole}
use Rattle.insar_words.proofs.ValueLemmas.{has_row_of, value_read}

-- two facts of each give a third
each_with : {X : Type 0} (P Q R : X → Type 0) → ((x : X) → P x → Q x → R x) → (xs : List X) → Each P xs → Each Q xs → Each R xs
each_with P Q R f [] p q = tt
each_with P Q R f (x ∷ xs) p q = (f x p.0 q.0, each_with P Q R f xs p.1 q.1)

same_bytes : (t : Text) → bytes_eq t t ≡ true
same_bytes t = (bytes_eq-Decides t t).1 refl

-- ---- settings

-- an argument is set to a value that it takes
abbrev IsSetWell : Argument → Option Value → Type 0
IsSetWell a o = option_map_or (fits a.takes) o false ≡ true

-- an option of plain settings is
set_well : (options : List Argument) (a : Argument) → option_named options a.id ≡ Some a → option_map_or (fits a.takes) a.default true ≡ true
    → (settings : List Setting) → list_all (is_setting options) settings ≡ true → is_some (set_to a settings) ≡ true → IsSetWell a (set_to a settings)
set_well options a first default [] taken given = go a.default default given
  where
    go : (d : Option Value) → option_map_or (fits a.takes) d true ≡ true → is_some d ≡ true → IsSetWell a d
    go None f s = absurd cc
    go (Some v) f s = f
set_well options a first default (s ∷ rest) taken given = go (bytes_eq s.0 a.id) refl given (set_well options a first default rest (and_parts (is_setting options s) _ taken).1)
  where
    go : (b : Bool) → bytes_eq s.0 a.id ≡ b → is_some (cond b (Some s.1) (set_to a rest)) ≡ true → (is_some (set_to a rest) ≡ true → IsSetWell a (set_to a rest)) → IsSetWell a (cond b (Some s.1) (set_to a rest))
    go true same h below =
        let found : option_named options s.0 ≡ Some a = ap (option_named options) ((bytes_eq-Decides s.0 a.id).0 same) ∙ first in
        rw found at (and_parts (is_setting options s) _ taken).0
    go false same h below = below h

-- ---- choices

abbrev chosen_for : Text → List Choice → Option Choice
chosen_for id all = find (λ x. bytes_eq x.0.id id) all

set_is : (a : Argument) (xs : List Choice) → set_to a (map setting_of xs) ≡ option_map_or (λ x. Some x.1) (chosen_for a.id xs) a.default
set_is a [] = refl
set_is a (x ∷ xs) = let rest = set_is a xs in grind arith

-- what settings choose of the options
record Chosen (form : CommandForm) (settings : List Setting) : Type 0 where
  all : List Choice
  settings_are : map setting_of all ≡ settings
  may : Each (MayGive form) all
  are : Each (λ x. IsOption form x.0) all

chosen : (form : CommandForm) → IsSound form → (settings : List Setting) → list_all (is_setting form.options) settings ≡ true → Chosen form settings
chosen form is [] h = record { all = []; settings_are = refl; may = tt; are = tt }
chosen form is (s ∷ rest) h = go (option_named form.options s.0) refl (and_parts (is_setting form.options s) _ h).0 (chosen form is rest (and_parts (is_setting form.options s) _ h).1)
  where
    go : (o : Option Argument) → option_named form.options s.0 ≡ o → option_map_or (λ a. fits a.takes s.1) o false ≡ true → Chosen form rest → Chosen form (s ∷ rest)
    go None e f more = absurd cc
    go (Some a) e f more =
        let found = found_each (IsOption form) (λ b. bytes_eq b.id s.0) form.options a is.options e in
        record {
          all = (a, s.1) ∷ more.all;
          settings_are = ap₂ (λ (t : Text) (xs : List Setting). (t, s.1) ∷ xs) ((bytes_eq-Decides a.id s.0).0 found.1) more.settings_are;
          may = ((found.0.owned, value_read a.takes s.1 found.0.owned.readable f), more.may);
          are = (found.0, more.are);
        }

-- ---- a level

abbrev default_alone : Rule → Kinds
default_alone a = cond (is_empty a.defaults) [] (given_default_fault a a.defaults)

fine_defaults : (c : List Rule) (rows : List Row) → Each (λ a. default_alone a ≡ []) c → defaults_fault rows c ≡ []
unfolding defaults_fault
fine_defaults [] rows fine = refl
fine_defaults (a ∷ c) rows fine = ap₂ or_else (go (has_row a.id rows)) (fine_defaults c (with_default rows a) fine.1)
  where
    go : (b : Bool) → cond (b || is_empty a.defaults) [] (given_default_fault a a.defaults) ≡ []
    go true = refl
    go false = fine.0

named_of : (rows : List Row) (id : Text) (taking : Taking) (v : Value) → Has rows id (Some v) → fits taking v ≡ true → is_named taking (first_of id rows) ≡ true
named_of rows id (names all) (name text) has fit = ap (is_named (names all)) has ∙ fit
named_of rows id (names all) (number n) has fit = absurd cc
named_of rows id (numbers least most) v has fit = refl
named_of rows id any_number v has fit = refl

-- ---- a command in plain form

module _ (form : CommandForm) (is : IsSound form) (values : List Value) (picked : List Choice) (may_options : Each (MayGive form) picked) (are : Each (λ x. IsOption form x.0) picked) (fit : are_values form.positionals values ≡ true)
    (plain : ArePlain form.options (map setting_of picked)) where
  abbrev c : List Rule
  c = whole form

  abbrev all : List Choice
  all = zipped form.positionals values ++ picked

  abbrev rows : List Row
  rows = fold with_default (map given all) c

  may_from : (ps : List Argument) (vs : List Value) → Each (Owns c) (ps ++ form.options) → are_values ps vs ≡ true → Each (MayGive form) (zipped ps vs ++ picked)
  may_from [] [] owns fits_all = may_options
  may_from (p ∷ ps) (v ∷ vs) owns fits_all =
      let parts = and_parts (fits p.takes v) (are_values ps vs) fits_all in
      ((owns.0, value_read p.takes v owns.0.readable parts.0), may_from ps vs owns.1 parts.1)
  may_from ps vs owns fits_all = absurd cc

  may : Each (MayGive form) all
  may = may_from form.positionals values is.owns fit

  -- no name stands twice
  differ : (id other : Text) → bytes_eq id other ≡ false → other ≢ id
  differ id other e same = let is : bytes_eq id other ≡ true = (bytes_eq-Decides id other).1 (sym same) in cc

  unset : (id : Text) (ps : List Argument) (vs : List Value) (xs : List Choice) → Each (λ a. bytes_eq id a.id ≡ false) (ps ++ form.options) → are_values ps vs ≡ true → Each (λ x. IsOption form x.0) xs → IsUnset id (map setting_of (zipped ps vs ++ xs))
  unset id [] [] [] apart fits_all options = tt
  unset id [] [] (x ∷ xs) apart fits_all options =
      (differ id x.0.id (found_each (λ (a : Argument). bytes_eq id a.id ≡ false) (λ a. bytes_eq a.id x.0.id) form.options x.0 apart options.0.first).0, unset id [] [] xs apart fits_all options.1)
  unset id (p ∷ ps) (v ∷ vs) xs apart fits_all options = (differ id p.id apart.0, unset id ps vs xs apart.1 (and_parts _ _ fits_all).1 options)
  unset id ps vs xs apart fits_all options = absurd cc

  once_from : (ps : List Argument) (vs : List Value) → AreApart ps form.options → are_values ps vs ≡ true → EachOnce (map setting_of (zipped ps vs ++ picked))
  once_from [] [] apart fits_all = plain.once
  once_from (p ∷ ps) (v ∷ vs) apart fits_all = let rest = (and_parts _ _ fits_all).1 in (unset p.id ps vs picked apart.0 rest are, once_from ps vs apart.1 rest)
  once_from ps vs apart fits_all = absurd cc

  -- ---- what each argument is set to

  -- a positional before does not set it
  skip : (p a : Argument) (v : Value) (sets : List Setting) → bytes_eq p.id a.id ≡ false → set_to a ((p.id, v) ∷ sets) ≡ set_to a sets
  skip p a v sets other = ap (λ (b : Bool). cond b (Some v) (set_to a sets)) other

  own : (p : Argument) (v : Value) (sets : List Setting) → set_to p ((p.id, v) ∷ sets) ≡ Some v
  own p v sets = ap (λ (b : Bool). cond b (Some v) (set_to p sets)) (same_bytes p.id)

  -- the settings of positionals and pairs
  abbrev sets : List Argument → List Value → List Setting
  sets ps vs = map setting_of (zipped ps vs ++ picked)

  well_from : (ps : List Argument) (vs : List Value) → AreApart ps form.options → are_values ps vs ≡ true → Each (λ a. IsSetWell a (set_to a (map setting_of picked))) form.options → Each (λ a. IsSetWell a (set_to a (sets ps vs))) (ps ++ form.options)
  well_from [] [] apart fits_all well = well
  well_from (p ∷ ps) (v ∷ vs) apart fits_all well =
      let parts = and_parts (fits p.takes v) (are_values ps vs) fits_all in (
        subst (IsSetWell p) (sym (own p v (sets ps vs))) parts.0,
        each_with _ _ (λ a. IsSetWell a (set_to a (sets (p ∷ ps) (v ∷ vs)))) (λ a other w. subst (IsSetWell a) (sym (skip p a v (sets ps vs) other)) w) (ps ++ form.options) apart.0 (well_from ps vs apart.1 parts.1 well),
      )
  well_from ps vs apart fits_all well = absurd cc

  well_options : (os : List Argument) → Each (IsOption form) os → list_all (λ a. is_some (set_to a (map setting_of picked))) os ≡ true → Each (λ a. IsSetWell a (set_to a (map setting_of picked))) os
  well_options [] options given = tt
  well_options (a ∷ os) options given =
      let parts = and_parts (is_some (set_to a (map setting_of picked))) _ given in
      (set_well form.options a options.0.first options.0.owned.default_fits (map setting_of picked) plain.taken parts.0, well_options os options.1 parts.1)

  -- ---- what the matches have

  told : (a : Argument) (v : Value) → Owns c a → set_to a (sets form.positionals values) ≡ Some v → Has rows a.id (Some v) × (lacks (λ id. is_given id rows) a ≡ false)
  told a v o set = go (chosen_for a.id all) refl (sym (set_is a all) ∙ set)
    where
      at : row_at a.id (map given all) ≡ option_map given (chosen_for a.id all)
      at = sym (find-map (λ (r : Row). bytes_eq r.id a.id) given all)

      no_false : (b : Bool) → (b && false) ≡ false
      no_false true = refl
      no_false false = refl

      go : (x : Option Choice) → chosen_for a.id all ≡ x → option_map_or (λ y. Some y.1) x a.default ≡ Some v → Has rows a.id (Some v) × (lacks (λ id. is_given id rows) a ≡ false)
      go (Some x) e h =
          let row = stays a.id c (map given all) (given x) (at ∙ ap (option_map given) e) in
          let read = (found_each (MayGive form) (λ y. bytes_eq y.0.id a.id) all x may e).0.1 in
          let same : x.1 ≡ v = cc in (
            subst (λ (w : Value). Has rows a.id (Some w)) same (has_row_of rows a.id x.0 CommandLine x.1 read row),
            ap (λ (r : Option Row). not (is_some a.default) && not (option_map_or (λ y. explicit_source y.source) r false)) row ∙ no_false (not (is_some a.default)),
          )
      go None e h =
          let fits_it : fits a.takes v ≡ true = rw h at o.default_fits in
          let row = default_from a.id (rule_for c a) (word_of v) (o.defaults ∙ ap default_texts h) c (map given all) o.found (at ∙ ap (option_map given) e) ∙ ap Some (row_is c a DefaultValue v o) in
          (has_row_of rows a.id a DefaultValue v (value_read a.takes v o.readable fits_it) row, ap (λ (d : Option Value). not (is_some d) && not (is_given a.id rows)) h)

  record AreTold (arguments : List Argument) : Type 0 where
    has : HasSet rows arguments (sets form.positionals values)
    names_hold : list_all (λ a. is_named a.takes (first_of a.id rows)) arguments ≡ true
    given_all : list_any (lacks (λ id. is_given id rows)) arguments ≡ false

  told_each : (arguments : List Argument) → Each (Owns c) arguments → Each (λ a. IsSetWell a (set_to a (sets form.positionals values))) arguments → AreTold arguments
  told_each [] o well = record { has = tt; names_hold = refl; given_all = refl }
  told_each (a ∷ rest) o well = go (set_to a (sets form.positionals values)) refl well.0 (told_each rest o.1 well.1)
    where
      go : (v : Option Value) → set_to a (sets form.positionals values) ≡ v → IsSetWell a v → AreTold rest → AreTold (a ∷ rest)
      go None e w more = absurd cc
      go (Some v) e w more =
          let t = told a v o.0 e in
          record {
            has = (subst (Has rows a.id) (sym e) t.0, more.has);
            names_hold = ap₂ (λ (b d : Bool). b && d) (named_of rows a.id a.takes v t.0 w) more.names_hold;
            given_all = ap₂ (λ (b d : Bool). b || d) t.1 more.given_all;
          }

  all_told : AreTold (arguments_of form)
  all_told = told_each (arguments_of form) is.owns (well_from form.positionals values is.apart fit (well_options form.options is.options plain.given))

  parts_have : (ps : List Argument) (vs : List Value) → AreApart ps form.options → are_values ps vs ≡ true → HasSet rows (ps ++ form.options) (sets ps vs) → HasGiven rows ps vs × HasSet rows form.options (map setting_of picked)
  parts_have [] [] apart fits_all has = (tt, has)
  parts_have (p ∷ ps) (v ∷ vs) apart fits_all has =
      let more = each_with _ _ (λ a. Has rows a.id (set_to a (sets ps vs))) (λ a other h. subst (Has rows a.id) (skip p a v (sets ps vs) other) h) (ps ++ form.options) apart.0 has.1 in
      let rest = parts_have ps vs apart.1 (and_parts _ _ fits_all).1 more in
      ((subst (Has rows p.id) (own p v (sets ps vs)) has.0, rest.0), rest.1)
  parts_have ps vs apart fits_all has = absurd cc

  abbrev spelled : List Text
  spelled = map word_of values ++ pairs (map setting_of picked)

  walked_all : Walks form 1 nothing_held [] spelled all
  walked_all = walks_all form values picked is.placed fit (once_from form.positionals values is.apart fit) may are

  rows_are : leaf_rows form spelled ≡ rows
  rows_are = ap (λ (v : Walk). finished c v.held) walked_all.walk_is ∙ ap (λ (rs : List Row). fold with_default rs c) walked_all.stands.rows_are

  taken : IsLeafTaken form spelled
  taken =
      let end : Held = (walk c [] nothing_held spelled).held in
      let settles : settle_fault c false end ≡ [] = ap (λ (v : Walk). settle_fault c false v.held) walked_all.walk_is ∙ walked_all.stands.passes in
      let checked : check_fault (leaf form) rows false ≡ [] = ap (λ (b : Bool). cond b (kind.MissingRequiredArgument ∷ []) []) (is.asks (λ id. is_given id rows) ∙ all_told.given_all) in
      ap₂ or_else walked_all.passes (ap₂ or_else settles (ap₂ or_else (fine_defaults c (settled c end).rows is.fine) (ap (λ (rs : List Row). check_fault (leaf form) rs false) rows_are ∙ checked)))

  read_plain : (words : List (Bor Text)) → OfOne (λ each. form ≡ each) forms → texts words ≡ form.command ∷ spelled → IsPlainlyRead form words values (map setting_of picked)
  read_plain words among texts_are =
      let named : asked words ≡ Some (form.command, rows) = ap (subcommand_of stated) texts_are ∙ asks_form form among spelled ∙ ap (λ (rs : List Row). Some (form.command, rs)) rows_are in
      let has = parts_have form.positionals values is.apart fit all_told.has in
      record {
        taken = record { parsed = ap (fault_of stated) texts_are ∙ takes_form form among spelled taken; in_names = ap asks_by_names named ∙ is.names rows ∙ ap (λ (b : Bool). b && true) all_told.names_hold };
        rows = rows;
        named = named;
        positionals = has.0;
        options = has.1;
      }

pub plain_forms : PlainFormsAreRead
plain_forms words form values settings among fit plain texts_are =
    let is = sound form among in
    let picked = chosen form is settings plain.taken in
    subst (λ (ss : List Setting). ArePlain form.options ss → texts words ≡ form.command ∷ (map word_of values ++ pairs ss) → IsPlainlyRead form words values ss) picked.settings_are
    (λ by spelled. read_plain form is values picked.all picked.may picked.are fit by words among spelled) plain texts_are

-- ---- the commands of today, by options and workers

number_has : (rows : List Row) (id : Text) (least most : ℕ) (o : Option Value) → option_map_or (fits (numbers least most)) o false ≡ true → Has rows id o → number_asked id rows ≡ Some (number_in_value o)
number_has rows id least most o well has = grind arith

called : (t : Text) → is_among t rule_names ≡ true → t ≡ rule_name (rule_called (Some (name t)))
called t h = go (bytes_eq (codes "least") t) (bytes_eq (codes "mean") t) (bytes_eq (codes "product") t) refl refl refl h
  where
    go : (a b d : Bool) → bytes_eq (codes "least") t ≡ a → bytes_eq (codes "mean") t ≡ b → bytes_eq (codes "product") t ≡ d → (a || (b || (d || false))) ≡ true → t ≡ rule_name (cond b Mean (cond d Product Least))
    go a true d x y z e = sym ((bytes_eq-Decides (codes "mean") t).0 y)
    go a false true x y z e = sym ((bytes_eq-Decides (codes "product") t).0 z)
    go true false false x y z e = sym ((bytes_eq-Decides (codes "least") t).0 x)
    go false false false x y z e = absurd cc

pub rule_of_text : (t : Text) → is_among t rule_names ≡ true → (rule : RuleKind) × (t ≡ rule_name rule)
rule_of_text t h = (rule_called (Some (name t)), called t h)

pub rule_has : (rows : List Row) (o : Option Value) → option_map_or (fits (names rule_names)) o false ≡ true → Has rows (codes "rule") o → first_of (codes "rule") rows ≡ Some (rule_name (rule_called o))
rule_has rows None well has = absurd has
rule_has rows (Some (number n)) well has = absurd cc
rule_has rows (Some (name text)) well has = has ∙ ap Some (called text well)

has_some : (rows : List Row) (id : Text) (o : Option Value) → Has rows id o → is_some o ≡ true
has_some rs id None has = absurd has
has_some rs id (Some v) has = refl

module _ (options : List Argument) (settings : List Setting) (plain : ArePlain options settings) (rows : List Row) where
  -- what pairs set fits
  pub well : (a : Argument) → option_named options a.id ≡ Some a → option_map_or (fits a.takes) a.default true ≡ true → Has rows a.id (set_to a settings) → option_map_or (fits a.takes) (set_to a settings) false ≡ true
  well a first default has = set_well options a first default settings plain.taken (has_some rows a.id (set_to a settings) has)

  -- the number that pairs set is the one that is asked for
  pub number_told : (a : Argument) (least most : ℕ) → a.takes ≡ numbers least most → option_named options a.id ≡ Some a → option_map_or (fits a.takes) a.default true ≡ true → Has rows a.id (set_to a settings)
      → number_asked a.id rows ≡ Some (number_set a settings)
  number_told a least most takes first default has =
      number_has rows a.id least most (set_to a settings) (subst (λ (t : Taking). option_map_or (fits t) (set_to a settings) false ≡ true) takes (well a first default has)) has

  abbrev pub asks_by : (IsSide : List Row → ℕ → Type 0) (side : ℕ) → IsSide rows side → (command : Text) (words : List (Bor Text)) → AreTaken words → asked words ≡ Some (command, rows) → Each (λ a. option_named options a.id ≡ Some a) whole_checking → HasSet rows whole_checking settings
      → AsksBy IsSide command words (record (options_set settings) { side = side })
  asks_by IsSide side is command words taken named found has = record {
    taken = taken;
    rows = rows;
    named = named;
    rule_is = rule_has rows (set_to rule_entry settings) (well rule_entry found.0 refl has.0) has.0;
    side_is = is;
    ramp_x_is = ap (option_map slope_for) (number_told ramp_x_entry 0 65535 refl found.1.0 refl has.1.0);
    ramp_y_is = ap (option_map slope_for) (number_told ramp_y_entry 0 65535 refl found.1.1.0 refl has.1.1.0);
    steep_is = number_told steep_entry 1 16 refl found.1.1.1.0 refl has.1.1.1.0;
  }

  abbrev pub asks_as : (command : Text) (words : List (Bor Text)) → AreTaken words → asked words ≡ Some (command, rows) → Each (λ a. option_named options a.id ≡ Some a) checking → HasSet rows checking settings → Asks command words (options_set settings)
  asks_as command words taken named found has = asks_by IsSideAsked (number_set tile_entry settings) (number_told tile_entry 2 128 refl found.0 refl has.0) command words taken named found.1 has.1

abbrev solving_as : (command : Text) (words : List (Bor Text)) (settings : List Setting) (rows : List Row) → ArePlain solving settings → AreTaken words → asked words ≡ Some (command, rows) → HasSet rows solving settings
    → AsksWorkers command words (options_set settings) (workers_set settings)
solving_as command words settings rows plain taken named has = record {
  asks = asks_as solving settings plain rows command words taken named (refl, (refl, (refl, (refl, (refl, tt))))) (has.0, (has.1.0, (has.1.1.0, (has.1.1.1.0, (has.1.1.1.1.0, tt)))));
  workers_are = number_told solving settings plain rows workers_entry 1 8 refl refl refl has.1.1.1.1.1.0;
}

pub plain_unwrap : PlainSolvingIsRead (codes "unwrap")
plain_unwrap words settings plain spelled =
    let r = plain_forms words unwrap_form [] settings (inl refl) refl plain spelled in
    solving_as (codes "unwrap") words settings r.rows plain r.taken r.named r.options

pub plain_grid : PlainSolvingIsRead (codes "grid")
plain_grid words settings plain spelled =
    let r = plain_forms words grid_form [] settings (inr (inl refl)) refl plain spelled in
    solving_as (codes "grid") words settings r.rows plain r.taken r.named r.options

pub plain_check : PlainCheckIsRead
plain_check words settings plain spelled =
    let r = plain_forms words check_form [] settings (inr (inr (inl refl))) refl plain spelled in
    asks_as checking settings plain r.rows (codes "check") words r.taken r.named (refl, (refl, (refl, (refl, (refl, tt))))) r.options

pub plain_whole : PlainWholeIsRead
plain_whole words settings plain spelled =
    let r = plain_forms words whole_form [] settings (inr (inr (inr (inr (inr (inr (inr (inl refl)))))))) refl plain spelled in
    let has = r.options in
    (asks_by whole_solving settings plain r.rows IsSideByDefault 64 refl (codes "whole") words r.taken r.named (refl, (refl, (refl, (refl, tt)))) (has.0, (has.1.0, (has.1.1.0, (has.1.1.1.0, tt)))), number_told whole_solving settings plain r.rows workers_entry 1 8 refl refl refl has.1.1.1.1.0)

pub plain_check_whole : PlainCheckWholeIsRead
plain_check_whole words settings plain spelled =
    let r = plain_forms words check_whole_form [] settings (inr (inr (inr (inr (inr (inr (inr (inr (inl refl))))))))) refl plain spelled in
    asks_by whole_checking settings plain r.rows IsSideByDefault 64 refl (codes "check-whole") words r.taken r.named (refl, (refl, (refl, (refl, tt)))) r.options

le_true : (m n : ℕ) → m ≤ n → nat_le m n ≡ true
le_true m n h = grind (arith, nat_tests)

-- the numbers of a test session are those that its positionals take
side_fits : (n : ℕ) → IsTrialSide n → (nat_le 1 n && nat_le n 4096) ≡ true
side_fits n h = ap₂ (λ (b d : Bool). b && d) (le_true 1 n h.0) (le_true n 4096 h.1)

drawing_fits : (seed width height : ℕ) → seed < 2 ^ 64 → IsTrialSide width → IsTrialSide height → are_values drawing (number seed ∷ number width ∷ number height ∷ []) ≡ true
drawing_fits seed width height small across along =
    let first : nat_lt seed (2 ^ 64) ≡ true = (Decides-ltb seed (2 ^ 64)).1 small in
    ap₂ (λ (b d : Bool). b && d) first (ap₂ (λ (b d : Bool). b && (d && true)) (side_fits width across) (side_fits height along))

pub plain_trial : PlainTrialIsRead
plain_trial words seed width height settings small across along few plain spelled =
    let r = plain_forms words trial_form (number seed ∷ number width ∷ number height ∷ []) settings (inr (inr (inr (inl refl)))) (drawing_fits seed width height small across along) plain spelled in
    let asks = solving_as (codes "trial") words settings r.rows plain r.taken r.named r.options in
    (record { asks = record { asks = asks.asks; seed_is = r.positionals.0; width_is = r.positionals.1.0; height_is = r.positionals.1.1.0 }; pixels = few }, asks)

-- From what clap finds to what words ask: they ask for one thing at most, and are refused or ask for something.
use Rattle.std.proofs.Common.{◌≡◌, ◌≢◌, ◌∙◌, ◌*◌, ◌<◌, ◌≤◌, ◌⊎◌, ◌||◌, ◌&&◌, ◌^◌, ℕ, Bool, cond, true, false, List, [], ◌∷◌, Option, Some, None, Result, Ok, Err, IfErr, IsErrAnd, refl, sym, ap, ap₂, inl, inr, subst, arith, codes}
use native.Mathlib.Bridge.{le_prop}
use mathlib.Core.HLevel.{is_prop→PathP, ×_prop}
use Rattle.std.specs.Prelude.{Box, ◌≤ℤ◌, ◌-ℤ◌, ℤ, nat_lt, option_map, pos, ⊤}
use Rattle.std.proofs.Math.Dec.{T_prop}
use Rattle.std.specs.Borrow.{Bor}
use Rattle.std.specs.Box.{box_value}
use Rattle.std.specs.Str.{bytes_eq}
use Rattle.std.specs.Str.Parse.{ParsesUnsigned, digits_value, without_leading_plus}
use Rattle.std.proofs.lemmas.Bool.{and_parts, cases_lt, ltb-false, ltb-true}
use Rattle.std.proofs.lemmas.Int.{ints}
use Rattle.std.proofs.lemmas.Slice.Eq.{bytes_eq-Decides}
use Rattle.clap.specs.Walk.{texts}
use Rattle.clap.specs.Words.{App, HasKind, HasMatchesOf, IsAmong, Kinds, ReadsOne, Row, Text, fault_of, first_of, found_of, is_simple, is_simple_and_free, kind_of, one_text, rows_of, subcommand_name_of, subcommand_of, subcommand_rows, subcommand_rows_of}
use Rattle.clap.specs.declared.error.Error.{Error}
use Rattle.clap.specs.declared.error.kind.ErrorKind.{ErrorKind}
use Rattle.clap.specs.declared.error.kind.ErrorKind.TheVariants.{OutOfMemory}
use Rattle.clap.specs.declared.parser.matches.ArgMatches.{ArgMatches}
use Rattle.clap.specs.declared.parser.matches.ArgMatches.TheViews.{out-ArgMatches, out-SubCommand}
use Rattle.clap.specs.declared.parser.matches.SubCommand.{SubCommand}
use Rattle.clap.proofs.WalkLemmas.{first_value-rows, one_text-rows}
use Rattle.raster_model.specs.declared.terms.Terms.{Terms}
use Rattle.raster_model.specs.declared.weights.RuleKind.{RuleKind}
use Rattle.raster_model.specs.declared.weights.RuleKind.TheVariants.{Least, Mean, Product}
use Rattle.raster_model.specs.Limits.{IsSlope, IsSteepness, IsTileSide, max_tiled_pixels}
use Rattle.insar_words.specs.Asked.{AreTaken, Asks, AsksBy, IsCheck, IsCheckWhole, IsCommand, IsGridCommand, IsRefused, IsSideAsked, IsSideByDefault, IsTooLarge, IsTrialCommand, IsWatch, IsWhole, OneCommand, Options, asked, asks_by_names, has_names, is_named, number_asked, slope_asked, slope_for}
use Rattle.insar_words.specs.Faults.{fault_of_kind}
use Rattle.insar_words.specs.Forms.{CommandForm, Each, OfOne, arguments_of, check_form, check_whole_form, closure_form, displacement_form, forms, grid_form, is_among, nearest_form, parts_form, rule_entry, rule_name, rule_names, screen_form, trial_form, unwrap_form, watch_form, whole_form}
use Rattle.insar_words.specs.Limits.{IsBlockAsked, IsLeastPart, IsNearCount, IsPatchSize, IsReaders, IsReads, IsReferencePlace, IsScreenRadius, IsTrialSide, IsWavelengthAsked, IsWorkers}
use Rattle.insar_words.specs.Requests.{AskSomething, CheckIsRequest, CheckWholeIsRequest, GridIsRequest, HasWordsCause, IsRequest, IsSession, OneRequest, RefusedOrAsking, TellsAll, TellsNothing, TellsRefusal, TellsRequest, TellsSettings, TellsTerms, TellsTooMany, TellsWhole, TrialIsRequest, UnwrapIsRequest, WatchIsRequest, WholeIsRequest, options_of}
use Rattle.insar_words.specs.Stated.{stated}
use Rattle.insar_words.specs.Values.{HasChecking, HasNumber, HasSolving, HasTerms, HasValues, ReadsAs}
use Rattle.insar_words.specs.declared.fault.WordsFault.{WordsFault}
use Rattle.insar_words.specs.declared.request.Request.{Request}
use Rattle.insar_words.specs.declared.request.Request.TheVariants.{Unwrap, Grid, Check, Trial, Screen, Closure, Displacement, Whole, CheckWhole, Watch, Nearest, Parts}
use Rattle.insar_words.specs.declared.screening.Screening.{Screening}
use Rattle.insar_words.specs.declared.displacing.Displacing.{Displacing}
use Rattle.insar_words.specs.declared.parting.Parting.{Parting}
use Rattle.insar_words.specs.declared.settings.Settings.{Settings}
use Rattle.insar_words.specs.declared.trial.Trial.{Trial as TrialSession}
use Rattle.insar_words.specs.declared.watching.Watching.{Watching}
use Rattle.insar_words.proofs.FormLemmas.{asks_form, each_form, has_values, named, sound}
use Rattle.insar_words.proofs.PlainReads.{rule_of_text}
use Rattle.insar_words.proofs.TakenLemmas.{leaf_rows, not_nil}
use Rattle.insar_words.proofs.ValueLemmas.{other_bytes}

-- ---- one request

-- their bytes differ
pub apart : (a b : Text) → bytes_eq a b ≡ false → a ≡ b → ⊥
apart a b other e = let same : bytes_eq a b ≡ true = (bytes_eq-Decides a b).1 e in cc

one_rule : (r q : RuleKind) → rule_name r ≡ rule_name q → r ≡ q
one_rule Least Least e = refl
one_rule Mean Mean e = refl
one_rule Product Product e = refl
one_rule r q e = absurd (apart (rule_name r) (rule_name q) refl e)

abbrev pub command_of : Request → Text
command_of (Unwrap settings) = codes "unwrap"
command_of (Grid settings) = codes "grid"
command_of (Check settings) = codes "check"
command_of (Trial trial) = codes "trial"
command_of (Screen screening) = codes "screen"
command_of Closure = codes "closure"
command_of (Displacement displacing) = codes "displacement"
command_of (Whole settings) = codes "whole"
command_of (CheckWhole settings) = codes "check-whole"
command_of (Watch watching) = codes "watch"
command_of Nearest = codes "nearest"
command_of (Parts parting) = codes "parts"

-- the command that is told
pub told_by : (command : Text) (rows : List Row) (r : Request) → TellsRequest command rows r → command ≡ command_of r
told_by command rows Closure tells = tells.0
told_by command rows Nearest tells = tells.0
told_by command rows r tells = tells.0

-- the rows that words ask for by one command are those that they ask for by another
same_asked : (words : List (Bor Text)) (command other : Text) (rows rows_too : List Row) → asked words ≡ Some (command, rows) → asked words ≡ Some (other, rows_too) → (command ≡ other) × (rows ≡ rows_too)
same_asked words command other rows rows_too a b =
    let same : (command, rows) ≡ (other, rows_too) = cc in
    (ap (λ (p : Text × List Row). p.0) same, ap (λ (p : Text × List Row). p.1) same)

-- the rows of words tell what the words ask for
pub tells_by : (words : List (Bor Text)) (r : Request) → IsRequest words r → (command : Text) (rows : List Row) → asked words ≡ Some (command, rows) → TellsRequest command rows r
tells_by words r is command rows named =
    let same = same_asked words is.command command is.rows rows is.named named in
    subst (λ (t : Text). TellsRequest t rows r) same.0 (subst (λ (rs : List Row). TellsRequest is.command rs r) same.1 is.tells)

-- the options that rows tell
abbrev AreTold : (List Row → ℕ → Type 0) → List Row → Options → Type 0
AreTold IsSide rows options = ((first_of (codes "rule") rows ≡ Some (rule_name options.rule))
    × ((slope_asked (codes "ramp-x") rows ≡ Some options.ramp_x) × ((slope_asked (codes "ramp-y") rows ≡ Some options.ramp_y) × (number_asked (codes "steep") rows ≡ Some options.steep))))
    × IsSide rows options.side

-- they tell one side
abbrev OneSide : (List Row → ℕ → Type 0) → Type 0
OneSide IsSide = (rows : List Row) (side other : ℕ) → IsSide rows side → IsSide rows other → side ≡ other

pub some_one : {X : Type 0} (o : Option X) (x y : X) → o ≡ Some x → o ≡ Some y → x ≡ y
some_one o x y a b = cc

one_asked : OneSide IsSideAsked
one_asked rows side other a b = some_one _ side other a b

one_default : OneSide IsSideByDefault
one_default rows side other a b = a ∙ sym b

one_choice : (IsSide : List Row → ℕ → Type 0) → OneSide IsSide → (rows : List Row) (options others : Options) → AreTold IsSide rows options → AreTold IsSide rows others → options ≡ others
one_choice IsSide one rows options others a b =
    let rules = one_rule options.rule others.rule (some_one _ _ _ a.0.0 b.0.0) in
    let sides = one rows options.side others.side a.1 b.1 in
    let across = some_one _ options.ramp_x others.ramp_x a.0.1.0 b.0.1.0 in
    let along = some_one _ options.ramp_y others.ramp_y a.0.1.1.0 b.0.1.1.0 in
    let steeps = some_one _ options.steep others.steep a.0.1.1.1 b.0.1.1.1 in
    λ i. record { rule = rules i; side = sides i; ramp_x = across i; ramp_y = along i; steep = steeps i }

asks_told : (IsSide : List Row → ℕ → Type 0) (command : Text) (words : List (Bor Text)) (options : Options) (a : AsksBy IsSide command words options) → AreTold IsSide a.rows options
asks_told IsSide command words options a = ((a.rule_is, (a.ramp_x_is, (a.ramp_y_is, a.steep_is))), a.side_is)

pub one_command : OneCommand
one_command words command other options others a b =
    let same = same_asked words command other a.rows b.rows a.named b.named in
    (same.0, one_choice IsSideAsked one_asked b.rows options others (subst (λ (rows : List Row). AreTold IsSideAsked rows options) same.1 (asks_told IsSideAsked command words options a)) (asks_told IsSideAsked other words others b))

-- two bounds of an integer are one
bound_prop : {a b : ℤ} (p q : a ≤ℤ b) → p ≡ q
bound_prop p q = λ i. record { le = T_prop _ p.le q.le i }

same_terms : (s t : Terms) → s.ramp_x ≡ t.ramp_x → s.ramp_y ≡ t.ramp_y → s.steep ≡ t.steep → s ≡ t
same_terms s t xs ys steeps = λ i.
    record {
      ramp_x = xs i;
      ramp_y = ys i;
      steep = steeps i;
      across = is_prop→PathP (λ j. IsSlope (xs j)) (λ j. ×_prop bound_prop bound_prop) s.across t.across i;
      along = is_prop→PathP (λ j. IsSlope (ys j)) (λ j. ×_prop bound_prop bound_prop) s.along t.along i;
      steepness = is_prop→PathP (λ j. IsSteepness (steeps j)) (λ j. ×_prop le_prop le_prop) s.steepness t.steepness i;
    }

same_settings : (s t : Settings) → options_of s ≡ options_of t → s.workers ≡ t.workers → s ≡ t
same_settings s t options crews =
    let terms : s.terms ≡ t.terms = same_terms s.terms t.terms (ap (λ (o : Options). o.ramp_x) options) (ap (λ (o : Options). o.ramp_y) options) (ap (λ (o : Options). o.steep) options) in
    λ i.
    record {
      rule = (options i).rule;
      side = (options i).side;
      terms = terms i;
      workers = crews i;
      sides = is_prop→PathP (λ j. IsTileSide (options j).side) (λ j. ×_prop le_prop le_prop) s.sides t.sides i;
      crew = is_prop→PathP (λ j. IsWorkers (crews j)) (λ j. ×_prop le_prop le_prop) s.crew t.crew i;
    }

same_trial : (s t : TrialSession) → s.seed ≡ t.seed → s.width ≡ t.width → s.height ≡ t.height → s.settings ≡ t.settings → s ≡ t
same_trial s t seeds widths heights settings = λ i.
    record {
      seed = seeds i;
      width = widths i;
      height = heights i;
      settings = settings i;
      across = is_prop→PathP (λ j. IsTrialSide (widths j)) (λ j. ×_prop le_prop le_prop) s.across t.across i;
      along = is_prop→PathP (λ j. IsTrialSide (heights j)) (λ j. ×_prop le_prop le_prop) s.along t.along i;
      few = is_prop→PathP (λ j. widths j * heights j ≤ max_tiled_pixels) (λ j. le_prop) s.few t.few i;
    }

same_screening : (s t : Screening) → s.weight ≡ t.weight → s.radius ≡ t.radius → s.count ≡ t.count → s.patch ≡ t.patch → s.side ≡ t.side → s ≡ t
same_screening s t weights radii counts patches sides = λ i.
    record {
      weight = weights i;
      radius = radii i;
      count = counts i;
      patch = patches i;
      side = sides i;
      radii = is_prop→PathP (λ j. IsScreenRadius (radii j)) (λ j. le_prop) s.radii t.radii i;
      counts = is_prop→PathP (λ j. IsNearCount (counts j)) (λ j. le_prop) s.counts t.counts i;
      patches = is_prop→PathP (λ j. IsPatchSize (patches j)) (λ j. le_prop) s.patches t.patches i;
      sides = is_prop→PathP (λ j. IsTileSide (sides j)) (λ j. ×_prop le_prop le_prop) s.sides t.sides i;
    }

same_displacing : (s t : Displacing) → s.wavelength ≡ t.wavelength → s.x ≡ t.x → s.y ≡ t.y → s.block ≡ t.block → s ≡ t
same_displacing s t waves columns rows blocks = λ i.
    record {
      wavelength = waves i;
      x = columns i;
      y = rows i;
      block = blocks i;
      wave = is_prop→PathP (λ j. IsWavelengthAsked (waves j)) (λ j. ×_prop le_prop le_prop) s.wave t.wave i;
      column = is_prop→PathP (λ j. IsReferencePlace (columns j)) (λ j. le_prop) s.column t.column i;
      row = is_prop→PathP (λ j. IsReferencePlace (rows j)) (λ j. le_prop) s.row t.row i;
      blocks = is_prop→PathP (λ j. IsBlockAsked (blocks j)) (λ j. ×_prop le_prop le_prop) s.blocks t.blocks i;
    }

same_watching : (s t : Watching) → s.settings ≡ t.settings → s.readers ≡ t.readers → s.reads ≡ t.reads → s ≡ t
same_watching s t settings readers reads = λ i.
    record {
      settings = settings i;
      readers = readers i;
      reads = reads i;
      crowd = is_prop→PathP (λ j. IsReaders (readers j)) (λ j. ×_prop le_prop le_prop) s.crowd t.crowd i;
      looks = is_prop→PathP (λ j. IsReads (reads j)) (λ j. ×_prop le_prop le_prop) s.looks t.looks i;
    }

same_parting : (s t : Parting) → s.settings ≡ t.settings → s.margin ≡ t.margin → s.least ≡ t.least → s ≡ t
same_parting s t settings margins leasts = λ i.
    record {
      settings = settings i;
      margin = margins i;
      least = leasts i;
      large = is_prop→PathP (λ j. IsLeastPart (leasts j)) (λ j. ×_prop le_prop le_prop) s.large t.large i;
    }

same_told : (rows : List Row) (s t : Settings) → TellsSettings rows s → TellsSettings rows t → s.workers ≡ t.workers → s ≡ t
same_told rows s t a b crew = same_settings s t (one_choice IsSideAsked one_asked rows (options_of s) (options_of t) a b) crew

same_whole : (rows : List Row) (s t : Settings) → TellsWhole rows s → TellsWhole rows t → s.workers ≡ t.workers → s ≡ t
same_whole rows s t a b crew = same_settings s t (one_choice IsSideByDefault one_default rows (options_of s) (options_of t) a b) crew

one_told : (command : Text) (rows : List Row) (r q : Request) → TellsRequest command rows r → TellsRequest command rows q → r ≡ q
one_told command rows (Unwrap s) (Unwrap t) a b = ap Unwrap (same_told rows s t a.1.0 b.1.0 (cc))
one_told command rows (Grid s) (Grid t) a b = ap Grid (same_told rows s t a.1.0 b.1.0 (cc))
one_told command rows (Check s) (Check t) a b = ap Check (same_told rows s t a.1.0 b.1.0 (cc))
one_told command rows (Trial s) (Trial t) a b = ap Trial (same_trial s t (cc) (cc) (cc) (same_told rows s.settings t.settings a.1.0.0 b.1.0.0 (cc)))
one_told command rows (Screen s) (Screen t) a b = ap Screen (same_screening s t (some_one _ _ _ a.1.0 b.1.0) (some_one _ _ _ a.1.1.0 b.1.1.0) (some_one _ _ _ a.1.1.1.0 b.1.1.1.0) (some_one _ _ _ a.1.1.1.1.0 b.1.1.1.1.0) (some_one _ _ _ a.1.1.1.1.1 b.1.1.1.1.1))
one_told command rows Closure Closure a b = refl
one_told command rows (Displacement s) (Displacement t) a b = ap Displacement (same_displacing s t (some_one _ _ _ a.1.0 b.1.0) (some_one _ _ _ a.1.1.0 b.1.1.0) (some_one _ _ _ a.1.1.1.0 b.1.1.1.0) (some_one _ _ _ a.1.1.1.1 b.1.1.1.1))
one_told command rows (Whole s) (Whole t) a b = ap Whole (same_whole rows s t a.1.0 b.1.0 (cc))
one_told command rows (CheckWhole s) (CheckWhole t) a b = ap CheckWhole (same_whole rows s t a.1.0 b.1.0 (cc))
one_told command rows (Watch s) (Watch t) a b = ap Watch (same_watching s t (same_told rows s.settings t.settings a.1.0.0 b.1.0.0 (some_one _ _ _ a.1.0.1 b.1.0.1)) (some_one _ _ _ a.1.1.0 b.1.1.0) (some_one _ _ _ a.1.1.1 b.1.1.1))
one_told command rows Nearest Nearest a b = refl
one_told command rows (Parts s) (Parts t) a b = ap Parts (same_parting s t (same_whole rows s.settings t.settings a.1.0.0 b.1.0.0 (cc)) (some_one _ _ _ a.1.1.0 b.1.1.0) (some_one _ _ _ a.1.1.1 b.1.1.1))
one_told command rows r q a b = absurd (apart (command_of r) (command_of q) refl (sym (told_by command rows r a) ∙ told_by command rows q b))

pub one_request : OneRequest
one_request words r q a b = one_told b.command b.rows r q (tells_by words r a b.command b.rows b.named) b.tells

-- ---- what words that are taken tell

-- a number that matches have
number_there : (id : Text) (least most : ℕ) (rows : List Row) → HasNumber id least most rows → (n : ℕ) × (number_asked id rows ≡ Some n) × ((least ≤ n) × (n ≤ most))
number_there id least most rows h =
    (digits_value 10 (without_leading_plus h.text), ap (option_map (λ (t : Text). digits_value 10 (without_leading_plus t))) h.told, (h.at_least, h.at_most))

-- a slope that they have
pub slope_fits : (n : ℕ) → n ≤ 65535 → IsSlope (slope_for n)
slope_fits n high = go (nat_lt n 32768) refl
  where
    go : (b : Bool) → nat_lt n 32768 ≡ b → IsSlope (cond b (pos n) (pos n -ℤ pos 65536))
    go true small = (omega (arith, ints), omega (arith, ints, ltb-true n 32768 small))
    go false large = (omega (arith, ints, ltb-false n 32768 large), omega (arith, ints, high))

slope_there : (id : Text) (rows : List Row) → HasNumber id 0 65535 rows → (slope : ℤ) × (slope_asked id rows ≡ Some slope) × IsSlope slope
slope_there id rows h = let n = number_there id 0 65535 rows h in (slope_for n.0, ap (option_map slope_for) n.1, slope_fits n.0 n.2.1)

-- the number that is asked for is within its limits
pub number_within : (id : Text) (least most : ℕ) (rows : List Row) (n : ℕ) → HasNumber id least most rows → number_asked id rows ≡ Some n → (least ≤ n) × (n ≤ most)
number_within id least most rows n h e = let there = number_there id least most rows h in subst (λ (m : ℕ). (least ≤ m) × (m ≤ most)) (some_one _ there.0 n there.1 e) there.2

-- the settings of a command, with this side and so many workers
terms_there : (rows : List Row) → HasTerms rows → is_named rule_entry.takes (first_of (codes "rule") rows) ≡ true → (side : ℕ) → IsTileSide side → (workers : ℕ) → IsWorkers workers → (settings : Settings) × (TellsTerms rows settings × ((settings.side ≡ side) × (settings.workers ≡ workers)))
terms_there rows has names side sides workers crew =
    let rule = rule_of_text has.0.0 (ap (is_named rule_entry.takes) (sym has.0.1) ∙ names) in
    let x = slope_there (codes "ramp-x") rows has.1.0 in
    let y = slope_there (codes "ramp-y") rows has.1.1.0 in
    let steep = number_there (codes "steep") 1 16 rows has.1.1.1.0 in
    let terms : Terms = record { ramp_x = x.0; ramp_y = y.0; steep = steep.0; across = x.2; along = y.2; steepness = steep.2 } in
    (record { rule = rule.0; side = side; terms = terms; workers = workers; sides = sides; crew = crew }, ((has.0.1 ∙ ap Some rule.1, (x.1, (y.1, steep.1))), (refl, refl)))

settings_there : (rows : List Row) → HasChecking rows → is_named rule_entry.takes (first_of (codes "rule") rows) ≡ true → (workers : ℕ) → IsWorkers workers → (settings : Settings) × (TellsSettings rows settings × (settings.workers ≡ workers))
settings_there rows has names workers crew =
    let side = number_there (codes "tile") 2 128 rows has.0 in
    let s = terms_there rows has.1 names side.0 side.2 workers crew in
    (s.0, ((s.1.0, side.1 ∙ ap Some (sym s.1.1.0)), s.1.1.1))

all_there : (rows : List Row) → HasSolving rows → is_named rule_entry.takes (first_of (codes "rule") rows) ≡ true → (settings : Settings) × TellsAll rows settings
all_there rows has names =
    let workers = number_there (codes "workers") 1 8 rows has.1.1.1.1.1.0 in
    let s = settings_there rows (has.0, (has.1.0, (has.1.1.0, (has.1.1.1.0, (has.1.1.1.1.0, tt))))) names workers.0 workers.2 in
    (s.0, (s.1.0, workers.1 ∙ ap Some (sym s.1.1)))

abbrev SomeAsked : List (Bor Text) → Type 0
SomeAsked words = IsTooLarge words ⊎ ((request : Request) × IsRequest words request)

-- matches of a command that have its values and its names tell a request, or too many pixels
abbrev Asking : CommandForm → Type 0
Asking form = (words : List (Bor Text)) (rows : List Row) → AreTaken words → asked words ≡ Some (form.command, rows) → HasValues (arguments_of form) rows → has_names rows form ≡ true → SomeAsked words

asks_unwrap : Asking unwrap_form
asks_unwrap words rows taken named has names =
    let s = all_there rows has (and_parts _ _ names).0 in
    inr (Unwrap s.0, record { taken = taken; command = codes "unwrap"; rows = rows; named = named; tells = (refl, s.1) })

asks_grid : Asking grid_form
asks_grid words rows taken named has names =
    let s = all_there rows has (and_parts _ _ names).0 in
    inr (Grid s.0, record { taken = taken; command = codes "grid"; rows = rows; named = named; tells = (refl, s.1) })

asks_check : Asking check_form
asks_check words rows taken named has names =
    let s = settings_there rows has (and_parts _ _ names).0 2 (omega arith, omega arith) in
    inr (Check s.0, record { taken = taken; command = codes "check"; rows = rows; named = named; tells = (refl, s.1) })

asks_trial : Asking trial_form
asks_trial words rows taken named has names =
    let s = all_there rows has.1.1.1 (and_parts _ _ names).0 in
    let seed = number_there (codes "seed") 0 18446744073709551615 rows has.0 in
    let width = number_there (codes "width") 1 4096 rows has.1.0 in
    let height = number_there (codes "height") 1 4096 rows has.1.1.0 in
    let asks : Asks (codes "trial") words (options_of s.0) = record { taken = taken; rows = rows; named = named; rule_is = s.1.0.0.0; side_is = s.1.0.1; ramp_x_is = s.1.0.0.1.0; ramp_y_is = s.1.0.0.1.1.0; steep_is = s.1.0.0.1.1.1 } in
    elim (cases_lt max_tiled_pixels (width.0 * height.0)) [
      | inl large ↦ inl (seed.0, width.0, height.0, options_of s.0, (record { asks = asks; seed_is = seed.1; width_is = width.1; height_is = height.1 }, large))
      | inr few ↦
          let trial : TrialSession = record { seed = seed.0; width = width.0; height = height.0; settings = s.0; across = width.2; along = height.2; few = few } in
          inr (Trial trial, record { taken = taken; command = codes "trial"; rows = rows; named = named; tells = (refl, (s.1, (seed.1, (width.1, height.1)))) })
    ]

asks_screen : Asking screen_form
asks_screen words rows taken named has names =
    let weight = number_there (codes "weight") 0 65535 rows has.0 in
    let radius = number_there (codes "radius") 0 64 rows has.1.0 in
    let count = number_there (codes "count") 0 16641 rows has.1.1.0 in
    let patch = number_there (codes "patch") 0 4194304 rows has.1.1.1.0 in
    let side = number_there (codes "tile") 2 128 rows has.1.1.1.1.0 in
    let screening : Screening = record { weight = weight.0; radius = radius.0; count = count.0; patch = patch.0; side = side.0; radii = radius.2.1; counts = count.2.1; patches = patch.2.1; sides = side.2 } in
    inr (Screen screening, record { taken = taken; command = codes "screen"; rows = rows; named = named; tells = (refl, (weight.1, (radius.1, (count.1, (patch.1, side.1))))) })

asks_closure : Asking closure_form
asks_closure words rows taken named has names = inr (Closure, record { taken = taken; command = codes "closure"; rows = rows; named = named; tells = (refl, tt) })

asks_displacement : Asking displacement_form
asks_displacement words rows taken named has names =
    let wave = number_there (codes "wavelength") 1 1000000000 rows has.0 in
    let x = number_there (codes "x") 0 4095 rows has.1.0 in
    let y = number_there (codes "y") 0 4095 rows has.1.1.0 in
    let block = number_there (codes "block") 1 64 rows has.1.1.1.0 in
    let displacing : Displacing = record { wavelength = wave.0; x = x.0; y = y.0; block = block.0; wave = wave.2; column = x.2.1; row = y.2.1; blocks = block.2 } in
    inr (Displacement displacing, record { taken = taken; command = codes "displacement"; rows = rows; named = named; tells = (refl, (wave.1, (x.1, (y.1, block.1)))) })

asks_whole : Asking whole_form
asks_whole words rows taken named has names =
    let workers = number_there (codes "workers") 1 8 rows has.1.1.1.1.0 in
    let s = terms_there rows (has.0, (has.1.0, (has.1.1.0, (has.1.1.1.0, tt)))) (and_parts _ _ names).0 64 (omega arith, omega arith) workers.0 workers.2 in
    inr (Whole s.0, record { taken = taken; command = codes "whole"; rows = rows; named = named; tells = (refl, ((s.1.0, s.1.1.0), workers.1 ∙ ap Some (sym s.1.1.1))) })

asks_check_whole : Asking check_whole_form
asks_check_whole words rows taken named has names =
    let s = terms_there rows has (and_parts _ _ names).0 64 (omega arith, omega arith) 2 (omega arith, omega arith) in
    inr (CheckWhole s.0, record { taken = taken; command = codes "check-whole"; rows = rows; named = named; tells = (refl, ((s.1.0, s.1.1.0), s.1.1.1)) })

asks_watch : Asking watch_form
asks_watch words rows taken named has names =
    let s = all_there rows (has.0, (has.1.0, (has.1.1.0, (has.1.1.1.0, (has.1.1.1.1.0, (has.1.1.1.1.1.0, tt)))))) (and_parts _ _ names).0 in
    let readers = number_there (codes "readers") 1 8 rows has.1.1.1.1.1.1.0 in
    let reads = number_there (codes "reads") 1 4096 rows has.1.1.1.1.1.1.1.0 in
    let watching : Watching = record { settings = s.0; readers = readers.0; reads = reads.0; crowd = readers.2; looks = reads.2 } in
    inr (Watch watching, record { taken = taken; command = codes "watch"; rows = rows; named = named; tells = (refl, (s.1, (readers.1, reads.1))) })

asks_nearest : Asking nearest_form
asks_nearest words rows taken named has names = inr (Nearest, record { taken = taken; command = codes "nearest"; rows = rows; named = named; tells = (refl, tt) })

asks_parts : Asking parts_form
asks_parts words rows taken named has names =
    let s = terms_there rows (has.0, (has.1.0, (has.1.1.0, (has.1.1.1.0, tt)))) (and_parts _ _ names).0 64 (omega arith, omega arith) 2 (omega arith, omega arith) in
    let margin = number_there (codes "margin") 0 4294967295 rows has.1.1.1.1.0 in
    let least = number_there (codes "least") 1 4194304 rows has.1.1.1.1.1.0 in
    let parting : Parting = record { settings = s.0; margin = margin.0; least = least.0; large = least.2 } in
    inr (Parts parting, record { taken = taken; command = codes "parts"; rows = rows; named = named; tells = (refl, (((s.1.0, s.1.1.0), s.1.1.1), (margin.1, least.1))) })

-- what words that clap takes ask for
record Reads (words : List Text) : Type 0 where
  form : CommandForm
  among : OfOne (λ each. form ≡ each) forms
  rows : List Row
  named : subcommand_of stated words ≡ Some (form.command, rows)
  values : HasValues (arguments_of form) rows

reads_some : (words : List Text) → fault_of stated words ≡ [] → Reads words
reads_some words e =
    let n = named words e in
    record {
      form = n.form;
      among = n.among;
      rows = leaf_rows n.form n.rest;
      named = ap (subcommand_of stated) n.words_are ∙ asks_form n.form n.among n.rest;
      values = has_values n.form (sound n.form n.among) n.rest n.taken;
    }

-- words that are taken ask for too many pixels, or for something
asked_some : (words : List (Bor Text)) → AreTaken words → SomeAsked words
asked_some words taken =
    let r = reads_some (texts words) taken.parsed in
    let names = and_parts (has_names r.rows r.form) true (sym ((sound r.form r.among).names r.rows) ∙ ap asks_by_names (sym r.named) ∙ taken.in_names) in
    each_form Asking forms (asks_unwrap, (asks_grid, (asks_check, (asks_trial, (asks_screen, (asks_closure, (asks_displacement, (asks_whole, (asks_check_whole, (asks_watch, (asks_nearest, (asks_parts, tt)))))))))))) r.form r.among words r.rows taken r.named r.values names.0

-- ---- refused, or asking

-- rows with few pixels, and so a request, do not tell too many
few_told : (width height : ℕ) (rows : List Row) → number_asked (codes "width") rows ≡ Some width → number_asked (codes "height") rows ≡ Some height → width * height ≤ max_tiled_pixels → TellsTooMany rows → ⊥
few_told width height rows across along few large =
    let widths : large.0 ≡ width = cc in
    let heights : large.1 ≡ height = cc in
    omega (arith, ap₂ (λ (m n : ℕ). m * n) widths heights, large.2.1.1, few)

not_few : (command : Text) (rows : List Row) (request : Request) → command ≡ codes "trial" → TellsTooMany rows → TellsRequest command rows request → ⊥
not_few command rows (Trial t) trial large tells = few_told t.width t.height rows tells.1.1.1.0 tells.1.1.1.1 t.few large
not_few command rows request trial large tells = apart (codes "trial") (command_of request) refl (sym trial ∙ told_by command rows request tells)

refusal_is : (words : List (Bor Text)) (command : Text) (rows : List Row) → fault_of stated (texts words) ≡ [] → asked words ≡ Some (command, rows) → TellsNothing command rows → IsRefused words
refusal_is words command rows parsed named nothing = go (asks_by_names (asked words)) refl nothing
  where
    go : (b : Bool) → asks_by_names (asked words) ≡ b → TellsNothing command rows → IsRefused words
    go false e h = inl (λ taken. let in_names = taken.in_names in absurd cc)
    go true e (inl missed) = absurd (let bad : asks_by_names (asked words) ≡ false = ap asks_by_names named ∙ missed in cc)
    go true e (inr large) = elim (asked_some words (record { parsed = parsed; in_names = e })) [
      | inl l ↦ inr l
      | inr r ↦ absurd (not_few command rows r.0 large.0 large.1 (tells_by words r.0 r.1 command rows named))
    ]

refused_or_asks : (words : List (Bor Text)) → IsRefused words ⊎ AskSomething words
refused_or_asks words = go (fault_of stated (texts words)) refl (asks_by_names (asked words)) refl
  where
    go : (faults : Kinds) → fault_of stated (texts words) ≡ faults → (b : Bool) → asks_by_names (asked words) ≡ b → IsRefused words ⊎ AskSomething words
    go (kind ∷ kinds) is b e = inl (inl (λ taken. not_nil kind kinds (sym is ∙ taken.parsed)))
    go [] is false e = inl (inl (λ taken. let in_names = taken.in_names in absurd cc))
    go [] is true e = elim (asked_some words (record { parsed = is; in_names = e })) [
      | inl large ↦ inl (inr large)
      | inr r ↦ inr r
    ]

not_large : (words : List (Bor Text)) (command : Text) (rows : List Row) → asked words ≡ Some (command, rows) → (command ≡ codes "trial" → TellsTooMany rows → ⊥) → IsTooLarge words → ⊥
not_large words command rows named few large =
    let x = large.4.0 in
    let same = same_asked words command (codes "trial") rows x.asks.rows named x.asks.named in
    few same.0 (subst TellsTooMany (sym same.1) (large.1, large.2, (x.width_is, (x.height_is, large.4.1))))

never_both : (words : List (Bor Text)) → IsRefused words → AskSomething words → ⊥
never_both words (inl not_taken) a = not_taken a.1.taken
never_both words (inr large) a = not_large words a.1.command a.1.rows a.1.named (λ e many. not_few a.1.command a.1.rows a.0 e many a.1.tells) large

pub refused_or_asking : RefusedOrAsking
refused_or_asking words = (refused_or_asks words, never_both words)

-- ---- commands are requests

-- words that are taken, and do not ask for too many pixels, are a request
pub some_request : (words : List (Bor Text)) (command : Text) (rows : List Row) → AreTaken words → asked words ≡ Some (command, rows) → (command ≡ codes "trial" → TellsTooMany rows → ⊥) → AskSomething words
some_request words command rows taken named few = elim (asked_some words taken) [
  | inl large ↦ absurd (not_large words command rows named few large)
  | inr r ↦ r
]

-- so are those that ask for another command
pub other_request : (words : List (Bor Text)) (command : Text) (rows : List Row) → AreTaken words → asked words ≡ Some (command, rows) → bytes_eq command (codes "trial") ≡ false → AskSomething words
other_request words command rows taken named other = some_request words command rows taken named (λ e many. apart command (codes "trial") other e)

-- the options of a command are those that the rows tell
pub has_asked : (words : List (Bor Text)) (command : Text) (options : Options) (a : Asks command words options) (s : Settings) → TellsSettings a.rows s → options_of s ≡ options
has_asked words command options a s tells = one_choice IsSideAsked one_asked a.rows (options_of s) options tells (asks_told IsSideAsked command words options a)

pub has_whole : (words : List (Bor Text)) (command : Text) (options : Options) (a : AsksBy IsSideByDefault command words options) (s : Settings) → TellsWhole a.rows s → options_of s ≡ options
has_whole words command options a s tells = one_choice IsSideByDefault one_default a.rows (options_of s) options tells (asks_told IsSideByDefault command words options a)

-- a request that tells settings is asked for with their options
asks_of : (IsSide : List Row → ℕ → Type 0) (words : List (Bor Text)) (r : Request) (s : Settings) (is : IsRequest words r) → AreTold IsSide is.rows (options_of s) → AsksBy IsSide (command_of r) words (options_of s)
asks_of IsSide words r s is tells =
    record { taken = is.taken; rows = is.rows; named = is.named ∙ ap (λ (t : Text). Some (t, is.rows)) (told_by is.command is.rows r is.tells); rule_is = tells.0.0; side_is = tells.1; ramp_x_is = tells.0.1.0; ramp_y_is = tells.0.1.1.0; steep_is = tells.0.1.1.1 }

by_unwrap : (words : List (Bor Text)) (options : Options) (a : IsCommand words options) (q : Request) → IsRequest words q → TellsRequest (codes "unwrap") a.rows q → (settings : Settings) × (options_of settings ≡ options) × IsRequest words (Unwrap settings)
by_unwrap words options a (Unwrap s) is tells = (s, has_asked words (codes "unwrap") options a s tells.1.0, is)
by_unwrap words options a q is tells = absurd (apart (codes "unwrap") (command_of q) refl (told_by (codes "unwrap") a.rows q tells))

by_grid : (words : List (Bor Text)) (options : Options) (a : IsGridCommand words options) (q : Request) → IsRequest words q → TellsRequest (codes "grid") a.rows q → (settings : Settings) × (options_of settings ≡ options) × IsRequest words (Grid settings)
by_grid words options a (Grid s) is tells = (s, has_asked words (codes "grid") options a s tells.1.0, is)
by_grid words options a q is tells = absurd (apart (codes "grid") (command_of q) refl (told_by (codes "grid") a.rows q tells))

by_check : (words : List (Bor Text)) (options : Options) (a : IsCheck words options) (q : Request) → IsRequest words q → TellsRequest (codes "check") a.rows q → (settings : Settings) × (options_of settings ≡ options) × IsRequest words (Check settings)
by_check words options a (Check s) is tells = (s, has_asked words (codes "check") options a s tells.1.0, is)
by_check words options a q is tells = absurd (apart (codes "check") (command_of q) refl (told_by (codes "check") a.rows q tells))

by_trial : (words : List (Bor Text)) (seed width height : ℕ) (options : Options) (a : IsTrialCommand words seed width height options) (q : Request) → IsRequest words q → TellsRequest (codes "trial") a.asks.asks.rows q
    → (trial : TrialSession) × IsSession seed width height options trial × IsRequest words (Trial trial)
by_trial words seed width height options a (Trial t) is tells =
    let asks = a.asks in
    (t, record { seed_is = some_one _ _ _ tells.1.1.0 asks.seed_is; width_is = some_one _ _ _ tells.1.1.1.0 asks.width_is; height_is = some_one _ _ _ tells.1.1.1.1 asks.height_is; options_are = has_asked words (codes "trial") options asks.asks t.settings tells.1.0.0 }, is)
by_trial words seed width height options a q is tells = absurd (apart (codes "trial") (command_of q) refl (told_by (codes "trial") a.asks.asks.rows q tells))

by_whole : (words : List (Bor Text)) (options : Options) (a : IsWhole words options) (q : Request) → IsRequest words q → TellsRequest (codes "whole") a.rows q → (settings : Settings) × (options_of settings ≡ options) × IsRequest words (Whole settings)
by_whole words options a (Whole s) is tells = (s, has_whole words (codes "whole") options a s tells.1.0, is)
by_whole words options a q is tells = absurd (apart (codes "whole") (command_of q) refl (told_by (codes "whole") a.rows q tells))

by_check_whole : (words : List (Bor Text)) (options : Options) (a : IsCheckWhole words options) (q : Request) → IsRequest words q → TellsRequest (codes "check-whole") a.rows q → (settings : Settings) × (options_of settings ≡ options) × IsRequest words (CheckWhole settings)
by_check_whole words options a (CheckWhole s) is tells = (s, has_whole words (codes "check-whole") options a s tells.1.0, is)
by_check_whole words options a q is tells = absurd (apart (codes "check-whole") (command_of q) refl (told_by (codes "check-whole") a.rows q tells))

by_watch : (words : List (Bor Text)) (options : Options) (a : IsWatch words options) (q : Request) → IsRequest words q → TellsRequest (codes "watch") a.rows q → (watching : Watching) × (options_of watching.settings ≡ options) × IsRequest words (Watch watching)
by_watch words options a (Watch w) is tells = (w, has_asked words (codes "watch") options a w.settings tells.1.0.0, is)
by_watch words options a q is tells = absurd (apart (codes "watch") (command_of q) refl (told_by (codes "watch") a.rows q tells))

pub unwrap_is_request : UnwrapIsRequest
unwrap_is_request words = (
  λ options a. (let q = other_request words (codes "unwrap") a.rows a.taken a.named refl in by_unwrap words options a q.0 q.1 (tells_by words q.0 q.1 (codes "unwrap") a.rows a.named)),
  λ s is. asks_of IsSideAsked words (Unwrap s) s is is.tells.1.0,
)

pub grid_is_request : GridIsRequest
grid_is_request words = (
  λ options a. (let q = other_request words (codes "grid") a.rows a.taken a.named refl in by_grid words options a q.0 q.1 (tells_by words q.0 q.1 (codes "grid") a.rows a.named)),
  λ s is. asks_of IsSideAsked words (Grid s) s is is.tells.1.0,
)

pub check_is_request : CheckIsRequest
check_is_request words = (
  λ options a. (let q = other_request words (codes "check") a.rows a.taken a.named refl in by_check words options a q.0 q.1 (tells_by words q.0 q.1 (codes "check") a.rows a.named)),
  λ s is. asks_of IsSideAsked words (Check s) s is is.tells.1.0,
)

pub whole_is_request : WholeIsRequest
whole_is_request words = (
  λ options a. (let q = other_request words (codes "whole") a.rows a.taken a.named refl in by_whole words options a q.0 q.1 (tells_by words q.0 q.1 (codes "whole") a.rows a.named)),
  λ s is. asks_of IsSideByDefault words (Whole s) s is is.tells.1.0,
)

pub check_whole_is_request : CheckWholeIsRequest
check_whole_is_request words = (
  λ options a. (let q = other_request words (codes "check-whole") a.rows a.taken a.named refl in by_check_whole words options a q.0 q.1 (tells_by words q.0 q.1 (codes "check-whole") a.rows a.named)),
  λ s is. asks_of IsSideByDefault words (CheckWhole s) s is is.tells.1.0,
)

pub watch_is_request : WatchIsRequest
watch_is_request words = (
  λ options a. (let q = other_request words (codes "watch") a.rows a.taken a.named refl in by_watch words options a q.0 q.1 (tells_by words q.0 q.1 (codes "watch") a.rows a.named)),
  λ w is. asks_of IsSideAsked words (Watch w) w.settings is is.tells.1.0.0,
)

trial_of : (words : List (Bor Text)) (t : TrialSession) → IsRequest words (Trial t) → IsTrialCommand words t.seed t.width t.height (options_of t.settings)
unfolding asks_of
trial_of words t is =
    let told = is.tells.1.1 in
    record { asks = record { asks = asks_of IsSideAsked words (Trial t) t.settings is is.tells.1.0.0; seed_is = told.0; width_is = told.1.0; height_is = told.1.1 }; pixels = t.few }

pub trial_is_request : TrialIsRequest
trial_is_request words = (
  λ seed width height options a. (
      let asks = a.asks.asks in
      let q = some_request words (codes "trial") asks.rows asks.taken asks.named (λ e. few_told width height asks.rows a.asks.width_is a.asks.height_is a.pixels) in
      by_trial words seed width height options a q.0 q.1 (tells_by words q.0 q.1 (codes "trial") asks.rows asks.named)
      ),
  λ t is. trial_of words t is,
)

-- ---- what the matches tell

-- a rule that settings have is a name
names_hold : (rows : List Row) (s : Settings) → TellsTerms rows s → ((is_named rule_entry.takes (first_of (codes "rule") rows) && true) && true) ≡ true
names_hold rows s tells = ap (λ (o : Option Text). (is_named rule_entry.takes o && true) && true) tells.0 ∙ each s.rule
  where
    each : (r : RuleKind) → ((is_named rule_entry.takes (Some (rule_name r)) && true) && true) ≡ true
    each Least = refl
    each r = refl

-- so the command of a request has its names
names_of : (rows : List Row) (r : Request) → TellsRequest (command_of r) rows r → asks_by_names (Some (command_of r, rows)) ≡ true
names_of rows (Unwrap s) tells = names_hold rows s tells.1.0.0
names_of rows (Grid s) tells = names_hold rows s tells.1.0.0
names_of rows (Check s) tells = names_hold rows s tells.1.0.0
names_of rows (Trial t) tells = names_hold rows t.settings tells.1.0.0.0
names_of rows (Whole s) tells = names_hold rows s tells.1.0.0
names_of rows (CheckWhole s) tells = names_hold rows s tells.1.0.0
names_of rows (Watch w) tells = names_hold rows w.settings tells.1.0.0.0
names_of rows (Parts p) tells = names_hold rows p.settings tells.1.0.0.0
names_of rows r tells = refl

names_told : (command : Text) (rows : List Row) (request : Request) → TellsRequest command rows request → asks_by_names (Some (command, rows)) ≡ true
names_told command rows request tells =
    let told = told_by command rows request tells in
    ap (λ (t : Text). asks_by_names (Some (t, rows))) told ∙ names_of rows request (subst (λ (t : Text). TellsRequest t rows request) told tells)

pub request_told : (words : List (Bor Text)) (command : Text) (rows : List Row) (request : Request) → fault_of stated (texts words) ≡ [] → asked words ≡ Some (command, rows) → TellsRequest command rows request → IsRequest words request
request_told words command rows request parsed named tells =
    record { taken = record { parsed = parsed; in_names = ap asks_by_names named ∙ names_told command rows request tells }; command = command; rows = rows; named = named; tells = tells }

pub asking_cause : (words : List (Bor Text)) (command : Text) (rows : List Row) (fault : WordsFault) → fault_of stated (texts words) ≡ [] → asked words ≡ Some (command, rows) → TellsRefusal command rows fault → HasWordsCause words fault
asking_cause words command rows fault parsed named tells = subst (HasWordsCause words) (sym tells.0) (refusal_is words command rows parsed named tells.1)

-- ---- matches

as_one : (P : CommandForm → Type 0) (form : CommandForm) → P form → (fs : List CommandForm) → OfOne (λ each. form ≡ each) fs → OfOne P fs
as_one P form p [] among = absurd among
as_one P form p (f ∷ fs) (inl e) = inl (subst P e p)
as_one P form p (f ∷ fs) (inr among) = inr (as_one P form p fs among)

-- the subcommand of the matches is that one
pub reads_as : (words : List Text) (command : Text) (rows : List Row) → fault_of stated words ≡ [] → subcommand_of stated words ≡ Some (command, rows) → ReadsAs command rows
reads_as words command rows e is =
    let some = reads_some words e in
    let same : (some.form.command, some.rows) ≡ (command, rows) = let named = some.named in cc in
    subst (λ (p : Text × List Row). ReadsAs p.0 p.1) same
    (as_one (λ form. (some.form.command ≡ form.command) × HasValues (arguments_of form) some.rows) some.form (refl, some.values) forms some.among)

-- the names of the commands differ
abbrev Differ : List CommandForm → Type 0
Differ [] = ⊤
Differ (f ∷ fs) = Each (λ g. bytes_eq f.command g.command ≡ false) fs × Differ fs

all_differ : Differ forms
all_differ = assumption

-- what matches have by the name of a command
abbrev HasOf : Text → List Row → CommandForm → Type 0
HasOf command rows f = (command ≡ f.command) × HasValues (arguments_of f) rows

abbrev Either : Bool → Type 0 → Type 0 → Type 0
Either true X Y = X
Either false X Y = Y

abbrev HasNamed : Text → List Row → List CommandForm → Type 0
HasNamed command rows [] = ⊥
HasNamed command rows (f ∷ fs) = Either (bytes_eq f.command command) (HasValues (arguments_of f) rows) (HasNamed command rows fs)

later : (f : CommandForm) (command : Text) (rows : List Row) (fs : List CommandForm) → Each (λ g. bytes_eq f.command g.command ≡ false) fs → OfOne (HasOf command rows) fs → bytes_eq f.command command ≡ false
later f command rows [] differ among = absurd among
later f command rows (g ∷ fs) differ (inl has) = ap (bytes_eq f.command) has.0 ∙ differ.0
later f command rows (g ∷ fs) differ (inr among) = later f command rows fs differ.1 among

has_named : (command : Text) (rows : List Row) (fs : List CommandForm) → Differ fs → OfOne (HasOf command rows) fs → HasNamed command rows fs
has_named command rows [] differ among = absurd among
has_named command rows (f ∷ fs) differ (inl has) =
    subst (λ (b : Bool). Either b (HasValues (arguments_of f) rows) (HasNamed command rows fs)) (sym ((bytes_eq-Decides f.command command).1 (sym has.0))) has.1
has_named command rows (f ∷ fs) differ (inr among) =
    subst (λ (b : Bool). Either b (HasValues (arguments_of f) rows) (HasNamed command rows fs)) (sym (later f command rows fs differ.0 among)) (has_named command rows fs differ.1 among)

pub has_own : (command name : Text) (rows : List Row) → name ≡ command → ReadsAs name rows → HasNamed command rows forms
has_own command name rows is reads = has_named command rows forms all_differ (subst (λ (t : Text). ReadsAs t rows) is reads)

module _ {Z : Type 0} where
  joined : (o : Option (Box SubCommand Z)) (name : Text) (rows : List Row) → Some name ≡ option_map (λ b. (out-SubCommand (box_value b)).name.now) o → Some rows ≡ option_map (λ p. p.1) (subcommand_rows o)
      → subcommand_rows o ≡ Some (name, rows)
  joined None name rows a b = absurd cc
  joined (Some box) name rows a b =
      let names : (out-SubCommand (box_value box)).name.now ≡ name = cc in
      let same : rows_of (found_of (out-SubCommand (box_value box)).matches) ≡ rows = cc in
      λ i. Some (names i, same i)

-- a text that is no rule's name
pub no_rule : (t : Text) → t ≢ codes "least" → t ≢ codes "mean" → t ≢ codes "product" → is_among t rule_names ≡ false
no_rule t least mean product =
    ap₂ (λ (a b : Bool). a || b) (other_bytes (codes "least") t (λ e. least (sym e)))
    (ap₂ (λ (a b : Bool). a || (b || false)) (other_bytes (codes "mean") t (λ e. mean (sym e))) (other_bytes (codes "product") t (λ e. product (sym e))))

-- what `get_str` gives is what the matches have
pub ruleset texts_read = (first_value-rows)

-- what `get_one` gives of a number that matches have
pub number_got : (E : Type 0) (G : List ℕ → Result ℕ E → Type 0) (k most : ℕ) (m : ArgMatches) (name : Text) (r : Option ℕ) → HasNumber name 0 most (rows_of (found_of m))
    → ((t : List ℕ) → one_text (found_of m) name ≡ Some t → ReadsOne G t r) → ((u : List ℕ) (x : Result ℕ E) → G u x → ParsesUnsigned k 10 u x) → most < 2 ^ k
    → (n : ℕ) × (r ≡ Some n) × (number_asked name (rows_of (found_of m)) ≡ Some n)
number_got E G k most m name r has reads only fits = go r (reads has.text (one_text-rows (found_of m) name ∙ has.told))
  where
    go : (o : Option ℕ) → ReadsOne G has.text o → (n : ℕ) × (o ≡ Some n) × (number_asked name (rows_of (found_of m)) ≡ Some n)
    go (Some v) read =
        let parsed = only has.text (Ok v) read in
        (v, refl, ap (option_map (λ (t : Text). digits_value 10 (without_leading_plus t))) has.told ∙ ap Some (sym parsed.1))
    go None read =
        let high = has.at_most in
        absurd (only has.text (Err read.0) read.1 (has.numeral, omega (arith, high, fits)))

-- ---- a parse by the stated command

words_cause : (kind : ErrorKind) (words : List (Bor Text)) → (kind ≡ OutOfMemory) ⊎ IsRefused words → HasWordsCause words (fault_of_kind kind)
words_cause OutOfMemory words h = tt
words_cause kind words (inl e) = absurd cc
words_cause kind words (inr refused) = refused

module _ (app : App) (is : app ≡ stated) (words : List (Bor Text)) where
  stated_simple : is_simple_and_free stated ≡ true
  stated_simple = refl

  -- what it takes and finds is what the stated command takes and finds
  pub found_by : (m : ArgMatches) (name : Text) (rows : List Row) → (is_simple_and_free app ≡ true → fault_of app (texts words) ≡ []) → HasMatchesOf app (texts words) m
      → Some name ≡ subcommand_name_of m → Some rows ≡ option_map (λ p. p.1) (subcommand_rows_of m) → (fault_of stated (texts words) ≡ []) × (asked words ≡ Some (name, rows))
  found_by m name rows parsed matches a b = (
    ap (λ (x : App). fault_of x (texts words)) (sym is) ∙ parsed (ap is_simple_and_free is ∙ stated_simple),
    sym ((matches (ap is_simple is ∙ refl)).1 ∙ ap (λ (x : App). subcommand_of x (texts words)) is) ∙ joined (out-ArgMatches m).subcommand name rows a b,
  )

  -- and it fails for want of memory, or where the stated command does
  pub failed_by : {T : Type 0} (r : Result T WordsFault) (e : Error) → IsErrAnd r (λ f. f ≡ fault_of_kind (kind_of e)) → (is_simple_and_free app ≡ true → HasKind (fault_of app (texts words)) e) → IfErr r (HasWordsCause words)
  failed_by (Ok x) e gives fails = absurd gives
  failed_by (Err f) e gives fails = subst (HasWordsCause words) (sym gives) (words_cause (kind_of e) words (go (fails (ap is_simple_and_free is ∙ stated_simple))))
    where
      go : HasKind (fault_of app (texts words)) e → (kind_of e ≡ OutOfMemory) ⊎ IsRefused words
      go (inl memory) = inl memory
      go (inr among) = inr (inl (λ taken. subst (IsAmong (kind_of e)) (ap (λ (x : App). fault_of x (texts words)) is ∙ taken.parsed) among))

-- What the table promises of each command as clap builds it, what its arguments have where the words are taken, and which words are its own.
use Rattle.std.proofs.Common.{◌≡◌, ◌∙◌, ◌&&◌, ◌+◌, ℕ, Bool, cond, true, false, not, suc, refl, sym, ap, ap₂, subst, inl, inr, List, [], ◌∷◌, ◌++◌, Option, Some, None, is_some, min, codes, ◌||◌, ◌⊎◌, zero, arith, map}
use Rattle.std.specs.Prelude.{⊤, option_and_then, option_map, slice_get, unwrap_or}
use Rattle.std.specs.Fmt.{digits}
use Rattle.std.specs.List.{list_any, find, fold}
use Rattle.std.specs.Option.{option_map_or}
use Rattle.std.specs.Str.{bytes_eq}
use Rattle.std.proofs.lemmas.Bool.{or_parts}
use Rattle.std.proofs.lemmas.Slice.Eq.{bytes_eq-Decides}
use Rattle.clap.specs.Facts.{explicit_source, parser_of_value, unwrap_or_range}
use Rattle.clap.specs.Faults.{given_default_fault, check_fault, defaults_fault, entered_fault, fault_of, flags_fault, level_fault, long_fault, other_fault, settle_fault, short_fault, step_fault, turn_fault, walk_fault}
use Rattle.clap.specs.Lexer.{long_of, usize_max}
use Rattle.clap.specs.Simple.{help_rule, App, built, entered, filled, names_of, subcommand_of, with_index}
use Rattle.clap.specs.Takes.{is_given}
use Rattle.clap.specs.Values.{read_as, reading_of}
use Rattle.clap.specs.ValueTests.{accepts}
use Rattle.clap.specs.Walk.{Row, Rule, Text, action_of, arg_by_id, arg_by_index, arg_by_long, first_of, is_empty, is_multiple, most_values, nothing_held, one_of, row_text, settled, walk, Held, Names, Step, Walk, after_flag, answers_to, arg_by_short, bundle_met, finished, idle, plain, subcommand_met, subcommand_or_other, value, walk_from, walked}
use Rattle.clap.specs.declared.builder.ArgAction.TheVariants.{Set}
use Rattle.clap.specs.declared.builder.value_parser.Reading.{Reading}
use Rattle.clap.specs.declared.error.kind.ErrorKind.TheVariants as kind
use Rattle.clap.proofs.ValueTestLemmas.{accepts-Accepts}
use Rattle.insar_words.specs.Asked.{asks_by_names, has_names}
use Rattle.insar_words.specs.Forms.{Argument, CommandForm, Each, OfOne, Taking, Value, any_number, arguments_of, fits, forms, names, numbers, word_of}
use Rattle.insar_words.specs.PlainForms.{option_named}
use Rattle.insar_words.specs.Stated.{default_texts, parser_taking, stated}
use Rattle.insar_words.specs.Values.{HasValue, HasValues}
use Rattle.insar_words.proofs.TakenLemmas.{IsFit, IsGood, IsLeafTaken, default_from, found_each, leaf_rows, level_checked, level_good, row_at, stays, whole, leaf, neither, not_nil}
use Rattle.insar_words.proofs.ValueLemmas.{IsReadable, number_in}
use Rattle.clap.specs.Kinds.{Kinds, or_else}
use Rattle.clap.proofs.OnLiterals.{clap_on_literals}
use Rattle.clap.proofs.FaultLemmas.{stopped_fault}
use Rattle.clap.proofs.WalkLemmas.{walk_stopped}

-- ---- what the table promises

-- the rule that clap has for an argument
abbrev pub rule_for : List Rule → Argument → Rule
rule_for c a = unwrap_or (arg_by_id c a.id) help_rule

-- it takes one value, by the argument's parser and with its default
pub record Owns (c : List Rule) (a : Argument) : Type 0 where
  pub found : arg_by_id c a.id ≡ Some (rule_for c a)
  pub named : (rule_for c a).id ≡ a.id
  pub parser : parser_of_value (rule_for c a).parser ≡ parser_taking a.takes
  pub exact : (rule_for c a).ignore_case ≡ false
  pub defaults : (rule_for c a).defaults ≡ default_texts a.default
  pub sets : action_of (rule_for c a) ≡ Set
  pub least : (unwrap_or_range (rule_for c a).range).start_inclusive ≡ 1
  pub most : most_values (rule_for c a) ≡ 1
  pub single : is_multiple (rule_for c a) ≡ false
  pub closed : (rule_for c a).trailing_var_arg ≡ false
  pub readable : IsReadable a.takes
  pub default_fits : option_map_or (fits a.takes) a.default true ≡ true

-- it is an option, of which clap reads `--name`
pub record IsOption (form : CommandForm) (a : Argument) : Type 0 where
  pub owned : Owns (whole form) a
  pub first : option_named form.options a.id ≡ Some a
  pub no_dashes : bytes_eq (45 ∷ 45 ∷ a.id) (45 ∷ 45 ∷ []) ≡ false
  pub long : long_of (45 ∷ 45 ∷ a.id) ≡ Some (a.id, None)
  pub found : arg_by_long (whole form) a.id ≡ Some (rule_for (whole form) a)

-- the positionals stand at their places
abbrev pub ArePlaced : List Rule → ℕ → List Argument → Type 0
ArePlaced c i [] = ⊤
ArePlaced c i (p ∷ rest) = ((arg_by_index c i ≡ Some (rule_for c p)) × (min (i + 1) usize_max ≡ suc i)) × ArePlaced c (suc i) rest

-- and have names of their own
abbrev pub AreApart : List Argument → List Argument → Type 0
AreApart [] options = ⊤
AreApart (p ∷ rest) options = Each (λ a. bytes_eq p.id a.id ≡ false) (rest ++ options) × AreApart rest options

-- an argument without a default has to be given
abbrev pub lacks : (Text → Bool) → Argument → Bool
lacks given a = not (is_some a.default) && not (given a.id)

pub record IsSound (form : CommandForm) : Type 0 where
  pub fit : Each (IsFit (whole form)) (whole form)
  pub owns : Each (Owns (whole form)) (arguments_of form)
  pub options : Each (IsOption form) form.options
  pub placed : ArePlaced (whole form) 1 form.positionals
  pub apart : AreApart form.positionals form.options
  pub fine : Each (λ r. cond (is_empty r.defaults) [] (given_default_fault r r.defaults) ≡ []) (whole form)
  pub asks : (given : Text → Bool) → list_any (λ r. r.required && not (given r.id)) (whole form) ≡ list_any (lacks given) (arguments_of form)
  pub names : (rows : List Row) → asks_by_names (Some (form.command, rows)) ≡ (has_names rows form && true)

-- what holds of each form holds of one of them
pub each_form : (P : CommandForm → Type 0) (fs : List CommandForm) → Each P fs → (form : CommandForm) → OfOne (λ each. form ≡ each) fs → P form
each_form P [] each form among = absurd among
each_form P (f ∷ fs) each form (inl e) = subst P (sym e) each.0
each_form P (f ∷ fs) each form (inr among) = each_form P fs each.1 form among

all_sound : Each IsSound forms
unfolding digits
all_sound = assumption

pub sound : (form : CommandForm) → OfOne (λ each. form ≡ each) forms → IsSound form
sound = each_form IsSound forms all_sound

-- ---- values

-- a value that passed the parser, as it is read
value_by : (rows : List Row) (taking : Taking) (id text : Text) → accepts false (parser_taking taking) text ≡ true → first_of id rows ≡ Some text → one_of id rows ≡ Some (read_as (reading_of (parser_taking taking)) text) → HasValue taking id rows
value_by rows (numbers least most) id text passes first one = number_in id least most rows text one (accepts-Accepts false (parser_taking (numbers least most)) text passes)
value_by rows any_number id text passes first one =
    let w = accepts-Accepts false (parser_taking any_number) text passes in
    record { text = text; told = one; numeral = w.0; at_least = w.2; at_most = w.3 }
value_by rows (names all) id text passes first one = (text, first)

-- where none passes, each does not
each_false : {X : Type 0} (p : X → Bool) (xs : List X) → list_any p xs ≡ false → Each (λ x. p x ≡ false) xs
each_false p [] e = tt
each_false p (x ∷ xs) e = let parts = or_parts (p x) (list_any p xs) e in (parts.0, each_false p xs parts.1)

-- no argument is missing
given_of : (b : Bool) → not b ≡ false → b ≡ true
given_of true h = refl
given_of false h = absurd cc

none_missing : (b : Bool) → cond b (kind.MissingRequiredArgument ∷ []) [] ≡ [] → b ≡ false
none_missing true e = absurd cc
none_missing false e = refl

some_row : (o : Option Row) → option_map_or (λ r. explicit_source r.source) o false ≡ true → (r : Row) × (o ≡ Some r)
some_row None given = absurd cc
some_row (Some r) given = (r, refl)

module _ (form : CommandForm) (is : IsSound form) (words : List Text) (taken : IsLeafTaken form words) where
  abbrev c : List Rule
  c = whole form

  abbrev rows : List Row
  rows = leaf_rows form words

  none_lacks : Each (λ a. lacks (λ id. is_given id rows) a ≡ false) (arguments_of form)
  none_lacks = each_false (lacks (λ id. is_given id rows)) (arguments_of form) (sym (is.asks (λ id. is_given id rows)) ∙ none_missing _ (level_checked form is.fit words taken))

  there : (a : Argument) → Owns c a → lacks (λ id. is_given id rows) a ≡ false → (r : Row) × (row_at a.id rows ≡ Some r)
  there a o given = go a.default o.defaults given
    where
      start : List Row
      start = (settled c (walk c [] nothing_held words).held).rows

      from : (v : Value) → (rule_for c a).defaults ≡ word_of v ∷ [] → (r : Option Row) → row_at a.id start ≡ r → (r : Row) × (row_at a.id rows ≡ Some r)
      from v defaults None at = (_, default_from a.id (rule_for c a) (word_of v) defaults c start o.found at)
      from v defaults (Some r) at = (r, stays a.id c start r at)

      go : (d : Option Value) → (rule_for c a).defaults ≡ default_texts d → (not (is_some d) && not (is_given a.id rows)) ≡ false → (r : Row) × (row_at a.id rows ≡ Some r)
      go None defaults none = some_row (row_at a.id rows) (given_of (is_given a.id rows) none)
      go (Some v) defaults none = from v defaults (row_at a.id start) refl

  has_value : (a : Argument) → Owns c a → lacks (λ id. is_given id rows) a ≡ false → HasValue a.takes a.id rows
  has_value a o given =
      let r = there a o given in
      let good = found_each (IsGood c) (λ r. bytes_eq r.id a.id) rows r.0 (level_good form is.fit words taken) r.1 in
      let g = good.0 in
      let named : r.0.id ≡ a.id = (bytes_eq-Decides r.0.id a.id).0 good.1 in
      let owner : arg_by_id c a.id ≡ Some g.rule = ap (arg_by_id c) (sym named) ∙ g.named in
      let same : rule_for c a ≡ g.rule = let found = o.found in cc in
      let parser = ap (λ (x : Rule). parser_of_value x.parser) (sym same) ∙ o.parser in
      value_by rows a.takes a.id g.text
      (ap₂ (λ (b : Bool) p. accepts b p g.text) (sym (ap (λ (x : Rule). x.ignore_case) (sym same) ∙ o.exact)) (sym parser) ∙ g.passes)
      (ap (option_and_then (λ (x : Row). slice_get x.values 0)) r.1 ∙ ap (λ (vs : List Text). slice_get vs 0) g.values)
      (ap (option_and_then row_text) r.1 ∙ ap₂ (λ (how : Reading) (vs : List Text). option_map (read_as how) (slice_get vs 0)) (g.reading ∙ ap reading_of parser) g.values)

  has_each : (arguments : List Argument) → Each (Owns c) arguments → Each (λ a. lacks (λ id. is_given id rows) a ≡ false) arguments → HasValues arguments rows
  has_each [] o given = tt
  has_each (a ∷ rest) o given = (has_value a o.0 given.0, has_each rest o.1 given.1)

  pub has_values : HasValues (arguments_of form) rows
  has_values = has_each (arguments_of form) is.owns none_lacks

-- ---- the stated command as it is built

abbrev made : App
made = built stated

abbrev labels : Names
labels = names_of made

abbrev start : Walk
start = walk_from nothing_held

-- the walk after the name of a command
abbrev entering : Text → Walk
entering name = record start { stopped = Some (name, []) }

-- ---- the command that a word names

abbrev Meets : Text → List CommandForm → Option Text → Type 0
Meets word fs o = ((form : CommandForm) × OfOne (λ each. form ≡ each) fs × (word ≡ form.command) × (o ≡ Some form.command)) ⊎ ((word ≡ codes "help") ⊎ (o ≡ None))

abbrev labels_of : List CommandForm → Names
labels_of fs = map (λ form. (form.command, [])) fs ++ (codes "help", []) ∷ []

abbrev met_in : List CommandForm → Text → Option Text
met_in fs word = option_map (λ s. s.0) (find (answers_to word) (labels_of fs))

meets : (fs : List CommandForm) (word : Text) → Meets word fs (met_in fs word)
meets [] word = go (bytes_eq (codes "help") word) refl
  where
    go : (b : Bool) → bytes_eq (codes "help") word ≡ b → Meets word [] (option_map (λ (s : Text × List Text). s.0) (cond (b || false) (Some (codes "help", [])) None))
    go true same = inr (inl (sym ((bytes_eq-Decides (codes "help") word).0 same)))
    go false same = inr (inr refl)
meets (form ∷ fs) word = go (bytes_eq form.command word) refl (meets fs word)
  where
    go : (b : Bool) → bytes_eq form.command word ≡ b → Meets word fs (met_in fs word)
        → Meets word (form ∷ fs) (option_map (λ (s : Text × List Text). s.0) (cond (b || false) (Some (form.command, [])) (find (answers_to word) (labels_of fs))))
    go true same rest = inl (form, inl refl, sym ((bytes_eq-Decides form.command word).0 same), refl)
    go false same (inl m) = inl (m.0, inr m.1, m.2, m.3)
    go false same (inr m) = inr m

-- what clap makes of the name of a command, and of the words after it
record Enters (form : CommandForm) : Type 0 where
  walks : walked made.top.rules labels start form.command ≡ entering form.command
  turns : turn_fault made.top labels start form.command ≡ []
  reads : (rest : List Text) → entered made (Some (form.command, rest)) ≡ Some (form.command, leaf_rows form rest)
  asks : (rest : List Text) → entered_fault made (Some (form.command, rest)) ≡ level_fault (leaf form) [] nothing_held rest false []

all_enter : Each Enters forms
unfolding clap_on_literals
all_enter = assumption

enters : (form : CommandForm) → OfOne (λ each. form ≡ each) forms → Enters form
enters = each_form Enters forms all_enter

no_words : fault_of stated [] ≡ kind.MissingSubcommand ∷ []
unfolding clap_on_literals
no_words = refl

-- ---- a first word that names none

-- the one argument of the command itself
abbrev help : Rule
help = with_index 1 (filled help_rule)

-- a word that no positional takes
stray : (h : Held) → step_fault made.top 1 h value ≡ [] → ⊥
stray h e = not_nil _ _ e

no_long : (p : Text × Option Text) → long_fault made.top.rules false (arg_by_long made.top.rules p.0) p.1 nothing_held ≡ [] → ⊥
no_long p e = grind arith

no_short : (x : ℕ) (rest : Text) (fault : Held → Kinds) → short_fault made.top.rules false (arg_by_short made.top.rules x) rest nothing_held fault ≡ [] → ⊥
no_short x rest fault e = grind arith

module _ (word : Text) where
  -- what the first turn asks of a flag word, and of the step that it takes
  abbrev turned : Kinds → Held × Step → Kinds
  turned fault m = or_else fault (step_fault made.top 1 m.0 m.1)

  no_bundle : (k : ℕ) (flags : Text)
      → turned (flags_fault made.top.rules false k flags 0 nothing_held)
      (after_flag made.top.rules idle word (bundle_met made.top.rules k flags 0 plain nothing_held).0 (bundle_met made.top.rules k flags 0 plain nothing_held).1) ≡ [] → ⊥
  unfolding bundle_met flags_fault
  no_bundle zero flags e = stray nothing_held e
  no_bundle (suc k) flags e = grind (arith, no_short, neither)

  is_dashes : turned (other_fault made.top None word nothing_held) (subcommand_or_other made.top.rules None idle 1 word nothing_held) ≡ [] → bytes_eq word (45 ∷ 45 ∷ []) ≡ true
  is_dashes e = grind (arith, no_long, no_bundle, neither)

-- the first turn, and the second
first_turn : (word : Text) (rest : List Text) → fault_of stated (word ∷ rest) ≡ [] → turn_fault made.top labels start word ≡ []
unfolding walk_fault
first_turn word rest e = (neither (turn_fault made.top labels start word) _ (neither (walk_fault made.top labels start (word ∷ rest)) _ e).0).0

second_turn : (word other : Text) (rest : List Text) → fault_of stated (word ∷ other ∷ rest) ≡ [] → turn_fault made.top labels (walked made.top.rules labels start word) other ≡ []
unfolding walk_fault
second_turn word other rest e =
    (neither (turn_fault made.top labels (walked made.top.rules labels start word) other) _ (neither (turn_fault made.top labels start word) _ (neither (walk_fault made.top labels start (word ∷ other ∷ rest)) _ e).0).1).0

-- `--` names no subcommand either, nor do the words after it
dashes_alone : fault_of stated ((45 ∷ 45 ∷ []) ∷ []) ≡ kind.MissingSubcommand ∷ []
unfolding clap_on_literals
dashes_alone = refl

behind_dashes : (word : Text) → turn_fault made.top labels (walked made.top.rules labels start (45 ∷ 45 ∷ [])) word ≡ kind.UnknownArgument ∷ kind.InvalidSubcommand ∷ []
unfolding clap_on_literals
behind_dashes word = refl

no_dashes : (rest : List Text) → fault_of stated ((45 ∷ 45 ∷ []) ∷ rest) ≡ [] → ⊥
no_dashes [] e = not_nil _ _ (sym dashes_alone ∙ e)
no_dashes (word ∷ rest) e = not_nil _ _ (sym (behind_dashes word) ∙ second_turn (45 ∷ 45 ∷ []) word rest e)

-- `help` is a call for help
help_turn : turn_fault made.top labels start (codes "help") ≡ kind.DisplayHelp ∷ kind.InvalidSubcommand ∷ []
unfolding clap_on_literals
help_turn = refl

no_help : (rest : List Text) → fault_of stated (codes "help" ∷ rest) ≡ [] → ⊥
no_help rest e = not_nil _ _ (sym help_turn ∙ first_turn (codes "help") rest e)

-- a word that names no command
no_other : (word : Text) (rest : List Text) → subcommand_met labels idle word ≡ None → fault_of stated (word ∷ rest) ≡ [] → ⊥
no_other word rest none e =
    let turn = subst (λ (o : Option Text). turned word (other_fault made.top o word nothing_held) (subcommand_or_other made.top.rules o idle 1 word nothing_held) ≡ []) none (first_turn word rest e) in
    let dashes : word ≡ 45 ∷ 45 ∷ [] = (bytes_eq-Decides word (45 ∷ 45 ∷ [])).0 (is_dashes word turn) in
    no_dashes rest (subst (λ (t : Text). fault_of stated (t ∷ rest) ≡ []) dashes e)

-- ---- words that are taken

-- after the name of a command the words are its own
stops : (name : Text) (rest : List Text) → walked made.top.rules labels start name ≡ entering name → (walk made.top.rules labels nothing_held (name ∷ rest)).stopped ≡ Some (name, rest)
stops name rest first =
    ap (λ (w : Walk). (fold (walked made.top.rules labels) w rest).stopped) first
    ∙ ap (λ (w : Walk). w.stopped) (sym (walk_stopped made.top.rules labels start name [] rest))

-- they name a command, which takes the words after it
pub record Named (words : List Text) : Type 0 where
  pub form : CommandForm
  pub among : OfOne (λ each. form ≡ each) forms
  pub rest : List Text
  pub words_are : words ≡ form.command ∷ rest
  pub taken : IsLeafTaken form rest

named_by : (form : CommandForm) → OfOne (λ each. form ≡ each) forms → (rest : List Text) → fault_of stated (form.command ∷ rest) ≡ [] → IsLeafTaken form rest
named_by form among rest e =
    let name = form.command in
    let parts = neither (walk_fault made.top labels start (name ∷ rest)) _ e in
    sym ((enters form among).asks rest)
    ∙ subst (λ (stop : Option (Text × List Text)). entered_fault made stop ≡ []) (stops name rest (enters form among).walks) (neither (entered_fault made (walk made.top.rules labels nothing_held (name ∷ rest)).stopped) _ parts.1).0

pub named : (words : List Text) → fault_of stated words ≡ [] → Named words
named [] e = absurd (not_nil _ _ (sym no_words ∙ e))
named (word ∷ rest) e = go (meets forms word)
  where
    go : Meets word forms (subcommand_met labels idle word) → Named (word ∷ rest)
    go (inl m) = record {
      form = m.0;
      among = m.1;
      rest = rest;
      words_are = ap (λ (t : Text). t ∷ rest) m.2;
      taken = named_by m.0 m.1 rest (subst (λ (t : Text). fault_of stated (t ∷ rest) ≡ []) m.2 e);
    }
    go (inr (inl help)) = absurd (no_help rest (subst (λ (t : Text). fault_of stated (t ∷ rest) ≡ []) help e))
    go (inr (inr none)) = absurd (no_other word rest none e)

-- and a command that takes the words after its name is what the words ask for
pub asks_form : (form : CommandForm) → OfOne (λ each. form ≡ each) forms → (rest : List Text) → subcommand_of stated (form.command ∷ rest) ≡ Some (form.command, leaf_rows form rest)
asks_form form among rest = ap (entered made) (stops form.command rest (enters form among).walks) ∙ (enters form among).reads rest

pub takes_form : (form : CommandForm) → OfOne (λ each. form ≡ each) forms → (rest : List Text) → IsLeafTaken form rest → fault_of stated (form.command ∷ rest) ≡ []
unfolding walk_fault defaults_fault
takes_form form among rest taken =
    let name = form.command in
    let first = (enters form among).walks in
    let stop = stops name rest first in
    let ended : (walk made.top.rules labels nothing_held (name ∷ rest)).held ≡ nothing_held =
    ap (λ (w : Walk). (fold (walked made.top.rules labels) w rest).held) first ∙ ap (λ (w : Walk). w.held) (sym (walk_stopped made.top.rules labels start name [] rest)) in
    let walk_passes : walk_fault made.top labels start (name ∷ rest) ≡ [] =
    ap₂ or_else ((enters form among).turns) (ap (λ (w : Walk). walk_fault made.top labels w rest) first ∙ stopped_fault made.top labels start (name, []) rest) in
    let here : is_some (entered made (Some (name, rest))) ≡ true = ap (λ (o : Option (Text × List Row)). is_some o) ((enters form among).reads rest) in
    ap₂ or_else walk_passes (ap₂ or_else (ap (entered_fault made) stop ∙ (enters form among).asks rest ∙ taken)
    (ap₂ (λ (h : Held) (b : Bool). or_else (settle_fault made.top.rules false h) (or_else (defaults_fault (settled made.top.rules h).rows made.top.rules) (check_fault made.top (finished made.top.rules h) b))) ended (ap (λ (o : Option (Text × List Text)). is_some (entered made o)) stop ∙ here)))

-- The commands, each with its arguments, as a table: the stated command, what words ask for and plain forms are made from it.
use Rattle.std.specs.Prelude.{◌⊎◌, ◌&&◌, ◌^◌, ℕ, Bool, false, List, [], ◌∷◌, ◌++◌, Option, Some, None, codes, decimal, map, nat_le, nat_lt, ⊤}
use Rattle.std.specs.List.{list_any}
use Rattle.std.specs.Str.{bytes_eq}
use Rattle.clap.specs.Words.{Text}
use Rattle.raster_model.specs.declared.weights.RuleKind.{RuleKind}
use Rattle.raster_model.specs.declared.weights.RuleKind.TheVariants.{Least, Mean, Product}

-- the value of an argument, and its text
pub data Value : Type 0 where
  number : ℕ → Value
  name : Text → Value

abbrev pub word_of : Value → Text
word_of (number n) = decimal n
word_of (name text) = text

-- what an argument takes: a number from a least to a most, any number below 2 ^ 64, or one of some names
pub data Taking : Type 0 where
  numbers : ℕ → ℕ → Taking
  any_number : Taking
  names : List Text → Taking

abbrev pub is_among : Text → List Text → Bool
is_among text all = list_any (λ each. bytes_eq each text) all

-- it takes the value
abbrev pub fits : Taking → Value → Bool
fits (numbers least most) (number n) = nat_le least n && nat_le n most
fits any_number (number n) = nat_lt n (2 ^ 64)
fits (names all) (name text) = is_among text all
fits taking value = false

-- an argument: its name, what it takes, and its default; without one it must be given
pub record Argument : Type 0 where
  pub id : Text
  pub takes : Taking
  pub default : Option Value

-- a command: its name, its positionals in order, and its options
pub record CommandForm : Type 0 where
  pub command : Text
  pub positionals : List Argument
  pub options : List Argument

abbrev pub arguments_of : CommandForm → List Argument
arguments_of form = form.positionals ++ form.options

-- the names of the rules of weights
abbrev pub rule_name : RuleKind → Text
rule_name Least = codes "least"
rule_name Mean = codes "mean"
rule_name Product = codes "product"

abbrev pub rule_names : List Text
rule_names = map rule_name (Least ∷ Mean ∷ Product ∷ [])

-- ---- arguments

abbrev pub tile_entry : Argument
tile_entry = record { id = codes "tile"; takes = numbers 2 128; default = Some (number 64) }

abbrev pub rule_entry : Argument
rule_entry = record { id = codes "rule"; takes = names rule_names; default = Some (name (rule_name Least)) }

abbrev pub ramp_x_entry : Argument
ramp_x_entry = record { id = codes "ramp-x"; takes = numbers 0 65535; default = Some (number 0) }

abbrev pub ramp_y_entry : Argument
ramp_y_entry = record { id = codes "ramp-y"; takes = numbers 0 65535; default = Some (number 0) }

abbrev pub steep_entry : Argument
steep_entry = record { id = codes "steep"; takes = numbers 1 16; default = Some (number 1) }

abbrev pub workers_entry : Argument
workers_entry = record { id = codes "workers"; takes = numbers 1 8; default = Some (number 2) }

abbrev pub readers_entry : Argument
readers_entry = record { id = codes "readers"; takes = numbers 1 8; default = Some (number 1) }

abbrev pub reads_entry : Argument
reads_entry = record { id = codes "reads"; takes = numbers 1 4096; default = Some (number 16) }

abbrev pub seed_entry : Argument
seed_entry = record { id = codes "seed"; takes = any_number; default = None }

abbrev pub width_entry : Argument
width_entry = record { id = codes "width"; takes = numbers 1 4096; default = None }

abbrev pub height_entry : Argument
height_entry = record { id = codes "height"; takes = numbers 1 4096; default = None }

abbrev pub weight_entry : Argument
weight_entry = record { id = codes "weight"; takes = numbers 0 65535; default = Some (number 0) }

abbrev pub radius_entry : Argument
radius_entry = record { id = codes "radius"; takes = numbers 0 64; default = Some (number 0) }

abbrev pub count_entry : Argument
count_entry = record { id = codes "count"; takes = numbers 0 16641; default = Some (number 0) }

abbrev pub patch_entry : Argument
patch_entry = record { id = codes "patch"; takes = numbers 0 4194304; default = Some (number 0) }

abbrev pub wavelength_entry : Argument
wavelength_entry = record { id = codes "wavelength"; takes = numbers 1 1000000000; default = None }

abbrev pub x_entry : Argument
x_entry = record { id = codes "x"; takes = numbers 0 4095; default = Some (number 0) }

abbrev pub y_entry : Argument
y_entry = record { id = codes "y"; takes = numbers 0 4095; default = Some (number 0) }

abbrev pub block_entry : Argument
block_entry = record { id = codes "block"; takes = numbers 1 64; default = Some (number 1) }

abbrev pub margin_entry : Argument
margin_entry = record { id = codes "margin"; takes = numbers 0 4294967295; default = Some (number 0) }

abbrev pub least_entry : Argument
least_entry = record { id = codes "least"; takes = numbers 1 4194304; default = Some (number 1) }

-- what is asked of a check, of a run, and of a test session besides
abbrev pub checking : List Argument
checking = tile_entry ∷ rule_entry ∷ ramp_x_entry ∷ ramp_y_entry ∷ steep_entry ∷ []

abbrev pub solving : List Argument
solving = tile_entry ∷ rule_entry ∷ ramp_x_entry ∷ ramp_y_entry ∷ steep_entry ∷ workers_entry ∷ []

abbrev pub drawing : List Argument
drawing = seed_entry ∷ width_entry ∷ height_entry ∷ []

-- what is asked of a run beside readers
abbrev pub watching : List Argument
watching = tile_entry ∷ rule_entry ∷ ramp_x_entry ∷ ramp_y_entry ∷ steep_entry ∷ workers_entry ∷ readers_entry ∷ reads_entry ∷ []

-- what is asked of a check of a whole surface, and of its run
abbrev pub whole_checking : List Argument
whole_checking = rule_entry ∷ ramp_x_entry ∷ ramp_y_entry ∷ steep_entry ∷ []

abbrev pub whole_solving : List Argument
whole_solving = rule_entry ∷ ramp_x_entry ∷ ramp_y_entry ∷ steep_entry ∷ workers_entry ∷ []

-- what is asked of parts
abbrev pub parting : List Argument
parting = rule_entry ∷ ramp_x_entry ∷ ramp_y_entry ∷ steep_entry ∷ margin_entry ∷ least_entry ∷ []

-- what is asked of a screen, and of displacements
abbrev pub screening : List Argument
screening = weight_entry ∷ radius_entry ∷ count_entry ∷ patch_entry ∷ tile_entry ∷ []

abbrev pub displacing : List Argument
displacing = wavelength_entry ∷ x_entry ∷ y_entry ∷ block_entry ∷ []

-- ---- commands

abbrev pub unwrap_form : CommandForm
unwrap_form = record { command = codes "unwrap"; positionals = []; options = solving }

abbrev pub grid_form : CommandForm
grid_form = record { command = codes "grid"; positionals = []; options = solving }

abbrev pub check_form : CommandForm
check_form = record { command = codes "check"; positionals = []; options = checking }

abbrev pub trial_form : CommandForm
trial_form = record { command = codes "trial"; positionals = drawing; options = solving }

abbrev pub screen_form : CommandForm
screen_form = record { command = codes "screen"; positionals = []; options = screening }

abbrev pub closure_form : CommandForm
closure_form = record { command = codes "closure"; positionals = []; options = [] }

abbrev pub displacement_form : CommandForm
displacement_form = record { command = codes "displacement"; positionals = []; options = displacing }

abbrev pub whole_form : CommandForm
whole_form = record { command = codes "whole"; positionals = []; options = whole_solving }

abbrev pub check_whole_form : CommandForm
check_whole_form = record { command = codes "check-whole"; positionals = []; options = whole_checking }

abbrev pub watch_form : CommandForm
watch_form = record { command = codes "watch"; positionals = []; options = watching }

abbrev pub nearest_form : CommandForm
nearest_form = record { command = codes "nearest"; positionals = []; options = [] }

abbrev pub parts_form : CommandForm
parts_form = record { command = codes "parts"; positionals = []; options = parting }

abbrev pub forms : List CommandForm
forms = unwrap_form ∷ grid_form ∷ check_form ∷ trial_form ∷ screen_form ∷ closure_form ∷ displacement_form ∷ whole_form ∷ check_whole_form ∷ watch_form ∷ nearest_form ∷ parts_form ∷ []

-- P holds of each
abbrev pub Each : {X : Type 0} → (X → Type 0) → List X → Type 0
Each P [] = ⊤
Each P (x ∷ rest) = P x × Each P rest

-- P holds of one of the forms
abbrev pub OfOne : (CommandForm → Type 0) → List CommandForm → Type 0
OfOne P [] = ⊥
OfOne P (form ∷ rest) = P form ⊎ OfOne P rest

-- The large test session that a number gives. Its numbers are those of a linear congruential generator with Knuth's multiplier (MMIX).
use Rattle.std.specs.Prelude.{◌≡◌, ℕ, zero, suc, ◌+◌, ◌*◌, ◌/◌, ◌%◌, ◌^◌, ◌<◌, ◌==◌, Bool, not, List, [], ◌∷◌, map}
use Rattle.raster_model.specs.declared.script.Command.TheVariants.{Settle, Show}
use Rattle.raster_model.specs.declared.script.Script.{Script}
use Rattle.raster_model.specs.declared.session.Session.{Session}
use Rattle.raster_model.specs.declared.weights.RuleKind.{RuleKind}
use Rattle.raster_model.specs.Masks.{IsMaskOf}
use Rattle.raster_model.specs.Planes.{plane_sample}
use Rattle.raster_model.specs.Sums.{Field}
use Rattle.raster_model.specs.Terms.{ArePlainTerms}

-- the number after s, and the number after n steps from a seed
unfoldable pub next : ℕ → ℕ
next s = (s * 6364136223846793005 + 1442695040888963407) % 2 ^ 64

unfoldable pub state : ℕ → ℕ → ℕ
state seed zero = seed
state seed (suc n) = next (state seed n)

-- what a number gives to a pixel: its phase, its weight, and whether it is open
unfoldable pub phase_of : ℕ → Field ℕ
phase_of s x y = (700 * x + 300 * y + s / 2 ^ 48 * 5 / 8) % 65536

unfoldable pub weight_of : ℕ → ℕ
weight_of s = 1 + s / 2 ^ 32 % 256

unfoldable pub is_open : ℕ → Bool
is_open s = not (s / 2 ^ 20 % 16 == 0)

-- the number of a pixel of a raster that is w pixels wide: there is one step for each pixel up to it, in row order
abbrev pub state_at : ℕ → ℕ → Field ℕ
state_at seed w x y = state seed (y * w + x + 1)

-- there is one analyst, who settles and shows
abbrev pub AreTrialScripts : List Script → Type 0
AreTrialScripts scripts = map (λ script. script.commands.items) scripts ≡ (Settle ∷ Show ∷ []) ∷ []

-- the session is one that a seed gives to w by h pixels, whatever its tiles, its rule and its terms
pub record IsTrialOf (seed w h : ℕ) (session : Session) : Type 0 where
  pub size : (session.scene.phase.width ≡ w) × (session.scene.phase.height ≡ h)
  pub phases : (x y : ℕ) → x < w → y < h → plane_sample session.scene.phase x y ≡ phase_of (state_at seed w x y) x y
  pub greatest_weight : session.scene.weights.maxval ≡ 256
  pub weights : (x y : ℕ) → x < w → y < h → plane_sample session.scene.weights x y ≡ weight_of (state_at seed w x y)
  pub mask : IsMaskOf session.first_mask w h (λ x y. is_open (state_at seed w x y))
  pub scripts : AreTrialScripts session.scripts.items

-- with tiles of a side, edges by a rule and the plain terms
pub record IsTrial (seed w h side : ℕ) (kind : RuleKind) (session : Session) : Type 0 where
  pub made : IsTrialOf seed w h session
  pub tiles : session.scene.tiling.side ≡ side
  pub rule : session.scene.rule ≡ kind
  pub terms : ArePlainTerms session.scene.terms

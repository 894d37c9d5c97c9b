-- What the definitions of planes and of first breaks say together.
use Rattle.std.specs.Prelude.{◌≡◌, ℕ, List, ◌∷◌, ◌++◌, ◌⊎◌}
use Rattle.pgm_planes.specs.declared.fault.PlaneFault.{PlaneFault}
use Rattle.pgm_planes.specs.declared.spelling.Spelling.TheVariants.{Raw}
use Rattle.pgm_planes.specs.Planes.{Sought, PlaneOf, IsSoughtPlane, IsSoughtText, SpellsSought, IsSoughtIn}
use Rattle.pgm_planes.specs.Breaks.{SoughtBreak}
use Rattle.pgm_planes.specs.Asking.{SoughtAsks}
use Rattle.pgm_planes.specs.Text.{plane_text}

-- bytes have one text of a plane in front, which spells one plane
abbrev pub OnePlane : Type 0
OnePlane = (sought : Sought) (text x other y : List ℕ) (p q : PlaneOf) → SpellsSought sought text p x → SpellsSought sought other q y → text ++ x ≡ other ++ y → (text ≡ other) × (p ≡ q)

-- bytes have one first break
abbrev pub OnePlaneBreak : Type 0
OnePlaneBreak = (sought : Sought) (at : ℕ) (bytes : List ℕ) (e f : PlaneFault) → SoughtBreak sought at bytes e → SoughtBreak sought at bytes f → e ≡ f

-- bytes that begin with a plane have no first break
abbrev pub NoBreakOfPlane : Type 0
NoBreakOfPlane = (sought : Sought) (at : ℕ) (bytes : List ℕ) (plane : PlaneOf) (rest : List ℕ) (fault : PlaneFault) → IsSoughtIn sought bytes plane rest → SoughtBreak sought at bytes fault → ⊥

-- bytes begin with a plane or have a first break
abbrev pub PlaneOrBreak : Type 0
PlaneOrBreak = (sought : Sought) (at : ℕ) (bytes : List ℕ) → ((plane : PlaneOf) × (rest : List ℕ) × IsSoughtIn sought bytes plane rest) ⊎ ((fault : PlaneFault) × SoughtBreak sought at bytes fault)

-- a plane's raw text spells it, whatever follows, as any that is sought whose rules it meets
abbrev pub WrittenPlaneIsRead : Type 0
WrittenPlaneIsRead = (sought : Sought) (plane : PlaneOf) (rest : List ℕ) → IsSoughtPlane sought plane → IsSoughtText Raw sought (plane_text plane) plane rest

-- bytes either ask for more or do not, and those that begin with a plane and go on do not
abbrev pub AskOrNot : Type 0
AskOrNot = (sought : Sought) (bytes : List ℕ) → SoughtAsks sought bytes ⊎ (SoughtAsks sought bytes → ⊥)

abbrev pub NoAskBehindPlane : Type 0
NoAskBehindPlane = (sought : Sought) (bytes : List ℕ) (plane : PlaneOf) (b : ℕ) (rest : List ℕ) → IsSoughtIn sought bytes plane (b ∷ rest) → SoughtAsks sought bytes → ⊥

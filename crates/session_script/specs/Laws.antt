-- What the definitions of sessions and of their faults say together.
use Rattle.std.specs.Prelude.{◌≡◌, ◌⊎◌, ℕ, ◌<◌, ◌^◌, List, [], ◌++◌}
use Rattle.raster_model.specs.declared.session.Session.{Session}
use Rattle.pgm_planes.specs.declared.fault.InputFault.{InputFault}
use Rattle.session_script.specs.declared.session_use.SessionUse.{SessionUse}
use Rattle.session_script.specs.declared.session_use.SessionUse.TheVariants.{Alone}
use Rattle.session_script.specs.Layouts.{Layout}
use Rattle.session_script.specs.Sessions.{SessionOf, session_of, HasFault, HasLaidFault, IsSameSession, IsSessionIn, IsSessionLaid, IsWholeSessionIn, LaidBreak, SessionBreak}
use Rattle.session_script.specs.Text.{session_text}

-- bytes are a session's text and then others, or have a fault
abbrev pub SessionOrFault : Type 0
SessionOrFault = (usage : SessionUse) (side : ℕ) (bytes : List ℕ) → ((session : SessionOf) × (rest : List ℕ) × IsSessionIn usage side bytes session rest) ⊎ ((fault : InputFault) × HasFault usage side bytes fault)

-- bytes that are a session's text and then others have no first break
abbrev pub NoBreakOfSession : Type 0
NoBreakOfSession = (usage : SessionUse) (side at : ℕ) (bytes : List ℕ) (session : SessionOf) (rest : List ℕ) (fault : InputFault) → IsSessionIn usage side bytes session rest → SessionBreak usage side at bytes fault → ⊥

-- bytes have one first break
abbrev pub OneSessionBreak : Type 0
OneSessionBreak = (usage : SessionUse) (side at : ℕ) (bytes : List ℕ) (e f : InputFault) → SessionBreak usage side at bytes e → SessionBreak usage side at bytes f → e ≡ f

-- bytes have one fault, and none where they are a session's text and then others
abbrev pub OneFault : Type 0
OneFault = (usage : SessionUse) (side : ℕ) (bytes : List ℕ) (e f : InputFault) → HasFault usage side bytes e → HasFault usage side bytes f → e ≡ f

abbrev pub NoFaultOfSession : Type 0
NoFaultOfSession = (usage : SessionUse) (side : ℕ) (bytes : List ℕ) (session : SessionOf) (rest : List ℕ) (fault : InputFault) → IsSessionIn usage side bytes session rest → HasFault usage side bytes fault → ⊥

-- bytes are one session's text, which ends in one place
abbrev pub OneSession : Type 0
OneSession = (usage : SessionUse) (side : ℕ) (bytes : List ℕ) (s t : SessionOf) (rest other : List ℕ) → IsSessionIn usage side bytes s rest → IsSessionIn usage side bytes t other → IsSameSession s t × (rest ≡ other)

-- What is written of a session is its text: before a report whatever follows, and alone where nothing follows. A maxval is a
-- `u16`.
abbrev pub WrittenSessionIsRead : Type 0
WrittenSessionIsRead = (usage : SessionUse) (session : Session) (rest : List ℕ) → session.scene.weights.maxval < 2 ^ 16 → (usage ≡ Alone → rest ≡ []) → IsSessionIn usage session.scene.tiling.side (session_text (session_of session) ++ rest) (session_of session) rest

-- ---- the same for each layout

abbrev pub LaidSessionOrFault : Type 0
LaidSessionOrFault = (usage : SessionUse) (layout : Layout) (bytes : List ℕ) → ((session : SessionOf) × (rest : List ℕ) × IsSessionLaid usage layout bytes session rest) ⊎ ((fault : InputFault) × HasLaidFault usage layout bytes fault)

abbrev pub NoBreakOfLaidSession : Type 0
NoBreakOfLaidSession = (usage : SessionUse) (layout : Layout) (at : ℕ) (bytes : List ℕ) (session : SessionOf) (rest : List ℕ) (fault : InputFault) → IsSessionLaid usage layout bytes session rest → LaidBreak usage layout at bytes fault → ⊥

abbrev pub OneLaidBreak : Type 0
OneLaidBreak = (usage : SessionUse) (layout : Layout) (at : ℕ) (bytes : List ℕ) (e f : InputFault) → LaidBreak usage layout at bytes e → LaidBreak usage layout at bytes f → e ≡ f

abbrev pub OneLaidFault : Type 0
OneLaidFault = (usage : SessionUse) (layout : Layout) (bytes : List ℕ) (e f : InputFault) → HasLaidFault usage layout bytes e → HasLaidFault usage layout bytes f → e ≡ f

abbrev pub NoFaultOfLaidSession : Type 0
NoFaultOfLaidSession = (usage : SessionUse) (layout : Layout) (bytes : List ℕ) (session : SessionOf) (rest : List ℕ) (fault : InputFault) → IsSessionLaid usage layout bytes session rest → HasLaidFault usage layout bytes fault → ⊥

abbrev pub OneLaidSession : Type 0
OneLaidSession = (usage : SessionUse) (layout : Layout) (bytes : List ℕ) (s t : SessionOf) (rest other : List ℕ) → IsSessionLaid usage layout bytes s rest → IsSessionLaid usage layout bytes t other → IsSameSession s t × (rest ≡ other)

-- bytes that are a session's text in tiles of any side are one without tiles, which tells the same
abbrev pub TiledSessionIsWhole : Type 0
TiledSessionIsWhole = (usage : SessionUse) (side : ℕ) (bytes : List ℕ) (session : SessionOf) (rest : List ℕ) → IsSessionIn usage side bytes session rest → IsWholeSessionIn usage bytes session rest

use Rattle.std.proofs.Common.{◌≡◌, ◌∙◌, false, sym, rules}
use Rattle.pgm_planes.specs.Planes.{plane_of, sought_within}
use Rattle.pgm_planes.specs.declared.fault.InputFault.TheVariants.{SizesDiffer}
use Rattle.session_script.specs.Parsing.{has_size}
use Rattle.session_script.specs.Sessions.{HasPlaneSize, ones_of}
use Rattle.session_script.proofs.CallLemmas.{goes, fails, gives, of_plane, refuses, makes}
use Rattle.session_script.proofs.PlanesAgain.{size_told, other_size}
use Rattle.session_script.proofs.planes.read_later.Goals as goal
use Rattle.session_script.proofs.planes.read_later.Goals.{then-plane-phase-via-then-plane-phase, then-plane-phase-via-else-plane-phase+then-plane-phase-2}

pub returns-in_err-see_byte-clause-parses : goal.returns-in_err-see_byte-clause-parses
returns-in_err-see_byte-clause-parses g c = fails _ _ c.from_residual.ensures.1 c.in_err-see_byte.ensures.parses

pub returns-in_err-plane-clause-parses : goal.returns-in_err-plane-clause-parses
returns-in_err-plane-clause-parses g c =
    goes _ _ c.in_ok-see_byte.ensures.parses c.in_ok-see_byte.ensures.limit
    (rw (sym c.begins_plane.ensures ∙ c.if-not-begins_plane.false) (fails _ _ c.from_residual-in_err-plane.ensures.1 (of_plane (sought_within c.args.extent c.args.role) _ _ _ c.read_plane_within.ensures.reads c.in_err-plane.ensures)))

pub returns-then-plane-phase-clause-parses : goal.returns-then-plane-phase-clause-parses
returns-then-plane-phase-clause-parses g c =
    let other : has_size (plane_of c.args.phase.now) (plane_of c.in_ok-plane.plane) ≡ false = other_size (plane_of c.args.phase.now) (plane_of c.in_ok-plane.plane) (λ h. elim c.then-plane-phase.branch [
      | then-plane-phase-via-then-plane-phase w ↦ w.if-plane-phase.true h.0
      | then-plane-phase-via-else-plane-phase+then-plane-phase-2 w ↦ w.if-plane-phase-2.true h.1
    ]) in
    goes _ _ c.in_ok-see_byte.ensures.parses c.in_ok-see_byte.ensures.limit
    (rw (sym c.begins_plane.ensures ∙ c.if-not-begins_plane.false) (goes _ _ (of_plane (sought_within c.args.extent c.args.role) _ _ _ c.read_plane_within.ensures.reads c.in_ok-plane.ensures) c.read_plane_within.ensures.limit (rw other (refuses (λ _. SizesDiffer c.args.role) (λ e. cc)))))

pub returns-clause-parses : goal.returns-clause-parses
returns-clause-parses g c =
    let same : HasPlaneSize (plane_of c.args.phase.now) (plane_of c.in_ok-plane.plane) = search rules in
    goes _ _ c.in_ok-see_byte.ensures.parses c.in_ok-see_byte.ensures.limit
    (rw (sym c.begins_plane.ensures ∙ c.if-not-begins_plane.false) (goes _ _ (of_plane (sought_within c.args.extent c.args.role) _ _ _ c.read_plane_within.ensures.reads c.in_ok-plane.ensures) c.read_plane_within.ensures.limit (rw (size_told (plane_of c.args.phase.now) (plane_of c.in_ok-plane.plane) same) (gives _))))

pub returns-then-not-begins_plane-clause-parses : goal.returns-then-not-begins_plane-clause-parses
returns-then-not-begins_plane-clause-parses g c =
    goes _ _ c.in_ok-see_byte.ensures.parses c.in_ok-see_byte.ensures.limit
    (rw (sym c.begins_plane.ensures ∙ c.if-not-begins_plane.true) (makes (ones_of (plane_of c.args.phase.now)) _ c.ones.ensures.made c.ones.ensures.starved))

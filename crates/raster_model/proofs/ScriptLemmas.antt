-- Scripts that grow by one command, and sessions that grow by one script, for the crates above.
use Rattle.std.proofs.Common.{◌≡◌, ℕ, zero, suc, ◌≤◌, ◌⊎◌, inl, inr, List, [], ◌∷◌, ◌++◌}
use Rattle.std.specs.Prelude.{Some, slice_get}
use Rattle.raster_model.specs.declared.script.Command.{Command}
use Rattle.raster_model.specs.declared.script.Command.TheVariants.{Change}
use Rattle.raster_model.specs.declared.script.Edit.{Edit}
use Rattle.raster_model.specs.declared.script.Script.{Script}
use Rattle.raster_model.specs.Scripts.{rect_of, IsRectIn, CommandsFit, ScriptsFit, ScriptsAreShort}

-- an element of a list with one more is one of the list, or the one
pub slice_get-push : {A : Type 0} (xs : List A) (y : A) (k : ℕ) (z : A) → slice_get (xs ++ (y ∷ [])) k ≡ Some z → (slice_get xs k ≡ Some z) ⊎ (y ≡ z)
slice_get-push [] y zero z e = inr (cc)
slice_get-push [] y (suc k) z e = cc
slice_get-push (x ∷ xs) y zero z e = inl e
slice_get-push (x ∷ xs) y (suc k) z e = slice_get-push xs y k z e

pub CommandsFit-none : (w h : ℕ) → CommandsFit w h []
CommandsFit-none w h k edit e = cc

pub CommandsFit-push : (w h : ℕ) (cs : List Command) (c : Command) → CommandsFit w h cs → ((edit : Edit) → c ≡ Change edit → IsRectIn w h (rect_of edit)) → CommandsFit w h (cs ++ (c ∷ []))
CommandsFit-push w h cs c all here k edit e = elim (slice_get-push cs c k (Change edit) e) [ inl p ↦ all k edit p | inr q ↦ here edit q ]

pub ScriptsFit-none : (w h : ℕ) → ScriptsFit w h []
ScriptsFit-none w h k s e = cc

pub ScriptsFit-push : (w h : ℕ) (ss : List Script) (s : Script) → ScriptsFit w h ss → CommandsFit w h s.commands.items → ScriptsFit w h (ss ++ (s ∷ []))
ScriptsFit-push w h ss s all here k t e = elim (slice_get-push ss s k t e) [ inl p ↦ all k t p | inr q ↦ rw (← q) here ]

pub ScriptsAreShort-none : ScriptsAreShort []
ScriptsAreShort-none k s e = cc

pub ScriptsAreShort-push : (ss : List Script) (s : Script) → ScriptsAreShort ss → s.commands.len ≤ 4096 → ScriptsAreShort (ss ++ (s ∷ []))
ScriptsAreShort-push ss s all here k t e = elim (slice_get-push ss s k t e) [ inl p ↦ all k t p | inr q ↦ rw (← q) here ]

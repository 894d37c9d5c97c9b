-- Which revision is published last, where there is one analyst.
use Rattle.std.specs.Prelude.{◌≡◌, ℕ, ◌+◌, List, [], ◌∷◌, Option, None}
use Rattle.std.specs.List.{last_or}
use Rattle.raster_model.specs.declared.script.Command.{Command}
use Rattle.raster_model.specs.declared.script.Command.TheVariants.{Change, Settle, Show}
use Rattle.raster_model.specs.declared.script.Script.{Script}
use Rattle.raster_model.specs.declared.session.Session.{Session}
use Rattle.tile_board.specs.declared.entry.Entry.{Entry}
use Rattle.tile_board.specs.Histories.{IsComplete, IsLegal, newest_of}

-- for each settle command of a script, before which the mask was changed n times, how many changes come before it; and for the last one
unfoldable pub settled_revisions : ℕ → List Command → List ℕ
settled_revisions n [] = []
settled_revisions n (Change edit ∷ commands) = settled_revisions (n + 1) commands
settled_revisions n (Settle ∷ commands) = n ∷ settled_revisions n commands
settled_revisions n (Show ∷ commands) = settled_revisions n commands

abbrev pub last_settled : List Command → Option ℕ
last_settled commands = last_or None (settled_revisions 0 commands)

-- where there is one analyst, the newest published revision is the number of changes before the script's last settle command
abbrev pub OneScriptTellsTheRevision : Type 0
OneScriptTellsTheRevision = (session : Session) (H : List Entry) (script : Script) → session.scripts.items ≡ script ∷ [] → IsLegal session H → IsComplete session H → newest_of H ≡ last_settled script.commands.items

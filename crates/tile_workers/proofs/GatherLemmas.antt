-- What was gathered is over the mask at the point of the history at which the gathering was answered.
use Rattle.std.proofs.Common.{◌≡◌, ◌∙◌, sym, ap, subst, List}
use Rattle.std.specs.Prelude.{IfSome, Option, Some, Result, Ok}
use Rattle.raster_model.specs.declared.session.Session.{Session}
use Rattle.tile_board.specs.declared.answers.GatherFault.{GatherFault}
use Rattle.tile_board.specs.declared.entry.Entry.{Entry}
use Rattle.tile_board.specs.declared.gathered.Gathered.{Gathered}
use Rattle.tile_board.specs.BoardView.{BoardView}
use Rattle.tile_board.specs.Calls.{WasMaskAt}
use Rattle.board_desk.specs.Answers.{GatherAnswers}
use Rattle.board_desk.specs.Passes.{Called, PassView}
use Rattle.tile_workers.specs.Scripts.{HasGathered}

-- a gathering changes nothing, so the pass has then seen the history at which it was answered
pub has_gathered : (s : Session) (p q : PassView) (answer : Result Gathered GatherFault) → Called s p q (GatherAnswers answer) → (g : Gathered) → answer ≡ Ok g → HasGathered s q g
has_gathered s p q answer c g is =
    let told = subst (λ (a : Result Gathered GatherFault). GatherAnswers a c.before c.after) is c.answer in
    let seen : c.before.entries ≡ q.seen = sym (c.seen ∙ ap (λ (b : BoardView). b.entries) told.1) in
    let at : WasMaskAt c.before.session c.before.entries g.mask g.revision = record { revision = sym told.0.revision; present = told.0.mask } in
    record {
      session = told.0.session ∙ c.session;
      mask = subst (λ (x : Session × List Entry). WasMaskAt x.0 x.1 g.mask g.revision) (λ i. (c.session i, seen i)) at;
    }

pub gathered_there : (s : Session) (p : PassView) (o : Option Gathered) (g : Gathered) → IfSome o (HasGathered s p) → o ≡ Some g → HasGathered s p g
gathered_there s p o g has is = subst (λ (x : Option Gathered). IfSome x (HasGathered s p)) is has

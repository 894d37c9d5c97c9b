use Rattle.certificates.proofs.FaceLemmas.{no_face, not_both}
use Rattle.certificates.proofs.tile.Tile.face.Goals as goal
use Rattle.certificates.proofs.tile.Tile.face.Goals.{else-window-x-via-then-window-x+then-x-window+then-window-y+else-y-window, else-window-x-via-then-window-x+then-x-window+else-window-y, else-window-x-via-then-window-x+else-x-window, else-window-x-via-else-window-x}

pub returns-else-window-x : goal.returns-else-window-x
returns-else-window-x c =
    let k = c.args.self.now in
    no_face k c.args.faces.now c.args.x c.args.y
    (λ i. elim c.else-window-x.branch [
      | else-window-x-via-then-window-x+then-x-window+then-window-y+else-y-window w ↦ not_both _ _ i.3 w.if-y-window.false
      | else-window-x-via-then-window-x+then-x-window+else-window-y w ↦ not_both _ _ w.if-window-y.false i.2
      | else-window-x-via-then-window-x+else-x-window w ↦ not_both _ _ i.1 w.if-x-window.false
      | else-window-x-via-else-window-x w ↦ not_both _ _ w.if-window-x.false i.0
    ])

pub cell_face-requires : goal.cell_face-requires
cell_face-requires c = record { count = c.requires.count; cell = (c.if-window-x.true, c.if-x-window.true, c.if-window-y.true, c.if-y-window.true) }

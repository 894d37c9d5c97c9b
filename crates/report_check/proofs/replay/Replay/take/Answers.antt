use Rattle.std.proofs.Common.{refl, subst}
use Rattle.raster_model.specs.declared.script.Command.TheVariants.{Settle, Show}
use Rattle.raster_model.specs.Masks.{open_at}
use Rattle.tile_board.specs.declared.entry.Entry.{Entry}
use Rattle.tile_board.specs.declared.entry.Entry.TheVariants.{Settled, Shown}
use Rattle.tile_board.specs.Histories.{IsStep, edits_of}
use Rattle.tile_board.proofs.HeldLemmas.{revision_room}
use Rattle.report_check.proofs.ReplayLemmas.{may_count, replay_done, replay_kept, replay_published, replay_revised}
use Rattle.report_check.proofs.replay.Replay.take.Goals as goal

pub count-requires : goal.count-requires
count-requires c = rw c.analyst_of.ensures (may_count c.requires.1.1.0 c.args.entry c.requires.1.1.1)

pub revise-requires-clause-room : goal.revise-requires-clause-room
revise-requires-clause-room c = let is = c.requires.1.1.0 in revision_room is.past is.legal

pub returns-in_ok-revise-in-Revised : goal.returns-in_ok-revise-in-Revised
returns-in_ok-revise-in-Revised c s H is step =
    let r = c.in_ok-revise-in-Revised.ensures in
    let taken = subst (λ (e : Entry). IsStep s H e) c.in-Revised.is step in
    rw (r.cursors, r.newest, c.count.ensures, c.analyst_of.ensures, c.in-Revised.is) (replay_revised is _ c.in-Revised.edit r.tiling (r.next (open_at s.first_mask) (edits_of H) is.past.revisions) r.changed r.cleared taken)

pub returns-in-Kept : goal.returns-in-Kept
returns-in-Kept c s H is step = rw (c.count.ensures, c.analyst_of.ensures, c.in-Kept.is) (replay_kept is _ _ (subst (λ (e : Entry). IsStep s H e) c.in-Kept.is step))

pub returns-in-Published : goal.returns-in-Published
returns-in-Published c s H is step =
    rw (c.count.ensures, c.analyst_of.ensures, c.in-Published.is) (replay_published is _ _ (subst (λ (e : Entry). IsStep s H e) c.in-Published.is step))

pub returns-in-Settled : goal.returns-in-Settled
returns-in-Settled c s H is step =
    let taken = subst (λ (e : Entry). IsStep s H e) c.in-Settled.is step in
    rw (c.count.ensures, c.analyst_of.ensures, c.in-Settled.is) (replay_done is (Settled _ _) _ Settle taken taken.0 refl refl (λ b. refl) (λ t r. refl))

pub returns-in-Shown : goal.returns-in-Shown
returns-in-Shown c s H is step =
    let taken = subst (λ (e : Entry). IsStep s H e) c.in-Shown.is step in
    rw (c.count.ensures, c.analyst_of.ensures, c.in-Shown.is) (replay_done is (Shown _ _) _ Show taken taken.0 refl refl (λ b. refl) (λ t r. refl))

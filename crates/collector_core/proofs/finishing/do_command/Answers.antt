use Rattle.std.proofs.Common.{◌≡◌, rules, inl, inr}
use Rattle.tile_board.specs.declared.answers.Advance.TheVariants.{Ended, NotYet}
use Rattle.collector_core.proofs.HistoryLemmas.{advanced_later, advanced_more}
use Rattle.collector_core.proofs.finishing.do_command.Goals as goal

-- the arm is that of commands done
pub returns-in-Ok-Revised : goal.returns-in-Ok-Revised
returns-in-Ok-Revised c =
    let answer = c.in-Ok-Revised.field-0 in
    let advanced = c.in-Ok-Revised.ensures.advanced in
    record {
      later = advanced_later c.args.board.now c.advance.new.self c.args.analyst answer advanced;
      more = elim (advanced_more c.args.board.now c.advance.new.self c.args.analyst answer advanced) [
        | inl less ↦ less
        | inr undone ↦ absurd (elim undone [
          | inl waits ↦ (let w : c.in-Ok-Revised.field-0 ≡ NotYet waits.0 = waits.1 in search (rules, w))
          | inr ended ↦ (let e : c.in-Ok-Revised.field-0 ≡ Ended = ended in search (rules, e))
        ])
      ];
    }

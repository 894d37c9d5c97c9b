use Rattle.std.proofs.Common.{rules, ap, refl, ◌∙◌, [], ◌∷◌}
use Rattle.std.proofs.lemmas.List.{append-nil}
use Rattle.std.proofs.lemmas.List.Elements.{All-cons, All-nil}
use Rattle.board_desk.specs.declared.law.Claim.{Claim}
use Rattle.board_desk.specs.Passes.{IsPassOf, Stands}
use Rattle.board_desk.specs.Rules.{Place}
use Rattle.board_desk.proofs.Closing.{all_stand, held_seen, moved_on, popped, stands_at}
use Rattle.board_desk.proofs.Steps.{sits}
use Rattle.board_desk.proofs.desk.Desk.close.Goals as goal

pub load_new_seat-seat-requires : goal.load_new_seat-seat-requires
load_new_seat-seat-requires g c = (search rules, sits c.self.inside.table.shared.key.value c.self.inside.table.shared.table_id.slots)

pub loop-pass-init : goal.loop-pass-init
loop-pass-init g c = record {
  own = refl;
  holds = ap (λ (p : Place). p.0.holds) c.take_board-home.ensures.held.now;
  same = refl;
  passes = c.requires;
  rest = ([], append-nil c.args.passes.items, All-nil (Stands c.take_board-home.result.entries));
}

pub loop-pass-preserved : goal.loop-pass-preserved
loop-pass-preserved g c =
    let two = popped (IsPassOf c.args.self) c.loop-pass.passes.items c.pop.new.self.items c.in-Some.pass c.in-Some.ensures.items c.loop-pass.invariant.passes in
    let rest = c.loop-pass.invariant.rest in
    let seen = ap (λ (x : Claim). x.seen) c.loop-pass.invariant.same ∙ held_seen c.load_new_seat-seat.result.1.me.0 c.take_board-home.result c.take_board-home.new.seat.me c.take_board-home.ensures.held in
    let one = stands_at c.loop-pass.seat.me.0.own.seen c.take_board-home.result.entries c.in-Some.pass seen c.meet.ensures.stands in
    record {
      own = c.meet.ensures.own ∙ c.loop-pass.invariant.own;
      holds = c.meet.ensures.holds.0;
      same = c.meet.ensures.holds.1 ∙ c.loop-pass.invariant.same;
      passes = two.0;
      rest = (
        c.in-Some.pass ∷ rest.0,
        moved_on c.loop-pass.passes.items c.pop.new.self.items rest.0 c.args.passes.items c.in-Some.pass c.in-Some.ensures.items rest.1,
        All-cons (Stands c.take_board-home.result.entries) c.in-Some.pass rest.0 one rest.2,
      );
    }

pub returns-clause-stands : goal.returns-clause-stands
returns-clause-stands g c =
    let rest = c.loop-pass.invariant.rest in
    all_stand c.take_board-home.result.entries c.args.passes.items c.loop-pass.passes.items rest.0 rest.1 (search rules) rest.2

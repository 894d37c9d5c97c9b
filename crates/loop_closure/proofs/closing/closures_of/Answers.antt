use Rattle.std.proofs.Common.{arith}
use Rattle.grid_writer.proofs.SizeLemmas.{sized_parts}
use Rattle.loop_closure.proofs.LoopLemmas.{first_pixel_of}
use Rattle.loop_closure.proofs.closing.closures_of.Goals as goal

pub returns-in-Some-clause-refused : goal.returns-in-Some-clause-refused
returns-in-Some-clause-refused c =
    let a = c.args.a.now in
    let b = c.args.b.now in
    let d = c.args.c.now in
    first_pixel_of a.width a.height b.width b.height d.width d.height c.in-Some.place a.values.items b.values.items d.values.items c.requires.second c.requires.third (sized_parts a.width a.height a.sized).wide
    (let o = a.values.ok.0 in let f = a.full in omega (arith, o, f)) (rw (c.deref.ensures.value, c.deref-2.ensures.value, c.deref-3.ensures.value) at c.in-Some.ensures.wide)

use Rattle.std.proofs.Common.{rules}
use Rattle.text_lines.proofs.AddLemmas.{puts_all, same_name}
use Rattle.pgm_planes.proofs.write.write_plane.Goals as goal

pub returns : goal.returns
returns g c =
    let n = same_name c.new-text.ensures c.add_plane.ensures c.finish.ensures.adds in
    let p = puts_all c.finish.result c.new-text.ensures c.add_plane.ensures c.finish.ensures.adds c.finish.ensures.none c.finish.ensures.whole c.finish.ensures.cut in
    record { written = search (rules, n, p.written); cut = search (rules, n, p.cut); fault = search (rules, n, p.fault); grows = search (rules, n, p.grows) }

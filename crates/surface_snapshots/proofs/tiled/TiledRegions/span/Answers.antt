use Rattle.std.proofs.Common.{◌≡◌, ◌∙◌, ◌<◌, ◌≤◌, ap, arith, length, refl, subst, sym, List}
use Rattle.std.specs.Arc.{arc_value}
use Rattle.std.specs.Prelude.{slice_index_or}
use Rattle.std.proofs.lemmas.Option.{slice_get_read}
use Rattle.surface_snapshots.specs.declared.runs.Run.{Run}
use Rattle.surface_snapshots.specs.Runs.{AreRising, IsFirstAfter}
use Rattle.surface_snapshots.proofs.TiledLemmas.{no_label, run_label}
use Rattle.surface_snapshots.proofs.tiled.TiledRegions.span.Goals as goal

pub first_after-at-requires : goal.first_after-at-requires
first_after-at-requires c =
    let s = c.args.self.now in
    let there = slice_get_read s.tiles.items (length s.tiles.items) c.args.tile c.index-tile.result.now refl (rw s.complete c.requires.tile) c.index-tile.ensures in
    subst AreRising (sym {A = List Run} (c.deref-2.ensures.value ∙ ap (λ v. v.items) c.deref.ensures)) (s.rising c.args.tile c.index-tile.result.now there)

pub returns-in-Some : goal.returns-in-Some
returns-in-Some c =
    let s = c.args.self.now in
    let k = c.index-tile.result.now in
    let there = slice_get_read s.tiles.items (length s.tiles.items) c.args.tile k refl (rw s.complete c.requires.tile) c.index-tile.ensures in
    let runs = (arc_value k.runs).items in
    let searched : c.deref-2.result.now ≡ runs = c.deref-2.ensures.value ∙ ap (λ v. v.items) c.deref.ensures in
    let read : c.deref-4.result.now ≡ runs = c.deref-4.ensures.value ∙ ap (λ v. v.items) c.deref-3.ensures in
    let is : IsFirstAfter runs c.args.place c.first_after-at.result = subst (λ (l : List Run). IsFirstAfter l c.args.place c.first_after-at.result) searched c.first_after-at.ensures in
    let found = c.in-Some.ensures.lookup.3 in
    let run = c.in-Some.run'.now in
    let inside : c.first_after-at.result < length runs = rw (← read) found.0 in
    let here : run ≡ slice_index_or runs c.first_after-at.result run = found.1 run ∙ ap (λ (l : List Run). slice_index_or l c.first_after-at.result run) read in
    let ends : c.args.place < run.end = rw here (is.here run inside) in
    record {
      count = (omega (arith, c.min.ensures, ends, c.requires.left), omega (arith, c.min.ensures));
      label = λ p from below.
          run_label s.labels.items s.tiles.items c.args.tile k c.args.place p c.first_after-at.result there is from run inside (rw (← here) (omega (arith, below, c.min.ensures)))
          ∙ (rw (← here) (sym c.label_of.ensures));
    }

pub returns-in-None : goal.returns-in-None
returns-in-None c =
    let s = c.args.self.now in
    let k = c.index-tile.result.now in
    let there = slice_get_read s.tiles.items (length s.tiles.items) c.args.tile k refl (rw s.complete c.requires.tile) c.index-tile.ensures in
    let runs = (arc_value k.runs).items in
    let searched : c.deref-2.result.now ≡ runs = c.deref-2.ensures.value ∙ ap (λ v. v.items) c.deref.ensures in
    let read : c.deref-4.result.now ≡ runs = c.deref-4.ensures.value ∙ ap (λ v. v.items) c.deref-3.ensures in
    let is : IsFirstAfter runs c.args.place c.first_after-at.result = subst (λ (l : List Run). IsFirstAfter l c.args.place c.first_after-at.result) searched c.first_after-at.ensures in
    let past : length runs ≤ c.first_after-at.result = rw (← read) c.in-None.ensures.lookup.3 in
    record {
      count = (c.requires.left, omega arith);
      label = λ p from below. sym (no_label s.labels.items s.tiles.items c.args.tile k c.args.place p c.first_after-at.result there is from (record { end = 0; number = 0 }) past);
    }

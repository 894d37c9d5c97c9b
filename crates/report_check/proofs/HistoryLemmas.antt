-- The history of a report's items, entry by entry.
use Rattle.std.proofs.Common.{◌≡◌, ◌∙◌, ℕ, suc, ◌+◌, ◌<◌, ◌≤◌, refl, sym, subst, arith, Bool, true, false, List, [], ◌∷◌, ◌++◌, get_or, length, map, take}
use Rattle.std.specs.Prelude.{Option, Some, IsTrue, ◌↔◌, slice_get}
use Rattle.std.proofs.lemmas.List.{length-map, take_all}
use Rattle.std.proofs.lemmas.Option.{slice_get_read}
use Rattle.raster_model.specs.declared.session.Session.{Session}
use Rattle.tile_board.specs.declared.entry.Entry.{Entry}
use Rattle.tile_board.specs.Histories.{IsComplete, IsLegal, IsStep}
use Rattle.tile_board.proofs.ListLemmas.{get_beyond, get_map, take_one}
use Rattle.report_text.specs.declared.items.Item.{Item}
use Rattle.report_text.specs.Contents.{told_item}
use Rattle.report_text.specs.Reports.{ItemOf}
use Rattle.report_check.specs.Replays.{entries_in}
use Rattle.report_check.specs.Verdicts.{BreaksHistoryAt, MayNotCome}
use Rattle.sums_and_lists.proofs.Tests.{true_and_false}

-- an item that was read stands at its place, and so does its entry
pub item_there : {xs items : List Item} {n : ℕ} {i : Item} → xs ≡ items → n < length xs → i ≡ get_or xs n i → slice_get items n ≡ Some i
item_there {xs} {items} {n} {i} e below is = subst (λ (l : List Item). slice_get l n ≡ Some i) e (slice_get_read xs (length xs) n i refl below is)

pub entry_at : (items : List Item) (n : ℕ) (i : Item) → slice_get items n ≡ Some i → slice_get (entries_in items) n ≡ Some i.entry
entry_at items n i g = get_map (λ (i : ItemOf). i.entry) (map told_item items) n (told_item i) (get_map told_item items n i g)

pub taken_more : (items : List Item) (n : ℕ) (i : Item) → slice_get items n ≡ Some i → take (n + 1) (entries_in items) ≡ take n (entries_in items) ++ (i.entry ∷ [])
taken_more items n i g = (let e : n + 1 ≡ suc n = omega arith in rw e (take_one (entries_in items) n i.entry (entry_at items n i g)))

pub entries_count : (items : List Item) → length (entries_in items) ≡ length items
entries_count items = length-map (map told_item items) (λ (i : ItemOf). i.entry) ∙ length-map items told_item

module _ (s : Session) (items : List Item) (n : ℕ) (legal : IsLegal s (take n (entries_in items))) where
  pub breaks_here : {i : Item} → slice_get items n ≡ Some i → n < length items → {b : Bool} → b ≡ false → IsTrue b ↔ IsStep s (take n (entries_in items)) i.entry → BreaksHistoryAt s (entries_in items) (n + 1)
  breaks_here {i} g l {b} e told = record {
    before = n;
    number = refl;
    some = omega (arith, l, entries_count items);
    legal = legal;
    broken = subst (λ (o : Option Entry). MayNotCome s (take n (entries_in items)) o) (sym (entry_at items n i g)) (λ step. true_and_false b (told.1 step) e);
  }

  pub breaks_after : n ≡ length items → {b : Bool} → b ≡ false → IsTrue b ↔ IsComplete s (take n (entries_in items)) → BreaksHistoryAt s (entries_in items) (length items + 1)
  breaks_after all {b} e told = record {
    before = n;
    number = omega (arith, all);
    some = omega (arith, all, entries_count items);
    legal = legal;
    broken = subst (λ (o : Option Entry). MayNotCome s (take n (entries_in items)) o) (sym (get_beyond (entries_in items) n (omega (arith, all, entries_count items)))) (λ complete. true_and_false b (told.1 complete) e);
  }

  pub in_order : length items ≤ n → {b : Bool} → b ≡ true → IsTrue b ↔ IsComplete s (take n (entries_in items)) → IsLegal s (entries_in items) × IsComplete s (entries_in items)
  in_order all e told = (let whole = take_all n (entries_in items) (omega (arith, all, entries_count items)) in (rw whole at legal, rw whole at (told.0 e)))

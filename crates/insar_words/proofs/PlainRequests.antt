-- A screen, a closure, displacements, a watch, a nearest surface and parts in plain form are read, with the numbers that are set.
use Rattle.std.proofs.Common.{◌≡◌, refl, inl, inr, List, [], Some, codes}
use Rattle.std.specs.Borrow.{Bor}
use Rattle.clap.specs.Walk.{Row, Text}
use Rattle.insar_words.specs.Asked.{AreTaken, IsSideByDefault, asked}
use Rattle.insar_words.specs.Forms.{block_entry, closure_form, count_entry, displacement_form, displacing, least_entry, margin_entry, nearest_form, parting, parts_form, patch_entry, radius_entry, readers_entry, reads_entry, screen_form, screening, tile_entry, watch_form, watching, wavelength_entry, weight_entry, workers_entry, x_entry, y_entry}
use Rattle.insar_words.specs.PlainForms.{HasSet, IsDisplacingSet, IsPartingSet, IsScreeningSet, IsWatchingSet, PlainClosureIsRead, PlainDisplacementIsRead, PlainNearestIsRead, PlainPartsIsRead, PlainScreenIsRead, PlainWatchIsRead, Setting, ArePlain, options_set, whole_options_set}
use Rattle.insar_words.specs.Requests.{IsRequest, TellsRequest}
use Rattle.insar_words.specs.declared.displacing.Displacing.{Displacing}
use Rattle.insar_words.specs.declared.parting.Parting.{Parting}
use Rattle.insar_words.specs.declared.request.Request.{Request}
use Rattle.insar_words.specs.declared.request.Request.TheVariants.{Screen, Displacement, Watch, Parts}
use Rattle.insar_words.specs.declared.screening.Screening.{Screening}
use Rattle.insar_words.specs.declared.watching.Watching.{Watching}
use Rattle.insar_words.proofs.PlainReads.{asks_as, asks_by, number_told, plain_forms}
use Rattle.insar_words.proofs.RequestLemmas.{apart, command_of, has_asked, has_whole, other_request, some_one, tells_by, told_by}

screen_as : (words : List (Bor Text)) (settings : List Setting) (plain : ArePlain screening settings) (rows : List Row) → HasSet rows screening settings → (q : Request) → IsRequest words q → TellsRequest (codes "screen") rows q
    → (s : Screening) × (IsScreeningSet settings s × IsRequest words (Screen s))
screen_as words settings plain rows has (Screen s) is tells =
    let set = number_told screening settings plain rows in (
      s,
      (
        record {
          weight = some_one _ _ _ tells.1.0 (set weight_entry 0 65535 refl refl refl has.0);
          radius = some_one _ _ _ tells.1.1.0 (set radius_entry 0 64 refl refl refl has.1.0);
          count = some_one _ _ _ tells.1.1.1.0 (set count_entry 0 16641 refl refl refl has.1.1.0);
          patch = some_one _ _ _ tells.1.1.1.1.0 (set patch_entry 0 4194304 refl refl refl has.1.1.1.0);
          side = some_one _ _ _ tells.1.1.1.1.1 (set tile_entry 2 128 refl refl refl has.1.1.1.1.0);
        },
        is,
      ),
    )
screen_as words settings plain rows has q is tells = absurd (apart (codes "screen") (command_of q) refl (told_by (codes "screen") rows q tells))

pub plain_screen : PlainScreenIsRead
plain_screen words settings plain spelled =
    let r = plain_forms words screen_form [] settings (inr (inr (inr (inr (inl refl))))) refl plain spelled in
    let q = other_request words (codes "screen") r.rows r.taken r.named refl in
    screen_as words settings plain r.rows r.options q.0 q.1 (tells_by words q.0 q.1 (codes "screen") r.rows r.named)

pub plain_closure : PlainClosureIsRead
plain_closure words spelled =
    let r = plain_forms words closure_form [] [] (inr (inr (inr (inr (inr (inl refl)))))) refl (record { once = tt; taken = refl; given = refl }) spelled in
    record { taken = r.taken; command = codes "closure"; rows = r.rows; named = r.named; tells = (refl, tt) }

pub plain_nearest : PlainNearestIsRead
plain_nearest words spelled =
    let r = plain_forms words nearest_form [] [] (inr (inr (inr (inr (inr (inr (inr (inr (inr (inr (inl refl))))))))))) refl (record { once = tt; taken = refl; given = refl }) spelled in
    record { taken = r.taken; command = codes "nearest"; rows = r.rows; named = r.named; tells = (refl, tt) }

displacement_as : (words : List (Bor Text)) (settings : List Setting) (plain : ArePlain displacing settings) (rows : List Row) → HasSet rows displacing settings → (q : Request) → IsRequest words q → TellsRequest (codes "displacement") rows q
    → (d : Displacing) × (IsDisplacingSet settings d × IsRequest words (Displacement d))
displacement_as words settings plain rows has (Displacement d) is tells =
    let set = number_told displacing settings plain rows in (
      d,
      (
        record {
          wavelength = some_one _ _ _ tells.1.0 (set wavelength_entry 1 1000000000 refl refl refl has.0);
          x = some_one _ _ _ tells.1.1.0 (set x_entry 0 4095 refl refl refl has.1.0);
          y = some_one _ _ _ tells.1.1.1.0 (set y_entry 0 4095 refl refl refl has.1.1.0);
          block = some_one _ _ _ tells.1.1.1.1 (set block_entry 1 64 refl refl refl has.1.1.1.0);
        },
        is,
      ),
    )
displacement_as words settings plain rows has q is tells = absurd (apart (codes "displacement") (command_of q) refl (told_by (codes "displacement") rows q tells))

pub plain_displacement : PlainDisplacementIsRead
plain_displacement words settings plain spelled =
    let r = plain_forms words displacement_form [] settings (inr (inr (inr (inr (inr (inr (inl refl))))))) refl plain spelled in
    let q = other_request words (codes "displacement") r.rows r.taken r.named refl in
    displacement_as words settings plain r.rows r.options q.0 q.1 (tells_by words q.0 q.1 (codes "displacement") r.rows r.named)

watch_as : (words : List (Bor Text)) (settings : List Setting) (plain : ArePlain watching settings) (rows : List Row) → AreTaken words → asked words ≡ Some (codes "watch", rows) → HasSet rows watching settings → (q : Request) → IsRequest words q → TellsRequest (codes "watch") rows q
    → (w : Watching) × (IsWatchingSet settings w × IsRequest words (Watch w))
watch_as words settings plain rows taken named has (Watch w) is tells =
    let set = number_told watching settings plain rows in
    let asks = asks_as watching settings plain rows (codes "watch") words taken named (refl, (refl, (refl, (refl, (refl, tt))))) (has.0, (has.1.0, (has.1.1.0, (has.1.1.1.0, (has.1.1.1.1.0, tt))))) in (
      w,
      (
        record {
          options = has_asked words (codes "watch") (options_set settings) asks w.settings tells.1.0.0;
          workers = some_one _ _ _ tells.1.0.1 (set workers_entry 1 8 refl refl refl has.1.1.1.1.1.0);
          readers = some_one _ _ _ tells.1.1.0 (set readers_entry 1 8 refl refl refl has.1.1.1.1.1.1.0);
          reads = some_one _ _ _ tells.1.1.1 (set reads_entry 1 4096 refl refl refl has.1.1.1.1.1.1.1.0);
        },
        is,
      ),
    )
watch_as words settings plain rows taken named has q is tells = absurd (apart (codes "watch") (command_of q) refl (told_by (codes "watch") rows q tells))

pub plain_watch : PlainWatchIsRead
plain_watch words settings plain spelled =
    let r = plain_forms words watch_form [] settings (inr (inr (inr (inr (inr (inr (inr (inr (inr (inl refl)))))))))) refl plain spelled in
    let q = other_request words (codes "watch") r.rows r.taken r.named refl in
    watch_as words settings plain r.rows r.taken r.named r.options q.0 q.1 (tells_by words q.0 q.1 (codes "watch") r.rows r.named)

parts_as : (words : List (Bor Text)) (settings : List Setting) (plain : ArePlain parting settings) (rows : List Row) → AreTaken words → asked words ≡ Some (codes "parts", rows) → HasSet rows parting settings → (q : Request) → IsRequest words q → TellsRequest (codes "parts") rows q
    → (p : Parting) × (IsPartingSet settings p × IsRequest words (Parts p))
parts_as words settings plain rows taken named has (Parts p) is tells =
    let set = number_told parting settings plain rows in
    let asks = asks_by parting settings plain rows IsSideByDefault 64 refl (codes "parts") words taken named (refl, (refl, (refl, (refl, tt)))) (has.0, (has.1.0, (has.1.1.0, (has.1.1.1.0, tt)))) in (
      p,
      (
        record {
          options = has_whole words (codes "parts") (whole_options_set settings) asks p.settings tells.1.0.0;
          margin = some_one _ _ _ tells.1.1.0 (set margin_entry 0 4294967295 refl refl refl has.1.1.1.1.0);
          least = some_one _ _ _ tells.1.1.1 (set least_entry 1 4194304 refl refl refl has.1.1.1.1.1.0);
        },
        is,
      ),
    )
parts_as words settings plain rows taken named has q is tells = absurd (apart (codes "parts") (command_of q) refl (told_by (codes "parts") rows q tells))

pub plain_parts : PlainPartsIsRead
plain_parts words settings plain spelled =
    let r = plain_forms words parts_form [] settings (inr (inr (inr (inr (inr (inr (inr (inr (inr (inr (inr (inl refl)))))))))))) refl plain spelled in
    let q = other_request words (codes "parts") r.rows r.taken r.named refl in
    parts_as words settings plain r.rows r.taken r.named r.options q.0 q.1 (tells_by words q.0 q.1 (codes "parts") r.rows r.named)

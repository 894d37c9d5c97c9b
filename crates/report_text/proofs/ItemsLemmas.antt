-- Items that are read one after another.
use Rattle.std.proofs.Common.{◌≡◌, ℕ, zero, suc, List, [], ◌∷◌, ◌++◌, Some, flat_map, sym, ap, subst, ◌∙◌, append_assoc}
use Rattle.std.specs.List.{AllByRecursion, slice_get}
use Rattle.std.proofs.lemmas.Grind.{flat_map-append}
use Rattle.std.proofs.lemmas.List.{append-nil}
use Rattle.tile_board.specs.declared.entry.Entry.{Entry}
use Rattle.report_text.specs.Reports.{ItemOf}
use Rattle.report_text.specs.Text.{after_text, history_line, item_text}
use Rattle.text_parts.specs.Text.{ended_line}
use Rattle.report_text.proofs.ItemForms.{item_is}

pub all_get : {A : Type 0} (P : A → Type 0) (xs : List A) → AllByRecursion P xs → (n : ℕ) (x : A) → slice_get xs n ≡ Some x → P x
all_get P [] a zero x e = absurd cc
all_get P [] a (suc n) x e = absurd cc
all_get P (y ∷ xs) a zero x e = let f : y ≡ x = cc in subst P f a.0
all_get P (y ∷ xs) a (suc n) x e = all_get P xs a.1 n x e

pub flat_map-push : {A : Type 0} (f : A → List ℕ) (xs : List A) (x : A) → flat_map f (xs ++ x ∷ []) ≡ flat_map f xs ++ f x
flat_map-push f xs x = flat_map-append f xs (x ∷ []) ∙ ap (λ (l : List ℕ). flat_map f xs ++ l) (append-nil (f x))

module _ (width height tiles : ℕ) where
  pub item_read : (front : List ℕ) (e : Entry) (i : ItemOf) → i.entry ≡ e → (front ++ ended_line history_line (Some e)) ++ after_text width height tiles i.surface ≡ front ++ item_text width height tiles i
  item_read front e i f =
      append_assoc front (ended_line history_line (Some e)) (after_text width height tiles i.surface)
      ∙ ap (λ (l : List ℕ). front ++ l) (ap (λ (d : Entry). ended_line history_line (Some d) ++ after_text width height tiles i.surface) (sym f) ∙ sym (item_is width height tiles i))

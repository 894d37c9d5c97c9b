-- The terms of a report and its version.
use Rattle.std.proofs.Common.{◌≡◌, pos, true, inl, inr, refl, ap, arith}
use Rattle.std.specs.Prelude.{◌↔◌, ◌&&◌, ◌==◌}
use Rattle.std.specs.Ordering.{int_eq}
use Rattle.std.proofs.lemmas.Bool.{and_parts, cases_Bool, eqb-true}
use Rattle.std.proofs.lemmas.Bool.Decides.{Decides-int_eq}
use Rattle.sums_and_lists.proofs.Tests.{true_and_false}
use Rattle.report_text.specs.Terms.{IsVersion, are_plain, plain_terms, version_on}
use Rattle.text_parts.specs.Terms.{TermsOf}
use Rattle.text_parts.proofs.UniqueLemmas.{same_terms}

told_plain : (t : TermsOf) → are_plain t ≡ true → t ≡ plain_terms
told_plain t all =
    let p = and_parts (int_eq t.ramp_x (pos 0) && int_eq t.ramp_y (pos 0)) (t.steep == 1) all in
    let q = and_parts (int_eq t.ramp_x (pos 0)) (int_eq t.ramp_y (pos 0)) p.0 in
    same_terms t plain_terms ((Decides-int_eq t.ramp_x (pos 0)).0 q.0) ((Decides-int_eq t.ramp_y (pos 0)).0 q.1) (eqb-true t.steep 1 p.1)

-- version 1 is that of the plain terms, and of no others
pub version_is : (t : TermsOf) → (version_on t ≡ 1) ↔ (t ≡ plain_terms)
version_is t = elim (cases_Bool (are_plain t)) [
  | inl all ↦ ((λ _. told_plain t all), (λ _. rw all refl))
  | inr some ↦ ((λ e. absurd (let q : 2 ≡ 1 = rw some at e in omega (arith, q))), (λ e. absurd (true_and_false (are_plain t) (ap are_plain e) some)))
]

pub version_either : (t : TermsOf) → IsVersion (version_on t)
version_either t = elim (cases_Bool (are_plain t)) [ inl all ↦ rw all (inl refl) | inr some ↦ rw some (inr refl) ]

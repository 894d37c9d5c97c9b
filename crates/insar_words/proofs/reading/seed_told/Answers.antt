use Rattle.std.proofs.Common.{◌∙◌, arith, codes, refl, sym, subst}
use Rattle.std.specs.Option.{IsSome}
use Rattle.std.specs.Str.Parse.{ExplainsUnsignedError, HasUnsignedDigitsIfOk, ParsesUnsigned}
use Rattle.insar_words.proofs.RequestLemmas.{number_got}
use Rattle.insar_words.proofs.reading.seed_told.Goals as goal

pub unwrap-requires : goal.unwrap-requires
unwrap-requires c =
    let got = number_got _ (λ bs r. ParsesUnsigned 64 10 bs r × ExplainsUnsignedError 10 bs r × HasUnsignedDigitsIfOk bs r) 64 18446744073709551615 c.args.found.now (codes "seed") c.get_one.result c.requires c.get_one.ensures.value (λ u x g. g.0) (omega arith) in
    subst IsSome (sym got.1) refl

pub returns : goal.returns
returns c =
    let got = number_got _ (λ bs r. ParsesUnsigned 64 10 bs r × ExplainsUnsignedError 10 bs r × HasUnsignedDigitsIfOk bs r) 64 18446744073709551615 c.args.found.now (codes "seed") c.get_one.result c.requires c.get_one.ensures.value (λ u x g. g.0) (omega arith) in
    got.2 ∙ sym got.1 ∙ c.unwrap.ensures

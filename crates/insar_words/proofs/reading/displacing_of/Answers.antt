use Rattle.insar_words.proofs.reading.displacing_of.Goals as goal

pub returns : goal.returns
returns c = (c.number_told.ensures, (c.number_told-2.ensures, (c.number_told-3.ensures, c.number_told-4.ensures)))

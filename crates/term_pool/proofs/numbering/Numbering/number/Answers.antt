use Rattle.std.proofs.Common.{◌∙◌, ap}
use Rattle.term_pool.specs.Numbering.{number_in}
use Rattle.term_pool.proofs.NumberingLemmas.{number_told}
use Rattle.term_pool.proofs.numbering.Numbering.number.Goals as goal

pub returns : goal.returns
returns c =
    number_told _ c.requires.numbering c.args.r c.requires.place c.find.result
    (c.find.ensures ∙ ap (number_in c.args.self.now.index) c.number.ensures.number)

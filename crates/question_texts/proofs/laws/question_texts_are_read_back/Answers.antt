use Rattle.question_texts.proofs.ReadBack.{read_back}
use Rattle.question_texts.proofs.laws.question_texts_are_read_back.Goals as goal

pub returns : goal.returns
returns c = λ asserted script formulas short stands. read_back asserted short formulas c.items_are_unique.ensures.text script stands

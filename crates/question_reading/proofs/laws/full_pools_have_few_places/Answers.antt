use Rattle.std.proofs.Common.{Contains}
use Rattle.question_reading.proofs.CellTrees.{few_places}
use Rattle.question_reading.proofs.laws.full_pools_have_few_places.Goals as goal

pub returns : goal.returns
returns c = λ s pass terms most table shares one order holds lacks have.
    few_places s table pass (Contains terms) shares one order holds lacks terms most have (λ t there. there)

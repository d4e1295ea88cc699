-- Private. The plan without names.
use Rattle.std.proofs.Common.{[]}
use Rattle.term_model.proofs.Lists.{contains_none}
use Rattle.printed_proofs.specs.Naming.{IsPlan}

pub no_names : IsPlan []
no_names = record {
  usable = λ n has. absurd (contains_none n has);
  symbol = λ n has. absurd (contains_none n has);
  free_word = λ n has. absurd (contains_none n has);
  sorted = λ n has. absurd (contains_none n has);
  closed = λ n has. absurd (contains_none n has);
  distinct = λ m n has. absurd (contains_none m has);
}

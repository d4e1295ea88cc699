use Rattle.std.proofs.Common.{◌≡◌, ◌∙◌, sym, true}
use Rattle.std.specs.Prelude.{is_ok}
use Rattle.worker_crew.proofs.Doing.{no_err_is_ok}
use Rattle.worker_crew.proofs.order.both.Goals as goal

pub returns-clause-pieces : goal.returns-clause-pieces
returns-clause-pieces g c =
    let went : is_ok c.append.result ≡ true = no_err_is_ok c.append.result (sym c.is_err.ensures.value ∙ c.if-is_err.false) in
    record {
      one = c.in-Ok.pieces;
      other = c.in-Ok-second.more;
      first = c.in-Ok.is;
      second = c.in-Ok-second.is;
      are = rw went at c.append.ensures.items;
    }

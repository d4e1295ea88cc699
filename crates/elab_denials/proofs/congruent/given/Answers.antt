use Rattle.elab_denials.proofs.congruent.given.Goals as goal

pub returns-clause-given : goal.returns-clause-given
returns-clause-given c = record {
  sides = c.in_ok-sides.sides.items;
  given = record {
    is_table = rw c.deref.ensures.value at c.in_ok-table.ensures.table;
    denied = c.in_ok-sides.ensures.given;
    are = λ ts refer. c.in_ok-sides.ensures.sides ts refer;
  };
}

use Rattle.std.proofs.Common.{◌≡◌, ◌≤◌, false, length, get_or, inl, inr, arith}
use Rattle.rules_resolution.specs.declared.occurrence.Occurrence.{Occurrence}
use Rattle.rules_resolution.specs.Occurrence.{is_of}
use Rattle.rules_resolution.proofs.States.{none_of}
use Rattle.rules_resolution.proofs.search.leader_of.Goals as goal
use Rattle.rules_resolution.proofs.search.leader_of.Goals.{else-first-table-via-then-first-table+else-is_of, else-first-table-via-else-first-table}

abbrev none : Occurrence
none = record { atom = 0; negative = false; premise = 0; place = 0 }

pub returns-else-first-table-clause-none : goal.returns-else-first-table-clause-none
returns-else-first-table-clause-none c =
    elim c.else-first-table.branch [
      | else-first-table-via-then-first-table+else-is_of w ↦
          (let isnt : is_of c.args.atom c.args.negative (get_or c.args.table.now c.first_of-first.result none) ≡ false = cc in
          none_of c.args.atom c.args.negative c.args.table.now c.first_of-first.result none c.requires.rising c.requires.range c.first_of-first.ensures (inr isnt))
      | else-first-table-via-else-first-table w ↦
          (let past : length c.args.table.now ≤ c.first_of-first.result = omega arith in
          none_of c.args.atom c.args.negative c.args.table.now c.first_of-first.result none c.requires.rising c.requires.range c.first_of-first.ensures (inl past))
    ]

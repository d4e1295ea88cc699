use Rattle.known_args.proofs.RowLemmas.{none_before}
use Rattle.known_args.proofs.memory.KnownArgs.free_list.Goals as goal

pub returns-in_err-keep : goal.returns-in_err-keep
returns-in_err-keep c = record {
  right = λ v right.
      rw (c.replace-last.ensures.after, c.none.ensures) (none_before v c.keep.new.kept.items (c.keep.ensures v (rw c.replace-last.ensures.value right)));
}

pub returns : goal.returns
returns c = record {
  right = λ v right.
      rw (c.replace-last.ensures.after, c.none.ensures) (none_before v c.keep.new.kept.items (c.keep.ensures v (rw c.replace-last.ensures.value right)));
}

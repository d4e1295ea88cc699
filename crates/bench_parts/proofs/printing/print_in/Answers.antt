use Rattle.bench_parts.proofs.printing.print_in.Goals as goal

pub print_behind-printed-requires-clause-problem : goal.print_behind-printed-requires-clause-problem
print_behind-printed-requires-clause-problem g c =
    let read = c.in_ok-read.ensures.problem in
    record { text = c.args.problem.now; replaces = _; script = read.0; stands = read.1; is = read.2 }

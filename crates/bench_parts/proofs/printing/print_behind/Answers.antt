use Rattle.bench_parts.proofs.printing.print_behind.Goals as goal

pub print_read-printed-requires : goal.print_read-printed-requires
print_read-printed-requires g c =
    let before = c.requires.problem in
    let stays =
    c.problems_stay.ensures c.args.symbols.now c.read_proof.new.symbols c.args.terms.now c.read_proof.new.terms c.args.problem.now before.script
    c.read_proof.ensures.symbols c.read_proof.ensures.keeps before.is in
    record {
      problem = record { text = before.text; replaces = before.replaces; script = before.script; stands = before.stands; is = stays };
      text = c.args.proof.now;
      settings = _;
      read = c.in_ok-read.ensures.proof before.script before.is;
    }

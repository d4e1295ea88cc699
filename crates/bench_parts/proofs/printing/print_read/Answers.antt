use Rattle.std.proofs.Common.{sym}
use Rattle.bench_parts.proofs.printing.print_read.Goals as goal

pub proof_names-requires : goal.proof_names-requires
proof_names-requires g c =
    let p = c.requires.problem in
    let r = c.requires.read in
    c.well_sorted_proofs_are_of_sorted_terms.ensures.read p.text p.replaces p.script c.requires.text c.requires.settings r.proof r.after
    c.args.symbols.now c.args.terms.now c.args.proof.now p.stands r.stands r.refer

pub print-requires-clause-sorts : goal.print-requires-clause-sorts
print-requires-clause-sorts g c =
    let p = c.requires.problem in
    let r = c.requires.read in
    c.read_proofs_have_sorts.ensures.read p.text p.replaces p.script c.requires.text c.requires.settings r.proof r.after
    c.args.symbols.now c.args.terms.now c.args.proof.now p.stands r.stands (sym p.is.script.sorts) r.refer

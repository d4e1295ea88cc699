use Rattle.std.proofs.Common.{refl, arith}
use Rattle.std.proofs.lemmas.Result.{on_ok_weaker, on_err_weaker}
use Rattle.problem_text.specs.Scripts.{empty_script}
use Rattle.alethe_printer.specs.Printed.{proof_text}
use Rattle.alethe_printer.proofs.pieces.print.Goals as goal

pub write_parts-requires-clause-printing : goal.write_parts-requires-clause-printing
write_parts-requires-clause-printing g c =
    let script = record empty_script { sorts = c.args.symbols.now.sorts; taken = c.requires.names.taken } in
    record {
      plan = c.requires.names.plan;
      of = c.requires.terms.proof;
      stand = c.requires.terms.stand;
      bytes = proof_text c.requires.names.plan script c.requires.terms.proof;
      prints =
          c.begin-printing.ensures c.args.symbols.now c.args.terms.now c.args.proof.now c.requires.names.plan script c.requires.terms.proof refl
          c.requires.names.given c.requires.terms.stand;
    }

pub returns-clause-all : goal.returns-clause-all
returns-clause-all g c =
    on_ok_weaker c.write_parts.result (λ all plan script of sorts given stand.
    all plan of (proof_text plan script of) stand
    (c.begin-printing.ensures c.args.symbols.now c.args.terms.now c.args.proof.now plan script of sorts given stand)) c.write_parts.ensures.all

pub returns-clause-prefix : goal.returns-clause-prefix
returns-clause-prefix g c =
    on_err_weaker c.write_parts.result (λ prefix plan script of sorts given stand.
    prefix plan of (proof_text plan script of) stand
    (c.begin-printing.ensures c.args.symbols.now c.args.terms.now c.args.proof.now plan script of sorts given stand)) c.write_parts.ensures.prefix

pub returns-clause-read_back : goal.returns-clause-read_back
returns-clause-read_back g c =
    on_ok_weaker c.write_parts.result (λ all settings plan script of sorts given stand is. record {
      bytes = proof_text plan script of;
      written =
          all plan of (proof_text plan script of) stand
          (c.begin-printing.ensures c.args.symbols.now c.args.terms.now c.args.proof.now plan script of sorts given stand);
      stands =
          c.printed_proofs_are_read_back.ensures settings plan script of is.no_limit is.keeps_lets is.strict is.sound is.ready
          (c.proofs_stand_well_formed.ensures c.args.symbols.now c.args.terms.now c.args.proof.now of c.leaves_differ.ensures.table stand
          c.count-count.ensures.well_formed)
          (let same = c.places_correspond.ensures c.args.symbols.now c.args.terms.now c.args.proof.now of 0 stand in
          let e = same.commands in
          let few = c.count-count.ensures.few in
          let count = c.count-count.ensures.count in omega arith) is.readable;
    }) c.write_parts.ensures.all

use Rattle.std.proofs.Common.{◌≡◌, false, sym, refl, subst, ◌∙◌, arith, rules}
use Rattle.std.proofs.lemmas.Result.{on_ok_weaker, on_err_weaker}
use Rattle.file_ports.specs.Texts.{AppendsPrefix}
use Rattle.alethe_printer.specs.Printing.{IsPrinting, StillPrints, HasPrinted}
use Rattle.alethe_printer.proofs.Appended.{on_err_of}
use Rattle.alethe_printer.proofs.Written.{piece_written, still_written, written_so_far, page_first, all_written}
use Rattle.alethe_printer.proofs.pieces.write_parts.Goals as goal

pub returns-in_err-write_long-clause-prefix : goal.returns-in_err-write_long-clause-prefix
returns-in_err-write_long-clause-prefix g c =
    on_err_of c.from_residual.result (λ plan of bytes stand h.
    page_first plan c.args.symbols.now c.args.terms.now c.args.proof.now of bytes c.parts.printing (g.S.Sink.written c.args.out.now)
    (g.S.Sink.written c.parts.out) (g.S.Sink.written c.write_long.new.out) (c.parts.invariant.on plan of bytes stand h)
    c.in_err-write_long.ensures.prefix)

pub more-requires-clause-printing : goal.more-requires-clause-printing
more-requires-clause-printing g c =
    let p = c.requires.printing in
    let k = piece_written p.plan c.args.symbols.now c.args.terms.now c.args.proof.now p.of p.bytes c.parts.printing
    (record c.parts.printing { page = c.write_long.new.page }) (g.S.Sink.written c.args.out.now) (g.S.Sink.written c.parts.out)
    (g.S.Sink.written c.write_long.new.out) (c.parts.invariant.on p.plan p.of p.bytes p.stand p.prints)
    (λ x end h. c.in_ok-write_long.ensures.moved p.plan c.args.symbols.now c.args.terms.now x end h) refl in
    subst (λ v. IsPrinting c.args.symbols.now v c.args.proof.now (record c.parts.printing { page = c.write_long.new.page })) (sym c.parts.invariant.same)
    (record { plan = p.plan; of = p.of; stand = p.stand; bytes = k.others; prints = k.prints })

pub returns-in_err-more-clause-prefix : goal.returns-in_err-more-clause-prefix
returns-in_err-more-clause-prefix g c =
    on_err_of c.from_residual-in_err-more.result (λ plan of bytes stand h.
    written_so_far plan c.args.symbols.now c.args.terms.now c.args.proof.now of bytes (record c.parts.printing { page = c.write_long.new.page })
    (g.S.Sink.written c.args.out.now) (g.S.Sink.written c.write_long.new.out)
    (piece_written plan c.args.symbols.now c.args.terms.now c.args.proof.now of bytes c.parts.printing
    (record c.parts.printing { page = c.write_long.new.page }) (g.S.Sink.written c.args.out.now) (g.S.Sink.written c.parts.out)
    (g.S.Sink.written c.write_long.new.out) (c.parts.invariant.on plan of bytes stand h)
    (λ x end k. c.in_ok-write_long.ensures.moved plan c.args.symbols.now c.args.terms.now x end k) refl))

pub returns-then-not-branch-clause-all : goal.returns-then-not-branch-clause-all
returns-then-not-branch-clause-all g c =
    let none : c.in_ok-more.field-0 ≡ false = search rules in
    let whole = subst (λ v. HasPrinted c.args.symbols.now v c.args.proof.now (record c.parts.printing { page = c.write_long.new.page }) c.more.new.self)
    c.parts.invariant.same (c.in_ok-more.ensures.whole none) in
    on_ok_weaker c.write_text.result (λ last plan of bytes stand h.
    all_written plan c.args.symbols.now c.args.terms.now c.args.proof.now of bytes (record c.parts.printing { page = c.write_long.new.page })
    (g.S.Sink.written c.args.out.now) (g.S.Sink.written c.write_long.new.out) (g.S.Sink.written c.write_text.new.out) c.deref.result.now
    (piece_written plan c.args.symbols.now c.args.terms.now c.args.proof.now of bytes c.parts.printing
    (record c.parts.printing { page = c.write_long.new.page }) (g.S.Sink.written c.args.out.now) (g.S.Sink.written c.parts.out)
    (g.S.Sink.written c.write_long.new.out) (c.parts.invariant.on plan of bytes stand h)
    (λ x end k. c.in_ok-write_long.ensures.moved plan c.args.symbols.now c.args.terms.now x end k) refl) last
    (λ x k. c.deref.ensures.value ∙ whole plan of x stand k)) c.write_text.ensures.all

pub returns-then-not-branch-clause-prefix : goal.returns-then-not-branch-clause-prefix
returns-then-not-branch-clause-prefix g c =
    let still = subst (λ v. StillPrints c.args.symbols.now v c.args.proof.now (record c.parts.printing { page = c.write_long.new.page }) c.more.new.self)
    c.parts.invariant.same c.in_ok-more.ensures.left in
    on_err_weaker c.write_text.result (λ prefix plan of bytes stand h.
    page_first plan c.args.symbols.now c.args.terms.now c.args.proof.now of bytes c.more.new.self (g.S.Sink.written c.args.out.now)
    (g.S.Sink.written c.write_long.new.out) (g.S.Sink.written c.write_text.new.out)
    (still_written plan c.args.symbols.now c.args.terms.now c.args.proof.now of bytes (record c.parts.printing { page = c.write_long.new.page })
    c.more.new.self (g.S.Sink.written c.args.out.now) (g.S.Sink.written c.write_long.new.out)
    (piece_written plan c.args.symbols.now c.args.terms.now c.args.proof.now of bytes c.parts.printing
    (record c.parts.printing { page = c.write_long.new.page }) (g.S.Sink.written c.args.out.now) (g.S.Sink.written c.parts.out)
    (g.S.Sink.written c.write_long.new.out) (c.parts.invariant.on plan of bytes stand h)
    (λ x end k. c.in_ok-write_long.ensures.moved plan c.args.symbols.now c.args.terms.now x end k) refl) (λ x k. still plan of x stand k))
    (subst (λ text. AppendsPrefix (g.S.Sink.written c.write_long.new.out) (g.S.Sink.written c.write_text.new.out) text) c.deref.ensures.value prefix))
    c.write_text.ensures.prefix

pub parts-preserved : goal.parts-preserved
parts-preserved g c =
    let still = subst (λ v. StillPrints c.args.symbols.now v c.args.proof.now (record c.parts.printing { page = c.write_long.new.page }) c.more.new.self)
    c.parts.invariant.same c.in_ok-more.ensures.left in
    record {
      on = λ plan of bytes stand h.
          still_written plan c.args.symbols.now c.args.terms.now c.args.proof.now of bytes (record c.parts.printing { page = c.write_long.new.page })
          c.more.new.self (g.S.Sink.written c.args.out.now) (g.S.Sink.written c.write_long.new.out)
          (piece_written plan c.args.symbols.now c.args.terms.now c.args.proof.now of bytes c.parts.printing
          (record c.parts.printing { page = c.write_long.new.page }) (g.S.Sink.written c.args.out.now) (g.S.Sink.written c.parts.out)
          (g.S.Sink.written c.write_long.new.out) (c.parts.invariant.on plan of bytes stand h)
          (λ x end k. c.in_ok-write_long.ensures.moved plan c.args.symbols.now c.args.terms.now x end k) refl) (λ x k. still plan of x stand k);
      count = let a = c.parts.invariant.count in let b = c.write_long.ensures.count in omega arith;
      same = c.more.ensures.same ∙ c.parts.invariant.same;
    }

pub returns-clause-prefix : goal.returns-clause-prefix
returns-clause-prefix g c = λ plan of bytes stand h.
    written_so_far plan c.args.symbols.now c.args.terms.now c.args.proof.now of bytes c.parts.printing (g.S.Sink.written c.args.out.now)
    (g.S.Sink.written c.parts.out) (c.parts.invariant.on plan of bytes stand h)

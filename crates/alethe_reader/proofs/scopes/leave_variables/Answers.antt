-- One variable fewer is in scope, until none is.
use Rattle.std.proofs.Common.{arith, sym, subst}
use Rattle.term_reader.specs.ProblemViews.{IsReaderOf}
use Rattle.alethe_reader.proofs.ScopeReading.{place_with, reader_outside, some_left, one_left, none_left}
use Rattle.alethe_reader.proofs.scopes.leave_variables.Goals as goal

pub variables-init : goal.variables-init
variables-init c = record {
  fewer = omega arith;
  scope = λ s v sc settings around before anchor count h. subst (λ k. IsReaderOf s v c.args.reader.now sc (place_with settings around anchor k)) (sym count) (reader_outside s v c.args.reader.now sc settings around before anchor h);
}

pub pop-requires : goal.pop-requires
pop-requires c =
    let (s, v, sc, settings, nesting, reader, count) = c.requires in
    let (p, x, outer, stands, is) = some_left s v sc settings c.args.reader.now c.variables.reader nesting c.args.count c.variables.left count (omega (arith, c.variables-test.true)) c.variables.invariant.fewer
    (λ around before anchor count h. c.variables.invariant.scope s v sc settings around before anchor count h) reader in
    (s, v, sc, p, x, outer, stands, is)

pub variables-preserved : goal.variables-preserved
variables-preserved c = record {
  fewer = omega (arith, c.variables.invariant.fewer);
  scope = λ s v sc settings around before anchor count h.
      one_left s v sc settings c.pop.new.self around anchor c.variables.left (omega (arith, c.variables-test.true)) (omega (arith, count, c.variables.invariant.fewer))
      (λ x outer is. c.pop.ensures.reader s v sc (place_with settings around anchor c.variables.left) x outer (c.variables.invariant.scope s v sc settings around before anchor count h) is);
}

pub returns : goal.returns
returns c s v sc settings around before anchor count h =
    none_left s v sc settings c.variables.reader around anchor c.variables.left (omega (arith, c.variables-test.false)) (c.variables.invariant.scope s v sc settings around before anchor count h)

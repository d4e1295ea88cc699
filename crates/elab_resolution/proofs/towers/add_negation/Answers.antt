use Rattle.std.proofs.Common.{◌<◌, ◌-◌, ℕ, length, sym, subst, arith}
use Rattle.sym_table.specs.Table.{Table}
use Rattle.term_model.specs.Terms.{Term, not_of}
use Rattle.term_pool.specs.Views.{RefersTo, TermsView}
use Rattle.term_pool.proofs.References.{AreOne}
use Rattle.elab_resolution.specs.Levels.{IsNextLevel, numbered}
use Rattle.elab_resolution.specs.Numbered.{IsNumbering, reference_of}
use Rattle.elab_resolution.specs.declared.numbering.Numbering.{Numbering}
use Rattle.elab_resolution.proofs.LevelLemmas.{negation_next}
use Rattle.elab_resolution.proofs.NumberLemmas.{has_none, numbering_later, numbering_more, numbers_few, refers_at, sizes}
use Rattle.elab_resolution.proofs.Results.{handed_on}
use Rattle.elab_resolution.proofs.towers.add_negation.Goals as goal

last_refers : (s : Table) (v : TermsView) (n : Numbering) (h : IsNumbering s v n) → 0 < length n.nots.items
    → RefersTo s v (reference_of n.refs.items (length n.refs.items - 1)) (numbered h.terms (length n.nots.items - 1))
last_refers s v n h some =
    subst (λ m. RefersTo s v (reference_of n.refs.items (m - 1)) (numbered h.terms (length n.nots.items - 1))) (sym (sizes h))
    (refers_at h (length n.nots.items - 1) (omega arith))

pub negation-requires : goal.negation-requires
negation-requires c = record {
  means = numbered c.requires.numbering.terms (length c.args.numbering.now.nots.items - 1);
  refers = rw c.last-last.ensures (last_refers c.args.symbols.now c.args.terms.now c.args.numbering.now c.requires.numbering c.requires.some);
}

pub returns-in_err-made-clause-full : goal.returns-in_err-made-clause-full
returns-in_err-made-clause-full c =
    handed_on c.from_residual.result _ _ c.from_residual.ensures.1
    (λ is t refers. c.in_err-made.ensures.full is t (rw c.last-last.ensures refers))

pub add-requires : goal.add-requires
add-requires c = record {
  few =
      let later = numbering_later c.args.symbols.now c.args.terms.now c.negation.new.terms
      c.args.numbering.now c.in_ok-made.ensures.keeps c.requires.numbering in
      let few = numbers_few c.args.symbols.now c.negation.new.terms c.args.numbering.now c.one_to_one.ensures c.terms_at.ensures.lists later in
      omega arith;
}

pub returns-clause-numbering : goal.returns-clause-numbering
returns-clause-numbering c =
    numbering_more s w n c.add.new.self later c.in_ok-made.made c.args.level t made next
    (has_none later one c.in_ok-made.made t made next.new) c.in_ok-add.ensures
  where
    s : Table
    s = c.args.symbols.now

    v : TermsView
    v = c.args.terms.now

    w : TermsView
    w = c.negation.new.terms

    n : Numbering
    n = c.args.numbering.now

    h : IsNumbering s v n
    h = c.requires.numbering

    later : IsNumbering s w n
    later = numbering_later s v w n c.in_ok-made.ensures.keeps h

    m : ℕ
    m = length n.nots.items - 1

    t : Term
    t = not_of (numbered h.terms m)

    one : AreOne s w
    one = c.equal_exactly_where_terms_are.ensures s c.leaves_differ.ensures.table

    made : RefersTo s w c.in_ok-made.made t
    made =
        c.in_ok-made.ensures.term (numbered h.terms m)
        (subst (λ q. RefersTo s v q (numbered h.terms m)) (sym c.last-last.ensures) (last_refers s v n h c.requires.some))

    next : IsNextLevel n.nots.items h.terms c.args.level t
    next =
        let some = c.requires.some in
        subst (λ x. IsNextLevel n.nots.items h.terms x t) (sym c.requires.level) (negation_next n.nots.items h.terms m h.levels (omega arith))

use Rattle.std.proofs.Common.{ap, sym, subst}
use Rattle.equality_steps.specs.Blocks.{IsBlockAt}
use Rattle.term_pool.proofs.PlacedCells.{places_none}
use Rattle.term_pool.proofs.ReadingLemmas.{keeps-same}
use Rattle.term_pool.specs.Placing.{PlacesCellsOf}
use Rattle.term_pool.specs.Views.{TermsView, KeepsTerms}
use Rattle.flip_steps.specs.Remembering.{IsGatheredFor}
use Rattle.flip_steps.specs.Stages.{IsMadeAt}
use Rattle.flip_steps.proofs.Results.{handed_on}
use Rattle.flip_steps.proofs.walking.close.Goals as goal

pub returns-in_err-gathered-clause-placed : goal.returns-in_err-gathered-clause-placed
returns-in_err-gathered-clause-placed c =
    let s = c.args.at.now.symbols.now in
    let w = c.gather_for.new.terms in
    places_none s c.args.terms.now.pass w.pass (IsMadeAt s w c.args.r) (ap (λ (v : TermsView). v.pass.placed) c.in_err-gathered.ensures.same)

pub returns-in_err-gathered-clause-keeps : goal.returns-in_err-gathered-clause-keeps
returns-in_err-gathered-clause-keeps c = keeps-same c.args.terms.now c.gather_for.new.terms c.in_err-gathered.ensures.same

pub settle-requires-clause-block : goal.settle-requires-clause-block
settle-requires-clause-block c =
    subst (λ (v : TermsView). IsBlockAt c.args.at.now v c.args.block.now) (sym c.in_ok-gathered.ensures.same) c.requires.block

pub settle-requires-clause-gathered : goal.settle-requires-clause-gathered
settle-requires-clause-gathered c =
    let g = c.in_ok-gathered.gathered in
    subst (λ (v : TermsView). IsGatheredFor c.args.at.now v c.args.block.now c.args.r g.head g.forms.items g.links.items) (sym c.in_ok-gathered.ensures.same)
    (c.in_ok-gathered.ensures.gathered c.args.block.now c.requires.forms)

pub returns-in_err-formed-clause-placed : goal.returns-in_err-formed-clause-placed
returns-in_err-formed-clause-placed c =
    let s = c.args.at.now.symbols.now in
    let w = c.settle.new.terms in
    subst (λ (v : TermsView). PlacesCellsOf s v.pass w.pass (IsMadeAt s w c.args.r)) c.in_ok-gathered.ensures.same c.in_err-formed.ensures.placed

pub returns-in_err-formed-clause-full : goal.returns-in_err-formed-clause-full
returns-in_err-formed-clause-full c =
    handed_on c.from_residual-in_err-formed.result _ _ c.from_residual-in_err-formed.ensures.1 c.in_err-formed.ensures.full

pub returns-in_err-formed-clause-keeps : goal.returns-in_err-formed-clause-keeps
returns-in_err-formed-clause-keeps c =
    subst (λ (v : TermsView). KeepsTerms v c.settle.new.terms) c.in_ok-gathered.ensures.same c.in_err-formed.ensures.keeps

pub returns-in_err-note-clause-placed : goal.returns-in_err-note-clause-placed
returns-in_err-note-clause-placed c =
    let s = c.args.at.now.symbols.now in
    let w = c.settle.new.terms in
    subst (λ (v : TermsView). PlacesCellsOf s v.pass w.pass (IsMadeAt s w c.args.r)) c.in_ok-gathered.ensures.same c.in_ok-formed.ensures.placed

pub returns-in_err-note-clause-keeps : goal.returns-in_err-note-clause-keeps
returns-in_err-note-clause-keeps c =
    subst (λ (v : TermsView). KeepsTerms v c.settle.new.terms) c.in_ok-gathered.ensures.same c.in_ok-formed.ensures.keeps

pub returns-clause-formed : goal.returns-clause-formed
returns-clause-formed c = (c.in_ok-formed.formed, c.in_ok-formed.ensures.formed, c.in_ok-note.ensures)

pub returns-clause-placed : goal.returns-clause-placed
returns-clause-placed c =
    let s = c.args.at.now.symbols.now in
    let w = c.settle.new.terms in
    subst (λ (v : TermsView). PlacesCellsOf s v.pass w.pass (IsMadeAt s w c.args.r)) c.in_ok-gathered.ensures.same c.in_ok-formed.ensures.placed

pub returns-clause-keeps : goal.returns-clause-keeps
returns-clause-keeps c =
    subst (λ (v : TermsView). KeepsTerms v c.settle.new.terms) c.in_ok-gathered.ensures.same c.in_ok-formed.ensures.keeps

-- Where there are no images, the term itself is the one with the images put in, and nothing is placed.
use Rattle.std.proofs.Common.{sym, subst, ◌∙◌, length}
use Rattle.std.proofs.lemmas.Bool.{eqb-true}
use Rattle.term_pool.specs.Views.{RefersTo}
use Rattle.term_pool.specs.Placing.{PlacesTerm}
use Rattle.alethe_reader.proofs.NeededImages.{nothing_put_in, places_nothing}
use Rattle.alethe_reader.proofs.needed_images.with_images.Goals as goal

pub returns-then-is_empty-clause-term : goal.returns-then-is_empty-clause-term
returns-then-is_empty-clause-term c t q refers are =
    subst (RefersTo c.args.symbols.now c.args.terms.now c.args.r) (sym (nothing_put_in _ _ c.args.images.now q t (eqb-true (length c.args.images.now) 0 (sym c.is_empty.ensures ∙ c.if-is_empty.true)) are)) refers

pub returns-then-is_empty-clause-placed : goal.returns-then-is_empty-clause-placed
returns-then-is_empty-clause-placed c t q refers are =
    subst (PlacesTerm c.args.symbols.now c.args.terms.now.pass c.args.terms.now.pass) (sym (nothing_put_in _ _ c.args.images.now q t (eqb-true (length c.args.images.now) 0 (sym c.is_empty.ensures ∙ c.if-is_empty.true)) are)) (places_nothing _ _ _ t refers)

pub returns-then-is_empty-clause-known : goal.returns-then-is_empty-clause-known
returns-then-is_empty-clause-known c = record { tree = c.requires.term.refers.tree; stands = c.requires.term.refers.known }

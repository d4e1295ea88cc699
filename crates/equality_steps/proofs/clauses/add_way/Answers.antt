use Rattle.std.proofs.Common.{◌≡◌, ◌-◌, ℕ, suc, List, [], ◌∷◌, take, drop, get_or, length, Contains, sym, ◌∙◌, ap, subst, arith, take_all}
use Rattle.rule_model.specs.Congruence.{denials}
use Rattle.term_model.proofs.Zips.{zip_at, zip_length}
use Rattle.term_model.specs.Flips.{equality}
use Rattle.term_model.specs.Terms.{Term}
use Rattle.term_pool.proofs.References.{refer_are_terms}
use Rattle.term_pool.specs.Views.{TermsView, RefersTo, ReferToAll}
use Rattle.sym_table.specs.Table.{Table}
use Rattle.equality_steps.specs.Clauses.{AddsLiterals}
use Rattle.equality_steps.specs.Denied.{last_from, neighbors}
use Rattle.equality_steps.proofs.DeniedLemmas.{adds_then, blank, lacks_left, lacks_right, last_item, placed_then, places_left, term_later, zip_neighbors}
use Rattle.equality_steps.proofs.Results.{err_more, handed_on, on_ok}
use Rattle.equality_steps.proofs.StepLemmas.{refers_later}
use Rattle.equality_steps.proofs.clauses.add_way.Goals as goal

-- the references of a way but for the first one, and the first and the last
behind : (s : Table) (v : TermsView) (way : List ℕ) (t : Term) (us : List Term) → ReferToAll s v way (t ∷ us)
    → ReferToAll s v (take (length way - 1) (drop 1 way)) us
behind s v [] t us h = absurd h
behind s v (r ∷ way) t us h =
    subst (λ rs. ReferToAll s v rs us) (sym (take_all (suc (length way) - 1) way (omega arith))) h.1

first_refers : (s : Table) (v : TermsView) (way : List ℕ) (t : Term) (us : List Term) → ReferToAll s v way (t ∷ us) → (a : ℕ)
    → a ≡ get_or way 0 a → RefersTo s v a t
first_refers s v [] t us h a e = absurd h
first_refers s v (r ∷ way) t us h a e = subst (λ x. RefersTo s v x t) (sym e) h.0

last_refers : (s : Table) (v : TermsView) (way : List ℕ) (t : Term) (us : List Term) → ReferToAll s v way (t ∷ us) → (a : ℕ)
    → a ≡ get_or way (length way - 1) a → RefersTo s v a (last_from t us)
last_refers s v way t us h a e =
    let long = zip_length (RefersTo s v) way (t ∷ us) h in
    let n : length way - 1 ≡ length us = omega arith in
    let there = zip_at (RefersTo s v) way (t ∷ us) (length us) a blank h (omega arith) in
    subst (RefersTo s v a) (last_item t us)
    (subst (λ x. RefersTo s v x (get_or (t ∷ us) (length us) blank)) (sym (e ∙ ap (λ k. get_or way k a) n)) there)

pub add_denials-requires-clause-left : goal.add_denials-requires-clause-left
add_denials-requires-clause-left c =
    refer_are_terms c.args.at.now.symbols.now c.args.terms.now c.args.way.now (c.requires.first ∷ c.requires.others) c.requires.refer

pub add_denials-requires-clause-right : goal.add_denials-requires-clause-right
add_denials-requires-clause-right c =
    refer_are_terms c.args.at.now.symbols.now c.args.terms.now (take (length c.args.way.now - 1) (drop 1 c.args.way.now)) c.requires.others
    (behind c.args.at.now.symbols.now c.args.terms.now c.args.way.now c.requires.first c.requires.others c.requires.refer)

pub returns-in_err-add_denials-clause-placed : goal.returns-in_err-add_denials-clause-placed
returns-in_err-add_denials-clause-placed c t us h =
    let s = c.args.at.now.symbols.now in
    let v = c.args.terms.now in
    places_left s v.pass c.add_denials.new.terms.pass (denials (neighbors t us)) (equality t (last_from t us) ∷ [])
    (subst (λ ps. Rattle.term_pool.specs.Placing.PlacesCellsOf s v.pass c.add_denials.new.terms.pass (Contains (denials ps))) (zip_neighbors t us)
    (c.add_denials.ensures.placed (t ∷ us) us h (behind s v c.args.way.now t us h)))

pub returns-in_err-add_denials-clause-full : goal.returns-in_err-add_denials-clause-full
returns-in_err-add_denials-clause-full c =
    handed_on c.from_residual.result _ _ c.from_residual.ensures.1 (λ full t us h.
    let s = c.args.at.now.symbols.now in
    let v = c.args.terms.now in
    lacks_left s c.add_denials.new.terms.pass (denials (neighbors t us)) (equality t (last_from t us) ∷ [])
    (subst (λ ps. Rattle.term_pool.specs.Placing.LacksCellOf s c.add_denials.new.terms.pass (Contains (denials ps))) (zip_neighbors t us)
    (c.in_err-add_denials.ensures.full full (t ∷ us) us h (behind s v c.args.way.now t us h))))

pub add_equality-requires-clause-right : goal.add_equality-requires-clause-right
add_equality-requires-clause-right c =
    term_later c.args.at.now.symbols.now c.args.terms.now c.add_denials.new.terms c.add_denials.ensures.keeps c.index-way-way.result
    (record {
      means = last_from c.requires.first c.requires.others;
      refers = last_refers c.args.at.now.symbols.now c.args.terms.now c.args.way.now c.requires.first c.requires.others c.requires.refer
          c.index-way-way.result c.index-way-way.is;
    })

pub returns-clause-added : goal.returns-clause-added
returns-clause-added c t us h =
    let s = c.args.at.now.symbols.now in
    let v = c.args.terms.now in
    let w = c.add_denials.new.terms in
    let keeps = c.add_denials.ensures.keeps in
    let first = refers_later c.args.at.now v w keeps c.index-way-0.result t (first_refers s v c.args.way.now t us h c.index-way-0.result c.index-way-0.is) in
    let last =
    refers_later c.args.at.now v w keeps c.index-way-way.result (last_from t us)
    (last_refers s v c.args.way.now t us h c.index-way-way.result c.index-way-way.is) in
    on_ok c.add_equality.result _ _
    (adds_then s w c.add_equality.new.terms c.add_equality.ensures.keeps c.args.clause.now.items c.add_denials.new.clause.items
    c.add_equality.new.clause.items (denials (neighbors t us)) (equality t (last_from t us) ∷ [])
    (subst (λ ps. AddsLiterals s w c.args.clause.now.items c.add_denials.new.clause.items (denials ps)) (zip_neighbors t us)
    (c.in_ok-add_denials.ensures.added (t ∷ us) us h (behind s v c.args.way.now t us h))))
    (c.add_equality.ensures.added t (last_from t us) first last)

pub returns-clause-placed : goal.returns-clause-placed
returns-clause-placed c t us h =
    let s = c.args.at.now.symbols.now in
    let v = c.args.terms.now in
    let w = c.add_denials.new.terms in
    let keeps = c.add_denials.ensures.keeps in
    let first = refers_later c.args.at.now v w keeps c.index-way-0.result t (first_refers s v c.args.way.now t us h c.index-way-0.result c.index-way-0.is) in
    let last =
    refers_later c.args.at.now v w keeps c.index-way-way.result (last_from t us)
    (last_refers s v c.args.way.now t us h c.index-way-way.result c.index-way-way.is) in
    placed_then s v w c.add_equality.new.terms (denials (neighbors t us)) (equality t (last_from t us) ∷ []) c.add_equality.ensures.keeps
    (subst (λ ps. Rattle.term_pool.specs.Placing.PlacesCellsOf s v.pass w.pass (Contains (denials ps))) (zip_neighbors t us)
    (c.add_denials.ensures.placed (t ∷ us) us h (behind s v c.args.way.now t us h)))
    (c.add_equality.ensures.placed t (last_from t us) first last)

pub returns-clause-full : goal.returns-clause-full
returns-clause-full c =
    err_more c.add_equality.result _ _ (λ e lacks is t us h.
    let s = c.args.at.now.symbols.now in
    let v = c.args.terms.now in
    let w = c.add_denials.new.terms in
    let keeps = c.add_denials.ensures.keeps in
    let first = refers_later c.args.at.now v w keeps c.index-way-0.result t (first_refers s v c.args.way.now t us h c.index-way-0.result c.index-way-0.is) in
    let last =
    refers_later c.args.at.now v w keeps c.index-way-way.result (last_from t us)
    (last_refers s v c.args.way.now t us h c.index-way-way.result c.index-way-way.is) in
    lacks_right s c.add_equality.new.terms.pass (denials (neighbors t us)) (equality t (last_from t us) ∷ [])
    (lacks is t (last_from t us) first last)) c.add_equality.ensures.full

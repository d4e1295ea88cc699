-- Steps of a chain of first rows.
use Rattle.std.proofs.Common.{◌≡◌, ◌↔◌, inl, inr, ◌<◌, ◌&&◌, ℕ, List, map, Bool, true, false, IsTrue, Option, Some, None, refl, sym, ap, ◌∙◌, subst, arith}
use Rattle.sym_table.specs.Table.{Table, IsTable}
use Rattle.term_model.specs.declared.symbols.Op.{Op}
use Rattle.term_model.specs.Terms.{Term, operation, terms_of}
use Rattle.term_pool.specs.Decoding.{HasTermsAt}
use Rattle.term_pool.specs.Views.{TermsView, RefersTo}
use Rattle.rule_model.specs.declared.letter.Letter.{Letter}
use Rattle.rule_model.specs.Rewriting.{RewriteRow, IsFirstFit, IsReached, once}
use Rattle.rule_model.specs.Patterns.{a, b, c, no, conj, implies}
use Rattle.rule_model.specs.Schemas.{letter, fill}
use Rattle.rule_model.specs.Simplify.{bool_simplify}
use Rattle.term_model.proofs.Basics.{and-left, and-right}
use Rattle.schema_match.specs.Letters.{slot, Agrees}
use Rattle.rules_simplify.specs.declared.rewrites.Application.{Application}
use Rattle.rules_simplify.specs.declared.rewrites.Fit.{Fit}
use Rattle.rules_simplify.specs.declared.tables.Next.TheVariants.{Ends, Part, Over, OverNegation, Conjoins}
use Rattle.rules_simplify.specs.declared.tables.Simplification.{Simplification}
use Rattle.rules_simplify.specs.declared.rewrites.Step.{Step}
use Rattle.rules_simplify.specs.ChainSteps.{step_where, IsStepTo, IsNegationSettled, IsConjoiningStep}
use Rattle.rules_simplify.specs.Chains.{heaviness, StandsForApplication, IsFirstRow, IsMissing}
use Rattle.rules_simplify.specs.Tables.{SaysNext, has_letter, has_letters_of, rows_of}
use Rattle.rules_simplify.proofs.ChainLemmas.{reached_none, reached_next}
use Rattle.rules_simplify.proofs.RowLemmas.{last_fits_none, letter_settled, letter_refers, letters_refer, over_is, letter_there, rewrite_is}
use Rattle.rules_simplify.proofs.SortLemmas.{right_sorted}
use Rattle.rules_simplify.proofs.WeightLemmas.{row_falls, weight_at, weight_is}
use Rattle.std.specs.Borrow.{Bor}
use Rattle.term_model.specs.Sorts.{IsWellSorted}

some_of : (o : Option ℕ) → (o ≡ None → ⊥) → (r : ℕ) × (o ≡ Some r)
some_of None other = absurd (other refl)
some_of (Some r) other = (r, refl)

-- a step by whether it goes on
pub step_is : (s : Table) (v : TermsView) (rows : List RewriteRow) (at : Application) (t : Term) (goes : Bool) (step : Step) → step ≡ step_where goes → (goes ≡ true → StandsForApplication s v at t) → (goes ≡ false → (u : Term) → ¬ IsFirstFit rows t u) → IsStepTo s v rows at t step
step_is s v rows at t true step e next ends = subst (IsStepTo s v rows at t) (sym e) (next refl)
step_is s v rows at t false step e next ends = subst (IsStepTo s v rows at t) (sym e) (ends refl)

module _ (s : Table) (v : TermsView) (rows : List RewriteRow) (fit : Fit) (t : Term) (is : IsFirstRow s v rows fit t) where
  -- what the row makes
  abbrev pub next_term : Term
  next_term = fill is.fits.terms is.row.right

  pub ends_here : fit.row.next ≡ Ends → (u : Term) → ¬ IsFirstFit rows next_term u
  ends_here e u = last_fits_none rows is.row.right is.fits.terms (subst (SaysNext rows is.row.right) e is.parts.5) u

  part_is : (l : Letter) → fit.row.next ≡ Part l → is.row.right ≡ letter l
  part_is l e = subst (SaysNext rows is.row.right) e is.parts.5

  pub part_settled : (l : Letter) → fit.row.next ≡ Part l → slot fit.letters l ≡ None → ⊥
  part_settled l e none =
      letter_settled s v fit.letters is.row t is.fits l (subst (λ p. IsTrue (has_letters_of is.row.left p)) (part_is l e) is.parts.4) none

  pub part_refers : (l : Letter) (r : ℕ) → fit.row.next ≡ Part l → slot fit.letters l ≡ Some r → RefersTo s v r next_term
  part_refers l r e there =
      subst (λ p. RefersTo s v r (fill is.fits.terms p)) (sym (part_is l e)) (letter_refers s v fit.letters is.fits.terms is.fits.agrees l r there)

  pub over_at : (op : Op) (ls : Bor (List Letter)) (at : Application) → fit.row.next ≡ Over op ls → at.op ≡ op → IsWellSorted next_term → map (slot fit.letters) ls.now ≡ map Some at.arguments.items → StandsForApplication s v at next_term
  over_at op ls at e same sorted loaded =
      let next = subst (SaysNext rows is.row.right) e is.parts.5 in
      record {
        arguments = map is.fits.terms ls.now;
        is = over_is is.fits.terms is.row.right op ls.now next.0 next.1 ∙ ap (λ o. operation o (terms_of (map is.fits.terms ls.now))) (sym same);
        refer = letters_refer s v fit.letters is.fits.terms is.fits.agrees ls.now at.arguments.items loaded;
        sorted = sorted;
      }

  pub over_missing : (op : Op) (ls : Bor (List Letter)) → fit.row.next ≡ Over op ls → IsMissing fit.letters ls.now → ⊥
  over_missing op ls e missing =
      let next = subst (SaysNext rows is.row.right) e is.parts.5 in
      letter_settled s v fit.letters is.row t is.fits missing.letter (letter_there is.row.left is.row.right ls.now is.parts.4 next.1 missing.letter missing.there) missing.none

  -- letters of the right side are settled
  settled_at : (l : Letter) → has_letter l is.row.left ≡ true → (r : ℕ) × (slot fit.letters l ≡ Some r)
  settled_at l has = some_of (slot fit.letters l) (letter_settled s v fit.letters is.row t is.fits l has)

  negation_is : fit.row.next ≡ OverNegation → (rows ≡ bool_simplify) × (is.row.right ≡ conj a (no b))
  negation_is e = subst (SaysNext rows is.row.right) e is.parts.5

  pub negation_settled : fit.row.next ≡ OverNegation → IsNegationSettled s v fit.letters
  negation_settled e =
      let told = subst (λ p. has_letters_of is.row.left p ≡ true) (negation_is e).1 is.parts.4 in
      let first = settled_at Letter.A (and-left (has_letter Letter.A is.row.left) (has_letter Letter.B is.row.left) told) in
      let second = settled_at Letter.B (and-right (has_letter Letter.A is.row.left) (has_letter Letter.B is.row.left) told) in
      record {
        terms = is.fits.terms;
        agrees = is.fits.agrees;
        first = first.0;
        second = second.0;
        has_first = first.1;
        has_second = second.1;
      }

  pub negation_at : (at : Application) → fit.row.next ≡ OverNegation → IsWellSorted next_term → ((f : Letter → Term) → Agrees s v fit.letters f → IsWellSorted (fill f (conj a (no b))) → StandsForApplication s v at (fill f (conj a (no b)))) → StandsForApplication s v at next_term
  negation_at at e sorted next =
      subst (λ p. StandsForApplication s v at (fill is.fits.terms p)) (sym (negation_is e).1)
      (next is.fits.terms is.fits.agrees (subst (λ p. IsWellSorted (fill is.fits.terms p)) (negation_is e).1 sorted))

  pub negation_ends : fit.row.next ≡ OverNegation → ((f : Letter → Term) (u : Term) → Agrees s v fit.letters f → ¬ IsFirstFit bool_simplify (fill f (conj a (no b))) u) → (u : Term) → ¬ IsFirstFit rows next_term u
  negation_ends e none u h =
      none is.fits.terms u is.fits.agrees
      (subst (λ p. IsFirstFit bool_simplify (fill is.fits.terms p) u) (negation_is e).1 (subst (λ rs. IsFirstFit rs next_term u) (negation_is e).0 h))

  conjoins_is : fit.row.next ≡ Conjoins → (rows ≡ bool_simplify) × (is.row.right ≡ implies (conj a b) c)
  conjoins_is e = subst (SaysNext rows is.row.right) e is.parts.5

  pub conjoins_to : (at : Application) (step : Step) → fit.row.next ≡ Conjoins → IsConjoiningStep fit.letters step → IsStepTo s v rows at next_term step
  conjoins_to at step e steps =
      let A = has_letter Letter.A is.row.left in
      let B = has_letter Letter.B is.row.left in
      let C = has_letter Letter.C is.row.left in
      let told = subst (λ p. has_letters_of is.row.left p ≡ true) (conjoins_is e).1 is.parts.4 in
      let both = and-left (A && B) C told in
      let first = settled_at Letter.A (and-left A B both) in
      let second = settled_at Letter.B (and-right A B both) in
      let conclusion = settled_at Letter.C (and-right (A && B) C told) in
      subst (IsStepTo s v rows at next_term) (sym (steps first.0 second.0 conclusion.0 first.1 second.1 conclusion.1)) (
        (conjoins_is e).0,
        record {
          first = is.fits.terms Letter.A;
          second = is.fits.terms Letter.B;
          conclusion = is.fits.terms Letter.C;
          first_refers = letter_refers s v fit.letters is.fits.terms is.fits.agrees Letter.A first.0 first.1;
          second_refers = letter_refers s v fit.letters is.fits.terms is.fits.agrees Letter.B second.0 second.1;
          conclusion_refers = letter_refers s v fit.letters is.fits.terms is.fits.agrees Letter.C conclusion.0 conclusion.1;
          is = ap (fill is.fits.terms) (conjoins_is e).1;
        },
      )

  -- the first row that fits makes this and nothing else
  pub first_makes : IsFirstFit rows t next_term
  first_makes = (is.first next_term).0 ((rewrite_is s v fit.letters is.row t next_term is.parts.4 is.fits).1 refl)

  pub only_makes : (u : Term) → IsFirstFit rows t u → u ≡ next_term
  only_makes u h = (rewrite_is s v fit.letters is.row t u is.parts.4 is.fits).0 ((is.first u).1 h)

  pub from_left : t ≡ fill is.fits.terms is.row.left
  from_left = (is.fits.gives is.fits.terms).1 is.fits.agrees

  module _ (b : Bool) (u : Term) (test : (f : Letter → Term) → t ≡ fill f is.row.left → IsTrue b ↔ (u ≡ fill f is.row.right)) where
    pub reached_here : b ≡ true → IsReached rows t u
    reached_here holds = once t u (subst (IsFirstFit rows t) (sym ((test is.fits.terms from_left).0 holds)) first_makes)

    pub reached_later : b ≡ false → IsReached rows t u ↔ IsReached rows next_term u
    reached_later fails =
        let step = reached_next rows t next_term u first_makes only_makes in (
          λ r. elim (step.0 r) [
            | inl e ↦ absurd (let holds = (test is.fits.terms from_left).1 e in cc)
            | inr rest ↦ rest
          ],
          λ rest. step.1 (inr rest),
        )

-- what a row makes is well sorted
pub next_sorted : (s : Table) (v : TermsView) (table : Simplification) (fit : Fit) (t : Term) (is : IsFirstRow s v (rows_of table) fit t) → IsWellSorted (next_term s v (rows_of table) fit t is)
next_sorted s v table fit t is =
    right_sorted table is.row is.there is.fits.terms is.fits.passes (subst IsWellSorted (from_left s v (rows_of table) fit t is) is.fits.sorted)

-- a term reached by the chain so far: what can be reached from the first one can be reached from it
pub record IsOnWay (s : Table) (v : TermsView) (rows : List RewriteRow) (at : Application) (t u : Term) : Type 0 where
  pub here : Term
  pub is : StandsForApplication s v at here
  pub same : IsReached rows t u ↔ IsReached rows here u

pub way_starts : (s : Table) (v : TermsView) (rows : List RewriteRow) (at : Application) (t u : Term) → StandsForApplication s v at t → IsOnWay s v rows at t u
way_starts s v rows at t u is = record { here = t; is = is; same = (λ h. h, λ h. h) }

module _ (s : Table) (v : TermsView) (rows : List RewriteRow) (at : Application) (t u : Term) (way : IsOnWay s v rows at t u) where
  pub way_ends : ((w : Term) → ¬ IsFirstFit rows way.here w) → IsTrue false ↔ IsReached rows t u
  way_ends none = (λ e. absurd cc, λ h. absurd (reached_none rows way.here u none (way.same.0 h)))

  module _ (fit : Fit) (is : IsFirstRow s v rows fit way.here) (b : Bool) (test : (f : Letter → Term) → way.here ≡ fill f is.row.left → IsTrue b ↔ (u ≡ fill f is.row.right)) where
    pub way_finds : b ≡ true → IsTrue true ↔ IsReached rows t u
    way_finds holds = (λ e. way.same.1 (reached_here s v rows fit way.here is b u test holds), λ h. refl)

    pub way_stops : b ≡ false → ((w : Term) → ¬ IsFirstFit rows (next_term s v rows fit way.here is) w) → IsTrue false ↔ IsReached rows t u
    way_stops fails none = (
      λ e. absurd cc,
      λ h. absurd (reached_none rows (next_term s v rows fit way.here is) u none ((reached_later s v rows fit way.here is b u test fails).0 (way.same.0 h))),
    )

    pub way_conjoins : (told : Bool) → b ≡ false → rows ≡ bool_simplify → IsTrue told ↔ IsReached bool_simplify (next_term s v rows fit way.here is) u → IsTrue told ↔ IsReached rows t u
    way_conjoins told fails bool reaches =
        let later = reached_later s v rows fit way.here is b u test fails in
        let here = subst (λ rs. IsTrue told ↔ IsReached rs (next_term s v rows fit way.here is) u) (sym bool) reaches in
        (λ e. way.same.1 (later.1 (here.0 e)), λ h. here.1 (later.0 (way.same.0 h)))

    pub way_goes : (new : Application) → b ≡ false → StandsForApplication s v new (next_term s v rows fit way.here is) → IsOnWay s v rows new t u
    way_goes new fails next =
        let later = reached_later s v rows fit way.here is b u test fails in
        record { here = next_term s v rows fit way.here is; is = next; same = (λ h. later.0 (way.same.0 h), λ h. way.same.1 (later.1 h)) }

-- a step lowers the weight
pub step_falls : (s : Table) (v : TermsView) → IsTable s → HasTermsAt v → (table : Simplification) (fit : Fit) (t : Term) (is : IsFirstRow s v (rows_of table) fit t) (at new : Application) → StandsForApplication s v at t → StandsForApplication s v new (next_term s v (rows_of table) fit t is) → weight_at s v new < weight_at s v at
step_falls s v symbols terms table fit t is at new here next =
    let falls = row_falls table is.row is.there is.fits.terms in
    let before = weight_is s v symbols terms at t here ∙ ap heaviness (from_left s v (rows_of table) fit t is) in
    let after = weight_is s v symbols terms new (next_term s v (rows_of table) fit t is) next in
    omega (arith, falls, before, after)

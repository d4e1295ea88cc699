-- Cited by crates above. What is read with one limit of heights is read the same with another one, where nothing that was read
-- is higher than that.
use Rattle.std.proofs.Common.{◌≡◌, ℕ, Bool, true, false, ◌||◌, if◌then◌else◌, Option, Some, None, Result, Ok, Err, List, [], ◌∷◌, ◌++◌}
use Rattle.std.proofs.Common.{refl, ap, subst, ◌∙◌}
use Rattle.std.specs.Prelude.{⊤}
use Rattle.std.specs.List.{AllByRecursion}
use Rattle.sexpr.specs.declared.causes.Cause.{Cause}
use Rattle.sexpr.specs.declared.causes.Cause.TheVariants.{Repeated, TooHigh, SortMismatch}
use Rattle.sexpr.specs.declared.causes.Refusal.{Refusal}
use Rattle.sexpr.specs.Items.{Item}
use Rattle.term_model.specs.declared.symbols.Sort.{Sort}
use Rattle.term_model.specs.Heights.{height}
use Rattle.term_model.specs.Terms.{Term, numeral}
use Rattle.text_items.specs.ItemShapes.{Name}
use Rattle.problem_text.specs.Words.{is_among, is_built_in}
use Rattle.problem_text.specs.Forms.{Form, faulty, number, symbol, application, let_form, annotated, Forms, no_forms, form, LetBinds, no_binds, bind, form_of}
use Rattle.problem_text.specs.Limits.{is_low, with_limit, AreLow}
use Rattle.problem_text.specs.TypedTerms.{Typed}
use Rattle.problem_text.specs.Outcomes.{Outcome, done, refuse, and_then, going_on}
use Rattle.problem_text.specs.Scripts.{Script, is_taken, with_named, with_term, with_let_name}
use Rattle.problem_text.specs.Names.{Place, Meaning, meaning_of, meaning_applied, refusal_of, place_inside, let_term}
use Rattle.problem_text.specs.Terms.{settled, with_meaning, with_names, term_from, terms_from, bounds_from, read_term}

-- Where a reading from a state ends without a fault, and in a state of this kind, the state was of this kind before, and
-- another reading ends as this one.
module _ {S : Type 0} (Within : S → Type 0) where
  abbrev pub EndsSame : {A : Type 0} → S → Result A Refusal → S → Outcome S A → Type 0
  EndsSame s (Ok a) u other = Within u → Within s × (other ≡ done a u)
  EndsSame s (Err refusal) u other = ⊤

  abbrev pub ReadsSame : {A : Type 0} → S → Outcome S A → Outcome S A → Type 0
  ReadsSame s o other = EndsSame s o.result o.state other

  pub same_then : {A B : Type 0} (s : S) (o other : Outcome S A) (next following : A → S → Outcome S B) → ReadsSame s o other
      → ((a : A) (u : S) → ReadsSame u (next a u) (following a u)) → ReadsSame s (and_then o next) (and_then other following)
  same_then {A} {B} s o other next following h k = go o.result o.state h
    where
      both : (a : A) (u : S) → EndsSame s (Ok a) u other → (r : Result B Refusal) (w : S) → EndsSame u r w (following a u)
          → EndsSame s r w (and_then other following)
      both a u h (Err refusal) w m = tt
      both a u h (Ok b) w m = λ within.
          let last = m within in
          let first = h last.0 in
          (first.0, ap (λ p. and_then p following) first.1 ∙ last.1)

      go : (r : Result A Refusal) (u : S) → EndsSame s r u other → ReadsSame s (going_on r u next) (and_then other following)
      go (Err refusal) u h = tt
      go (Ok a) u h = both a u h (next a u).result (next a u).state (k a u)

  pub same_done : {A : Type 0} (a : A) (s : S) → ReadsSame s (done a s) (done a s)
  same_done a s = λ within. (within, refl)

  pub same_unless : {A : Type 0} (b : Bool) (cause : Cause) (place : ℕ) (s : S) (o other : Outcome S A) → ReadsSame s o other
      → ReadsSame s (if b then refuse cause place s else o) (if b then refuse cause place s else other)
  same_unless true cause place s o other h = tt
  same_unless false cause place s o other h = h

one_less : (P : Term → Type 0) (ts : List Term) (t : Term) → AllByRecursion P (ts ++ t ∷ []) → AllByRecursion P ts × P t
one_less P [] t h = (tt, h.0)
one_less P (u ∷ ts) t h = let rest = one_less P ts t h.1 in ((h.0, rest.0), rest.1)

-- no term that was read is higher than the limit
module _ (limit : Option ℕ) where
  abbrev pub IsWithin : Script → Type 0
  IsWithin s = AreLow limit s.terms

  pub term_less : (s : Script) (t : Term) → IsWithin (with_term t s) → IsWithin s × (is_low limit (height t) ≡ true)
  term_less s t h = one_less (λ t. is_low limit (height t) ≡ true) s.terms t h

  abbrev Same : {A : Type 0} → Script → Outcome Script A → Outcome Script A → Type 0
  Same s o other = ReadsSame IsWithin s o other

  abbrev within : Place → Place
  within p = record p { settings = with_limit limit p.settings }

  same_settled : (cause : Cause) (first : Option ℕ) (place : ℕ) (o : Option Typed) (s : Script)
      → Same s (settled cause first place o s) (settled cause limit place o s)
  same_settled cause first place None s = tt
  same_settled cause first place (Some t) s = go (is_low first (height t.tree))
    where
      go : (b : Bool) → Same s (if b then done t (with_term t.tree s) else refuse TooHigh place (with_term t.tree s)) (settled cause limit place (Some t) s)
      go true = λ all. let less = term_less s t.tree all in let low = less.1 in (less.0, rw low refl)
      go false = tt

  same_names : (t : Typed) (ns : List Name) (s : Script) → Same s (with_names t ns s) (with_names t ns s)
  same_names t [] s = same_done IsWithin t s
  same_names t (n ∷ ns) s =
      same_unless IsWithin (is_taken s n.name) Repeated n.place s _ _ (same_names t ns (with_named (record { name = n.name; meant = t }) s))

  by_meaning : (place : ℕ) (o : Option Meaning) (s : Script) (next following : Meaning → Outcome Script Typed)
      → ((m : Meaning) → Same s (next m) (following m)) → Same s (with_meaning place o s next) (with_meaning place o s following)
  by_meaning place None s next following k = tt
  by_meaning place (Some m) s next following k = k m

  mutual
    unfolding term_from terms_from bounds_from meaning_of

    pub same_term : (f : Form) (p : Place) (s : Script) → Same s (term_from f p s) (term_from f (within p) s)
    same_term (faulty cause place) p s = tt
    same_term (number place n) p s = same_settled SortMismatch p.settings.limit place (Some (record { tree = numeral n; sort = Sort.Int })) s
    same_term (symbol n) p s =
        by_meaning n.place (meaning_of p s n.name) s _ _ (λ m. same_settled SortMismatch p.settings.limit n.place (meaning_applied m []) s)
    same_term (application place head fs) p s =
        by_meaning head.place (meaning_of p s head.name) s _ _
        (λ m. same_then IsWithin s (terms_from fs p s) _ _ _ (same_terms fs p s)
        (λ ts u. same_settled (refusal_of m ts) p.settings.limit place (meaning_applied m ts) u))
    same_term (let_form place bs body) p s =
        same_then IsWithin s (bounds_from bs [] p s) _ _ _ (same_bounds bs [] p s)
        (λ bound u. same_then IsWithin u (term_from body (place_inside bound p) u) _ _ _ (same_term body (place_inside bound p) u)
        (λ t w. same_settled SortMismatch p.settings.limit place (Some (let_term p bound t)) w))
    same_term (annotated place f names) p s = same_then IsWithin s (term_from f p s) _ _ _ (same_term f p s) (λ t u. same_names t names u)

    pub same_terms : (fs : Forms) (p : Place) (s : Script) → Same s (terms_from fs p s) (terms_from fs (within p) s)
    same_terms no_forms p s = same_done IsWithin [] s
    same_terms (form f fs) p s =
        same_then IsWithin s (term_from f p s) _ _ _ (same_term f p s)
        (λ t u. same_then IsWithin u (terms_from fs p u) _ _ _ (same_terms fs p u) (λ ts w. same_done IsWithin (t ∷ ts) w))

    pub same_bounds : (bs : LetBinds) (earlier : List (List ℕ)) (p : Place) (s : Script)
        → Same s (bounds_from bs earlier p s) (bounds_from bs earlier (within p) s)
    same_bounds no_binds earlier p s = same_done IsWithin [] s
    same_bounds (bind n f bs) earlier p s =
        same_unless IsWithin (is_built_in n.name || is_among earlier n.name) Repeated n.place s _ _
        (same_then IsWithin s (term_from f p (with_let_name n.name s)) _ _ _ (same_term f p (with_let_name n.name s))
        (λ t u. same_then IsWithin u (bounds_from bs (n.name ∷ earlier) p u) _ _ _ (same_bounds bs (n.name ∷ earlier) p u)
        (λ bound w. same_done IsWithin _ w)))

-- where it is known what is read
pub ends_same : {S A : Type 0} (Within : S → Type 0) (s u : S) (a : A) (o other : Outcome S A) → ReadsSame Within s o other
    → o ≡ done a u → Within u → other ≡ done a u
ends_same {S} {A} Within s u a o other h e within = (subst (λ (q : Outcome S A). ReadsSame Within s q other) e h within).1

pub term_within : (limit : Option ℕ) (i : Item) (p : Place) (s u : Script) (t : Typed) → read_term i p s ≡ done t u → AreLow limit u.terms
    → read_term i (record p { settings = with_limit limit p.settings }) s ≡ done t u
term_within limit i p s u t read low = ends_same (IsWithin limit) s u t _ _ (same_term limit (form_of i) p s) read low

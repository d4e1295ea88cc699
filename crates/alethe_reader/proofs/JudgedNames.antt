-- The name of a variable is judged by whether it is built in, and whether it is bound.
use Rattle.std.proofs.Common.{◌≡◌, ◌↔◌, ℕ, zero, suc, List, [], ◌∷◌, Bool, true, false, ◌||◌, IsTrue, Contains, Ok, Err, refl, sym, ap, subst, arith}
use Rattle.std.specs.Prelude.{⊤}
use Rattle.std.specs.Str.{bytes_eq}
use Rattle.std.proofs.lemmas.Slice.Eq.{bytes_eq-Decides}
use Rattle.sexpr.specs.declared.causes.Cause.TheVariants.{Repeated, BadAnchor}
use Rattle.sexpr.specs.declared.causes.Refusal.{Refusal}
use Rattle.sym_table.specs.Words.{IsBuiltIn, built_in_words}
use Rattle.term_model.proofs.Lists.{contains_head, contains_later}
use Rattle.problem_text.specs.Words.{is_among, is_built_in}
use Rattle.alethe_reader.specs.Opening.{IsNameJudged}

contains_among : (names : List (List ℕ)) (name : List ℕ) → Contains names name → is_among names name ≡ true
contains_among [] name (k, below, here) = absurd (omega (arith, below))
contains_among (x ∷ names) name (zero, below, here) = ap (λ b. b || is_among names name) ((bytes_eq-Decides name x).1 (sym here))
contains_among (x ∷ names) name (suc k, below, here) = go (bytes_eq name x) (contains_among names name (k, omega (arith, below), here))
  where
    go : (b : Bool) → is_among names name ≡ true → (b || is_among names name) ≡ true
    go true e = refl
    go false e = e

among_contains : (names : List (List ℕ)) (name : List ℕ) → is_among names name ≡ true → Contains names name
among_contains [] name e = absurd (cc)
among_contains (x ∷ names) name e = go (bytes_eq name x) refl e (among_contains names name)
  where
    go : (b : Bool) → bytes_eq name x ≡ b → (b || is_among names name) ≡ true → (is_among names name ≡ true → Contains names name) → Contains (x ∷ names) name
    go true f g k = subst (λ y. Contains (y ∷ names) name) ((bytes_eq-Decides name x).0 f) (contains_head name names)
    go false f g k = contains_later x name names (k g)

pub built_is : (r : Bool) (name : List ℕ) → (IsTrue r ↔ IsBuiltIn name) → is_built_in name ≡ r
built_is true name h = contains_among built_in_words name (h.0 refl)
built_is false name h = go (is_built_in name) refl
  where
    go : (b : Bool) → is_built_in name ≡ b → b ≡ false
    go true e = absurd (let f = h.1 (among_contains built_in_words name e) in cc)
    go false e = refl

pub built_refused : (built bound : Bool) (place : ℕ) (refusal : Refusal) → built ≡ true → refusal ≡ record { cause = Repeated; at = place } → IsNameJudged built bound place (Err refusal)
built_refused true bound place refusal e is = is
built_refused false bound place refusal e is = absurd (cc)

pub bound_refused : (built bound : Bool) (place : ℕ) (refusal : Refusal) → built ≡ false → bound ≡ true → refusal ≡ record { cause = BadAnchor; at = place } → IsNameJudged built bound place (Err refusal)
bound_refused true bound place refusal e f is = absurd (cc)
bound_refused false true place refusal e f is = is
bound_refused false false place refusal e f is = absurd (cc)

pub name_kept : (built bound : Bool) (place : ℕ) (u : ⊤) → built ≡ false → bound ≡ false → IsNameJudged built bound place (Ok u)
name_kept true bound place u e f = absurd (cc)
name_kept false true place u e f = absurd (cc)
name_kept false false place u e f = tt

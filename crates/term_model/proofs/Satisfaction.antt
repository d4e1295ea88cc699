-- What it is for an interpretation to make assertions true, and for none to do so.
use Rattle.std.proofs.Common.{◌≡◌, ℕ, Bool, true, false, List, [], ◌∷◌, ◌⊎◌, ◌↔◌, All, Any, Contains, slice_index_or, Decides, inl, inr, refl}
use Rattle.std.proofs.lemmas.List.Elements.{All-from_recursion, recursion_from_All, All-contains, Contains-get_or}
use Rattle.term_model.specs.declared.symbols.Sort.{Sort}
use Rattle.term_model.specs.Terms.{Term, call, no_terms, not_of}
use Rattle.term_model.specs.Values.{Value, truth, HasSort, value_eq, some_value}
use Rattle.term_model.specs.Interpretations.{Interpretation}
use Rattle.term_model.specs.Meaning.{value}
use Rattle.term_model.specs.Unsatisfiable.{MakesTrue, MakesAllTrue, Unsatisfiable}
use Rattle.term_model.proofs.Tests.{value_eq_decides}
use Rattle.term_model.proofs.Basics.{any_here, any_later}
use Rattle.term_model.proofs.Meanings.{negation_is}

pub all_true_is : (I : Interpretation) (ts : List Term) → MakesAllTrue I ts ↔ All (MakesTrue I []) ts
all_true_is I ts = (All-from_recursion (MakesTrue I []) ts, recursion_from_All (MakesTrue I []) ts)

-- an interpretation makes all true, or fails at some
all_or_any : (I : Interpretation) (ts : List Term) → MakesAllTrue I ts ⊎ Any (λ t. ¬ MakesTrue I [] t) ts
all_or_any I [] = inl tt
all_or_any I (t ∷ ts) = go (value_eq (value I [] t) (truth true)) refl (all_or_any I ts)
  where
    d : Decides (value_eq (value I [] t) (truth true)) (MakesTrue I [] t)
    d = value_eq_decides (value I [] t) (truth true)

    go : (b : Bool) → value_eq (value I [] t) (truth true) ≡ b → MakesAllTrue I ts ⊎ Any (λ u. ¬ MakesTrue I [] u) ts → MakesAllTrue I (t ∷ ts) ⊎ Any (λ u. ¬ MakesTrue I [] u) (t ∷ ts)
    go true e (inl all) = inl (d.0 e, all)
    go true e (inr some) = inr (any_later (λ u. ¬ MakesTrue I [] u) t ts some)
    go false e rest = inr (any_here (λ u. ¬ MakesTrue I [] u) t ts (λ h. let f = d.1 h in absurd cc))

pub unsatisfiable_fails : (ts : List Term) → Unsatisfiable ts → (I : Interpretation) → Any (λ t. ¬ MakesTrue I [] t) ts
unsatisfiable_fails ts none I = go (all_or_any I ts)
  where
    go : MakesAllTrue I ts ⊎ Any (λ t. ¬ MakesTrue I [] t) ts → Any (λ t. ¬ MakesTrue I [] t) ts
    go (inl all) = absurd (none I all)
    go (inr some) = some

contained_true : (I : Interpretation) (ts us : List Term) → ((t : Term) → Contains ts t → Contains us t) → MakesAllTrue I us → MakesAllTrue I ts
contained_true I ts us within all =
    (all_true_is I ts).1 (λ k d below.
    All-contains (MakesTrue I []) us (slice_index_or ts k d) ((all_true_is I us).0 all)
    (within (slice_index_or ts k d) (Contains-get_or ts k d below)))

pub unsatisfiable_more : (ts us : List Term) → Unsatisfiable ts → ((t : Term) → Contains ts t → Contains us t) → Unsatisfiable us
unsatisfiable_more ts us none within I all = none I (contained_true I ts us within all)

pub contradiction : (t : Term) → Unsatisfiable (t ∷ not_of t ∷ [])
contradiction t I all = (negation_is I [] t).0 all.1.0 all.0

-- an interpretation: each function is constant, with this truth value where it has one
value_like : Bool → Sort → Value
value_like b Sort.Bool = truth b
value_like b Sort.Int = some_value Sort.Int
value_like b (Sort.Declared n) = some_value (Sort.Declared n)

value_like_fits : (b : Bool) (s : Sort) → HasSort s (value_like b s)
unfolding value_like
value_like_fits b Sort.Bool = tt
value_like_fits b Sort.Int = tt
value_like_fits b (Sort.Declared n) = tt

constant : Bool → Interpretation
constant b = record {
  table = λ f. record { rows = []; default = value_like b f.target };
  fits = λ f. record { rows = tt; default = value_like_fits b f.target };
}

pub empty_satisfiable : ¬ Unsatisfiable []
empty_satisfiable none = none (constant true) tt

pub constant_satisfiable : (name : List ℕ) → ¬ Unsatisfiable (call (record { name = name; arguments = []; target = Sort.Bool }) no_terms ∷ [])
unfolding constant value_like
constant_satisfiable name none = none (constant true) (refl, tt)

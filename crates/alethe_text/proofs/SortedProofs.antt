-- The terms of a proof that a text stands for are well sorted and no higher than the limit.
use Rattle.std.proofs.Common.{◌≡◌, ◌≤◌, ℕ, true, List, [], ◌∷◌, map, reverse, Option, Some, None, IfSome, Result, Ok, Err, IfOk, refl, subst}
use Rattle.std.proofs.lemmas.Bool.{leb-true}
use Rattle.sexpr.specs.declared.causes.Refusal.{Refusal}
use Rattle.sexpr.specs.Items.{Item}
use Rattle.term_model.specs.Heights.{height}
use Rattle.term_model.specs.Terms.{Var, Term}
use Rattle.rule_model.specs.Proofs.{ProofItems as Proof, no_items, with_assume, with_step, with_subproof}
use Rattle.rule_model.specs.Scopes.{Nesting, outermost, inner, Scope}
use Rattle.rule_model.specs.Visibility.{open_bindings}
use Rattle.problem_text.specs.Forms.{form_of}
use Rattle.problem_text.specs.Limits.{is_low}
use Rattle.problem_text.specs.Names.{itself}
use Rattle.problem_text.specs.Scripts.{Script}
use Rattle.problem_text.specs.Soundness.{IsReadWithin, IsSound, AreBoundSorted}
use Rattle.problem_text.specs.Terms.{read_term}
use Rattle.problem_text.specs.TypedTerms.{Typed}
use Rattle.problem_text.proofs.Readings.{let_name-sound, term-sound}
use Rattle.alethe_text.specs.Anchors.{image_of}
use Rattle.alethe_text.specs.ProofTerms.{place_in, term_in}
use Rattle.alethe_text.specs.ProofTexts.{StandsForProof}
use Rattle.alethe_text.specs.Soundness.{IsFormula, HasSomeSort, IsBinding, AreSorted}
use Rattle.alethe_text.specs.States.{ProofSettings, ProofState}
use Rattle.alethe_text.proofs.Endings.{After, Ends}
use Rattle.alethe_text.proofs.KeptProofs.{BindingsAre, AreOf, text_keeps}
use Rattle.alethe_text.proofs.KeptReadings.{Keeps, TermsAre}

pub themselves_sorted : (bs : List (Var × Term)) → AreBoundSorted (map (λ b. itself b.0) bs)
themselves_sorted [] = tt
themselves_sorted (b ∷ bs) = (refl, themselves_sorted bs)

-- behind a sound script each term that is read is so
module _ (settings : ProofSettings) where
  abbrev IsRead : Typed → Type 0
  IsRead t = IsReadWithin settings.limit t

  term_reads : (P : Scope Var Term → Type 0) (nesting : Nesting Var Term) (i : Item) (s : ProofState) → Keeps IsSound P s
      → Ends (λ t u. IsRead t × Keeps IsSound P u) (term_in settings nesting i s)
  unfolding term_in
  term_reads P nesting i s h = go (read_term i (place_in settings nesting) s.script).result sound.1
    where
      sound : IsSound (read_term i (place_in settings nesting) s.script).state × IfOk (read_term i (place_in settings nesting) s.script).result IsRead
      sound = term-sound (form_of i) (place_in settings nesting) s.script (themselves_sorted (reverse (open_bindings nesting))) h.script

      go : (r : Result Typed Refusal) → IfOk r IsRead
          → After (λ t u. IsRead t × Keeps IsSound P u) r (record s { script = (read_term i (place_in settings nesting) s.script).state })
      go (Ok t) k = (k, record { script = sound.0; scope = h.scope })
      go (Err refusal) k = tt

  sorted_terms : TermsAre settings IsSound (λ _ t. IsRead t) (λ _ t. IsFormula settings.limit t) (λ _ t. HasSomeSort settings.limit t)
  sorted_terms = record {
    reads = term_reads;
    formula = λ nesting t bool h. subst (λ sort. IsRead (record { tree = t.tree; sort = sort })) bool h;
    pivot = λ nesting t h. record { sort = t.sort; read = h };
  }

  low_within : (limit : Option ℕ) (h : ℕ) → is_low limit h ≡ true → IfSome limit (λ most. h ≤ most)
  low_within None h e = tt
  low_within (Some most) h e = leb-true h most e

  sorted_bindings : BindingsAre settings IsSound (λ _ t. IsRead t) (IsBinding settings.limit)
  sorted_bindings = record {
    binding = λ nesting name t h low. record { term = h; image = low_within settings.limit (height (image_of nesting t.tree)) low };
    name_added = let_name-sound;
    term_added = λ t s h. record { named = h.named; macros = h.macros; assertions = h.assertions };
  }

module _ (limit : Option ℕ) where
  are_sorted : (nesting : Nesting Var Term) (items : Proof Var Term)
      → AreOf (λ _ t. IsFormula limit t) (λ _ t. HasSomeSort limit t) (IsBinding limit) nesting items → AreSorted limit nesting items
  are_sorted nesting no_items h = tt
  are_sorted nesting (with_assume items id t) h = (are_sorted nesting items h.0, h.1)
  are_sorted nesting (with_step items s) h = (are_sorted nesting items h.0, record { clause = h.1.clause; pivots = h.1.pivots })
  are_sorted nesting (with_subproof items bindings proof s) h = (
    are_sorted nesting items h.0,
    h.1,
    are_sorted (inner nesting items bindings s) proof h.2,
    record { clause = h.3.clause; pivots = h.3.pivots },
  )

-- what a text stands for behind a sound script is well sorted
pub text_sorted : (source : List ℕ) (settings : ProofSettings) (before : Script) (proof : Proof Var Term) (after : Script) → IsSound before
    → StandsForProof source settings before proof after → AreSorted settings.limit outermost proof × IsSound after
text_sorted source settings before proof after sound h =
    let both = text_keeps (sorted_terms settings) (sorted_bindings settings) sound h in
    (are_sorted settings.limit outermost proof both.0, both.1)

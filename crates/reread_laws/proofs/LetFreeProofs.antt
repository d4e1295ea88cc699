-- A proof that was read with lets replaced has no let in its terms, and no image of its anchors has one.
use Rattle.std.proofs.Common.{◌≡◌, ◌≤◌, ℕ, Bool, true, List, [], ◌∷◌, map, reverse, length, IfSome, find, Result, Ok, Err, IfOk, bytes_eq, arith}
use Rattle.std.specs.List.{AllByRecursion}
use Rattle.sexpr.specs.declared.causes.Refusal.{Refusal}
use Rattle.sexpr.specs.Items.{Item}
use Rattle.term_model.specs.Terms.{Var, Term, numeral, variable, operation, call, let_in, Terms, no_terms, term}
use Rattle.term_model.proofs.Lists.{all_joined}
use Rattle.rule_model.specs.Contexts.{put_in_each, images}
use Rattle.rule_model.specs.Judged.{open_anchors}
use Rattle.rule_model.specs.Proofs.{ProofItems, no_items, with_assume, with_step, with_subproof}
use Rattle.rule_model.specs.Replacement.{Replacement, HasNoLet, HaveNoLet}
use Rattle.rule_model.specs.Scopes.{Nesting, outermost, inner, Scope}
use Rattle.rule_model.specs.Substitution.{put_in, put_in_all}
use Rattle.rule_model.specs.Visibility.{open_bindings}
use Rattle.rule_model.proofs.Replacing.{AreLetFree, term_at-let_free}
use Rattle.problem_text.specs.Forms.{form_of}
use Rattle.problem_text.specs.Names.{itself}
use Rattle.problem_text.specs.Scripts.{Script}
use Rattle.problem_text.specs.Terms.{read_term}
use Rattle.problem_text.specs.TypedTerms.{Typed}
use Rattle.problem_text.proofs.LetFreeTerms.{term-free}
use Rattle.problem_text.proofs.Outcomes.{if_found}
use Rattle.alethe_text.specs.ProofTerms.{place_in, term_in}
use Rattle.alethe_text.specs.ProofTexts.{StandsForProof}
use Rattle.alethe_text.specs.States.{ProofSettings, ProofState}
use Rattle.alethe_text.proofs.Endings.{After, Ends}
use Rattle.alethe_text.proofs.KeptProofs.{BindingsAre, AreOf, text_keeps}
use Rattle.alethe_text.proofs.KeptReadings.{Keeps, TermsAre}
use Rattle.printed_proofs.specs.PrintedProof.{behind_items}
use Rattle.printed_proofs.specs.Shared.{Plan}
use Rattle.pruned_proofs.specs.Pruned.{pruned}
use Rattle.reread_laws.specs.Since.{ReadsNoLet}
use Rattle.reread_laws.proofs.BehindPrinted.{AreAll, IsDeep, StaysGood, HasImageTo, HoldsIn, items_good}
use Rattle.reread_laws.proofs.KeptTerms.{terms_kept}
use Rattle.reread_laws.proofs.SinceTerms.{AreSince, IsSince, one_longer, one_more_since, none_since}

-- what is put into a term without lets has none either
mutual
  put_in_free : (t : Term) (r : Replacement) → AreLetFree r → HasNoLet t → HasNoLet (put_in r t)
  put_in_free (numeral n) r free h = tt
  put_in_free (variable x) r free h = term_at-let_free r x free
  put_in_free (operation op ts) r free h = put_in_all_free ts r free h
  put_in_free (call f ts) r free h = put_in_all_free ts r free h
  put_in_free (let_in bs t) r free h = absurd h

  put_in_all_free : (ts : Terms) (r : Replacement) → AreLetFree r → HaveNoLet ts → HaveNoLet (put_in_all r ts)
  put_in_all_free no_terms r free h = tt
  put_in_all_free (term t ts) r free h = (put_in_free t r free h.0, put_in_all_free ts r free h.1)

each_free : (anchor r : Replacement) → AreLetFree r → AreLetFree anchor → AreLetFree (put_in_each r anchor)
each_free [] r free h = tt
each_free (b ∷ anchor) r free h = (put_in_free b.1 r free h.0, each_free anchor r free h.1)

abbrev AreAnchorsFree : List Replacement → Type 0
AreAnchorsFree anchors = AllByRecursion AreLetFree anchors

images_free : (anchors : List Replacement) → AreAnchorsFree anchors → AreLetFree (images anchors)
images_free [] h = tt
images_free (anchor ∷ outer) h =
    let free = images_free outer h.1 in
    all_joined (λ b. HasNoLet b.1) (put_in_each (images outer) anchor) (images outer) (each_free anchor (images outer) free h.0) free

-- with their images
with_images : (nesting : Nesting Var Term) (bs : List (Var × Term)) → AreAnchorsFree (open_anchors nesting) → AllByRecursion (λ b. HasNoLet b.1) bs
    → AllByRecursion (HasImageTo HasNoLet nesting) bs
with_images nesting [] free h = tt
with_images nesting (b ∷ bs) free h =
    ((h.0, put_in_free b.1 (images (open_anchors nesting)) (images_free (open_anchors nesting) free) h.0), with_images nesting bs free h.1)

abbrev AreFreeIn : Nesting Var Term → ProofItems Var Term → Type 0
AreFreeIn nesting items = AreOf (λ _ t. HasNoLet t) (λ _ t. HasNoLet t) (λ _ b. HasNoLet b.1) nesting items

all_with_images : (nesting : Nesting Var Term) (items : ProofItems Var Term) → AreAnchorsFree (open_anchors nesting) → AreFreeIn nesting items
    → HoldsIn HasNoLet nesting items
all_with_images nesting no_items free h = tt
all_with_images nesting (with_assume items id t) free h = (all_with_images nesting items free h.0, h.1)
all_with_images nesting (with_step items step) free h =
    (all_with_images nesting items free h.0, record { clause = h.1.clause; pivots = h.1.pivots })
all_with_images nesting (with_subproof items bindings proof step) free h = (
  all_with_images nesting items free h.0,
  with_images nesting bindings free h.1,
  all_with_images (inner nesting items bindings step) proof (h.1, free) h.2,
  record { clause = h.3.clause; pivots = h.3.pivots },
)

-- no body of a macro has a let
abbrev ArePlainMacros : Script → Type 0
ArePlainMacros s = AllByRecursion (λ m. HasNoLet m.body) s.macros

plain_found : (s : Script) (name : List ℕ) → ArePlainMacros s → IfSome (find (λ m. bytes_eq m.name name) s.macros) (λ m. HasNoLet m.body)
plain_found s name plain = if_found (λ m. HasNoLet m.body) (λ m. bytes_eq m.name name) s.macros plain

themselves_free : (bs : List (Var × Term)) → AllByRecursion (λ b. HasNoLet b.stands_for) (map (λ b. itself b.0) bs)
themselves_free [] = tt
themselves_free (b ∷ bs) = (tt, themselves_free bs)

-- each term that is read with lets replaced
module _ (settings : ProofSettings) (replaced : settings.replaces_lets ≡ true) where
  term_reads : (P : Scope Var Term → Type 0) (nesting : Nesting Var Term) (i : Item) (s : ProofState) → Keeps ArePlainMacros P s
      → Ends (λ t u. HasNoLet t.tree × Keeps ArePlainMacros P u) (term_in settings nesting i s)
  unfolding term_in
  term_reads P nesting i s h = go (read_term i (place_in settings nesting) s.script).result free.1
    where
      free : ArePlainMacros (read_term i (place_in settings nesting) s.script).state
          × IfOk (read_term i (place_in settings nesting) s.script).result (λ t. settings.replaces_lets ≡ true → HasNoLet t.tree)
      free = term-free ArePlainMacros plain_found (λ t s h. h) (λ n s h. h) (λ name s h. h) (form_of i) (place_in settings nesting) s.script
          (λ _. themselves_free (reverse (open_bindings nesting))) h.script

      go : (r : Result Typed Refusal) → IfOk r (λ t. settings.replaces_lets ≡ true → HasNoLet t.tree)
          → After (λ t u. HasNoLet t.tree × Keeps ArePlainMacros P u) r
          (record s { script = (read_term i (place_in settings nesting) s.script).state })
      go (Ok t) k = (k replaced, record { script = free.0; scope = h.scope })
      go (Err refusal) k = tt

  free_terms : TermsAre settings ArePlainMacros (λ _ t. HasNoLet t.tree) (λ _ t. HasNoLet t) (λ _ t. HasNoLet t)
  free_terms = record { reads = term_reads; formula = λ nesting t bool h. h; pivot = λ nesting t h. h }

  free_bindings : BindingsAre settings ArePlainMacros (λ _ t. HasNoLet t.tree) (λ _ b. HasNoLet b.1)
  free_bindings = record { binding = λ nesting name t h low. h; name_added = λ name s h. h; term_added = λ t s h. h }

  text_free : (source : List ℕ) (before : Script) (proof : ProofItems Var Term) (after : Script) → ArePlainMacros before
      → StandsForProof source settings before proof after → HoldsIn HasNoLet outermost proof
  text_free source before proof after plain h = all_with_images outermost proof tt (text_keeps free_terms free_bindings plain h).0

-- what is read of its printed text
all_in : (ts : Terms) → HaveNoLet ts → AreAll HasNoLet ts
all_in no_terms h = tt
all_in (term t ts) h = (h.0, all_in ts h.1)

deep : IsDeep HasNoLet
deep = record { operation = λ op ts h. all_in ts h; call = λ f ts h. all_in ts h; let_in = λ bs t h. absurd h }

module _ (n : ℕ) where
  abbrev IsGood : Script → Type 0
  IsGood s = IsSince HasNoLet n s.terms × AreSince HasNoLet n s.terms

  stays : StaysGood HasNoLet IsGood
  stays = record {
    term = λ t s is h. (one_longer HasNoLet n s.terms t h.0, one_more_since HasNoLet n s.terms t h.0 is h.1);
    named = λ m s h. h;
    let_name = λ name s h. h;
  }

pub pruned_free : (plan : Plan) (marks : List Bool) (source : List ℕ) (settings : ProofSettings) (before : Script) (proof : ProofItems Var Term)
    (after : Script) → settings.replaces_lets ≡ true → ArePlainMacros before → StandsForProof source settings before proof after
    → ReadsNoLet before (behind_items plan before outermost (pruned marks proof))
pruned_free plan marks source settings before proof after replaced plain h =
    let n : ℕ = length before.terms in
    let same : n ≤ n = omega arith in
    (items_good plan HasNoLet deep (IsGood n) (stays n) outermost (pruned marks proof) before
    (terms_kept HasNoLet marks outermost proof (text_free settings replaced source before proof after plain h))
    (same, none_since HasNoLet n before.terms same)).1

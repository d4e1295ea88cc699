-- Private. A reply over references stands for one over terms.
use Rattle.std.proofs.Common.{◌≡◌, ℕ, zero, suc, List, [], ◌∷◌, length, slice_get, refl, ap, ◌∙◌, subst, arith}
use Rattle.std.specs.List.{AllByRecursion, AllZip}
use Rattle.std.specs.Option.{option_map_or}
use Rattle.std.proofs.lemmas.Option.{slice_get_past}
use Rattle.sym_table.specs.Table.{Table}
use Rattle.term_model.specs.Terms.{Var, Term}
use Rattle.term_pool.specs.Views.{TermsView, RefersTo, IsTerm}
use Rattle.rule_model.specs.Commands.{ScopeEntry, scopes_in}
use Rattle.rule_model.specs.Proofs.{ProofItems, no_items, with_assume, with_step}
use Rattle.rule_model.specs.Reading.{bindings_at}
use Rattle.rule_model.specs.RuleNames.{word_of}
use Rattle.rule_model.specs.Scopes.{outermost, commands_in}
use Rattle.proof_store.specs.Meaning.{StandForItems, no_items_stand, assume_stands, step_stands, AreOfTerms}
use Rattle.printed_proofs.specs.Numbered.{printed_id}
use Rattle.accepted_replies.specs.Replies.{Inference, assumed_behind, assumes_behind, inferring, resolving, reply_of}
use Rattle.accepted_replies.specs.Texts.{StandsForInference}

-- a reply opens no scope
no_scopes : {V T : Type 0} (items : ProofItems V T) (ts : List T) → scopes_in outermost items ≡ [] → scopes_in outermost (assumes_behind items ts) ≡ []
no_scopes items [] e = e
no_scopes items (t ∷ ts) e = no_scopes (assumed_behind items t) ts e

pub binds_nothing : (V : Type 0) {T : Type 0} (assumed : List T) (x : Inference T) (k : ℕ) → bindings_at (reply_of {V = V} assumed x) k ≡ []
binds_nothing V assumed x zero = refl
binds_nothing V {T} assumed x (suc k) =
    ap (λ es. option_map_or (λ (e : ScopeEntry V T). e.bindings) (slice_get es k) []) (no_scopes {V = V} no_items assumed refl)
    ∙ ap (λ o. option_map_or (λ (e : ScopeEntry V T). e.bindings) o []) (slice_get_past [] k (omega arith))

module _ (s : Table) (v : TermsView) where
  assumes_stand : (is : ProofItems ℕ ℕ) (ps : ProofItems Var Term) → commands_in is ≡ commands_in ps → StandForItems s v is ps → (rs : List ℕ) (ts : List Term)
      → AllZip (RefersTo s v) rs ts → StandForItems s v (assumes_behind is rs) (assumes_behind ps ts)
  assumes_stand is ps e h [] [] z = h
  assumes_stand is ps e h [] (t ∷ ts) z = absurd z
  assumes_stand is ps e h (r ∷ rs) [] z = absurd z
  assumes_stand is ps e h (r ∷ rs) (t ∷ ts) z =
      assumes_stand (assumed_behind is r) (assumed_behind ps t) (ap suc e)
      (subst (λ n. StandForItems s v (assumed_behind is r) (with_assume ps (printed_id n) t)) e
      (assume_stands is ps (printed_id (commands_in is)) r t h z.0)) rs ts z.1

  pub as_many : (rs : List ℕ) (ts : List Term) → AllZip (RefersTo s v) rs ts → length rs ≡ length ts
  as_many [] [] z = refl
  as_many [] (t ∷ ts) z = absurd z
  as_many (r ∷ rs) [] z = absurd z
  as_many (r ∷ rs) (t ∷ ts) z = ap suc (as_many rs ts z.1)

  pub reply_stands : (rs : List ℕ) (ts : List Term) (x : Inference ℕ) (y : Inference Term) → AllZip (RefersTo s v) rs ts → StandsForInference s v x y
      → StandForItems s v (reply_of rs x) (reply_of ts y)
  reply_stands rs ts x y z h =
      let same = as_many rs ts z in
      subst (λ n. StandForItems s v (reply_of rs x) (with_step (with_step (assumes_behind no_items ts) (inferring n y)) (resolving n))) same
      (step_stands _ _ (resolving (length rs)) (resolving (length rs))
      (step_stands _ _ (inferring (length rs) x) (inferring (length rs) y) (assumes_stand no_items no_items refl no_items_stand rs ts z)
      (record {
        id = refl;
        rule = h.rule;
        rule_name = ap word_of h.rule;
        clause = h.clause;
        premises = refl;
        discharged = refl;
        pivots = tt;
        ratios = h.ratios;
      }))
      (record { id = refl; rule = refl; rule_name = refl; clause = tt; premises = refl; discharged = refl; pivots = tt; ratios = refl }))

  assumes_of_terms : (is : ProofItems ℕ ℕ) (rs : List ℕ) → AreOfTerms s v is → AllByRecursion (IsTerm s v) rs → AreOfTerms s v (assumes_behind is rs)
  assumes_of_terms is [] h terms = h
  assumes_of_terms is (r ∷ rs) h terms = assumes_of_terms (assumed_behind is r) rs (h, terms.0) terms.1

  pub reply_of_terms : (rs : List ℕ) (x : Inference ℕ) → AllByRecursion (IsTerm s v) rs → AllByRecursion (IsTerm s v) x.clause → AreOfTerms s v (reply_of rs x)
  reply_of_terms rs x assumed clause = (
    (assumes_of_terms no_items rs tt assumed, record { clause = clause; pivots = tt }),
    record { clause = tt; pivots = tt },
  )
